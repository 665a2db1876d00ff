-- What the cell of a price says.
use Rattle.std.specs.Prelude.{ℕ, ◌+◌, ◌*◌, ◌-◌, ◌^◌, ◌==◌, ◌&&◌, List, Option, Some, None, if◌then◌else◌, nat_lt, length, fold, option_map}
use Rattle.std.specs.Char.{is_ascii_digit}
use Rattle.std.specs.List.{list_all}
use Rattle.ato_frac.specs.declared.coin.Coin.{Coin}

-- the number that digits write
abbrev pub digits_value : List ℕ → ℕ
digits_value digits = fold (λ value digit. value * 10 + (digit - 48)) 0 digits

-- the number that a text of digits writes, where it is below 2^64
unfoldable pub number_of : List ℕ → Option ℕ
number_of text = if list_all is_ascii_digit text && nat_lt (digits_value text) (2 ^ 64) then Some (digits_value text) else None

-- the number of some digits and one more, where it is one and the number is below 2^64
abbrev pub next_value : ℕ → ℕ → Option ℕ
next_value value digit =
    if is_ascii_digit digit && nat_lt (value * 10 + (digit - 48)) (2 ^ 64) then Some (value * 10 + (digit - 48)) else None

-- a number of coins
abbrev pub coin : ℕ → Coin
coin number = record { 0 = number }

-- the price of a cell: the number that one or more digits write, where it is below 2^64
unfoldable pub price_of : List ℕ → Option Coin
price_of cell = if length cell == 0 then None else option_map coin (number_of cell)
