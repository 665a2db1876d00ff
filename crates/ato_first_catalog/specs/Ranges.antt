-- What the cell of an attribute says, in whole numbers.
use Rattle.std.specs.Prelude.{ℕ, ◌+◌, ◌*◌, ◌-◌, ◌==◌, ◌&&◌, List, Option, Some, None, if◌then◌else◌, nat_eq, nat_le, length, fold, take, drop, codes, option_and_then}
use Rattle.std.specs.Char.{is_ascii_digit}
use Rattle.std.specs.List.{list_all, prefix_len, starts_with}

-- the number that digits write
abbrev pub digits_value : List ℕ → ℕ
digits_value digits = fold (λ value digit. value * 10 + (digit - 48)) 0 digits

-- the number of 1 to 18 digits
unfoldable pub number_of : List ℕ → Option ℕ
number_of text =
    if nat_le 1 (length text) && nat_le (length text) 18 && list_all is_ascii_digit text then Some (digits_value text)
    else None

-- the range from one number to another that is not below it
abbrev pub between : ℕ → ℕ → Option (ℕ × ℕ)
between low high = if nat_le low high then Some (low, high) else None

-- the range from a number on, by what stands behind its digits: nothing, or ` to ` and the second number
unfoldable pub up_to : ℕ → List ℕ → Option (ℕ × ℕ)
up_to low rest =
    if length rest == 0 then Some (low, low)
    else if starts_with nat_eq rest (codes " to ") then option_and_then (between low) (number_of (drop 4 rest))
    else None

-- the range that a cell writes, as its two ends: one number, or two with ` to ` between them
unfoldable pub range_of : List ℕ → Option (ℕ × ℕ)
range_of cell =
    let split = prefix_len is_ascii_digit cell in
    option_and_then (λ low. up_to low (drop split cell)) (number_of (take split cell))
