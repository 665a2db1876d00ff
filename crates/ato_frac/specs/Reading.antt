-- Numbers read from left to right: the grammar of specs/Numbers.antt as functions that compute.
use Rattle.std.specs.Prelude.{ℕ, ◌==◌, ◌&&◌, ◌||◌, nat_le, Bool, true, false, if◌then◌else◌, List, [], ◌∷◌, length, drop, Option, Some, None, option_map, option_and_then}
use Rattle.std.specs.List.{list_all, take_while, prefix_len}
use Rattle.std.specs.Char.{is_ascii_digit}
use Rattle.ato_frac.specs.Numbers.{Parts}

-- the digits at the front of a text, if there are any, and what follows
abbrev pub front_digits : List ℕ → Option (List ℕ × List ℕ)
front_digits text =
    if prefix_len is_ascii_digit text == 0
    then None
    else Some (take_while is_ascii_digit text, drop (prefix_len is_ascii_digit text) text)

-- the digits of a fraction, and what follows
abbrev pub front_fraction : List ℕ → Option (List ℕ × List ℕ)
front_fraction [] = Some ([], [])
front_fraction (b ∷ bs) = if b == 46 then front_digits bs else Some ([], b ∷ bs)

-- whether a text is one or more digits
abbrev pub are_digits : List ℕ → Bool
are_digits text = nat_le 1 (length text) && list_all is_ascii_digit text

-- a text of digits alone
abbrev pub all_digits : Bool → List ℕ → Option (Bool × List ℕ)
all_digits negative text = if are_digits text then Some (negative, text) else None

abbrev pub signed_digits : List ℕ → Option (Bool × List ℕ)
signed_digits [] = None
signed_digits (b ∷ bs) = if b == 43 then all_digits false bs else (if b == 45 then all_digits true bs else all_digits false (b ∷ bs))

abbrev pub exponent_digits : List ℕ → Option (Bool × List ℕ)
exponent_digits [] = Some (false, [])
exponent_digits (b ∷ bs) = if b == 101 || b == 69 then signed_digits bs else None

abbrev pub parts_after : List ℕ → List ℕ × List ℕ → Option Parts
parts_after whole f =
    option_map (λ e. record { whole = whole; fraction = f.0; negative = e.0; exponent = e.1 }) (exponent_digits f.1)

-- the parts of a number
abbrev pub read_number : List ℕ → Option Parts
read_number text = option_and_then (λ w. option_and_then (parts_after w.0) (front_fraction w.1)) (front_digits text)
