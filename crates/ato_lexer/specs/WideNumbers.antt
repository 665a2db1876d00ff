-- Which numbers are wide: numbers of the grammar that are out of the range in which their text is read, as a test that computes.
use Rattle.std.specs.Prelude.{ℕ, ◌+◌, ◌-◌, ◌*◌, ◌^◌, ◌==◌, ◌&&◌, ◌||◌, nat_le, Bool, true, false, if◌then◌else◌, List, ◌++◌, length, take, Option, Some, None}
use Rattle.std.specs.List.{suffix_len}
use Rattle.ato_frac.specs.Numbers.{Parts, digits_value}
use Rattle.ato_frac.specs.Reading.{read_number}

-- how many zeros stand at the end of digits
abbrev pub end_zeros : List ℕ → ℕ
end_zeros digits = suffix_len (λ c. c == 48) digits

-- the value of digits without the zeros at their end
abbrev pub significand : List ℕ → ℕ
significand digits = digits_value (take (length digits - end_zeros digits) digits)

-- how far the point moves to the right: over the zeros at the end, and by an exponent that is not below 0
abbrev pub up : Parts → ℕ
up parts = end_zeros (parts.whole ++ parts.fraction) + (if parts.negative then 0 else digits_value parts.exponent)

-- how far the point moves to the left: over the digits behind it, and by an exponent below 0
abbrev pub down : Parts → ℕ
down parts = length parts.fraction + (if parts.negative then digits_value parts.exponent else 0)

-- m · 10^(up - down), where m is no multiple of 10 or 0, is out of range: m or the number itself is not below 2^127, or up - down is
-- not from -38 to 38
abbrev pub is_beyond : ℕ → ℕ → ℕ → Bool
is_beyond m up down =
    if m == 0 then false
    else (if nat_le up (down + 38) && nat_le down (up + 38) then nat_le (2 ^ 127) m || nat_le (2 ^ 127) (m * 10 ^ (up - down)) else true)

-- the number with these parts is wide; what is no number is not
abbrev pub parts_wide : Option Parts → Bool
parts_wide None = false
parts_wide (Some parts) = is_beyond (significand (parts.whole ++ parts.fraction)) (up parts) (down parts)

-- the text is a number that is wide
unfoldable pub is_wide : List ℕ → Bool
is_wide text = parts_wide (read_number text)
