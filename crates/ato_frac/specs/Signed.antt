-- Whole numbers by their size and their sign.
use Rattle.std.specs.Prelude.{ℕ, ℤ, pos, neg_ℤ, Bool, if◌then◌else◌}

-- a size with a sign
abbrev pub signed_of : Bool → ℕ → ℤ
signed_of negative n = if negative then neg_ℤ (pos n) else pos n
