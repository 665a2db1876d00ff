-- The interval of a function that falls up to 0, is 0 there and rises from there.
use Rattle.std.specs.Prelude.{◌≡◌, ◌⊎◌}
use Rattle.ato_rational.specs.Rational.{ℚ, ◌≈ℚ◌, ◌≤ℚ◌, zero_ℚ}
use Rattle.ato_interval.specs.Ends.{Ends}

-- r has the function's values low and high at the ends, in the order in which they stand, and begins at 0 where 0 is inside
pub data IsFolded {Q : Type 0} (value : Q → ℚ) (ends : Ends Q) (low high : Q) (r : Ends Q) : Type 0 where
  rising : zero_ℚ ≤ℚ value ends.low → r.low ≡ low → r.high ≡ high → IsFolded value ends low high r
  falling : value ends.high ≤ℚ zero_ℚ → r.low ≡ high → r.high ≡ low → IsFolded value ends low high r
  around : value ends.low ≤ℚ zero_ℚ → zero_ℚ ≤ℚ value ends.high → value r.low ≈ℚ zero_ℚ → value low ≤ℚ value r.high → value high ≤ℚ value r.high → (r.high ≡ low) ⊎ (r.high ≡ high) → IsFolded value ends low high r
