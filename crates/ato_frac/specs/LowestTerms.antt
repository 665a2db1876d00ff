-- Lowest terms of a quotient of two whole numbers.
use Rattle.std.specs.Prelude.{◌≡◌, ℕ, ◌<◌, ◌^◌, ℤ, pos, ◌*ℤ◌, unsigned_abs}
use Rattle.std.specs.Int.{IsGcd}

-- n / d has lowest terms, and both parts of these are below 2^127 in size
pub record HasSmallTerms (n d : ℤ) : Type 0 where
  pub num : ℤ
  pub den : ℕ
  pub same : num *ℤ d ≡ n *ℤ pos den
  pub positive : 0 < den
  pub lowest : IsGcd (unsigned_abs num) den 1
  pub num_small : unsigned_abs num < 2 ^ 127
  pub den_small : den < 2 ^ 127
