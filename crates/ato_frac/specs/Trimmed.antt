-- A whole number without the zeros at its end.
use Rattle.std.specs.Prelude.{◌≡◌, ◌≢◌, ◌⊎◌, ℕ, ◌*◌, ◌%◌, ◌^◌, ◌≤◌}

-- n is m and so many zeros, with m no multiple of 10; 0 is 0 with none
pub record IsTrimmed (n m zeros : ℕ) : Type 0 where
  pub same : n ≡ m * 10 ^ zeros
  pub no_multiple : (m % 10 ≢ 0) ⊎ ((m ≡ 0) × (zeros ≡ 0))

-- n without its zeros is 2^127 or more
pub record IsTooLong (n : ℕ) : Type 0 where
  pub m : ℕ
  pub zeros : ℕ
  pub trimmed : IsTrimmed n m zeros
  pub large : 2 ^ 127 ≤ m
