-- Intervals of one point.
use Rattle.std.specs.Prelude.{◌≡◌}
use Rattle.ato_rational.specs.Rational.{ℚ, ◌≈ℚ◌, zero_ℚ}
use Rattle.ato_interval.specs.Ends.{Ends}
use Rattle.ato_interval.specs.Results.{HoldsResults, IsResult, HoldsImage, IsImage}

-- the interval of one number
abbrev pub point : {Q : Type 0} → Q → Ends Q
point x = record { low = x; high = x }

-- the interval has one value
abbrev pub IsPoint : {Q : Type 0} → (Q → ℚ) → Ends Q → Type 0
IsPoint value a = value a.low ≈ℚ value a.high

-- the interval has the value 0 and no other
abbrev pub IsOnlyZero : {Q : Type 0} → (Q → ℚ) → Ends Q → Type 0
IsOnlyZero value a = (value a.low ≈ℚ zero_ℚ) × (value a.high ≈ℚ zero_ℚ)

-- over the points x and y an operation's interval is one point, and its value is the operation's
abbrev pub IsExactOn : {Q : Type 0} → (Q → ℚ) → (ℚ → ℚ → ℚ) → Q → Q → Type 0
IsExactOn {Q} value f x y =
    (r : Ends Q) → HoldsResults value f (point x) (point y) r → IsResult value f (point x) (point y) (value r.low)
    → IsResult value f (point x) (point y) (value r.high) → (r.low ≡ r.high) × (value r.low ≈ℚ f (value x) (value y))

-- the same of an operation of one
abbrev pub IsExactAt : {Q : Type 0} → (Q → ℚ) → (ℚ → ℚ) → Q → Type 0
IsExactAt {Q} value f x =
    (r : Ends Q) → HoldsImage value f (point x) r → IsImage value f (point x) (value r.low)
    → IsImage value f (point x) (value r.high) → (r.low ≡ r.high) × (value r.low ≈ℚ f (value x))
