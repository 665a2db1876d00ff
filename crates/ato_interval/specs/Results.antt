-- The results of an operation over all values of intervals.
use Rattle.ato_rational.specs.Rational.{ℚ, ◌≈ℚ◌}
use Rattle.ato_interval.specs.Ends.{Ends, Holds}

-- r holds the result for each value of a and each value of b
abbrev pub HoldsResults : {Q : Type 0} → (Q → ℚ) → (ℚ → ℚ → ℚ) → Ends Q → Ends Q → Ends Q → Type 0
HoldsResults value f a b r = (x y : ℚ) → Holds value a x → Holds value b y → Holds value r (f x y)

-- z is the result for some value of a and some value of b
pub record IsResult {Q : Type 0} (value : Q → ℚ) (f : ℚ → ℚ → ℚ) (a b : Ends Q) (z : ℚ) : Type 0 where
  pub left : ℚ
  pub right : ℚ
  pub left_in : Holds value a left
  pub right_in : Holds value b right
  pub same : z ≈ℚ f left right

-- r holds the result for each value of a
abbrev pub HoldsImage : {Q : Type 0} → (Q → ℚ) → (ℚ → ℚ) → Ends Q → Ends Q → Type 0
HoldsImage value f a r = (x : ℚ) → Holds value a x → Holds value r (f x)

-- z is the result for some value of a
pub record IsImage {Q : Type 0} (value : Q → ℚ) (f : ℚ → ℚ) (a : Ends Q) (z : ℚ) : Type 0 where
  pub argument : ℚ
  pub argument_in : Holds value a argument
  pub same : z ≈ℚ f argument
