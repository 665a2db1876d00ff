-- What nodes come to in fractions at a point, where each operation is exact or refused.
use Rattle.std.specs.Prelude.{◌≡◌, ℕ, List, [], ◌∷◌, Some, slice_get}
use Rattle.ato_rational.specs.Rational.{ℚ, ◌≈ℚ◌, ◌+ℚ◌, ◌*ℚ◌, ◌/ℚ◌, neg_ℚ, min_ℚ, max_ℚ, abs_ℚ, power_ℚ, IsNotZero}
use Rattle.ato_frac.specs.declared.faults.NumFault.{NumFault}
use Rattle.ato_frac.specs.declared.faults.NumFault.TheVariants as faults
use Rattle.ato_frac.specs.declared.fraction.Frac.{Frac}
use Rattle.ato_frac.specs.Faults.{RefusesQuotient}
use Rattle.ato_frac.specs.Fractions.{value_of, CanAdd, CanSubtract, CanMultiply, CanDivide}
use Rattle.ato_frac.specs.Powers.{CanTurn, CanRaise, CannotRaise}
use Rattle.ato_expr.specs.declared.ops.Op.{Op}
use Rattle.ato_expr.specs.declared.ops.Op.TheVariants as ops
use Rattle.ato_expr.specs.declared.point.Point.{Point}
use Rattle.ato_expr.specs.declared.point.Point.TheVariants as points
use Rattle.ato_expr.specs.Chains.{Chains, ChainStops}
use Rattle.ato_expr.specs.Labels.{HasLabel, StopsFor}
use Rattle.ato_expr.specs.Tables.{Entry}
use Rattle.ato_expr.specs.Values.{HasValue}

-- a fraction of the exact result
abbrev pub IsResult : (ℚ → ℚ → ℚ) → Frac → Frac → Frac → Type 0
IsResult f x y r = value_of r ≈ℚ f (value_of x) (value_of y)

-- the sum of two fractions, where it is there
abbrev pub IsSum : Frac → Frac → Frac → Type 0
IsSum x y r = CanAdd x y × IsResult ◌+ℚ◌ x y r

-- the fraction of an operation over fractions
abbrev pub GivesFraction : List Frac → Op → List Frac → Frac → Type 0
GivesFraction world (ops.Var v) [] r = slice_get world v ≡ Some r
GivesFraction world (ops.Const q) [] r = r ≡ q
GivesFraction world ops.Sum (x ∷ ys) r = Chains IsSum x ys r
GivesFraction world ops.Neg (x ∷ []) r = value_of r ≈ℚ neg_ℚ (value_of x)
GivesFraction world ops.Product (x ∷ y ∷ []) r = CanMultiply x y × IsResult ◌*ℚ◌ x y r
GivesFraction world ops.Quotient (x ∷ y ∷ []) r = IsNotZero (value_of y) × CanDivide x y × IsResult ◌/ℚ◌ x y r
GivesFraction world (ops.Power k) (x ∷ []) r = CanRaise value_of CanMultiply x k × (value_of r ≈ℚ power_ℚ (value_of x) k)
GivesFraction world ops.Min (x ∷ ys) r = Chains (IsResult min_ℚ) x ys r
GivesFraction world ops.Max (x ∷ ys) r = Chains (IsResult max_ℚ) x ys r
GivesFraction world ops.Abs (x ∷ []) r = CanTurn value_of CanSubtract x × (value_of r ≈ℚ abs_ℚ (value_of x))
GivesFraction world op xs r = ⊥

-- why an operation over fractions gives none: a divisor is 0, or a result is out of range
abbrev pub RefusesFraction : Op → List Frac → NumFault → Type 0
RefusesFraction ops.Sum (x ∷ ys) faults.Wide = ChainStops IsSum (λ y z. ¬ CanAdd y z) x ys
RefusesFraction ops.Product (x ∷ y ∷ []) faults.Wide = ¬ CanMultiply x y
RefusesFraction ops.Quotient (x ∷ y ∷ []) fault = RefusesQuotient (value_of y) (¬ CanDivide x y) fault
RefusesFraction (ops.Power k) (x ∷ []) faults.Wide = CannotRaise value_of CanMultiply x k
RefusesFraction ops.Abs (x ∷ []) faults.Wide = ¬ CanTurn value_of CanSubtract x
RefusesFraction op xs fault = ⊥

-- what a node comes to where the first one below it without a value is refused for a fault
abbrev pub refused_point : NumFault → Point
refused_point faults.ByZero = points.Undefined
refused_point faults.Wide = points.Wide

-- what a node comes to: a value, or why the first node below it that has none has none
abbrev pub ComesTo : List Entry → List Frac → ℕ → Point → Type 0
ComesTo table world root (points.Value x) = HasLabel (GivesFraction world) table root x
ComesTo table world root points.Undefined = StopsFor (GivesFraction world) RefusesFraction table (root ∷ []) faults.ByZero
ComesTo table world root points.Wide = StopsFor (GivesFraction world) RefusesFraction table (root ∷ []) faults.Wide

-- a point at which the variables have the values of the fractions
abbrev pub IsWorld : List Frac → (ℕ → ℚ) → Type 0
IsWorld world point = (v : ℕ) (x : Frac) → slice_get world v ≡ Some x → value_of x ≈ℚ point v

-- what that says of the node's value at such a point: it is this one, or there is none
abbrev pub IsRight : List Entry → (ℕ → ℚ) → ℕ → Point → Type 0
IsRight table point root (points.Value f) = (x : ℚ) × HasValue table point root x × (value_of f ≈ℚ x)
IsRight table point root points.Undefined = (x : ℚ) → HasValue table point root x → ⊥
IsRight table point root points.Wide = Unit {0}
