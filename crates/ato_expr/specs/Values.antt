-- The values of nodes at a point, and when a relation holds there. No interval occurs here but the ranges of a target.
use Rattle.std.specs.Prelude.{◌≡◌, ℕ, zero, suc, ℤ, pos, negsuc, Bool, true, false, cond, List, [], ◌∷◌, fold, Contains, Option, Some, None}
use Rattle.ato_rational.specs.Rational.{ℚ, ◌≈ℚ◌, ◌≤ℚ◌, ◌<ℚ◌, ◌+ℚ◌, ◌*ℚ◌, ◌/ℚ◌, neg_ℚ, min_ℚ, max_ℚ, abs_ℚ, power_ℚ}
use Rattle.ato_rational.specs.Ranges.{IsWithin}
use Rattle.ato_frac.specs.declared.fraction.Frac.{Frac}
use Rattle.ato_frac.specs.Fractions.{value_of}
use Rattle.ato_expr.specs.declared.ops.Op.{Op}
use Rattle.ato_expr.specs.declared.ops.Op.TheVariants as ops
use Rattle.ato_expr.specs.declared.ops.Relation.{Relation}
use Rattle.ato_expr.specs.declared.ops.Relation.TheVariants as relations
use Rattle.ato_expr.specs.Tables.{Entry}
use Rattle.ato_expr.specs.Labels.{HasLabel}

-- whether a whole number is 0
abbrev pub is_zero : ℤ → Bool
is_zero (pos zero) = true
is_zero (pos (suc n)) = false
is_zero (negsuc n) = false

-- the value of an operation over values, where there is one; a quotient by 0 has none
abbrev pub op_value : (ℕ → ℚ) → Op → List ℚ → Option ℚ
op_value point (ops.Var v) [] = Some (point v)
op_value point (ops.Const q) [] = Some (value_of q)
op_value point ops.Sum (x ∷ xs) = Some (fold (λ s y. s +ℚ y) x xs)
op_value point ops.Neg (x ∷ []) = Some (neg_ℚ x)
op_value point ops.Product (x ∷ y ∷ []) = Some (x *ℚ y)
op_value point ops.Quotient (x ∷ y ∷ []) = cond (is_zero y.num) None (Some (x /ℚ y))
op_value point (ops.Power k) (x ∷ []) = Some (power_ℚ x k)
op_value point ops.Min (x ∷ xs) = Some (fold min_ℚ x xs)
op_value point ops.Max (x ∷ xs) = Some (fold max_ℚ x xs)
op_value point ops.Abs (x ∷ []) = Some (abs_ℚ x)
op_value point op xs = None

-- an operation gives its value
abbrev pub GivesValue : (ℕ → ℚ) → Op → List ℚ → ℚ → Type 0
GivesValue point op xs x = op_value point op xs ≡ Some x

-- a node has a value at a point: that of its operation over values of its children
abbrev pub HasValue : List Entry → (ℕ → ℚ) → ℕ → ℚ → Type 0
HasValue table point = HasLabel (GivesValue point) table

-- a value lies in one of the ranges of a target
pub record LiesIn (target : List (Frac × Frac)) (x : ℚ) : Type 0 where
  pub range : Frac × Frac
  pub one : Contains target range
  pub inside : IsWithin (value_of range.0) (value_of range.1) x

-- a relation holds where its sides have values that stand in it
pub data HoldsAt (table : List Entry) (point : ℕ → ℚ) : Relation → Type 0 where
  within : {n : ℕ} {target : List (Frac × Frac)} (x : ℚ) → HasValue table point n x → LiesIn target x → HoldsAt table point (relations.Within n target)
  less : {m n : ℕ} (x y : ℚ) → HasValue table point m x → HasValue table point n y → x <ℚ y → HoldsAt table point (relations.Less m n)
  at_most : {m n : ℕ} (x y : ℚ) → HasValue table point m x → HasValue table point n y → x ≤ℚ y → HoldsAt table point (relations.LessEq m n)
  equal : {m n : ℕ} (x y : ℚ) → HasValue table point m x → HasValue table point n y → x ≈ℚ y → HoldsAt table point (relations.Equal m n)
  there : {n : ℕ} (x : ℚ) → HasValue table point n x → HoldsAt table point (relations.Defined n)

-- the nodes that a relation speaks of
abbrev pub roots_of : Relation → List ℕ
roots_of (relations.Within n target) = n ∷ []
roots_of (relations.Less m n) = m ∷ n ∷ []
roots_of (relations.LessEq m n) = m ∷ n ∷ []
roots_of (relations.Equal m n) = m ∷ n ∷ []
roots_of (relations.Defined n) = n ∷ []
