-- Plain relations, which are decided at the corners of their ranges.
use Rattle.std.specs.Prelude.{◌≡◌, ◌⊎◌, ℕ, Bool, true, false, List, [], ◌∷◌, ◌++◌, Option, Some, None, Contains, slice_get}
use Rattle.ato_rational.specs.Rational.{ℚ, ◌≤ℚ◌, zero_ℚ}
use Rattle.ato_rational.specs.Ranges.{IsApartFromZero}
use Rattle.ato_frac.specs.declared.fraction.Frac.{Frac}
use Rattle.ato_frac.specs.Fractions.{value_of}
use Rattle.ato_interval.specs.Ends.{Ends, IsProper}
use Rattle.ato_expr.specs.declared.ops.Op.{Op}
use Rattle.ato_expr.specs.declared.ops.Op.TheVariants as ops
use Rattle.ato_expr.specs.Tables.{Entry}
use Rattle.ato_expr.specs.declared.ops.Relation.{Relation}
use Rattle.ato_expr.specs.declared.ops.Relation.TheVariants as relations
use Rattle.ato_expr.specs.Tables.{IsBelow}
use Rattle.ato_expr.specs.Labels.{HaveLabels}
use Rattle.ato_expr.specs.Values.{LiesIn, HoldsAt, roots_of}
use Rattle.ato_eval.specs.Intervals.{GivesInterval}

-- lists one behind the other
abbrev pub flat : List (List ℕ) → List ℕ
flat [] = []
flat (l ∷ ls) = l ++ flat ls

-- the variables of a node's tree, one for each place: a label like values and intervals, so that a shared node counts at each use
abbrev pub GivesPlaces : Op → List (List ℕ) → List ℕ → Type 0
GivesPlaces (ops.Var v) ls l = l ≡ v ∷ flat ls
GivesPlaces op ls l = l ≡ flat ls

-- no number twice
abbrev pub IsOnce : List ℕ → Type 0
IsOnce [] = Unit {0}
IsOnce (v ∷ vs) = ¬ Contains vs v × IsOnce vs

-- 0 is not inside
abbrev pub IsOneSided : Ends Frac → Type 0
IsOneSided a = (zero_ℚ ≤ℚ value_of a.low) ⊎ (value_of a.high ≤ℚ zero_ℚ)

-- what a plain relation asks of an operation over intervals
abbrev pub IsPlainStep : Op → List (Ends Frac) → Type 0
IsPlainStep ops.Quotient (a ∷ b ∷ []) = IsApartFromZero (value_of b.low) (value_of b.high)
IsPlainStep (ops.Power k) (a ∷ []) = IsOneSided a
IsPlainStep ops.Abs (a ∷ []) = IsOneSided a
IsPlainStep op cs = Unit {0}

-- a target that is one interval once touching ones are joined: it has what lies between its values
abbrev pub IsConvex : List (Frac × Frac) → Type 0
IsConvex target = (x y z : ℚ) → LiesIn target x → LiesIn target z → x ≤ℚ y → y ≤ℚ z → LiesIn target y

abbrev pub IsPlainTarget : Relation → Type 0
IsPlainTarget (relations.Within n target) = IsConvex target
IsPlainTarget relation = Unit {0}

-- each variable stands once in the trees, the target is one interval, and each operation below the sides that has intervals to
-- work on is plain over them
pub record IsPlain (table : List Entry) (ranges : List (Ends Frac)) (relation : Relation) : Type 0 where
  pub places : (ls : List (List ℕ)) → HaveLabels GivesPlaces table (roots_of relation) ls → IsOnce (flat ls)
  pub target : IsPlainTarget relation
  pub steps : (n : ℕ) (e : Entry) (cs : List (Ends Frac)) → IsBelow table (roots_of relation) n → slice_get table n ≡ Some e
      → HaveLabels (GivesInterval ranges) table e.children cs → IsPlainStep e.op cs

-- each range goes from its low end up to its high end
abbrev pub AreRanges : List (Ends Frac) → Type 0
AreRanges ranges = (v : ℕ) (range : Ends Frac) → slice_get ranges v ≡ Some range → IsProper value_of range

-- the end of a range that is named
abbrev pub end_of : Option (Ends Frac) → Bool → ℚ
end_of None b = zero_ℚ
end_of (Some range) true = value_of range.high
end_of (Some range) false = value_of range.low

-- the corner of the ranges at which the named variables are high
abbrev pub corner : List (Ends Frac) → (ℕ → Bool) → ℕ → ℚ
corner ranges high v = end_of (slice_get ranges v) (high v)

-- the relation fails at the corner
abbrev pub FailsAtCorner : List Entry → List (Ends Frac) → Relation → (ℕ → Bool) → Type 0
FailsAtCorner table ranges relation high = ¬ HoldsAt table (corner ranges high) relation
