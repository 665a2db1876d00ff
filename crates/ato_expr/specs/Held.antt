-- The fractions that the ends of nodes hold, each as its low end.
use Rattle.std.specs.Prelude.{◌≡◌, ℕ, List, [], ◌∷◌, slice_get, Some}
use Rattle.ato_frac.specs.declared.faults.NumFault.{NumFault}
use Rattle.ato_frac.specs.declared.faults.NumFault.TheVariants as faults
use Rattle.ato_frac.specs.declared.fraction.Frac.{Frac}
use Rattle.ato_frac.specs.Fractions.{CanAdd}
use Rattle.ato_rational.specs.Rational.{min_ℚ, max_ℚ}
use Rattle.ato_expr.specs.declared.ops.Op.{Op}
use Rattle.ato_expr.specs.declared.operations.Chain.{Chain}
use Rattle.ato_expr.specs.declared.operations.Chain.TheVariants as chains
use Rattle.ato_expr.specs.AtPoint.{IsResult, IsSum, GivesFraction, RefusesFraction}
use Rattle.ato_expr.specs.Chains.{Chains, ChainStops}
use Rattle.ato_expr.specs.Labels.{HasLabel}
use Rattle.ato_expr.specs.Tables.{Entry}

-- the fraction of a node
abbrev pub IsAt : List (Frac × Frac) → ℕ → Frac → Type 0
IsAt ends node x = (y : Frac) × (slice_get ends node ≡ Some (x, y))

-- the fractions of nodes, one by one
pub data AreAt (ends : List (Frac × Frac)) : List ℕ → List Frac → Type 0 where
  none_at : AreAt ends [] []
  one_at : {n : ℕ} {ns : List ℕ} {x : Frac} {xs : List Frac} (y : Frac) → slice_get ends n ≡ Some (x, y) → AreAt ends ns xs → AreAt ends (n ∷ ns) (x ∷ xs)

-- an operation over the fractions of nodes gives one
pub record GivesAt (world : List Frac) (op : Op) (ends : List (Frac × Frac)) (children : List ℕ) (r : Frac) : Type 0 where
  pub labels : List Frac
  pub at : AreAt ends children labels
  pub gives : GivesFraction world op labels r

-- or it is refused
pub record RefusesAt (op : Op) (ends : List (Frac × Frac)) (children : List ℕ) (fault : NumFault) : Type 0 where
  pub labels : List Frac
  pub at : AreAt ends children labels
  pub refused : RefusesFraction op labels fault

-- the step of an operation over one operand or more, and where it is refused
abbrev pub Steps : Chain → Frac → Frac → Frac → Type 0
Steps chains.Sum = IsSum
Steps chains.Least = IsResult min_ℚ
Steps chains.Greatest = IsResult max_ℚ

abbrev pub RefusesStep : Chain → Frac → Frac → Type 0
RefusesStep chains.Sum x y = ¬ CanAdd x y
RefusesStep chains.Least x y = ⊥
RefusesStep chains.Greatest x y = ⊥

-- such an operation over the fractions of nodes gives one
pub record ChainGives (chain : Chain) (ends : List (Frac × Frac)) (children : List ℕ) (r : Frac) : Type 0 where
  pub label : Frac
  pub labels : List Frac
  pub at : AreAt ends children (label ∷ labels)
  pub steps : Chains (Steps chain) label labels r

-- or it is refused
pub record ChainRefuses (chain : Chain) (ends : List (Frac × Frac)) (children : List ℕ) (fault : NumFault) : Type 0 where
  pub label : Frac
  pub labels : List Frac
  pub at : AreAt ends children (label ∷ labels)
  pub stops : ChainStops (Steps chain) (RefusesStep chain) label labels
  pub wide : fault ≡ faults.Wide

-- a node's fraction is held, and it is what the node comes to
pub record IsHeld (table : List Entry) (world : List Frac) (ends : List (Frac × Frac)) (node : ℕ) : Type 0 where
  pub label : Frac
  pub other : Frac
  pub at : slice_get ends node ≡ Some (label, other)
  pub has : HasLabel (GivesFraction world) table node label
