-- What is found at a corner of ranges.
use Rattle.std.specs.Prelude.{◌⊎◌, ℕ, Bool, false, List, slice_index_or}
use Rattle.ato_frac.specs.declared.fraction.Frac.{Frac}
use Rattle.ato_interval.specs.Ends.{Ends}
use Rattle.ato_expr.specs.declared.ops.Relation.{Relation}
use Rattle.ato_expr.specs.Tables.{Entry}
use Rattle.ato_eval.specs.declared.judgement.Judgement.TheVariants.{True, False, Wide}
use Rattle.ato_eval.specs.declared.reached.Reached.{Reached}
use Rattle.ato_eval.specs.declared.reached.Reached.TheVariants as found
use Rattle.ato_eval.specs.Corners.{narrowed}
use Rattle.ato_eval.specs.Judgements.{Judges}

-- which variables are high, by a list
abbrev pub named : List Bool → ℕ → Bool
named high v = slice_index_or high v false

-- what is found: the judgement at the corner that high names, True or False, where the judgement over the ranges is not Wide; else Wide
abbrev pub Reaches : List Entry → List (Ends Frac) → List Bool → Relation → Reached → Type 0
Reaches table ranges high relation found.Fails = ¬ Judges table ranges relation Wide × Judges table (narrowed ranges high) relation False
Reaches table ranges high relation found.Nothing = ¬ Judges table ranges relation Wide × Judges table (narrowed ranges high) relation True
Reaches table ranges high relation found.Wide = Judges table ranges relation Wide ⊎ Judges table (narrowed ranges high) relation Wide
