-- What a judgement says of the points of the ranges.
use Rattle.std.proofs.Common.{ℕ, List}
use Rattle.ato_rational.specs.Rational.{ℚ}
use Rattle.ato_frac.specs.declared.fraction.Frac.{Frac}
use Rattle.ato_interval.specs.Ends.{Ends}
use Rattle.ato_expr.specs.declared.ops.Relation.{Relation}
use Rattle.ato_expr.specs.Tables.{Entry}
use Rattle.ato_eval.specs.declared.judgement.Judgement.{Judgement}
use Rattle.ato_eval.specs.declared.judgement.Judgement.TheVariants as judgements
use Rattle.ato_eval.specs.Judgements.{IsInside, IsRight, Judges}
use Rattle.ato_eval.proofs.EnclosureLaws.{judged_true, judged_false}

pub told_right : (table : List Entry) (ranges : List (Ends Frac)) (point : ℕ → ℚ) → IsInside ranges point → (relation : Relation) (j : Judgement) → Judges table ranges relation j → IsRight table point relation j
told_right table ranges point inside relation judgements.True h = judged_true ranges point inside table relation h
told_right table ranges point inside relation judgements.False h = judged_false ranges point inside table relation h
told_right table ranges point inside relation judgements.Unknown h = tt
told_right table ranges point inside relation judgements.Wide h = tt
