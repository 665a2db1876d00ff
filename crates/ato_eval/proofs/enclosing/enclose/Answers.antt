use Rattle.std.proofs.Common.{subst}
use Rattle.ato_eval.specs.declared.judgement.Judgement.{Judgement}
use Rattle.ato_eval.specs.Judgements.{Judges}
use Rattle.ato_eval.proofs.DecidedLaws.{not_unknown}
use Rattle.ato_eval.proofs.KeptLaws.{narrowed_nowhere}
use Rattle.ato_eval.proofs.RightLaws.{told_right}
use Rattle.ato_eval.proofs.JudgementLaws.{judged_once}
use Rattle.ato_eval.proofs.enclosing.enclose.Goals as goal

pub returns-clause-judges : goal.returns-clause-judges
returns-clause-judges c = rw (narrowed_nowhere c.args.ranges.now) at c.judge.ensures.judges

pub returns-clause-only : goal.returns-clause-only
returns-clause-only c = λ point inside j h.
    judged_once c.args.table.now c.args.ranges.now point inside c.args.relation.now j c.judge.result h (rw (narrowed_nowhere c.args.ranges.now) at c.judge.ensures.judges)

pub returns-clause-right : goal.returns-clause-right
returns-clause-right c = λ point inside.
    told_right c.args.table.now c.args.ranges.now point inside c.args.relation.now c.judge.result (rw (narrowed_nowhere c.args.ranges.now) at c.judge.ensures.judges)

pub returns-clause-decided : goal.returns-clause-decided
returns-clause-decided c = λ one e.
    not_unknown c.args.ranges.now one c.args.table.now c.args.relation.now
    (subst (λ (j : Judgement). Judges c.args.table.now c.args.ranges.now c.args.relation.now j) e (rw (narrowed_nowhere c.args.ranges.now) at c.judge.ensures.judges))
