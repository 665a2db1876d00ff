use Rattle.std.proofs.Common.{ℕ, List, [], ◌<◌, length, subst, sym, arith}
use Rattle.std.specs.Prelude.{Contains}
use Rattle.std.proofs.lemmas.Result.{err_from_is_err_and}
use Rattle.ato_frac.specs.declared.fraction.Frac.{Frac}
use Rattle.ato_interval.specs.Ends.{Ends}
use Rattle.ato_expr.specs.Labels.{StopsFor}
use Rattle.ato_expr.specs.Tables.{root}
use Rattle.ato_expr.specs.Values.{roots_of}
use Rattle.ato_eval.specs.Corners.{narrowed}
use Rattle.ato_eval.specs.Intervals.{GivesInterval, RefusesInterval}
use Rattle.ato_eval.specs.Judgements.{HasInterval}
use Rattle.ato_eval.proofs.KeptLaws.{narrowed_nowhere}
use Rattle.ato_eval.proofs.reaching.lean_to.Goals as goal

pub returns-in_err-evaluate-clause-stops : goal.returns-in_err-evaluate-clause-stops
returns-in_err-evaluate-clause-stops c =
    let p = err_from_is_err_and c.from_residual.result c.from_residual.ensures.1 in
    rw (p.1, p.2) (
    subst (λ (rs : List (Ends Frac)). StopsFor (GivesInterval rs) RefusesInterval c.args.table.now (roots_of c.args.relation.now) c.in_err-evaluate.field-0.0)
    (narrowed_nowhere c.args.ranges.now)
    (subst (λ (ns : List ℕ). StopsFor (GivesInterval (narrowed c.args.ranges.now [])) RefusesInterval c.args.table.now ns c.in_err-evaluate.field-0.0) c.requires.same c.in_err-evaluate.ensures.done)
    )

pub aim-requires : goal.aim-requires
aim-requires c = λ k h.
    let there : k < length c.args.table.now = c.requires.roots k h in
    let room = c.in_ok-evaluate.ensures.room.ends in
    omega arith

pub returns-clause-stops : goal.returns-clause-stops
returns-clause-stops c = λ k h.
    let kept = c.in_ok-evaluate.ensures.done k (root (subst (λ (ns : List ℕ). Contains ns k) (sym c.requires.same) h)) in
    (kept.interval, subst (λ (rs : List (Ends Frac)). HasInterval c.args.table.now rs k kept.interval) (narrowed_nowhere c.args.ranges.now) kept.has)

pub mark-stretch-requires-clause-roots : goal.mark-stretch-requires-clause-roots
mark-stretch-requires-clause-roots c = λ n h. c.requires.roots n (subst (λ (ns : List ℕ). Contains ns n) c.requires.same h)
