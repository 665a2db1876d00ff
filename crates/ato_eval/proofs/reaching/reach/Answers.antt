use Rattle.std.proofs.Common.{subst, ◌∙◌}
use Rattle.ato_eval.specs.declared.judgement.Judgement.{Judgement}
use Rattle.ato_eval.specs.Corners.{narrowed}
use Rattle.ato_eval.specs.Judgements.{Judges}
use Rattle.ato_eval.proofs.ReachLaws.{decided, fails_there}
use Rattle.ato_eval.proofs.reaching.reach.Goals as goal

pub unreachable-requires : goal.unreachable-requires
unreachable-requires c =
    decided c.args.table.now c.args.ranges.now c.has_corner.new.high c.args.relation.now c.judge.result (c.has_corner.ensures.high ∙ c.requires.high) c.judge.ensures.judges c.in-Unknown.is

pub returns-in-True-clause-reaches : goal.returns-in-True-clause-reaches
returns-in-True-clause-reaches c = (
  c.if-not-has_corner.ensures.wide,
  subst (λ (j : Judgement). Judges c.args.table.now (narrowed c.args.ranges.now c.has_corner.new.high) c.args.relation.now j) c.in-True.is c.judge.ensures.judges,
)

pub returns-in-False-clause-fails : goal.returns-in-False-clause-fails
returns-in-False-clause-fails c = λ e.
    fails_there c.args.table.now c.args.ranges.now c.has_corner.new.high c.args.relation.now (c.has_corner.ensures.high ∙ c.requires.high)
    (subst (λ (j : Judgement). Judges c.args.table.now (narrowed c.args.ranges.now c.has_corner.new.high) c.args.relation.now j) c.in-False.is c.judge.ensures.judges)
