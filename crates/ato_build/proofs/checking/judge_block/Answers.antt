use Rattle.std.proofs.Common.{subst}
use Rattle.ato_first.proofs.FirstPartLemmas.{shown, shown_in_order}
use Rattle.ato_build.specs.Problems.{IsProblem}
use Rattle.ato_build.proofs.CheckLemmas.{judgement_of}
use Rattle.ato_build.proofs.checking.judge_block.Goals as goal

pub problem_of-requires-clause-order : goal.problem_of-requires-clause-order
problem_of-requires-clause-order c =
    shown_in_order c.as_slice.result.now c.args.block.now.lines c.part_of.result c.as_slice.ensures c.part_of.ensures c.requires.ranges

pub returns-clause-judgement : goal.returns-clause-judgement
returns-clause-judgement c =
    judgement_of c.args.block.now c.args.catalog.now c.in_ok-problem.problem c.args.bytes.now c.judge.result c.requires.made c.in_ok-problem.ensures.made
    (λ contents shows. subst (λ p. IsProblem p contents c.in_ok-problem.problem) (shown c.as_slice.result.now c.args.block.now.lines c.part_of.result c.as_slice.ensures c.part_of.ensures) (c.in_ok-problem.ensures.problem contents shows))
    c.judge.ensures.judged
