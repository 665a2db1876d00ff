use Rattle.std.proofs.Common.{subst}
use Rattle.ato_build.specs.Problems.{IsProblem}
use Rattle.ato_build.proofs.DecisionLemmas.{built_decided, refuted_decided}
use Rattle.ato_first.proofs.FirstPartLemmas.{shown, shown_in_order}
use Rattle.ato_build.proofs.decisions.decide.Goals as goal

pub problem_of-requires-clause-order : goal.problem_of-requires-clause-order
problem_of-requires-clause-order c =
    shown_in_order c.as_slice.result.now c.args.block.now.lines c.part_of.result c.as_slice.ensures c.part_of.ensures c.requires.ranges

pub returns-in-Built-clause-decision : goal.returns-in-Built-clause-decision
returns-in-Built-clause-decision c =
    built_decided c.args.options.now c.args.block.now c.args.catalog.now c.in_ok-problem.problem c.in_ok-cert.cert c.in-Built.pick c.as_slice-in-Built.result.now c.in-Built.boxes c.build_pick.result
    (λ contents shows. subst (λ p. IsProblem p contents c.in_ok-problem.problem) (shown c.as_slice.result.now c.args.block.now.lines c.part_of.result c.as_slice.ensures c.part_of.ensures) (c.in_ok-problem.ensures.problem contents shows))
    c.in_ok-cert.ensures.valid c.in_ok-cert.ensures.steps c.in_ok-cert.ensures.decides c.in-Built.is c.as_slice-in-Built.ensures c.build_pick.ensures.status c.build_pick.ensures.made

pub returns-clause-decision : goal.returns-clause-decision
returns-clause-decision c =
    refuted_decided c.args.options.now c.args.block.now c.args.catalog.now c.in_ok-problem.problem c.in_ok-cert.cert c.in-Tree.verdict c.in-Tree.tree c.refute_picks.result
    (λ contents shows. subst (λ p. IsProblem p contents c.in_ok-problem.problem) (shown c.as_slice.result.now c.args.block.now.lines c.part_of.result c.as_slice.ensures c.part_of.ensures) (c.in_ok-problem.ensures.problem contents shows))
    c.in_ok-cert.ensures.valid c.in_ok-cert.ensures.steps c.in_ok-cert.ensures.decides c.in-Tree.is c.refute_picks.ensures.status c.refute_picks.ensures.made
