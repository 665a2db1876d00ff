use Rattle.std.proofs.Common.{◌≡◌, ◌≤◌, true, arith, length, sym, ◌∙◌}
use Rattle.std.proofs.lemmas.Grind.{common_steps}
use Rattle.ato_files.specs.Blocks.{blocks_of}
use Rattle.ato_files.specs.NumberSet.{has}
use Rattle.ato_files.proofs.AncestorLemmas.{parent_is}
use Rattle.ato_files.proofs.AncestorLaws.{walk_end, walk_again, walk_more}
use Rattle.ato_files.proofs.ancestors.ancestors_of.Goals as goal

pub returns-in-None : goal.returns-in-None
returns-in-None c = λ files are.
    let long = are.count in
    let bound : c.loop-step.step ≤ length (blocks_of files) = omega arith in
    walk_end files c.args.block (length (blocks_of files)) c.loop-step.step c.loop-step.at c.loop-step.seen bound (c.loop-step.invariant files are)
    (sym (parent_is files c.args.parents.now are c.loop-step.at) ∙ sym c.parent_of.ensures ∙ c.in-None.is)

pub returns-then-not-branch : goal.returns-then-not-branch
returns-then-not-branch c = λ files are.
    let long = are.count in
    let bound : c.loop-step.step ≤ length (blocks_of files) = omega arith in
    let is : has c.loop-step.seen c.in-Some.above ≡ true = grind (arith, common_steps) in
    walk_again files c.args.block (length (blocks_of files)) c.loop-step.step c.loop-step.at c.in-Some.above c.loop-step.seen c.insert-in-loop-step.new.self bound
    (c.loop-step.invariant files are) (sym (parent_is files c.args.parents.now are c.loop-step.at) ∙ sym c.parent_of.ensures ∙ c.in-Some.is) is c.in_ok-insert-2.ensures.holds

pub loop-step-preserved : goal.loop-step-preserved
loop-step-preserved c = λ files are.
    walk_more files c.args.block c.loop-step.step _ c.loop-step.at c.in-Some.above c.loop-step.seen c.insert-in-loop-step.new.self (omega arith)
    (c.loop-step.invariant files are) (sym (parent_is files c.args.parents.now are c.loop-step.at) ∙ sym c.parent_of.ensures ∙ c.in-Some.is) c.in_ok-insert-2.ensures.holds
