use Rattle.std.proofs.Common.{Some, None, sym, ap, ◌∙◌, subst, reverse, arith, true≢false}
use Rattle.ato_files.specs.Lineages.{IsLineage}
use Rattle.ato_files.proofs.EndingLemmas.{parent_read}
use Rattle.ato_files.proofs.ClimbLemmas.{IsClimb, climb_on, climb_ends, climb_long}
use Rattle.ato_files.proofs.lineages.lineage.Goals as goal

pub returns-in-None : goal.returns-in-None
returns-in-None c = λ files are.
    subst (IsLineage files c.args.start) (sym (c.turned.ensures ∙ ap reverse c.in_ok-push.ensures.items))
    (climb_ends c.args.parents.now c.requires.made c.args.start c.loop.counter c.loop.block c.loop.found.items c.loop.invariant
    (parent_read c.args.parents.now c.loop.block None None c.loop.invariant.within c.in-None.is) files are)

pub loop-preserved : goal.loop-preserved
loop-preserved c =
    subst (IsClimb c.args.parents.now c.args.start _ c.in-Some.above) (sym c.in_ok-push.ensures.items)
    (climb_on c.args.parents.now c.requires.made c.args.start c.loop.counter c.loop.block c.loop.found.items c.loop.invariant c.in-Some.above
    (parent_read c.args.parents.now c.loop.block None (Some c.in-Some.above) c.loop.invariant.within c.in-Some.is))

pub returns : goal.returns
returns c = absurd (true≢false (sym (climb_long c.args.parents.now c.requires.made c.args.start c.loop.counter c.loop.block c.loop.found.items c.loop.invariant (omega arith)) ∙ c.requires.ends))
