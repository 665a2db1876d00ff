use Rattle.std.proofs.Common.{sym, ◌∙◌}
use Rattle.ato_elab.proofs.ClimbLemmas.{climb_init, climb_next, climb_end}
use Rattle.ato_elab.proofs.late_names.climbed.Goals as goal

pub loop-most-init : goal.loop-most-init
loop-most-init c = climb_init _ _ _ _ c.new-found.result c.new-found.ensures

pub loop-most-preserved : goal.loop-most-preserved
loop-most-preserved c = climb_next c.args.names.now c.args.nodes.now _ c.loop-most.found c.push.new.self c.loop-most.most c.loop-most.at c.in-Under.name c.in-Under.parent
    c.loop-most.invariant c.loop-most-test.true (sym c.in-Under.is ∙ c.above_at.ensures) c.in_ok-push-in-Under.ensures.ok

pub returns-in-Root : goal.returns-in-Root
returns-in-Root c = climb_end c.args.names.now c.args.nodes.now _ c.loop-most.found c.loop-most.most c.loop-most.at c.loop-most.invariant c.loop-most-test.true (sym c.in-Root.is ∙ c.above_at.ensures)
