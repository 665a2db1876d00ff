use Rattle.ato_elab.proofs.GroundLaws.{found_is}
use Rattle.ato_elab.proofs.late_first.first_fault.Goals as goal

-- src/late_first.rt
pub returns : goal.returns
returns c = found_is _ _ c.args.built.now c.args.stmts.now c.args.pins.now c.args.assigned.now c.ground_of-ground.result c.late.result
    c.ground_of-ground.ensures.files c.late.ensures c.ground_of-ground.ensures.right
