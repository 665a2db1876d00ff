use Rattle.std.proofs.Common.{◌∙◌, sym}
use Rattle.ato_elab.specs.Assigned.{held_by}
use Rattle.ato_elab.proofs.PickLemmas.{picked_step, picked_end}
use Rattle.ato_elab.proofs.assigned.Assigned.of.Goals as goal

pub loop-number-preserved : goal.loop-number-preserved
loop-number-preserved c = λ instance name. c.loop-number.invariant instance name
    ∙ picked_step c.args.built.now instance name c.args.stmts.now c.loop-number.number c.index-stmts-number.result (held_by c.loop-number.assigned instance name) (held_by c.note.new.self instance name)
    c.loop-number-test.true c.index-stmts-number.is (c.in_ok-note.ensures instance name)

pub returns : goal.returns
returns c = λ instance name. sym (c.loop-number.invariant instance name ∙ picked_end c.args.built.now instance name c.args.stmts.now c.loop-number.number (held_by c.loop-number.assigned instance name) c.loop-number-test.false)
