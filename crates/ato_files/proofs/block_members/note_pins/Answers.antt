use Rattle.std.proofs.Common.{arith, ap, ◌∙◌}
use Rattle.ato_base.specs.declared.faults.FaultKind.TheVariants as kinds
use Rattle.ato_files.specs.Faults.{fault}
use Rattle.ato_files.specs.Noted.{with_fault}
use Rattle.ato_files.specs.Tables.{pin_fault}
use Rattle.ato_files.proofs.NotedLaws.{noted_each}
use Rattle.ato_files.proofs.block_members.note_pins.Goals as goal

pub loop-pin-preserved : goal.loop-pin-preserved
loop-pin-preserved c = noted_each pin_fault c.args.least.now c.loop-pin.least c.note.new.self c.args.pins.now c.loop-pin.pin-index _ (omega arith)
    c.loop-pin.invariant (c.note.ensures ∙ ap (λ z. with_fault c.loop-pin.least (fault kinds.WrongKind z)) c.at.ensures)
