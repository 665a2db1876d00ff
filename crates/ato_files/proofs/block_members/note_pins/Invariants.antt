use Rattle.std.proofs.Common.{◌≡◌, take}
use Rattle.std.specs.Prelude.{map}
use Rattle.ato_files.specs.Noted.{noted}
use Rattle.ato_files.specs.Tables.{pin_fault}
use Rattle.ato_files.proofs.block_members.note_pins.Given as goal

abbrev pub invariant-loop-pin : goal.invariant-loop-pin
invariant-loop-pin l = l.least ≡ noted l.fn.least (map pin_fault (take l.pin-index l.pins))
