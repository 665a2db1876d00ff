use Rattle.std.proofs.Common.{ap, ◌∙◌}
use Rattle.std.specs.List.{flat_map}
use Rattle.ato_files.specs.NameFaults.{file_faults}
use Rattle.ato_files.specs.Noted.{noted}
use Rattle.ato_files.proofs.BlockFaultLaws.{least_noted}
use Rattle.ato_files.proofs.name_faults.name_fault.Goals as goal

pub returns : goal.returns
returns c =
    let files = c.args.files.now in
    c.fault.ensures
    ∙ least_noted files c.note_files.new.least c.note_blocks.new.least (c.in_ok-note_files.ensures ∙ ap (λ l. noted l (flat_map (file_faults files) files)) c.new-least.ensures) c.in_ok-note_blocks.ensures
