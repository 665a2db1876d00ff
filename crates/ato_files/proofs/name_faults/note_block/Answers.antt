use Rattle.std.proofs.Common.{ap, ◌∙◌}
use Rattle.std.specs.Prelude.{map}
use Rattle.std.specs.List.{flat_map}
use Rattle.ato_files.specs.Clashes.{clashing_of, declared_twice}
use Rattle.ato_files.specs.MemberLists.{declared_of}
use Rattle.ato_files.specs.NameFaults.{inherited, unknown}
use Rattle.ato_files.specs.Noted.{noted}
use Rattle.ato_files.proofs.BlockFaultLaws.{block_noted}
use Rattle.ato_files.proofs.name_faults.note_block.Goals as goal

pub returns : goal.returns
returns c =
    let files = c.args.tables.now.files.now in
    block_noted files c.args.number c.args.file c.args.block.now c.args.members.now c.args.least.now c.note_parent.new.least c.note_types.new.least c.note_decls.new.least c.note_kind.new.least
    c.requires.members c.note_parent.ensures
    (c.note_types.ensures ∙ ap (λ l. noted c.note_parent.new.least (flat_map (unknown files c.args.file) l)) c.as_slice.ensures)
    (c.in_ok-note_decls.ensures
    ∙ ap (λ l. noted c.note_types.new.least (map declared_twice (clashing_of (map declared_of (inherited files c.args.number)) l))) c.as_slice-2.ensures)
    c.note_kind.ensures
