use Rattle.ato_files.proofs.ReadingLaws.{not_read, not_noted}
use Rattle.ato_files.proofs.reading.read_next.Goals as goal

pub note_tree-requires : goal.note_tree-requires
note_tree-requires c = c.imports_are_texts.ensures c.args.bytes.now c.args.file c.args.names.now c.read_tree.new.names c.in-Ok.tree c.in-Ok.ensures.tree

pub returns-in-Err-clause-stopped : goal.returns-in-Err-clause-stopped
returns-in-Err-clause-stopped c = not_read c.args.bytes.now c.args.file c.args.names.now c.args.known.now c.in-Err.refusal c.in-Err.ensures.refused

pub returns-in-Err-note_tree-clause-stopped : goal.returns-in-Err-note_tree-clause-stopped
returns-in-Err-note_tree-clause-stopped c =
    not_noted c.args.bytes.now c.args.file c.args.names.now c.read_tree.new.names c.args.known.now c.in-Ok.tree c.in-Err-note_tree.refusal c.in-Ok.ensures.tree c.in-Err-note_tree.ensures.many
