use Rattle.std.proofs.Common.{sym, ◌∙◌, subst, length, ◌<◌, ◌^◌}
use Rattle.ato_files.specs.Walks.{HasTree, IsUnreadable}
use Rattle.ato_files.proofs.LibraryText.{library_file, text_is_short, library_sound, library_started}
use Rattle.ato_files.proofs.library.library.Goals as goal

pub read_tree-requires : goal.read_tree-requires
read_tree-requires c = subst (λ t. length t < 2 ^ 32) (sym (c.as_slice.ensures ∙ c.in_ok-bytes.ensures)) text_is_short

pub unreachable-requires : goal.unreachable-requires
unreachable-requires c =
    library_sound c.as_slice.result.now c.args.names.now c.in-Err-Fault.field-0-0 (c.as_slice.ensures ∙ c.in_ok-bytes.ensures) c.requires
    (subst (IsUnreadable c.as_slice.result.now library_file c.args.names.now) c.in-Err-Fault.field-0-is c.in-Err-Fault.ensures.refused)

pub returns-in-Ok : goal.returns-in-Ok
returns-in-Ok c =
    library_started c.in_ok-name.name c.in_ok-bytes.bytes c.in-Ok.tree c.args.names.now c.read_tree.new.names c.in_ok-name.ensures c.in_ok-bytes.ensures c.requires
    (subst (λ bs. HasTree bs library_file c.args.names.now c.read_tree.new.names c.in-Ok.tree) c.as_slice.ensures c.in-Ok.ensures.tree)
