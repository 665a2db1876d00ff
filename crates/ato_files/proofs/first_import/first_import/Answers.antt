use Rattle.std.proofs.Common.{◌∙◌, ap}
use Rattle.std.specs.Prelude.{find}
use Rattle.ato_files.specs.Finding.{is_of, import_in}
use Rattle.ato_files.proofs.ImportLemmas.{imports_by_items}
use Rattle.ato_files.proofs.first_import.first_import.Goals as goal

pub returns : goal.returns
returns c = c.in_items.ensures ∙ ap (import_in c.args.name.0) c.as_slice.ensures ∙ ap (find (is_of c.args.name.0)) (imports_by_items c.args.file.now.tree.items)
