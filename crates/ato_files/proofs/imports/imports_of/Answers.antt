use Rattle.std.proofs.Common.{◌≡◌, ◌∙◌, ap}
use Rattle.std.specs.List.{flat_map}
use Rattle.std.proofs.lemmas.Result.{IfOk-weaker}
use Rattle.ato_files.specs.Blocks.{imports_of}
use Rattle.ato_files.specs.Imports.{item_imports}
use Rattle.ato_files.proofs.ImportLemmas.{imports_by_items}
use Rattle.ato_files.proofs.imports.imports_of.Goals as goal

pub returns : goal.returns
returns c = IfOk-weaker c.imports_of_items.result (λ imports. imports ≡ flat_map item_imports c.as_slice.result.now) (λ imports. imports ≡ imports_of c.args.file.now)
    (λ imports e. e ∙ ap (flat_map item_imports) c.as_slice.ensures ∙ imports_by_items c.args.file.now.tree.items) c.imports_of_items.ensures
