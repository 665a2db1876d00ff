-- Imports as lists.
use Rattle.std.proofs.Common.{◌≡◌, List, [], ◌∷◌, ◌++◌, refl, sym, ap, ◌∙◌}
use Rattle.std.specs.List.{flat_map}
use Rattle.std.proofs.lemmas.Grind.{flat_map-append}
use Rattle.ato_ast.specs.declared.blocks.Item.{Item}
use Rattle.ato_files.specs.Files.{item_heads}
use Rattle.ato_files.specs.Blocks.{head_imports}
use Rattle.ato_files.specs.Imports.{item_imports}

pub imports_by_items : (items : List Item) → flat_map item_imports items ≡ flat_map head_imports (flat_map item_heads items)
imports_by_items [] = refl
imports_by_items (i ∷ items) = ap (λ ys. item_imports i ++ ys) (imports_by_items items) ∙ sym (flat_map-append head_imports (item_heads i) (flat_map item_heads items))
