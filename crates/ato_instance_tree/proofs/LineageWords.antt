-- Types that are not there.
use Rattle.std.proofs.Common.{◌≡◌, ℕ, zero, suc, List, [], ◌∷◌, ◌++◌, Option, Some, None, refl, sym, ap, ◌∙◌, length, arith, inl, inr}
use Rattle.std.specs.Prelude.{map, slice_get, option_to_list, if◌then◌else◌}
use Rattle.std.specs.List.{flat_map, list_any}
use Rattle.std.specs.Option.{option_and_then, option_map}
use Rattle.std.proofs.lemmas.Option.{slice_get_cases, slice_get_past}
use Rattle.ato_ast.specs.declared.blocks.BlockKind.{BlockKind}
use Rattle.ato_files.specs.declared.program.SourceFile.{SourceFile}
use Rattle.ato_files.specs.declared.program.BlockInfo.{BlockInfo}
use Rattle.ato_files.specs.Programs.{AreBlocks}
use Rattle.ato_files.specs.Blocks.{BlockAt, blocks_of, block_of, meaning}
use Rattle.ato_files.specs.Lineages.{parent, below, lineage_within, lineage}
use Rattle.ato_instance_tree.specs.declared.tree.NodeKind.TheVariants as node
use Rattle.ato_instance_tree.specs.Types.{Located, block_stmts, located, type_stmts, is_component, is_module, block_kinds, type_kind}

module _ (files : List SourceFile) (type : ℕ) (none : block_of files type ≡ None) where
  no_parent : parent files type ≡ None
  no_parent = ap (option_and_then (λ (b : BlockAt). option_and_then (λ name. meaning files b.file name.name.0) b.block.parent)) none

  within : (n : ℕ) → lineage_within files n type ≡ type ∷ []
  within zero = refl
  within (suc n) = ap (λ o. below type (option_map (lineage_within files n) o)) no_parent

  alone : lineage files type ≡ type ∷ []
  alone = within (length (blocks_of files))

  no_located : located files type ≡ []
  no_located = ap (λ o. flat_map (block_stmts type) (option_to_list o)) none

  -- they have no statements
  pub no_stmts : type_stmts files type ≡ []
  no_stmts = ap (flat_map (located files)) alone ∙ ap (λ (ls : List Located). ls ++ []) no_located

  no_kinds : block_kinds files type ≡ []
  no_kinds = ap (flat_map (λ b. map (λ (x : BlockAt). x.block.kind) (option_to_list (block_of files b)))) alone
      ∙ ap (λ o. map (λ (x : BlockAt). x.block.kind) (option_to_list o) ++ []) none

  -- and count as interfaces
  pub no_kind : type_kind files type ≡ node.Interface
  no_kind = ap (λ ks. if list_any is_component ks then node.Component else (if list_any is_module ks then node.Module else node.Interface)) no_kinds

-- what is not kept is not there
pub not_there : (files : List SourceFile) (blocks : List BlockInfo) (number : ℕ) → AreBlocks files blocks → slice_get blocks number ≡ None → block_of files number ≡ None
not_there files blocks number are e = elim (slice_get_cases blocks number).1 [
  | inl x ↦ (let both : Some x.0 ≡ None = sym x.2 ∙ e in cc)
  | inr x ↦ (let past = x.0 in let n = are.count in slice_get_past (blocks_of files) number (omega arith))
]
