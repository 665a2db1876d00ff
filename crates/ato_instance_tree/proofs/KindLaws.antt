-- The kind of a type, block by block.
use Rattle.std.proofs.Common.{◌≡◌, ℕ, Bool, true, false, ◌||◌, List, [], ◌∷◌, ◌++◌, Option, Some, None, refl, sym, ap, ◌∙◌, cond, append_assoc, append-nil}
use Rattle.std.specs.Prelude.{map, option_to_list, if◌then◌else◌}
use Rattle.std.specs.List.{flat_map, list_any}
use Rattle.std.proofs.lemmas.List.Folds.{list_any-append}
use Rattle.ato_ast.specs.declared.blocks.BlockKind.{BlockKind}
use Rattle.ato_ast.specs.declared.blocks.BlockKind.TheVariants as block
use Rattle.ato_files.specs.declared.program.SourceFile.{SourceFile}
use Rattle.ato_files.specs.Blocks.{BlockAt, block_of}
use Rattle.ato_files.specs.Lineages.{lineage}
use Rattle.ato_instance_tree.specs.declared.tree.NodeKind.{NodeKind}
use Rattle.ato_instance_tree.specs.declared.tree.NodeKind.TheVariants as node
use Rattle.ato_instance_tree.specs.Types.{is_component, is_module, block_kinds, type_kind}
use Rattle.ato_instance_tree.specs.Kinds.{joined, joined_maybe, joined_in, kind_from}

-- what blocks of these kinds come to
chosen_by : Bool → Bool → NodeKind
chosen_by c m = if c then node.Component else (if m then node.Module else node.Interface)

chosen : List BlockKind → NodeKind
chosen ks = chosen_by (list_any is_component ks) (list_any is_module ks)

kinds_at : List SourceFile → ℕ → List BlockKind
kinds_at files b = map (λ (x : BlockAt). x.block.kind) (option_to_list (block_of files b))

one_more : (c m : Bool) (k : BlockKind) → chosen_by (c || (is_component k || false)) (m || (is_module k || false)) ≡ joined (chosen_by c m) k
unfolding chosen_by
one_more true m block.Module = refl
one_more true m block.Component = refl
one_more true m block.Interface = refl
one_more false true block.Module = refl
one_more false true block.Component = refl
one_more false true block.Interface = refl
one_more false false block.Module = refl
one_more false false block.Component = refl
one_more false false block.Interface = refl

chosen-push : (ks : List BlockKind) (k : BlockKind) → chosen (ks ++ k ∷ []) ≡ joined (chosen ks) k
unfolding chosen
chosen-push ks k = ap (λ c. chosen_by c (list_any is_module (ks ++ k ∷ []))) (list_any-append is_component ks (k ∷ []))
    ∙ ap (chosen_by (list_any is_component ks || (is_component k || false))) (list_any-append is_module ks (k ∷ []))
    ∙ one_more (list_any is_component ks) (list_any is_module ks) k

joined_one : (ks : List BlockKind) (o : Option BlockAt) → joined_maybe (chosen ks) o ≡ chosen (ks ++ map (λ (x : BlockAt). x.block.kind) (option_to_list o))
joined_one ks None = ap chosen (sym (append-nil ks))
joined_one ks (Some b) = sym (chosen-push ks b.block.kind)

from_chosen : (files : List SourceFile) (ks : List BlockKind) (numbers : List ℕ) → kind_from files (chosen ks) numbers ≡ chosen (ks ++ flat_map (kinds_at files) numbers)
unfolding kinds_at
from_chosen files ks [] = ap chosen (sym (append-nil ks))
from_chosen files ks (n ∷ more) = ap (λ k. kind_from files k more) (joined_one ks (block_of files n))
    ∙ from_chosen files (ks ++ kinds_at files n) more
    ∙ ap chosen (append_assoc ks (kinds_at files n) (flat_map (kinds_at files) more))

pub kind_is : (files : List SourceFile) (type : ℕ) → kind_from files node.Interface (lineage files type) ≡ type_kind files type
unfolding chosen chosen_by kinds_at
kind_is files type = from_chosen files [] (lineage files type)
