-- What is told of a tree that is built is the tree of the entry block.
use Rattle.std.proofs.Common.{◌≡◌, ◌<◌, ℕ, List, length, refl, sym, ap, ◌∙◌}
use Rattle.std.specs.Prelude.{map}
use Rattle.indexmap.specs.IndexMap.{IsUnique}
use Rattle.ato_files.specs.Blocks.{blocks_of}
use Rattle.ato_files.specs.Programs.{AreBlocks, NamesDiffer}
use Rattle.ato_files.specs.declared.program.SourceFile.{SourceFile}
use Rattle.ato_instance_tree.specs.declared.tree.Node.{Node}
use Rattle.ato_instance_tree.specs.declared.tree.Tree.{Tree}
use Rattle.ato_instance_tree.specs.Elaborated.{IsLoaded}
use Rattle.ato_instance_tree.specs.Order.{occurrences}
use Rattle.ato_instance_tree.specs.PathFaults.{keys_of, path_fault}
use Rattle.ato_instance_tree.specs.Trees.{IsTree, tree_said, node_paths, occ_said, first_said}
use Rattle.ato_instance_tree.proofs.LoadedLaws.{names_are_sound, names_differ}
use Rattle.ato_elab.specs.declared.built.Built.{Built}
use Rattle.ato_elab.specs.declared.frames.Given.{Given}
use Rattle.ato_elab.specs.declared.judging.Judged.{Judged}
use Rattle.ato_elab.specs.Built.{same_key}
use Rattle.ato_elab.specs.Building.{limits_of}
use Rattle.ato_elab.specs.Counting.{OccurOnce, entries_of}
use Rattle.ato_elab.specs.Entering.{IsWhole}
use Rattle.ato_elab.specs.Judging.{IsJudged}
use Rattle.ato_elab.specs.Standing.{IsReady}
use Rattle.ato_elab.proofs.CountLaws.{entries_count}
use Rattle.ato_elab.proofs.KeyLaws.{keys_stand}
use Rattle.ato_elab.proofs.OnceLaws.{nothing_occurs_twice}
use Rattle.ato_elab.proofs.WholeLaws.{whole}

-- The tree is made of what is built, of what is found of it, and of these entries.
pub record IsMadeOf (names : List (List ℕ)) (built : Built) (j : Judged) (tree : Tree) : Type 0 where
  pub nodes : tree.nodes ≡ built.nodes
  pub occurrences : tree.occurrences ≡ built.occurrences
  pub effective : tree.effective ≡ entries_of names j.assigned
  pub first : tree.first ≡ j.first

pub tree_is : (files : List SourceFile) (names : List (List ℕ)) (entry : ℕ) (built : Built) (j : Judged) (tree : Tree) → IsReady files names entry built → OccurOnce files entry
    → IsJudged files names entry built j → NamesDiffer names → IsUnique same_key j.assigned.by → IsMadeOf names built j tree → IsTree files names entry tree
tree_is files names entry built j tree ready once judged differ unique made = record {
  told = ap tree_said made.nodes ∙ ready.is.told;
  written = ap (λ (ns : List Node). map (occ_said (node_paths ns)) tree.occurrences) made.nodes
      ∙ ap (map (occ_said (node_paths built.nodes))) made.occurrences ∙ ready.is.written;
  first = first;
  effective = λ none. entries_count files names entry built j.assigned tree ready judged.assigned (keys_stand files names entry built (map (λ o. o.at.stmt) (occurrences files entry)) j.assigned ready refl judged.held) once differ unique
      (sym first ∙ ap first_said none) made.nodes made.effective;
}
  where
    first : first_said tree.first ≡ path_fault files entry (keys_of names)
    first = ap first_said made.first ∙ judged.first

-- What is found of a tree that is built, and loaded from a program, makes the tree.
pub finished : (given : Given) (built : Built) (j : Judged) (tree : Tree) → ((entry : ℕ) → AreBlocks given.program.now.files given.program.now.blocks → NamesDiffer given.program.now.names
    → IsReady given.program.now.files given.program.now.names entry built → IsJudged given.program.now.files given.program.now.names entry built j)
    → IsUnique same_key j.assigned.by → IsMadeOf given.program.now.names built j tree
    → (entry : ℕ) → IsLoaded given.program.now → entry < length (blocks_of given.program.now.files) → IsWhole given entry built
    → IsTree given.program.now.files given.program.now.names entry tree
finished given built j tree judged unique made entry loaded within whole_is =
    let differ : NamesDiffer given.program.now.names = names_differ given.program.now loaded in
    let ready : IsReady given.program.now.files given.program.now.names entry built
    = record { is = whole_is.tree; whole = whole given.program.now.files entry (limits_of given.most) within whole_is.sound } in
    tree_is given.program.now.files given.program.now.names entry built j tree ready
    (nothing_occurs_twice given.program.now.files entry (names_are_sound given.program.now loaded)) (judged entry loaded.is.blocks differ ready) differ unique made
