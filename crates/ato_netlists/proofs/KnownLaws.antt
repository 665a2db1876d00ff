-- What follows from what is known of a tree.
use Rattle.std.proofs.Common.{◌≡◌, ◌<◌, ℕ, Some, None, length, sym, ap, ◌∙◌, subst}
use Rattle.ato_files.specs.declared.program.Program.{Program}
use Rattle.ato_files.specs.Blocks.{blocks_of}
use Rattle.ato_files.specs.Programs.{NamesDiffer}
use Rattle.ato_instance_tree.specs.declared.tree.Tree.{Tree}
use Rattle.ato_instance_tree.specs.Trees.{AreEffective, IsTree}
use Rattle.ato_instance_tree.specs.TreeFaults.{tree_fault}
use Rattle.ato_instance_tree.proofs.LoadedLaws.{names_differ}
use Rattle.ato_instance_tree.proofs.TargetLaws.{entry_below}
use Rattle.ato_netlists.specs.Known.{IsSound}

module _ {program : Program} {tree : Tree} {entry : ℕ} (s : IsSound program tree entry) where
  pub sound_tree : IsTree program.files program.names entry tree
  sound_tree = subst (λ (e : ℕ). IsTree program.files program.names e tree) s.entry_is s.is.is

  pub sound_names : NamesDiffer program.names
  sound_names = names_differ program s.loaded

  pub sound_entry : entry < length (blocks_of program.files)
  sound_entry = subst (λ (e : ℕ). e < length (blocks_of program.files)) s.entry_is (entry_below program s.name s.is.entry s.is.named)

  pub sound_fault : tree_fault program.files s.most (Some entry) ≡ None
  sound_fault = ap (λ (e : ℕ). tree_fault program.files s.most (Some e)) (sym s.entry_is) ∙ ap (tree_fault program.files s.most) (sym s.is.named) ∙ s.is.sound

  pub sound_effective : AreEffective program.files entry program.names tree
  sound_effective = sound_tree.effective s.sound
