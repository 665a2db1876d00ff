-- What the entry block of a project gives: its tree, or the first fault of the tree.
use Rattle.std.specs.Prelude.{◌≡◌, ℕ, List, Option, Some, None, ⊤}
use Rattle.ato_base.specs.declared.faults.Fault.{Fault}
use Rattle.ato_base.specs.declared.faults.Refusal.{Refusal}
use Rattle.ato_base.specs.declared.faults.Refusal.TheVariants as refusal
use Rattle.ato_files.specs.declared.program.Program.{Program}
use Rattle.ato_files.specs.Loading.{Held}
use Rattle.ato_files.specs.Programs.{IsProgram}
use Rattle.ato_instance_tree.specs.declared.tree.Tree.{Tree}
use Rattle.ato_instance_tree.specs.TreeFaults.{Limits, tree_fault, entry_block}
use Rattle.ato_instance_tree.specs.Trees.{IsTree}

-- The program is one that is loaded: the files of some shelf, without a fault of their names.
pub record IsLoaded (program : Program) : Type 0 where
  pub held : Held
  pub entry_file : List ℕ
  pub is : IsProgram held entry_file program

-- the entry block of this name
abbrev pub entry_of : Program → List ℕ → Option ℕ
entry_of program name = entry_block program.files program.names name

-- the fault of the tree that stands, with these limits
abbrev pub stands : Limits → Program → List ℕ → Option Fault
stands most program name = tree_fault program.files most (entry_of program name)

-- The tree is that of the entry block of this name, and no fault of the tree stands.
pub record IsElaborated (most : Limits) (program : Program) (name : List ℕ) (tree : Tree) : Type 0 where
  pub entry : ℕ
  pub named : entry_of program name ≡ Some entry
  pub sound : stands most program name ≡ None
  pub is : IsTree program.files program.names entry tree

-- A refusal tells the fault that stands, or that memory ran out.
abbrev pub IsRefused : Limits → Program → List ℕ → Refusal → Type 0
IsRefused most program name (refusal.Fault f) = stands most program name ≡ Some f
IsRefused most program name refusal.NoMemory = ⊤
