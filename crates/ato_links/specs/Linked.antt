-- What the connections of a project give: the classes of its nodes, or the first fault of paths and links.
use Rattle.std.specs.Prelude.{◌≡◌, ℕ, List, Option, Some, None, ⊤}
use Rattle.std.specs.Option.{option_map}
use Rattle.ato_base.specs.declared.faults.Fault.{Fault}
use Rattle.ato_base.specs.declared.faults.Refusal.{Refusal}
use Rattle.ato_base.specs.declared.faults.Refusal.TheVariants as refusal
use Rattle.ato_files.specs.declared.program.Program.{Program}
use Rattle.ato_instance_tree.specs.declared.tree.Tree.{Tree}
use Rattle.ato_instance_tree.specs.TreeFaults.{Limits}
use Rattle.ato_instance_tree.specs.PathFaults.{keys_of}
use Rattle.ato_instance_tree.specs.Trees.{first_said}
use Rattle.ato_instance_tree.specs.Elaborated.{IsElaborated}
use Rattle.ato_links.specs.declared.classes.Classes.{Classes}
use Rattle.ato_links.specs.Links.{Electrical, electrical_of}
use Rattle.ato_links.specs.LinkFaults.{connect_fault, link_fault, earlier}
use Rattle.ato_links.specs.Joins.{AreClasses}

abbrev pub library_of : Program → Electrical
library_of program = electrical_of program.files program.names

-- the fault of paths and links that stands
abbrev pub fault_stands : Program → ℕ → Option Fault
fault_stands program entry = option_map (λ f. f.1) (connect_fault program.files entry (keys_of program.names) (library_of program))

-- The classes are those of the entry block's nodes, and no fault of paths and links stands.
pub record IsLinked (program : Program) (entry : ℕ) (joined : Classes) : Type 0 where
  pub sound : fault_stands program entry ≡ None
  pub classes : AreClasses program.files entry (library_of program) joined.of

-- A refusal tells the fault of paths and links that stands, or that memory ran out.
abbrev pub IsUnlinked : Program → ℕ → Refusal → Type 0
IsUnlinked program entry (refusal.Fault f) = fault_stands program entry ≡ Some f
IsUnlinked program entry refusal.NoMemory = ⊤

-- The tree is that of some entry block of the program.
pub record IsTreeOf (program : Program) (tree : Tree) : Type 0 where
  pub most : Limits
  pub name : List ℕ
  pub is : IsElaborated most program name tree

-- The fault that stands is the first fault of links in an occurrence before that of the tree's first fault of paths, else that one.
abbrev pub FaultByTree : Type 0
FaultByTree = (most : Limits) (program : Program) (name : List ℕ) (tree : Tree) (is : IsElaborated most program name tree)
    → connect_fault program.files is.entry (keys_of program.names) (library_of program)
    ≡ earlier (link_fault program.files is.entry (library_of program)) (first_said tree.first)

-- A project whose nodes have classes has no fault of paths and links.
abbrev pub OneLinkFault : Type 0
OneLinkFault = (program : Program) (entry : ℕ) (classes : Classes) (f : Fault) → IsLinked program entry classes → fault_stands program entry ≡ Some f → ⊥
