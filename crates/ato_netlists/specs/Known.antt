-- What is known of a tree from which parts and nets are made. Only laws and private functions speak in these words.
use Rattle.std.specs.Prelude.{◌≡◌, ℕ, List, None, Some, slice_get}
use Rattle.ato_files.specs.declared.program.Program.{Program}
use Rattle.ato_instance_tree.specs.declared.tree.Tree.{Tree}
use Rattle.ato_instance_tree.specs.Elaborated.{IsElaborated, IsLoaded}
use Rattle.ato_instance_tree.specs.Order.{made_at, nodes}
use Rattle.ato_instance_tree.specs.TreeFaults.{Limits}

-- The tree is that of the block of this number, and has no fault of paths.
pub record IsSound (program : Program) (tree : Tree) (entry : ℕ) : Type 0 where
  pub loaded : IsLoaded program
  pub most : Limits
  pub name : List ℕ
  pub is : IsElaborated most program name tree
  pub entry_is : is.entry ≡ entry
  pub sound : tree.first ≡ None

-- The node of this number is the instance at a path.
pub record IsAt (program : Program) (entry number : ℕ) (path : List ℕ) : Type 0 where
  pub is : slice_get (nodes program.files entry) number ≡ Some (made_at path)
