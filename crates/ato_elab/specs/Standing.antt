-- What the nodes of a tree say of the names of its instances. Only private functions have clauses in these words.
use Rattle.std.specs.Prelude.{◌≡◌, ◌<◌, ℕ, Bool, true, false, List, ◌∷◌, length, Option, Some, None, ⊤, slice_get, position}
use Rattle.ato_files.specs.Blocks.{blocks_of}
use Rattle.ato_instance_tree.specs.TreeFaults.{Limits, tree_fault}
use Rattle.ato_ast.specs.declared.names.Named.{Named}
use Rattle.ato_files.specs.declared.program.SourceFile.{SourceFile}
use Rattle.ato_files.specs.Members.{Kind, signal, instance, param}
use Rattle.ato_instance_tree.specs.Members.{named}
use Rattle.ato_instance_tree.specs.Order.{Spot, leaf, made_at, nodes}
use Rattle.ato_instance_tree.specs.Paths.{member_at}
use Rattle.ato_elab.specs.declared.built.Built.{Built}
use Rattle.ato_elab.specs.Built.{IsBuilt, stands_under}

-- The node of this number is the instance at a path.
pub record IsAt (files : List SourceFile) (entry number : ℕ) (path : List ℕ) : Type 0 where
  pub is : slice_get (nodes files entry) number ≡ Some (made_at path)

-- The node of this number is a member, that is no instance, of the instance at a path.
pub record IsLeafAt (spots : List Spot) (path : List ℕ) (k : Kind) (number : ℕ) : Type 0 where
  pub name : Named
  pub is : slice_get spots number ≡ Some (leaf path (named name k))

-- The node of this number is that of a member of this kind.
abbrev pub HasKind : List Spot → List ℕ → ℕ → Kind → ℕ → Type 0
HasKind spots path name signal number = IsLeafAt spots path signal number
HasKind spots path name (instance type) number = slice_get spots number ≡ Some (made_at (name ∷ path))
HasKind spots path name param number = IsLeafAt spots path param number

-- A name has a node where it is a member, and the node is of its kind.
abbrev pub Agrees : List Spot → List ℕ → ℕ → Option Kind → Option ℕ → Type 0
Agrees spots path name None None = ⊤
Agrees spots path name None (Some number) = ⊥
Agrees spots path name (Some k) None = ⊥
Agrees spots path name (Some k) (Some number) = HasKind spots path name k number

abbrev pub kind_is_instance : Option Kind → Bool
kind_is_instance None = false
kind_is_instance (Some signal) = false
kind_is_instance (Some (instance type)) = true
kind_is_instance (Some param) = false

-- The instance at a path stands as a member in that around it.
pub record StandsIn (files : List SourceFile) (entry name : ℕ) (path : List ℕ) : Type 0 where
  pub number : ℕ
  pub at : IsAt files entry number path
  pub member : kind_is_instance (member_at files entry path name) ≡ true

-- Each member of each instance of the tree that has a name has its node in the tree, and no other name has one; each instance but the
-- root stands as a member in another.
pub record IsWhole (files : List SourceFile) (entry : ℕ) : Type 0 where
  pub members : (number : ℕ) (path : List ℕ) (name : ℕ) → IsAt files entry number path
      → Agrees (nodes files entry) path name (member_at files entry path name) (position (stands_under path name) (nodes files entry))
  pub around : (number name : ℕ) (path : List ℕ) → IsAt files entry number (name ∷ path) → StandsIn files entry name path
  pub once : (i j : ℕ) (path : List ℕ) → IsAt files entry i path → IsAt files entry j path → i ≡ j

-- The tree is built, and whole.
pub record IsReady (files : List SourceFile) (names : List (List ℕ)) (entry : ℕ) (built : Built) : Type 0 where
  pub is : IsBuilt files names entry built
  pub whole : IsWhole files entry

-- Where no fault of the tree stands, the tree is whole.
abbrev pub TreesAreWhole : Type 0
TreesAreWhole = (files : List SourceFile) (entry : ℕ) (most : Limits) → entry < length (blocks_of files) → tree_fault files most (Some entry) ≡ None → IsWhole files entry
