-- The nodes of a project, in tree order, and its occurrences, in written order.
use Rattle.std.specs.Prelude.{ℕ, zero, suc, List, [], ◌∷◌, length, Option, Some, None, filter_map}
use Rattle.std.specs.List.{flat_map}
use Rattle.ato_files.specs.declared.program.SourceFile.{SourceFile}
use Rattle.ato_files.specs.Blocks.{blocks_of}
use Rattle.ato_files.specs.Members.{signal, instance, param}
use Rattle.ato_instance_tree.specs.Members.{Member, pin, named, members}
use Rattle.ato_instance_tree.specs.Walk.{Occ, type_at, occs}

-- A node: a member, that is no instance, of the instance at a path; or the instance at a path.
pub data Spot : Type 0 where
  leaf : List ℕ → Member → Spot
  made_at : List ℕ → Spot

-- the nodes of a member of the instance at a path, where `deeper` gives those of an instance below
abbrev pub member_spots : (List ℕ → List Spot) → List ℕ → Member → List Spot
member_spots deeper path (pin text) = leaf path (pin text) ∷ []
member_spots deeper path (named n signal) = leaf path (named n signal) ∷ []
member_spots deeper path (named n param) = leaf path (named n param) ∷ []
member_spots deeper path (named n (instance type)) = deeper (n.name.0 ∷ path)

-- All nodes at and below a path, down to some depth. Below a type that stands around itself the tree has no end; where no
-- type does, no path has more names than there are blocks.
abbrev pub spots : List SourceFile → ℕ → ℕ → List ℕ → List Spot
spots files entry zero path = []
spots files entry (suc depth) path = made_at path ∷ flat_map (member_spots (spots files entry depth) path) (members files (type_at files entry path))

-- the nodes of the tree, in tree order
abbrev pub nodes : List SourceFile → ℕ → List Spot
nodes files entry = spots files entry (suc (length (blocks_of files))) []

abbrev pub instance_of : Spot → Option (List ℕ)
instance_of (leaf path m) = None
instance_of (made_at path) = Some path

-- the paths of the instances, in tree order
abbrev pub instances : List SourceFile → ℕ → List (List ℕ)
instances files entry = filter_map instance_of (nodes files entry)

-- the statements of the type at a path
abbrev pub occs_at : List SourceFile → ℕ → List ℕ → List Occ
occs_at files entry path = occs files path (type_at files entry path)

-- the occurrences, in written order
abbrev pub occurrences : List SourceFile → ℕ → List Occ
occurrences files entry = flat_map (occs_at files entry) (instances files entry)
