-- A tree whose assignments are not looked at yet. Only private functions have clauses in these words.
use Rattle.std.specs.Prelude.{◌≡◌, ℕ, Bool, true, false, ◌&&◌, ◌==◌, List, [], ◌∷◌, map, Option, Some, None, position, slice_get}
use Rattle.std.specs.Map.{lookup}
use Rattle.std.specs.Str.{bytes_eq as same_path}
use Rattle.indexmap.specs.IndexMap.{get}
use Rattle.ato_files.specs.declared.program.SourceFile.{SourceFile}
use Rattle.ato_instance_tree.specs.declared.tree.Occurrence.{Occurrence}
use Rattle.ato_instance_tree.specs.Members.{Member, pin, named}
use Rattle.ato_instance_tree.specs.Walk.{Occ}
use Rattle.ato_instance_tree.specs.Order.{Spot, leaf, made_at, nodes, occurrences}
use Rattle.ato_instance_tree.specs.Trees.{tree_said, node_paths, spot_said, occ_said, walked_said}
use Rattle.ato_elab.specs.declared.places.Places.{Places}
use Rattle.ato_elab.specs.declared.built.Built.{Built}

-- ---- places

-- the same name of the same instance
abbrev pub same_key : ℕ × ℕ → ℕ × ℕ → Bool
same_key x y = (x.0 == y.0) && (x.1 == y.1)

-- the node that is held for a name of an instance, both by their numbers
abbrev pub held : Places → ℕ → ℕ → Option ℕ
held places instance name = get same_key places.numbers (instance, name)

-- The node stands under this name in the instance at a path; pins have no names.
abbrev pub stands_under : List ℕ → ℕ → Spot → Bool
stands_under path name (made_at other) = same_path (name ∷ path) other
stands_under path name (leaf other (pin text)) = false
stands_under path name (leaf other (named n k)) = same_path (name ∷ path) (n.name.0 ∷ other)

-- Each name of each instance of these nodes is held with the number of its node, and no other.
abbrev pub ArePlaces : List Spot → Places → Type 0
ArePlaces spots places = (instance name : ℕ) (path : List ℕ) → slice_get spots instance ≡ Some (made_at path) → held places instance name ≡ position (stands_under path name) spots

-- ---- built trees

-- the node with the number of an occurrence's instance
abbrev pub put_under : List Spot → Occurrence → Option Spot
put_under spots o = slice_get spots o.node

-- the node of the instance of an occurrence
abbrev pub instance_spot : Occ → Option Spot
instance_spot o = Some (made_at o.path)

-- The nodes, the occurrences and the places are those of the entry block.
pub record IsBuilt (files : List SourceFile) (names : List (List ℕ)) (entry : ℕ) (built : Built) : Type 0 where
  pub told : tree_said built.nodes ≡ map (spot_said files entry names) (nodes files entry)
  pub written : map (occ_said (node_paths built.nodes)) built.occurrences ≡ map (walked_said names) (occurrences files entry)
  pub under : map (put_under (nodes files entry)) built.occurrences ≡ map instance_spot (occurrences files entry)
  pub places : ArePlaces (nodes files entry) built.places
