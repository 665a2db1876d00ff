-- What a tree has to be.
use Rattle.std.specs.Prelude.{◌≡◌, ◌↔◌, ℕ, Bool, true, false, List, [], ◌∷◌, ◌++◌, map, fold, slice_get, Contains, Option, Some, None}
use Rattle.std.specs.Option.{option_and_then, option_map}
use Rattle.ato_base.specs.declared.faults.Fault.{Fault}
use Rattle.ato_files.specs.declared.program.SourceFile.{SourceFile}
use Rattle.ato_files.specs.Members.{signal, instance, param}
use Rattle.ato_instance_tree.specs.declared.tree.NodeKind.{NodeKind}
use Rattle.ato_instance_tree.specs.declared.tree.NodeKind.TheVariants as node
use Rattle.ato_instance_tree.specs.declared.tree.Node.{Node}
use Rattle.ato_instance_tree.specs.declared.tree.Occurrence.{Occurrence}
use Rattle.ato_instance_tree.specs.declared.tree.Effective.{Effective}
use Rattle.ato_instance_tree.specs.declared.tree.Late.{Late}
use Rattle.ato_instance_tree.specs.declared.tree.Tree.{Tree}
use Rattle.ato_instance_tree.specs.Types.{type_kind}
use Rattle.ato_instance_tree.specs.Members.{pin, named}
use Rattle.ato_instance_tree.specs.Walk.{Occ, type_at, effective}
use Rattle.ato_instance_tree.specs.Order as order
use Rattle.ato_instance_tree.specs.Order.{Spot, leaf, made_at}
use Rattle.ato_instance_tree.specs.PathFaults.{keys_of, path_fault}

-- ---- where nodes are

-- A step of a path: a name's text, or a pin's label.
pub record Step : Type 0 where
  pub pin : Bool
  pub text : Option (List ℕ)

-- Where a node is: the steps of its path, the innermost first; or nowhere.
abbrev pub Where : Type 0
Where = Option (List Step)

abbrev pub where_at : List Where → ℕ → Where
where_at paths number = option_and_then (λ w. w) (slice_get paths number)

abbrev pub is_pin : NodeKind → Bool
is_pin node.Pin = true
is_pin _ = false

abbrev pub step_of : Node → Step
step_of n = record { pin = is_pin n.kind; text = Some n.name }

-- the path of a node below the node of a number, which stands before it; the root has no name
abbrev pub below : List Where → Node → Option ℕ → Where
below paths n None = Some []
below paths n (Some parent) = option_map (λ path. step_of n ∷ path) (where_at paths parent)

abbrev pub with_path : List Where → Node → List Where
with_path paths n = paths ++ below paths n n.parent ∷ []

-- the paths of nodes, by their numbers
abbrev pub node_paths : List Node → List Where
node_paths ns = fold with_path [] ns

-- ---- what nodes say

-- what a node says: where it is, its name, its kind and its type
pub record Said : Type 0 where
  pub path : Where
  pub name : Option (List ℕ)
  pub kind : Option NodeKind
  pub block : Option ℕ

abbrev pub said_with : List Where → List Node → List Said
said_with [] ns = []
said_with (p ∷ paths) [] = []
said_with (p ∷ paths) (n ∷ more) = record { path = p; name = Some n.name; kind = Some n.kind; block = n.block } ∷ said_with paths more

-- what the nodes of a tree say
abbrev pub tree_said : List Node → List Said
tree_said ns = said_with (node_paths ns) ns

-- ---- what the nodes of a project say

abbrev pub name_step : List (List ℕ) → ℕ → Step
name_step names n = record { pin = false; text = slice_get names n }

-- the steps of a path of names
abbrev pub steps : List (List ℕ) → List ℕ → List Step
steps names path = map (name_step names) path

-- the last name of a path; that of the root is empty
abbrev pub last_name : List (List ℕ) → List ℕ → Option (List ℕ)
last_name names [] = Some []
last_name names (n ∷ path) = slice_get names n

abbrev pub named_said : List (List ℕ) → List ℕ → ℕ → NodeKind → Said
named_said names path n kind = record { path = Some (steps names (n ∷ path)); name = slice_get names n; kind = Some kind; block = None }

abbrev pub pin_said : List (List ℕ) → List ℕ → List ℕ → Said
pin_said names path text = record { path = Some (record { pin = true; text = Some text } ∷ steps names path); name = Some text; kind = Some node.Pin; block = None }

abbrev pub instance_said : List SourceFile → List (List ℕ) → List ℕ → Option ℕ → Said
instance_said files names path type = record { path = Some (steps names path); name = last_name names path; kind = option_map (type_kind files) type; block = type }

abbrev pub spot_said : List SourceFile → ℕ → List (List ℕ) → Spot → Said
spot_said files entry names (made_at path) = instance_said files names path (type_at files entry path)
spot_said files entry names (leaf path (pin text)) = pin_said names path text
spot_said files entry names (leaf path (named n signal)) = named_said names path n.name.0 node.Signal
spot_said files entry names (leaf path (named n param)) = named_said names path n.name.0 node.Param
spot_said files entry names (leaf path (named n (instance type))) = instance_said files names (n.name.0 ∷ path) (type_at files entry (n.name.0 ∷ path))

-- ---- occurrences

-- What an occurrence says: the path of its instance, and where its statement stands.
pub record SaidOcc : Type 0 where
  pub path : Where
  pub block : ℕ
  pub line : ℕ
  pub part : ℕ

abbrev pub occ_said : List Where → Occurrence → SaidOcc
occ_said paths o = record { path = where_at paths o.node; block = o.block; line = o.line; part = o.part }

abbrev pub walked_said : List (List ℕ) → Occ → SaidOcc
walked_said names o = record { path = Some (steps names o.path); block = o.at.block; line = o.at.line; part = o.at.part }

-- ---- assignments

-- The entry is of the assignment that counts for some name of some instance.
pub record Counts (files : List SourceFile) (entry : ℕ) (names : List (List ℕ)) (tree : Tree) (e : Effective) : Type 0 where
  pub path : List ℕ
  pub name : ℕ
  pub occ : Occ
  pub at : where_at (node_paths tree.nodes) e.node ≡ Some (steps names path)
  pub called : slice_get names name ≡ Some e.name
  pub last : effective files entry name path ≡ Some occ
  pub by : slice_get (order.occurrences files entry) e.by ≡ Some occ

-- The entries are those of all assignments that count, each once, in any order.
pub record AreEffective (files : List SourceFile) (entry : ℕ) (names : List (List ℕ)) (tree : Tree) : Type 0 where
  pub each : (e : Effective) → Contains tree.effective e ↔ Counts files entry names tree e
  pub once : (i j : ℕ) (e : Effective) → slice_get tree.effective i ≡ Some e → slice_get tree.effective j ≡ Some e → i ≡ j

-- ---- the tree

abbrev pub first_said : Option Late → Option (ℕ × Fault)
first_said first = option_map (λ l. (l.occurrence, l.fault)) first

-- The tree is that of the entry block: its nodes stand in tree order and say what those of the project say, its occurrences stand in
-- written order, and its first fault is that of the paths.
pub record IsTree (files : List SourceFile) (names : List (List ℕ)) (entry : ℕ) (tree : Tree) : Type 0 where
  pub told : tree_said tree.nodes ≡ map (spot_said files entry names) (order.nodes files entry)
  pub written : map (occ_said (node_paths tree.nodes)) tree.occurrences ≡ map (walked_said names) (order.occurrences files entry)
  pub first : first_said tree.first ≡ path_fault files entry (keys_of names)
  pub effective : tree.first ≡ None → AreEffective files entry names tree
