-- What the connections of occurrences give, by the numbers of nodes. Only private functions and laws speak in these words.
use Rattle.std.specs.Prelude.{◌≡◌, ◌↔◌, ℕ, true, false, List, [], ◌∷◌, map, length, Option, Some, None, option_to_list, slice_get, take, ⊤}
use Rattle.std.specs.List.{flat_map, list_any}
use Rattle.ato_base.specs.declared.faults.Fault.{Fault}
use Rattle.ato_base.specs.declared.faults.FaultKind.TheVariants as kinds
use Rattle.ato_base.specs.declared.faults.Refusal.{Refusal}
use Rattle.ato_base.specs.declared.faults.Refusal.TheVariants as refusal
use Rattle.ato_base.specs.declared.places.Place.TheVariants as place
use Rattle.ato_ast.specs.declared.stmts.Stmt.{Stmt}
use Rattle.ato_files.specs.Lists.{Among}
use Rattle.ato_files.specs.declared.program.SourceFile.{SourceFile}
use Rattle.ato_files.specs.Programs.{NamesDiffer}
use Rattle.ato_instance_tree.specs.declared.tree.Late.{Late}
use Rattle.ato_instance_tree.specs.declared.tree.Node.{Node}
use Rattle.ato_instance_tree.specs.declared.tree.Occurrence.{Occurrence}
use Rattle.ato_instance_tree.specs.declared.tree.Tree.{Tree}
use Rattle.ato_instance_tree.specs.Order.{made_at, nodes}
use Rattle.ato_instance_tree.specs.Targets.{stmt_at}
use Rattle.ato_instance_tree.specs.TreeFaults.{fault_in}
use Rattle.ato_instance_tree.specs.Trees.{tree_said, spot_said}
use Rattle.ato_links.specs.LinkFaults.{left_end}
use Rattle.ato_links.specs.Links.{electrical_of}
use Rattle.ato_connections.specs.declared.given.Given.{Given}
use Rattle.ato_connections.specs.declared.joining.Clash.{Clash}
use Rattle.ato_connections.specs.declared.links.Links.{Links}
use Rattle.ato_connections.specs.Given.{IsGiven}
use Rattle.ato_connections.specs.Linking.{Has}
use Rattle.ato_connections.specs.NodeLinks.{NodeLink, is_clash, stmt_links}

-- the links of an occurrence
abbrev pub entry_links : List SourceFile → List (List ℕ) → List Node → Occurrence → List NodeLink
entry_links files names ns o = flat_map (stmt_links files names ns (electrical_of files names) o.node) (option_to_list (stmt_at files o.block o.line o.part))

-- the links of occurrences
abbrev pub entries_links : List SourceFile → List (List ℕ) → List Node → List Occurrence → List NodeLink
entries_links files names ns os = flat_map (entry_links files names ns) os

-- What is joined is what these occurrences join, and none of them has a clash.
pub record AreLinked (files : List SourceFile) (names : List (List ℕ)) (ns : List Node) (os : List Occurrence) (links : Links) : Type 0 where
  pub each : (link : NodeLink) → Has links link ↔ Among link (entries_links files names ns os)
  pub sound : list_any is_clash (entries_links files names ns os) ≡ false

-- The occurrence of this number is the first one with a clash.
pub record IsClash (files : List SourceFile) (names : List (List ℕ)) (ns : List Node) (os : List Occurrence) (number : ℕ) (c : Clash) : Type 0 where
  pub entry : Occurrence
  pub is : slice_get os number ≡ Some entry
  pub before : list_any is_clash (entries_links files names ns (take number os)) ≡ false
  pub has : list_any is_clash (entry_links files names ns entry) ≡ true
  pub stmt : Stmt
  pub written : stmt_at files entry.block entry.line entry.part ≡ Some stmt
  pub instance : c.instance ≡ entry.node
  pub at : left_end stmt ≡ c.at ∷ []

-- What is known is right, and of this tree.
pub record IsOf (g : Given) (tree : Tree) : Type 0 where
  pub given : IsGiven g
  pub nodes : g.nodes.now ≡ tree.nodes

-- What is joined is what the first so many occurrences of a tree join, and none of them has a clash.
abbrev pub JoinsFirst : Given → Tree → ℕ → Links → Type 0
JoinsFirst g tree count links = AreLinked g.program.now.files g.program.now.names tree.nodes (take count tree.occurrences) links

-- The occurrence of this number is the first one of a tree with a clash.
abbrev pub ClashesFirst : Given → Tree → ℕ → Clash → Type 0
ClashesFirst g tree number c = IsClash g.program.now.files g.program.now.names tree.nodes tree.occurrences number c

-- how many occurrences stand before that of the first fault of paths
abbrev pub sound_before : List Occurrence → Option Late → ℕ
sound_before os None = length os
sound_before os (Some late) = late.occurrence

-- The refusal tells of this fault, or that memory ran out.
abbrev pub Refuses : Fault → Refusal → Type 0
Refuses f (refusal.Fault g) = g ≡ f
Refuses f refusal.NoMemory = ⊤

-- The refusal tells of the clash, with the path of its instance in a tree of these nodes.
abbrev pub RefusesClash : Given → Clash → Refusal → Type 0
RefusesClash g c r = (files : List SourceFile) (entry : ℕ) (path : List ℕ) → NamesDiffer g.program.now.names
    → tree_said g.nodes.now ≡ map (spot_said files entry g.program.now.names) (nodes files entry)
    → slice_get (nodes files entry) c.instance ≡ Some (made_at path)
    → Refuses (fault_in path kinds.CannotConnect (place.Source c.at)) r
