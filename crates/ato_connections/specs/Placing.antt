-- What the numbers of nodes stand for. Only laws speak in these words.
use Rattle.std.specs.Prelude.{◌≡◌, ℕ, ◌<◌, List, length, map, Some, None, ⊤, slice_get}
use Rattle.ato_ast.specs.declared.paths.Path.{Path}
use Rattle.ato_files.specs.Lists.{Among}
use Rattle.ato_files.specs.Blocks.{blocks_of}
use Rattle.ato_files.specs.declared.program.Program.{Program}
use Rattle.ato_instance_tree.specs.declared.tree.Node.{Node}
use Rattle.ato_instance_tree.specs.declared.tree.Occurrence.{Occurrence}
use Rattle.ato_instance_tree.specs.declared.tree.Tree.{Tree}
use Rattle.ato_instance_tree.specs.Elaborated.{IsElaborated, IsLoaded}
use Rattle.ato_instance_tree.specs.Laws.{IsNodeAt}
use Rattle.ato_instance_tree.specs.Order.{Spot, made_at, nodes, occurrences}
use Rattle.ato_instance_tree.specs.TreeFaults.{Limits, tree_fault}
use Rattle.ato_instance_tree.specs.Trees.{tree_said, spot_said}
use Rattle.ato_instance_tree.specs.Walk.{Occ}
use Rattle.ato_links.specs.Links as by_path
use Rattle.ato_links.specs.Links.{Link, join, clash, Electrical, point, quantity, inside, nothing}
use Rattle.ato_links.specs.Linked.{library_of}
use Rattle.ato_connections.specs.declared.sides.Side.{Side}
use Rattle.ato_connections.specs.declared.sides.Side.TheVariants as side
use Rattle.ato_connections.specs.NodeLinks as by_number
use Rattle.ato_connections.specs.NodeLinks.{NodeLink}
use Rattle.ato_connections.specs.Outcome.{entry_links}

-- The side by a number is the side by a place.
abbrev pub IsSide : List Spot → by_path.Side → Side → Type 0
IsSide spots (point at) (side.Point number) = IsNodeAt spots at number
IsSide spots (quantity at) (side.Quantity number) = IsNodeAt spots at number
IsSide spots (inside path) (side.Inside number) = slice_get spots number ≡ Some (made_at path)
IsSide spots nothing side.Nothing = ⊤
IsSide spots _ _ = ⊥

-- The link by numbers is the link by places.
abbrev pub IsLink : List Spot → Link → NodeLink → Type 0
IsLink spots (join a b) (by_number.join p q) = IsNodeAt spots a p × IsNodeAt spots b q
IsLink spots clash by_number.clash = ⊤
IsLink spots _ _ = ⊥

-- Each link by places is one by numbers, and the other way round.
pub record AreSame (spots : List Spot) (ls : List Link) (ms : List NodeLink) : Type 0 where
  pub there : (l : Link) → Among l ls → (m : NodeLink) × Among m ms × IsLink spots l m
  pub back : (m : NodeLink) → Among m ms → (l : Link) × Among l ls × IsLink spots l m

-- The nodes are those of the block of this number, and no fault of the tree stands.
pub record IsKnown (program : Program) (entry : ℕ) (ns : List Node) : Type 0 where
  pub loaded : IsLoaded program
  pub most : Limits
  pub below : entry < length (blocks_of program.files)
  pub sound : tree_fault program.files most (Some entry) ≡ None
  pub told : tree_said ns ≡ map (spot_said program.files entry program.names) (nodes program.files entry)

-- The node of this number is the instance at a path.
pub record IsAt (program : Program) (entry number : ℕ) (path : List ℕ) : Type 0 where
  pub is : slice_get (nodes program.files entry) number ≡ Some (made_at path)

-- ---- laws

-- The member of a name stands where it is found by the name's text.
abbrev pub MembersStand : Type 0
MembersStand = (program : Program) (entry number name : ℕ) (ns : List Node) (path text : List ℕ) → IsKnown program entry ns → IsAt program entry number path
    → slice_get program.names name ≡ Some text
    → IsSide (nodes program.files entry) (by_path.side_at program.files entry path name) (by_number.member_side ns number text)

-- The links of two instances are the same.
abbrev pub PairsAgree : Type 0
PairsAgree = (program : Program) (entry depth i j : ℕ) (ns : List Node) (p q : List ℕ) → IsKnown program entry ns → IsAt program entry i p → IsAt program entry j q
    → AreSame (nodes program.files entry) (by_path.instance_links program.files entry depth p q) (by_number.pair_links program.files ns depth i j)

-- The links of two sides are the same.
abbrev pub SidesAgree : Type 0
SidesAgree = (program : Program) (entry : ℕ) (ns : List Node) (a b : by_path.Side) (x y : Side) → IsKnown program entry ns
    → IsSide (nodes program.files entry) a x → IsSide (nodes program.files entry) b y
    → AreSame (nodes program.files entry) (by_path.links_between program.files entry a b) (by_number.links_between program.files ns x y)

-- The end of a path is the same side.
abbrev pub PathsAgree : Type 0
PathsAgree = (program : Program) (entry number : ℕ) (ns : List Node) (path : List ℕ) (p : Path) → IsKnown program entry ns → IsAt program entry number path
    → IsSide (nodes program.files entry) (by_path.path_side program.files entry path p) (by_number.path_side program.files program.names ns number p)

-- The links of two ends are the same.
abbrev pub EndsAgree : Type 0
EndsAgree = (program : Program) (entry : ℕ) (ns : List Node) (a b : by_path.Side) (x y : Side) → IsKnown program entry ns
    → IsSide (nodes program.files entry) a x → IsSide (nodes program.files entry) b y
    → AreSame (nodes program.files entry) (by_path.end_links program.files entry (library_of program) a b)
    (by_number.end_links program.files program.names ns (library_of program) x y)

-- The links of an occurrence are the same.
abbrev pub EntriesAgree : Type 0
EntriesAgree = (most : Limits) (program : Program) (name : List ℕ) (tree : Tree) → IsLoaded program → (is : IsElaborated most program name tree)
    → (number : ℕ) (e : Occurrence) (o : Occ) → slice_get tree.occurrences number ≡ Some e → slice_get (occurrences program.files is.entry) number ≡ Some o
    → AreSame (nodes program.files is.entry) (by_path.occ_links program.files is.entry (library_of program) o) (entry_links program.files program.names tree.nodes e)
