-- What connections join, by the numbers of nodes. Only private functions and laws speak in these words.
use Rattle.std.specs.Prelude.{ℕ, zero, suc, Bool, true, false, not, ◌&&◌, nat_eq, List, [], ◌∷◌, map, filter, length, Option, Some, None, if◌then◌else◌, option_to_list, slice_get}
use Rattle.std.specs.List.{flat_map, list_any}
use Rattle.std.specs.Option.{option_and_then}
use Rattle.ato_ast.specs.declared.paths.Path.{Path}
use Rattle.ato_ast.specs.declared.paths.Point.{Point}
use Rattle.ato_ast.specs.declared.paths.Point.TheVariants as points
use Rattle.ato_ast.specs.declared.stmts.End.{End}
use Rattle.ato_ast.specs.declared.stmts.End.TheVariants as end
use Rattle.ato_ast.specs.declared.stmts.Stmt.{Stmt}
use Rattle.ato_ast.specs.declared.stmts.Stmt.TheVariants as stmt
use Rattle.ato_files.specs.declared.program.SourceFile.{SourceFile}
use Rattle.ato_files.specs.Blocks.{blocks_of}
use Rattle.ato_files.specs.Lineages.{descends}
use Rattle.ato_instance_tree.specs.declared.tree.Node.{Node}
use Rattle.ato_instance_tree.specs.declared.tree.NodeKind.{NodeKind}
use Rattle.ato_instance_tree.specs.declared.tree.NodeKind.TheVariants as node
use Rattle.ato_instance_tree.specs.Members.{label_text}
use Rattle.ato_instance_tree.specs.Targets.{child, led_from, named_child, pinned}
use Rattle.ato_instance_tree.specs.Trees.{is_pin}
use Rattle.ato_links.specs.Links.{Electrical, is_interface_kind}
use Rattle.ato_connections.specs.declared.sides.Side.{Side}
use Rattle.ato_connections.specs.declared.sides.Side.TheVariants as side

-- ---- members

-- The node is a member of the instance of a number, and no pin.
abbrev pub is_named_in : ℕ → Node → Bool
is_named_in instance n = list_any (nat_eq instance) (option_to_list n.parent) && not (is_pin n.kind)

-- the names of the members of an instance that are no pins
abbrev pub names_in : List Node → ℕ → List (List ℕ)
names_in ns instance = map (λ n. n.name) (filter (is_named_in instance) ns)

-- ---- sides

abbrev pub kind_side : NodeKind → ℕ → Side
kind_side node.Signal number = side.Point number
kind_side node.Pin number = side.Point number
kind_side node.Param number = side.Quantity number
kind_side node.Module number = side.Inside number
kind_side node.Component number = side.Inside number
kind_side node.Interface number = side.Inside number

abbrev pub node_side : ℕ → Option Node → Side
node_side number None = side.Nothing
node_side number (Some n) = kind_side n.kind number

-- what the node of a number is, if there is one
abbrev pub reached : List Node → Option ℕ → Side
reached ns None = side.Nothing
reached ns (Some number) = node_side number (slice_get ns number)

-- A parameter is no end.
abbrev pub at_end : Side → Side
at_end (side.Point number) = side.Point number
at_end (side.Quantity number) = side.Nothing
at_end (side.Inside number) = side.Inside number
at_end side.Nothing = side.Nothing

abbrev pub point_at : Option ℕ → Side
point_at None = side.Nothing
point_at (Some number) = side.Point number

-- the member of this name's text of an instance
abbrev pub member_side : List Node → ℕ → List ℕ → Side
member_side ns instance text = reached ns (child ns instance false text)

-- ---- ends

abbrev pub path_side : List SourceFile → List (List ℕ) → List Node → ℕ → Path → Side
path_side files names ns instance p = at_end (reached ns (option_and_then (pinned files ns p.pin) (led_from names ns p.steps instance)))

abbrev pub point_side : List SourceFile → List (List ℕ) → List Node → ℕ → Point → Side
point_side files names ns instance (points.Signal n at) = point_at (named_child names ns instance n.name.0)
point_side files names ns instance (points.Pin l at) = point_at (child ns instance true (label_text files l))

abbrev pub end_side : List SourceFile → List (List ℕ) → List Node → ℕ → End → Side
end_side files names ns instance (end.Point p) = point_side files names ns instance p
end_side files names ns instance (end.Path p) = path_side files names ns instance p

-- ---- an instance that stands for a point

abbrev pub type_of : List Node → ℕ → Option ℕ
type_of ns number = option_and_then (λ n. n.block) (slice_get ns number)

-- The lineage of the type of the instance holds the library's `Electrical`.
abbrev pub is_electrical : List SourceFile → List Node → Electrical → ℕ → Bool
is_electrical files ns library number = list_any (λ type. list_any (descends files type) (option_to_list library.type)) (option_to_list (type_of ns number))

abbrev pub line_side : List (List ℕ) → List Node → ℕ → Option ℕ → Side
line_side names ns number None = side.Nothing
line_side names ns number (Some line) = reached ns (named_child names ns number line)

abbrev pub as_point : List SourceFile → List (List ℕ) → List Node → Electrical → Side → Side
as_point files names ns library (side.Inside number) = if is_electrical files ns library number then line_side names ns number library.line else side.Inside number
as_point files names ns library (side.Point number) = side.Point number
as_point files names ns library (side.Quantity number) = side.Quantity number
as_point files names ns library side.Nothing = side.Nothing

-- what a side is where the other side is this one
abbrev pub beside : List SourceFile → List (List ℕ) → List Node → Electrical → Side → Side → Side
beside files names ns library (side.Point number) one = as_point files names ns library one
beside files names ns library (side.Quantity number) one = one
beside files names ns library (side.Inside number) one = one
beside files names ns library side.Nothing one = one

-- ---- links

-- Two nodes that are joined, or two sides that cannot be.
pub data NodeLink : Type 0 where
  join : ℕ → ℕ → NodeLink
  clash : NodeLink

abbrev pub is_clash : NodeLink → Bool
is_clash clash = true
is_clash (join p q) = false

abbrev pub side_links : (ℕ → ℕ → List NodeLink) → Side → Side → List NodeLink
side_links deeper (side.Point p) (side.Point q) = join p q ∷ []
side_links deeper (side.Quantity p) (side.Quantity q) = join p q ∷ []
side_links deeper (side.Inside p) (side.Inside q) = deeper p q
side_links deeper _ _ = clash ∷ []

-- the type of an instance, if it is an interface
abbrev pub interface_of : Node → Option ℕ
interface_of n = if is_interface_kind n.kind then n.block else None

abbrev pub interface_at : List Node → ℕ → Option ℕ
interface_at ns number = option_and_then interface_of (slice_get ns number)

-- the one of two instances with the one of two types that the other is or descends from
abbrev pub elder_of : List SourceFile → ℕ → ℕ → ℕ → ℕ → Option ℕ
elder_of files p q a b = if descends files b a then Some p else (if descends files a b then Some q else None)

-- the one of two interfaces whose members they have in common
abbrev pub elder : List SourceFile → List Node → ℕ → ℕ → Option ℕ
elder files ns p q = option_and_then (λ a. option_and_then (elder_of files p q a) (interface_at ns q)) (interface_at ns p)

abbrev pub elder_links : List Node → (ℕ → ℕ → List NodeLink) → ℕ → ℕ → Option ℕ → List NodeLink
elder_links ns deeper p q None = clash ∷ []
elder_links ns deeper p q (Some one) = flat_map (λ text. side_links deeper (member_side ns p text) (member_side ns q text)) (names_in ns one)

-- the links of the members of two instances
abbrev pub members_links : List SourceFile → List Node → (ℕ → ℕ → List NodeLink) → ℕ → ℕ → List NodeLink
members_links files ns deeper p q = elder_links ns deeper p q (elder files ns p q)

-- the links of two instances, down to some depth
abbrev pub pair_links : List SourceFile → List Node → ℕ → ℕ → ℕ → List NodeLink
pair_links files ns zero p q = []
pair_links files ns (suc depth) p q = members_links files ns (pair_links files ns depth) p q

abbrev pub links_between : List SourceFile → List Node → Side → Side → List NodeLink
links_between files ns a b = side_links (pair_links files ns (suc (length (blocks_of files)))) a b

-- the links of two ends
abbrev pub end_links : List SourceFile → List (List ℕ) → List Node → Electrical → Side → Side → List NodeLink
end_links files names ns library a b = links_between files ns (beside files names ns library b a) (beside files names ns library a b)

-- ---- statements

-- the links of a point that is declared in the instance of a number, and the end behind it
abbrev pub point_links : List SourceFile → List (List ℕ) → List Node → Electrical → ℕ → Point → Option End → List NodeLink
point_links files names ns library instance p e =
    flat_map (λ x. end_links files names ns library (point_side files names ns instance p) (end_side files names ns instance x)) (option_to_list e)

-- the links of a statement of the instance of a number
abbrev pub stmt_links : List SourceFile → List (List ℕ) → List Node → Electrical → ℕ → Stmt → List NodeLink
stmt_links files names ns library instance (stmt.Point p e at) = point_links files names ns library instance p e
stmt_links files names ns library instance (stmt.Connect p e at) =
    end_links files names ns library (path_side files names ns instance p) (end_side files names ns instance e)
stmt_links files names ns library instance _ = []
