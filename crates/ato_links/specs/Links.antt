-- What a written connection joins: pairs of places in the tree, carried down by the names of members.
use Rattle.std.specs.Prelude.{ℕ, zero, suc, Bool, true, false, ◌&&◌, List, [], ◌∷◌, length, Option, Some, None, if◌then◌else◌, option_to_list, position, codes}
use Rattle.std.specs.List.{flat_map, list_any}
use Rattle.std.specs.Option.{option_and_then}
use Rattle.std.specs.Str.{bytes_eq}
use Rattle.ato_base.specs.declared.places.Span.{Span}
use Rattle.ato_ast.specs.declared.paths.Path.{Path}
use Rattle.ato_ast.specs.declared.paths.Point.{Point}
use Rattle.ato_ast.specs.declared.paths.Point.TheVariants as points
use Rattle.ato_ast.specs.declared.stmts.End.{End}
use Rattle.ato_ast.specs.declared.stmts.End.TheVariants as end
use Rattle.ato_ast.specs.declared.stmts.Stmt.{Stmt}
use Rattle.ato_ast.specs.declared.stmts.Stmt.TheVariants as stmt
use Rattle.ato_files.specs.declared.program.SourceFile.{SourceFile}
use Rattle.ato_files.specs.Blocks.{blocks_of, own}
use Rattle.ato_files.specs.Lineages.{descends}
use Rattle.ato_files.specs.Members.{Kind, signal, instance, param}
use Rattle.ato_instance_tree.specs.declared.tree.NodeKind.{NodeKind}
use Rattle.ato_instance_tree.specs.declared.tree.NodeKind.TheVariants as node
use Rattle.ato_instance_tree.specs.Types.{type_kind}
use Rattle.ato_instance_tree.specs.Members.{Member, pin, named, members, source_text, label_text}
use Rattle.ato_instance_tree.specs.Walk.{Occ, type_at}
use Rattle.ato_instance_tree.specs.Order.{occurrences}
use Rattle.ato_instance_tree.specs.Paths.{Found, lost, free, member_of, pin_of, member_at, number_place, find_path}
use Rattle.ato_instance_tree.specs.Laws.{SpotPlace, at_names, at_label}

-- ---- sides

-- A side of a connection, at its end or reached from there: a point or a parameter at a place, the instance at a path, or nothing that
-- can be joined.
pub data Side : Type 0 where
  point : SpotPlace → Side
  quantity : SpotPlace → Side
  inside : List ℕ → Side
  nothing : Side

-- the member of an instance that is of a kind
abbrev pub side_of : List ℕ → ℕ → Option Kind → Side
side_of path name None = nothing
side_of path name (Some signal) = point (at_names (name ∷ path))
side_of path name (Some param) = quantity (at_names (name ∷ path))
side_of path name (Some (instance type)) = inside (name ∷ path)

-- the member of this name of the instance at a path
abbrev pub side_at : List SourceFile → ℕ → List ℕ → ℕ → Side
side_at files entry path name = side_of path name (member_at files entry path name)

-- ---- ends

-- the member at an end; a parameter is no end
abbrev pub member_side : List ℕ → ℕ → Kind → Side
member_side path name signal = point (at_names (name ∷ path))
member_side path name param = nothing
member_side path name (instance type) = inside (name ∷ path)

-- the pin whose label is the number at a place
abbrev pub pin_side : List SourceFile → List ℕ → List Span → Side
pin_side files path [] = nothing
pin_side files path (number ∷ more) = point (at_label path (source_text files number))

-- what a path leads to; `numbers` is where the number behind it stands
abbrev pub found_side : List SourceFile → List Span → Found → Side
found_side files numbers (lost at) = nothing
found_side files numbers (free path n) = nothing
found_side files numbers (member_of path n k) = member_side path n.name.0 k
found_side files numbers (pin_of path n) = pin_side files path numbers

abbrev pub path_side : List SourceFile → ℕ → List ℕ → Path → Side
path_side files entry path p = found_side files (flat_map number_place (option_to_list p.pin)) (find_path files entry path p)

-- a point that is declared where it is connected
abbrev pub point_side : List SourceFile → List ℕ → Point → Side
point_side files path (points.Signal n at) = point (at_names (n.name.0 ∷ path))
point_side files path (points.Pin l at) = point (at_label path (label_text files l))

-- the end of a connection in the instance at a path
abbrev pub end_side : List SourceFile → ℕ → List ℕ → End → Side
end_side files entry path (end.Point p) = point_side files path p
end_side files entry path (end.Path p) = path_side files entry path p

-- ---- an instance that stands for a point

-- The library's type `Electrical`, by its number, and the number of the name `line`.
pub record Electrical : Type 0 where
  pub type : Option ℕ
  pub line : Option ℕ

abbrev pub electrical_of : List SourceFile → List (List ℕ) → Electrical
electrical_of files names = record {
  type = option_and_then (own files 0) (position (bytes_eq (codes "Electrical")) names);
  line = position (bytes_eq (codes "line")) names;
}

-- The lineage of the type of the instance holds it.
abbrev pub is_electrical : List SourceFile → ℕ → Electrical → List ℕ → Bool
is_electrical files entry library path = list_any (λ type. list_any (descends files type) (option_to_list library.type)) (option_to_list (type_at files entry path))

abbrev pub line_side : List SourceFile → ℕ → List ℕ → Option ℕ → Side
line_side files entry path None = nothing
line_side files entry path (Some line) = side_at files entry path line

abbrev pub as_point : List SourceFile → ℕ → Electrical → Side → Side
as_point files entry library (inside path) = if is_electrical files entry library path then line_side files entry path library.line else inside path
as_point files entry library (point at) = point at
as_point files entry library (quantity at) = quantity at
as_point files entry library nothing = nothing

-- what a side is where the other side is this one: beside a point, an instance with `Electrical` in its lineage stands for its `line`
abbrev pub beside : List SourceFile → ℕ → Electrical → Side → Side → Side
beside files entry library (point at) side = as_point files entry library side
beside files entry library (quantity at) side = side
beside files entry library (inside path) side = side
beside files entry library nothing side = side

-- ---- links

-- Two places that are joined, or two sides that cannot be.
pub data Link : Type 0 where
  join : SpotPlace → SpotPlace → Link
  clash : Link

abbrev pub is_interface_kind : NodeKind → Bool
is_interface_kind node.Interface = true
is_interface_kind _ = false

abbrev pub is_interface : List SourceFile → ℕ → Bool
is_interface files type = is_interface_kind (type_kind files type)

-- the one of two types that the other is or descends from
abbrev pub older : List SourceFile → ℕ → ℕ → Option ℕ
older files a b = if descends files b a then Some a else (if descends files a b then Some b else None)

-- the interface whose members two types have in common
abbrev pub shared : List SourceFile → ℕ → ℕ → Option ℕ
shared files a b = if is_interface files a && is_interface files b then older files a b else None

abbrev pub shared_at : List SourceFile → ℕ → List ℕ → List ℕ → Option ℕ
shared_at files entry p q = option_and_then (λ a. option_and_then (shared files a) (type_at files entry q)) (type_at files entry p)

-- A point joins a point, and a parameter a parameter; `deeper` gives the links of two instances.
abbrev pub side_links : (List ℕ → List ℕ → List Link) → Side → Side → List Link
side_links deeper (point a) (point b) = join a b ∷ []
side_links deeper (quantity a) (quantity b) = join a b ∷ []
side_links deeper (inside p) (inside q) = deeper p q
side_links deeper _ _ = clash ∷ []

-- the links of the members of one name; interfaces have no pins
abbrev pub member_links : List SourceFile → ℕ → (List ℕ → List ℕ → List Link) → List ℕ → List ℕ → Member → List Link
member_links files entry deeper p q (pin text) = []
member_links files entry deeper p q (named n k) = side_links deeper (side_at files entry p n.name.0) (side_at files entry q n.name.0)

-- Two instances are joined by the members of the interface that they have in common.
abbrev pub shared_links : List SourceFile → ℕ → (List ℕ → List ℕ → List Link) → List ℕ → List ℕ → Option ℕ → List Link
shared_links files entry deeper p q None = clash ∷ []
shared_links files entry deeper p q (Some type) = flat_map (member_links files entry deeper p q) (members files (Some type))

-- The same, down to some depth. Where no fault of the tree stands, no path has more names than there are blocks.
abbrev pub instance_links : List SourceFile → ℕ → ℕ → List ℕ → List ℕ → List Link
instance_links files entry zero p q = []
instance_links files entry (suc depth) p q = shared_links files entry (instance_links files entry depth) p q (shared_at files entry p q)

abbrev pub links_between : List SourceFile → ℕ → Side → Side → List Link
links_between files entry a b = side_links (instance_links files entry (suc (length (blocks_of files)))) a b

-- the links of two ends
abbrev pub end_links : List SourceFile → ℕ → Electrical → Side → Side → List Link
end_links files entry library a b = links_between files entry (beside files entry library b a) (beside files entry library a b)

-- ---- statements

-- the links of a statement of the instance at a path
abbrev pub stmt_links : List SourceFile → ℕ → Electrical → List ℕ → Stmt → List Link
stmt_links files entry library path (stmt.Point p e at) = flat_map (λ x. end_links files entry library (point_side files path p) (end_side files entry path x)) (option_to_list e)
stmt_links files entry library path (stmt.Connect p e at) = end_links files entry library (path_side files entry path p) (end_side files entry path e)
stmt_links files entry library path _ = []

abbrev pub occ_links : List SourceFile → ℕ → Electrical → Occ → List Link
occ_links files entry library o = stmt_links files entry library o.path o.at.stmt

-- the links of a project, in written order
abbrev pub links : List SourceFile → ℕ → Electrical → List Link
links files entry library = flat_map (occ_links files entry library) (occurrences files entry)
