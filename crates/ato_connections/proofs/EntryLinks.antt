-- The links of an occurrence are the same by the numbers of nodes.
use Rattle.std.proofs.Common.{◌≡◌, ℕ, Bool, true, false, if◌then◌else◌, List, [], ◌∷◌, ◌++◌, map, Option, Some, None, refl, ap, sym, subst, ◌∙◌, append-nil}
use Rattle.std.specs.Prelude.{slice_get, option_to_list, position, codes}
use Rattle.std.specs.List.{flat_map, list_any}
use Rattle.std.specs.Option.{option_and_then, option_map}
use Rattle.std.specs.Str.{bytes_eq}
use Rattle.std.proofs.lemmas.Option.{same_Some, slice_get-get_or}
use Rattle.std.proofs.lemmas.List.Quantifiers.{position-Some}
use Rattle.ato_ast.specs.declared.paths.Path.{Path}
use Rattle.ato_ast.specs.declared.paths.Point.{Point}
use Rattle.ato_ast.specs.declared.paths.Point.TheVariants as points
use Rattle.ato_ast.specs.declared.stmts.End.TheVariants as end
use Rattle.ato_ast.specs.declared.stmts.Stmt.{Stmt}
use Rattle.ato_ast.specs.declared.stmts.Stmt.TheVariants as stmt
use Rattle.ato_files.specs.declared.program.Program.{Program}
use Rattle.ato_files.specs.Lineages.{descends}
use Rattle.ato_files.specs.Lists.{Among, here, there}
use Rattle.ato_files.specs.Members as files_members
use Rattle.ato_files.specs.Members.{decls, point_decls}
use Rattle.ato_instance_tree.specs.declared.tree.Node.{Node}
use Rattle.ato_instance_tree.specs.declared.tree.Occurrence.{Occurrence}
use Rattle.ato_instance_tree.specs.declared.tree.Tree.{Tree}
use Rattle.ato_instance_tree.specs.Types.{Located, type_stmts, stmts_of_type}
use Rattle.ato_instance_tree.specs.Members.{label_text}
use Rattle.ato_instance_tree.specs.Walk.{Occ, type_at}
use Rattle.ato_instance_tree.specs.Order.{Spot, made_at, nodes, instances, occs_at, occurrences}
use Rattle.ato_instance_tree.specs.Targets.{child, stmt_at}
use Rattle.ato_instance_tree.specs.Trees.{SaidOcc, Where, where_at, node_paths, steps, occ_said, walked_said}
use Rattle.ato_instance_tree.specs.TreeFaults.{Limits, tree_fault}
use Rattle.ato_instance_tree.specs.Elaborated.{IsElaborated, IsLoaded}
use Rattle.ato_instance_tree.specs.Laws.{at_names, at_label}
use Rattle.ato_instance_tree.proofs.KnownLaws.{in_map}
use Rattle.ato_instance_tree.proofs.LimitLaws.{among_instances}
use Rattle.ato_instance_tree.proofs.NodesLaws.{are_nodes, into, out}
use Rattle.ato_instance_tree.proofs.PlaceLaws.{place_in}
use Rattle.ato_instance_tree.proofs.SpotLaws.{in_flat_map, at_in}
use Rattle.ato_instance_tree.proofs.StatementLaws.{same_said}
use Rattle.ato_instance_tree.proofs.TargetLaws.{entry_below}
use Rattle.ato_instance_tree.proofs.WalkedLaws.{walked_stands}
use Rattle.ato_links.specs.Links as by_path
use Rattle.ato_links.specs.Links.{Link, point, quantity, inside, nothing, Electrical}
use Rattle.ato_links.specs.Linked.{library_of}
use Rattle.ato_links.proofs.PlacedLaws.{point_placed}
use Rattle.ato_connections.specs.declared.sides.Side.{Side}
use Rattle.ato_connections.specs.declared.sides.Side.TheVariants as side
use Rattle.ato_connections.specs.NodeLinks as by_number
use Rattle.ato_connections.specs.NodeLinks.{NodeLink, type_of, reached, point_at}
use Rattle.ato_connections.specs.Placing.{IsSide, AreSame, IsKnown, EndsAgree, EntriesAgree}
use Rattle.ato_connections.proofs.ChildLaws.{node_said, paths, apart, at_place, label_some}
use Rattle.ato_connections.proofs.EndSides as end_sides
use Rattle.ato_connections.proofs.EndSides.{child_named}
use Rattle.ato_connections.proofs.MemberSides as member_sides
use Rattle.ato_connections.proofs.PairLaws.{sides}

-- ---- lists

into_map : {X Y : Type 0} (f : X → Y) (xs : List X) (x : X) → Among x xs → Among (f x) (map f xs)
into_map f [] x h = elim h [ ]
into_map f (y ∷ ys) x here = here
into_map f (y ∷ ys) x (there h) = there (into_map f ys x h)

none_same : (spots : List Spot) → AreSame spots [] []
none_same spots = record { there = λ l h. elim h [ ]; back = λ m h. elim h [ ] }

one_same : (spots : List Spot) (ls : List Link) (ms : List NodeLink) → AreSame spots ls ms → AreSame spots (ls ++ []) (ms ++ [])
one_same spots ls ms h = subst (λ l. AreSame spots l (ms ++ [])) (sym (append-nil ls)) (subst (AreSame spots ls) (sym (append-nil ms)) h)

-- ---- ends

module _ (program : Program) (entry : ℕ) (ns : List Node) (known : IsKnown program entry ns) where
  abbrev all : List Spot
  all = nodes program.files entry

  abbrev library : Electrical
  library = library_of program

  made_type : (number : ℕ) (path : List ℕ) → slice_get all number ≡ Some (made_at path) → type_of ns number ≡ type_at program.files entry path
  made_type number path e =
      let s = node_said program entry ns known number (made_at path) e in
      ap (option_and_then (λ (n : Node). n.block)) s.at ∙ sym s.block

  electrical_same : (number : ℕ) (path : List ℕ) → slice_get all number ≡ Some (made_at path)
      → by_number.is_electrical program.files ns library number ≡ by_path.is_electrical program.files entry library path
  electrical_same number path e = ap
      (λ (o : Option ℕ). list_any (λ type. list_any (descends program.files type) (option_to_list library.type)) (option_to_list o)) (made_type number path e)

  line_agrees : (number : ℕ) (path : List ℕ) → slice_get all number ≡ Some (made_at path) → (line : Option ℕ)
      → position (bytes_eq (codes "line")) program.names ≡ line
      → IsSide all (by_path.line_side program.files entry path line) (by_number.line_side program.names ns number line)
  line_agrees number path e None f = tt
  line_agrees number path e (Some line) f =
      let there = slice_get-get_or program.names line [] (position-Some (bytes_eq (codes "line")) program.names line [] f).0 in
      subst (λ (o : Option (List ℕ)). IsSide all (by_path.side_at program.files entry path line) (reached ns (option_and_then (child ns number false) o)))
      (sym there)
      (member_sides.stand program entry number line ns path _ known (record { is = e }) there)

  in_agrees : (number : ℕ) (path : List ℕ) → slice_get all number ≡ Some (made_at path) → (b c : Bool) → c ≡ b
      → IsSide all (if b then by_path.line_side program.files entry path library.line else inside path)
      (if c then by_number.line_side program.names ns number library.line else side.Inside number)
  in_agrees number path e true c f =
      subst (λ (d : Bool). IsSide all (by_path.line_side program.files entry path library.line)
      (if d then by_number.line_side program.names ns number library.line else side.Inside number)) (sym f)
      (line_agrees number path e library.line refl)
  in_agrees number path e false c f =
      subst (λ (d : Bool). IsSide all (inside path) (if d then by_number.line_side program.names ns number library.line else side.Inside number)) (sym f) e

  as_agrees : (a : by_path.Side) (x : Side) → IsSide all a x
      → IsSide all (by_path.as_point program.files entry library a) (by_number.as_point program.files program.names ns library x)
  as_agrees (inside path) (side.Inside number) h =
      in_agrees number path h (by_path.is_electrical program.files entry library path) (by_number.is_electrical program.files ns library number)
      (electrical_same number path h)
  as_agrees (inside path) (side.Point number) h = absurd h
  as_agrees (inside path) (side.Quantity number) h = absurd h
  as_agrees (inside path) side.Nothing h = absurd h
  as_agrees (point at) (side.Point number) h = h
  as_agrees (point at) (side.Quantity number) h = absurd h
  as_agrees (point at) (side.Inside number) h = absurd h
  as_agrees (point at) side.Nothing h = absurd h
  as_agrees (quantity at) (side.Quantity number) h = h
  as_agrees (quantity at) (side.Point number) h = absurd h
  as_agrees (quantity at) (side.Inside number) h = absurd h
  as_agrees (quantity at) side.Nothing h = absurd h
  as_agrees nothing side.Nothing h = tt
  as_agrees nothing (side.Point number) h = absurd h
  as_agrees nothing (side.Quantity number) h = absurd h
  as_agrees nothing (side.Inside number) h = absurd h

  beside_agrees : (b a : by_path.Side) (y x : Side) → IsSide all b y → IsSide all a x
      → IsSide all (by_path.beside program.files entry library b a) (by_number.beside program.files program.names ns library y x)
  beside_agrees (point at) a (side.Point number) x h k = as_agrees a x k
  beside_agrees (point at) a (side.Quantity number) x h k = absurd h
  beside_agrees (point at) a (side.Inside number) x h k = absurd h
  beside_agrees (point at) a side.Nothing x h k = absurd h
  beside_agrees (quantity at) a (side.Quantity number) x h k = k
  beside_agrees (quantity at) a (side.Point number) x h k = absurd h
  beside_agrees (quantity at) a (side.Inside number) x h k = absurd h
  beside_agrees (quantity at) a side.Nothing x h k = absurd h
  beside_agrees (inside path) a (side.Inside number) x h k = k
  beside_agrees (inside path) a (side.Point number) x h k = absurd h
  beside_agrees (inside path) a (side.Quantity number) x h k = absurd h
  beside_agrees (inside path) a side.Nothing x h k = absurd h
  beside_agrees nothing a side.Nothing x h k = k
  beside_agrees nothing a (side.Point number) x h k = absurd h
  beside_agrees nothing a (side.Quantity number) x h k = absurd h
  beside_agrees nothing a (side.Inside number) x h k = absurd h

pub ends : EndsAgree
ends program entry ns a b x y known h k =
    let l = library_of program in
    sides program entry ns (by_path.beside program.files entry l b a) (by_path.beside program.files entry l a b)
    (by_number.beside program.files program.names ns l y x) (by_number.beside program.files program.names ns l x y) known
    (beside_agrees program entry ns known b a y x k h) (beside_agrees program entry ns known a b x y h k)

-- ---- statements

module _ (program : Program) (entry : ℕ) (ns : List Node) (known : IsKnown program entry ns) (number : ℕ) (path : List ℕ)
    (at : slice_get (nodes program.files entry) number ≡ Some (made_at path)) where
  abbrev spots : List Spot
  spots = nodes program.files entry

  abbrev stmts : List Stmt
  stmts = stmts_of_type program.files (type_at program.files entry path)

  -- a point that the instance's type declares
  point_agrees : (s : Stmt) (p : Point) → Among s stmts → Among p (files_members.points s) → decls s ≡ flat_map point_decls (files_members.points s)
      → IsSide spots (by_path.point_side program.files path p) (by_number.point_side program.files program.names ns number p)
  point_agrees s (points.Signal n keyword) m k e =
      let are = are_nodes program.files entry known.most known.below known.sound in
      let up = out (made_at path) spots (at_in (made_at path) spots number at) in
      let placed = point_placed program.files entry are path up s (points.Signal n keyword) m k e in
      let j = place_in placed.0 spots (into placed.0 spots placed.1) in
      subst (λ (o : Option ℕ). IsSide spots (point (at_names (n.name.0 ∷ path))) (point_at o))
      (sym (child_named program entry ns known number j.0 n.name.0 path placed.0 at j.1 placed.2))
      (record { node = placed.0; is = j.1; at = placed.2 })
  point_agrees s (points.Pin l keyword) m k e =
      let are = are_nodes program.files entry known.most known.below known.sound in
      let up = out (made_at path) spots (at_in (made_at path) spots number at) in
      let placed = point_placed program.files entry are path up s (points.Pin l keyword) m k e in
      let j = place_in placed.0 spots (into placed.0 spots placed.1) in
      subst (λ (o : Option ℕ). IsSide spots (point (at_label path (label_text program.files l))) (point_at o))
      (sym (label_some program entry ns known number j.0 path (label_text program.files l) placed.0 at j.1 placed.2))
      (record { node = placed.0; is = j.1; at = placed.2 })

  path_agrees : (p : Path) → IsSide spots (by_path.path_side program.files entry path p) (by_number.path_side program.files program.names ns number p)
  path_agrees p = end_sides.paths program entry number ns path p known (record { is = at })

  both_ends : (a b : by_path.Side) (x y : Side) → IsSide spots a x → IsSide spots b y
      → AreSame spots (by_path.end_links program.files entry (library_of program) a b)
      (by_number.end_links program.files program.names ns (library_of program) x y)
  both_ends a b x y h k = ends program entry ns a b x y known h k

  pub stmt_agrees : (s : Stmt) → Among s stmts
      → AreSame spots (by_path.stmt_links program.files entry (library_of program) path s)
      (by_number.stmt_links program.files program.names ns (library_of program) number s)
  stmt_agrees (stmt.Connect p (end.Path q) span) m = both_ends (by_path.path_side program.files entry path p) (by_path.path_side program.files entry path q)
      (by_number.path_side program.files program.names ns number p) (by_number.path_side program.files program.names ns number q) (path_agrees p)
      (path_agrees q)
  stmt_agrees (stmt.Connect p (end.Point q) span) m = both_ends (by_path.path_side program.files entry path p) (by_path.point_side program.files path q)
      (by_number.path_side program.files program.names ns number p) (by_number.point_side program.files program.names ns number q) (path_agrees p)
      (point_agrees (stmt.Connect p (end.Point q) span) q m here refl)
  stmt_agrees (stmt.Point p None span) m = none_same spots
  stmt_agrees (stmt.Point p (Some (end.Path q)) span) m =
      one_same spots (by_path.end_links program.files entry (library_of program) (by_path.point_side program.files path p)
      (by_path.path_side program.files entry path q))
      (by_number.end_links program.files program.names ns (library_of program) (by_number.point_side program.files program.names ns number p)
      (by_number.path_side program.files program.names ns number q))
      (both_ends (by_path.point_side program.files path p) (by_path.path_side program.files entry path q)
      (by_number.point_side program.files program.names ns number p) (by_number.path_side program.files program.names ns number q)
      (point_agrees (stmt.Point p (Some (end.Path q)) span) p m here refl) (path_agrees q))
  stmt_agrees (stmt.Point p (Some (end.Point q)) span) m =
      one_same spots (by_path.end_links program.files entry (library_of program) (by_path.point_side program.files path p)
      (by_path.point_side program.files path q))
      (by_number.end_links program.files program.names ns (library_of program) (by_number.point_side program.files program.names ns number p)
      (by_number.point_side program.files program.names ns number q))
      (both_ends (by_path.point_side program.files path p) (by_path.point_side program.files path q)
      (by_number.point_side program.files program.names ns number p) (by_number.point_side program.files program.names ns number q)
      (point_agrees (stmt.Point p (Some (end.Point q)) span) p m here refl) (point_agrees (stmt.Point p (Some (end.Point q)) span) q m (there here) refl))
  stmt_agrees (stmt.Pass span) m = none_same spots
  stmt_agrees (stmt.Docs text) m = none_same spots
  stmt_agrees (stmt.Replace p type span) m = none_same spots
  stmt_agrees (stmt.Assign p v span) m = none_same spots
  stmt_agrees (stmt.Make n type span) m = none_same spots
  stmt_agrees (stmt.Declare n unit v span) m = none_same spots
  stmt_agrees (stmt.Assert e c span) m = none_same spots

-- ---- occurrences

module _ (most : Limits) (program : Program) (name : List ℕ) (tree : Tree) (loaded : IsLoaded program) (is : IsElaborated most program name tree) where
  pub known : IsKnown program is.entry tree.nodes
  known = record {
    loaded = loaded;
    most = most;
    below = entry_below program name is.entry is.named;
    sound = ap (tree_fault program.files most) (sym is.named) ∙ is.sound;
    told = is.is.told;
  }

  -- An occurrence of the tree, beside the one of the walk.
  pub record IsEntry (e : Occurrence) (o : Occ) : Type 0 where
    pub node : slice_get (nodes program.files is.entry) e.node ≡ Some (made_at o.path)
    pub written : stmt_at program.files e.block e.line e.part ≡ Some o.at.stmt
    pub stmt : Among o.at.stmt (stmts_of_type program.files (type_at program.files is.entry o.path))

  pub entry_is : (number : ℕ) (e : Occurrence) (o : Occ) → slice_get tree.occurrences number ≡ Some e
      → slice_get (occurrences program.files is.entry) number ≡ Some o → IsEntry e o
  entry_is number e o f g =
      let said : occ_said (node_paths tree.nodes) e ≡ walked_said program.names o = same_Some (occ_said (node_paths tree.nodes) e) (walked_said program.names o)
      (sym (ap (option_map (occ_said (node_paths tree.nodes))) f)
      ∙ same_said (node_paths tree.nodes) program.names tree.occurrences (occurrences program.files is.entry) number is.is.written
      ∙ ap (option_map (walked_said program.names)) g) in
      let path = in_flat_map (occs_at program.files is.entry) o (instances program.files is.entry) (at_in o (occurrences program.files is.entry) number g) in
      let stmts = flat_map (type_stmts program.files) (option_to_list (type_at program.files is.entry path.0)) in
      let l = in_map (λ (l : Located). record { path = path.0; at = l }) o stmts path.2 in
      let i = place_in (made_at path.0) (nodes program.files is.entry) (among_instances path.0 (nodes program.files is.entry) path.1) in
      let from : made_at path.0 ≡ made_at o.path = ap (λ (y : Occ). made_at y.path) (sym l.2) in
      let here_at = at_place program is.entry tree.nodes known i.0 (made_at path.0) (at_names o.path) i.1 (ap (λ (y : Occ). at_names y.path) (sym l.2)) in
      let there_at : where_at (node_paths tree.nodes) e.node ≡ Some (steps program.names o.path) = ap (λ (s : SaidOcc). s.path) said in
      let same : e.node ≡ i.0 = apart program is.entry tree.nodes known e.node i.0 (steps program.names o.path)
      (ap (λ (ws : List Where). where_at ws e.node) (sym (paths program is.entry tree.nodes known)) ∙ there_at) here_at in
      record {
        node = ap (slice_get (nodes program.files is.entry)) same ∙ i.1 ∙ ap Some from;
        written = ap (λ (s : SaidOcc). stmt_at program.files s.block s.line s.part) said ∙ walked_stands program.files is.entry number o g;
        stmt = subst (λ (y : Occ). Among y.at.stmt (stmts_of_type program.files (type_at program.files is.entry y.path))) (sym l.2)
            (into_map (λ (x : Located). x.stmt) stmts l.0 (out l.0 stmts l.1));
      }

pub entries : EntriesAgree
entries most program name tree loaded is number e o f g =
    let it = entry_is most program name tree loaded is number e o f g in
    let ls = by_path.stmt_links program.files is.entry (library_of program) o.path o.at.stmt in
    let ms = by_number.stmt_links program.files program.names tree.nodes (library_of program) e.node o.at.stmt in
    subst (λ (s : Option Stmt). AreSame (nodes program.files is.entry) ls
    (flat_map (by_number.stmt_links program.files program.names tree.nodes (library_of program) e.node) (option_to_list s)))
    (sym it.written)
    (subst (AreSame (nodes program.files is.entry) ls) (sym (append-nil ms))
    (stmt_agrees program is.entry tree.nodes (known most program name tree loaded is) e.node o.path it.node o.at.stmt it.stmt))
