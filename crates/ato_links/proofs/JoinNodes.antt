-- Where no fault of the tree stands, whatever the connections of a project join is a node.
use Rattle.std.proofs.Common.{◌≡◌, ℕ, ◌<◌, Bool, true, List, [], ◌∷◌, ◌++◌, length, map, Some, None, refl, subst, inl, inr}
use Rattle.std.specs.Prelude.{◌⊎◌, filter_map, option_to_list}
use Rattle.std.specs.List.{flat_map, list_all}
use Rattle.std.proofs.lemmas.Bool.{and_from}
use Rattle.ato_ast.specs.declared.stmts.End.TheVariants as end
use Rattle.ato_ast.specs.declared.stmts.Stmt.{Stmt}
use Rattle.ato_ast.specs.declared.stmts.Stmt.TheVariants as stmt
use Rattle.ato_files.specs.declared.program.SourceFile.{SourceFile}
use Rattle.ato_files.specs.Lists.{Among, here, there}
use Rattle.ato_files.specs.Blocks.{blocks_of}
use Rattle.ato_instance_tree.specs.Types.{Located, type_stmts, stmts_of_type}
use Rattle.ato_instance_tree.specs.Walk.{Occ, type_at}
use Rattle.ato_instance_tree.specs.Order.{Spot, leaf, made_at, nodes, instance_of, instances, occs_at, occurrences}
use Rattle.ato_instance_tree.specs.TreeFaults.{Limits, tree_fault}
use Rattle.ato_instance_tree.specs.Laws.{SpotPlace, AreNodes}
use Rattle.ato_instance_tree.proofs.NodesLaws.{are_nodes}
use Rattle.ato_links.specs.Links.{Link, join, clash, Side, Electrical, point_side, path_side, beside, end_links, stmt_links, occ_links, links}
use Rattle.ato_links.specs.NodeJoins.{number_at, is_placed}
use Rattle.ato_links.specs.Whole.{HasNode, IsPlaced, JoinsAreNodes}
use Rattle.ato_links.proofs.WholeLaws.{placed}
use Rattle.ato_links.proofs.EndLaws.{number_there, both_there, path_placed, beside_placed}
use Rattle.ato_links.proofs.PlacedLaws.{point_placed}

-- ---- lists

in_either : {Y : Type 0} {y : Y} (cs bs : List Y) → Among y (cs ++ bs) → Among y cs ⊎ Among y bs
in_either [] bs h = inr h
in_either (c ∷ cs) bs here = inl here
in_either (c ∷ cs) bs (there h) = elim (in_either cs bs h) [ inl k ↦ inl (there k) | inr k ↦ inr k ]

from_flat : {X Y : Type 0} (f : X → List Y) (xs : List X) (y : Y) → Among y (flat_map f xs) → (x : X) × Among x xs × Among y (f x)
from_flat f [] y h = elim h [ ]
from_flat f (x ∷ xs) y h = elim (in_either (f x) (flat_map f xs) h) [ inl k ↦ (x, here, k) | inr k ↦ let it = from_flat f xs y k in (it.0, there it.1, it.2) ]

from_map : {X Y : Type 0} (f : X → Y) (xs : List X) (y : Y) → Among y (map f xs) → (x : X) × Among x xs × (f x ≡ y)
from_map f [] y h = elim h [ ]
from_map f (x ∷ xs) y here = (x, here, refl)
from_map f (x ∷ xs) y (there h) = let it = from_map f xs y h in (it.0, there it.1, it.2)

into_map : {X Y : Type 0} (f : X → Y) (xs : List X) (x : X) → Among x xs → Among (f x) (map f xs)
into_map f [] x h = elim h [ ]
into_map f (y ∷ ys) x here = here
into_map f (y ∷ ys) x (there h) = there (into_map f ys x h)

all_from : {X : Type 0} (test : X → Bool) (xs : List X) → ((x : X) → Among x xs → test x ≡ true) → list_all test xs ≡ true
all_from test [] h = refl
all_from test (x ∷ xs) h = and_from (test x) (list_all test xs) (h x here) (all_from test xs (λ y m. h y (there m)))

is_instance : (ss : List Spot) (path : List ℕ) → Among path (filter_map instance_of ss) → Among (made_at path) ss
is_instance [] path h = elim h [ ]
is_instance (leaf up m ∷ ss) path h = there (is_instance ss path h)
is_instance (made_at up ∷ ss) path here = here
is_instance (made_at up ∷ ss) path (there h) = there (is_instance ss path h)

-- ---- occurrences

module _ (files : List SourceFile) (entry : ℕ) (most : Limits) (library : Electrical) (low : entry < length (blocks_of files)) (none : tree_fault files most (Some entry) ≡ None) where
  are : AreNodes files entry
  are = are_nodes files entry most low none

  of_occurrence : (o : Occ) → Among o (occurrences files entry) → Among (made_at o.path) (nodes files entry) × Among o.at.stmt (stmts_of_type files (type_at files entry o.path))
  of_occurrence o m =
      let at = from_flat (occs_at files entry) (instances files entry) o m in
      let all = flat_map (type_stmts files) (option_to_list (type_at files entry at.0)) in
      let it = from_map (λ (l : Located). record { path = at.0; at = l }) all o at.2 in
      subst (λ (x : Occ). Among (made_at x.path) (nodes files entry) × Among x.at.stmt (stmts_of_type files (type_at files entry x.path))) it.2
      (is_instance (nodes files entry) at.0 at.1, into_map (λ (l : Located). l.stmt) all it.0 it.1)

  ends : (a b : Side) (x y : SpotPlace) → IsPlaced files entry a → IsPlaced files entry b → Among (join x y) (end_links files entry library a b) → HasNode files entry x × HasNode files entry y
  ends a b x y ha hb m = placed files entry most (beside files entry library b a) (beside files entry library a b) x y low none
      (beside_placed files entry are library b a ha) (beside_placed files entry are library a b hb) m

  by_stmt : (path : List ℕ) → Among (made_at path) (nodes files entry) → (s : Stmt) → Among s (stmts_of_type files (type_at files entry path)) → (x y : SpotPlace)
      → Among (join x y) (stmt_links files entry library path s) → HasNode files entry x × HasNode files entry y
  by_stmt path up (stmt.Connect p (end.Path q) at) m x y k = ends (path_side files entry path p) (path_side files entry path q) x y (path_placed files entry are path p up) (path_placed files entry are path q up) k
  by_stmt path up (stmt.Connect p (end.Point q) at) m x y k = ends (path_side files entry path p) (point_side files path q) x y (path_placed files entry are path p up)
      (point_placed files entry are path up (stmt.Connect p (end.Point q) at) q m here refl) k
  by_stmt path up (stmt.Point p None at) m x y k = elim k [ ]
  by_stmt path up (stmt.Point p (Some (end.Path q)) at) m x y k = elim (in_either (end_links files entry library (point_side files path p) (path_side files entry path q)) [] k) [
    | inl h ↦ ends (point_side files path p) (path_side files entry path q) x y (point_placed files entry are path up (stmt.Point p (Some (end.Path q)) at) p m here refl) (path_placed files entry are path q up) h
    | inr h ↦ elim h [ ]
  ]
  by_stmt path up (stmt.Point p (Some (end.Point q)) at) m x y k = elim (in_either (end_links files entry library (point_side files path p) (point_side files path q)) [] k) [
    | inl h ↦ ends (point_side files path p) (point_side files path q) x y (point_placed files entry are path up (stmt.Point p (Some (end.Point q)) at) p m here refl)
        (point_placed files entry are path up (stmt.Point p (Some (end.Point q)) at) q m (there here) refl) h
    | inr h ↦ elim h [ ]
  ]
  by_stmt path up (stmt.Pass at) m x y k = elim k [ ]
  by_stmt path up (stmt.Docs text) m x y k = elim k [ ]
  by_stmt path up (stmt.Replace p type at) m x y k = elim k [ ]
  by_stmt path up (stmt.Assign p v at) m x y k = elim k [ ]
  by_stmt path up (stmt.Make n type at) m x y k = elim k [ ]
  by_stmt path up (stmt.Declare n unit v at) m x y k = elim k [ ]
  by_stmt path up (stmt.Assert e c at) m x y k = elim k [ ]

  by_link : (l : Link) → Among l (links files entry library) → is_placed (nodes files entry) l ≡ true
  by_link clash m = refl
  by_link (join x y) m =
      let o = from_flat (occ_links files entry library) (occurrences files entry) (join x y) m in
      let of = of_occurrence o.0 o.1 in
      let it = by_stmt o.0.path of.0 o.0.at.stmt of.1 x y o.2 in
      both_there (number_at (nodes files entry) x) (number_at (nodes files entry) y)
      (number_there (nodes files entry) x it.0.0 it.0.1 it.0.2) (number_there (nodes files entry) y it.1.0 it.1.1 it.1.2)

pub joins_are_nodes : JoinsAreNodes
joins_are_nodes files entry most library low none = all_from (is_placed (nodes files entry)) (links files entry library) (by_link files entry most library low none)
