-- Where no fault of the tree stands, whatever the statements of a project join is a node.
use Rattle.std.proofs.Common.{◌≡◌, ℕ, Bool, true, true≢false, List, [], ◌∷◌, ◌++◌, length, get_or, Some, refl, ap, sym, ◌∙◌, subst, arith, inl, inr}
use Rattle.std.specs.Prelude.{◌==◌, find}
use Rattle.std.specs.List.{flat_map, list_any, position_or_len}
use Rattle.std.specs.Option.{option_map, option_or}
use Rattle.std.specs.Str.{bytes_eq}
use Rattle.std.proofs.lemmas.Bool.{or_left, or_right, cases_lt, eq-eqb}
use Rattle.std.proofs.lemmas.Option.{slice_get-get_or, slice_get_within, get_or_from_slice_get}
use Rattle.std.proofs.lemmas.List.Folds.{find_at}
use Rattle.std.proofs.lemmas.List.Sums.{fails_before_first}
use Rattle.std.proofs.lemmas.Slice.Eq.{bytes_eq-Decides}
use Rattle.ato_ast.specs.declared.paths.Point.{Point}
use Rattle.ato_ast.specs.declared.paths.Point.TheVariants as points
use Rattle.ato_ast.specs.declared.stmts.Stmt.{Stmt}
use Rattle.ato_files.specs.declared.program.SourceFile.{SourceFile}
use Rattle.ato_files.specs.Lists.{Among, here, there}
use Rattle.ato_files.specs.Members.{Kind, Decl, signal, instance, param, decls, pins, point_decls, point_pins, assigned_names, named_as, member}
use Rattle.ato_files.specs.Members as files_members
use Rattle.ato_instance_tree.specs.Types.{stmts_of_type}
use Rattle.ato_instance_tree.specs.Members.{label_text}
use Rattle.ato_instance_tree.specs.Walk.{type_at}
use Rattle.ato_instance_tree.specs.Order.{made_at, nodes}
use Rattle.ato_instance_tree.specs.Paths.{member_at}
use Rattle.ato_instance_tree.specs.Laws.{AreNodes, at_names}
use Rattle.ato_instance_tree.proofs.NodesLaws.{into}
use Rattle.ato_instance_tree.proofs.PlaceLaws.{place_in}
use Rattle.ato_instance_tree.proofs.MemberLaws.{agree}
use Rattle.ato_links.specs.Links.{side_of, point_side}
use Rattle.ato_links.specs.Whole.{HasNode, IsPlaced}
use Rattle.ato_links.proofs.WholeLaws.{side_placed}
use Rattle.ato_links.proofs.EndLaws.{label_place}

-- ---- lists

any_there : {X : Type 0} (test : X → Bool) (xs : List X) (x : X) → Among x xs → test x ≡ true → list_any test xs ≡ true
any_there test [] x m e = elim m [ ]
any_there test (y ∷ ys) x here e = or_left (test y) (list_any test ys) e
any_there test (y ∷ ys) x (there m) e = or_right (test y) (list_any test ys) (any_there test ys x m e)

in_flat : {X Y : Type 0} (f : X → List Y) (xs : List X) (x : X) (y : Y) → Among x xs → Among y (f x) → Among y (flat_map f xs)
in_flat f [] x y m k = elim m [ ]
in_flat f (z ∷ zs) x y here k = on_left (f z) (flat_map f zs) k where
  on_left : {Y : Type 0} {y : Y} (cs bs : List Y) → Among y cs → Among y (cs ++ bs)
  on_left [] bs h = elim h [ ]
  on_left (c ∷ cs) bs here = here
  on_left (c ∷ cs) bs (there h) = there (on_left cs bs h)
in_flat f (z ∷ zs) x y (there m) k = on_right (f z) (flat_map f zs) (in_flat f zs x y m k) where
  on_right : {Y : Type 0} {y : Y} (cs bs : List Y) → Among y bs → Among y (cs ++ bs)
  on_right [] bs h = h
  on_right (c ∷ cs) bs h = there (on_right cs bs h)

found_there : {X : Type 0} (test : X → Bool) (xs : List X) (x : X) → Among x xs → test x ≡ true → (y : X) × (find test xs ≡ Some y)
found_there test xs x m e =
    let i = place_in x xs (into x xs m) in
    let l = slice_get_within xs i.0 x i.1 in
    elim (cases_lt (position_or_len test xs) (length xs)) [
      | inl h ↦ (get_or xs (position_or_len test xs) x, find_at test xs ∙ slice_get-get_or xs (position_or_len test xs) x h)
      | inr h ↦ absurd (true≢false (sym (subst (λ y. test y ≡ true) (sym (get_or_from_slice_get xs i.0 x x i.1)) e) ∙ fails_before_first test xs i.0 x (omega (arith, l, h))))
    ]

-- ---- points that are declared

module _ (files : List SourceFile) (entry : ℕ) (are : AreNodes files entry) (path : List ℕ) (up : Among (made_at path) (nodes files entry)) where
  -- a name that some statement declares is a node
  name_placed : (d : Decl) → Among d (flat_map decls (stmts_of_type files (type_at files entry path))) → HasNode files entry (at_names (d.name.name.0 ∷ path))
  name_placed d m =
      let it = found_there (named_as d.name.name.0) (flat_map decls (stmts_of_type files (type_at files entry path))) d m (eq-eqb d.name.name.0 d.name.name.0 refl) in
      by_kind it.0.kind (ap (λ o. option_or (option_map (λ (x : Decl). x.kind) o)
      (option_map (λ n. param) (find (λ n. n.name.0 == d.name.name.0) (flat_map assigned_names (stmts_of_type files (type_at files entry path)))))) it.1)
    where
      by_kind : (k : Kind) → member_at files entry path d.name.name.0 ≡ Some k → HasNode files entry (at_names (d.name.name.0 ∷ path))
      by_kind signal e = subst (λ o. IsPlaced files entry (side_of path d.name.name.0 o)) e (side_placed files entry are path d.name.name.0 up)
      by_kind param e = subst (λ o. IsPlaced files entry (side_of path d.name.name.0 o)) e (side_placed files entry are path d.name.name.0 up)
      by_kind (instance type) e = (made_at (d.name.name.0 ∷ path), subst (λ o. IsPlaced files entry (side_of path d.name.name.0 o)) e (side_placed files entry are path d.name.name.0 up), refl)

  pub point_placed : (s : Stmt) (p : Point) → Among s (stmts_of_type files (type_at files entry path)) → Among p (files_members.points s)
      → decls s ≡ flat_map point_decls (files_members.points s) → IsPlaced files entry (point_side files path p)
  point_placed s (points.Signal n at) m k e = name_placed (record { name = n; kind = signal })
      (in_flat decls (stmts_of_type files (type_at files entry path)) s (record { name = n; kind = signal }) m
      (subst (Among (record { name = n; kind = signal })) (sym e) (in_flat point_decls (files_members.points s) (points.Signal n at) (record { name = n; kind = signal }) k here)))
  point_placed s (points.Pin l at) m k e = label_place files entry are path (label_text files l) up
      ((agree files (type_at files entry path)).labels (label_text files l) ∙ any_there (λ o. bytes_eq (label_text files l) (label_text files o)) (flat_map pins (stmts_of_type files (type_at files entry path))) l
      (in_flat pins (stmts_of_type files (type_at files entry path)) s l m (in_flat point_pins (files_members.points s) (points.Pin l at) l k here))
      ((bytes_eq-Decides (label_text files l) (label_text files l)).1 refl))
