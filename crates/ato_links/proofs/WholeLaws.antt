-- Where no fault of the tree stands, no link is cut off.
use Rattle.std.proofs.Common.{◌≡◌, ℕ, zero, suc, ◌+◌, ◌<◌, ◌≤◌, List, [], ◌∷◌, ◌++◌, length, Option, Some, None, refl, ap, sym, ◌∙◌, subst, arith, inl, inr}
use Rattle.std.specs.Prelude.{◌⊎◌}
use Rattle.std.specs.List.{flat_map}
use Rattle.ato_ast.specs.declared.names.Named.{Named}
use Rattle.ato_files.specs.declared.program.SourceFile.{SourceFile}
use Rattle.ato_files.specs.Lists.{Among, here, there}
use Rattle.ato_files.specs.Blocks.{blocks_of}
use Rattle.ato_files.specs.Members.{Kind, signal, instance, param}
use Rattle.ato_instance_tree.specs.Members.{Member, pin, named, members}
use Rattle.ato_instance_tree.specs.Walk.{type_at}
use Rattle.ato_instance_tree.specs.Order.{Spot, leaf, made_at, member_spots, spots, nodes}
use Rattle.ato_instance_tree.specs.Paths.{member_at}
use Rattle.ato_instance_tree.specs.Laws.{SpotPlace, at_names, AreNodes}
use Rattle.ato_instance_tree.proofs.SpotLaws.{IsIn, in_flat_map, from_member}
use Rattle.ato_instance_tree.proofs.NodesLaws.{into, out, are_nodes}
use Rattle.ato_instance_tree.proofs.MemberLaws.{agree}
use Rattle.ato_instance_tree.proofs.PlaceLaws.{member_there}
use Rattle.ato_links.specs.Links.{Link, join, clash, Side, point, quantity, inside, nothing, side_of, side_at, side_links, member_links, shared_links, shared_at, instance_links}
use Rattle.ato_links.specs.Whole.{HasNode, IsPlaced, LinksAreWhole, LinksArePlaced}

-- ---- how long paths are

abbrev path_of : Spot → List ℕ
path_of (leaf path m) = path
path_of (made_at path) = path

abbrev made : Spot → ℕ
made (leaf path m) = 0
made (made_at path) = 1

-- An instance above some depth has a path that is shorter.
shorter : (files : List SourceFile) (entry d : ℕ) (top path : List ℕ) → IsIn (made_at path) (spots files entry d top) → length path < length top + d
shorter files entry zero top path h = absurd h
shorter files entry (suc d) top path (inl e) = subst (λ p. length p < length top + suc d) (sym (ap path_of e)) (omega arith)
shorter files entry (suc d) top path (inr h) =
    let from = in_flat_map (member_spots (spots files entry d) top) (made_at path) (members files (type_at files entry top)) h in
    elim (from_member (spots files entry d) top from.0 (made_at path) from.2) [
      | inl e ↦ absurd (no_leaf top from.0 e)
      | inr k ↦ let it = shorter files entry d (k.0.name.0 ∷ top) path k.3 in omega (arith, it)
    ]
  where
    no_leaf : (top : List ℕ) (m : Member) → made_at path ≡ leaf top m → ⊥
    no_leaf top m e = let x = ap made e in absurd (omega (arith, x))

-- ---- equal links

flat_same : {X Y : Type 0} (f g : X → List Y) (xs : List X) → ((x : X) → f x ≡ g x) → flat_map f xs ≡ flat_map g xs
flat_same f g [] h = refl
flat_same f g (x ∷ xs) h = ap (λ l. l ++ flat_map f xs) (h x) ∙ ap (λ l. g x ++ l) (flat_same f g xs h)

same_sides : (f g : List ℕ → List ℕ → List Link) (a b : Side) → ((p q : List ℕ) → a ≡ inside p → b ≡ inside q → f p q ≡ g p q) → side_links f a b ≡ side_links g a b
same_sides f g (inside p) (inside q) h = h p q refl refl
same_sides f g (inside p) (point b) h = refl
same_sides f g (inside p) (quantity b) h = refl
same_sides f g (inside p) nothing h = refl
same_sides f g (point a) (point b) h = refl
same_sides f g (point a) (quantity b) h = refl
same_sides f g (point a) (inside q) h = refl
same_sides f g (point a) nothing h = refl
same_sides f g (quantity a) (point b) h = refl
same_sides f g (quantity a) (quantity b) h = refl
same_sides f g (quantity a) (inside q) h = refl
same_sides f g (quantity a) nothing h = refl
same_sides f g nothing (point b) h = refl
same_sides f g nothing (quantity b) h = refl
same_sides f g nothing (inside q) h = refl
same_sides f g nothing nothing h = refl

abbrev un_inside : List ℕ → Side → List ℕ
un_inside other (inside p) = p
un_inside other _ = other

module _ (files : List SourceFile) (entry : ℕ) (are : AreNodes files entry) where
  -- what a name is among the members of an instance that is a node
  pub side_placed : (path : List ℕ) (name : ℕ) → Among (made_at path) (nodes files entry) → IsPlaced files entry (side_at files entry path name)
  side_placed path name up = by_kind (member_at files entry path name) refl where
    there_is : (k : Kind) → member_at files entry path name ≡ Some k → (n : Named) × (n.name.0 ≡ name) × IsIn (named n k) (members files (type_at files entry path))
    there_is k e = member_there (members files (type_at files entry path)) name k ((agree files (type_at files entry path)).names name ∙ e)

    by_kind : (o : Option Kind) → member_at files entry path name ≡ o → IsPlaced files entry (side_of path name o)
    by_kind None e = tt
    by_kind (Some signal) e = let n = there_is signal e in
        (leaf path (named n.0 signal), (are.leaves path (named n.0 signal)).1 (up, out (named n.0 signal) (members files (type_at files entry path)) n.2, refl), ap (λ x. at_names (x ∷ path)) n.1)
    by_kind (Some param) e = let n = there_is param e in
        (leaf path (named n.0 param), (are.leaves path (named n.0 param)).1 (up, out (named n.0 param) (members files (type_at files entry path)) n.2, refl), ap (λ x. at_names (x ∷ path)) n.1)
    by_kind (Some (instance type)) e = let n = there_is (instance type) e in
        (are.instances path name).1 (up, record { name = n.0; type = type; called = n.1; is = out (named n.0 (instance type)) (members files (type_at files entry path)) n.2 })

  -- an instance under a name has a path of one more name
  one_longer : (path : List ℕ) (name : ℕ) (p : List ℕ) → side_at files entry path name ≡ inside p → p ≡ name ∷ path
  one_longer path name p e = by_kind (member_at files entry path name) e where
    by_kind : (o : Option Kind) → side_of path name o ≡ inside p → p ≡ name ∷ path
    by_kind None e = absurd (cc)
    by_kind (Some signal) e = absurd (cc)
    by_kind (Some param) e = absurd (cc)
    by_kind (Some (instance type)) e = sym (ap (un_inside []) e)

  inside_placed : (a : Side) (p : List ℕ) → a ≡ inside p → IsPlaced files entry a → Among (made_at p) (nodes files entry)
  inside_placed a p e h = subst (IsPlaced files entry) e h

  stable : (d e : ℕ) (p q : List ℕ) → Among (made_at p) (nodes files entry) → Among (made_at q) (nodes files entry)
      → suc (length (blocks_of files)) ≤ length p + d → suc (length (blocks_of files)) ≤ length p + e → instance_links files entry d p q ≡ instance_links files entry e p q
  stable zero e p q m n l k = let it = shorter files entry (suc (length (blocks_of files))) [] p (into (made_at p) (nodes files entry) m) in absurd (omega (arith, it, l))
  stable (suc d) zero p q m n l k = let it = shorter files entry (suc (length (blocks_of files))) [] p (into (made_at p) (nodes files entry) m) in absurd (omega (arith, it, k))
  stable (suc d) (suc e) p q m n l k = by_type (shared_at files entry p q) (λ x p1 q1 g h.
      stable d e p1 q1 (inside_placed (side_at files entry p x) p1 g (side_placed p x m)) (inside_placed (side_at files entry q x) q1 h (side_placed q x n))
      (more p p1 x d (one_longer p x p1 g) l) (more p p1 x e (one_longer p x p1 g) k))
    where
      more : (p p1 : List ℕ) (x d : ℕ) → p1 ≡ x ∷ p → suc (length (blocks_of files)) ≤ length p + suc d → suc (length (blocks_of files)) ≤ length p1 + d
      more p p1 x d e l = let long = ap length e in omega (arith, long, l)

      by_member : ((x : ℕ) (p1 q1 : List ℕ) → side_at files entry p x ≡ inside p1 → side_at files entry q x ≡ inside q1 → instance_links files entry d p1 q1 ≡ instance_links files entry e p1 q1)
          → (m : Member) → member_links files entry (instance_links files entry d) p q m ≡ member_links files entry (instance_links files entry e) p q m
      by_member h (pin text) = refl
      by_member h (named n k) = same_sides (instance_links files entry d) (instance_links files entry e) (side_at files entry p n.name.0) (side_at files entry q n.name.0) (h n.name.0)

      by_type : (o : Option ℕ) → ((x : ℕ) (p1 q1 : List ℕ) → side_at files entry p x ≡ inside p1 → side_at files entry q x ≡ inside q1 → instance_links files entry d p1 q1 ≡ instance_links files entry e p1 q1)
          → shared_links files entry (instance_links files entry d) p q o ≡ shared_links files entry (instance_links files entry e) p q o
      by_type None h = refl
      by_type (Some type) h = flat_same (member_links files entry (instance_links files entry d) p q) (member_links files entry (instance_links files entry e) p q) (members files (Some type)) (by_member h)

pub whole : LinksAreWhole
whole files entry depth most a b l none deep ha hb =
    let are = are_nodes files entry most l none in
    same_sides (instance_links files entry depth) (instance_links files entry (suc (length (blocks_of files)))) a b (λ p q e f.
    stable files entry are depth (suc (length (blocks_of files))) p q (inside_placed files entry are a p e ha) (inside_placed files entry are b q f hb) (omega (arith, deep)) (omega arith))

-- ---- what is joined are nodes

no_clash : (x y : SpotPlace) → Among (join x y) (clash ∷ []) → ⊥
no_clash x y (there h) = elim h [ ]

among_flat : {X Y : Type 0} (f : X → List Y) (xs : List X) (y : Y) → Among y (flat_map f xs) → (x : X) × Among y (f x)
among_flat f [] y h = elim h [ ]
among_flat f (x ∷ xs) y h = elim (in_either (f x) (flat_map f xs) h) [ inl k ↦ (x, k) | inr k ↦ among_flat f xs y k ]
  where
    in_either : {Y : Type 0} {y : Y} (cs bs : List Y) → Among y (cs ++ bs) → Among y cs ⊎ Among y bs
    in_either [] bs h = inr h
    in_either (a ∷ cs) bs here = inl here
    in_either (a ∷ cs) bs (there h) = elim (in_either cs bs h) [ inl k ↦ inl (there k) | inr k ↦ inr k ]

abbrev left_of : SpotPlace → Link → SpotPlace
left_of other clash = other
left_of other (join x y) = x

abbrev right_of : SpotPlace → Link → SpotPlace
right_of other clash = other
right_of other (join x y) = y

lone : {X : Type 0} (x y : X) → Among x (y ∷ []) → x ≡ y
lone x y h = elim (into x (y ∷ []) h) [ inl e ↦ e | inr k ↦ absurd k ]

module _ (files : List SourceFile) (entry : ℕ) where
  abbrev Both : SpotPlace → SpotPlace → Type 0
  Both x y = HasNode files entry x × HasNode files entry y

  two_places : (a b x y : SpotPlace) → HasNode files entry a → HasNode files entry b → Among (join x y) (join a b ∷ []) → Both x y
  two_places a b x y ha hb h = let e = lone (join x y) (join a b) h in
      (subst (HasNode files entry) (sym (ap (left_of x) e)) ha, subst (HasNode files entry) (sym (ap (right_of x) e)) hb)

  two_sides : (f : List ℕ → List ℕ → List Link) (a b : Side) (x y : SpotPlace) → IsPlaced files entry a → IsPlaced files entry b
      → ((p q : List ℕ) → a ≡ inside p → b ≡ inside q → Among (join x y) (f p q) → Both x y) → Among (join x y) (side_links f a b) → Both x y
  two_sides f (point a) (point b) x y ha hb h m = two_places a b x y ha hb m
  two_sides f (quantity a) (quantity b) x y ha hb h m = two_places a b x y ha hb m
  two_sides f (inside p) (inside q) x y ha hb h m = h p q refl refl m
  two_sides f (inside p) (point b) x y ha hb h m = absurd (no_clash x y m)
  two_sides f (inside p) (quantity b) x y ha hb h m = absurd (no_clash x y m)
  two_sides f (inside p) nothing x y ha hb h m = absurd (no_clash x y m)
  two_sides f (point a) (quantity b) x y ha hb h m = absurd (no_clash x y m)
  two_sides f (point a) (inside q) x y ha hb h m = absurd (no_clash x y m)
  two_sides f (point a) nothing x y ha hb h m = absurd (no_clash x y m)
  two_sides f (quantity a) (point b) x y ha hb h m = absurd (no_clash x y m)
  two_sides f (quantity a) (inside q) x y ha hb h m = absurd (no_clash x y m)
  two_sides f (quantity a) nothing x y ha hb h m = absurd (no_clash x y m)
  two_sides f nothing (point b) x y ha hb h m = absurd (no_clash x y m)
  two_sides f nothing (quantity b) x y ha hb h m = absurd (no_clash x y m)
  two_sides f nothing (inside q) x y ha hb h m = absurd (no_clash x y m)
  two_sides f nothing nothing x y ha hb h m = absurd (no_clash x y m)

  module _ (are : AreNodes files entry) where
    two_instances : (d : ℕ) (p q : List ℕ) (x y : SpotPlace) → Among (made_at p) (nodes files entry) → Among (made_at q) (nodes files entry)
        → Among (join x y) (instance_links files entry d p q) → Both x y
    two_instances zero p q x y hp hq m = elim m [ ]
    two_instances (suc d) p q x y hp hq m = by_type (shared_at files entry p q) m (λ n p1 q1 g h.
        two_instances d p1 q1 x y (inside_placed files entry are (side_at files entry p n) p1 g (side_placed files entry are p n hp))
        (inside_placed files entry are (side_at files entry q n) q1 h (side_placed files entry are q n hq)))
      where
        by_member : (o : Member) → Among (join x y) (member_links files entry (instance_links files entry d) p q o)
            → ((n : ℕ) (p1 q1 : List ℕ) → side_at files entry p n ≡ inside p1 → side_at files entry q n ≡ inside q1 → Among (join x y) (instance_links files entry d p1 q1) → Both x y) → Both x y
        by_member (pin text) k h = elim k [ ]
        by_member (named n kind) k h = two_sides (instance_links files entry d) (side_at files entry p n.name.0) (side_at files entry q n.name.0) x y
            (side_placed files entry are p n.name.0 hp) (side_placed files entry are q n.name.0 hq) (h n.name.0) k

        by_type : (o : Option ℕ) → Among (join x y) (shared_links files entry (instance_links files entry d) p q o)
            → ((n : ℕ) (p1 q1 : List ℕ) → side_at files entry p n ≡ inside p1 → side_at files entry q n ≡ inside q1 → Among (join x y) (instance_links files entry d p1 q1) → Both x y) → Both x y
        by_type None k h = absurd (no_clash x y k)
        by_type (Some type) k h = let it = among_flat (member_links files entry (instance_links files entry d) p q) (members files (Some type)) (join x y) k in by_member it.0 it.1 h

pub placed : LinksArePlaced
placed files entry most a b x y l none ha hb m =
    let are = are_nodes files entry most l none in
    two_sides files entry (instance_links files entry (suc (length (blocks_of files)))) a b x y ha hb (λ p q e f h.
    two_instances files entry are (suc (length (blocks_of files))) p q x y (inside_placed files entry are a p e ha) (inside_placed files entry are b q f hb) h) m
