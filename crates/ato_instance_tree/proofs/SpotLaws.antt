-- No node stands twice: members differ, and what is below an instance has a longer path.
use Rattle.std.proofs.Common.{◌≡◌, ℕ, zero, suc, Bool, true, false, true≢false, if◌then◌else◌, List, [], ◌∷◌, ◌++◌, length, length-append, drop, get_or, Option, Some, ◌⊎◌, inl, inr, refl, ap, sym, subst, ◌∙◌, append_assoc, arith}
use Rattle.std.specs.Prelude.{⊤, slice_get}
use Rattle.std.specs.List.{flat_map, list_any}
use Rattle.std.proofs.lemmas.Bool.{eq-eqb, eqb-true}
use Rattle.std.proofs.lemmas.Option.{none-some, same_Some}
use Rattle.std.proofs.lemmas.Slice.Eq.{bytes_eq-Decides}
use Rattle.ato_ast.specs.declared.names.Named.{Named}
use Rattle.ato_files.specs.declared.program.SourceFile.{SourceFile}
use Rattle.ato_files.specs.Blocks.{blocks_of}
use Rattle.ato_files.specs.Members.{signal, instance, param}
use Rattle.ato_instance_tree.specs.Types.{stmts_of_type}
use Rattle.ato_instance_tree.specs.Members.{Member, pin, named, same_member, firsts, stmt_members, members}
use Rattle.ato_instance_tree.specs.Walk.{type_at}
use Rattle.ato_instance_tree.specs.Order.{Spot, leaf, member_spots, spots, nodes}
use Rattle.ato_instance_tree.specs.Laws.{SpotPlace, at_names, at_label, place_of}
use Rattle.ato_instance_tree.proofs.MemberLaws.{or_falses}

-- ---- items of lists

-- The item stands in the list.
abbrev pub IsIn : {X : Type 0} → X → List X → Type 0
IsIn x [] = ⊥
IsIn x (y ∷ ys) = (x ≡ y) ⊎ IsIn x ys

-- No two items have one place.
abbrev pub IsOnce : List Spot → Type 0
IsOnce [] = ⊤
IsOnce (x ∷ xs) = ((y : Spot) → IsIn y xs → place_of x ≡ place_of y → ⊥) × IsOnce xs

pub in_append : {X : Type 0} (x : X) (xs ys : List X) → IsIn x (xs ++ ys) → IsIn x xs ⊎ IsIn x ys
in_append x [] ys h = inr h
in_append x (z ∷ xs) ys (inl e) = inl (inl e)
in_append x (z ∷ xs) ys (inr h) = elim (in_append x xs ys h) [ inl a ↦ inl (inr a) | inr b ↦ inr b ]

pub in_left : {X : Type 0} (x : X) (xs ys : List X) → IsIn x xs → IsIn x (xs ++ ys)
in_left x [] ys h = absurd h
in_left x (z ∷ xs) ys (inl e) = inl e
in_left x (z ∷ xs) ys (inr h) = inr (in_left x xs ys h)

pub in_right : {X : Type 0} (x : X) (xs ys : List X) → IsIn x ys → IsIn x (xs ++ ys)
in_right x [] ys h = h
in_right x (z ∷ xs) ys h = inr (in_right x xs ys h)

pub in_flat_map : {X Y : Type 0} (f : X → List Y) (y : Y) (xs : List X) → IsIn y (flat_map f xs) → (x : X) × IsIn x xs × IsIn y (f x)
in_flat_map f y [] h = absurd h
in_flat_map f y (x ∷ xs) h = elim (in_append y (f x) (flat_map f xs) h) [
  | inl a ↦ (x, inl refl, a)
  | inr b ↦ let more = in_flat_map f y xs b in (more.0, inr more.1, more.2)
]

once_append : (xs ys : List Spot) → IsOnce xs → IsOnce ys → ((x y : Spot) → IsIn x xs → IsIn y ys → place_of x ≡ place_of y → ⊥) → IsOnce (xs ++ ys)
once_append [] ys a b apart = b
once_append (x ∷ xs) ys a b apart = (
  (λ y h e. elim (in_append y xs ys h) [ inl k ↦ a.0 y k e | inr k ↦ apart x y (inl refl) k e ]),
  once_append xs ys a.1 b (λ z y h k e. apart z y (inr h) k e),
)

pub at_in : {X : Type 0} (x : X) (xs : List X) (i : ℕ) → slice_get xs i ≡ Some x → IsIn x xs
at_in x [] i e = absurd (none-some x e)
at_in x (y ∷ xs) zero e = inl (sym (same_Some y x e))
at_in x (y ∷ xs) (suc i) e = inr (at_in x xs i e)

once_at : (x y : Spot) (xs : List Spot) (i j : ℕ) → IsOnce xs → slice_get xs i ≡ Some x → slice_get xs j ≡ Some y → place_of x ≡ place_of y → i ≡ j
once_at x y [] i j once e f same = absurd (none-some x e)
once_at x y (z ∷ xs) zero zero once e f same = refl
once_at x y (z ∷ xs) zero (suc j) once e f same = absurd (once.0 y (at_in y xs j f) (ap place_of (same_Some z x e) ∙ same))
once_at x y (z ∷ xs) (suc i) zero once e f same = absurd (once.0 x (at_in x xs i e) (ap place_of (same_Some z y f) ∙ sym same))
once_at x y (z ∷ xs) (suc i) (suc j) once e f same = ap suc (once_at x y xs i j once.1 e f same)

-- ---- members differ

abbrev pub Differ : List Member → Type 0
Differ [] = ⊤
Differ (m ∷ ms) = ((o : Member) → IsIn o ms → same_member o m ≡ false) × Differ ms

new_one : (b : Bool) (o m : Member) (rest : List Member) → IsIn o ((if b then [] else m ∷ []) ++ rest) → ((b ≡ false) × (o ≡ m)) ⊎ IsIn o rest
new_one true o m rest h = inr h
new_one false o m rest (inl e) = inl (refl, e)
new_one false o m rest (inr h) = inr h

-- those that are kept are none of those that were seen
none_seen : (o : Member) (seen ms : List Member) → IsIn o (firsts seen ms) → list_any (same_member o) seen ≡ false
none_seen o seen [] h = absurd h
none_seen o seen (m ∷ ms) h = elim (new_one (list_any (same_member m) seen) o m (firsts (m ∷ seen) ms) h) [
  | inl k ↦ ap (λ x. list_any (same_member x) seen) k.1 ∙ k.0
  | inr k ↦ (or_falses (same_member o m) (list_any (same_member o) seen) (none_seen o (m ∷ seen) ms k)).1
]

differ_if : (b : Bool) (m : Member) (rest : List Member) → ((o : Member) → IsIn o rest → same_member o m ≡ false) → Differ rest → Differ ((if b then [] else m ∷ []) ++ rest)
differ_if true m rest h d = d
differ_if false m rest h d = (h, d)

firsts_differ : (seen ms : List Member) → Differ (firsts seen ms)
firsts_differ seen [] = tt
firsts_differ seen (m ∷ ms) = differ_if (list_any (same_member m) seen) m (firsts (m ∷ seen) ms)
    (λ o h. (or_falses (same_member o m) (list_any (same_member o) seen) (none_seen o (m ∷ seen) ms h)).0)
    (firsts_differ (m ∷ seen) ms)

pub members_differ : (files : List SourceFile) (type : Option ℕ) → Differ (members files type)
members_differ files type = firsts_differ [] (flat_map (stmt_members files (stmts_of_type files type)) (stmts_of_type files type))

-- ---- paths of nodes

abbrev pub names_of : SpotPlace → List ℕ
names_of (at_names path) = path
names_of (at_label path text) = path

abbrev pub spot_path : Spot → List ℕ
spot_path s = names_of (place_of s)

-- The path is the other one with names before it.
abbrev pub Under : List ℕ → List ℕ → Type 0
Under path below = (front : List ℕ) × (below ≡ front ++ path)

pub under_more : (n : ℕ) (path below : List ℕ) → Under (n ∷ path) below → Under path below
under_more n path below h = (h.0 ++ n ∷ [], h.1 ∙ sym (append_assoc h.0 (n ∷ []) path))

-- no path is under a longer one
pub not_under : (n : ℕ) (path : List ℕ) → Under (n ∷ path) path → ⊥
not_under n path h = let long = ap length h.1 in let sum = length-append h.0 (n ∷ path) in omega arith

same_step : (path : List ℕ) (n m : ℕ) (xs ys : List ℕ) → xs ++ n ∷ path ≡ ys ++ m ∷ path → n ≡ m
same_step path n m [] [] e = ap (λ zs. get_or zs 0 n) e
same_step path n m [] (y ∷ ys) e = let long = ap length e in let sum = length-append ys (m ∷ path) in absurd (omega arith)
same_step path n m (x ∷ xs) [] e = let long = ap length e in let sum = length-append xs (n ∷ path) in absurd (omega arith)
same_step path n m (x ∷ xs) (y ∷ ys) e = same_step path n m xs ys (ap (drop 1) e)

under_same : (path below : List ℕ) (n m : ℕ) → Under (n ∷ path) below → Under (m ∷ path) below → n ≡ m
under_same path below n m h k = same_step path n m h.0 k.0 (sym h.1 ∙ k.1)

-- what a node of a member is: the member itself, or one of the instance's
pub from_member : (F : List ℕ → List Spot) (path : List ℕ) (m : Member) (s : Spot) → IsIn s (member_spots F path m)
    → (s ≡ leaf path m) ⊎ ((n : Named) × (type : Named) × (m ≡ named n (instance type)) × IsIn s (F (n.name.0 ∷ path)))
from_member F path (pin text) s (inl e) = inl e
from_member F path (pin text) s (inr h) = absurd h
from_member F path (named n signal) s (inl e) = inl e
from_member F path (named n signal) s (inr h) = absurd h
from_member F path (named n param) s (inl e) = inl e
from_member F path (named n param) s (inr h) = absurd h
from_member F path (named n (instance type)) s h = inr (n, type, refl, h)

-- ---- nodes

leaf_under : (path : List ℕ) (m : Member) → Under path (spot_path (leaf path m))
leaf_under path (pin text) = ([], refl)
leaf_under path (named n k) = (n.name.0 ∷ [], refl)

-- all nodes at and below a path are under it
pub spots_under : (files : List SourceFile) (entry d : ℕ) (path : List ℕ) (s : Spot) → IsIn s (spots files entry d path) → Under path (spot_path s)
spots_under files entry zero path s h = absurd h
spots_under files entry (suc d) path s (inl e) = ([], ap spot_path e)
spots_under files entry (suc d) path s (inr h) =
    let m = in_flat_map (member_spots (spots files entry d) path) s (members files (type_at files entry path)) h in
    elim (from_member (spots files entry d) path m.0 s m.2) [
      | inl e ↦ subst (λ (z : Spot). Under path (spot_path z)) (sym e) (leaf_under path m.0)
      | inr k ↦ under_more k.0.name.0 path (spot_path s) (spots_under files entry d (k.0.name.0 ∷ path) s k.3)
    ]

abbrev label_of : List ℕ → SpotPlace → List ℕ
label_of other (at_names path) = other
label_of other (at_label path text) = text

abbrev is_label : SpotPlace → Bool
is_label (at_names path) = false
is_label (at_label path text) = true

-- two members of one place are the same
same_place : (path : List ℕ) (m o : Member) → place_of (leaf path m) ≡ place_of (leaf path o) → same_member o m ≡ true
same_place path (pin a) (pin b) e = (bytes_eq-Decides b a).1 (sym (ap (label_of []) e))
same_place path (pin a) (named n k) e = absurd (true≢false (ap is_label e))
same_place path (named n k) (pin a) e = absurd (true≢false (sym (ap is_label e)))
same_place path (named n k) (named o l) e = eq-eqb o.name.0 n.name.0 (sym (ap (λ p. get_or (names_of p) 0 0) e))

-- a member that stands where something below an instance does is this instance
leaf_below : (path : List ℕ) (m : Member) (n type : Named) → Under (n.name.0 ∷ path) (spot_path (leaf path m)) → same_member (named n (instance type)) m ≡ true
leaf_below path (pin text) n type h = absurd (not_under n.name.0 path h)
leaf_below path (named o k) n type h = eq-eqb n.name.0 o.name.0 (same_step path n.name.0 o.name.0 h.0 [] (sym h.1))

turned_same : (a b : Member) → same_member a b ≡ true → same_member b a ≡ true
turned_same (pin a) (pin b) e = (bytes_eq-Decides b a).1 (sym ((bytes_eq-Decides a b).0 e))
turned_same (pin a) (named n k) e = absurd (true≢false (sym e))
turned_same (named n k) (pin a) e = absurd (true≢false (sym e))
turned_same (named n k) (named o l) e = eq-eqb o.name.0 n.name.0 (sym (eqb-true n.name.0 o.name.0 e))

-- all nodes of an instance of this name are under its path
abbrev AreUnder : (List ℕ → List Spot) → List ℕ → Type 0
AreUnder F path = (n : ℕ) (s : Spot) → IsIn s (F (n ∷ path)) → Under (n ∷ path) (spot_path s)

-- two members with nodes of one place are the same
meet : (F : List ℕ → List Spot) (path : List ℕ) (m o : Member) (s t : Spot) → AreUnder F path → place_of s ≡ place_of t
    → IsIn s (member_spots F path m) → IsIn t (member_spots F path o) → same_member o m ≡ true
meet F path m o s t under same h k = elim (from_member F path m s h) [
  | inl e ↦ elim (from_member F path o t k) [
    | inl f ↦ same_place path m o (sym (ap place_of e) ∙ same ∙ ap place_of f)
    | inr b ↦ ap (λ x. same_member x m) b.2
        ∙ leaf_below path m b.0 b.1 (subst (Under (b.0.name.0 ∷ path)) (ap names_of (sym same) ∙ ap spot_path e) (under b.0.name.0 t b.3))
  ]
  | inr a ↦ elim (from_member F path o t k) [
    | inl f ↦ ap (same_member o) a.2 ∙ turned_same (named a.0 (instance a.1)) o
        (leaf_below path o a.0 a.1 (subst (Under (a.0.name.0 ∷ path)) (ap names_of same ∙ ap spot_path f) (under a.0.name.0 s a.3)))
    | inr b ↦ ap (λ x. same_member x m) b.2 ∙ ap (same_member (named b.0 (instance b.1))) a.2
        ∙ eq-eqb b.0.name.0 a.0.name.0 (under_same path (spot_path t) b.0.name.0 a.0.name.0 (under b.0.name.0 t b.3)
        (subst (Under (a.0.name.0 ∷ path)) (ap names_of same) (under a.0.name.0 s a.3)))
  ]
]

once_member : (F : List ℕ → List Spot) (path : List ℕ) (m : Member) → ((n : ℕ) → IsOnce (F (n ∷ path))) → IsOnce (member_spots F path m)
once_member F path (pin text) once = ((λ y h e. h), tt)
once_member F path (named n signal) once = ((λ y h e. h), tt)
once_member F path (named n param) once = ((λ y h e. h), tt)
once_member F path (named n (instance type)) once = once n.name.0

once_members : (F : List ℕ → List Spot) (path : List ℕ) (ms : List Member) → AreUnder F path → ((n : ℕ) → IsOnce (F (n ∷ path))) → Differ ms → IsOnce (flat_map (member_spots F path) ms)
once_members F path [] under once differ = tt
once_members F path (m ∷ ms) under once differ = once_append (member_spots F path m) (flat_map (member_spots F path) ms) (once_member F path m once) (once_members F path ms under once differ.1)
    (λ s t h k e. let o = in_flat_map (member_spots F path) t ms k in true≢false (sym (meet F path m o.0 s t under e h o.2) ∙ differ.0 o.0 o.1))

-- nothing at or below a member of an instance stands where the instance does
inside : (F : List ℕ → List Spot) (path : List ℕ) (m : Member) (s : Spot) → AreUnder F path → IsIn s (member_spots F path m) → at_names path ≡ place_of s → ⊥
inside F path m s under h e = elim (from_member F path m s h) [
  | inl f ↦ never path m (e ∙ ap place_of f)
  | inr k ↦ not_under k.0.name.0 path (subst (Under (k.0.name.0 ∷ path)) (sym (ap names_of e)) (under k.0.name.0 s k.3))
] where
  never : (path : List ℕ) (m : Member) → at_names path ≡ place_of (leaf path m) → ⊥
  never path (pin text) e = true≢false (sym (ap is_label e))
  never path (named n k) e = let long = ap (λ p. length (names_of p)) e in omega arith

pub spots_once : (files : List SourceFile) (entry d : ℕ) (path : List ℕ) → IsOnce (spots files entry d path)
spots_once files entry zero path = tt
spots_once files entry (suc d) path = (
  (λ y h e. let m = in_flat_map (member_spots (spots files entry d) path) y (members files (type_at files entry path)) h in
      inside (spots files entry d) path m.0 y (λ n s k. spots_under files entry d (n ∷ path) s k) m.2 e),
  once_members (spots files entry d) path (members files (type_at files entry path)) (λ n s h. spots_under files entry d (n ∷ path) s h)
      (λ n. spots_once files entry d (n ∷ path)) (members_differ files (type_at files entry path)),
)

pub no_node_twice : (files : List SourceFile) (entry i j : ℕ) (s t : Spot) → slice_get (nodes files entry) i ≡ Some s → slice_get (nodes files entry) j ≡ Some t
    → place_of s ≡ place_of t → i ≡ j
no_node_twice files entry i j s t e f same = once_at s t (nodes files entry) i j (spots_once files entry (suc (length (blocks_of files))) []) e f same
