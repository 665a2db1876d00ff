-- Which node stands under a name of an instance: that of the member, if the name is one.
use Rattle.std.proofs.Common.{◌≡◌, ◌<◌, ℕ, suc, Bool, true, false, true≢false, ◌==◌, if◌then◌else◌, List, [], ◌∷◌, length, Option, Some, None, ◌⊎◌, inl, inr, refl, ap, sym, subst, ◌∙◌, arith}
use Rattle.std.specs.Prelude.{⊤, slice_get, position}
use Rattle.std.specs.Str.{bytes_eq}
use Rattle.std.proofs.lemmas.Bool.{eqb-true, eq-eqb}
use Rattle.std.proofs.lemmas.Option.{none-some, same_Some}
use Rattle.std.proofs.lemmas.Slice.Eq.{bytes_eq-Decides}
use Rattle.ato_ast.specs.declared.names.Named.{Named}
use Rattle.ato_files.specs.declared.program.SourceFile.{SourceFile}
use Rattle.ato_files.specs.Blocks.{blocks_of}
use Rattle.ato_files.specs.Members.{Kind, signal, instance, param}
use Rattle.ato_files.proofs.PositionLemmas.{position_none, position_first}
use Rattle.ato_instance_tree.specs.Members.{Member, pin, named, members}
use Rattle.ato_instance_tree.specs.Walk.{type_at}
use Rattle.ato_instance_tree.specs.Order.{Spot, leaf, made_at, nodes}
use Rattle.ato_instance_tree.specs.TreeFaults.{Limits, tree_fault}
use Rattle.ato_instance_tree.specs.Paths.{member_at}
use Rattle.ato_instance_tree.specs.Laws.{SpotPlace, at_names, at_label, place_of, named_kind}
use Rattle.ato_instance_tree.proofs.MemberLaws.{turned_false, agree}
use Rattle.ato_instance_tree.proofs.DepthLaws.{nothing_is_cut}
use Rattle.ato_instance_tree.proofs.SpotLaws.{IsIn, Differ, at_in, names_of, members_differ, no_node_twice}
use Rattle.ato_instance_tree.proofs.NodeLaws.{leaf_stands, instance_stands, has_leaf, has_instance}

-- the place of an item in its list
pub place_in : {X : Type 0} (x : X) (xs : List X) → IsIn x xs → (i : ℕ) × (slice_get xs i ≡ Some x)
place_in x [] h = absurd h
place_in x (y ∷ ys) (inl e) = (0, ap Some (sym e))
place_in x (y ∷ ys) (inr h) = let i = place_in x ys h in (suc i.0, i.1)

-- ---- members by their names

kind_if : (b : Bool) (k l : Kind) (rest : Option Kind) → (if b then Some k else rest) ≡ Some l → ((b ≡ true) × (k ≡ l)) ⊎ (rest ≡ Some l)
kind_if true k l rest e = inl (refl, same_Some k l e)
kind_if false k l rest e = inr e

pub member_there : (ms : List Member) (name : ℕ) (k : Kind) → named_kind ms name ≡ Some k → (n : Named) × (n.name.0 ≡ name) × IsIn (named n k) ms
member_there [] name k e = absurd (none-some k e)
member_there (pin text ∷ ms) name k e = let n = member_there ms name k e in (n.0, n.1, inr n.2)
member_there (named n l ∷ ms) name k e = elim (kind_if (n.name.0 == name) l k (named_kind ms name) e) [
  | inl h ↦ (n, eqb-true n.name.0 name h.0, inl (ap (named n) (sym h.1)))
  | inr h ↦ let m = member_there ms name k h in (m.0, m.1, inr m.2)
]

abbrev kind_of : Kind → Member → Kind
kind_of other (pin text) = other
kind_of other (named n k) = k

abbrev is_named : Member → Bool
is_named (pin text) = false
is_named (named n k) = true

abbrev number_of : Member → ℕ
number_of (pin text) = 0
number_of (named n k) = n.name.0

pub kind_there : (ms : List Member) (n : Named) (k : Kind) → Differ ms → IsIn (named n k) ms → named_kind ms n.name.0 ≡ Some k
kind_there [] n k differ h = absurd h
kind_there (pin text ∷ ms) n k differ (inl e) = absurd (true≢false (ap is_named e))
kind_there (pin text ∷ ms) n k differ (inr h) = kind_there ms n k differ.1 h
kind_there (named m l ∷ ms) n k differ (inl e) =
    ap (λ b. if b then Some l else named_kind ms n.name.0) (eq-eqb m.name.0 n.name.0 (sym (ap number_of e))) ∙ ap Some (sym (ap (kind_of k) e))
kind_there (named m l ∷ ms) n k differ (inr h) =
    ap (λ b. if b then Some l else named_kind ms n.name.0) (turned_false n.name.0 m.name.0 (differ.0 (named n k) h)) ∙ kind_there ms n k differ.1 h

-- ---- nodes by their names

-- The node stands under this name in the instance at a path; pins have no names.
abbrev pub stands_at : List ℕ → ℕ → Spot → Bool
stands_at path name (made_at other) = bytes_eq (name ∷ path) other
stands_at path name (leaf other (pin text)) = false
stands_at path name (leaf other (named n k)) = bytes_eq (name ∷ path) (n.name.0 ∷ other)

pub stands_then : (path : List ℕ) (name : ℕ) (s : Spot) → stands_at path name s ≡ true → place_of s ≡ at_names (name ∷ path)
stands_then path name (made_at other) e = ap at_names (sym ((bytes_eq-Decides (name ∷ path) other).0 e))
stands_then path name (leaf other (pin text)) e = absurd (true≢false (sym e))
stands_then path name (leaf other (named n k)) e = ap at_names (sym ((bytes_eq-Decides (name ∷ path) (n.name.0 ∷ other)).0 e))

abbrev is_label : SpotPlace → Bool
is_label (at_names path) = false
is_label (at_label path text) = true

pub then_stands : (path : List ℕ) (name : ℕ) (s : Spot) → place_of s ≡ at_names (name ∷ path) → stands_at path name s ≡ true
then_stands path name (made_at other) e = (bytes_eq-Decides (name ∷ path) other).1 (sym (ap names_of e))
then_stands path name (leaf other (pin text)) e = absurd (true≢false (ap is_label e))
then_stands path name (leaf other (named n k)) e = (bytes_eq-Decides (name ∷ path) (n.name.0 ∷ other)).1 (sym (ap names_of e))

abbrev head_or : ℕ → List ℕ → ℕ
head_or other [] = other
head_or other (n ∷ path) = n

abbrev rest_of : List ℕ → List ℕ
rest_of [] = []
rest_of (n ∷ path) = path

nil_cons : (n : ℕ) (path : List ℕ) → n ∷ path ≡ [] → ⊥
nil_cons n path e = let long = ap length e in omega arith

-- what a name is in an instance, by its members
member_is : (files : List SourceFile) (entry : ℕ) (path : List ℕ) (name : ℕ) → member_at files entry path name ≡ named_kind (members files (type_at files entry path)) name
member_is files entry path name = sym ((agree files (type_at files entry path)).names name)

-- A node under a name of an instance is of a member of that name.
pub has_member : (files : List SourceFile) (entry : ℕ) (path : List ℕ) (name : ℕ) (s : Spot) → IsIn s (nodes files entry) → place_of s ≡ at_names (name ∷ path)
    → (k : Kind) × (member_at files entry path name ≡ Some k)
has_member files entry path name (made_at other) h e = by other (ap names_of e) h where
  by : (other : List ℕ) → other ≡ name ∷ path → IsIn (made_at other) (nodes files entry) → (k : Kind) × (member_at files entry path name ≡ Some k)
  by [] f k = absurd (nil_cons name path (sym f))
  by (n ∷ up) f k = elim (instance_stands files entry (suc (length (blocks_of files))) [] up n k) [
    | inl g ↦ absurd (nil_cons n up g)
    | inr is ↦ (
      instance is.is.type,
      member_is files entry path name
          ∙ ap (λ m. named_kind (members files (type_at files entry path)) m) (sym (is.is.called ∙ ap (head_or 0) f))
          ∙ kind_there (members files (type_at files entry path)) is.is.name (instance is.is.type) (members_differ files (type_at files entry path))
          (subst (λ p. IsIn (named is.is.name (instance is.is.type)) (members files (type_at files entry p))) (ap rest_of f) is.is.is),
    )
  ]
has_member files entry path name (leaf other (pin text)) h e = absurd (true≢false (ap is_label e))
has_member files entry path name (leaf other (named n k)) h e =
    let is = leaf_stands files entry (suc (length (blocks_of files))) [] other (named n k) h in (
      k,
      member_is files entry path name
          ∙ ap (λ m. named_kind (members files (type_at files entry path)) m) (sym (ap (head_or 0) (ap names_of e)))
          ∙ kind_there (members files (type_at files entry path)) n k (members_differ files (type_at files entry path))
          (subst (λ p. IsIn (named n k) (members files (type_at files entry p))) (ap rest_of (ap names_of e)) is.is),
    )

-- The node of a member of this kind and name.
abbrev pub IsOfKind : List ℕ → ℕ → Kind → Spot → Type 0
IsOfKind path name signal s = (n : Named) × (n.name.0 ≡ name) × (s ≡ leaf path (named n signal))
IsOfKind path name (instance type) s = s ≡ made_at (name ∷ path)
IsOfKind path name param s = (n : Named) × (n.name.0 ≡ name) × (s ≡ leaf path (named n param))

pub kind_place : (path : List ℕ) (name : ℕ) (k : Kind) (s : Spot) → IsOfKind path name k s → place_of s ≡ at_names (name ∷ path)
kind_place path name signal s is = ap place_of is.2 ∙ ap (λ n. at_names (n ∷ path)) is.1
kind_place path name (instance type) s is = ap place_of is
kind_place path name param s is = ap place_of is.2 ∙ ap (λ n. at_names (n ∷ path)) is.1

module _ (files : List SourceFile) (entry : ℕ) (most : Limits) (h : entry < length (blocks_of files)) (none : tree_fault files most (Some entry) ≡ None) where
  abbrev depth : ℕ
  depth = suc (length (blocks_of files))

  -- A member of an instance has its node.
  pub has_node : (path : List ℕ) (name : ℕ) (k : Kind) → IsIn (made_at path) (nodes files entry) → member_at files entry path name ≡ Some k → (s : Spot) × IsIn s (nodes files entry) × IsOfKind path name k s
  has_node path name k at e = by k (member_there (members files (type_at files entry path)) name k (sym (member_is files entry path name) ∙ e)) where
    by : (k : Kind) → (n : Named) × (n.name.0 ≡ name) × IsIn (named n k) (members files (type_at files entry path)) → (s : Spot) × IsIn s (nodes files entry) × IsOfKind path name k s
    by signal m = (leaf path (named m.0 signal), has_leaf files entry depth [] path (named m.0 signal) (record { at = at; is = m.2; no_instance = refl }), (m.0, m.1, refl))
    by (instance type) m = (
      made_at (name ∷ path),
      subst (IsIn (made_at (name ∷ path))) (nothing_is_cut files entry (suc depth) most h none (omega arith))
          (has_instance files entry depth [] path name (record { at = at; is = record { name = m.0; type = type; called = m.1; is = m.2 } })),
      refl,
    )
    by param m = (leaf path (named m.0 param), has_leaf files entry depth [] path (named m.0 param) (record { at = at; is = m.2; no_instance = refl }), (m.0, m.1, refl))

  -- What stands under a name of an instance: nothing where the name is no member, else the node of the member.
  abbrev pub Agrees : List ℕ → ℕ → Option Kind → Option ℕ → Type 0
  Agrees path name None None = ⊤
  Agrees path name None (Some number) = ⊥
  Agrees path name (Some k) None = ⊥
  Agrees path name (Some k) (Some number) = (s : Spot) × (slice_get (nodes files entry) number ≡ Some s) × IsOfKind path name k s

  no_node : (path : List ℕ) (name : ℕ) → member_at files entry path name ≡ None → (i : ℕ) (s : Spot) → slice_get (nodes files entry) i ≡ Some s → stands_at path name s ≡ false
  no_node path name e i s at = by (stands_at path name s) refl where
    by : (b : Bool) → stands_at path name s ≡ b → b ≡ false
    by false f = refl
    by true f = let k = has_member files entry path name s (at_in s (nodes files entry) i at) (stands_then path name s f) in absurd (none-some k.0 (sym e ∙ k.1))

  only_node : (path : List ℕ) (name i : ℕ) (s : Spot) → slice_get (nodes files entry) i ≡ Some s → place_of s ≡ at_names (name ∷ path)
      → (j : ℕ) (t : Spot) → j < i → slice_get (nodes files entry) j ≡ Some t → stands_at path name t ≡ false
  only_node path name i s at is j t less other = by (stands_at path name t) refl where
    by : (b : Bool) → stands_at path name t ≡ b → b ≡ false
    by false f = refl
    by true f = let same = no_node_twice files entry j i t s other at (stands_then path name t f ∙ sym is) in absurd (omega arith)

  by_member : (path : List ℕ) (name : ℕ) (o : Option Kind) → member_at files entry path name ≡ o → IsIn (made_at path) (nodes files entry) → Agrees path name o (position (stands_at path name) (nodes files entry))
  by_member path name None e at = subst (Agrees path name None) (sym (position_none (stands_at path name) (nodes files entry) (no_node path name e))) tt
  by_member path name (Some k) e at =
      let s = has_node path name k at e in
      let i = place_in s.0 (nodes files entry) s.1 in
      let place = kind_place path name k s.0 s.2 in
      subst (Agrees path name (Some k)) (sym (position_first (stands_at path name) (nodes files entry) i.0 s.0 i.1 (then_stands path name s.0 place) (only_node path name i.0 s.0 i.1 place)))
      (s.0, i.1, s.2)

  pub node_under : (path : List ℕ) (name : ℕ) → IsIn (made_at path) (nodes files entry) → Agrees path name (member_at files entry path name) (position (stands_at path name) (nodes files entry))
  node_under path name at = by_member path name (member_at files entry path name) refl at
