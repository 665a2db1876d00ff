-- The members of instances of a tree have their nodes in it.
use Rattle.std.proofs.Common.{◌≡◌, ◌<◌, ◌≤◌, ℕ, zero, suc, Bool, true, false, cond, nat_eq, List, [], ◌∷◌, length, Option, Some, None, refl, sym, ap, ◌∙◌, subst, arith, true≢false, ◌⊎◌, inl, inr}
use Rattle.std.specs.Prelude.{slice_get, position, ◌==◌}
use Rattle.std.specs.Str.{bytes_eq}
use Rattle.std.proofs.lemmas.Bool.{eqb-true, eqb-false}
use Rattle.std.proofs.lemmas.Slice.Eq.{bytes_eq-Decides}
use Rattle.ato_ast.specs.declared.names.Named.{Named}
use Rattle.ato_files.specs.declared.program.SourceFile.{SourceFile}
use Rattle.ato_files.specs.Blocks.{blocks_of}
use Rattle.ato_files.specs.Members.{Kind, signal, instance, param}
use Rattle.ato_files.proofs.PositionLemmas.{position_first, position_none}
use Rattle.ato_instance_tree.specs.Members.{Member, pin, named, same_member, members}
use Rattle.ato_instance_tree.specs.Walk.{type_at}
use Rattle.ato_instance_tree.specs.Order.{Spot, leaf, made_at, spots, nodes}
use Rattle.ato_instance_tree.specs.Paths.{member_at}
use Rattle.ato_instance_tree.specs.TreeFaults.{Limits, tree_fault, is_leaf}
use Rattle.ato_instance_tree.specs.Laws.{SpotPlace, at_names, at_label, place_of, named_kind}
use Rattle.ato_instance_tree.proofs.SpotLaws.{IsIn, at_in, no_node_twice}
use Rattle.ato_instance_tree.proofs.NodeLaws.{IsMadeIn, IsLeafIn, IsInstanceIn, leaf_stands, instance_stands, has_leaf, has_instance}
use Rattle.ato_instance_tree.proofs.DepthLaws.{nothing_is_cut}
use Rattle.ato_instance_tree.proofs.MemberLaws.{agree}
use Rattle.ato_elab.specs.Built.{stands_under}
use Rattle.ato_elab.specs.Standing.{IsAt, IsLeafAt, HasKind, Agrees, StandsIn, IsWhole, kind_is_instance}

-- ---- items of lists

-- where an item stands
record IsThere {X : Type 0} (x : X) (xs : List X) : Type 0 where
  index : ℕ
  is : slice_get xs index ≡ Some x

there : {X : Type 0} (x : X) (xs : List X) → IsIn x xs → IsThere x xs
there x [] h = absurd h
there x (y ∷ xs) (inl e) = record { index = zero; is = ap Some (sym e) }
there x (y ∷ xs) (inr h) = let k = there x xs h in record { index = suc k.index; is = k.is }

-- ---- members of a name

-- a member of this name
record IsNamedIn (ms : List Member) (name : ℕ) (k : Kind) : Type 0 where
  n : Named
  called : n.name.0 ≡ name
  is : IsIn (named n k) ms

named_in_list : (ms : List Member) (name : ℕ) (k : Kind) → named_kind ms name ≡ Some k → IsNamedIn ms name k
named_in_list [] name k e = absurd (cc)
named_in_list (pin text ∷ ms) name k e = let r = named_in_list ms name k e in record { n = r.n; called = r.called; is = inr r.is }
named_in_list (named n l ∷ ms) name k e = by (nat_eq n.name.0 name) refl e (named_in_list ms name k)
  where
    by : (b : Bool) → nat_eq n.name.0 name ≡ b → cond b (Some l) (named_kind ms name) ≡ Some k → (named_kind ms name ≡ Some k → IsNamedIn ms name k) → IsNamedIn (named n l ∷ ms) name k
    by true t f more = let same : l ≡ k = cc in record { n = n; called = eqb-true n.name.0 name t; is = inl (ap (λ (x : Kind). named n x) (sym same)) }
    by false t f more = let r = more f in record { n = r.n; called = r.called; is = inr r.is }

-- where a member has the name, the name is some kind
some_kind : (ms : List Member) (name : ℕ) (n : Named) (k : Kind) → IsIn (named n k) ms → n.name.0 ≡ name → named_kind ms name ≡ None → ⊥
some_kind [] name n k h e none = absurd h
some_kind (pin text ∷ ms) name n k (inl h) e none = absurd (true≢false (ap is_pin (sym h)))
  where
    is_pin : Member → Bool
    is_pin (pin t) = true
    is_pin (named m l) = false
some_kind (pin text ∷ ms) name n k (inr h) e none = some_kind ms name n k h e none
some_kind (named m l ∷ ms) name n k h e none = by (nat_eq m.name.0 name) refl h none (λ i f. some_kind ms name n k i e f)
  where
    name_of : Member → ℕ
    name_of (pin t) = 0
    name_of (named o l) = o.name.0

    by : (b : Bool) → nat_eq m.name.0 name ≡ b → IsIn (named n k) (named m l ∷ ms) → cond b (Some l) (named_kind ms name) ≡ None → (IsIn (named n k) ms → named_kind ms name ≡ None → ⊥) → ⊥
    by true t h f more = absurd (cc)
    by false t (inl h) f more = eqb-false m.name.0 name t (sym (ap name_of h) ∙ e)
    by false t (inr h) f more = more h f

-- ---- nodes of a name

stands_place : (path : List ℕ) (name : ℕ) (s : Spot) → stands_under path name s ≡ true → place_of s ≡ at_names (name ∷ path)
stands_place path name (made_at other) t = ap at_names (sym ((bytes_eq-Decides (name ∷ path) other).0 t))
stands_place path name (leaf other (pin text)) t = absurd (true≢false (sym t))
stands_place path name (leaf other (named n k)) t = ap at_names (sym ((bytes_eq-Decides (name ∷ path) (n.name.0 ∷ other)).0 t))

bytes_same : (p : List ℕ) → bytes_eq p p ≡ true
bytes_same p = (bytes_eq-Decides p p).1 refl

not_true : (b : Bool) → (b ≡ true → ⊥) → b ≡ false
not_true true h = absurd (h refl)
not_true false h = refl

module _ (files : List SourceFile) (entry : ℕ) (most : Limits) (known : entry < length (blocks_of files)) (sound : tree_fault files most (Some entry) ≡ None) where
  -- the place of the only node that stands under a name
  held_at : (path : List ℕ) (name j : ℕ) (s : Spot) → slice_get (nodes files entry) j ≡ Some s → stands_under path name s ≡ true → position (stands_under path name) (nodes files entry) ≡ Some j
  held_at path name j s at t = position_first (stands_under path name) (nodes files entry) j s at t (λ i y less here. not_true (stands_under path name y) (λ u.
      let same : i ≡ j = no_node_twice files entry i j y s here at (stands_place path name y u ∙ sym (stands_place path name s t)) in absurd (omega arith)))

  -- looking deeper
  deep : {s : Spot} → IsIn s (spots files entry (suc (suc (length (blocks_of files)))) []) → IsIn s (nodes files entry)
  deep {s = s} h = subst (λ (ss : List Spot). IsIn s ss) (nothing_is_cut files entry (suc (suc (length (blocks_of files)))) most known sound (omega arith)) h

  leaf_node : (path : List ℕ) (name : ℕ) (n : Named) (k : Kind) → IsIn (made_at path) (nodes files entry) → IsIn (named n k) (members files (type_at files entry path)) → n.name.0 ≡ name → is_leaf (named n k) ≡ true
      → (j : ℕ) × (position (stands_under path name) (nodes files entry) ≡ Some j) × (slice_get (nodes files entry) j ≡ Some (leaf path (named n k)))
  leaf_node path name n k at h e l =
      let in_nodes = has_leaf files entry (suc (length (blocks_of files))) [] path (named n k) (record { at = at; is = h; no_instance = l }) in
      let place = there (leaf path (named n k)) (nodes files entry) in_nodes in
      (place.index, held_at path name place.index (leaf path (named n k)) place.is ((bytes_eq-Decides (name ∷ path) (n.name.0 ∷ path)).1 (ap (λ (x : ℕ). x ∷ path) (sym e))), place.is)

  instance_node : (path : List ℕ) (name : ℕ) (n type : Named) → IsIn (made_at path) (nodes files entry) → IsIn (named n (instance type)) (members files (type_at files entry path)) → n.name.0 ≡ name
      → (j : ℕ) × (position (stands_under path name) (nodes files entry) ≡ Some j) × (slice_get (nodes files entry) j ≡ Some (made_at (name ∷ path)))
  instance_node path name n type at h e =
      let in_nodes = deep (has_instance files entry (suc (length (blocks_of files))) [] path name (record { at = at; is = record { name = n; type = type; called = e; is = h } })) in
      let place = there (made_at (name ∷ path)) (nodes files entry) in_nodes in
      (place.index, held_at path name place.index (made_at (name ∷ path)) place.is (bytes_same (name ∷ path)), place.is)

  -- a node that stands under a name is of a member
  not_there : (path : List ℕ) (name : ℕ) → named_kind (members files (type_at files entry path)) name ≡ None → (i : ℕ) (s : Spot) → slice_get (nodes files entry) i ≡ Some s → stands_under path name s ≡ false
  not_there path name none i s at = not_true (stands_under path name s) (refuted s at)
    where
      refuted : (s : Spot) → slice_get (nodes files entry) i ≡ Some s → stands_under path name s ≡ true → ⊥
      refuted (made_at other) at t =
          let same : name ∷ path ≡ other = (bytes_eq-Decides (name ∷ path) other).0 t in
          let here : IsIn (made_at (name ∷ path)) (nodes files entry) = subst (λ (p : List ℕ). IsIn (made_at p) (nodes files entry)) (sym same) (at_in (made_at other) (nodes files entry) i at) in
          elim (instance_stands files entry (suc (length (blocks_of files))) [] path name here) [
            | inl e ↦ absurd (cc)
            | inr r ↦ some_kind (members files (type_at files entry path)) name r.is.name (instance r.is.type) r.is.is r.is.called none
          ]
      refuted (leaf other (pin text)) at t = true≢false (sym t)
      refuted (leaf other (named n k)) at t =
          let same : name ∷ path ≡ n.name.0 ∷ other = (bytes_eq-Decides (name ∷ path) (n.name.0 ∷ other)).0 t in
          let one : n.name.0 ≡ name = cc in
          let two : other ≡ path = cc in
          let r = leaf_stands files entry (suc (length (blocks_of files))) [] other (named n k) (at_in (leaf other (named n k)) (nodes files entry) i at) in
          some_kind (members files (type_at files entry path)) name n k (subst (λ (p : List ℕ). IsIn (named n k) (members files (type_at files entry p))) two r.is) one none

  by_kind : (path : List ℕ) (name : ℕ) (k : Option Kind) → IsIn (made_at path) (nodes files entry) → named_kind (members files (type_at files entry path)) name ≡ k
      → Agrees (nodes files entry) path name k (position (stands_under path name) (nodes files entry))
  by_kind path name None at e = subst (λ (o : Option ℕ). Agrees (nodes files entry) path name None o) (sym (position_none (stands_under path name) (nodes files entry) (not_there path name e))) tt
  by_kind path name (Some signal) at e = let m = named_in_list (members files (type_at files entry path)) name signal e in
      let r = leaf_node path name m.n signal at m.is m.called refl in
      subst (λ (o : Option ℕ). Agrees (nodes files entry) path name (Some signal) o) (sym r.1) (record { name = m.n; is = r.2 })
  by_kind path name (Some param) at e = let m = named_in_list (members files (type_at files entry path)) name param e in
      let r = leaf_node path name m.n param at m.is m.called refl in
      subst (λ (o : Option ℕ). Agrees (nodes files entry) path name (Some param) o) (sym r.1) (record { name = m.n; is = r.2 })
  by_kind path name (Some (instance type)) at e = let m = named_in_list (members files (type_at files entry path)) name (instance type) e in
      let r = instance_node path name m.n type at m.is m.called in
      subst (λ (o : Option ℕ). Agrees (nodes files entry) path name (Some (instance type)) o) (sym r.1) r.2

  -- a member that is no instance does not stand where an instance does
  no_leaf : (path : List ℕ) (name number : ℕ) (n : Named) (k : Kind) → IsAt files entry number (name ∷ path) → IsIn (made_at path) (nodes files entry) → IsIn (named n k) (members files (type_at files entry path)) → n.name.0 ≡ name
      → is_leaf (named n k) ≡ true → ⊥
  no_leaf path name number n k at up h e l =
      let r = leaf_node path name n k up h e l in
      let same : r.0 ≡ number = no_node_twice files entry r.0 number (leaf path (named n k)) (made_at (name ∷ path)) r.2 at.is (ap (λ (x : ℕ). at_names (x ∷ path)) e) in
      let both : Some (leaf path (named n k)) ≡ Some (made_at (name ∷ path)) = sym r.2 ∙ ap (slice_get (nodes files entry)) same ∙ at.is in
      true≢false (ap is_leaf_spot both)
    where
      is_leaf_spot : Option Spot → Bool
      is_leaf_spot None = false
      is_leaf_spot (Some (leaf p m)) = true
      is_leaf_spot (Some (made_at p)) = false

  around_kind : (path : List ℕ) (name number : ℕ) (k : Option Kind) → IsAt files entry number (name ∷ path) → IsIn (made_at path) (nodes files entry) → IsMadeIn (members files (type_at files entry path)) name
      → named_kind (members files (type_at files entry path)) name ≡ k → kind_is_instance k ≡ true
  around_kind path name number None at up m e = absurd (some_kind (members files (type_at files entry path)) name m.name (instance m.type) m.is m.called e)
  around_kind path name number (Some signal) at up m e = let r = named_in_list (members files (type_at files entry path)) name signal e in absurd (no_leaf path name number r.n signal at up r.is r.called refl)
  around_kind path name number (Some param) at up m e = let r = named_in_list (members files (type_at files entry path)) name param e in absurd (no_leaf path name number r.n param at up r.is r.called refl)
  around_kind path name number (Some (instance type)) at up m e = refl

  around_law : (number name : ℕ) (path : List ℕ) → IsAt files entry number (name ∷ path) → StandsIn files entry name path
  around_law number name path at =
      elim (instance_stands files entry (suc (length (blocks_of files))) [] path name (at_in (made_at (name ∷ path)) (nodes files entry) number at.is)) [
        | inl e ↦ absurd (cc)
        | inr r ↦ let place = there (made_at path) (nodes files entry) r.at in record {
          number = place.index;
          at = record { is = place.is };
          member = around_kind path name number (member_at files entry path name) at r.at r.is ((agree files (type_at files entry path)).names name);
        }
      ]

  pub whole : IsWhole files entry
  whole = record {
    members = λ number path name at. by_kind path name (member_at files entry path name) (at_in (made_at path) (nodes files entry) number at.is) ((agree files (type_at files entry path)).names name);
    around = around_law;
    once = λ i j path a b. no_node_twice files entry i j (made_at path) (made_at path) a.is b.is refl;
  }
