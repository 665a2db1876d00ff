-- Places with one more node.
use Rattle.std.proofs.Common.{◌≡◌, ◌<◌, ◌≤◌, ℕ, zero, suc, ◌+◌, Bool, true, false, ◌&&◌, cond, nat_eq, List, [], ◌∷◌, ◌++◌, Option, Some, None, refl, sym, ap, ◌∙◌, subst, true≢false, length, length-append, arith, inl, inr}
use Rattle.std.specs.Prelude.{is_some, position, slice_get, ◌⊎◌}
use Rattle.std.specs.Option.{option_or}
use Rattle.std.specs.Str.{bytes_eq}
use Rattle.std.specs.Cmp.{nat_eq_equiv}
use Rattle.std.proofs.lemmas.Bool.{eqb-true}
use Rattle.std.proofs.lemmas.Option.{slice_get_within, slice_get_past, none-some}
use Rattle.std.proofs.lemmas.Slice.Eq.{bytes_eq-Decides}
use Rattle.std.proofs.lemmas.Bool.Decides.{same_from_decides}
use Rattle.ato_files.proofs.PushLemmas.{slice_get_push_first, slice_get_push_last}
use Rattle.ato_files.proofs.PositionLemmas.{position_none, position_push}
use Rattle.ato_ast.specs.declared.names.Named.{Named}
use Rattle.ato_files.specs.Members.{Kind}
use Rattle.ato_instance_tree.specs.Members.{Member, pin, named}
use Rattle.ato_instance_tree.specs.Order.{Spot, leaf, made_at}
use Rattle.ato_elab.specs.declared.places.Places.{Places}
use Rattle.ato_elab.specs.Built.{same_key, held, stands_under, ArePlaces}
use Rattle.ato_elab.specs.Placing.{own_name, AreHeld, HoldsMore, IsFresh}

-- ---- items of a list with one more

pub push_cases : {X : Type 0} (xs : List X) (y x : X) (i : ℕ) → slice_get (xs ++ y ∷ []) i ≡ Some x → ((i < length xs) × (slice_get xs i ≡ Some x)) ⊎ ((i ≡ length xs) × (y ≡ x))
push_cases [] y x zero e = inr (refl, (cc))
push_cases [] y x (suc i) e = absurd (none-some x e)
push_cases (z ∷ xs) y x zero e = inl (omega arith, e)
push_cases (z ∷ xs) y x (suc i) e = elim (push_cases xs y x i e) [ inl h ↦ let l = h.0 in inl (omega arith, h.1) | inr h ↦ let l = h.0 in inr (omega arith, h.1) ]

pub push_kept : {X : Type 0} (xs : List X) (y x : X) (i : ℕ) → slice_get xs i ≡ Some x → slice_get (xs ++ y ∷ []) i ≡ Some x
push_kept xs y x i e = slice_get_push_first xs y i (slice_get_within xs i x e) ∙ e

-- ---- names of nodes

and_true : (a b : Bool) → (a && b) ≡ true → (a ≡ true) × (b ≡ true)
and_true true b h = (refl, h)
and_true false b h = absurd (true≢false (sym h))

not_true : (b : Bool) → (b ≡ true → ⊥) → b ≡ false
not_true true h = absurd (h refl)
not_true false h = refl

key_is : (x y : ℕ × ℕ) → same_key x y ≡ true → (x.0 ≡ y.0) × (x.1 ≡ y.1)
key_is x y h = let both = and_true (nat_eq x.0 y.0) (nat_eq x.1 y.1) h in (eqb-true x.0 y.0 both.0, eqb-true x.1 y.1 both.1)

same_self : (x : ℕ × ℕ) → same_key x x ≡ true
same_self x = ap (λ b. b && nat_eq x.1 x.1) (nat_eq_equiv.refl x.0) ∙ nat_eq_equiv.refl x.1

-- a node without a name stands under none
nameless : (s : Spot) (path : List ℕ) (name : ℕ) → own_name s ≡ None → stands_under path name s ≡ false
nameless (made_at []) path name e = refl
nameless (made_at (n ∷ p)) path name e = absurd (none-some (p, n) (sym e))
nameless (leaf p (pin text)) path name e = refl
nameless (leaf p (named n k)) path name e = absurd (none-some (p, n.name.0) (sym e))

-- a node stands under its own name and no other
has_name : (p path : List ℕ) (n name : ℕ) → bytes_eq (name ∷ path) (n ∷ p) ≡ true → (path ≡ p) × (name ≡ n)
has_name p path n name h = let e = (bytes_eq-Decides (name ∷ path) (n ∷ p)).0 h in (cc, cc)

own_is : (s : Spot) (p path : List ℕ) (n name : ℕ) → own_name s ≡ Some (p, n) → stands_under path name s ≡ bytes_eq (name ∷ path) (n ∷ p)
own_is (made_at []) p path n name e = absurd (none-some (p, n) e)
own_is (made_at (m ∷ q)) p path n name e = let k : (q, m) ≡ (p, n) = cc in ap (λ (x : List ℕ × ℕ). bytes_eq (name ∷ path) (x.1 ∷ x.0)) k
own_is (leaf q (pin text)) p path n name e = absurd (none-some (p, n) e)
own_is (leaf q (named m k)) p path n name e = let j : (q, m.name.0) ≡ (p, n) = cc in ap (λ (x : List ℕ × ℕ). bytes_eq (name ∷ path) (x.1 ∷ x.0)) j

-- an instance stands under no name in itself
not_in_itself : (path : List ℕ) (name : ℕ) → stands_under path name (made_at path) ≡ false
not_in_itself path name = not_true (bytes_eq (name ∷ path) path) (λ h. let e = ap length ((bytes_eq-Decides (name ∷ path) path).0 h) in omega arith)

-- ---- one more that is held

key_same : (x y : ℕ × ℕ) → same_key x y ≡ true → x ≡ y
key_same x y h = let both = key_is x y h in ap (λ (a : ℕ). (a, x.1)) both.0 ∙ ap (λ (b : ℕ). (y.0, b)) both.1

module _ (f : ℕ × ℕ → Option ℕ) (k : ℕ × ℕ) (v : ℕ) where
  -- what is there stays
  pub held_kept : is_some (f k) ≡ true → (q : ℕ × ℕ) → f q ≡ option_or (f q) (cond (same_key k q) (Some v) None)
  held_kept there q = by (f q) (same_key k q) refl refl
    where
      by : (o : Option ℕ) (b : Bool) → f q ≡ o → same_key k q ≡ b → o ≡ option_or o (cond b (Some v) None)
      by (Some x) b e s = refl
      by None false e s = refl
      by None true e s = absurd (true≢false (sym there ∙ ap (λ z. is_some (f z)) (key_same k q s) ∙ ap is_some e))

  -- what is new is put in
  pub held_put : (g : ℕ × ℕ → Option ℕ) → is_some (f k) ≡ false → ((q : ℕ × ℕ) → g q ≡ cond (same_key k q) (Some v) (f q)) → (q : ℕ × ℕ) → g q ≡ option_or (f q) (cond (same_key k q) (Some v) None)
  held_put g new updates q = updates q ∙ by (f q) (same_key k q) refl refl
    where
      by : (o : Option ℕ) (b : Bool) → f q ≡ o → same_key k q ≡ b → cond b (Some v) o ≡ option_or o (cond b (Some v) None)
      by o false e s = or_none o
        where
          or_none : (p : Option ℕ) → p ≡ option_or p None
          or_none (Some x) = refl
          or_none None = refl
      by None true e s = refl
      by (Some x) true e s = absurd (true≢false (ap is_some (sym e) ∙ ap (λ z. is_some (f z)) (sym (key_same k q s)) ∙ new))

-- ---- one more node

-- an instance and a name of it
abbrev AtKey : List Spot → Spot → ℕ × ℕ → Type 0
AtKey done s key = (path : List ℕ) × (slice_get done key.0 ≡ Some (made_at path)) × (own_name s ≡ Some (path, key.1))

module _ (done : List Spot) (s : Spot) (old new : Places) (was : AreHeld done old) (fresh : IsFresh done s) where
  once_more : (i j : ℕ) (path : List ℕ) → slice_get (done ++ s ∷ []) i ≡ Some (made_at path) → slice_get (done ++ s ∷ []) j ≡ Some (made_at path) → i ≡ j
  once_more i j path e f = elim (push_cases done s (made_at path) i e) [
    | inl here ↦ elim (push_cases done s (made_at path) j f) [ inl there ↦ was.once i j path here.1 there.1 | inr there ↦ absurd (fresh i path there.1 here.1) ]
    | inr here ↦ elim (push_cases done s (made_at path) j f) [ inl there ↦ absurd (fresh j path here.1 there.1) | inr there ↦ here.0 ∙ sym there.0 ]
  ]

  -- no node so far stands in the new one
  none_in : (path : List ℕ) (name : ℕ) → s ≡ made_at path → position (stands_under path name) (done ++ s ∷ []) ≡ None
  none_in path name e = position_push (stands_under path name) done s
      ∙ ap (λ o. option_or o (cond (stands_under path name s) (Some (length done)) None))
      (position_none (stands_under path name) done (λ i x at. not_true (stands_under path name x) (λ h. let j = was.inside i name path x at h in fresh j.0 path e j.1)))
      ∙ ap (λ b. cond b (Some (length done)) None) (ap (stands_under path name) e ∙ not_in_itself path name)

  -- a node without a name
  pub held_nameless : own_name s ≡ None → ((instance name : ℕ) → held new instance name ≡ held old instance name) → AreHeld (done ++ s ∷ []) new
  held_nameless none same = record {
    each = λ i name path e. elim (push_cases done s (made_at path) i e) [
      | inl here ↦ same i name ∙ was.each i name path here.1 ∙ stays (position (stands_under path name) done)
          ∙ ap (λ b. option_or (position (stands_under path name) done) (cond b (Some (length done)) None)) (sym (nameless s path name none))
          ∙ sym (position_push (stands_under path name) done s)
      | inr here ↦ same i name ∙ was.no_more i name (let l = here.0 in omega arith) ∙ sym (none_in path name here.1)
    ];
    no_more = λ i name l. same i name ∙ was.no_more i name (let m = length-append done (s ∷ []) in omega arith);
    inside = λ i name path x at h. elim (push_cases done s x i at) [
      | inl here ↦ let j = was.inside i name path x here.1 h in (j.0, push_kept done s (made_at path) j.0 j.1)
      | inr here ↦ absurd (true≢false (sym h ∙ ap (stands_under path name) (sym here.1) ∙ nameless s path name none))
    ];
    once = once_more;
  }
    where
      stays : (o : Option ℕ) → o ≡ option_or o None
      stays (Some x) = refl
      stays None = refl

  key_tells : (key : ℕ × ℕ) (at : AtKey done s key) (i name : ℕ) (path : List ℕ) → slice_get done i ≡ Some (made_at path) → same_key key (i, name) ≡ stands_under path name s
  key_tells key at i name path e =
      same_from_decides (same_key key (i, name)) (stands_under path name s) (forth, back) ((λ h. h), (λ h. h))
    where
      forth : same_key key (i, name) ≡ true → stands_under path name s ≡ true
      forth h = let k = key_is key (i, name) h in
          let p : path ≡ at.0 = let g = sym (ap (slice_get done) k.0 ∙ e) ∙ at.1 in cc in
          own_is s at.0 path key.1 name at.2 ∙ (bytes_eq-Decides (name ∷ path) (key.1 ∷ at.0)).1 (let n = k.1 in cc)

      back : stands_under path name s ≡ true → same_key key (i, name) ≡ true
      back h = let k = has_name at.0 path key.1 name (sym (own_is s at.0 path key.1 name at.2) ∙ h) in
          let same : key.0 ≡ i = was.once key.0 i path (at.1 ∙ ap (λ (p : List ℕ). Some (made_at p)) (sym k.0)) e in
          ap (λ (x : ℕ). same_key key (x, name)) (sym same) ∙ ap (λ (x : ℕ). same_key key (key.0, x)) k.1 ∙ same_self key

  past : (key : ℕ × ℕ) (at : AtKey done s key) (i name : ℕ) → length done ≤ i → same_key key (i, name) ≡ false
  past key at i name l = not_true (same_key key (i, name)) (λ h. let k = (key_is key (i, name) h).0 in let m = slice_get_within done key.0 (made_at at.0) at.1 in absurd (omega arith))

  -- a node with a name
  pub held_named : (key : ℕ × ℕ) → AtKey done s key → HoldsMore old key (length done) new → AreHeld (done ++ s ∷ []) new
  held_named key at more = record {
    each = λ i name path e. elim (push_cases done s (made_at path) i e) [
      | inl here ↦ more i name
          ∙ ap (λ o. option_or o (cond (same_key key (i, name)) (Some (length done)) None)) (was.each i name path here.1)
          ∙ ap (λ b. option_or (position (stands_under path name) done) (cond b (Some (length done)) None)) (key_tells key at i name path here.1)
          ∙ sym (position_push (stands_under path name) done s)
      | inr here ↦ let l : length done ≤ i = let k = here.0 in omega arith in
          more i name
          ∙ ap (λ o. option_or o (cond (same_key key (i, name)) (Some (length done)) None)) (was.no_more i name l)
          ∙ ap (λ b. let nothing : Option ℕ = None in option_or nothing (cond b (Some (length done)) None)) (past key at i name l)
          ∙ sym (none_in path name here.1)
    ];
    no_more = λ i name l. let m : length done ≤ i = let k = length-append done (s ∷ []) in omega arith in
        more i name
        ∙ ap (λ o. option_or o (cond (same_key key (i, name)) (Some (length done)) None)) (was.no_more i name m)
        ∙ ap (λ b. let nothing : Option ℕ = None in option_or nothing (cond b (Some (length done)) None)) (past key at i name m);
    inside = λ i name path x e h. elim (push_cases done s x i e) [
      | inl here ↦ let j = was.inside i name path x here.1 h in (j.0, push_kept done s (made_at path) j.0 j.1)
      | inr here ↦ let k = has_name at.0 path key.1 name (sym (own_is s at.0 path key.1 name at.2) ∙ ap (stands_under path name) here.1 ∙ h) in
          (key.0, push_kept done s (made_at path) key.0 (at.1 ∙ ap (λ (p : List ℕ). Some (made_at p)) (sym k.0)))
    ];
    once = once_more;
  }
