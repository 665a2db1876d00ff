-- The entries that are made from what is held, one by one: each is made from one that is held, and none is made twice.
use Rattle.std.proofs.Common.{◌≡◌, ℕ, zero, suc, Bool, true, false, ◌&&◌, nat_eq, true≢false, List, [], ◌∷◌, ◌++◌, length, Option, Some, None, inl, inr, refl, sym, ap, ◌∙◌, Bor}
use Rattle.std.specs.Prelude.{⊤, slice_get, map, filter_map, Contains}
use Rattle.std.specs.Cmp.{IsEquivalence, nat_eq_equiv}
use Rattle.std.specs.List.{AllByRecursion, IsDistinct, cons_option}
use Rattle.std.specs.Map.{keys_of}
use Rattle.std.specs.Option.{option_map}
use Rattle.std.proofs.lemmas.Bool.{eqb-true}
use Rattle.std.proofs.lemmas.Option.{none-some, same_Some, slice_get_read, slice_get_within, get_or_from_slice_get}
use Rattle.std.proofs.lemmas.Map.Keys.{IsDistinct-head, IsDistinct-tail}
use Rattle.std.proofs.lemmas.Map.Views.{hash_map_get_iff}
use Rattle.indexmap.specs.IndexMap.{IsUnique}
use Rattle.ato_files.specs.Programs.{NamesDiffer}
use Rattle.ato_instance_tree.specs.declared.tree.Effective.{Effective}
use Rattle.ato_instance_tree.proofs.SpotLaws.{IsIn, at_in}
use Rattle.ato_instance_tree.proofs.PlaceLaws.{place_in}
use Rattle.ato_elab.specs.declared.assigned.Assigned.{Assigned}
use Rattle.ato_elab.specs.Assigned.{held_by}
use Rattle.ato_elab.specs.Built.{same_key}
use Rattle.ato_elab.specs.Counting.{entry_of}

-- what is held for a name of an instance, and the name and the instance
abbrev pub Held : Type 0
Held = (ℕ × ℕ) × (ℕ × ℕ)

-- ---- one more entry

some_more : (names : List (List ℕ)) (ps : List (Bor (ℕ × ℕ) × Bor (ℕ × ℕ))) (p : Bor (ℕ × ℕ) × Bor (ℕ × ℕ)) (e : Effective) → entry_of names (p.0.now, p.1.now) ≡ Some e
    → filter_map (entry_of names) (map (λ p. (p.0.now, p.1.now)) ps) ++ e ∷ [] ≡ filter_map (entry_of names) (map (λ p. (p.0.now, p.1.now)) (ps ++ p ∷ []))
some_more names [] p e is = sym (ap (λ (o : Option Effective). cons_option o []) is)
some_more names (q ∷ ps) p e is = by (entry_of names (q.0.now, q.1.now)) (some_more names ps p e is)
  where
    by : (o : Option Effective) → filter_map (entry_of names) (map (λ p. (p.0.now, p.1.now)) ps) ++ e ∷ [] ≡ filter_map (entry_of names) (map (λ p. (p.0.now, p.1.now)) (ps ++ p ∷ []))
        → cons_option o (filter_map (entry_of names) (map (λ p. (p.0.now, p.1.now)) ps)) ++ e ∷ []
        ≡ cons_option o (filter_map (entry_of names) (map (λ p. (p.0.now, p.1.now)) (ps ++ p ∷ [])))
    by None more = more
    by (Some x) more = ap (λ (l : List Effective). x ∷ l) more

none_more : (names : List (List ℕ)) (ps : List (Bor (ℕ × ℕ) × Bor (ℕ × ℕ))) (p : Bor (ℕ × ℕ) × Bor (ℕ × ℕ)) → entry_of names (p.0.now, p.1.now) ≡ None
    → filter_map (entry_of names) (map (λ p. (p.0.now, p.1.now)) ps) ≡ filter_map (entry_of names) (map (λ p. (p.0.now, p.1.now)) (ps ++ p ∷ []))
none_more names [] p is = sym (ap (λ (o : Option Effective). cons_option o []) is)
none_more names (q ∷ ps) p is = ap (cons_option (entry_of names (q.0.now, q.1.now))) (none_more names ps p is)

pub more_some : (names : List (List ℕ)) (ps : List (Bor (ℕ × ℕ) × Bor (ℕ × ℕ))) (p : Bor (ℕ × ℕ) × Bor (ℕ × ℕ)) (e : Effective) (es : List Effective)
    → es ≡ filter_map (entry_of names) (map (λ p. (p.0.now, p.1.now)) ps) → Some e ≡ entry_of names (p.0.now, p.1.now)
    → es ++ e ∷ [] ≡ filter_map (entry_of names) (map (λ p. (p.0.now, p.1.now)) (ps ++ p ∷ []))
more_some names ps p e es is made = ap (λ (l : List Effective). l ++ e ∷ []) is ∙ some_more names ps p e (sym made)

pub more_none : (names : List (List ℕ)) (ps : List (Bor (ℕ × ℕ) × Bor (ℕ × ℕ))) (p : Bor (ℕ × ℕ) × Bor (ℕ × ℕ)) (es : List Effective)
    → es ≡ filter_map (entry_of names) (map (λ p. (p.0.now, p.1.now)) ps) → None ≡ entry_of names (p.0.now, p.1.now)
    → es ≡ filter_map (entry_of names) (map (λ p. (p.0.now, p.1.now)) (ps ++ p ∷ []))
more_none names ps p es is made = is ∙ none_more names ps p (sym made)

-- ---- items of lists

pub contains_in : {X : Type 0} (x : X) (xs : List X) → Contains xs x → IsIn x xs
contains_in x xs h = at_in x xs h.0 (slice_get_read xs (length xs) h.0 x refl h.1 (sym h.2))

pub in_contains : {X : Type 0} (x : X) (xs : List X) → IsIn x xs → Contains xs x
in_contains x xs h = let p = place_in x xs h in (p.0, slice_get_within xs p.0 x p.1, get_or_from_slice_get xs p.0 x x p.1)

-- an entry is made from one that is held
pub in_made : (names : List (List ℕ)) (es : List Held) (y : Effective) → IsIn y (filter_map (entry_of names) es) → (x : Held) × IsIn x es × (entry_of names x ≡ Some y)
in_made names [] y h = absurd h
in_made names (e ∷ es) y h = by (entry_of names e) refl h (λ k. in_made names es y k)
  where
    by : (o : Option Effective) → entry_of names e ≡ o → IsIn y (cons_option o (filter_map (entry_of names) es))
        → (IsIn y (filter_map (entry_of names) es) → (x : Held) × IsIn x es × (entry_of names x ≡ Some y)) → (x : Held) × IsIn x (e ∷ es) × (entry_of names x ≡ Some y)
    by None is h more = let r = more h in (r.0, inr r.1, r.2)
    by (Some z) is (inl k) more = (e, inl refl, is ∙ ap Some (sym k))
    by (Some z) is (inr k) more = let r = more k in (r.0, inr r.1, r.2)

-- from each that is held, and whose name has a text, an entry is made
pub made_in : (names : List (List ℕ)) (es : List Held) (x : Held) (y : Effective) → IsIn x es → entry_of names x ≡ Some y → IsIn y (filter_map (entry_of names) es)
made_in names [] x y h is = absurd h
made_in names (e ∷ es) x y h is = by (entry_of names e) refl h (λ k. made_in names es x y k is)
  where
    by : (o : Option Effective) → entry_of names e ≡ o → IsIn x (e ∷ es) → (IsIn x es → IsIn y (filter_map (entry_of names) es)) → IsIn y (cons_option o (filter_map (entry_of names) es))
    by None made (inl k) more = absurd (none-some y (sym made ∙ ap (entry_of names) (sym k) ∙ is))
    by None made (inr k) more = more k
    by (Some z) made (inl k) more = inl (sym (same_Some z y (sym made ∙ ap (entry_of names) (sym k) ∙ is)))
    by (Some z) made (inr k) more = inr (more k)

-- ---- what an entry says

pub record IsMadeOf (names : List (List ℕ)) (x : Held) (y : Effective) : Type 0 where
  pub node : x.0.0 ≡ y.node
  pub name : slice_get names x.0.1 ≡ Some y.name
  pub by : x.1.0 ≡ y.by

pub made_of : (names : List (List ℕ)) (x : Held) (y : Effective) → entry_of names x ≡ Some y → IsMadeOf names x y
made_of names x y e = split (slice_get names x.0.1) refl e
  where
    split : (o : Option (List ℕ)) → slice_get names x.0.1 ≡ o → option_map (λ (text : List ℕ). record { node = x.0.0; name = text; by = x.1.0 }) o ≡ Some y → IsMadeOf names x y
    split None is h = absurd (none-some y h)
    split (Some text) is h = let same : record { node = x.0.0; name = text; by = x.1.0 } ≡ y = same_Some (record { node = x.0.0; name = text; by = x.1.0 }) y h in record {
      node = ap (λ (z : Effective). z.node) same;
      name = is ∙ ap (λ (z : Effective). Some z.name) same;
      by = ap (λ (z : Effective). z.by) same;
    }

-- ---- keys

and_true : (a b : Bool) → (a && b) ≡ true → (a ≡ true) × (b ≡ true)
and_true true b h = (refl, h)
and_true false b h = absurd (true≢false (sym h))

pub key_is : (x y : ℕ × ℕ) → same_key x y ≡ true → x ≡ y
key_is x y h = let both = and_true (nat_eq x.0 y.0) (nat_eq x.1 y.1) h in
    ap (λ (a : ℕ). (a, x.1)) (eqb-true x.0 y.0 both.0) ∙ ap (λ (b : ℕ). (y.0, b)) (eqb-true x.1 y.1 both.1)

key_same : (x : ℕ × ℕ) → same_key x x ≡ true
key_same x = ap (λ (b : Bool). b && nat_eq x.1 x.1) (nat_eq_equiv.refl x.0) ∙ nat_eq_equiv.refl x.1

pub key_laws : IsEquivalence same_key
key_laws = record {
  refl = key_same;
  symm = λ x y. ap (λ (b : Bool). b && nat_eq x.1 y.1) (nat_eq_equiv.symm x.0 y.0) ∙ ap (λ (b : Bool). nat_eq y.0 x.0 && b) (nat_eq_equiv.symm x.1 y.1);
  congr = λ x y z h. ap (λ (k : ℕ × ℕ). same_key k z) (key_is x y h);
}

pub in_held : (a : Assigned) → IsUnique same_key a.by → (x : Held) → IsIn x a.by.entries → held_by a x.0.0 x.0.1 ≡ Some x.1
in_held a unique x h = (hash_map_get_iff key_laws key_is a.by unique x.0 x.1).1 (in_contains x a.by.entries h)

pub held_in : (a : Assigned) → IsUnique same_key a.by → (number name : ℕ) (p : ℕ × ℕ) → held_by a number name ≡ Some p → IsIn ((number, name), p) a.by.entries
held_in a unique number name p h = contains_in ((number, name), p) a.by.entries ((hash_map_get_iff key_laws key_is a.by unique (number, name) p).0 h)

-- ---- no entry twice

abbrev pub AreOnce : List Effective → Type 0
AreOnce [] = ⊤
AreOnce (x ∷ xs) = (IsIn x xs → ⊥) × AreOnce xs

pub once_at : (xs : List Effective) (i j : ℕ) (x : Effective) → AreOnce xs → slice_get xs i ≡ Some x → slice_get xs j ≡ Some x → i ≡ j
once_at [] i j x once e f = absurd (none-some x e)
once_at (z ∷ xs) zero zero x once e f = refl
once_at (z ∷ xs) zero (suc j) x once e f = absurd (once.0 (at_in z xs j (f ∙ sym e)))
once_at (z ∷ xs) (suc i) zero x once e f = absurd (once.0 (at_in z xs i (e ∙ sym f)))
once_at (z ∷ xs) (suc i) (suc j) x once e f = ap suc (once_at xs i j x once.1 e f)

other_key : (q : ℕ × ℕ) (es : List Held) (x : Held) → AllByRecursion (λ k. same_key q k ≡ false) (keys_of es) → IsIn x es → same_key q x.0 ≡ false
other_key q [] x all h = absurd h
other_key q (e ∷ es) x all (inl k) = ap (λ (y : Held). same_key q y.0) k ∙ all.0
other_key q (e ∷ es) x all (inr k) = other_key q es x all.1 k

one_key : (names : List (List ℕ)) → NamesDiffer names → (x z : Held) (y : Effective) → entry_of names x ≡ Some y → entry_of names z ≡ Some y → same_key x.0 z.0 ≡ true
one_key names differ x z y e f =
    let a = made_of names x y e in let b = made_of names z y f in
    ap (λ (n : ℕ). same_key (n, x.0.1) z.0) (a.node ∙ sym b.node) ∙ ap (λ (n : ℕ). same_key (z.0.0, n) z.0) (differ x.0.1 z.0.1 y.name a.name b.name) ∙ key_same z.0

pub entries_once : (names : List (List ℕ)) → NamesDiffer names → (es : List Held) → IsDistinct same_key (keys_of es) → AreOnce (filter_map (entry_of names) es)
entries_once names differ [] apart = tt
entries_once names differ (e ∷ es) apart = by (entry_of names e) refl (entries_once names differ es (IsDistinct-tail same_key e.0 (keys_of es) apart))
  where
    by : (o : Option Effective) → entry_of names e ≡ o → AreOnce (filter_map (entry_of names) es) → AreOnce (cons_option o (filter_map (entry_of names) es))
    by None is more = more
    by (Some y) is more = (
      (λ h. let r = in_made names es y h in
          true≢false (sym (one_key names differ e r.0 y is r.2) ∙ other_key e.0 es r.0 (IsDistinct-head same_key e.0 (keys_of es) apart) r.1)),
      more,
    )
