-- How the classes of small trees are worked out: numbers that a list of joins keeps, with a neighbour on the way to the least one for each.
use Rattle.std.proofs.Common.{◌≡◌, ℕ, zero, suc, ◌<◌, ◌≤◌, List, [], ◌∷◌, length, refl, ap, sym, ◌∙◌, subst, arith, inl, inr}
use Rattle.std.specs.Prelude.{◌⊎◌, Bool, true, false, ◌&&◌, ◌||◌, ◌==◌, nat_le, Contains}
use Rattle.std.specs.List.{list_all, list_any, slice_index}
use Rattle.std.proofs.lemmas.Bool.{eqb-true, leb-true}
use Rattle.ato_base.specs.Joined.{Joined, same, along, against}
use Rattle.ato_base.proofs.JoinedLaws.{joined_least}
use Rattle.ato_base.proofs.ClassLaws.{cases, first, later, nowhere}
use Rattle.ato_nets.specs.ClassNumbers.{IsJoin, AreClassNumbers}

pub and_parts : (a b : Bool) → (a && b) ≡ true → (a ≡ true) × (b ≡ true)
and_parts true true e = (refl, refl)
and_parts true false e = absurd (cc)
and_parts false b e = absurd (cc)

pub or_parts : (a b : Bool) → (a || b) ≡ true → (a ≡ true) ⊎ (b ≡ true)
or_parts true b e = inl refl
or_parts false b e = inr e

pub all_has : {X : Type 0} (test : X → Bool) (xs : List X) → list_all test xs ≡ true → (x : X) → Contains xs x → test x ≡ true
all_has test [] e x m = absurd (nowhere x m)
all_has test (y ∷ ys) e x m = let p = and_parts (test y) (list_all test ys) e in elim (cases y x ys m) [ inl s ↦ ap test s ∙ p.0 | inr k ↦ all_has test ys p.1 x k ]

pub any_has : {X : Type 0} (test : X → Bool) (xs : List X) → list_any test xs ≡ true → (x : X) × Contains xs x × (test x ≡ true)
any_has test [] e = absurd (cc)
any_has test (y ∷ ys) e = elim (or_parts (test y) (list_any test ys) e) [ inl t ↦ (y, first y ys, t) | inr k ↦ let more = any_has test ys k in (more.0, later y more.0 ys more.1, more.2) ]

abbrev pub all_below : ℕ → (ℕ → Bool) → Bool
all_below zero test = true
all_below (suc n) test = test n && all_below n test

below_has : (n : ℕ) (test : ℕ → Bool) → all_below n test ≡ true → (p : ℕ) → p < n → test p ≡ true
below_has zero test e p l = absurd (omega arith)
below_has (suc n) test e p l =
    let parts = and_parts (test n) (all_below n test) e in
    elim (at_or_below p n l) [ inl s ↦ ap test s ∙ parts.0 | inr k ↦ below_has n test parts.1 p k ]
  where
    at_or_below : (p n : ℕ) → p < suc n → (p ≡ n) ⊎ (p < n)
    at_or_below zero zero l = inl refl
    at_or_below zero (suc n) l = inr (omega arith)
    at_or_below (suc p) zero l = absurd (omega arith)
    at_or_below (suc p) (suc n) l = elim (at_or_below p n (omega arith)) [ inl s ↦ inl (ap suc s) | inr k ↦ inr (omega arith) ]

abbrev pub has_pair : List (ℕ × ℕ) → ℕ → ℕ → Bool
has_pair joins p q = list_any (λ j. (j.0 == p) && (j.1 == q)) joins

abbrev pub is_near : List (ℕ × ℕ) → ℕ → ℕ → Bool
is_near joins p q = has_pair joins p q || has_pair joins q p

-- A number leads on to its neighbours' until its class's number is met.
abbrev pub leads : List (ℕ × ℕ) → List ℕ → List ℕ → ℕ → ℕ → Bool
leads joins of next zero p = slice_index of p == p
leads joins of next (suc steps) p =
    (slice_index of p == p) || (is_near joins p (slice_index next p) && ((slice_index of (slice_index next p) == slice_index of p) && leads joins of next steps (slice_index next p)))

abbrev pub are_numbers : ℕ → List (ℕ × ℕ) → List ℕ → List ℕ → Bool
are_numbers count joins of next =
    (length of == count) && (all_below count (leads joins of next count) && (all_below count (λ p. nat_le (slice_index of p) p) && list_all (λ j. slice_index of j.0 == slice_index of j.1) joins))

module _ (joins : List (ℕ × ℕ)) (of next : List ℕ) where
  pair_there : (p q : ℕ) → has_pair joins p q ≡ true → IsJoin joins p q
  pair_there p q e =
      let it = any_has (λ j. (j.0 == p) && (j.1 == q)) joins e in
      let both = and_parts (it.0.0 == p) (it.0.1 == q) it.2 in
      subst (λ a. Contains joins (a, q)) (eqb-true it.0.0 p both.0) (subst (λ b. Contains joins (it.0.0, b)) (eqb-true it.0.1 q both.1) it.1)

  led : (steps p : ℕ) → leads joins of next steps p ≡ true → Joined (IsJoin joins) p (slice_index of p)
  led zero p e = subst (Joined (IsJoin joins) p) (sym (eqb-true (slice_index of p) p e)) same
  led (suc steps) p e =
      let q = slice_index next p in
      elim (or_parts (slice_index of p == p) (is_near joins p q && ((slice_index of q == slice_index of p) && leads joins of next steps q)) e) [
        | inl s ↦ subst (Joined (IsJoin joins) p) (sym (eqb-true (slice_index of p) p s)) same
        | inr more ↦
            let a = and_parts (is_near joins p q) ((slice_index of q == slice_index of p) && leads joins of next steps q) more in
            let b = and_parts (slice_index of q == slice_index of p) (leads joins of next steps q) a.1 in
            let rest : Joined (IsJoin joins) q (slice_index of p) = subst (Joined (IsJoin joins) q) (eqb-true (slice_index of q) (slice_index of p) b.0) (led steps q b.1) in
            elim (or_parts (has_pair joins p q) (has_pair joins q p) a.0) [ inl h ↦ along (pair_there p q h) rest | inr h ↦ against (pair_there q p h) rest ]
      ]

  -- Numbers that pass the test are the numbers of the classes.
  pub numbers_are : (count : ℕ) → are_numbers count joins of next ≡ true → AreClassNumbers count joins of
  numbers_are count e =
      let a = and_parts (length of == count) (all_below count (leads joins of next count) && (all_below count (λ p. nat_le (slice_index of p) p) && list_all (λ j. slice_index of j.0 == slice_index of j.1) joins)) e in
      let b = and_parts (all_below count (leads joins of next count)) (all_below count (λ p. nat_le (slice_index of p) p) && list_all (λ j. slice_index of j.0 == slice_index of j.1) joins) a.1 in
      let c = and_parts (all_below count (λ p. nat_le (slice_index of p) p)) (list_all (λ j. slice_index of j.0 == slice_index of j.1) joins) b.1 in
      let kept : (p q : ℕ) → Joined (IsJoin joins) p q → slice_index of p ≡ slice_index of q =
      λ p q j. joined_least (IsJoin joins) (λ x y. slice_index of x ≡ slice_index of y) (λ x. refl) (λ x y s. sym s) (λ x y z s t. s ∙ t)
      (λ x y d. eqb-true (slice_index of x) (slice_index of y) (all_has (λ k. slice_index of k.0 == slice_index of k.1) joins c.1 (x, y) d)) j in
      record {
        size = eqb-true (length of) count a.0;
        joined = λ p l. led count p (below_has count (leads joins of next count) b.0 p l);
        least = λ p q l m j. let low : slice_index of q ≤ q = leb-true (slice_index of q) q (below_has count (λ x. nat_le (slice_index of x) x) c.0 q m) in omega (arith, low, kept p q j);
      }
