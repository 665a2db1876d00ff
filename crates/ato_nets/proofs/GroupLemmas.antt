-- How the groups of points grow.
use Rattle.std.proofs.Common.{◌≡◌, ◌≢◌, ℕ, zero, suc, ◌<◌, ◌≤◌, ◌+◌, ◌-◌, List, [], ◌∷◌, ◌++◌, length, get_or, set, ap, sym, ◌∙◌, refl, arith, subst, inl, inr, length-append, length-set, replicate}
use Rattle.std.specs.Prelude.{Contains}
use Rattle.std.proofs.lemmas.List.{get_or-set_same, get_or-set_other, get_or_append_left, get_or-replicate, length-replicate}
use Rattle.std.proofs.Math.Seq.{get_or-append_seam}
use Rattle.std.proofs.lemmas.Bool.Decides.{eqb_tells}
use Rattle.std.proofs.lemmas.List.Elements.{Contains-append_left, Contains-append_cases}
use Rattle.ato_base.specs.Classes.{Classes, no_class}
use Rattle.ato_base.proofs.ClassLaws.{classes_new, classes_more}
use Rattle.ato_nets.specs.Groups.{SameClass, numbers_below}

-- The places of the classes of the points so far: 0, or one more than the place of the group of the class.
pub record Places (of : List ℕ) (first point : ℕ) (groups : List (List ℕ)) (places : List ℕ) : Type 0 where
  pub size : length places ≡ length of
  pub placed : (i : ℕ) → i < point → get_or places (get_or of (first + i) 0) 0 ≡ 0 → ⊥
  pub within : (m : ℕ) → m < length of → get_or places m 0 ≤ length groups
  pub held : (m : ℕ) → m < length of → 0 < get_or places m 0 → (x : ℕ) × Contains (get_or groups (get_or places m 0 - 1) []) x × (get_or of (first + x) 0 ≡ m)

-- the numbers below one are below it
pub below : (n x : ℕ) → Contains (numbers_below n) x → x < n
below zero x (k, h, e) = absurd (omega arith)
below (suc n) x h = elim (Contains-append_cases (numbers_below n) (n ∷ []) x h) [ inl m ↦ let l : x < n = below n x m in omega arith | inr (k, l, e) ↦ last k l e ]
  where
    last : (k : ℕ) → k < 1 → get_or (n ∷ []) k x ≡ x → x < suc n
    last zero l e = omega arith
    last (suc k) l e = absurd (omega arith)

module _ (of : List ℕ) (first : ℕ) where
  same_self : (i : ℕ) → SameClass of first i i
  same_self i = refl

  same_flip : (i j : ℕ) → SameClass of first i j → SameClass of first j i
  same_flip i j e = sym e

  same_chain : (i j k : ℕ) → SameClass of first i j → SameClass of first j k → SameClass of first i k
  same_chain i j k e f = e ∙ f

  -- a point of a class that has no place
  pub new_group : (point : ℕ) (groups : List (List ℕ)) (places : List ℕ) → Classes (SameClass of first) (numbers_below point) groups → Places of first point groups places
      → get_or places (get_or of (first + point) 0) 0 ≡ 0 → Classes (SameClass of first) (numbers_below (suc point)) (groups ++ (point ∷ []) ∷ [])
  new_group point groups places classes h none =
      classes_new (SameClass of first) classes point (λ x m same. h.placed x (below point x m) (ap (λ c. get_or places c 0) same ∙ none))

  -- the place of the new class is the last, and the others stay
  here : (point : ℕ) (groups : List (List ℕ)) (places : List ℕ) → Places of first point groups places → get_or of (first + point) 0 < length of
      → get_or (set places (get_or of (first + point) 0) (length groups + 1)) (get_or of (first + point) 0) 0 ≡ length groups + 1
  here point groups places h fits = get_or-set_same places (get_or of (first + point) 0) (length groups + 1) 0 (omega (arith, h.size))

  there : (point : ℕ) (groups : List (List ℕ)) (places : List ℕ) (m : ℕ) → m ≢ get_or of (first + point) 0
      → get_or (set places (get_or of (first + point) 0) (length groups + 1)) m 0 ≡ get_or places m 0
  there point groups places m other = get_or-set_other places (get_or of (first + point) 0) m (length groups + 1) 0 other

  pub new_places : (point : ℕ) (groups : List (List ℕ)) (places : List ℕ) → Places of first point groups places → get_or of (first + point) 0 < length of
      → get_or places (get_or of (first + point) 0) 0 ≡ 0 → Places of first (suc point) (groups ++ (point ∷ []) ∷ []) (set places (get_or of (first + point) 0) (length groups + 1))
  new_places point groups places h fits none = record { size = length-set places (get_or of (first + point) 0) (length groups + 1) ∙ h.size; placed = placed; within = within; held = held }
    where
      placed : (i : ℕ) → i < suc point → get_or (set places (get_or of (first + point) 0) (length groups + 1)) (get_or of (first + i) 0) 0 ≡ 0 → ⊥
      placed i l e = elim (eqb_tells (get_or of (first + i) 0) (get_or of (first + point) 0)) [
        | inl same ↦ let at : get_or (set places (get_or of (first + point) 0) (length groups + 1)) (get_or of (first + i) 0) 0 ≡ length groups + 1 =
            ap (λ c. get_or (set places (get_or of (first + point) 0) (length groups + 1)) c 0) same.1 ∙ here point groups places h fits in omega arith
        | inr other ↦ elim (eqb_tells i point) [
          | inl last ↦ other.1 (ap (λ k. get_or of (first + k) 0) last.1)
          | inr earlier ↦ let less : i < point = omega (arith, earlier.1) in h.placed i less (sym (there point groups places (get_or of (first + i) 0) other.1) ∙ e)
        ]
      ]

      within : (m : ℕ) → m < length of → get_or (set places (get_or of (first + point) 0) (length groups + 1)) m 0 ≤ length (groups ++ (point ∷ []) ∷ [])
      within m l = elim (eqb_tells m (get_or of (first + point) 0)) [
        | inl same ↦ omega (arith, ap (λ c. get_or (set places (get_or of (first + point) 0) (length groups + 1)) c 0) same.1, here point groups places h fits, length-append groups ((point ∷ []) ∷ []))
        | inr other ↦ omega (arith, there point groups places m other.1, h.within m l, length-append groups ((point ∷ []) ∷ []))
      ]

      held : (m : ℕ) → m < length of → 0 < get_or (set places (get_or of (first + point) 0) (length groups + 1)) m 0
          → (x : ℕ) × Contains (get_or (groups ++ (point ∷ []) ∷ []) (get_or (set places (get_or of (first + point) 0) (length groups + 1)) m 0 - 1) []) x × (get_or of (first + x) 0 ≡ m)
      held m l some = elim (eqb_tells m (get_or of (first + point) 0)) [
        | inl same ↦
            let place : get_or (set places (get_or of (first + point) 0) (length groups + 1)) m 0 - 1 ≡ length groups =
            omega (arith, ap (λ c. get_or (set places (get_or of (first + point) 0) (length groups + 1)) c 0) same.1, here point groups places h fits) in
            let group : get_or (groups ++ (point ∷ []) ∷ []) (get_or (set places (get_or of (first + point) 0) (length groups + 1)) m 0 - 1) [] ≡ point ∷ [] =
            ap (λ n. get_or (groups ++ (point ∷ []) ∷ []) n []) place ∙ get_or-append_seam groups (point ∷ []) [] [] in
            (point, subst (λ g. Contains g point) (sym group) (0, omega arith, refl), sym same.1)
        | inr other ↦
            let same : get_or (set places (get_or of (first + point) 0) (length groups + 1)) m 0 ≡ get_or places m 0 = there point groups places m other.1 in
            let found = h.held m l (subst (λ n. 0 < n) same some) in
            let group : get_or (groups ++ (point ∷ []) ∷ []) (get_or (set places (get_or of (first + point) 0) (length groups + 1)) m 0 - 1) [] ≡ get_or groups (get_or places m 0 - 1) [] =
            ap (λ n. get_or (groups ++ (point ∷ []) ∷ []) (n - 1) []) same ∙ get_or_append_left groups ((point ∷ []) ∷ []) [] (get_or places m 0 - 1) (omega (arith, same, h.within m l)) in
            (found.0, subst (λ g. Contains g found.0) (sym group) found.1, found.2)
      ]

  -- ---- a point of a class that has a place

  pub old_group : (point : ℕ) (groups : List (List ℕ)) (places : List ℕ) → Classes (SameClass of first) (numbers_below point) groups → Places of first point groups places
      → get_or of (first + point) 0 < length of → (place : ℕ) → get_or places (get_or of (first + point) 0) 0 ≡ place + 1
      → Classes (SameClass of first) (numbers_below (suc point)) (set groups place (get_or groups place [] ++ point ∷ []))
  old_group point groups places classes h fits place is =
      let found = h.held (get_or of (first + point) 0) fits (omega arith) in
      let here : get_or places (get_or of (first + point) 0) 0 - 1 ≡ place = omega arith in
      classes_more (SameClass of first) same_self same_flip same_chain classes place found.0 point (omega (arith, h.within (get_or of (first + point) 0) fits))
      (subst (λ n. Contains (get_or groups n []) found.0) here found.1) found.2

  pub old_places : (point : ℕ) (groups : List (List ℕ)) (places : List ℕ) → Places of first point groups places → get_or of (first + point) 0 < length of
      → (place : ℕ) → get_or places (get_or of (first + point) 0) 0 ≡ place + 1 → Places of first (suc point) (set groups place (get_or groups place [] ++ point ∷ [])) places
  old_places point groups places h fits place is = record { size = h.size; placed = placed; within = λ m l. omega (arith, h.within m l, length-set groups place (get_or groups place [] ++ point ∷ [])); held = held }
    where
      placed : (i : ℕ) → i < suc point → get_or places (get_or of (first + i) 0) 0 ≡ 0 → ⊥
      placed i l e = elim (eqb_tells i point) [
        | inl last ↦ let at : get_or places (get_or of (first + i) 0) 0 ≡ place + 1 = ap (λ k. get_or places (get_or of (first + k) 0) 0) last.1 ∙ is in omega arith
        | inr earlier ↦ let less : i < point = omega (arith, earlier.1) in h.placed i less e
      ]

      held : (m : ℕ) → m < length of → 0 < get_or places m 0 → (x : ℕ) × Contains (get_or (set groups place (get_or groups place [] ++ point ∷ [])) (get_or places m 0 - 1) []) x × (get_or of (first + x) 0 ≡ m)
      held m l some =
          let found = h.held m l some in
          elim (eqb_tells (get_or places m 0 - 1) place) [
            | inl same ↦
                let group : get_or (set groups place (get_or groups place [] ++ point ∷ [])) (get_or places m 0 - 1) [] ≡ get_or groups (get_or places m 0 - 1) [] ++ point ∷ [] =
                ap (λ n. get_or (set groups place (get_or groups place [] ++ point ∷ [])) n []) same.1
                ∙ get_or-set_same groups place (get_or groups place [] ++ point ∷ []) [] (omega (arith, h.within m l, same.1))
                ∙ ap (λ n. get_or groups n [] ++ point ∷ []) (sym same.1) in
                (found.0, subst (λ g. Contains g found.0) (sym group) (Contains-append_left (get_or groups (get_or places m 0 - 1) []) (point ∷ []) found.0 found.1), found.2)
            | inr other ↦
                let group : get_or (set groups place (get_or groups place [] ++ point ∷ [])) (get_or places m 0 - 1) [] ≡ get_or groups (get_or places m 0 - 1) [] =
                get_or-set_other groups place (get_or places m 0 - 1) (get_or groups place [] ++ point ∷ []) [] other.1 in
                (found.0, subst (λ g. Contains g found.0) (sym group) found.1, found.2)
          ]

-- ---- the loop

-- What stands before each point.
pub record Grouped (of : List ℕ) (first point : ℕ) (groups : List (List ℕ)) (places : List ℕ) : Type 0 where
  pub told_apart : Classes (SameClass of first) (numbers_below point) groups
  pub in_places : Places of first point groups places

pub none_grouped : (of : List ℕ) (first n : ℕ) → n ≡ length of → Grouped of first 0 [] (replicate n 0)
none_grouped of first n size = record {
  told_apart = no_class;
  in_places = record {
    size = length-replicate {A = ℕ} n 0 ∙ size;
    placed = λ i l e. absurd (omega arith);
    within = λ m l. omega (arith, get_or-replicate {A = ℕ} n m 0 0 (omega arith));
    held = λ m l some. absurd (omega (arith, get_or-replicate {A = ℕ} n m 0 0 (omega arith)));
  };
}

-- one point more, whose class is in range
pub one_grouped : (of : List ℕ) (first point : ℕ) (groups : List (List ℕ)) (places : List ℕ) (new : List (List ℕ)) (later : List ℕ) → Grouped of first point groups places → get_or of (first + point) 0 < length of
    → (get_or places (get_or of (first + point) 0) 0 ≡ 0 → (new ≡ groups ++ (point ∷ []) ∷ []) × (later ≡ set places (get_or of (first + point) 0) (length groups + 1)))
    → ((place : ℕ) → get_or places (get_or of (first + point) 0) 0 ≡ place + 1 → (new ≡ set groups place (get_or groups place [] ++ point ∷ [])) × (later ≡ places))
    → Grouped of first (suc point) new later
one_grouped of first point groups places new later h fits fresh known = elim (eqb_tells (get_or places (get_or of (first + point) 0) 0) 0) [
  | inl none ↦ let is = fresh none.1 in both is.0 is.1 (new_group of first point groups places h.told_apart h.in_places none.1) (new_places of first point groups places h.in_places fits none.1)
  | inr some ↦
      let place : ℕ = get_or places (get_or of (first + point) 0) 0 - 1 in
      let at : get_or places (get_or of (first + point) 0) 0 ≡ place + 1 = omega (arith, some.1) in
      let is = known place at in
      both is.0 is.1 (old_group of first point groups places h.told_apart h.in_places fits place at) (old_places of first point groups places h.in_places fits place at)
]
  where
    both : {made : List (List ℕ)} {kept : List ℕ} → new ≡ made → later ≡ kept → Classes (SameClass of first) (numbers_below (suc point)) made → Places of first (suc point) made kept → Grouped of first (suc point) new later
    both {made} {kept} p q classes placed = subst (λ g. Grouped of first (suc point) g later) (sym p) (subst (λ l. Grouped of first (suc point) made l) (sym q) (record { told_apart = classes; in_places = placed }))
