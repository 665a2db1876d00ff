-- The rows of neighbours: what one more neighbour and one more join change, and what joined neighbours are.
use Rattle.std.proofs.Common.{◌≡◌, ℕ, ◌+◌, ◌<◌, ◌⊎◌, List, [], ◌∷◌, ◌++◌, length, get_or, take, Contains, subst, sym, inl, inr, arith, get_or-set_same, get_or-set_other, length-set}
use Rattle.std.proofs.lemmas.Bool.{cases_eq, cases_lt}
use Rattle.std.proofs.lemmas.Grind.{get_or-set_at}
use Rattle.std.proofs.lemmas.List.{take_more, get_or_past}
use Rattle.std.proofs.lemmas.List.Elements.{Contains-push, Contains-push_cases, Contains-append_left}
use Rattle.ato_base.specs.Joined.{Joined, same, along, against}
use Rattle.ato_base.proofs.JoinedLaws.{joined_sym, joined_trans, joined_least}
use Rattle.ato_nets.specs.ClassNumbers.{IsJoin}
use Rattle.ato_nets.specs.Flooding.{IsNeighbour, with_neighbour, AreRows, AreMutual}

pub nothing_in : {X : Type 0} (x : X) → Contains [] x → ⊥
nothing_in x c = let at : c.0 < 0 = c.1 in absurd (omega arith)

-- a point with a neighbour has a row
pub neighbour_within : {rows : List (List ℕ)} {p q : ℕ} → IsNeighbour rows p q → p < length rows
neighbour_within {rows} {p} {q} near = elim (cases_lt p (length rows)) [
  | inl h ↦ h
  | inr out ↦ absurd (nothing_in q (subst (λ row. Contains row q) (get_or_past rows p [] out) near.found))
]

-- one more neighbour
pub added_there : (rows : List (List ℕ)) (p q : ℕ) → p < length rows → IsNeighbour (with_neighbour rows p q) p q
added_there rows p q h =
    record { found = subst (λ row. Contains row q) (sym (get_or-set_same rows p (get_or rows p [] ++ q ∷ []) [] h)) (Contains-push (get_or rows p []) q) }

pub added_keeps : (rows : List (List ℕ)) (p q x y : ℕ) → p < length rows → IsNeighbour rows x y → IsNeighbour (with_neighbour rows p q) x y
added_keeps rows p q x y h near = elim (cases_eq x p) [
  | inl e ↦ record {
    found = subst (λ row. Contains row y) (sym (get_or-set_at rows p x (get_or rows p [] ++ q ∷ []) [] e h))
        (Contains-append_left (get_or rows p []) (q ∷ []) y (subst (λ k. Contains (get_or rows k []) y) e near.found));
  }
  | inr n ↦ record { found = subst (λ row. Contains row y) (sym (get_or-set_other rows p x (get_or rows p [] ++ q ∷ []) [] n)) near.found }
]

pub added_cases : (rows : List (List ℕ)) (p q x y : ℕ) → p < length rows → IsNeighbour (with_neighbour rows p q) x y → IsNeighbour rows x y ⊎ ((x ≡ p) × (y ≡ q))
added_cases rows p q x y h near = elim (cases_eq x p) [
  | inl e ↦ elim (Contains-push_cases (get_or rows p []) q y (subst (λ row. Contains row y) (get_or-set_at rows p x (get_or rows p [] ++ q ∷ []) [] e h) near.found)) [
    | inl old ↦ inl (record { found = subst (λ k. Contains (get_or rows k []) y) (sym e) old })
    | inr new ↦ inr (e, sym new)
  ]
  | inr n ↦ inl (record { found = subst (λ row. Contains row y) (get_or-set_other rows p x (get_or rows p [] ++ q ∷ []) [] n) near.found })
]

-- one more join
pub one_join_more : (joins : List (ℕ × ℕ)) (rows : List (List ℕ)) (a b : ℕ) → a < length rows → b < length rows → AreRows joins rows
    → AreRows (joins ++ (a, b) ∷ []) (with_neighbour (with_neighbour rows a b) b a)
one_join_more joins rows a b ha hb are =
    let hb' : b < length (with_neighbour rows a b) = subst (λ n. b < n) (sym (length-set rows a (get_or rows a [] ++ b ∷ []))) hb in
    let keep : (p q : ℕ) → IsNeighbour rows p q → IsNeighbour (with_neighbour (with_neighbour rows a b) b a) p q =
    λ p q near. added_keeps (with_neighbour rows a b) b a p q hb' (added_keeps rows a b p q ha near) in
    let there' : IsNeighbour (with_neighbour (with_neighbour rows a b) b a) a b = added_keeps (with_neighbour rows a b) b a a b hb' (added_there rows a b ha) in
    let back' : IsNeighbour (with_neighbour (with_neighbour rows a b) b a) b a = added_there (with_neighbour rows a b) b a hb' in
    let new : IsJoin (joins ++ (a, b) ∷ []) a b = Contains-push joins (a, b) in
    let old : (p q : ℕ) → IsJoin joins p q → IsJoin (joins ++ (a, b) ∷ []) p q = λ p q j. Contains-append_left joins ((a, b) ∷ []) (p, q) j in
    record {
      there = λ p q j. elim (Contains-push_cases joins (a, b) (p, q) j) [
        | inl o ↦ keep p q (are.there p q o)
        | inr e ↦ subst (λ (t : ℕ × ℕ). IsNeighbour (with_neighbour (with_neighbour rows a b) b a) t.0 t.1) e there'
      ];
      back = λ p q j. elim (Contains-push_cases joins (a, b) (p, q) j) [
        | inl o ↦ keep q p (are.back p q o)
        | inr e ↦ subst (λ (t : ℕ × ℕ). IsNeighbour (with_neighbour (with_neighbour rows a b) b a) t.1 t.0) e back'
      ];
      only = λ p q near. elim (added_cases (with_neighbour rows a b) b a p q hb' near) [
        | inl first ↦ elim (added_cases rows a b p q ha first) [
          | inl o ↦ elim (are.only p q o) [ inl j ↦ inl (old p q j) | inr j ↦ inr (old q p j) ]
          | inr e ↦ inl (subst (λ x. IsJoin (joins ++ (a, b) ∷ []) x q) (sym e.0) (subst (λ y. IsJoin (joins ++ (a, b) ∷ []) a y) (sym e.1) new))
        ]
        | inr e ↦ inr (subst (λ x. IsJoin (joins ++ (a, b) ∷ []) q x) (sym e.0) (subst (λ y. IsJoin (joins ++ (a, b) ∷ []) y b) (sym e.1) new))
      ];
    }

-- the joins up to one more
pub rows_more : (joins : List (ℕ × ℕ)) (i : ℕ) (rows : List (List ℕ)) → i < length joins → (get_or joins i (0, 0)).0 < length rows → (get_or joins i (0, 0)).1 < length rows → AreRows (take i joins) rows
    → AreRows (take (i + 1) joins) (with_neighbour (with_neighbour rows (get_or joins i (0, 0)).0 (get_or joins i (0, 0)).1) (get_or joins i (0, 0)).1 (get_or joins i (0, 0)).0)
rows_more joins i rows h ha hb are =
    subst (λ js. AreRows js (with_neighbour (with_neighbour rows (get_or joins i (0, 0)).0 (get_or joins i (0, 0)).1) (get_or joins i (0, 0)).1 (get_or joins i (0, 0)).0))
    (sym (take_more joins i (0, 0) h)) (one_join_more (take i joins) rows (get_or joins i (0, 0)).0 (get_or joins i (0, 0)).1 ha hb are)

pub mutual_rows : {joins : List (ℕ × ℕ)} {rows : List (List ℕ)} → AreRows joins rows → AreMutual rows
mutual_rows are = record {
  back = λ p q near. elim (are.only p q near) [ inl j ↦ are.back p q j | inr j ↦ are.there q p j ];
}

-- joined neighbours are joined points, and the other way round
pub joined_from_rows : {joins : List (ℕ × ℕ)} {rows : List (List ℕ)} → AreRows joins rows → {p q : ℕ} → Joined (IsNeighbour rows) p q → Joined (IsJoin joins) p q
joined_from_rows {joins} {rows} are h =
    joined_least (IsNeighbour rows) (Joined (IsJoin joins)) (λ p. same) (λ p q k. joined_sym (IsJoin joins) k) (λ p q r k m. joined_trans (IsJoin joins) k m)
    (λ p q near. elim (are.only p q near) [ inl j ↦ along j same | inr j ↦ against j same ]) h

pub joined_in_rows : {joins : List (ℕ × ℕ)} {rows : List (List ℕ)} → AreRows joins rows → {p q : ℕ} → Joined (IsJoin joins) p q → Joined (IsNeighbour rows) p q
joined_in_rows {joins} {rows} are h =
    joined_least (IsJoin joins) (Joined (IsNeighbour rows)) (λ p. same) (λ p q k. joined_sym (IsNeighbour rows) k) (λ p q r k m. joined_trans (IsNeighbour rows) k m)
    (λ p q j. along (are.there p q j) same) h
