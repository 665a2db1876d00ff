-- The steps of a flood: one more number, a neighbour looked at, and the ends of a look, of a flood and of all floods.
use Rattle.std.proofs.Common.{◌≡◌, ℕ, ◌+◌, ◌<◌, ◌≤◌, ◌⊎◌, ◌≢◌, ◌==◌, cond, List, [], ◌∷◌, ◌++◌, length, get_or, set, take, drop, take_at, Contains, subst, sym, ap, ◌∙◌, refl, inl, inr, arith, get_or-set_same, get_or-set_other, length-set}
use Rattle.std.proofs.lemmas.Bool.{cases_eq, cases_lt}
use Rattle.std.proofs.lemmas.Grind.{get_or-set_at}
use Rattle.std.proofs.lemmas.List.{length_push, get_or_default}
use Rattle.std.proofs.lemmas.List.Elements.{Contains-push, Contains-push_cases, Contains-append_left, Contains-get_or}
use Rattle.std.proofs.lemmas.List.Sums.{sum_by-set}
use Rattle.std.proofs.lemmas.Bool.Decides.{nat_tests}
use Rattle.ato_base.specs.Joined.{Joined, same, against}
use Rattle.ato_base.proofs.JoinedLaws.{joined_least}
use Rattle.ato_nets.specs.ClassNumbers.{AreClassNumbers}
use Rattle.ato_nets.specs.Flooding.{IsNeighbour, AreRows, AreMutual, unnumbered, IsFlooded}
use Rattle.ato_nets.proofs.RowLemmas.{nothing_in, neighbour_within, joined_from_rows, joined_in_rows}

-- the point that was popped
pub popped_within : {rows : List (List ℕ)} {done number : ℕ} {of stack : List ℕ} (rest : List ℕ) (point : ℕ) → IsFlooded rows done number of stack → stack ≡ rest ++ point ∷ [] → point < length rows
popped_within rest point are is = (are.stacked point (subst (λ s. Contains s point) (sym is) (Contains-push rest point))).0

-- an empty stack has any number
pub renumbered : {rows : List (List ℕ)} {done a : ℕ} {of : List ℕ} (b : ℕ) → IsFlooded rows done a of [] → IsFlooded rows done b of []
renumbered b are = record {
  size = are.size;
  most = are.most;
  below = are.below;
  joined = are.joined;
  least = are.least;
  stacked = λ p c. absurd (nothing_in p c);
  closed = are.closed;
}

-- the next point has a number
pub one_done_more : {rows : List (List ℕ)} {done number : ℕ} {of stack : List ℕ} → IsFlooded rows done number of stack → get_or of done 0 < length rows → IsFlooded rows (done + 1) number of stack
one_done_more {rows} {done} {number} {of} are h = record {
  size = are.size;
  most = are.most;
  below = λ p l. elim (cases_eq p done) [
    | inl e ↦ subst (λ k. get_or of k 0 < length rows) (sym e) h
    | inr n ↦ are.below p (omega arith)
  ];
  joined = are.joined;
  least = are.least;
  stacked = are.stacked;
  closed = are.closed;
}

-- a point without a number gets the stack's number and is put on the stack
pub one_number_more : {rows : List (List ℕ)} {done number : ℕ} {of stack : List ℕ} (q : ℕ) (grown : List ℕ) → IsFlooded rows done number of stack
    → q < length rows → get_or of q 0 ≡ length rows → number < length rows → number ≤ q → Joined (IsNeighbour rows) q number
    → ((x : ℕ) → Contains stack x → Contains grown x) → Contains grown q → ((x : ℕ) → Contains grown x → Contains stack x ⊎ (q ≡ x))
    → IsFlooded rows done number (set of q number) grown
one_number_more {rows} {done} {number} {of} {stack} q grown are hq free hn low chain keeps has cases =
    let within : q < length of = subst (λ n. q < n) (sym are.size) hq in
    let at : (p : ℕ) → p ≡ q → get_or (set of q number) p 0 ≡ number = λ p e. get_or-set_at of q p number 0 e within in
    let off : (p : ℕ) → p ≢ q → get_or (set of q number) p 0 ≡ get_or of p 0 = λ p n. get_or-set_other of q p number 0 n in
    record {
      size = length-set of q number ∙ are.size;
      most = λ p h. elim (cases_eq p q) [
        | inl e ↦ let is : get_or (set of q number) p 0 ≡ number = at p e in omega arith
        | inr n ↦ subst (λ v. v ≤ length rows) (sym (off p n)) (are.most p h)
      ];
      below = λ p h. elim (cases_eq p q) [
        | inl e ↦ let is : get_or (set of q number) p 0 ≡ number = at p e in omega arith
        | inr n ↦ subst (λ v. v < length rows) (sym (off p n)) (are.below p h)
      ];
      joined = λ p h l. elim (cases_eq p q) [
        | inl e ↦ subst (λ v. Joined (IsNeighbour rows) p v) (sym (at p e)) (subst (λ k. Joined (IsNeighbour rows) k number) (sym e) chain)
        | inr n ↦ subst (λ v. Joined (IsNeighbour rows) p v) (sym (off p n)) (are.joined p h (subst (λ v. v < length rows) (off p n) l))
      ];
      least = λ p h l. elim (cases_eq p q) [
        | inl e ↦ let is : get_or (set of q number) p 0 ≡ number = at p e in omega arith
        | inr n ↦ subst (λ v. v ≤ p) (sym (off p n)) (are.least p h (subst (λ v. v < length rows) (off p n) l))
      ];
      stacked = λ p c. elim (cases p c) [
        | inl old ↦
            let was : (p < length rows) × (get_or of p 0 ≡ number) = are.stacked p old in
            elim (cases_eq p q) [
              | inl e ↦ (was.0, at p e)
              | inr n ↦ (was.0, off p n ∙ was.1)
            ]
        | inr new ↦ (subst (λ k. k < length rows) new hq, at p (sym new))
      ];
      closed = λ p r near l. elim (cases_eq p q) [
        | inl e ↦ inr (subst (λ k. Contains grown k) (sym e) has)
        | inr n ↦
            let numbered : get_or of p 0 < length rows = subst (λ v. v < length rows) (off p n) l in
            elim (are.closed p r near numbered) [
              | inl e ↦ elim (cases_eq r q) [
                | inl s ↦
                    let none : get_or of r 0 ≡ length rows = ap (λ k. get_or of k 0) s ∙ free in
                    absurd (omega arith)
                | inr m ↦ inl (off r m ∙ e ∙ sym (off p n))
              ]
              | inr c ↦ inr (keeps p c)
            ]
      ];
    }

-- a flood begins
pub flood_begins : {rows : List (List ℕ)} {of : List ℕ} (start : ℕ) → IsFlooded rows start start of [] → start < length rows → get_or of start 0 ≡ length rows
    → IsFlooded rows (start + 1) start (set of start start) (start ∷ [])
flood_begins {rows} {of} start are h free =
    let begun : IsFlooded rows start start (set of start start) (start ∷ []) =
    one_number_more start (start ∷ []) are h free h (omega arith) same (λ x c. absurd (nothing_in x c)) (Contains-push [] start) (λ x c. Contains-push_cases [] start x c) in
    one_done_more begun (subst (λ v. v < length rows) (sym (get_or-set_same of start start 0 (subst (λ n. start < n) (sym are.size) h))) h)

-- a flood ends, or was not needed
pub flood_ends : {rows : List (List ℕ)} {start : ℕ} {of : List ℕ} → IsFlooded rows (start + 1) start of [] → IsFlooded rows (start + 1) (start + 1) of []
flood_ends {rows} {start} are = renumbered (start + 1) are

pub flood_passed : {rows : List (List ℕ)} {start : ℕ} {of : List ℕ} → IsFlooded rows start start of [] → start < length rows → (get_or of start 0 ≡ length rows → ⊥) → IsFlooded rows (start + 1) (start + 1) of []
flood_passed {rows} {start} {of} are h numbered =
    let most : get_or of start 0 ≤ length rows = are.most start h in
    renumbered (start + 1) (one_done_more are (omega arith))

-- what holds while the neighbours of a point are looked at: those before place `i` have the number
pub record IsLookedAt (rows : List (List ℕ)) (start point : ℕ) (of stack : List ℕ) (i total : ℕ) : Type 0 where
  pub flooded : IsFlooded rows (start + 1) start of (stack ++ point ∷ [])
  pub seen : (k : ℕ) → k < i → get_or of (get_or (get_or rows point []) k 0) 0 ≡ start
  pub room : unnumbered rows of + length stack ≡ total

-- the next neighbour
pub is_next : (rows : List (List ℕ)) (point i : ℕ) → i < length (get_or rows point []) → IsNeighbour rows point (get_or (get_or rows point []) i 0)
is_next rows point i h = record { found = Contains-get_or (get_or rows point []) i 0 h }

pub next_within : {rows : List (List ℕ)} → AreMutual rows → {p q : ℕ} → IsNeighbour rows p q → q < length rows
next_within mutuals {p} {q} near = neighbour_within (mutuals.back p q near)

-- one point fewer has no number
pub one_fewer : (rows : List (List ℕ)) (of : List ℕ) (q start : ℕ) → q < length of → get_or of q 0 ≡ length rows → start < length rows → unnumbered rows (set of q start) + 1 ≡ unnumbered rows of
one_fewer rows of q start h free low = grind (arith, nat_tests, sum_by-set (λ n. cond (n == length rows) 1 0) of q start 0 h)

pub look_new : {rows : List (List ℕ)} {start point : ℕ} {of stack : List ℕ} {i room : ℕ} (next : ℕ) → AreMutual rows → start < length rows
    → IsLookedAt rows start point of stack i room → i < length (get_or rows point []) → next ≡ get_or (get_or rows point []) i 0 → get_or of next 0 ≡ length rows
    → IsLookedAt rows start point (set of next start) (stack ++ next ∷ []) (i + 1) room
look_new {rows} {start} {point} {of} {stack} {i} {room} next mutuals low at h is free =
    let near : IsNeighbour rows point next = subst (λ k. IsNeighbour rows point k) (sym is) (is_next rows point i h) in
    let in_range : next < length rows = next_within mutuals near in
    let within : next < length of = subst (λ n. next < n) (sym at.flooded.size) in_range in
    let here : (point < length rows) × (get_or of point 0 ≡ start) = at.flooded.stacked point (Contains-push stack point) in
    let numbered : get_or of point 0 < length rows = subst (λ v. v < length rows) (sym here.1) low in
    let chain : Joined (IsNeighbour rows) point start = subst (λ v. Joined (IsNeighbour rows) point v) here.1 (at.flooded.joined point here.0 numbered) in
    let above : start ≤ next = elim (cases_lt next (start + 1)) [
      | inl l ↦ let was : get_or of next 0 < length rows = at.flooded.below next l in absurd (omega arith)
      | inr l ↦ omega arith
    ] in
    let keeps : (x : ℕ) → Contains (stack ++ point ∷ []) x → Contains ((stack ++ next ∷ []) ++ point ∷ []) x = λ x c. elim (Contains-push_cases stack point x c) [
      | inl old ↦ Contains-append_left (stack ++ next ∷ []) (point ∷ []) x (Contains-append_left stack (next ∷ []) x old)
      | inr e ↦ subst (λ y. Contains ((stack ++ next ∷ []) ++ point ∷ []) y) e (Contains-push (stack ++ next ∷ []) point)
    ] in
    let cases : (x : ℕ) → Contains ((stack ++ next ∷ []) ++ point ∷ []) x → Contains (stack ++ point ∷ []) x ⊎ (next ≡ x) = λ x c. elim (Contains-push_cases (stack ++ next ∷ []) point x c) [
      | inl one ↦ elim (Contains-push_cases stack next x one) [ inl old ↦ inl (Contains-append_left stack (point ∷ []) x old) | inr e ↦ inr e ]
      | inr e ↦ inl (subst (λ y. Contains (stack ++ point ∷ []) y) e (Contains-push stack point))
    ] in
    record {
      flooded = one_number_more next ((stack ++ next ∷ []) ++ point ∷ []) at.flooded in_range free low above (against near chain)
          keeps (Contains-append_left (stack ++ next ∷ []) (point ∷ []) next (Contains-push stack next)) cases;
      seen = λ k l. elim (cases_eq (get_or (get_or rows point []) k 0) next) [
        | inl e ↦ get_or-set_at of next (get_or (get_or rows point []) k 0) start 0 e within
        | inr n ↦ get_or-set_other of next (get_or (get_or rows point []) k 0) start 0 n ∙ elim (cases_eq k i) [
          | inl e ↦ absurd (n (ap (λ j. get_or (get_or rows point []) j 0) e ∙ sym is))
          | inr m ↦ at.seen k (omega arith)
        ]
      ];
      room = let fewer : unnumbered rows (set of next start) + 1 ≡ unnumbered rows of = one_fewer rows of next start within free low in
          let longer : length (stack ++ next ∷ []) ≡ length stack + 1 = length_push stack next in
          let was : unnumbered rows of + length stack ≡ room = at.room in
          omega arith;
    }

pub look_old : {rows : List (List ℕ)} {start point : ℕ} {of stack : List ℕ} {i room : ℕ} (next : ℕ) → AreMutual rows → start < length rows
    → IsLookedAt rows start point of stack i room → i < length (get_or rows point []) → next ≡ get_or (get_or rows point []) i 0 → (get_or of next 0 ≡ length rows → ⊥)
    → IsLookedAt rows start point of stack (i + 1) room
look_old {rows} {start} {point} {of} {stack} {i} {room} next mutuals low at h is numbered =
    let near : IsNeighbour rows point next = subst (λ k. IsNeighbour rows point k) (sym is) (is_next rows point i h) in
    let in_range : next < length rows = next_within mutuals near in
    let most : get_or of next 0 ≤ length rows = at.flooded.most next in_range in
    let here : (point < length rows) × (get_or of point 0 ≡ start) = at.flooded.stacked point (Contains-push stack point) in
    let is_start : get_or of next 0 ≡ start = elim (at.flooded.closed next point (mutuals.back point next near) (omega arith)) [
      | inl e ↦ sym e ∙ here.1
      | inr c ↦ (at.flooded.stacked next c).1
    ] in
    record {
      flooded = at.flooded;
      seen = λ k l. elim (cases_eq k i) [
        | inl e ↦ ap (λ j. get_or of (get_or (get_or rows point []) j 0) 0) e ∙ ap (λ q. get_or of q 0) (sym is) ∙ is_start
        | inr m ↦ at.seen k (omega arith)
      ];
      room = at.room;
    }

-- the same at the row that was read, and at the numbers and the stack that were written
pub row_within : {rows : List (List ℕ)} (row : List ℕ) (point i : ℕ) → AreMutual rows → row ≡ get_or rows point [] → i < length row → get_or row i 0 < length rows
row_within {rows} row point i mutuals is h =
    subst (λ l. get_or l i 0 < length rows) (sym is) (next_within mutuals (is_next rows point i (subst (λ l. i < length l) is h)))

pub look_new_at : {rows : List (List ℕ)} {start point : ℕ} {of stack : List ℕ} {i total : ℕ} (row of' stack' : List ℕ) → row ≡ get_or rows point [] → AreMutual rows → start < length rows
    → IsLookedAt rows start point of stack i total → i < length row → get_or of (get_or row i 0) 0 ≡ length rows → of' ≡ set of (get_or row i 0) start → stack' ≡ stack ++ get_or row i 0 ∷ []
    → IsLookedAt rows start point of' stack' (i + 1) total
look_new_at {rows} {start} {point} {of} {stack} {i} {total} row of' stack' is mutuals low at h free written pushed =
    let looked : IsLookedAt rows start point (set of (get_or row i 0) start) (stack ++ get_or row i 0 ∷ []) (i + 1) total =
    look_new (get_or row i 0) mutuals low at (subst (λ l. i < length l) is h) (ap (λ l. get_or l i 0) is) free in
    subst (λ n. IsLookedAt rows start point n stack' (i + 1) total) (sym written)
    (subst (λ s. IsLookedAt rows start point (set of (get_or row i 0) start) s (i + 1) total) (sym pushed) looked)

pub look_old_at : {rows : List (List ℕ)} {start point : ℕ} {of stack : List ℕ} {i total : ℕ} (row of' stack' : List ℕ) → row ≡ get_or rows point [] → AreMutual rows → start < length rows
    → IsLookedAt rows start point of stack i total → i < length row → (get_or of (get_or row i 0) 0 ≡ length rows → ⊥) → of' ≡ of → stack' ≡ stack
    → IsLookedAt rows start point of' stack' (i + 1) total
look_old_at {rows} {start} {point} {of} {stack} {i} {total} row of' stack' is mutuals low at h numbered kept same_stack =
    let looked : IsLookedAt rows start point of stack (i + 1) total =
    look_old (get_or row i 0) mutuals low at (subst (λ l. i < length l) is h) (ap (λ l. get_or l i 0) is) numbered in
    subst (λ n. IsLookedAt rows start point n stack' (i + 1) total) (sym kept) (subst (λ s. IsLookedAt rows start point of s (i + 1) total) (sym same_stack) looked)

-- all neighbours of the point have been looked at
pub look_ends : {rows : List (List ℕ)} {start point : ℕ} {of stack : List ℕ} {i room : ℕ} → IsLookedAt rows start point of stack i room → length (get_or rows point []) ≤ i → IsFlooded rows (start + 1) start of stack
look_ends {rows} {start} {point} {of} {stack} {i} at all =
    let here : (point < length rows) × (get_or of point 0 ≡ start) = at.flooded.stacked point (Contains-push stack point) in
    record {
      size = at.flooded.size;
      most = at.flooded.most;
      below = at.flooded.below;
      joined = at.flooded.joined;
      least = at.flooded.least;
      stacked = λ p c. at.flooded.stacked p (Contains-append_left stack (point ∷ []) p c);
      closed = λ p q near l. elim (at.flooded.closed p q near l) [
        | inl e ↦ inl e
        | inr c ↦ elim (Contains-push_cases stack point p c) [
          | inl old ↦ inr old
          | inr e ↦
              let found : Contains (get_or rows point []) q = subst (λ k. Contains (get_or rows k []) q) (sym e) near.found in
              let place : get_or (get_or rows point []) found.0 0 ≡ q = get_or_default (get_or rows point []) found.0 0 q found.1 ∙ found.2 in
              let known : get_or of (get_or (get_or rows point []) found.0 0) 0 ≡ start = at.seen found.0 (let within : found.0 < length (get_or rows point []) = found.1 in omega arith) in
              inl (ap (λ k. get_or of k 0) (sym place) ∙ known ∙ sym here.1 ∙ ap (λ k. get_or of k 0) e)
        ]
      ];
    }

-- after the last flood
pub classes_flooded : {joins : List (ℕ × ℕ)} {rows : List (List ℕ)} {of : List ℕ} → AreRows joins rows → IsFlooded rows (length rows) (length rows) of [] → AreClassNumbers (length rows) joins of
classes_flooded {joins} {rows} {of} are done =
    let step : (p q : ℕ) → IsNeighbour rows p q → get_or of p 0 ≡ get_or of q 0 = λ p q near.
    elim (done.closed p q near (done.below p (neighbour_within near))) [ inl e ↦ sym e | inr c ↦ absurd (nothing_in p c) ] in
    record {
      size = done.size;
      joined = λ p h. joined_from_rows are (done.joined p h (done.below p h));
      least = λ p q hp hq chain.
          let equal : get_or of p 0 ≡ get_or of q 0 =
          joined_least (IsNeighbour rows) (λ x y. get_or of x 0 ≡ get_or of y 0) (λ x. refl) (λ x y e. sym e) (λ x y z e f. e ∙ f) step (joined_in_rows are chain) in
          let low : get_or of q 0 ≤ q = done.least q hq (done.below q hq) in
          omega arith;
    }

-- the same of the rows as they were lent, and of the numbers as they were written back
pub classes_written : {joins : List (ℕ × ℕ)} {rows lent : List (List ℕ)} {of : List ℕ} (count n : ℕ) (xs : List ℕ) → AreRows joins rows → length rows ≡ count → lent ≡ rows
    → IsFlooded lent (length lent) (length lent) of [] → n ≡ count → AreClassNumbers count joins (take n (of ++ drop (length of) xs))
classes_written {joins} {rows} {lent} {of} count n xs are size lends done full =
    let here : IsFlooded rows (length rows) (length rows) of [] = subst (λ l. IsFlooded l (length l) (length l) of []) lends done in
    let classes : AreClassNumbers (length rows) joins of = classes_flooded are here in
    let long : length of ≡ n = here.size ∙ size ∙ sym full in
    subst (λ l. AreClassNumbers count joins l) (sym (take_at of (drop (length of) xs) n long)) (subst (λ k. AreClassNumbers k joins of) size classes)
