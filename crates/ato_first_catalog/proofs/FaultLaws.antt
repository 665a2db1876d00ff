-- The first fault in rows is that of the first row that has one.
use Rattle.std.proofs.Common.{◌≡◌, ◌+◌, ◌<◌, ◌≤◌, ◌⊎◌, inl, inr, ◌++◌, ◌∷◌, [], ℕ, List, Option, Some, None, length, get_or, take, map, refl, arith, ◌∙◌, append_assoc}
use Rattle.std.specs.Prelude.{option_map}
use Rattle.std.specs.Option.{option_or}
use Rattle.std.proofs.lemmas.Bool.{cases_lt}
use Rattle.std.proofs.lemmas.List.{length-append, length-map, map-append}
use Rattle.std.proofs.Math.Seq.{take-append_seam}
use Rattle.ato_base.specs.declared.faults.Fault.{Fault}
use Rattle.ato_base.specs.declared.faults.FaultKind.{FaultKind}
use Rattle.ato_first_catalog.specs.Contents.{fault_at, first_fault, is_taken, row_fault}
use Rattle.ato_first_catalog.specs.Rows.{part_in}
use Rattle.ato_first_catalog.specs.declared.header.Layout.{Layout}

-- what is wrong with the row at a place, counted from 0: by its cells, and by the parts of the rows before it
abbrev pub fault_in : Layout → List (List (List ℕ)) → ℕ → Option (FaultKind × ℕ)
fault_in layout rows i =
    row_fault layout i (is_taken (map (part_in layout) (take i rows)) (part_in layout (get_or rows i []))) (get_or rows i [])

-- From a place on, this is the first fault: no row has one, or it is that of a row before which none has one.
abbrev pub IsFirstFrom : Layout → List (List (List ℕ)) → ℕ → Option Fault → Type 0
IsFirstFrom layout rows start None = (i : ℕ) → start ≤ i → i < length rows → fault_in layout rows i ≡ None
IsFirstFrom layout rows start (Some fault) =
    (i : ℕ) × (start ≤ i) × (i < length rows) × (found : FaultKind × ℕ) × (fault_in layout rows i ≡ Some found)
    × (fault ≡ fault_at found.0 (i + 1) found.1) × ((k : ℕ) → start ≤ k → k < i → fault_in layout rows k ≡ None)

at-seam : (before : List (List (List ℕ))) (cells : List (List ℕ)) (rest : List (List (List ℕ))) → get_or (before ++ cells ∷ rest) (length before) [] ≡ cells
at-seam [] cells rest = refl
at-seam (first ∷ before) cells rest = at-seam before cells rest

-- a place without a fault is passed
extend : (layout : Layout) (rows : List (List (List ℕ))) (start : ℕ) (r : Option Fault) → fault_in layout rows start ≡ None → IsFirstFrom layout rows (start + 1) r → IsFirstFrom layout rows start r
extend layout rows start None here later = λ i from inside. by i (cases_lt start i) from inside
  where
    by : (i : ℕ) → (start < i) ⊎ (i ≤ start) → start ≤ i → i < length rows → fault_in layout rows i ≡ None
    by i (inl above) from inside = later i (omega arith) inside
    by i (inr here') from inside = let same : i ≡ start = omega arith in rw same here
extend layout rows start (Some fault) here later =
    let (i, from, inside, found, is, told, none) = later in
    (i, omega arith, inside, found, is, told, λ k low high. by k (cases_lt start k) low (none k) high)
  where
    by : (k : ℕ) → (start < k) ⊎ (k ≤ start) → start ≤ k → (start + 1 ≤ k → k < later.0 → fault_in layout rows k ≡ None) → k < later.0 → fault_in layout rows k ≡ None
    by k (inl above) low more high = more (omega arith) high
    by k (inr here') low more high = let same : k ≡ start = omega arith in rw same here

walk : (layout : Layout) (before rows : List (List (List ℕ))) → IsFirstFrom layout (before ++ rows) (length before) (first_fault layout (map (part_in layout) before) rows)
unfolding first_fault
walk layout before [] = λ i from inside. let size = length-append before [] in absurd (omega arith)
walk layout before (cells ∷ rows) = by (row_fault layout (length before) (is_taken (map (part_in layout) before) (part_in layout cells)) cells) refl (next (walk layout (before ++ cells ∷ []) rows))
  where
    next : IsFirstFrom layout ((before ++ cells ∷ []) ++ rows) (length (before ++ cells ∷ [])) (first_fault layout (map (part_in layout) (before ++ cells ∷ [])) rows)
        → IsFirstFrom layout (before ++ cells ∷ rows) (length before + 1) (first_fault layout (map (part_in layout) before ++ part_in layout cells ∷ []) rows)
    next more =
        let size : length (before ++ cells ∷ []) ≡ length before + 1 = length-append before (cells ∷ []) in
        rw (size, append_assoc before (cells ∷ []) rows, map-append (part_in layout) before (cells ∷ [])) at more

    here : fault_in layout (before ++ cells ∷ rows) (length before) ≡ row_fault layout (length before) (is_taken (map (part_in layout) before) (part_in layout cells)) cells
    here = rw (take-append_seam before (cells ∷ rows), at-seam before cells rows) refl

    by : (found : Option (FaultKind × ℕ)) → row_fault layout (length before) (is_taken (map (part_in layout) before) (part_in layout cells)) cells ≡ found
        → IsFirstFrom layout (before ++ cells ∷ rows) (length before + 1) (first_fault layout (map (part_in layout) before ++ part_in layout cells ∷ []) rows)
        → IsFirstFrom layout (before ++ cells ∷ rows) (length before)
        (option_or (option_map (λ found. fault_at found.0 (length (map (part_in layout) before) + 1) found.1)
        (row_fault layout (length (map (part_in layout) before)) (is_taken (map (part_in layout) before) (part_in layout cells)) cells))
        (first_fault layout (map (part_in layout) before ++ part_in layout cells ∷ []) rows))
    by (Some found) e later =
        let size = length-append before (cells ∷ rows) in
        rw (length-map before (part_in layout), e) (length before, omega arith, omega arith, found, here ∙ e, refl, λ k low high. absurd (omega arith))
    by None e later = rw (length-map before (part_in layout), e) (extend layout (before ++ cells ∷ rows) (length before) _ (here ∙ e) later)

-- The first fault in the rows below a header is that of the first row that has one; where there is none, no row has one.
pub first_fault-first : (layout : Layout) (rows : List (List (List ℕ))) → IsFirstFrom layout rows 0 (first_fault layout [] rows)
first_fault-first layout rows = walk layout [] rows
