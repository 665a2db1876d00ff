-- The problem of a part and a catalogue is one, and a catalogue of at most 1,000 rows makes it small.
use Rattle.std.proofs.Common.{◌≡◌, ℕ, ◌+◌, ◌^◌, ◌<◌, ◌≤◌, List, [], ◌∷◌, length, Option, Some, None, refl, sym, ◌∙◌, arith}
use Rattle.std.specs.Prelude.{true, false, IfSome, option_map, if◌then◌else◌}
use Rattle.std.specs.List.{AllByRecursion, AllZip}
use Rattle.std.specs.Str.{bytes_eq}
use Rattle.std.proofs.lemmas.List.Elements.{All-from_recursion}
use Rattle.ato_frac.specs.declared.fraction.Frac.{Frac}
use Rattle.ato_frac.specs.OneNumber.{fraction_same}
use Rattle.ato_rational.proofs.Order.{≈ℚ_sym, ≈ℚ_trans}
use Rattle.ato_first_catalog.specs.Catalogue.{IsWhole}
use Rattle.ato_first_catalog.specs.Contents.{Contents, cell_under}
use Rattle.ato_first_catalog.specs.Rows.{PlainRow}
use Rattle.ato_first_catalog.specs.declared.header.Column.{Column}
use Rattle.ato_cert.specs.Problems.{HasAtMost, HasAtMostOf, HasNumbersBelow, HasNumbersBelowOf}
use Rattle.ato_cert.specs.declared.problem.Problem.{Problem}
use Rattle.ato_cert.specs.declared.problem.Row.{Row}
use Rattle.ato_cert.specs.declared.problem.Slot.{Slot}
use Rattle.ato_first.specs.FirstParts.{Part, Candidate, candidate_in, with_candidate, candidates_from, candidates}
use Rattle.ato_build.specs.Problems.{IsRowOf, IsSlotFor, IsSlotOf, IsProblem}

-- ---- there is one problem

-- a whole number has one fraction
same_whole : (f g : Frac) (n : ℕ) → IsWhole f n → IsWhole g n → f ≡ g
same_whole f g n h k = fraction_same f g (≈ℚ_trans h (≈ℚ_sym k))

same_row : (a b : Row) (candidate : Candidate) → IsRowOf a candidate → IsRowOf b candidate → a ≡ b
same_row a b candidate h k =
    let number : a.number ≡ b.number = h.number ∙ sym k.number in
    let low = same_whole a.low b.low candidate.low h.low k.low in
    let high = same_whole a.high b.high candidate.high h.high k.high in
    λ i. record { number = number i; low = low i; high = high i }

same_rows : (a b : List Row) (candidates : List Candidate) → AllZip IsRowOf a candidates → AllZip IsRowOf b candidates → a ≡ b
same_rows [] [] [] h k = refl
same_rows [] [] (candidate ∷ candidates) h k = absurd h
same_rows [] (y ∷ b) [] h k = absurd k
same_rows [] (y ∷ b) (candidate ∷ candidates) h k = absurd h
same_rows (x ∷ a) [] [] h k = absurd h
same_rows (x ∷ a) [] (candidate ∷ candidates) h k = absurd k
same_rows (x ∷ a) (y ∷ b) [] h k = absurd h
same_rows (x ∷ a) (y ∷ b) (candidate ∷ candidates) h k =
    let first = same_row x y candidate h.0 k.0 in
    let rest = same_rows a b candidates h.1 k.1 in
    λ i. first i ∷ rest i

same_slot : (contents : Contents) (part : Part) (a b : Slot) → IsSlotOf contents part a → IsSlotOf contents part b → a ≡ b
same_slot contents part a b h k =
    let rows = same_rows a.rows b.rows (candidates contents part) h.rows k.rows in
    let low = same_whole a.low b.low part.low h.low k.low in
    let high = same_whole a.high b.high part.high h.high k.high in
    λ i. record { rows = rows i; low = low i; high = high i }

same_slots : (part : Option Part) (contents : Contents) (a b : Option Slot) → IsSlotFor part contents a → IsSlotFor part contents b → a ≡ b
same_slots None contents None None h k = refl
same_slots None contents None (Some slot) h k = absurd k
same_slots None contents (Some slot) b h k = absurd h
same_slots (Some part) contents None b h k = absurd h
same_slots (Some part) contents (Some slot) None h k = absurd k
same_slots (Some part) contents (Some a) (Some b) h k =
    let slot = same_slot contents part a b h k in
    λ i. Some (slot i)

-- A part and a catalogue have one problem at most.
pub one_problem : (part : Option Part) (contents : Contents) (a b : Problem) → IsProblem part contents a → IsProblem part contents b → a ≡ b
one_problem part contents a b h k =
    let slot = same_slots part contents a.slot b.slot h k in
    λ i. record { slot = slot i }

-- ---- it is small

one_more : (candidate : Option Candidate) (candidates : List Candidate) → length (with_candidate candidate candidates) ≤ length candidates + 1
one_more None candidates = omega arith
one_more (Some candidate) candidates = omega arith

few_candidates : (columns : List Column) (part : Part) (number : ℕ) (rows : List PlainRow) → length (candidates_from columns part number rows) ≤ length rows
few_candidates columns part number [] = omega arith
few_candidates columns part number (row ∷ rows) =
    omega (arith, one_more (candidate_in columns part number row) (candidates_from columns part (number + 1) rows), few_candidates columns part (number + 1) rows)

-- a candidate has the number of its row

abbrev with_range : ℕ → ℕ × ℕ → Candidate
with_range number range = record { number = number; low = range.0; high = range.1 }

ranged_below : (most number : ℕ) (range : Option (ℕ × ℕ)) → number < most → IfSome (option_map (with_range number) range) (λ candidate. candidate.number < most)
ranged_below most number None h = tt
ranged_below most number (Some ends) h = h

candidate_below : (most : ℕ) (columns : List Column) (part : Part) (number : ℕ) (row : PlainRow) → number < most
    → IfSome (candidate_in columns part number row) (λ candidate. candidate.number < most)
candidate_below most columns part number row h =
    elim (bytes_eq row.kind part.kind) as (λ b. IfSome (if b then option_map (with_range number) (cell_under columns row.cells part.attribute) else None) (λ candidate. candidate.number < most))
    [ true ↦ ranged_below most number (cell_under columns row.cells part.attribute) h | false ↦ tt ]

-- candidates with numbers below one
abbrev AreBelow : ℕ → List Candidate → Type 0
AreBelow most candidates = AllByRecursion (λ candidate. candidate.number < most) candidates

with_below : (most : ℕ) (candidate : Option Candidate) (candidates : List Candidate) → IfSome candidate (λ c. c.number < most) → AreBelow most candidates
    → AreBelow most (with_candidate candidate candidates)
with_below most None candidates h k = k
with_below most (Some candidate) candidates h k = (h, k)

candidates_below : (most : ℕ) (columns : List Column) (part : Part) (number : ℕ) (rows : List PlainRow) → number + length rows ≤ most
    → AreBelow most (candidates_from columns part number rows)
candidates_below most columns part number [] h = tt
candidates_below most columns part number (row ∷ rows) h =
    with_below most (candidate_in columns part number row) (candidates_from columns part (number + 1) rows)
    (candidate_below most columns part number row (omega (arith, h)))
    (candidates_below most columns part (number + 1) rows (omega (arith, h)))

-- rows that are candidates are as many, and have their numbers

as_many : (rows : List Row) (candidates : List Candidate) → AllZip IsRowOf rows candidates → length rows ≡ length candidates
as_many [] [] h = refl
as_many [] (candidate ∷ candidates) h = absurd h
as_many (row ∷ rows) [] h = absurd h
as_many (row ∷ rows) (candidate ∷ candidates) h = let rest = as_many rows candidates h.1 in omega (arith, rest)

rows_below : (most : ℕ) (rows : List Row) (candidates : List Candidate) → AllZip IsRowOf rows candidates → AreBelow most candidates
    → AllByRecursion (λ row. row.number < most) rows
rows_below most [] [] h k = tt
rows_below most [] (candidate ∷ candidates) h k = absurd h
rows_below most (row ∷ rows) [] h k = absurd h
rows_below most (row ∷ rows) (candidate ∷ candidates) h k = (omega (arith, h.0.number, k.0), rows_below most rows candidates h.1 k.1)

-- numbers go from 1 up to the count of the catalogue's rows, and there are no more candidates than rows
small_slot : (most many : ℕ) (part : Option Part) (contents : Contents) (slot : Option Slot) → IsSlotFor part contents slot → length contents.rows ≤ many → many < most
    → HasNumbersBelowOf most slot × HasAtMostOf many slot
small_slot most many part contents None h few room = (tt, tt)
small_slot most many None contents (Some slot) h few room = absurd h
small_slot most many (Some part) contents (Some slot) h few room =
    let below = candidates_below most contents.columns part 1 contents.rows (omega (arith, few, room)) in (
      All-from_recursion (λ row. row.number < most) slot.rows (rows_below most slot.rows (candidates contents part) h.rows below),
      omega (arith, few, as_many slot.rows (candidates contents part) h.rows, few_candidates contents.columns part 1 contents.rows),
    )

-- The problem of a catalogue of at most 1,000 rows has at most 1,000 candidates, with numbers below 2^32.
pub small_problem : (part : Option Part) (contents : Contents) (problem : Problem) → IsProblem part contents problem → length contents.rows ≤ 1000
    → HasNumbersBelow (2 ^ 32) problem × HasAtMost 1000 problem
small_problem part contents problem h few = small_slot (2 ^ 32) 1000 part contents problem.slot h few (omega arith)
