-- What valid certificates show.
use Rattle.std.proofs.Common.{ℕ, List, [], ◌∷◌, Option, Some, None, refl, ⊎_elim, arith}
use Rattle.std.specs.List.{All, AllZip, AllByRecursion}
use Rattle.std.proofs.lemmas.Bool.{le-leb, lt-leb, lt-ltb, le-ltb, cases_lt}
use Rattle.std.proofs.lemmas.List.Elements.{recursion_from_All, All-from_recursion, All-contains}
use Rattle.ato_rational.specs.Rational.{ℚ, ◌≈ℚ◌, ◌≤ℚ◌, ◌<ℚ◌, ◌+ℚ◌, ◌-ℚ◌, ◌*ℚ◌, neg_ℚ, zero_ℚ, one_ℚ}
use Rattle.ato_rational.specs.Ranges.{IsWithin}
use Rattle.ato_rational.proofs.RationalRing.{rat, minus, ◌⊞◌, ◌⊠◌, same}
use Rattle.ato_rational.proofs.Order.{≤ℚ_refl, ≤ℚ_trans, ≈ℚ-≤ℚ, ≈ℚ_sym, +ℚ_mono, *ℚ_mono, clash_ℚ}
use Rattle.ato_rational.proofs.Fields.{+ℚ_neg, +ℚ_zero}
use Rattle.ato_frac.specs.declared.fraction.Frac.{Frac}
use Rattle.ato_frac.specs.Fractions.{value_of}
use Rattle.ato_cert.specs.declared.problem.Row.{Row}
use Rattle.ato_cert.specs.declared.problem.Slot.{Slot}
use Rattle.ato_cert.specs.declared.cert.PickTree.{PickTree}
use Rattle.ato_cert.specs.declared.cert.BoxTree.{BoxTree}
use Rattle.ato_cert.specs.declared.cert.Verdict.TheVariants.{Refuted}
use Rattle.ato_cert.specs.declared.cert.Proof.{Proof}
use Rattle.ato_cert.specs.declared.cert.Proof.TheVariants.{Built, Tree}
use Rattle.ato_cert.specs.Problems.{IsWellMadeOf}
use Rattle.ato_cert.specs.Good.{IsPointOf, IsGoodRow, IsGoodOf, NoGood}
use Rattle.ato_cert.specs.Selection.{IsSelected, at_low, at_high, between, FailsAt}
use Rattle.ato_cert.specs.Justified.{low_side, high_side, Refutes, empty, by_row, fails, LiesInTarget}
use Rattle.ato_cert.specs.Valid.{ShowsPick, IsProofOf}
use Rattle.ato_cert.specs.Laws.{Says}

-- what holds of the rows of both sides holds of all
both_sides : (P : Row → Type 0) (n : ℕ) (rows : List Row) → AllByRecursion P (low_side n rows) → AllByRecursion P (high_side n rows) → AllByRecursion P rows
both_sides P n [] low high = tt
both_sides P n (row ∷ rows) low high =
    ⊎_elim
    (λ above. let low' : AllByRecursion P (low_side n rows) = rw (lt-leb row.number n above) at low in
    let high' : AllByRecursion P (row ∷ high_side n rows) = rw (lt-ltb n row.number above) at high in
    (high'.0, both_sides P n rows low' high'.1))
    (λ up_to. let low' : AllByRecursion P (row ∷ low_side n rows) = rw (le-leb row.number n up_to) at low in
    let high' : AllByRecursion P (high_side n rows) = rw (le-ltb n row.number up_to) at high in
    (low'.0, both_sides P n rows low'.1 high'))
    (cases_lt n row.number)

-- a part of a range is a part of its width
between_within : (low high t width part point : ℚ) → low ≤ℚ high → zero_ℚ ≤ℚ t → t ≤ℚ one_ℚ
    → width ≈ℚ high -ℚ low → part ≈ℚ t *ℚ width → point ≈ℚ low +ℚ part → IsWithin low high point
between_within low high t width part point le some most w p e =
    let wide : zero_ℚ ≤ℚ width = ≤ℚ_trans (≈ℚ-≤ℚ (≈ℚ_sym (+ℚ_neg low))) (≤ℚ_trans (+ℚ_mono le (≤ℚ_refl (neg_ℚ low))) (≈ℚ-≤ℚ (≈ℚ_sym w))) in
    let none : zero_ℚ ≤ℚ part =
    ≤ℚ_trans (≈ℚ-≤ℚ (same (rat zero_ℚ) (rat zero_ℚ ⊠ rat width) (omega arith))) (≤ℚ_trans (*ℚ_mono width wide some) (≈ℚ-≤ℚ (≈ℚ_sym p))) in
    let whole : part ≤ℚ width =
    ≤ℚ_trans (≈ℚ-≤ℚ p) (≤ℚ_trans (*ℚ_mono width wide most) (≈ℚ-≤ℚ (same (rat one_ℚ ⊠ rat width) (rat width) (omega arith)))) in
    record {
      above = ≤ℚ_trans (≈ℚ-≤ℚ (≈ℚ_sym (+ℚ_zero low))) (≤ℚ_trans (+ℚ_mono (≤ℚ_refl low) none) (≈ℚ-≤ℚ (≈ℚ_sym e)));
      below = ≤ℚ_trans (≈ℚ-≤ℚ e) (≤ℚ_trans (+ℚ_mono (≤ℚ_refl low) (≤ℚ_trans whole (≈ℚ-≤ℚ w)))
          (≈ℚ-≤ℚ (same (rat low ⊞ (rat high ⊞ minus (rat low))) (rat high) (omega arith))));
    }

-- a selected point is a point of the row
selected_within : (t : Frac) (row : Row) (point : Frac) → IsWithin zero_ℚ one_ℚ (value_of t) → value_of row.low ≤ℚ value_of row.high
    → IsSelected t row point → IsPointOf row (value_of point)
selected_within t row point f le (at_low z e) = rw e (record { above = ≤ℚ_refl (value_of row.low); below = le })
selected_within t row point f le (at_high o e) = rw e (record { above = le; below = ≤ℚ_refl (value_of row.high) })
selected_within t row point f le (between z o b) =
    between_within (value_of row.low) (value_of row.high) (value_of t) (value_of b.width) (value_of b.part) (value_of point)
    le f.above f.below b.width_is b.part_is b.point_is

-- a row with a range is not good
abbrev pub IsBad : Slot → Row → Type 0
IsBad slot row = value_of row.low ≤ℚ value_of row.high → ¬ IsGoodRow slot row

all_below : (slot : Slot) (t greatest : Frac) → IsWithin zero_ℚ one_ℚ (value_of t) → value_of greatest <ℚ value_of slot.low
    → (rows : List Row) (points : List Frac) → AllZip (IsSelected t) rows points → AllByRecursion (λ point. value_of point ≤ℚ value_of greatest) points
    → AllByRecursion (IsBad slot) rows
all_below slot t greatest f lt [] [] s b = tt
all_below slot t greatest f lt [] (p ∷ ps) s b = absurd s
all_below slot t greatest f lt (row ∷ rows) [] s b = absurd s
all_below slot t greatest f lt (row ∷ rows) (p ∷ ps) s b = (
  λ le good. clash_ℚ lt (≤ℚ_trans (good (value_of p) (selected_within t row p f le s.0)).above b.0),
  all_below slot t greatest f lt rows ps s.1 b.1,
)

all_above : (slot : Slot) (t least : Frac) → IsWithin zero_ℚ one_ℚ (value_of t) → value_of slot.high <ℚ value_of least
    → (rows : List Row) (points : List Frac) → AllZip (IsSelected t) rows points → AllByRecursion (λ point. value_of least ≤ℚ value_of point) points
    → AllByRecursion (IsBad slot) rows
all_above slot t least f lt [] [] s b = tt
all_above slot t least f lt [] (p ∷ ps) s b = absurd s
all_above slot t least f lt (row ∷ rows) [] s b = absurd s
all_above slot t least f lt (row ∷ rows) (p ∷ ps) s b = (
  λ le good. clash_ℚ lt (≤ℚ_trans b.0 (good (value_of p) (selected_within t row p f le s.0)).below),
  all_above slot t least f lt rows ps s.1 b.1,
)

fails_bad : (slot : Slot) (rows : List Row) (t : Frac) → FailsAt slot rows t → AllByRecursion (IsBad slot) rows
fails_bad slot rows t f =
    ⊎_elim
    (λ lt. all_below slot t f.greatest f.fraction lt rows f.points f.selected (recursion_from_All (λ point. value_of point ≤ℚ value_of f.greatest) f.points f.hull.below))
    (λ lt. all_above slot t f.least f.fraction lt rows f.points f.selected (recursion_from_All (λ point. value_of f.least ≤ℚ value_of point) f.points f.hull.above))
    f.outside

-- no row of a tree whose lines are justified is good
pub refuted_bad : (slot : Slot) {rows : List Row} {tree : PickTree} → Refutes slot rows tree → AllByRecursion (IsBad slot) rows
refuted_bad slot empty = tt
refuted_bad slot (by_row {rows} {low} {high} number middle l h) = both_sides (IsBad slot) number rows (refuted_bad slot l) (refuted_bad slot h)
refuted_bad slot (fails {rows} t f) = fails_bad slot rows t f

-- where no row is good, no pick is
pub no_good_row : (slot : Slot) → All (λ row. value_of row.low ≤ℚ value_of row.high) slot.rows → All (IsBad slot) slot.rows → NoGood (record { slot = Some slot })
no_good_row slot ranges bad [] g = g
no_good_row slot ranges bad (number ∷ []) g =
    All-contains (IsBad slot) slot.rows g.row bad g.candidate (All-contains (λ row. value_of row.low ≤ℚ value_of row.high) slot.rows g.row ranges g.candidate) g.good
no_good_row slot ranges bad (number ∷ other ∷ more) g = g

-- a range in the target is good, and a good one lies in the target

pub inside_good : (slot : Slot) (row : Row) → LiesInTarget slot row → IsGoodRow slot row
inside_good slot row h x w = record { above = ≤ℚ_trans h.above w.above; below = ≤ℚ_trans w.below h.below }

pub good_inside : (slot : Slot) (row : Row) → value_of row.low ≤ℚ value_of row.high → IsGoodRow slot row → LiesInTarget slot row
good_inside slot row le good = record {
  above = (good (value_of row.low) (record { above = ≤ℚ_refl (value_of row.low); below = le })).above;
  below = (good (value_of row.high) (record { above = le; below = ≤ℚ_refl (value_of row.high) })).below;
}

pub shown_good : (slot : Slot) (pick : List ℕ) (boxes : List BoxTree) → ShowsPick slot pick boxes → IsGoodOf (Some slot) pick
shown_good slot pick boxes s = rw s.pick_is (record { row = s.row; candidate = s.candidate; numbered = refl; good = inside_good slot s.row s.holds })

pub sound_of : (slot : Option Slot) (proof : Proof) → IsWellMadeOf slot → IsProofOf slot proof → Says (record { slot = slot }) proof
sound_of None (Built pick boxes) made p = rw p.0 tt
sound_of None (Tree Refuted tree) made p = absurd p
sound_of (Some slot) (Built pick boxes) made p = shown_good slot pick boxes p
sound_of (Some slot) (Tree Refuted tree) made p =
    no_good_row slot made.ranges (All-from_recursion (IsBad slot) slot.rows (refuted_bad slot p))
