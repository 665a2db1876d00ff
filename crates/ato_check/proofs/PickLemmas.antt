-- Picks and their candidates.
use Rattle.std.proofs.Common.{◌≡◌, ℕ, ◌<◌, ◌≤◌, List, [], ◌∷◌, length, get_or, refl, ap, sym, ◌∙◌, arith}
use Rattle.std.specs.List.{Contains}
use Rattle.std.proofs.lemmas.List.{get_or_default}
use Rattle.ato_cert.specs.declared.problem.Row.{Row}
use Rattle.ato_cert.specs.declared.problem.Slot.{Slot}
use Rattle.ato_cert.specs.declared.cert.BoxTree.{BoxTree}
use Rattle.ato_cert.specs.declared.cert.BoxTree.TheVariants.{Holds}
use Rattle.ato_cert.specs.Problems.{AreRising, IsWellMadeSlot}
use Rattle.ato_cert.specs.Valid.{ShowsPick}
use Rattle.ato_check.specs.FirstBad.{IsPicked, IsBadPick}
use Rattle.ato_check.specs.FirstBad as first

-- one check
pub one_box : (boxes : List BoxTree) → length boxes ≤ 1 → ¬ (length boxes ≡ 0) → boxes ≡ Holds ∷ []
one_box [] few some = absurd (some refl)
one_box (Holds ∷ []) few some = refl
one_box (Holds ∷ other ∷ more) few some = absurd (omega (arith, few))

pub no_box : (boxes : List BoxTree) → length boxes ≡ 0 → boxes ≡ []
no_box [] none = refl
no_box (box ∷ boxes) none = absurd (omega (arith, none))

-- rows whose numbers rise have one row with a number
same_place : (rows : List Row) (a b : Row) → AreRising rows → a.number ≡ b.number → (i j : ℕ) → i < length rows → j < length rows
    → get_or rows i a ≡ a → get_or rows j b ≡ b → ¬ (i < j)
same_place rows a b r same i j l m e f lt =
    let rise = r i j a lt m in
    let first = ap (λ (row : Row). row.number) e in
    let second = ap (λ (row : Row). row.number) (get_or_default rows j a b m ∙ f) in
    omega (arith, rise, first, second, same)

pub one_row : (rows : List Row) (a b : Row) → AreRising rows → Contains rows a → Contains rows b → a.number ≡ b.number → a ≡ b
one_row rows a b r (i, l, e) (j, m, f) same =
    let not_below = same_place rows a b r same i j l m e f in
    let not_above = same_place rows b a r (sym same) j i m l f e in
    let at : i ≡ j = omega (arith, not_below, not_above) in
    sym e ∙ get_or_default rows i a b l ∙ ap (λ k. get_or rows k b) at ∙ f

-- a pick with a bad line is not shown

same_pick : (slot : Slot) (pick : List ℕ) (a b : Row) → IsWellMadeSlot slot → IsPicked slot pick a → Contains slot.rows b → pick ≡ b.number ∷ [] → a ≡ b
same_pick slot pick a b made p at e = one_row slot.rows a b made.rising p.candidate at (same_number (sym p.pick_is ∙ e))
  where
    same_number : a.number ∷ [] ≡ b.number ∷ [] → a.number ≡ b.number
    same_number e = cc

pub bad_pick : (slot : Slot) (pick : List ℕ) (boxes : List BoxTree) {line : ℕ} → IsWellMadeSlot slot → IsBadPick slot pick boxes line → ¬ ShowsPick slot pick boxes
bad_pick slot pick boxes made (first.no_candidate none) s = none s.row (record { candidate = s.candidate; pick_is = s.pick_is })
bad_pick slot pick boxes made (first.outside row p e out) s = out (rw (same_pick slot pick row s.row made p s.candidate s.pick_is) s.holds)
bad_pick slot pick boxes made (first.unchecked row p e) s = let both = sym e ∙ s.all_checks in absurd cc
