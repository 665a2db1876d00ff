-- Hulls of the points that a fraction selects in rows: there is one at most.
use Rattle.std.proofs.Common.{◌≡◌, ◌<◌, ◌+◌, ◌⊎◌, inl, inr, ⊎_elim, ℕ, zero, suc, List, [], ◌∷◌, ◌++◌, length, get_or, take, Option, Some, None, refl, sym, ap, subst, ◌∙◌, arith, add-one}
use Rattle.std.specs.List.{AllZip, Contains}
use Rattle.std.proofs.lemmas.List.Elements.{All-from_recursion, All-contains, All-push, All-weaker, Contains-push, Contains-append_left}
use Rattle.std.proofs.Math.Seq.{take-suc}
use Rattle.ato_rational.specs.Rational.{◌≤ℚ◌, zero_ℚ, one_ℚ}
use Rattle.ato_rational.specs.Ranges.{IsWithin}
use Rattle.ato_rational.proofs.Order.{≤ℚ_refl, ≤ℚ_trans, <ℚ-≤ℚ_trans, ≤ℚ-<ℚ_trans}
use Rattle.ato_frac.specs.declared.fraction.Frac.{Frac}
use Rattle.ato_frac.specs.Fractions.{value_of}
use Rattle.ato_cert.specs.declared.problem.Row.{Row}
use Rattle.ato_cert.specs.declared.problem.Slot.{Slot}
use Rattle.ato_cert.specs.Selection.{IsSelected, IsHull, FailsAt}
use Rattle.ato_check.specs.declared.failing.Hull.{Hull}
use Rattle.ato_check.specs.Hulls.{IsLesser, IsGreater, Widens, SelectsHull, Spans, LiesOutside}
use Rattle.ato_check.proofs.SelectedLaws.{selected_same, selecting_within}

-- one more row and its point
selected_push : (t : Frac) (rows : List Row) (points : List Frac) (row : Row) (point : Frac) → AllZip (IsSelected t) rows points → IsSelected t row point
    → AllZip (IsSelected t) (rows ++ row ∷ []) (points ++ point ∷ [])
selected_push t [] [] row point s one = (one, tt)
selected_push t [] (p ∷ ps) row point s one = absurd s
selected_push t (r ∷ rs) [] row point s one = absurd s
selected_push t (r ∷ rs) (p ∷ ps) row point s one = (s.0, selected_push t rs ps row point s.1 one)

-- rows have their points at the same places
selected_at : (t : Frac) (rows : List Row) (points : List Frac) (i : ℕ) (d : Row) (e : Frac) → i < length rows → AllZip (IsSelected t) rows points
    → IsSelected t (get_or rows i d) (get_or points i e)
selected_at t [] [] i d e l s = absurd (omega arith)
selected_at t [] (p ∷ ps) i d e l s = absurd s
selected_at t (r ∷ rs) [] i d e l s = absurd s
selected_at t (r ∷ rs) (p ∷ ps) zero d e l s = s.0
selected_at t (r ∷ rs) (p ∷ ps) (suc i) d e l s = selected_at t rs ps i d e (omega arith) s.1

-- the points that a fraction selects in rows are determined
points_same : (t : Frac) (rows : List Row) (xs ys : List Frac) → AllZip (IsSelected t) rows xs → AllZip (IsSelected t) rows ys → xs ≡ ys
points_same t [] [] [] a b = refl
points_same t [] [] (y ∷ ys) a b = absurd b
points_same t [] (x ∷ xs) ys a b = absurd a
points_same t (r ∷ rs) [] ys a b = absurd a
points_same t (r ∷ rs) (x ∷ xs) [] a b = absurd b
points_same t (r ∷ rs) (x ∷ xs) (y ∷ ys) a b =
    let head = selected_same t r x y a.0 b.0 in
    let tail = points_same t rs xs ys a.1 b.1 in
    cc

-- where a row has no selected point, there is no hull
pub none_at : (rows : List Row) (t : Frac) (i : ℕ) (row : Row) → i < length rows → row ≡ get_or rows i row
    → ((point : Frac) → ¬ IsSelected t row point) → (least greatest : Frac) → ¬ SelectsHull rows t least greatest
none_at rows t i row l at none least greatest h =
    none (get_or h.points i least) (subst (λ (r : Row). IsSelected t r (get_or h.points i least)) (sym at) (selected_at t rows h.points i row least l h.selected))

-- the hull of one point
hull_of_one : (point : Frac) → IsHull (point ∷ []) point point
hull_of_one point = record {
  has_least = (0, omega arith, refl);
  has_greatest = (0, omega arith, refl);
  above = All-from_recursion (λ other. value_of point ≤ℚ value_of other) (point ∷ []) (≤ℚ_refl (value_of point), tt);
  below = All-from_recursion (λ other. value_of other ≤ℚ value_of point) (point ∷ []) (≤ℚ_refl (value_of point), tt);
}

-- one of two fractions, of which each is in a list that is made longer by the second
pushed : (points : List Frac) (point old r : Frac) → Contains points old → (r ≡ old) ⊎ (r ≡ point) → Contains (points ++ point ∷ []) r
pushed points point old r c one =
    ⊎_elim
    (λ e. subst (λ (x : Frac). Contains (points ++ point ∷ []) x) (sym e) (Contains-append_left points (point ∷ []) old c))
    (λ e. subst (λ (x : Frac). Contains (points ++ point ∷ []) x) (sym e) (Contains-push points point))
    one

-- the hull of points and one more
hull_pushed : (points : List Frac) (point least greatest low high : Frac) → IsHull points least greatest
    → IsLesser least point low → IsGreater greatest point high → IsHull (points ++ point ∷ []) low high
hull_pushed points point least greatest low high h l g = record {
  has_least = pushed points point least low h.has_least l.one;
  has_greatest = pushed points point greatest high h.has_greatest g.one;
  above = All-push (λ p. value_of low ≤ℚ value_of p) points point
      (All-weaker (λ p. value_of least ≤ℚ value_of p) (λ p. value_of low ≤ℚ value_of p) (λ p le. ≤ℚ_trans l.first le) points h.above) l.second;
  below = All-push (λ p. value_of p ≤ℚ value_of high) points point
      (All-weaker (λ p. value_of p ≤ℚ value_of greatest) (λ p. value_of p ≤ℚ value_of high) (λ p le. ≤ℚ_trans le g.first) points h.below) g.second;
}

-- the hull of what is selected in rows and in one more
spans_pushed : (rows : List Row) (t : Frac) (found : Option Hull) (row : Row) (point : Frac) (hull : Hull) → Spans rows t found → IsSelected t row point
    → Widens found point hull → Spans (rows ++ row ∷ []) t (Some hull)
spans_pushed rows t None row point hull none s w =
    rw (none, w.0, w.1) (record { points = point ∷ []; selected = (s, tt); hull = hull_of_one point })
spans_pushed rows t (Some old) row point hull h s w = record {
  points = h.points ++ point ∷ [];
  selected = selected_push t rows h.points row point h.selected s;
  hull = hull_pushed h.points point old.least old.greatest hull.least hull.greatest h.hull w.0 w.1;
}

-- and of one more row of a list
pub spans_more : (rows : List Row) (t : Frac) (i : ℕ) (found : Option Hull) (row : Row) (point : Frac) (hull : Hull) → i < length rows → row ≡ get_or rows i row
    → Spans (take i rows) t found → IsSelected t row point → Widens found point hull → Spans (take (i + 1) rows) t (Some hull)
spans_more rows t i found row point hull l at h s w =
    let e : take (i + 1) rows ≡ take i rows ++ row ∷ [] = rw add-one (take-suc rows i row l) ∙ ap (λ (r : Row). take i rows ++ r ∷ []) (sym at) in
    subst (λ (r : List Row). Spans r t (Some hull)) (sym e) (spans_pushed (take i rows) t found row point hull h s w)

-- two hulls of what a fraction selects in rows lie outside a target alike
pub outside_same : (slot : Slot) (rows : List Row) (t a b c d : Frac) → SelectsHull rows t a b → SelectsHull rows t c d → LiesOutside slot a b → LiesOutside slot c d
outside_same slot rows t a b c d h k out =
    let e : k.points ≡ h.points = points_same t rows k.points h.points k.selected h.selected in
    let has_least : Contains h.points c = subst (λ (points : List Frac). Contains points c) e k.hull.has_least in
    let has_greatest : Contains h.points d = subst (λ (points : List Frac). Contains points d) e k.hull.has_greatest in
    ⊎_elim
    (λ lt. inl (≤ℚ-<ℚ_trans (All-contains (λ p. value_of p ≤ℚ value_of b) h.points d h.hull.below has_greatest) lt))
    (λ lt. inr (<ℚ-≤ℚ_trans lt (All-contains (λ p. value_of a ≤ℚ value_of p) h.points c h.hull.above has_least)))
    out

-- rows with a hull are some, and the fraction is from 0 to 1
first_selected : (rows : List Row) (t : Frac) (points : List Frac) (point : Frac) → AllZip (IsSelected t) rows points → Contains points point
    → (0 < length rows) × IsWithin zero_ℚ one_ℚ (value_of t)
first_selected [] t [] point s (k, l, e) = absurd (omega arith)
first_selected [] t (p ∷ ps) point s c = absurd s
first_selected (row ∷ rows) t [] point s c = absurd s
first_selected (row ∷ rows) t (p ∷ ps) point s c = (omega arith, selecting_within s.0)

-- a check fails exactly where the hull lies outside the target

pub fails_since : (slot : Slot) (rows : List Row) (t least greatest : Frac) → SelectsHull rows t least greatest → LiesOutside slot least greatest → FailsAt slot rows t
fails_since slot rows t least greatest h out =
    let first = first_selected rows t h.points least h.selected h.hull.has_least in
    record {
      some = first.0;
      fraction = first.1;
      points = h.points;
      selected = h.selected;
      least = least;
      greatest = greatest;
      hull = h.hull;
      outside = out;
    }

pub hull_since : {slot : Slot} {rows : List Row} {t : Frac} (f : FailsAt slot rows t) → SelectsHull rows t f.least f.greatest
hull_since {slot} {rows} {t} f = record { points = f.points; selected = f.selected; hull = f.hull }

pub outside_since : (slot : Slot) (rows : List Row) (t least greatest : Frac) → SelectsHull rows t least greatest → FailsAt slot rows t → LiesOutside slot least greatest
outside_since slot rows t least greatest h f = outside_same slot rows t f.least f.greatest least greatest (hull_since f) h f.outside
