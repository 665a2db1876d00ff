-- What the search finds decides its problem.
use Rattle.std.proofs.Common.{◌≡◌, ℕ, suc, ◌+◌, ◌<◌, ◌≤◌, List, [], ◌∷◌, ◌++◌, length, get_or, take, drop, refl, sym, ap, subst, ◌∙◌, length-append, arith}
use Rattle.std.specs.List.{All, AllByRecursion}
use Rattle.std.proofs.lemmas.List.Elements.{recursion_from_All, All-from_recursion, All-more}
use Rattle.std.proofs.lemmas.List.{take_all}
use Rattle.ato_rational.specs.Rational.{◌≤ℚ◌}
use Rattle.ato_frac.specs.declared.fraction.Frac.{Frac}
use Rattle.ato_frac.specs.Fractions.{value_of}
use Rattle.ato_cert.specs.declared.problem.Row.{Row}
use Rattle.ato_cert.specs.declared.problem.Slot.{Slot}
use Rattle.ato_cert.specs.declared.cert.PickTree.{PickTree}
use Rattle.ato_cert.specs.declared.cert.PickTree.TheVariants as tree
use Rattle.ato_cert.specs.declared.cert.BoxTree.TheVariants.{Holds}
use Rattle.ato_cert.specs.declared.cert.Verdict.TheVariants.{Refuted}
use Rattle.ato_cert.specs.declared.cert.Proof.TheVariants.{Built, Tree}
use Rattle.ato_cert.specs.Problems.{IsWellMadeSlot}
use Rattle.ato_cert.specs.Good.{IsGoodRow}
use Rattle.ato_cert.specs.Selection.{FailsAt}
use Rattle.ato_cert.specs.Justified.{empty, by_row, fails, LiesInTarget}
use Rattle.ato_cert.specs.Halves.{AreHalves}
use Rattle.ato_search.specs.Searching.{IsFirstInTarget, IsDecision, IsRefutation}
use Rattle.ato_cert.proofs.RowLemmas.{Contains-seam, divided_at}
use Rattle.ato_cert.proofs.Soundness.{IsBad, refuted_bad, no_good_row, inside_good, good_inside}
use Rattle.ato_cert.proofs.TreeLemmas.{nodes_empty, nodes_by_row, nodes_fails}

-- a row outside the target, with a range, is not good
none_good : (slot : Slot) (before rest : List Row) → AllByRecursion (λ row. value_of row.low ≤ℚ value_of row.high) (before ++ rest)
    → AllByRecursion (λ row. ¬ LiesInTarget slot row) before → AllByRecursion (λ row. ¬ IsGoodRow slot row) before
none_good slot [] rest ranges out = tt
none_good slot (row ∷ before) rest ranges out = (λ good. out.0 (good_inside slot row ranges.0 good), none_good slot before rest ranges.1 out.1)

pub first_decides : (slot : Slot) (number : ℕ) → IsWellMadeSlot slot → IsFirstInTarget slot number → IsDecision slot (Built (number ∷ []) (Holds ∷ []))
first_decides slot number made f =
    let ranges = recursion_from_All (λ row. value_of row.low ≤ℚ value_of row.high) slot.rows made.ranges in
    let ranges' : AllByRecursion (λ row. value_of row.low ≤ℚ value_of row.high) (f.before ++ f.row ∷ f.after) = rw f.rows_are at ranges in
    record {
      right = record {
        row = f.row;
        candidate = rw f.rows_are (Contains-seam f.before f.row f.after);
        pick_is = rw f.numbered refl;
        all_checks = refl;
        holds = f.inside;
      };
      few = omega arith;
      decides = record {
        before = f.before;
        row = f.row;
        after = f.after;
        rows_are = f.rows_are;
        numbered = f.numbered;
        good = inside_good slot f.row f.inside;
        none_before = All-from_recursion (λ row. ¬ IsGoodRow slot row) f.before
            (none_good slot f.before (f.row ∷ f.after) ranges' (recursion_from_All (λ row. ¬ LiesInTarget slot row) f.before f.none_before));
      };
    }

pub tree_decides : (slot : Slot) (tree : PickTree) → IsWellMadeSlot slot → IsRefutation slot slot.rows tree → IsDecision slot (Tree Refuted tree)
tree_decides slot tree made r = record {
  right = r.refutes;
  few = r.few;
  decides = no_good_row slot made.ranges (All-from_recursion (IsBad slot) slot.rows (refuted_bad slot r.refutes));
}

empty_refuted : (slot : Slot) → IsRefutation slot [] (tree.Empty 1)
empty_refuted slot = record { refutes = empty; few = rw (nodes_empty 1) (omega arith) }

pub fails_refuted : (slot : Slot) (rows : List Row) (t : Frac) → FailsAt slot rows t → IsRefutation slot rows (tree.Fails 1 (t ∷ []))
fails_refuted slot rows t f = record { refutes = fails t f; few = rw (nodes_fails 1 (t ∷ [])) (omega arith) }

pub halves_refuted : (slot : Slot) (rows low : List Row) (number : ℕ) (high : List Row) (a b : PickTree) → AreHalves rows low number high
    → IsRefutation slot low a → IsRefutation slot high b → IsRefutation slot rows (tree.ByRow 1 number a b)
halves_refuted slot rows low number high a b h l r = record {
  refutes = by_row number h.middle (rw h.low_is l.refutes) (rw h.high_is r.refutes);
  few = rw (nodes_by_row 1 number a b) (omega (arith, l.few, r.few, ap (λ (x : List Row). length x) h.together ∙ length-append low high, h.low_some, h.high_some));
}

-- the row at i, where those before it lie outside the target
pub first_at : (slot : Slot) (rows : List Row) (i : ℕ) (row : Row) → rows ≡ slot.rows → i < length rows → row ≡ get_or rows i row
    → LiesInTarget slot row → All (λ other. ¬ LiesInTarget slot other) (take i rows) → IsFirstInTarget slot row.number
first_at slot rows i row e l at inside before = record {
  before = take i rows;
  row = row;
  after = drop (suc i) rows;
  rows_are = sym e ∙ divided_at rows i row l ∙ ap (λ (r : Row). take i rows ++ r ∷ drop (suc i) rows) (sym at);
  numbered = refl;
  inside = inside;
  none_before = before;
}

-- no row in the target up to one place, and then up to the next and in the end

pub none_more : (slot : Slot) (rows : List Row) (i : ℕ) (row : Row) → i < length rows → All (λ other. ¬ LiesInTarget slot other) (take i rows)
    → row ≡ get_or rows i row → ¬ LiesInTarget slot row → All (λ other. ¬ LiesInTarget slot other) (take (i + 1) rows)
none_more slot rows i row l before at out = All-more (λ other. ¬ LiesInTarget slot other) rows i row l before (rw (← at) out)

pub none_whole : (slot : Slot) (rows all : List Row) (i : ℕ) → rows ≡ all → length rows ≤ i → All (λ other. ¬ LiesInTarget slot other) (take i rows)
    → All (λ other. ¬ LiesInTarget slot other) all
none_whole slot rows all i e l before =
    subst (λ (r : List Row). All (λ other. ¬ LiesInTarget slot other) r) (take_all i rows l ∙ e) before

-- the tree of no rows
pub empty_at : (slot : Slot) (rows : List Row) → length rows < 1 → IsRefutation slot rows (tree.Empty 1)
empty_at slot [] l = empty_refuted slot
empty_at slot (row ∷ rows) l = absurd (omega arith)
