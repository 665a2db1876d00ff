-- What holds of the lines of a tree that are justified, and of the first one that is not.
use Rattle.std.proofs.Common.{◌≡◌, ◌↔◌, ◌∙◌, IsTrue, Bool, ℕ, get_or, ◌+◌, ◌<◌, ◌≤◌, List, [], ◌∷◌, ◌++◌, length, refl, ap, subst, sym, length-append, arith}
use Rattle.ato_frac.specs.declared.fraction.Frac.{Frac}
use Rattle.ato_cert.specs.declared.problem.Row.{Row}
use Rattle.ato_cert.specs.declared.problem.Slot.{Slot}
use Rattle.ato_cert.specs.declared.cert.PickTree.{PickTree, out-PickTree, fold_out-PickTree}
use Rattle.ato_cert.specs.declared.cert.PickTree.TheOpen.{PickTree-F}
use Rattle.ato_cert.specs.declared.cert.PickTree.TheVariants as tree
use Rattle.ato_cert.specs.Selection.{FailsAt}
use Rattle.ato_cert.specs.Justified.{low_side, high_side, IsMiddle, Refutes}
use Rattle.ato_cert.specs.Justified as justified
use Rattle.ato_cert.specs.Halves.{AreHalves}
use Rattle.ato_cert.specs.Nodes.{nodes_step, tree_nodes}
use Rattle.ato_cert.specs.Readable.{IsTreeOver}
use Rattle.ato_cert.specs.Readable as readable
use Rattle.ato_cert.specs.Texts.{tree_text, empty_line, row_line, fails_line}
use Rattle.ato_cert.proofs.TreeLemmas.{nodes_empty, nodes_by_row, nodes_fails, text_empty, text_by_row, text_fails}
use Rattle.ato_check.specs.FirstBad.{IsJustified, IsBadAt}
use Rattle.ato_check.specs.FirstBad as first
use Rattle.ato_check.specs.Parts.{FailsAtPoint, IsCheckedTree}

-- what a justified first line says, by its kind

abbrev JustifiedLayer : Slot → List Row → PickTree-F PickTree → Type 0
JustifiedLayer slot rows (PickTree-F.Empty n) = (n ≡ 1) × (rows ≡ [])
JustifiedLayer slot rows (PickTree-F.ByRow n number low high) = (n ≡ 1) × IsMiddle rows number
JustifiedLayer slot rows (PickTree-F.Fails n point) = (n ≡ 1) × FailsAtPoint slot rows point

justified_layer : (slot : Slot) {rows : List Row} {tree : PickTree} → IsJustified slot rows tree → JustifiedLayer slot rows (out-PickTree tree)
justified_layer slot first.empty = rw (tree.outs-Empty 1) (refl, refl)
justified_layer slot (first.by_row {rows} number low high m) = rw (tree.outs-ByRow 1 number low high) (refl, m)
justified_layer slot (first.fails {rows} t f) = rw (tree.outs-Fails 1 (t ∷ [])) (refl, record { t = t; point_is = refl; fails = f })

justified_empty : (slot : Slot) (rows : List Row) (n : ℕ) → IsJustified slot rows (tree.Empty n) → (n ≡ 1) × (rows ≡ [])
justified_empty slot rows n j = subst (JustifiedLayer slot rows) (tree.outs-Empty n) (justified_layer slot j)

justified_by_row : (slot : Slot) (rows : List Row) (n number : ℕ) (low high : PickTree) → IsJustified slot rows (tree.ByRow n number low high) → (n ≡ 1) × IsMiddle rows number
justified_by_row slot rows n number low high j = subst (JustifiedLayer slot rows) (tree.outs-ByRow n number low high) (justified_layer slot j)

justified_fails : (slot : Slot) (rows : List Row) (n : ℕ) (point : List Frac) → IsJustified slot rows (tree.Fails n point) → (n ≡ 1) × FailsAtPoint slot rows point
justified_fails slot rows n point j = subst (JustifiedLayer slot rows) (tree.outs-Fails n point) (justified_layer slot j)

-- a tree that refutes rows has no bad line

first_justified : (slot : Slot) {rows : List Row} {tree : PickTree} → Refutes slot rows tree → IsJustified slot rows tree
first_justified slot justified.empty = first.empty
first_justified slot (justified.by_row {rows} {low} {high} number m l h) = first.by_row number low high m
first_justified slot (justified.fails {rows} t f) = first.fails t f

abbrev RefutesBelow : Slot → List Row → PickTree-F PickTree → Type 0
RefutesBelow slot rows (PickTree-F.Empty n) = Unit {0}
RefutesBelow slot rows (PickTree-F.ByRow n number low high) = Refutes slot (low_side number rows) low × Refutes slot (high_side number rows) high
RefutesBelow slot rows (PickTree-F.Fails n point) = Unit {0}

refutes_below : (slot : Slot) {rows : List Row} {tree : PickTree} → Refutes slot rows tree → RefutesBelow slot rows (out-PickTree tree)
refutes_below slot justified.empty = rw (tree.outs-Empty 1) tt
refutes_below slot (justified.by_row {rows} {low} {high} number m l h) = rw (tree.outs-ByRow 1 number low high) (l, h)
refutes_below slot (justified.fails {rows} t f) = rw (tree.outs-Fails 1 (t ∷ [])) tt

both_below : (slot : Slot) (rows : List Row) (n number : ℕ) (low high : PickTree) → Refutes slot rows (tree.ByRow n number low high)
    → Refutes slot (low_side number rows) low × Refutes slot (high_side number rows) high
both_below slot rows n number low high r = subst (RefutesBelow slot rows) (tree.outs-ByRow n number low high) (refutes_below slot r)

pub none_bad : (slot : Slot) {rows : List Row} {tree : PickTree} {k : ℕ} → IsBadAt slot rows tree k → ¬ Refutes slot rows tree
none_bad slot (first.here {rows} {tree} out) r = out (first_justified slot r)
none_bad slot (first.low {rows} {low} {k} number high m b) r = none_bad slot b (both_below slot rows 1 number low high r).0
none_bad slot (first.high {rows} {low} {high} {k} number m below b) r = none_bad slot b (both_below slot rows 1 number low high r).1

-- a bad line is one of the tree's

step_some : (layer : PickTree-F ℕ) → 1 ≤ nodes_step layer
step_some (PickTree-F.Empty n) = omega arith
step_some (PickTree-F.ByRow n number low high) = omega arith
step_some (PickTree-F.Fails n point) = omega arith

nodes_some : (tree : PickTree) → 1 ≤ tree_nodes tree
nodes_some tree = rw (fold_out-PickTree ℕ nodes_step tree) (step_some _)

pub bad_within : (slot : Slot) {rows : List Row} {tree : PickTree} {k : ℕ} → IsBadAt slot rows tree k → k < tree_nodes tree
bad_within slot (first.here {rows} {tree} out) = omega (arith, nodes_some tree)
bad_within slot (first.low {rows} {low} {k} number high m b) = rw (nodes_by_row 1 number low high) (omega (arith, bad_within slot b))
bad_within slot (first.high {rows} {low} {high} {k} number m r b) = rw (nodes_by_row 1 number low high) (omega (arith, bad_within slot b))

-- the nodes of a tree over two sides
pub both_nodes : (x : PickTree) (n number : ℕ) (low high : PickTree) → x ≡ tree.ByRow n number low high → tree_nodes x ≡ 1 + tree_nodes low + tree_nodes high
both_nodes x n number low high e = rw e (nodes_by_row n number low high)

-- each node has a line of its own

empty_long : (n : ℕ) → 1 ≤ length (empty_line n)
unfolding empty_line
empty_long n = omega arith

row_long : (n number : ℕ) → 1 ≤ length (row_line n number)
unfolding row_line
row_long n number = omega arith

fails_long : (n : ℕ) (point : List Frac) → 1 ≤ length (fails_line n point)
unfolding fails_line
fails_long n point = omega arith

pub nodes_have_lines : {count above : ℕ} {tree : PickTree} → IsTreeOver count above tree → tree_nodes tree ≤ length (tree_text tree)
nodes_have_lines (readable.empty slot n) = rw (nodes_empty slot, text_empty slot) (empty_long slot)
nodes_have_lines (readable.by_row {low = low} {high = high} slot row n small l h) =
    rw (nodes_by_row slot row low high, text_by_row slot row low high, length-append (row_line slot row) (tree_text low ++ tree_text high), length-append (tree_text low) (tree_text high))
    (omega (arith, row_long slot row, nodes_have_lines l, nodes_have_lines h))
nodes_have_lines (readable.fails check point n) = rw (nodes_fails check point, text_fails check point) (fails_long check point)

-- the first line of a tree that is not justified

pub rows_left : (slot : Slot) (rows : List Row) (n : ℕ) → ¬ ((n ≡ 1) × (rows ≡ [])) → IsBadAt slot rows (tree.Empty n) 0
rows_left slot rows n out = first.here (λ j. out (justified_empty slot rows n j))

pub not_middle : (slot : Slot) (rows : List Row) (n number : ℕ) (low high : PickTree) → ¬ ((n ≡ 1) × IsMiddle rows number) → IsBadAt slot rows (tree.ByRow n number low high) 0
not_middle slot rows n number low high out = first.here (λ j. out (justified_by_row slot rows n number low high j))

pub no_failure : (slot : Slot) (rows : List Row) (n : ℕ) (point : List Frac) → ¬ ((n ≡ 1) × FailsAtPoint slot rows point) → IsBadAt slot rows (tree.Fails n point) 0
no_failure slot rows n point out = first.here (λ j. out (justified_fails slot rows n point j))

-- trees whose lines are justified

pub no_rows : (slot : Slot) (rows : List Row) (n : ℕ) → (n ≡ 1) × (rows ≡ []) → IsCheckedTree slot rows (tree.Empty n) 1
no_rows slot rows n h = rw (h.0, h.1) (record { refutes = justified.empty; counted = sym (nodes_empty 1) })

pub failure : (slot : Slot) (rows : List Row) (n : ℕ) (point : List Frac) → (n ≡ 1) × FailsAtPoint slot rows point → IsCheckedTree slot rows (tree.Fails n point) 1
failure slot rows n point h = rw (h.0, h.1.point_is) (record { refutes = justified.fails h.1.t h.1.fails; counted = sym (nodes_fails 1 (h.1.t ∷ [])) })

-- a point of one fraction
pub at_one_point : (slot : Slot) (rows : List Row) (point : List Frac) (t : Frac) (fails : Bool) → length point ≡ 1 → t ≡ get_or point 0 t
    → (IsTrue fails ↔ FailsAt slot rows t) → (IsTrue fails ↔ FailsAtPoint slot rows point)
at_one_point slot rows [] t fails one at both = absurd (omega (arith, one))
at_one_point slot rows (u ∷ []) t fails one at both = (
  λ h. record { t = t; point_is = rw at refl; fails = both.0 h },
  λ f. both.1 (subst (FailsAt slot rows) (head_is f.t f.point_is) f.fails),
)
  where
    head_is : (v : Frac) → u ∷ [] ≡ v ∷ [] → v ≡ t
    head_is v e = ap (λ (l : List Frac). get_or l 0 v) (sym e) ∙ sym at
at_one_point slot rows (u ∷ v ∷ more) t fails one at both = absurd (omega (arith, one))

-- a tree over the two sides of its middle
module _ (slot : Slot) (rows below : List Row) (number : ℕ) (above : List Row) (low high : PickTree) (n : ℕ) (one : n ≡ 1) (h : AreHalves rows below number above) where
  pub bad_low : (at : ℕ) → IsBadAt slot below low at → IsBadAt slot rows (tree.ByRow n number low high) (1 + at)
  bad_low at b =
      let b' : IsBadAt slot (low_side number rows) low at = rw h.low_is b in
      rw one (first.low {low = low} {k = at} number high h.middle b')

  pub bad_high : (before at : ℕ) → IsCheckedTree slot below low before → IsBadAt slot above high at → IsBadAt slot rows (tree.ByRow n number low high) (1 + before + at)
  bad_high before at c b =
      let r : Refutes slot (low_side number rows) low = rw h.low_is c.refutes in
      let b' : IsBadAt slot (high_side number rows) high at = rw h.high_is b in
      rw (one, c.counted) (first.high {low = low} {high = high} {k = at} number h.middle r b')

  pub both_checked : (before more : ℕ) → IsCheckedTree slot below low before → IsCheckedTree slot above high more → IsCheckedTree slot rows (tree.ByRow n number low high) (1 + before + more)
  both_checked before more c d =
      let r : Refutes slot (low_side number rows) low = rw h.low_is c.refutes in
      let s : Refutes slot (high_side number rows) high = rw h.high_is d.refutes in
      rw one (record { refutes = justified.by_row {low = low} {high = high} number h.middle r s; counted = rw (c.counted, d.counted) (sym (nodes_by_row 1 number low high)) })
