-- A certificate has at most one first bad line.
use Rattle.std.proofs.Common.{◌≡◌, ◌⊎◌, inl, inr, ⊎_elim, ℕ, ◌+◌, List, Option, Some, None, refl, sym, ap, subst, ◌∙◌}
use Rattle.ato_cert.specs.declared.problem.Row.{Row}
use Rattle.ato_cert.specs.declared.problem.Slot.{Slot}
use Rattle.ato_cert.specs.declared.problem.Problem.{Problem}
use Rattle.ato_cert.specs.declared.cert.BoxTree.{BoxTree}
use Rattle.ato_cert.specs.declared.cert.PickTree.{PickTree, out-PickTree}
use Rattle.ato_cert.specs.declared.cert.PickTree.TheOpen.{PickTree-F}
use Rattle.ato_cert.specs.declared.cert.PickTree.TheVariants as tree
use Rattle.ato_cert.specs.declared.cert.Verdict.TheVariants.{Refuted}
use Rattle.ato_cert.specs.declared.cert.Proof.{Proof}
use Rattle.ato_cert.specs.declared.cert.Proof.TheVariants.{Built, Tree}
use Rattle.ato_cert.specs.declared.cert.Cert.{Cert}
use Rattle.ato_cert.specs.Problems.{IsWellMade}
use Rattle.ato_cert.specs.Justified.{low_side, high_side, Refutes}
use Rattle.ato_cert.specs.Nodes.{tree_nodes}
use Rattle.ato_check.specs.FirstBad.{IsJustified, IsBadAt, IsBadPick, IsBadProof, IsFirstBad}
use Rattle.ato_check.specs.FirstBad as first
use Rattle.ato_check.proofs.TreeLines.{none_bad}
use Rattle.ato_check.proofs.WholeLemmas.{bad_proof}

-- a bad line below the first
abbrev IsBelow : Slot → List Row → ℕ → PickTree-F PickTree → Type 0
IsBelow slot rows at (PickTree-F.Empty n) = ⊥
IsBelow slot rows at (PickTree-F.ByRow n number low high) =
    ((k : ℕ) × IsBadAt slot (low_side number rows) low k × (at ≡ 1 + k))
    ⊎ ((k : ℕ) × Refutes slot (low_side number rows) low × IsBadAt slot (high_side number rows) high k × (at ≡ 1 + tree_nodes low + k))
IsBelow slot rows at (PickTree-F.Fails n point) = ⊥

below : (slot : Slot) {rows : List Row} {tree : PickTree} {at : ℕ} → IsBadAt slot rows tree at → IsJustified slot rows tree → IsBelow slot rows at (out-PickTree tree)
below slot (first.here {rows} {tree} out) j = absurd (out j)
below slot (first.low {rows} {low} {k} number high m b) j = rw (tree.outs-ByRow 1 number low high) (inl (k, b, refl))
below slot (first.high {rows} {low} {high} {k} number m r b) j = rw (tree.outs-ByRow 1 number low high) (inr (k, r, b, refl))

below_row : (slot : Slot) (rows : List Row) (number : ℕ) (low high : PickTree) (at : ℕ) → IsJustified slot rows (tree.ByRow 1 number low high) → IsBadAt slot rows (tree.ByRow 1 number low high) at
    → IsBelow slot rows at (PickTree-F.ByRow 1 number low high)
below_row slot rows number low high at j b = subst (IsBelow slot rows at) (tree.outs-ByRow 1 number low high) (below slot b j)

first_only : (slot : Slot) {rows : List Row} {tree : PickTree} {at : ℕ} → ¬ IsJustified slot rows tree → IsBadAt slot rows tree at → 0 ≡ at
first_only slot out (first.here {rows} {tree} other) = refl
first_only slot out (first.low {rows} {low} {k} number high m b) = absurd (out (first.by_row number low high m))
first_only slot out (first.high {rows} {low} {high} {k} number m r b) = absurd (out (first.by_row number low high m))

one_at : (slot : Slot) {rows : List Row} {tree : PickTree} {a b : ℕ} → IsBadAt slot rows tree a → IsBadAt slot rows tree b → a ≡ b
one_at slot (first.here {rows} {tree} out) q = first_only slot out q
one_at slot {b = b} (first.low {rows} {low} {k} number high m p) q =
    ⊎_elim
    (λ (l, s, e). ap (λ n. 1 + n) (one_at slot p s) ∙ sym e)
    (λ (l, r, s, e). absurd (none_bad slot p r))
    (below_row slot rows number low high b (first.by_row number low high m) q)
one_at slot {b = b} (first.high {rows} {low} {high} {k} number m r p) q =
    ⊎_elim
    (λ (l, s, e). absurd (none_bad slot s r))
    (λ (l, t, s, e). ap (λ n. 1 + tree_nodes low + n) (one_at slot p s) ∙ sym e)
    (below_row slot rows number low high b (first.by_row number low high m) q)

one_of_pick : (slot : Slot) (pick : List ℕ) (boxes : List BoxTree) {a b : ℕ} → IsBadPick slot pick boxes a → IsBadPick slot pick boxes b → a ≡ b
one_of_pick slot pick boxes (first.no_candidate none) (first.no_candidate other) = refl
one_of_pick slot pick boxes (first.no_candidate none) (first.outside row p e out) = absurd (none row p)
one_of_pick slot pick boxes (first.no_candidate none) (first.unchecked row p e) = absurd (none row p)
one_of_pick slot pick boxes (first.outside row p e out) (first.no_candidate none) = absurd (none row p)
one_of_pick slot pick boxes (first.outside row p e out) (first.outside other q f in_other) = refl
one_of_pick slot pick boxes (first.outside row p e out) (first.unchecked other q f) = let both = sym e ∙ f in absurd cc
one_of_pick slot pick boxes (first.unchecked row p e) (first.no_candidate none) = absurd (none row p)
one_of_pick slot pick boxes (first.unchecked row p e) (first.outside other q f out) = let both = sym e ∙ f in absurd cc
one_of_pick slot pick boxes (first.unchecked row p e) (first.unchecked other q f) = refl

one_of_proof : (slot : Option Slot) (proof : Proof) {a b : ℕ} → IsBadProof slot proof a → IsBadProof slot proof b → a ≡ b
one_of_proof None proof p q = absurd p
one_of_proof (Some slot) (Built pick boxes) p q = one_of_pick slot pick boxes p q
one_of_proof (Some slot) (Tree Refuted tree) p q = p.line_is ∙ ap (λ n. 4 + n) (one_at slot p.bad q.bad) ∙ sym q.line_is

pub one_bad_line : (problem : Problem) (cert : Cert) (a b : ℕ) → IsWellMade problem → IsFirstBad problem cert a → IsFirstBad problem cert b → a ≡ b
one_bad_line problem cert a b made (first.in_proof p) (first.in_proof q) = one_of_proof problem.slot cert.proof p q
one_bad_line problem cert a b made (first.in_proof p) (first.steps right few) = absurd (bad_proof problem.slot cert.proof a made p right)
one_bad_line problem cert a b made (first.steps right few) (first.in_proof q) = absurd (bad_proof problem.slot cert.proof b made q right)
one_bad_line problem cert a b made (first.steps right few) (first.steps other more) = refl
