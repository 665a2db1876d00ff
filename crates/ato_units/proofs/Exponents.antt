-- Exponents that are worked out one after the other.
use Rattle.std.proofs.Common.{◌≡◌, ℕ, ◌+◌, ◌<◌, ℤ, pos, List, length, subst, sym, ◌∙◌, arith}
use Rattle.std.specs.Prelude.{slice_set}
use Rattle.std.proofs.lemmas.Int.{to_z-of_z, ints}
use Rattle.std.proofs.Common.{get_or-set_same, get_or-set_other, length-set}
use borrow.Author.Count.{below_more}
use mir.Val.{to_z, of_z}
use mir.Syntax.{w8}
use Rattle.ato_units.specs.Exponents.{exponent, IsExponent, AreExponents}

stored : (z : ℤ) → IsExponent z → to_z w8 (of_z w8 z) ≡ z
stored z h = to_z-of_z w8 z (omega (arith, ints))

pub one_more : (e : ℕ → ℤ) (xs : List ℤ) (i : ℕ) (z : ℤ) → i < 7 → (length xs ≡ 7) × AreExponents e i xs → IsExponent (e i) × (z ≡ e i) → (length (slice_set xs i (to_z w8 (of_z w8 z))) ≡ 7) × AreExponents e (i + 1) (slice_set xs i (to_z w8 (of_z w8 z)))
one_more e xs i z b h g = (
  length-set xs i (to_z w8 (of_z w8 z)) ∙ h.0,
  (let after = slice_set xs i (to_z w8 (of_z w8 z)) in
      let fits : IsExponent z = subst IsExponent (sym g.1) g.0 in
      below_more (λ (k : ℕ). IsExponent (e k) × (exponent after k ≡ e k)) i
      (λ k l. ((h.1 k l).0, get_or-set_other xs i k (to_z w8 (of_z w8 z)) (pos 0) (λ s. omega arith) ∙ (h.1 k l).1))
      (g.0, get_or-set_same xs i (to_z w8 (of_z w8 z)) (pos 0) (omega (arith, h.0)) ∙ stored z fits ∙ g.1)),
)
