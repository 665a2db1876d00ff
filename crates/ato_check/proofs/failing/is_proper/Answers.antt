use Rattle.std.proofs.Common.{refl, sym, ◌∙◌}
use Rattle.std.proofs.lemmas.Bool.{false≢true}
use Rattle.ato_rational.proofs.Order.{≈ℚ-≤ℚ, ≈ℚ_sym, <ℚ-≤ℚ_trans, ≤ℚ-<ℚ_trans}
use Rattle.ato_check.proofs.failing.is_proper.Goals as goal

pub returns-then-is_below : goal.returns-then-is_below
returns-then-is_below c = (
  λ h. (
    ≤ℚ-<ℚ_trans (≈ℚ-≤ℚ (≈ℚ_sym c.zero.ensures)) (c.if-is_below.ensures.0 refl),
    <ℚ-≤ℚ_trans (c.is_below-then-is_below.ensures.0 h) (≈ℚ-≤ℚ c.one.ensures),
  ),
  λ p. c.is_below-then-is_below.ensures.1 (<ℚ-≤ℚ_trans p.1 (≈ℚ-≤ℚ (≈ℚ_sym c.one.ensures))),
)

pub returns-else-is_below : goal.returns-else-is_below
returns-else-is_below c = (
  λ h. absurd (false≢true (sym c.if-is_below.false ∙ h)),
  λ p. c.is_below.ensures.1 (≤ℚ-<ℚ_trans (≈ℚ-≤ℚ c.zero.ensures) p.0),
)
