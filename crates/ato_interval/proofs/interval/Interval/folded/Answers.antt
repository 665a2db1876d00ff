use Rattle.std.proofs.Common.{refl}
use Rattle.ato_rational.proofs.Order.{≤ℚ_trans, <ℚ-≤ℚ, ≈ℚ-≤ℚ, ≈ℚ_sym}
use Rattle.ato_interval.specs.Folds.{rising, falling, around}
use Rattle.ato_interval.proofs.interval.Interval.folded.Goals as goal

pub invariant_of-result : goal.invariant_of-result
invariant_of-result g c =
    (rw (← c.self.view_is) at c.requires.rises) (≤ℚ_trans (≈ℚ-≤ℚ (≈ℚ_sym c.requires.is_zero)) c.if-at_most.ensures)

pub returns-then-at_most : goal.returns-then-at_most
returns-then-at_most g c =
    rw (← c.self.view_is) (rising (≤ℚ_trans (≈ℚ-≤ℚ (≈ℚ_sym c.requires.is_zero)) c.if-at_most.ensures) refl refl)

pub invariant_of-result-then-at_most-2 : goal.invariant_of-result-then-at_most-2
invariant_of-result-then-at_most-2 g c =
    (rw (← c.self.view_is) at c.requires.falls) (≤ℚ_trans c.if-at_most-2.ensures (≈ℚ-≤ℚ c.requires.is_zero))

pub returns-then-at_most-2 : goal.returns-then-at_most-2
returns-then-at_most-2 g c =
    rw (← c.self.view_is) (falling (≤ℚ_trans c.if-at_most-2.ensures (≈ℚ-≤ℚ c.requires.is_zero)) refl refl)

pub invariant_of-result-2 : goal.invariant_of-result-2
invariant_of-result-2 g c =
    ≤ℚ_trans (≈ℚ-≤ℚ c.requires.is_zero) (≤ℚ_trans c.requires.not_negative c.greater.ensures.left)

pub returns : goal.returns
returns g c =
    rw (← c.self.view_is)
    (around
    (≤ℚ_trans (<ℚ-≤ℚ c.if-at_most.ensures) (≈ℚ-≤ℚ c.requires.is_zero))
    (≤ℚ_trans (≈ℚ-≤ℚ (≈ℚ_sym c.requires.is_zero)) (<ℚ-≤ℚ c.if-at_most-2.ensures))
    c.requires.is_zero
    c.greater.ensures.left
    c.greater.ensures.right
    c.greater.ensures.one)
