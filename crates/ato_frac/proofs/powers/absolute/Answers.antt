use Rattle.ato_rational.proofs.Order.{<ℚ-≤ℚ}
use Rattle.ato_frac.proofs.PowerLaws.{abs_of_above, abs_of_below, not_below, turned}
use Rattle.ato_frac.proofs.powers.absolute.Goals as goal

pub returns-then-at_most : goal.returns-then-at_most
returns-then-at_most g c = (
  not_below g.Q.Exact.value g.Q.Exact.can_subtract c.zero-zero.result _ c.zero-zero.ensures c.if-at_most.ensures,
  abs_of_above _ _ c.zero-zero.ensures c.if-at_most.ensures,
)

pub returns-in_ok-minus : goal.returns-in_ok-minus
returns-in_ok-minus g c = (
  turned g.Q.Exact.value g.Q.Exact.can_subtract c.zero-zero.result _ c.zero-zero.ensures g.met.Q.Exact.one_of_value c.in_ok-minus.ensures.0,
  abs_of_below _ _ _ c.zero-zero.ensures (<ℚ-≤ℚ c.if-at_most.ensures) c.in_ok-minus.ensures.1,
)
