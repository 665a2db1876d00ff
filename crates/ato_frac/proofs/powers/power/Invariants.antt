use Rattle.ato_rational.specs.Rational.{◌≈ℚ◌, power_ℚ}
use Rattle.ato_frac.specs.Powers.{CanRaise}
use Rattle.ato_frac.proofs.powers.power.Given as goal

-- the power so far is that of the counter
abbrev pub invariant-factors : goal.invariant-factors
invariant-factors g l = record {
  raised : CanRaise g.Q.Exact.value g.Q.Exact.can_multiply l.x l.counter;
  is_power : g.Q.Exact.value l.power ≈ℚ power_ℚ (g.Q.Exact.value l.x) l.counter;
}
