use Rattle.ato_rational.proofs.Order.{≤ℚ_trans, clash_ℚ}
use Rattle.ato_interval.proofs.TargetLaws.{range_told}
use Rattle.ato_interval.proofs.interval.Interval.meets_range.Goals as goal

pub returns-in-Some : goal.returns-in-Some
returns-in-Some g c =
    range_told g.Q.Exact.value c.meets.result c.args.self.now c.in-Some.o c.args.range.now.0 c.args.range.now.1
    c.in-Some.ensures.1
    c.in-Some.ensures.2
    c.meets.ensures

pub returns-in-None : goal.returns-in-None
returns-in-None g c = λ x w v. clash_ℚ c.in-None.ensures (≤ℚ_trans v.above v.below)
