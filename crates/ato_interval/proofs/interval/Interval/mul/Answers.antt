use Rattle.ato_rational.specs.Rational.{◌*ℚ◌}
use Rattle.ato_rational.proofs.Order.{IsWithin-same}
use Rattle.ato_rational.proofs.Products.{product_within}
use Rattle.ato_interval.proofs.ResultLaws.{low_low, low_high, high_low, high_high, one_of_four}
use Rattle.ato_interval.proofs.interval.Interval.mul.Goals as goal

pub returns-clause-holds : goal.returns-clause-holds
returns-clause-holds g c =
    rw (← c.self.view_is, ← c.o.view_is) (λ x y v w.
    product_within _ _ _ _ _ _ x y
    (record {
      low_low = IsWithin-same c.in-Some.ensures.1 c.around.ensures.first;
      low_high = IsWithin-same c.in-Some-times.ensures.1 c.around.ensures.second;
      high_low = IsWithin-same c.in-Some-times-2.ensures.1 c.around.ensures.third;
      high_high = IsWithin-same c.in-Some-times-3.ensures.1 c.around.ensures.fourth;
    })
    v
    w)

pub returns-clause-low_is : goal.returns-clause-low_is
returns-clause-low_is g c =
    rw (← c.self.view_is, ← c.o.view_is)
    (one_of_four g.Q.Exact.value ◌*ℚ◌ _ _ _ _ _ _ _
    (low_low g.Q.Exact.value ◌*ℚ◌ _ _ c.self.invariant c.o.invariant _ c.in-Some.ensures.1)
    (low_high g.Q.Exact.value ◌*ℚ◌ _ _ c.self.invariant c.o.invariant _ c.in-Some-times.ensures.1)
    (high_low g.Q.Exact.value ◌*ℚ◌ _ _ c.self.invariant c.o.invariant _ c.in-Some-times-2.ensures.1)
    (high_high g.Q.Exact.value ◌*ℚ◌ _ _ c.self.invariant c.o.invariant _ c.in-Some-times-3.ensures.1)
    c.around.ensures.low_is)

pub returns-clause-high_is : goal.returns-clause-high_is
returns-clause-high_is g c =
    rw (← c.self.view_is, ← c.o.view_is)
    (one_of_four g.Q.Exact.value ◌*ℚ◌ _ _ _ _ _ _ _
    (low_low g.Q.Exact.value ◌*ℚ◌ _ _ c.self.invariant c.o.invariant _ c.in-Some.ensures.1)
    (low_high g.Q.Exact.value ◌*ℚ◌ _ _ c.self.invariant c.o.invariant _ c.in-Some-times.ensures.1)
    (high_low g.Q.Exact.value ◌*ℚ◌ _ _ c.self.invariant c.o.invariant _ c.in-Some-times-2.ensures.1)
    (high_high g.Q.Exact.value ◌*ℚ◌ _ _ c.self.invariant c.o.invariant _ c.in-Some-times-3.ensures.1)
    c.around.ensures.high_is)
