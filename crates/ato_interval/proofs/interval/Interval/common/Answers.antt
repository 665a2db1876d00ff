use Rattle.ato_interval.proofs.OverlapLaws.{common_told}
use Rattle.ato_interval.proofs.interval.Interval.common.Goals as goal

pub returns : goal.returns
returns g c =
    rw (← c.self.view_is, ← c.o.view_is)
    (common_told g.Q.Exact.value _ _ _ _
    c.greater-low.ensures.left
    c.greater-low.ensures.right
    c.greater-low.ensures.one
    c.lesser-high.ensures.left
    c.lesser-high.ensures.right
    c.lesser-high.ensures.one
    _
    c.new.ensures)
