use Rattle.std.proofs.lemmas.Bool.{false≢true}
use Rattle.ato_check.proofs.HullLaws.{fails_since, outside_since, hull_since}
use Rattle.ato_check.proofs.failing.fails_at.Goals as goal

pub returns-in-Some : goal.returns-in-Some
returns-in-Some c = (
  λ fails. fails_since c.args.slot.now c.args.rows.now c.args.t.now c.in-Some.hull.least c.in-Some.hull.greatest c.in-Some.ensures (c.lies_outside.ensures.0 fails),
  λ fails. c.lies_outside.ensures.1 (outside_since c.args.slot.now c.args.rows.now c.args.t.now c.in-Some.hull.least c.in-Some.hull.greatest c.in-Some.ensures fails),
)

pub returns-in-None : goal.returns-in-None
returns-in-None c = (
  λ fails. absurd (false≢true fails),
  λ fails. absurd (c.in-None.ensures fails.least fails.greatest (hull_since fails)),
)
