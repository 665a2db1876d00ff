use Rattle.std.proofs.Common.{◌<◌, length, arith}
use Rattle.ato_expr.proofs.table.ExprTable.takes.Goals as goal

pub returns : goal.returns
returns c = (
  λ t. record {
    nodes = λ n h. let below : n < c.count-count.result = c.are_below.ensures.0 t n h in omega (arith, c.count-count.ensures.count);
    fits = c.fits.ensures.0 c.if-not-fits.false;
    room = omega (arith, c.count-count.ensures.count, c.count-count.type_inv);
  },
  λ p. c.are_below.ensures.1 (λ n h. let below : n < length c.args.self.now = p.nodes n h in omega (arith, c.count-count.ensures.count)),
)
