use Rattle.std.proofs.Common.{arith}
use Rattle.ato_build.proofs.PrintLemmas.{appends_rest, rest_within, not_risen}
use Rattle.ato_build.proofs.printing.print.Goals as goal

pub loop-at-preserved : goal.loop-at-preserved
loop-at-preserved g c = record {
  within = rest_within c.args.text.now c.loop-at.at c.in-Ok.count c.loop-at.invariant.within c.in-Ok.ensures.bound;
  told = appends_rest (g.O.Sink.written c.args.out.now) (g.O.Sink.written c.loop-at.out) (g.O.Sink.written c.write.new.self) c.args.text.now c.loop-at.at c.in-Ok.count c.loop-at.invariant.told c.in-Ok.ensures.told;
  later = omega (arith, c.in-Ok.ensures.faults.later, c.loop-at.invariant.later);
  whole = omega (arith, not_risen _ _ _ c.in-Ok.ensures.faults (λ f. c.if-count-eq0.false f.0), c.loop-at.invariant.whole);
}
