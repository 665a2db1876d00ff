use Rattle.std.proofs.Common.{◌≤◌, ◌-◌, length, take}
use Rattle.ato_build.specs.Printing.{Appends}
use Rattle.ato_build.proofs.printing.print.Given as goal

abbrev pub invariant-loop-at : goal.invariant-loop-at
invariant-loop-at g l = record {
  within : l.at ≤ length l.text;
  told : Appends (g.O.Sink.written l.fn.out) (g.O.Sink.written l.out) (take l.at l.text);
  later : g.O.Sink.faults l.fn.out ≤ g.O.Sink.faults l.out;
  whole : g.O.Sink.faults l.out ≤ g.O.Sink.faults l.fn.out;
}

abbrev pub decreases-loop-at : goal.decreases-loop-at
decreases-loop-at g l = length l.text - l.at
