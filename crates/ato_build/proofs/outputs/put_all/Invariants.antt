use Rattle.std.proofs.Common.{◌≡◌}
use Rattle.std.specs.Prelude.{None}
use Rattle.ato_build.specs.Outputs.{PutsInOrder}
use Rattle.ato_build.proofs.outputs.put_all.Given as goal

abbrev pub invariant-loop-output : goal.invariant-loop-output
invariant-loop-output g l = record {
  put : PutsInOrder (g.T.Tray.files l.fn.tray) (g.T.Tray.files l.tray) l.yielded None;
  count : g.T.Tray.faults l.tray ≡ g.T.Tray.faults l.fn.tray;
}
