use Rattle.std.proofs.Common.{◌≡◌, [], take}
use Rattle.ato_first.specs.FirstPoints.{signal_names, pin_labels, lines_points}
use Rattle.ato_base.specs.NameTable.{with_names}
use Rattle.ato_first.proofs.first_points.points_of.Given as goal

abbrev pub invariant-loop-line : goal.invariant-loop-line
invariant-loop-line l = record {
  signals : l.points.signals ≡ with_names [] (signal_names (lines_points (take l.line-index l.lines)));
  pins : l.points.pins ≡ with_names [] (pin_labels (lines_points (take l.line-index l.lines)));
}
