use Rattle.std.proofs.Common.{◌∙◌, ap}
use Rattle.ato_first.specs.PartLines.{attribute_of}
use Rattle.ato_nets.specs.Distinct.{distinct}
use Rattle.ato_first.specs.FirstPoints.{signal_names, lines_points}
use Rattle.ato_first.proofs.LineFaultLemmas.{unknown_found}
use Rattle.ato_first.proofs.line_faults.unknown_line.Goals as goal

pub returns : goal.returns
returns c = unknown_found c.args.block.now c.as_slice-lines.result.now c.in_ok-points.points.signals _ c.lines_start.result c.in-Some.at
    c.as_slice-lines.ensures (c.in_ok-points.ensures.signals ∙ ap (λ l. distinct (signal_names (lines_points l))) c.as_slice-lines.ensures)
    (c.attribute_of.ensures ∙ ap attribute_of c.as_slice-lines.ensures)
    c.lines_start.ensures c.in-Some.ensures
