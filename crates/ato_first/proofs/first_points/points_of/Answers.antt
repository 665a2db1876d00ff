use Rattle.std.proofs.Common.{◌∙◌, ap, sym, []}
use Rattle.ato_first.specs.FirstPoints.{signal_names, pin_labels, line_points, lines_points}
use Rattle.ato_base.specs.NameTable.{with_names}
use Rattle.ato_first.proofs.FirstPointLemmas.{signals_more, pins_more, all_lines}
use Rattle.ato_nets.proofs.DistinctLaws.{all_mentioned}
use Rattle.ato_first.proofs.first_points.points_of.Goals as goal

pub loop-line-preserved : goal.loop-line-preserved
loop-line-preserved c = record {
  signals = c.in_ok-insert_line.ensures.signals
      ∙ ap (λ names. with_names names (signal_names (line_points c.line-item.result))) c.loop-line.invariant.signals
      ∙ sym (signals_more c.args.lines.now c.loop-line.line-index c.line-item.result c.loop-line-test.true c.line-item.is);
  pins = c.in_ok-insert_line.ensures.pins
      ∙ ap (λ names. with_names names (pin_labels (line_points c.line-item.result))) c.loop-line.invariant.pins
      ∙ sym (pins_more c.args.lines.now c.loop-line.line-index c.line-item.result c.loop-line-test.true c.line-item.is);
}

pub returns-clause-signals : goal.returns-clause-signals
returns-clause-signals c = c.loop-line.invariant.signals ∙ ap (λ l. with_names [] (signal_names (lines_points l))) (all_lines c.args.lines.now c.loop-line.line-index c.loop-line-test.false) ∙ all_mentioned (signal_names (lines_points c.args.lines.now))

pub returns-clause-pins : goal.returns-clause-pins
returns-clause-pins c = c.loop-line.invariant.pins ∙ ap (λ l. with_names [] (pin_labels (lines_points l))) (all_lines c.args.lines.now c.loop-line.line-index c.loop-line-test.false) ∙ all_mentioned (pin_labels (lines_points c.args.lines.now))
