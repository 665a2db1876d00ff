use Rattle.std.proofs.Common.{◌≡◌, ◌+◌, false, take, length}
use Rattle.std.specs.List.{list_any}
use Rattle.ato_first.specs.FirstForm.{lines_text}
use Rattle.ato_first.proofs.first_lines.first_line.Given as goal

abbrev pub invariant-loop-line : goal.invariant-loop-line
invariant-loop-line g l = record {
  none : list_any (g.T.LineTest.test l.test) (take l.line-index l.lines) ≡ false;
  place : l.at ≡ l.start + length (lines_text (take l.line-index l.lines));
}
