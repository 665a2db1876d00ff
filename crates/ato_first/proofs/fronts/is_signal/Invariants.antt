use Rattle.std.proofs.Common.{◌≡◌, ◌++◌, List, length, true}
use Rattle.std.specs.List.{list_all}
use Rattle.ato_first.specs.FirstForm.{is_line, lines_text}
use Rattle.ato_first.specs.PartLines.{is_signal}
use Rattle.ato_first.specs.declared.first_form.Line.{Line}
use Rattle.ato_first.proofs.fronts.is_signal.Given as goal

abbrev pub invariant-loop-statement : goal.invariant-loop-statement
invariant-loop-statement l =
    (lines : List Line) × (list_all is_line lines ≡ true) × (l.bytes ≡ lines_text lines ++ l.rest) × (l.found ≡ is_signal lines l.name)

abbrev pub decreases-loop-statement : goal.decreases-loop-statement
decreases-loop-statement l = length l.rest
