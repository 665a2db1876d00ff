use Rattle.std.proofs.Common.{◌≡◌, drop}
use Rattle.ato_first.specs.PartLines.{assertion_of}
use Rattle.ato_first.proofs.first_parts.assertion_of.Given as goal

abbrev pub invariant-loop-line : goal.invariant-loop-line
invariant-loop-line l = assertion_of (drop l.line-index l.lines) ≡ assertion_of l.lines
