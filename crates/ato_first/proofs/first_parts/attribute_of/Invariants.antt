use Rattle.std.proofs.Common.{◌≡◌, drop}
use Rattle.ato_first.specs.PartLines.{attribute_of}
use Rattle.ato_first.proofs.first_parts.attribute_of.Given as goal

abbrev pub invariant-loop-line : goal.invariant-loop-line
invariant-loop-line l = attribute_of (drop l.line-index l.lines) ≡ attribute_of l.lines
