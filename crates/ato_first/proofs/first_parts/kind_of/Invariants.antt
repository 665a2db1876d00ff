use Rattle.std.proofs.Common.{◌≡◌, drop}
use Rattle.ato_first.specs.PartLines.{kind_of}
use Rattle.ato_first.proofs.first_parts.kind_of.Given as goal

abbrev pub invariant-loop-line : goal.invariant-loop-line
invariant-loop-line l = kind_of (drop l.line-index l.lines) ≡ kind_of l.lines
