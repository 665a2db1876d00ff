use Rattle.std.proofs.Common.{◌≡◌, ◌-◌}
use Rattle.ato_parser.specs.Parts.{parts_of}
use Rattle.ato_parser.proofs.LineParts.{tailed, rest_from}
use Rattle.ato_parser.proofs.lines.parts.Given as goal

abbrev pub invariant-loop-turn : goal.invariant-loop-turn
invariant-loop-turn g l = parts_of g.P.LinePart.starts (g.P.LinePart.reader l.depth) l.fn.first l.fn.tokens ≡ tailed (rest_from g.P.LinePart.starts (g.P.LinePart.reader l.depth) (l._turn-end - l._turn) l.found l.tokens)
