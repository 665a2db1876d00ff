use Rattle.std.proofs.Common.{◌≡◌, ◌-◌}
use Rattle.ato_parser.specs.Input.{turns}
use Rattle.ato_parser.specs.Parts.{more_of}
use Rattle.ato_parser.specs.Reading.{starts_stmt}
use Rattle.ato_parser.specs.FileReading.{stmts_line}
use Rattle.ato_parser.proofs.blocks.more_lines.Given as goal

abbrev pub invariant-loop-turn : goal.invariant-loop-turn
invariant-loop-turn l = more_of starts_stmt (stmts_line l.depth) l.fn.first l.fn.tokens ≡ turns starts_stmt (stmts_line l.depth) (l._turn-end - l._turn) l.found l.tokens
