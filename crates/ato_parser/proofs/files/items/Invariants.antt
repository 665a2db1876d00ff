use Rattle.std.proofs.Common.{◌≡◌, ◌-◌}
use Rattle.ato_parser.specs.Input.{many, turns}
use Rattle.ato_parser.specs.FileReading.{starts_item, item}
use Rattle.ato_parser.proofs.files.items.Given as goal

abbrev pub invariant-loop-turn : goal.invariant-loop-turn
invariant-loop-turn l = many starts_item (item l.depth) l.fn.tokens ≡ turns starts_item (item l.depth) (l._turn-end - l._turn) l.found l.tokens
