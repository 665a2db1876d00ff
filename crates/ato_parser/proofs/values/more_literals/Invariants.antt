use Rattle.std.proofs.Common.{◌≡◌, ◌-◌}
use Rattle.ato_base.specs.declared.keywords.Mark.TheVariants as marks
use Rattle.ato_parser.specs.Kinds.{is_mark}
use Rattle.ato_parser.specs.Input.{turns, mark, ◌>>◌}
use Rattle.ato_parser.specs.Parts.{more_behind}
use Rattle.ato_parser.specs.Reading as spec
use Rattle.ato_parser.proofs.values.more_literals.Given as goal

abbrev pub invariant-loop-turn : goal.invariant-loop-turn
invariant-loop-turn l = more_behind marks.Bar spec.literal l.fn.first l.fn.tokens ≡ turns (is_mark marks.Bar) (mark marks.Bar >> spec.literal) (l._turn-end - l._turn) l.found l.tokens
