use Rattle.std.proofs.Common.{◌≡◌, ◌-◌}
use Rattle.ato_base.specs.declared.keywords.Mark.TheVariants as marks
use Rattle.ato_parser.specs.Kinds.{is_mark}
use Rattle.ato_parser.specs.Input.{turns, mark, ◌>>◌}
use Rattle.ato_parser.specs.Parts.{more_behind}
use Rattle.ato_parser.specs.Reading as spec
use Rattle.ato_parser.proofs.heads.more_names.Given as goal

abbrev pub invariant-loop-turn : goal.invariant-loop-turn
invariant-loop-turn l = more_behind marks.Comma spec.name l.fn.first l.fn.tokens ≡ turns (is_mark marks.Comma) (mark marks.Comma >> spec.name) (l._turn-end - l._turn) l.found l.tokens
