use Rattle.std.proofs.Common.{◌≡◌, ◌+◌, ◌*◌, ◌-◌}
use Rattle.ato_base.specs.declared.keywords.Mark.TheVariants as marks
use Rattle.ato_parser.specs.Depths as depths
use Rattle.ato_parser.specs.Input.{many, turns}
use Rattle.ato_parser.specs.Kinds.{is_mark, scale_of, sign_of}
use Rattle.ato_parser.specs.Reading.{has}
use Rattle.ato_parser.proofs.exprs.+expr.Given as goal

abbrev pub decreases-inside : goal.decreases-inside
decreases-inside l = 16 * l.depth

abbrev pub decreases-operands : goal.decreases-operands
decreases-operands l = 16 * l.depth + 1

abbrev pub decreases-group : goal.decreases-group
decreases-group l = 16 * l.depth + 2

abbrev pub decreases-absolute : goal.decreases-absolute
decreases-absolute l = 16 * l.depth + 2

abbrev pub decreases-chosen : goal.decreases-chosen
decreases-chosen l = 16 * l.depth + 2

abbrev pub decreases-called : goal.decreases-called
decreases-called l = 16 * l.depth + 3

abbrev pub decreases-named_atom : goal.decreases-named_atom
decreases-named_atom l = 16 * l.depth + 4

abbrev pub decreases-atom : goal.decreases-atom
decreases-atom l = 16 * l.depth + 5

abbrev pub decreases-power : goal.decreases-power
decreases-power l = 16 * l.depth + 6

abbrev pub decreases-factors : goal.decreases-factors
decreases-factors l = 16 * l.depth + 7

abbrev pub decreases-product : goal.decreases-product
decreases-product l = 16 * l.depth + 8

abbrev pub decreases-terms : goal.decreases-terms
decreases-terms l = 16 * l.depth + 9

abbrev pub decreases-sum : goal.decreases-sum
decreases-sum l = 16 * l.depth + 10

abbrev pub invariant-operands-loop-turn : goal.invariant-operands-loop-turn
invariant-operands-loop-turn l =
    many (is_mark marks.Comma) (depths.operand l.depth) l.fn.tokens ≡ turns (is_mark marks.Comma) (depths.operand l.depth) (l._turn-end - l._turn) l.more l.tokens

abbrev pub invariant-factors-loop-turn : goal.invariant-factors-loop-turn
invariant-factors-loop-turn l =
    many (has scale_of) (depths.factor l.depth) l.fn.tokens ≡ turns (has scale_of) (depths.factor l.depth) (l._turn-end - l._turn) l.more l.tokens

abbrev pub invariant-terms-loop-turn : goal.invariant-terms-loop-turn
invariant-terms-loop-turn l =
    many (has sign_of) (depths.term l.depth) l.fn.tokens ≡ turns (has sign_of) (depths.term l.depth) (l._turn-end - l._turn) l.more l.tokens
