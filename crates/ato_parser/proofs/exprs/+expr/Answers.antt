use Rattle.std.proofs.Common.{rules, arith}
use Rattle.std.proofs.lemmas.Grind.{common_steps}
use Rattle.ato_base.specs.declared.keywords.Mark.TheVariants as marks
use Rattle.ato_parser.specs.Depths as depths
use Rattle.ato_parser.specs.Input.{many}
use Rattle.ato_parser.specs.Kinds.{is_mark, scale_of, sign_of}
use Rattle.ato_parser.specs.Reading.{has, sum_over}
use Rattle.ato_parser.proofs.DepthLemmas.{sum_is}
use Rattle.ato_parser.proofs.TurnLemmas.{many_more, many_end, many_out}
use Rattle.ato_parser.proofs.exprs.+expr.Goals as goal

pub operands-loop-turn-init : goal.operands-loop-turn-init
unfolding many
operands-loop-turn-init t c = first_of (search rules, grind (arith, common_steps))

pub operands-returns-then-not-eat : goal.operands-returns-then-not-eat
operands-returns-then-not-eat t c =
    let e = many_end (is_mark marks.Comma) (depths.operand c.args.depth) _ _ _ c.loop-turn.invariant (search rules) in
    first_of (search rules, grind (arith, common_steps))

pub operands-returns-in_err-operand : goal.operands-returns-in_err-operand
operands-returns-in_err-operand t c =
    let e = many_more (is_mark marks.Comma) (depths.operand c.args.depth) _ _ _ _ c.loop-turn.invariant c.loop-turn-test.true (search rules) in
    first_of (search rules, grind (arith, common_steps))

pub operands-loop-turn-preserved : goal.operands-loop-turn-preserved
operands-loop-turn-preserved t c =
    let e = many_more (is_mark marks.Comma) (depths.operand c.args.depth) _ _ _ _ c.loop-turn.invariant c.loop-turn-test.true (search rules) in
    first_of (search rules, grind (arith, common_steps))

pub operands-returns : goal.operands-returns
operands-returns t c =
    let e = many_out (is_mark marks.Comma) (depths.operand c.args.depth) _ _ _ _ c.loop-turn.invariant c.loop-turn-test.false in
    first_of (search rules, grind (arith, common_steps))

pub factors-loop-turn-init : goal.factors-loop-turn-init
unfolding many
factors-loop-turn-init t c = first_of (search rules, grind (arith, common_steps))

pub factors-returns-in_default : goal.factors-returns-in_default
factors-returns-in_default t c =
    let e = many_end (has scale_of) (depths.factor c.args.depth) _ _ _ c.loop-turn.invariant (search rules) in
    first_of (search rules, grind (arith, common_steps))

pub factors-returns-in_err-operand : goal.factors-returns-in_err-operand
factors-returns-in_err-operand t c =
    let e = many_more (has scale_of) (depths.factor c.args.depth) _ _ _ _ c.loop-turn.invariant c.loop-turn-test.true (search rules) in
    first_of (search rules, grind (arith, common_steps))

pub factors-loop-turn-preserved : goal.factors-loop-turn-preserved
factors-loop-turn-preserved t c =
    let e = many_more (has scale_of) (depths.factor c.args.depth) _ _ _ _ c.loop-turn.invariant c.loop-turn-test.true (search rules) in
    first_of (search rules, grind (arith, common_steps))

pub factors-returns : goal.factors-returns
factors-returns t c =
    let e = many_out (has scale_of) (depths.factor c.args.depth) _ _ _ _ c.loop-turn.invariant c.loop-turn-test.false in
    first_of (search rules, grind (arith, common_steps))

pub terms-loop-turn-init : goal.terms-loop-turn-init
unfolding many
terms-loop-turn-init t c = first_of (search rules, grind (arith, common_steps))

pub terms-returns-in_default : goal.terms-returns-in_default
terms-returns-in_default t c =
    let e = many_end (has sign_of) (depths.term c.args.depth) _ _ _ c.loop-turn.invariant (search rules) in
    first_of (search rules, grind (arith, common_steps))

pub terms-returns-in_err-operand : goal.terms-returns-in_err-operand
terms-returns-in_err-operand t c =
    let e = many_more (has sign_of) (depths.term c.args.depth) _ _ _ _ c.loop-turn.invariant c.loop-turn-test.true (search rules) in
    first_of (search rules, grind (arith, common_steps))

pub terms-loop-turn-preserved : goal.terms-loop-turn-preserved
terms-loop-turn-preserved t c =
    let e = many_more (has sign_of) (depths.term c.args.depth) _ _ _ _ c.loop-turn.invariant c.loop-turn-test.true (search rules) in
    first_of (search rules, grind (arith, common_steps))

pub terms-returns : goal.terms-returns
terms-returns t c =
    let e = many_out (has sign_of) (depths.term c.args.depth) _ _ _ _ c.loop-turn.invariant c.loop-turn-test.false in
    first_of (search rules, grind (arith, common_steps))

pub sum-returns-in_err-first : goal.sum-returns-in_err-first
unfolding sum_over
sum-returns-in_err-first t c =
    let e = sum_is c.args.depth c.args.tokens.now in
    first_of (search rules, grind (arith, common_steps))

pub sum-returns-in_err-more : goal.sum-returns-in_err-more
unfolding sum_over
sum-returns-in_err-more t c =
    let e = sum_is c.args.depth c.args.tokens.now in
    first_of (search rules, grind (arith, common_steps))

pub sum-returns : goal.sum-returns
unfolding sum_over
sum-returns t c =
    let e = sum_is c.args.depth c.args.tokens.now in
    first_of (search rules, grind (arith, common_steps))
