use Rattle.std.proofs.Common.{rules, arith, [], ◌∷◌}
use Rattle.std.proofs.lemmas.Grind.{common_steps}
use Rattle.ato_base.specs.declared.keywords.Mark.TheVariants as marks
use Rattle.ato_parser.specs.Input.{one, ended}
use Rattle.ato_parser.specs.Kinds.{integer_of}
use Rattle.ato_parser.specs.Reading as spec
use Rattle.ato_parser.proofs.TurnLemmas.{ended_more, ended_last, ended_end, ended_out, begins_still, rest_grows}
use Rattle.ato_parser.proofs.paths.steps.Goals as goal

pub loop-turn-init : goal.loop-turn-init
unfolding ended
loop-turn-init c = first_of (search rules, grind (arith, common_steps))

pub returns-then-not-eat : goal.returns-then-not-eat
returns-then-not-eat c =
    let e = ended_end marks.Dot spec.is_name spec.name (one integer_of) _ _ _ c.loop-turn.invariant.same (search rules) in
    let b = c.loop-turn.invariant.begins in
    first_of (search rules, grind (arith, common_steps))

pub returns-in_err-pin : goal.returns-in_err-pin
returns-in_err-pin c =
    let e = ended_last marks.Dot spec.is_name spec.name (one integer_of) _ _ _ _ c.loop-turn.invariant.same c.loop-turn-test.true (search rules) (search rules) in
    first_of (search rules, grind (arith, common_steps))

pub returns-then-not-is_name : goal.returns-then-not-is_name
returns-then-not-is_name c =
    let e = ended_last marks.Dot spec.is_name spec.name (one integer_of) _ _ _ _ c.loop-turn.invariant.same c.loop-turn-test.true (search rules) (search rules) in
    let b = c.loop-turn.invariant.begins in
    first_of (search rules, grind (arith, common_steps))

pub returns-in_err-name : goal.returns-in_err-name
returns-in_err-name c =
    let e = ended_more marks.Dot spec.is_name spec.name (one integer_of) _ _ _ _ c.loop-turn.invariant.same c.loop-turn-test.true (search rules) (search rules) in
    first_of (search rules, grind (arith, common_steps))

pub loop-turn-preserved : goal.loop-turn-preserved
loop-turn-preserved c =
    let e = ended_more marks.Dot spec.is_name spec.name (one integer_of) _ _ _ _ c.loop-turn.invariant.same c.loop-turn-test.true (search rules) (search rules) in
    let b = begins_still _ _ (c.in_ok-name.field-0 ∷ []) c.loop-turn.invariant.begins in
    let g = rest_grows _ _ (c.in_ok-name.field-0 ∷ []) c.loop-turn.invariant.begins in
    first_of (search rules, grind (arith, common_steps))

pub returns : goal.returns
returns c =
    let e = ended_out marks.Dot spec.is_name spec.name (one integer_of) _ _ _ _ c.loop-turn.invariant.same c.loop-turn-test.false in
    let b = c.loop-turn.invariant.begins in
    first_of (search rules, grind (arith, common_steps))
