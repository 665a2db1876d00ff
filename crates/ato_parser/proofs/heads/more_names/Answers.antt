use Rattle.std.proofs.Common.{rules, arith}
use Rattle.std.proofs.lemmas.Grind.{common_steps}
use Rattle.ato_base.specs.declared.keywords.Mark.TheVariants as marks
use Rattle.ato_parser.specs.Kinds.{is_mark}
use Rattle.ato_parser.specs.Input.{mark, ◌>>◌}
use Rattle.ato_parser.specs.Reading as spec
use Rattle.ato_parser.proofs.TurnLemmas.{many_end, many_out}
use Rattle.ato_parser.proofs.Repeats.{begins, marked_more}
use Rattle.ato_parser.proofs.heads.more_names.Goals as goal
use Rattle.ato_parser.proofs.heads.more_names.Goals.{else-loop-turn-test, then-loop-turn-test+then-not-eat}

pub loop-turn-init : goal.loop-turn-init
loop-turn-init c =
    let e = begins (is_mark marks.Comma) (mark marks.Comma >> spec.name) c.args.first c.args.tokens.now in
    first_of (search (rules, e), grind (arith, common_steps, e))

pub returns-in_err-next : goal.returns-in_err-next
returns-in_err-next c =
    let e = marked_more marks.Comma spec.name _ c.loop-turn._turn c.loop-turn.found c.loop-turn.tokens c.loop-turn.invariant c.loop-turn-test.true in
    first_of (search (rules, e), grind (arith, common_steps, e))

pub loop-turn-preserved : goal.loop-turn-preserved
loop-turn-preserved c =
    let e = marked_more marks.Comma spec.name _ c.loop-turn._turn c.loop-turn.found c.loop-turn.tokens c.loop-turn.invariant c.loop-turn-test.true in
    first_of (search (rules, e), grind (arith, common_steps, e))

pub returns : goal.returns
returns c =
    elim c.loop-turn-test.branch [
      | else-loop-turn-test w ↦
          let e = many_out (is_mark marks.Comma) (mark marks.Comma >> spec.name) _ c.loop-turn._turn c.loop-turn.found c.loop-turn.tokens c.loop-turn.invariant w.loop-turn-test.false in
          first_of (search (rules, e), grind (arith, common_steps, e))
      | then-loop-turn-test+then-not-eat w ↦
          let e = many_end (is_mark marks.Comma) (mark marks.Comma >> spec.name) _ c.loop-turn.found c.loop-turn.tokens c.loop-turn.invariant in
          first_of (search (rules, e), grind (arith, common_steps, e))
    ]
