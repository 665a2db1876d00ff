use Rattle.std.proofs.Common.{rules, arith}
use Rattle.std.proofs.lemmas.Grind.{common_steps}
use Rattle.ato_parser.specs.Input.{many}
use Rattle.ato_parser.specs.FileReading.{starts_item, item}
use Rattle.ato_parser.proofs.TurnLemmas.{many_more, many_end, many_out}
use Rattle.ato_parser.proofs.files.items.Goals as goal
use Rattle.ato_parser.proofs.files.items.Goals.{else-loop-turn-test, then-loop-turn-test+then-not-starts_item}

pub loop-turn-init : goal.loop-turn-init
unfolding many
loop-turn-init c = first_of (search rules, grind (arith, common_steps))

pub returns-in_err-next : goal.returns-in_err-next
returns-in_err-next c =
    let e = many_more starts_item (item c.args.depth) _ c.loop-turn._turn c.loop-turn.found c.loop-turn.tokens c.loop-turn.invariant c.loop-turn-test.true in
    first_of (search (rules, e), grind (arith, common_steps, e))

pub loop-turn-preserved : goal.loop-turn-preserved
loop-turn-preserved c =
    let e = many_more starts_item (item c.args.depth) _ c.loop-turn._turn c.loop-turn.found c.loop-turn.tokens c.loop-turn.invariant c.loop-turn-test.true in
    first_of (search (rules, e), grind (arith, common_steps, e))

pub returns : goal.returns
returns c =
    elim c.loop-turn-test.branch [
      | else-loop-turn-test w ↦
          let e = many_out starts_item (item c.args.depth) _ c.loop-turn._turn c.loop-turn.found c.loop-turn.tokens c.loop-turn.invariant w.loop-turn-test.false in
          first_of (search (rules, e), grind (arith, common_steps, e))
      | then-loop-turn-test+then-not-starts_item w ↦
          let e = many_end starts_item (item c.args.depth) _ c.loop-turn.found c.loop-turn.tokens c.loop-turn.invariant in
          first_of (search (rules, e), grind (arith, common_steps, e))
    ]
