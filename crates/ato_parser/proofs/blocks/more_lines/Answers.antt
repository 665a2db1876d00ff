use Rattle.std.proofs.Common.{rules, arith}
use Rattle.std.proofs.lemmas.Grind.{common_steps}
use Rattle.ato_parser.specs.Reading.{starts_stmt}
use Rattle.ato_parser.specs.FileReading.{stmts_line}
use Rattle.ato_parser.proofs.TurnLemmas.{many_more, many_end, many_out}
use Rattle.ato_parser.proofs.Repeats.{begins}
use Rattle.ato_parser.proofs.blocks.more_lines.Goals as goal
use Rattle.ato_parser.proofs.blocks.more_lines.Goals.{else-loop-turn-test, then-loop-turn-test+then-not-starts_stmt}

pub loop-turn-init : goal.loop-turn-init
loop-turn-init c =
    let e = begins starts_stmt (stmts_line c.args.depth) c.args.first c.args.tokens.now in
    first_of (search (rules, e), grind (arith, common_steps, e))

pub returns-in_err-next : goal.returns-in_err-next
returns-in_err-next c =
    let e = many_more starts_stmt (stmts_line c.args.depth) _ c.loop-turn._turn c.loop-turn.found c.loop-turn.tokens c.loop-turn.invariant c.loop-turn-test.true in
    first_of (search (rules, e), grind (arith, common_steps, e))

pub loop-turn-preserved : goal.loop-turn-preserved
loop-turn-preserved c =
    let e = many_more starts_stmt (stmts_line c.args.depth) _ c.loop-turn._turn c.loop-turn.found c.loop-turn.tokens c.loop-turn.invariant c.loop-turn-test.true in
    first_of (search (rules, e), grind (arith, common_steps, e))

pub returns : goal.returns
returns c =
    elim c.loop-turn-test.branch [
      | else-loop-turn-test w ↦
          let e = many_out starts_stmt (stmts_line c.args.depth) _ c.loop-turn._turn c.loop-turn.found c.loop-turn.tokens c.loop-turn.invariant w.loop-turn-test.false in
          first_of (search (rules, e), grind (arith, common_steps, e))
      | then-loop-turn-test+then-not-starts_stmt w ↦
          let e = many_end starts_stmt (stmts_line c.args.depth) _ c.loop-turn.found c.loop-turn.tokens c.loop-turn.invariant in
          first_of (search (rules, e), grind (arith, common_steps, e))
    ]
