use Rattle.std.proofs.Common.{rules, arith}
use Rattle.std.proofs.lemmas.Grind.{common_steps}
use Rattle.ato_parser.proofs.LineParts.{parts_begin, parts_more, parts_tail, parts_end, parts_out}
use Rattle.ato_parser.proofs.lines.parts.Goals as goal

pub loop-turn-init : goal.loop-turn-init
loop-turn-init g c =
    let e = parts_begin g.P.LinePart.starts (g.P.LinePart.reader c.args.depth) c.args.first c.args.tokens.now in
    first_of (search (rules, e), grind (arith, common_steps, e))

pub returns-then-not-eat : goal.returns-then-not-eat
returns-then-not-eat g c =
    let e = parts_end g.P.LinePart.starts (g.P.LinePart.reader c.args.depth) _ c.loop-turn._turn c.loop-turn.found c.loop-turn.tokens c.loop-turn.invariant in
    first_of (search (rules, e), grind (arith, common_steps, e))

pub returns-then-not-is_start : goal.returns-then-not-is_start
returns-then-not-is_start g c =
    let e = parts_tail g.P.LinePart.starts (g.P.LinePart.reader c.args.depth) _ c.loop-turn._turn c.loop-turn.found c.loop-turn.tokens c.loop-turn.invariant c.loop-turn-test.true in
    first_of (search (rules, e), grind (arith, common_steps, e))

pub returns-in_err-next : goal.returns-in_err-next
returns-in_err-next g c =
    let e = parts_more g.P.LinePart.starts (g.P.LinePart.reader c.args.depth) _ c.loop-turn._turn c.loop-turn.found c.loop-turn.tokens c.loop-turn.invariant c.loop-turn-test.true in
    first_of (search (rules, e), grind (arith, common_steps, e))

pub loop-turn-preserved : goal.loop-turn-preserved
loop-turn-preserved g c =
    let e = parts_more g.P.LinePart.starts (g.P.LinePart.reader c.args.depth) _ c.loop-turn._turn c.loop-turn.found c.loop-turn.tokens c.loop-turn.invariant c.loop-turn-test.true in
    first_of (search (rules, e), grind (arith, common_steps, e))

pub returns : goal.returns
returns g c = parts_out g.P.LinePart.starts (g.P.LinePart.reader c.args.depth) _ c.loop-turn._turn c.loop-turn.found c.loop-turn.tokens c.loop-turn.invariant c.loop-turn-test.false
