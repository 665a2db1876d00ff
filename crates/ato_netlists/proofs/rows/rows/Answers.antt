use Rattle.std.proofs.Common.{false, get_or, refl}
use Rattle.ato_netlists.proofs.RowLaws.{none_so_far, one_more, all_rows}
use Rattle.ato_netlists.proofs.rows.rows.Goals as goal

pub loop-part-init : goal.loop-part-init
loop-part-init c = λ tree entry s same known all. none_so_far c.args.ground.now.program.now entry c.new-rows.result c.new-designators.result c.new-rows.ensures c.new-designators.ensures

pub loop-part-preserved : goal.loop-part-preserved
loop-part-preserved c = λ tree entry s same known all. one_more c.args.ground.now.program.now entry c.loop-part.part-index c.loop-part.rows c.loop-part.designators c.next.new.self c.args.parts.now
    (record { node = 0; slot = false }) (get_or c.args.parts.now c.loop-part.part-index (record { node = 0; slot = false })) c.args.ground.now.strings.now c.prefix.result.now
    c.in_ok-designator.designator c.in_ok-row.row c.push.new.self known all c.loop-part-test.true refl c.prefix.ensures c.in_ok-designator.ensures.text c.in_ok-designator.ensures.counted
    (λ path is. c.in_ok-row.ensures tree entry path s same known is) c.in_ok-push.ensures.ok (c.loop-part.invariant tree entry s same known all)

pub returns : goal.returns
returns c = λ tree entry s same known all. all_rows c.args.ground.now.program.now entry c.loop-part.part-index c.loop-part.rows c.loop-part.designators c.args.parts.now all c.loop-part-test.false
    (c.loop-part.invariant tree entry s same known all)
