use Rattle.std.proofs.Common.{◌∙◌, sym, arith}
use Rattle.ato_netlists.proofs.PartLaws.{parts_none, part_step, parts_found}
use Rattle.ato_netlists.proofs.parts.parts.Goals as goal

pub loop-number-init : goal.loop-number-init
loop-number-init c = c.new-found.ensures ∙ sym (parts_none c.as_slice-nodes.result.now c.in_ok-pins.pins.items c.args.strings.now)

pub loop-number-preserved : goal.loop-number-preserved
loop-number-preserved c = part_step c.as_slice-nodes.result.now c.in_ok-pins.pins.items c.args.strings.now c.loop-number.number c.loop-number.found c.push_part.new.found
    c.part_at-part.result c.deref.result.now c.in_ok-small.field-0 c.loop-number.invariant c.in_ok-push_part.ensures c.part_at-part.ensures c.deref.ensures.value c.in_ok-small.ensures

pub returns : goal.returns
returns c = λ program entry s known. parts_found program c.args.tree.now entry c.args.strings.now c.as_slice-nodes.result.now c.in_ok-pins.pins.items c.loop-number.found c.loop-number.number
    c.as_slice-nodes.ensures c.in_ok-pins.ensures c.loop-number-test.false (omega arith) c.loop-number.invariant s known
