use Rattle.ato_cert.proofs.CertReading.{boxes_no_holds, boxes_no_last, boxes_holds, boxes_end, boxes_no_end}
use Rattle.std.proofs.Common.{arith}
use Rattle.ato_cert.proofs.parts.read_boxes.Goals.{then-count-ge1+in_default, else-count-ge1}
use Rattle.ato_cert.proofs.parts.read_boxes.Goals as goal

pub returns-in_default-after : goal.returns-in_default-after
returns-in_default-after c = boxes_no_holds c.args.count c.requires c.args.text.now c.in-Some.check.now c.in-Some.ensures.stands c.in_default-after.ensures.back

pub returns-in_default-after-2 : goal.returns-in_default-after-2
returns-in_default-after-2 c =
    boxes_no_last c.args.count c.requires c.args.text.now c.in-Some.check.now c.in-Some.ensures.stands c.in-Some-after.holds.now c.in-Some-after.ensures.stands
    c.in_default-after-2.ensures.back

pub returns-in-Some : goal.returns-in-Some
returns-in-Some c =
    rw c.in_ok-one_holds.ensures (boxes_holds c.args.count c.requires c.args.text.now c.in-Some.check.now c.in-Some.ensures.stands
    c.in-Some-after.holds.now c.in-Some-after.ensures.stands c.in-Some-after-2.rest.now c.if-count-ge1.true c.in-Some-after-2.ensures.stands)

pub returns-in-Some-after-3 : goal.returns-in-Some-after-3
returns-in-Some-after-3 c = rw c.new.ensures (boxes_end c.args.count c.requires c.args.text.now c.in-Some-after-3.rest.now c.in-Some-after-3.ensures.stands)

pub returns-in-None : goal.returns-in-None
returns-in-None c =
    boxes_no_end c.args.count c.requires c.args.text.now c.in-None.ensures.back
    (λ one rest e. elim c.if-count-ge1.branch [ then-count-ge1+in_default w ↦ w.in_default.ensures.back rest e | else-count-ge1 w ↦ omega (arith, one) ])
