use Rattle.std.proofs.Common.{nat_eq}
use Rattle.ato_elab.specs.Pins.{holds}
use Rattle.ato_elab.proofs.PinLemmas.{member_more, member_none, member_all}
use Rattle.ato_elab.proofs.finding_pins.Pins.put_members.Goals as goal

pub loop-member-init : goal.loop-member-init
loop-member-init c = λ type text. member_none c.args.found.now text (nat_eq type c.args.block) (holds c.args.self.now type text)

pub loop-member-preserved : goal.loop-member-preserved
loop-member-preserved c = λ type text. member_more c.args.found.now c.loop-member.member-index _ text (nat_eq type c.args.block) (holds c.args.self.now type text) (holds c.loop-member.self type text)
    (holds c.put_member.new.self type text) c.loop-member-test.true (c.loop-member.invariant type text) (c.in_ok-put_member.ensures type text)

pub returns : goal.returns
returns c = λ type text. member_all c.args.found.now c.loop-member.member-index text (nat_eq type c.args.block) (holds c.args.self.now type text) (holds c.loop-member.self type text)
    c.loop-member-test.false (c.loop-member.invariant type text)
