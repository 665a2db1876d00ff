use Rattle.std.proofs.Common.{subst, length}
use Rattle.std.proofs.lemmas.Result.{IfOk-weaker}
use Rattle.ato_base.specs.Classes.{Classes}
use Rattle.ato_nets.specs.Groups.{SameClass, numbers_below}
use Rattle.ato_netlists.specs.Pins.{AreOneClass}
use Rattle.ato_netlists.proofs.ClassPlaces.{groups_are}
use Rattle.ato_netlists.proofs.pins.groups.Goals as goal

pub returns : goal.returns
returns c = IfOk-weaker c.groups_of.result (λ groups. Classes (SameClass c.deref.result.now 0) (numbers_below (length c.args.pins.now)) groups)
    (λ groups. Classes (AreOneClass c.args.of.now c.args.pins.now) (numbers_below (length c.args.pins.now)) groups)
    (λ groups classes. groups_are c.args.of.now c.args.pins.now c.in_ok-firsts.firsts.items groups c.in_ok-firsts.ensures
    (subst (λ l. Classes (SameClass l 0) (numbers_below (length c.args.pins.now)) groups) c.deref.ensures.value classes)) c.groups_of.ensures
