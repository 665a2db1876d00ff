use Rattle.std.proofs.Common.{List, reverse, subst}
use Rattle.ato_elab.specs.declared.frames.Frame.{Frame}
use Rattle.ato_elab.specs.Building.{IsBuilding}
use Rattle.ato_elab.proofs.TurnLemmas.{popped}
use Rattle.ato_elab.proofs.frames.Growth.step.Goals as goal

pub returns-in-None-next_member-clause-put : goal.returns-in-None-next_member-clause-put
returns-in-None-next_member-clause-put c = λ entry was.
    let fs = popped c.args.frames.now.items c.pop.new.self.items c.in-Some.frame c.in-Some.ensures.items in
    c.close.ensures c.args.given.now entry (reverse c.pop.new.self.items) c.in-None-next_member.ensures
    (subst (λ (gs : List Frame). IsBuilding c.args.given.now entry gs c.args.self.now) fs was)
