use Rattle.std.proofs.Common.{◌∙◌, List, subst, sym}
use Rattle.ato_elab.specs.declared.frames.Frame.{Frame}
use Rattle.ato_elab.specs.Building.{IsBuilding}
use Rattle.ato_elab.proofs.TurnLemmas.{none_open}
use Rattle.ato_elab.proofs.frames.Growth.turn.Goals as goal

pub returns-then-len-eq0-clause-put : goal.returns-then-len-eq0-clause-put
returns-then-len-eq0-clause-put c = λ entry was.
    subst (λ (fs : List Frame). IsBuilding c.args.given.now entry fs c.loop.self) (none_open c.loop.frames.items (sym c.loop.frames.ok.0 ∙ sym c.len.ensures ∙ c.if-len-eq0.true)) (c.loop.invariant entry was)
