use Rattle.std.proofs.Common.{◌∙◌, List, map, reverse, subst}
use Rattle.ato_elab.specs.declared.changes.Change.{Change}
use Rattle.ato_elab.specs.Changes.{seen}
use Rattle.ato_elab.specs.Settling.{LeadsTo, StopsAt}
use Rattle.ato_elab.specs.Waiting.{ends}
use Rattle.ato_elab.proofs.HereLaws.{stray_here}
use Rattle.ato_elab.proofs.entering.find_lead.Goals as goal

pub returns-in-Ok-clause-leads : goal.returns-in-Ok-clause-leads
returns-in-Ok-clause-leads c = λ are. record {
  new_is = c.in_ok-from.ensures;
  list_is = c.in_ok-list.ensures;
  leads = subst (λ (cs : List Change). LeadsTo c.args.given.now.program.now.files c.in_ok-from.from (ends (map seen cs)) c.in-Ok.block) c.as_slice.ensures (c.in-Ok.ensures.leads are);
}

pub returns-clause-refused : goal.returns-clause-refused
returns-clause-refused c = λ entry g at.
    stray_here c.args.given.now entry (reverse c.args.around.now) c.args.frame.now c.args.name g at c.in_ok-from.from c.in_ok-from.new c.in-Err.at c.fault.result c.in_ok-from.ensures
    (subst (λ (cs : List Change). StopsAt c.args.given.now.program.now.files c.in_ok-from.from (ends (map seen cs)) c.in-Err.at) (c.as_slice.ensures ∙ c.in_ok-list.ensures)
    (c.in-Err.ensures.stray at.building.given_is.blocks))
    c.fault.ensures
