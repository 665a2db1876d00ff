use Rattle.ato_elab.proofs.LeadLaws as lead
use Rattle.ato_elab.proofs.leads.replacements_end.Goals as goal

pub returns : goal.returns
returns c = lead.replacements_end
