use Rattle.ato_base.proofs.StageLaws as laws
use Rattle.ato_base.proofs.stages.one_fault_stands.Goals as goal

pub returns-clause-once : goal.returns-clause-once
returns-clause-once g c = laws.one_fault_stands g.S.Stages.leads g.S.Stages.has

pub returns-clause-none : goal.returns-clause-none
returns-clause-none g c = laws.no_fault_stands g.S.Stages.leads g.S.Stages.has
