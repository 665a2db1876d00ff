use Rattle.ato_instance_tree.proofs.StatementLaws as laws
use Rattle.ato_instance_tree.proofs.laws.statements_are_walked.Goals as goal

pub returns : goal.returns
returns c = laws.walked
