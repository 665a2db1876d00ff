use Rattle.ato_instance_tree.proofs.MemberLaws as laws
use Rattle.ato_instance_tree.proofs.laws.members_agree.Goals as goal

pub returns : goal.returns
returns c = laws.agree
