use Rattle.ato_connections.proofs.MemberSides as laws
use Rattle.ato_connections.proofs.laws.members_stand.Goals as goal

pub returns : goal.returns
returns c = laws.stand
