use Rattle.ato_elab.proofs.KeyLaws.{keys_stand}
use Rattle.ato_elab.proofs.count_laws.keys_stand.Goals as goal

pub returns : goal.returns
returns c = keys_stand
