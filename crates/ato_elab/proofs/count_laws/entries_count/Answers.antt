use Rattle.ato_elab.proofs.CountLaws.{entries_count}
use Rattle.ato_elab.proofs.count_laws.entries_count.Goals as goal

pub returns : goal.returns
returns c = entries_count
