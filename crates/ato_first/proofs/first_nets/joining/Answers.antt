use Rattle.ato_first.proofs.FirstNetLaws.{joined_by_lines}
use Rattle.ato_first.proofs.first_nets.joining.Goals as goal

pub returns : goal.returns
returns c = record { equivalence = joined_by_lines }
