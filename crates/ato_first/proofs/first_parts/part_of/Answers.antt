use Rattle.ato_first.proofs.FirstPartLemmas.{assertion_is_line}
use Rattle.ato_first.proofs.first_parts.part_of.Goals as goal

pub ends_of-low-requires : goal.ends_of-low-requires
ends_of-low-requires c = assertion_is_line c.args.lines.now c.in_ok-assertion_of.field-0.now c.in_ok-assertion_of.ensures c.requires
