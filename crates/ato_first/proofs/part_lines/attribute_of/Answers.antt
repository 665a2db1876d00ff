use Rattle.ato_first.proofs.PartLineLemmas.{attribute_read}
use Rattle.ato_first.proofs.part_lines.attribute_of.Goals as goal

pub returns-in-Some : goal.returns-in-Some
returns-in-Some c = attribute_read c.args.text.now c.in-Some.name.now c.attribute_name.result c.in-Some.ensures c.attribute_name.ensures
