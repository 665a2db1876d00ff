use Rattle.std.proofs.Common.{ap, ◌∙◌}
use Rattle.ato_first.specs.FirstForm.{is_short_number}
use Rattle.std.proofs.lemmas.Bool.{and_parts}
use Rattle.ato_first.proofs.first_lines.ends_of.Goals as goal

pub number_of-requires : goal.number_of-requires
number_of-requires c = ap is_short_number c.as_str.ensures ∙ (and_parts _ _ (and_parts _ _ c.requires).0).1

pub number_of-requires-2 : goal.number_of-requires-2
number_of-requires-2 c = ap is_short_number c.as_str-2.ensures ∙ (and_parts _ _ c.requires).1
