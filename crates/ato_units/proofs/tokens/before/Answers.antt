use Rattle.std.proofs.Common.{ap, ◌∙◌}
use Rattle.std.specs.Str.{chars}
use Rattle.ato_units.proofs.Cutting.{end_at_most, cut_at_end, chars_before}
use Rattle.ato_units.proofs.tokens.before.Goals as goal

pub overflow_sub-text : goal.overflow_sub-text
overflow_sub-text c = end_at_most _ _ c.utf8.text c.utf8.rest c.requires

pub split_at-requires : goal.split_at-requires
split_at-requires c = cut_at_end _ _ c.utf8.text c.utf8.rest c.requires

pub returns : goal.returns
returns c = ap chars c.split_at.ensures.front ∙ chars_before _ _ c.utf8.text c.utf8.rest c.requires
