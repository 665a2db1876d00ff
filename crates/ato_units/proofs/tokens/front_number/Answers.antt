use Rattle.std.specs.Str.{chars}
use Rattle.ato_units.proofs.Cutting.{number_end, end_at}
use Rattle.ato_units.proofs.tokens.front_number.Goals as goal

pub before-requires : goal.before-requires
before-requires c = end_at (chars c.args.text.now) _ _ c.past_number-rest.ensures (number_end (chars c.args.text.now))
