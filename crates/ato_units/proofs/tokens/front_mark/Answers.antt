use Rattle.ato_units.proofs.Cutting.{end_cons}
use Rattle.ato_units.proofs.tokens.front_mark.Goals as goal

pub before-requires : goal.before-requires
before-requires c = end_cons _ _ _ c.requires
