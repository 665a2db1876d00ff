use Rattle.std.proofs.Common.{◌∙◌}
use Rattle.ato_lexer.proofs.LevelPuts.{open_deep}
use Rattle.ato_lexer.proofs.putting.is_open.Goals as goal

pub returns-else-depth-eq0 : goal.returns-else-depth-eq0
returns-else-depth-eq0 c = c.is_among.ensures ∙ open_deep c.args.depth c.args.levels.now c.if-depth-eq0.false
