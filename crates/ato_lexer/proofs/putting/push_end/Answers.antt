use Rattle.ato_lexer.proofs.LevelPuts.{end_put}
use Rattle.ato_lexer.proofs.putting.push_end.Goals as goal

pub returns : goal.returns
returns c names = end_put c.args.file names c.args.levels.now c.args.size c.args.tokens.now c.push_dedents.new.tokens c.push_empty.new.tokens c.in_ok-push_dedents.ensures c.in_ok-push_empty.ensures
