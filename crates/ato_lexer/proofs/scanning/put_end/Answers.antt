use Rattle.std.proofs.Common.{reverse, []}
use Rattle.ato_lexer.specs.Layout.{last_items}
use Rattle.ato_lexer.specs.Walks.{closing}
use Rattle.ato_lexer.proofs.PutLaws.{puts_more}
use Rattle.ato_lexer.proofs.scanning.put_end.Goals as goal

pub returns : goal.returns
returns c names =
    puts_more c.args.file names names names c.args.tokens.now c.close_line.new.tokens c.push_end.new.tokens (closing c.args.standing) (last_items (reverse c.args.levels.now) c.args.size [])
    (c.in_ok-close_line.ensures names) (c.in_ok-push_end.ensures names)
