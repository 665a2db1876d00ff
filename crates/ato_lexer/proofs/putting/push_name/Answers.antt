use Rattle.ato_lexer.proofs.PutLaws.{puts_name}
use Rattle.ato_lexer.proofs.putting.push_name.Goals as goal

pub returns-clause-puts : goal.returns-clause-puts
returns-clause-puts c =
    puts_name c.args.at.file c.args.names.now c.intern.new.self c.args.tokens.now c.push.new.tokens c.args.text.now c.in_ok-name.name.0 c.args.at.start c.args.at.end c.utf8.text c.in_ok-name.ensures.table c.in_ok-name.ensures.number c.in_ok-push.ensures
