use Rattle.std.proofs.Common.{[], subst}
use Rattle.std.proofs.lemmas.Result.{IfOk-weaker}
use Rattle.ato_lexer.specs.Puts.{Puts}
use Rattle.ato_lexer.specs.Tokens.{AreTokens, items}
use Rattle.ato_lexer.proofs.FileLaws.{tokens_put}
use Rattle.ato_lexer.proofs.lexing.lex.Goals as goal

pub returns-in-Ok-clause-tokens : goal.returns-in-Ok-clause-tokens
returns-in-Ok-clause-tokens c =
    IfOk-weaker c.lex_text.result _ (AreTokens c.args.text.now c.args.file c.args.names.now c.lex_text.new.names)
    (λ tokens puts. tokens_put c.args.file c.args.text.now c.args.names.now c.lex_text.new.names tokens c.in-Ok.ensures.cases.1
    (subst (λ text. Puts c.args.file c.args.names.now c.lex_text.new.names [] tokens (items text)) c.in-Ok.ensures.cases.0 puts))
    c.lex_text.ensures.puts
