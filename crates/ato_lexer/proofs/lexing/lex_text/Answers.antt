use Rattle.std.proofs.Common.{[], sym, subst}
use Rattle.std.specs.Prelude.{IfOk, IfErr}
use Rattle.ato_lexer.specs.Puts.{Puts, StopsAt}
use Rattle.ato_lexer.proofs.FileLaws.{no_mark}
use Rattle.ato_lexer.proofs.lexing.lex_text.Goals as goal

pub returns-in-None-clause-puts : goal.returns-in-None-clause-puts
returns-in-None-clause-puts c =
    subst (λ is. IfOk c.scan.result (λ tokens. Puts c.args.file c.args.names.now c.scan.new.names [] tokens is)) (sym (no_mark c.args.text.now (sym c.in-None.ensures))) c.scan.ensures.puts

pub returns-in-None-clause-stops : goal.returns-in-None-clause-stops
returns-in-None-clause-stops c =
    subst (λ is. IfErr c.scan.result (StopsAt c.args.file is)) (sym (no_mark c.args.text.now (sym c.in-None.ensures))) c.scan.ensures.stops
