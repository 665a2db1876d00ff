use Rattle.std.proofs.Common.{[], sym, subst, arith}
use Rattle.std.specs.Prelude.{IfOk, IfErr}
use Rattle.ato_lexer.specs.Puts.{Puts, StopsAt}
use Rattle.ato_lexer.proofs.FileLaws.{a_mark, mark_size}
use Rattle.ato_lexer.proofs.lexing.lex_behind_mark.Goals as goal

pub scan-requires : goal.scan-requires
scan-requires c = omega (arith, c.requires.small, mark_size c.args.text.now c.args.rest.now c.utf8.text c.utf8.rest c.requires.mark)

pub returns-clause-puts : goal.returns-clause-puts
returns-clause-puts c =
    subst (λ is. IfOk c.scan.result (λ tokens. Puts c.args.file c.args.names.now c.scan.new.names [] tokens is))
    (sym (a_mark c.args.text.now c.args.rest.now c.utf8.text c.utf8.rest c.requires.mark)) c.scan.ensures.puts

pub returns-clause-stops : goal.returns-clause-stops
returns-clause-stops c =
    subst (λ is. IfErr c.scan.result (StopsAt c.args.file is)) (sym (a_mark c.args.text.now c.args.rest.now c.utf8.text c.utf8.rest c.requires.mark)) c.scan.ensures.stops
