use Rattle.std.proofs.Common.{sym, ◌∙◌}
use Rattle.ato_lexer.proofs.ReadingLemmas.{quote_found, quote_line_end}
use Rattle.ato_lexer.proofs.pieces.after_quote.Goals as goal

pub returns-then-next-quote : goal.returns-then-next-quote
returns-then-next-quote c = sym (quote_found _ _ _ _ c.in-Some.ensures.cut c.if-next-quote.true) ∙ c.loop-next.invariant.1

pub returns-then-next-eq10 : goal.returns-then-next-eq10
returns-then-next-eq10 c = sym (quote_line_end _ _ _ _ c.in-Some.ensures.cut c.if-next-quote.false c.if-next-eq10.true) ∙ c.loop-next.invariant.1
