use Rattle.std.proofs.Common.{sym, ◌∙◌}
use Rattle.ato_lexer.proofs.ReadingLemmas.{line_stops}
use Rattle.ato_lexer.proofs.pieces.past_line.Goals as goal

pub returns-then-next-eq10 : goal.returns-then-next-eq10
returns-then-next-eq10 c = sym (line_stops _ _ _ c.in-Some.ensures.cut c.if-next-eq10.true) ∙ c.loop-next.invariant.1
