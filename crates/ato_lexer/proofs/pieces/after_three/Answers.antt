use Rattle.std.proofs.Common.{sym, ◌∙◌}
use Rattle.ato_lexer.proofs.ReadingLemmas.{three_found}
use Rattle.ato_lexer.proofs.pieces.after_three.Goals as goal

pub returns-in-Some-past_three : goal.returns-in-Some-past_three
returns-in-Some-past_three c = sym (three_found _ _ _ _ _ c.in-Some.ensures.cut (sym c.in-Some-past_three.ensures)) ∙ c.loop-after.invariant.1
