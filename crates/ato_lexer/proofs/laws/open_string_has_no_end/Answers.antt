use Rattle.ato_lexer.proofs.CutLaws.{open_has_no_end}
use Rattle.ato_lexer.proofs.laws.open_string_has_no_end.Goals as goal

pub returns-clause-no_end : goal.returns-clause-no_end
returns-clause-no_end c = open_has_no_end
