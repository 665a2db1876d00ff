use Rattle.ato_first.proofs.FirstFormLemmas.{other_line}
use Rattle.ato_first.proofs.lines.next_statement.Goals as goal

pub returns-in-None-statement_of : goal.returns-in-None-statement_of
returns-in-None-statement_of c = other_line c.args.bytes.now c.in-Some.text.now c.in-Some.rest.now c.in-Some.ensures.0 c.in-Some.ensures.1 c.in-None-statement_of.ensures
