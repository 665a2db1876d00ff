use Rattle.ato_first.specs.Statements.{read_line}
use Rattle.ato_first.proofs.OnceLemmas.{second_next}
use Rattle.ato_first.proofs.Reading.{statement_line}
use Rattle.ato_first.proofs.fronts.Front.next.Goals as goal

pub returns-in-None-and-clause-front : goal.returns-in-None-and-clause-front
returns-in-None-and-clause-front c place lines once found at =
    second_next lines (read_line c.in-Some.statement) c.args.self.rest.now c.in-Some.rest.now (statement_line c.in-Some.statement c.in-Some.ensures.1) c.in-Some.ensures.0
    (c.in-None-and.ensures place lines once found at)
