use Rattle.std.proofs.Common.{◌∷◌, [], ◌++◌}
use Rattle.ato_first.specs.Statements.{read_line}
use Rattle.ato_first.proofs.FirstFormLemmas.{text_more, are_more}
use Rattle.ato_first.proofs.Reading.{statement_line}
use Rattle.ato_first.proofs.SignalLemmas.{signal_more, signal_all}
use Rattle.ato_first.proofs.fronts.is_signal.Goals as goal

pub loop-statement-preserved : goal.loop-statement-preserved
loop-statement-preserved c =
    let (lines, are, text, is) = c.loop-statement.invariant in
    let line = read_line c.in-Some.statement in (
      lines ++ line ∷ [],
      are_more lines line are (statement_line c.in-Some.statement c.in-Some.ensures.1),
      text_more c.args.bytes.now c.loop-statement.rest.now c.in-Some.more.now lines line text c.in-Some.ensures.0,
      signal_more lines line c.args.name.now c.loop-statement.found c.declares-found.result is c.declares-found.ensures,
    )

pub returns : goal.returns
returns c lines all e =
    let (read, are, text, is) = c.loop-statement.invariant in
    signal_all c.args.bytes.now c.loop-statement.rest.now c.args.name.now lines read c.loop-statement.found are text is c.in_default.ensures all e
