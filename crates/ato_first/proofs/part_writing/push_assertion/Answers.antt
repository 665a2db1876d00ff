use Rattle.std.proofs.lemmas.Result.{on_ok_weaker}
use Rattle.ato_first.specs.Statements.{read_assertion}
use Rattle.ato_first.proofs.Reading.{assertion_pushed}
use Rattle.ato_first.proofs.part_writing.push_assertion.Goals as goal

pub returns-clause-pushed : goal.returns-clause-pushed
returns-clause-pushed c =
    on_ok_weaker c.push_range.result
    (assertion_pushed c.args.file c.args.at c.in_ok-stop.stop (read_assertion c.args.assertion) c.push_name.new.names
    c.args.tokens.now c.push_keyword.new.tokens c.push_name.new.tokens c.push_keyword-2.new.tokens c.push_range.new.tokens
    c.in_ok-stop.ensures.stop c.in_ok-push_keyword.ensures c.in_ok-stop.ensures.pushed c.in_ok-push_keyword-2.ensures)
    c.push_range.ensures.pushed
