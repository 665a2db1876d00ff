use Rattle.std.proofs.lemmas.Result.{on_ok_weaker}
use Rattle.std.proofs.Common.{ap, sym, ◌∙◌}
use Rattle.ato_base.specs.NameTable.{with_names}
use Rattle.ato_base.proofs.NameTableLaws.{with_names-append}
use Rattle.ato_first.specs.FirstTokens.{end_names}
use Rattle.ato_first.specs.Statements.{read_end}
use Rattle.ato_first.proofs.Reading.{join_pushed, join_held}
use Rattle.ato_first.proofs.writing.push_join.Goals as goal

pub returns-clause-pushed : goal.returns-clause-pushed
returns-clause-pushed c =
    on_ok_weaker c.push_end-2.result
    (join_pushed c.args.file c.args.at c.in_ok-stop.stop (read_end c.args.left) (read_end c.args.right) c.push_end.new.names c.push_end-2.new.names
    c.args.tokens.now c.push_end.new.tokens c.push_mark.new.tokens c.push_end-2.new.tokens
    c.in_ok-stop.ensures.stop c.push_end-2.ensures.names c.in_ok-stop.ensures.held c.in_ok-stop.ensures.pushed c.in_ok-push_mark.ensures)
    c.push_end-2.ensures.pushed

pub returns-clause-mentioned : goal.returns-clause-mentioned
returns-clause-mentioned c =
    on_ok_weaker c.push_end-2.result
    (λ second. second ∙ ap (λ t. with_names t (end_names (read_end c.args.right))) c.in_ok-stop.ensures.mentioned ∙ sym (with_names-append c.args.names.now (end_names (read_end c.args.left)) (end_names (read_end c.args.right))))
    c.push_end-2.ensures.mentioned

pub returns-clause-held : goal.returns-clause-held
returns-clause-held c =
    on_ok_weaker c.push_end-2.result
    (join_held (read_end c.args.left) (read_end c.args.right) c.push_end.new.names c.push_end-2.new.names c.push_end-2.ensures.names c.in_ok-stop.ensures.held)
    c.push_end-2.ensures.held
