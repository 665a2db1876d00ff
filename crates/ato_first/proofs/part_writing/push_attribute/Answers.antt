use Rattle.std.proofs.lemmas.Result.{on_ok_weaker}
use Rattle.std.proofs.Common.{ap, ◌∙◌, ◌∷◌, []}
use Rattle.std.specs.Prelude.{codes}
use Rattle.ato_base.specs.NameTable.{with_names}
use Rattle.ato_first.proofs.Reading.{attribute_pushed, attribute_held}
use Rattle.ato_first.proofs.part_writing.push_attribute.Goals as goal

pub returns-clause-pushed : goal.returns-clause-pushed
returns-clause-pushed c =
    on_ok_weaker c.push_name-2.result
    (attribute_pushed c.args.file c.args.at c.in_ok-stop.stop c.args.name.now c.push_name.new.names c.push_name-2.new.names
    c.args.tokens.now c.push_name.new.tokens c.push_mark.new.tokens c.push_name-2.new.tokens
    c.in_ok-stop.ensures.stop c.push_name-2.ensures.names c.in_ok-stop.ensures.held c.in_ok-stop.ensures.pushed c.in_ok-push_mark.ensures)
    c.push_name-2.ensures.pushed

pub returns-clause-mentioned : goal.returns-clause-mentioned
returns-clause-mentioned c =
    on_ok_weaker c.push_name-2.result (λ second. second ∙ ap (λ t. with_names t (codes "dimensionless" ∷ [])) c.in_ok-stop.ensures.mentioned) c.push_name-2.ensures.mentioned

pub returns-clause-held : goal.returns-clause-held
returns-clause-held c =
    on_ok_weaker c.push_name-2.result
    (attribute_held c.args.name.now c.push_name.new.names c.push_name-2.new.names c.push_name-2.ensures.names c.in_ok-stop.ensures.held)
    c.push_name-2.ensures.held
