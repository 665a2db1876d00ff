use Rattle.std.proofs.Common.{sym, ◌∙◌, subst}
use Rattle.ato_first.specs.Statements.{IsDeclared}
use Rattle.ato_first.proofs.BadLineLemmas.{one_attribute, no_attribute}
use Rattle.ato_first.proofs.fronts.Found.clash.Goals as goal

pub returns-in-None : goal.returns-in-None
returns-in-None c place lines are once found e = no_attribute lines (subst (λ o. IsDeclared o place lines) c.in-None.is found.attribute)

pub returns-then-is_signal : goal.returns-then-is_signal
returns-then-is_signal c place lines are once found e =
    let is = subst (λ o. IsDeclared o place lines) c.in-Some.is found.attribute in
    (one_attribute lines c.in-Some.attribute.name.now once is.0 ∙ sym (c.is_signal.ensures lines are e) ∙ c.if-is_signal.true, is.1)

pub returns-else-is_signal : goal.returns-else-is_signal
returns-else-is_signal c place lines are once found e =
    let is = subst (λ o. IsDeclared o place lines) c.in-Some.is found.attribute in
    one_attribute lines c.in-Some.attribute.name.now once is.0 ∙ sym (c.is_signal.ensures lines are e) ∙ c.if-is_signal.false
