use Rattle.std.proofs.Common.{sym, subst, ◌∙◌, List, ℕ}
use Rattle.std.proofs.lemmas.Str.{encodes-chars}
use Rattle.ato_frac.specs.Decimals.{Reads, RefusesText}
use Rattle.ato_units.proofs.Parts.{none_read, has_opposite, has_size}
use Rattle.ato_units.proofs.literals.number_of.Goals as goal

pub returns-in-Err : goal.returns-in-Err
returns-in-Err c =
    none_read _ c.in-Err.field-0
    (subst (λ (text : List ℕ). RefusesText text c.in-Err.field-0) (c.as_bytes.ensures.value ∙ sym (encodes-chars c.args.digits.now c.utf8.digits)) c.in-Err.ensures)

pub returns-then-negative : goal.returns-then-negative
returns-then-negative c =
    has_opposite _ c.args.negative c.in-Ok.size c.opposite.result
    (subst (λ (text : List ℕ). Reads text c.in-Ok.size) (c.as_bytes.ensures.value ∙ sym (encodes-chars c.args.digits.now c.utf8.digits)) c.in-Ok.ensures)
    c.if-negative.true c.opposite.ensures.value

pub returns-else-negative : goal.returns-else-negative
returns-else-negative c =
    has_size _ c.args.negative c.in-Ok.size
    (subst (λ (text : List ℕ). Reads text c.in-Ok.size) (c.as_bytes.ensures.value ∙ sym (encodes-chars c.args.digits.now c.utf8.digits)) c.in-Ok.ensures)
    c.if-negative.false
