use Rattle.std.proofs.Common.{sym, true, false, ◌∙◌, ap}
use Rattle.ato_base.specs.Keywords.{is_keyword}
use Rattle.ato_units.proofs.Words.{word_is}
use Rattle.ato_units.proofs.tokens.word_token.Goals as goal

pub returns-then-eq : goal.returns-then-eq
returns-then-eq c = sym (word_is c.args.text.now true (is_keyword c.args.text.now) c.utf8.text (sym c.eq.ensures ∙ c.if-eq.true) (λ i. is_keyword c.args.text.now))

pub returns-then-is_keyword : goal.returns-then-is_keyword
returns-then-is_keyword c =
    sym (word_is c.args.text.now false true c.utf8.text (sym c.eq.ensures ∙ c.if-eq.false)
    (ap is_keyword (sym c.as_bytes.ensures.value) ∙ sym c.is_keyword.ensures ∙ c.if-is_keyword.true))

pub returns-else-is_keyword : goal.returns-else-is_keyword
returns-else-is_keyword c =
    sym (word_is c.args.text.now false false c.utf8.text (sym c.eq.ensures ∙ c.if-eq.false)
    (ap is_keyword (sym c.as_bytes.ensures.value) ∙ sym c.is_keyword.ensures ∙ c.if-is_keyword.false))
