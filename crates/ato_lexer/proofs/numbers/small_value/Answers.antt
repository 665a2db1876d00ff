use Rattle.std.proofs.Common.{sym, ap, ◌∙◌}
use Rattle.std.specs.Char.{is_ascii_digit}
use Rattle.std.specs.List.{list_all}
use Rattle.ato_lexer.proofs.NumberLemmas.{digits_same, small_is}
use Rattle.ato_lexer.proofs.numbers.small_value.Goals as goal

pub small_of-requires : goal.small_of-requires
small_of-requires c =
    let whole = sym c.is_whole.ensures ∙ c.if-is_whole.true in
    ap (list_all is_ascii_digit) (digits_same c.args.text.now c.as_bytes.result.now c.utf8.text c.as_bytes.ensures.value whole) ∙ whole

pub returns-then-is_whole : goal.returns-then-is_whole
returns-then-is_whole c =
    let whole = sym c.is_whole.ensures ∙ c.if-is_whole.true in
    c.small_of.ensures ∙ small_is c.args.text.now c.as_bytes.result.now c.utf8.text c.as_bytes.ensures.value whole
