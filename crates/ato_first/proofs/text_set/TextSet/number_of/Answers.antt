use Rattle.std.proofs.Common.{◌∙◌, ap, sym}
use Rattle.std.specs.Prelude.{string_bytes}
use Rattle.std.specs.Str.{bytes_eq}
use Rattle.ato_base.specs.NameTable.{number_of}
use Rattle.ato_base.proofs.Tables.{position_or_len-map}
use Rattle.ato_first.proofs.TextSetLemmas.{found_place, no_place}
use Rattle.ato_first.proofs.text_set.TextSet.number_of.Goals as goal

pub returns-in-Some-clause-number : goal.returns-in-Some-clause-number
returns-in-Some-clause-number c =
    found_place (λ key. bytes_eq c.args.text.now (string_bytes key)) c.self.inside.texts.keys c.in-Some.number c.in-Some.ensures.index
    ∙ sym (position_or_len-map string_bytes (bytes_eq c.args.text.now) c.self.inside.texts.keys)
    ∙ ap (λ texts. number_of texts c.args.text.now) c.self.view_is

pub returns-in-None-clause-number : goal.returns-in-None-clause-number
returns-in-None-clause-number c =
    c.len-count.ensures.len
    ∙ no_place (λ key. bytes_eq c.args.text.now (string_bytes key)) c.self.inside.texts.keys c.in-None.ensures.index
    ∙ sym (position_or_len-map string_bytes (bytes_eq c.args.text.now) c.self.inside.texts.keys)
    ∙ ap (λ texts. number_of texts c.args.text.now) c.self.view_is
