use Rattle.std.proofs.Common.{◌∙◌, ap, sym}
use Rattle.std.specs.Prelude.{string_bytes}
use Rattle.std.specs.List.{list_any}
use Rattle.std.specs.Str.{bytes_eq}
use Rattle.ato_base.proofs.Tables.{list_any-map}
use Rattle.ato_first.proofs.text_set.TextSet.contains.Goals as goal

pub returns : goal.returns
returns c = c.contains.ensures ∙ sym (list_any-map string_bytes (bytes_eq c.args.text.now) c.self.inside.texts.keys) ∙ ap (list_any (bytes_eq c.args.text.now)) c.self.view_is
