use Rattle.std.proofs.Common.{◌∙◌, ap, sym, position}
use Rattle.std.specs.Prelude.{string_bytes}
use Rattle.std.specs.Str.{bytes_eq}
use Rattle.ato_base.proofs.Tables.{position-map}
use Rattle.ato_base.proofs.name_table.NameTable.find.Goals as goal

pub returns-in-Some : goal.returns-in-Some
returns-in-Some c =
    c.in-Some.ensures.index ∙ sym (position-map string_bytes (bytes_eq c.args.text.now) c.self.inside.names.keys) ∙ ap (position (bytes_eq c.args.text.now)) c.self.view_is

pub returns-in-None : goal.returns-in-None
returns-in-None c =
    c.in-None.ensures.index ∙ sym (position-map string_bytes (bytes_eq c.args.text.now) c.self.inside.names.keys) ∙ ap (position (bytes_eq c.args.text.now)) c.self.view_is
