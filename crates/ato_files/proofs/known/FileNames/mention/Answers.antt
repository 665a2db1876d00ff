use Rattle.std.proofs.Common.{◌∙◌, ap, map}
use Rattle.std.specs.Prelude.{string_bytes}
use Rattle.ato_base.specs.NameTable.{with_name}
use Rattle.ato_base.proofs.Tables.{map-insert_key}
use Rattle.ato_files.proofs.known.FileNames.mention.Goals as goal

pub returns-clause-ok : goal.returns-clause-ok
returns-clause-ok c =
    ap (map string_bytes) c.in_ok-insert.ensures.keys
    ∙ map-insert_key c.self.inside.names.keys c.in_ok-from_str.field-0
    ∙ ap (with_name (map string_bytes c.self.inside.names.keys)) c.in_ok-from_str.ensures.ok
    ∙ ap (λ names. with_name names c.args.text.now) c.self.view_is
