use Rattle.std.proofs.Common.{◌∙◌, ap, sym, map, slice_get, Some}
use Rattle.std.specs.Prelude.{string_bytes}
use Rattle.std.specs.List.{position_or_len}
use Rattle.std.specs.Str.{bytes_eq}
use Rattle.ato_base.specs.NameTable.{with_name, number_of}
use Rattle.ato_base.proofs.Tables.{position_or_len-map, map-insert_key, held_text}
use Rattle.ato_base.proofs.name_table.NameTable.intern.Goals as goal

pub returns-clause-number : goal.returns-clause-number
returns-clause-number c =
    c.in_ok-number.ensures.index
    ∙ sym (position_or_len-map string_bytes (bytes_eq (string_bytes c.in_ok-from_str.field-0)) c.self.inside.names.keys)
    ∙ ap (λ t. position_or_len (bytes_eq t) (map string_bytes c.self.inside.names.keys)) c.in_ok-from_str.ensures.ok
    ∙ ap (λ names. number_of names c.args.text.now) c.self.view_is

pub returns-clause-table : goal.returns-clause-table
returns-clause-table c =
    ap (map string_bytes) c.in_ok-number.ensures.keys
    ∙ map-insert_key c.self.inside.names.keys c.in_ok-from_str.field-0
    ∙ ap (with_name (map string_bytes c.self.inside.names.keys)) c.in_ok-from_str.ensures.ok
    ∙ ap (λ names. with_name names c.args.text.now) c.self.view_is

pub returns-clause-held : goal.returns-clause-held
returns-clause-held c =
    held_text c.insert_full.new.self.keys c.in_ok-number.number c.in_ok-from_str.field-0 c.in_ok-number.ensures.stored.0 c.in_ok-number.ensures.stored.1 c.in_ok-number.ensures.stored.2
    ∙ ap Some c.in_ok-from_str.ensures.ok
