use Rattle.std.proofs.Common.{◌∙◌, [], refl}
use Rattle.ato_writers.specs.CsvWriters.{Holds}
use Rattle.ato_writers.specs.PartsLists.{parts_list}
use Rattle.ato_writers.proofs.PartsLemmas.{some_same}
use Rattle.ato_writers.proofs.parts_lists.parts_text.Goals as goal

pub returns-in-Ok : goal.returns-in-Ok
unfolding parts_list
returns-in-Ok c =
    let from = c.from_writer-writer.ensures in
    let start : Holds c.from_writer-writer.result [] = record {
      setup = from.cfg ∙ c.new.ensures;
      fields = from.fields;
      wrote = from.wrote;
      bytes = rw (from.wtr, c.new-2.ensures.items, from.empty) refl;
    } in
    let end = c.in_ok-push_parts.ensures _ (c.in_ok-push_headings.ensures [] start) in
    c.from_vec.ensures ∙ c.in-Ok.ensures.ok ∙ some_same _ _ end.bytes
