use Rattle.std.proofs.Common.{◌∙◌}
use Rattle.ato_writers.proofs.PartsLemmas.{lines_are_csv}
use Rattle.ato_writers.specs.PartsLists.{part_text}
use Rattle.ato_writers.proofs.parts_lists.push_part.Goals as goal

pub returns : goal.returns
unfolding part_text
returns c =
    let e1 = c.as_bytes.ensures.value ∙ c.as_str.ensures in
    let e2 = c.as_bytes-2.ensures.value ∙ c.as_str-2.ensures in
    let e3 = c.as_bytes-3.ensures.value ∙ c.as_str-3.ensures in
    let e4 = c.as_bytes-4.ensures.value ∙ c.as_str-4.ensures in
    let e5 = c.as_bytes-5.ensures.value ∙ c.as_str-5.ensures in
    let e6 = c.as_bytes-6.ensures.value ∙ c.as_str-6.ensures in
    let e7 = c.as_bytes-7.ensures.value ∙ c.as_str-7.ensures in
    let e8 = c.as_bytes-8.ensures.value ∙ c.as_str-8.ensures in
    rw (lines_are_csv _ _ _) (rw (e1, e2, e3, e4, e5, e6, e7, e8) at c.push_record.ensures)
