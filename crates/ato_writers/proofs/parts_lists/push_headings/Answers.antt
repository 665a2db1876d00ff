use Rattle.csv.specs.Writing.{escaped, fields_text, is_blank}
use Rattle.ato_writers.proofs.parts_lists.push_headings.Goals as goal

pub returns : goal.returns
unfolding escaped fields_text is_blank
returns c = rw (
  c.as_slice.ensures,
  c.as_slice-2.ensures,
  c.as_slice-3.ensures,
  c.as_slice-4.ensures,
  c.as_slice-5.ensures,
  c.as_slice-6.ensures,
  c.as_slice-7.ensures,
  c.as_slice-8.ensures,
) at c.push_record.ensures
