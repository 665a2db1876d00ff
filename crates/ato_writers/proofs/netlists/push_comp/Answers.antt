use Rattle.std.proofs.Common.{append_assoc}
use Rattle.ato_writers.specs.Netlists.{comp_text}
use Rattle.ato_writers.proofs.netlists.push_comp.Goals as goal

pub returns : goal.returns
unfolding comp_text
returns c = rw (
  c.in_ok-push.ensures,
  c.in_ok-push_field-4.ensures,
  c.in_ok-push_field-3.ensures,
  c.in_ok-push_field-2.ensures,
  c.in_ok-push_field.ensures,
  c.as_str.ensures,
  c.as_str-2.ensures,
  c.as_str-3.ensures,
  c.as_str-4.ensures,
) (simp append_assoc)
