use Rattle.std.proofs.Common.{append_assoc}
use Rattle.ato_writers.specs.Netlists.{node_text}
use Rattle.ato_writers.proofs.netlists.push_node.Goals as goal

pub returns : goal.returns
unfolding node_text
returns c = rw (c.in_ok-push.ensures, c.in_ok-push_field-2.ensures, c.in_ok-push_field.ensures, c.as_str.ensures, c.designator_at.ensures) (simp append_assoc)
