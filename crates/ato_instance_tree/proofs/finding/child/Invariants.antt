use Rattle.std.proofs.Common.{◌≡◌, None, take}
use Rattle.ato_instance_tree.specs.Targets.{child}
use Rattle.ato_instance_tree.proofs.finding.child.Given as goal

abbrev pub invariant-loop-number : goal.invariant-loop-number
invariant-loop-number l = child (take l.number l.nodes) l.parent l.pin l.text ≡ None
