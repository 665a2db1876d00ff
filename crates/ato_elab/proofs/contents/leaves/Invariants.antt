use Rattle.std.proofs.Common.{◌≡◌, ◌≤◌, length, map, take}
use Rattle.std.specs.Prelude.{filter}
use Rattle.ato_instance_tree.specs.Kept.{member_of}
use Rattle.ato_instance_tree.specs.TreeFaults.{is_leaf}
use Rattle.ato_elab.proofs.contents.leaves.Given as goal

abbrev pub invariant-loop-member : goal.invariant-loop-member
invariant-loop-member l = (l.count ≡ length (filter is_leaf (map member_of (take l.member-index l.members)))) × (l.count ≤ l.member-index)
