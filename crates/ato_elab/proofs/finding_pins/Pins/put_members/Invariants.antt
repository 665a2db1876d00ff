use Rattle.std.proofs.Common.{◌≡◌, ◌&&◌, ◌||◌, ℕ, List, nat_eq, map, take}
use Rattle.ato_instance_tree.specs.Kept.{member_of}
use Rattle.ato_instance_tree.specs.Paths.{has_pin}
use Rattle.ato_elab.specs.Pins.{holds}
use Rattle.ato_elab.proofs.finding_pins.Pins.put_members.Given as goal

abbrev pub invariant-loop-member : goal.invariant-loop-member
invariant-loop-member l = (type : ℕ) (text : List ℕ) → holds l.self type text ≡ ((nat_eq type l.block && has_pin (map member_of (take l.member-index l.found)) text) || holds l.fn.self type text)
