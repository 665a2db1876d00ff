use Rattle.std.proofs.Common.{◌≡◌, take}
use Rattle.std.specs.List.{flat_map}
use Rattle.ato_files.specs.MemberLists.{no_members, with_stmts}
use Rattle.ato_files.proofs.members.members_of.Given as goal

abbrev pub invariant-loop-line : goal.invariant-loop-line
invariant-loop-line l = l.members ≡ with_stmts no_members (flat_map (λ x. x.parts) (take l.line-index l.block.lines))
