use Rattle.std.proofs.Common.{◌≡◌, take}
use Rattle.ato_files.specs.MemberLists.{with_stmts}
use Rattle.ato_files.proofs.members.Members.push_stmts.Given as goal

abbrev pub invariant-loop-stmt : goal.invariant-loop-stmt
invariant-loop-stmt l = l.self ≡ with_stmts l.fn.self (take l.stmt-index l.stmts)
