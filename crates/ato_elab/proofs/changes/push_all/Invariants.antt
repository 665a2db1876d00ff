use Rattle.std.proofs.Common.{◌≡◌, ◌++◌, take}
use Rattle.ato_elab.proofs.changes.push_all.Given as goal

abbrev pub invariant-loop-change : goal.invariant-loop-change
invariant-loop-change l = l.changes ≡ l.fn.changes ++ take l.change-index l.more
