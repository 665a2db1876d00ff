use Rattle.std.proofs.Common.{◌≡◌, ℕ, map, take}
use Rattle.ato_instance_tree.specs.Kept.{stmt_of}
use Rattle.ato_instance_tree.specs.Members.{is_declared}
use Rattle.ato_instance_tree.specs.Seen.{has}
use Rattle.ato_instance_tree.proofs.declared_names.declared_names.Given as goal

abbrev pub invariant-loop-statement : goal.invariant-loop-statement
invariant-loop-statement l = (n : ℕ) → has l.names n ≡ is_declared (map stmt_of (take l.statement-index l.statements)) n
