use Rattle.std.proofs.Common.{ℕ, reverse}
use Rattle.ato_elab.specs.Building.{IsBuilding}
use Rattle.ato_elab.proofs.frames.Growth.turn.Given as goal

abbrev pub invariant-loop : goal.invariant-loop
invariant-loop l = (entry : ℕ) → IsBuilding l.given entry (reverse l.fn.frames.items) l.fn.self → IsBuilding l.given entry (reverse l.frames.items) l.self
