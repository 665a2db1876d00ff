use Rattle.std.proofs.Common.{◌∷◌, take}
use Rattle.ato_expr.specs.Held.{ChainGives}
use Rattle.ato_expr.proofs.operations.combined.Given as goal

-- the nodes so far give the total
abbrev pub invariant-loop-node : goal.invariant-loop-node
invariant-loop-node l = ChainGives l.chain l.ends (l.first ∷ take l.node-index l.rest) l.total
