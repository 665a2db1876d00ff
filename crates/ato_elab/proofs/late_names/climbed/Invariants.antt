use Rattle.std.proofs.Common.{◌≡◌, ◌++◌, length}
use Rattle.std.specs.Prelude.{map}
use Rattle.std.specs.Option.{option_map}
use Rattle.ato_elab.specs.Climbing.{climbed}
use Rattle.ato_elab.proofs.late_names.climbed.Given as goal

abbrev pub invariant-loop-most : goal.invariant-loop-most
invariant-loop-most l = climbed l.names l.nodes (length l.nodes) l.fn.number ≡ option_map (λ rest. map (λ n. n.0) l.found ++ rest) (climbed l.names l.nodes l.most l.at)

abbrev pub decreases-loop-most : goal.decreases-loop-most
decreases-loop-most l = l.most
