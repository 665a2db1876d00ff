use Rattle.std.proofs.Common.{◌≡◌, map, filter_map}
use Rattle.ato_elab.specs.Counting.{entry_of}
use Rattle.ato_elab.proofs.effective.effective.Given as goal

abbrev pub invariant-loop-key : goal.invariant-loop-key
invariant-loop-key l = l.entries ≡ filter_map (entry_of l.names) (map (λ p. (p.0.now, p.1.now)) l.yielded)
