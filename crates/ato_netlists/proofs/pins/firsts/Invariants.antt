use Rattle.ato_netlists.proofs.ClassPlaces.{ArePlaced}
use Rattle.ato_netlists.proofs.pins.firsts.Given as goal

abbrev pub invariant-loop-place : goal.invariant-loop-place
invariant-loop-place l = ArePlaced l.of l.pins l.place_of.items l.firsts.items l.place
