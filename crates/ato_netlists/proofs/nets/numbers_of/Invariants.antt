use Rattle.ato_netlists.proofs.NumberLaws.{AreNumbered}
use Rattle.ato_netlists.proofs.nets.numbers_of.Given as goal

abbrev pub invariant-loop-place : goal.invariant-loop-place
invariant-loop-place l = AreNumbered l.count l.parts l.numbers.items l.place
