use Rattle.std.proofs.Common.{◌≡◌, ◌++◌}
use Rattle.std.specs.Slice.Iter.{iter_rest}
use Rattle.std.specs.Iterator.Adapters.{zip_first, zip_second}
use Rattle.ato_netlists.specs.Comps.{comps_by}
use Rattle.ato_netlists.proofs.comps.comps.Given as goal

abbrev pub invariant-loop-part : goal.invariant-loop-part
invariant-loop-part l = l.found ++ comps_by (iter_rest (zip_first l.part-iterator)) (iter_rest (zip_second l.part-iterator)) ≡ comps_by l.parts l.rows
