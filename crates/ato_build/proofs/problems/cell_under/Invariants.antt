use Rattle.std.proofs.Common.{◌≡◌, drop}
use Rattle.ato_first_catalog.specs.Contents.{cell_under}
use Rattle.ato_build.proofs.problems.cell_under.Given as goal

abbrev pub invariant-loop-at : goal.invariant-loop-at
invariant-loop-at l = cell_under (drop l.at l.columns) (drop l.at l.cells) l.name ≡ cell_under l.columns l.cells l.name
