use Rattle.std.proofs.Common.{◌≡◌, ◌++◌, ◌+◌, drop}
use Rattle.ato_build.specs.CatalogueRows.{rows_from}
use Rattle.ato_build.proofs.problems.rows_of.Given as goal

abbrev pub invariant-loop-at : goal.invariant-loop-at
invariant-loop-at l =
    l.rows ++ rows_from l.columns l.part.kind.now l.part.attribute.now (l.at + 1) (drop l.at l.row-items)
    ≡ rows_from l.columns l.part.kind.now l.part.attribute.now 1 l.row-items
