use Rattle.std.proofs.Common.{take, map}
use Rattle.csv.specs.Records.{fields_of}
use Rattle.ato_first_catalog.specs.Catalogue.{ShowsCells}
use Rattle.ato_first_catalog.specs.Ranges.{range_of}
use Rattle.ato_first_catalog.specs.Rows.{cell_in}
use Rattle.ato_first_catalog.proofs.rows.read_cells.Given as goal

abbrev pub invariant-loop-column : goal.invariant-loop-column
invariant-loop-column l = ShowsCells l.cells (map (λ column. range_of (cell_in (fields_of l.row) column.at)) (take l.column-index l.attributes))
