use Rattle.csv.specs.Records.{fields_of}
use Rattle.ato_first_catalog.specs.Ranges.{range_of}
use Rattle.ato_first_catalog.specs.Rows.{cell_in}
use Rattle.ato_first_catalog.proofs.FirstFault.{map-take-more}
use Rattle.ato_first_catalog.proofs.ShowsLaws.{shows_cells-push}
use Rattle.ato_first_catalog.proofs.rows.read_cells.Goals as goal

pub loop-column-preserved : goal.loop-column-preserved
loop-column-preserved c =
    let read = rw c.cell_in.ensures at c.read_cell.ensures in
    rw (c.in_ok-push.ensures.ok, map-take-more (λ column. range_of (cell_in (fields_of c.args.row.now) column.at)) c.args.attributes.now c.loop-column.column-index c.column-item.result c.loop-column-test.true c.column-item.is)
    (shows_cells-push _ _ _ _ c.loop-column.invariant read)
