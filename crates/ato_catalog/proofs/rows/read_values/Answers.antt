use Rattle.std.proofs.Common.{◌≡◌, ◌∷◌, [], ◌++◌}
use Rattle.csv.specs.Records.{fields_of}
use Rattle.ato_catalog.proofs.RowLaws.{bad_at, plain_more, value_more}
use Rattle.ato_catalog.proofs.CellLaws.{text_cell}
use Rattle.ato_catalog.proofs.rows.read_values.Goals as goal
use Rattle.ato_catalog.proofs.rows.read_values.Goals.{in-Plain, in-Value+in_ok-push-in-Value}

pub returns-in-Bad : goal.returns-in-Bad
returns-in-Bad c =
    bad_at c.args.roles.now (fields_of c.args.row.now) c.loop-place.values c.loop-place.place c.cell_at.result.now c.read_cell.result c.loop-place.invariant c.read_cell.ensures c.in-Bad.is c.cell_at.ensures
    c.loop-place-test.true c.requires.wide

pub loop-place-preserved : goal.loop-place-preserved
loop-place-preserved c =
    elim c.match-read_cell.branch [
      | in-Plain w ↦
          plain_more c.args.roles.now (fields_of c.args.row.now) c.loop-place.values c.match-read_cell.values c.loop-place.place c.cell_at.result.now c.read_cell.result c.loop-place.invariant
          c.read_cell.ensures w.in-Plain.is c.cell_at.ensures w.values-is c.loop-place-test.true c.requires.wide
      | in-Value+in_ok-push-in-Value w ↦
          let same : c.match-read_cell.values ≡ c.loop-place.values ++ w.in-Value.value ∷ [] = cc (w.values-is, w.in_ok-push-in-Value.ensures.ok) in
          value_more c.args.roles.now (fields_of c.args.row.now) c.loop-place.values c.match-read_cell.values c.loop-place.place c.cell_at.result.now c.read_cell.result w.in-Value.value
          c.loop-place.invariant c.read_cell.ensures w.in-Value.is c.cell_at.ensures same c.loop-place-test.true c.requires.wide
    ]

pub read_cell-requires : goal.read_cell-requires
read_cell-requires c = rw c.cell_at.ensures (text_cell (fields_of c.args.row.now) c.loop-place.place c.requires.text)
