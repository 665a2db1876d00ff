use Rattle.std.proofs.Common.{◌≡◌, [], true, get_or}
use Rattle.std.specs.Str.{is_utf8}
use Rattle.csv.specs.Records.{fields_of}
use Rattle.ato_catalog.proofs.CellLaws.{text_cell}
use Rattle.ato_catalog.proofs.cells.text_at.Goals as goal

pub unreachable-requires : goal.unreachable-requires
unreachable-requires c =
    let text : is_utf8 (get_or (fields_of c.args.row.now) c.args.place []) ≡ true = text_cell (fields_of c.args.row.now) c.args.place c.requires in
    cc (text, c.in-None.ensures, c.cell_at.ensures)
