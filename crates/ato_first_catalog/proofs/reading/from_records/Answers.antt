use Rattle.std.proofs.Common.{◌≡◌, ◌-◌, refl, ap, length, take, drop, map, [], None}
use Rattle.csv.specs.Records.{fields_of}
use Rattle.ato_first_catalog.specs.Catalogue.{ShowsRows}
use Rattle.ato_first_catalog.specs.Contents.{first_fault}
use Rattle.ato_first_catalog.specs.Header.{layout_of}
use Rattle.ato_first_catalog.specs.Rows.{row_of}
use Rattle.ato_first_catalog.proofs.FirstFault.{contents_in-rows}
use Rattle.ato_first_catalog.proofs.reading.from_records.Goals as goal

pub returns-in_ok-rows-in-Some-clause-catalogue : goal.returns-in_ok-rows-in-Some-clause-catalogue
returns-in_ok-rows-in-Some-clause-catalogue c =
    let header = c.header-item.result in
    let below = take (length c.args.records.now - 1) (drop 1 c.args.records.now) in
    let found = rw c.in-Some.is at c.in_ok-read_header-in-len1-up.ensures.header in
    let sound : first_fault (layout_of (fields_of header)) [] (map fields_of below) ≡ None = rw found.1 at c.in_ok-rows-in-Some.ensures.sound in
    let rows : ShowsRows c.in_ok-rows-in-Some.rows (map (λ row. row_of (layout_of (fields_of header)) (fields_of row)) below) = rw found.1 at c.in_ok-rows-in-Some.ensures.rows in
    rw (contents_in-rows fields_of c.args.records.now below header c.in-len1-up.len_at_least c.header-item.is refl found.0 sound)
    (record { columns = ap (λ layout. layout.attributes) found.1; rows = rows })
