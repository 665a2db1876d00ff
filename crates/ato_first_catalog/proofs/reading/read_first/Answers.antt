use Rattle.std.proofs.Common.{◌≡◌, add-one, map}
use Rattle.csv.specs.Records.{fields_of}
use Rattle.ato_first_catalog.specs.Contents.{contents_in}
use Rattle.ato_first_catalog.specs.Records.{records_of}
use Rattle.ato_first_catalog.proofs.NoFaultLaws.{contents_in-take}
use Rattle.ato_first_catalog.proofs.reading.read_first.Goals as goal

pub returns-clause-catalogue : goal.returns-clause-catalogue
returns-clause-catalogue c =
    let same : contents_in (map fields_of c.as_slice.result.now) ≡ contents_in (records_of c.args.bytes.now) =
    rw (c.as_slice.ensures, c.in_ok-records.ensures, add-one) (contents_in-take (records_of c.args.bytes.now) c.args.rows c.requires) in
    rw same at c.from_records.ensures.catalogue

pub returns-clause-fault : goal.returns-clause-fault
returns-clause-fault c =
    let same : contents_in (map fields_of c.as_slice.result.now) ≡ contents_in (records_of c.args.bytes.now) =
    rw (c.as_slice.ensures, c.in_ok-records.ensures, add-one) (contents_in-take (records_of c.args.bytes.now) c.args.rows c.requires) in
    rw same at c.from_records.ensures.fault
