use Rattle.std.proofs.Common.{arith, ◌≤◌, ◌^◌, ◌<◌, ◌≡◌, ◌+◌, ap, map, take, ◌∙◌}
use Rattle.csv.specs.Records.{fields_of}
use Rattle.ato_catalog.specs.Records.{records_of}
use Rattle.std.proofs.Math.Facts.{Fits-of_lt}
use Rattle.ato_catalog.specs.Limits.{most_rows}
use Rattle.ato_catalog.proofs.LimitLaws.{most_few}
use Rattle.ato_catalog.proofs.CatalogueLaws.{err-take, ok-take}
use Rattle.ato_catalog.proofs.reading.read_first.Goals as goal

pub returns-clause-catalogue : goal.returns-clause-catalogue
returns-clause-catalogue c =
    let same : map fields_of c.as_slice.result.now ≡ take (c.args.most + 2) (records_of c.args.bytes.now) = ap (map fields_of) c.as_slice.ensures ∙ c.in_ok-records.ensures in
    ok-take (records_of c.args.bytes.now) (map fields_of c.as_slice.result.now) c.args.most c.from_records.result same c.requires c.from_records.ensures.catalogue

pub returns-clause-fault : goal.returns-clause-fault
returns-clause-fault c =
    let same : map fields_of c.as_slice.result.now ≡ take (c.args.most + 2) (records_of c.args.bytes.now) = ap (map fields_of) c.as_slice.ensures ∙ c.in_ok-records.ensures in
    err-take (records_of c.args.bytes.now) (map fields_of c.as_slice.result.now) c.args.most c.from_records.result same c.requires c.from_records.ensures.fault

pub overflow_add-most : goal.overflow_add-most
overflow_add-most c = Fits-of_lt (let few : most_rows ≤ 2 ^ 17 = most_few in let room : 2 ^ 17 + 2 < 2 ^ 64 = omega arith in omega (arith, c.requires))
