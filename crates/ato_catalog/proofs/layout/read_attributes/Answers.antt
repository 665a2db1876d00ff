use Rattle.std.proofs.Common.{sym}
use Rattle.csv.specs.Records.{fields_of}
use Rattle.ato_catalog.proofs.HeadingLaws.{columns_end}
use Rattle.ato_catalog.proofs.layout.read_attributes.Goals as goal

pub returns : goal.returns
returns c =
    sym (columns_end (fields_of c.args.header.now) c.loop-place.place c.loop-place.columns _ (rw (← c.len-place-end.ensures) c.loop-place-test.false) c.loop-place.invariant)
