use Rattle.ato_catalog.specs.Records.{records_of}
use Rattle.ato_catalog.proofs.OneCatalogue.{given, stands}
use Rattle.ato_catalog.proofs.WellMadeLaws.{ok-well_made}
use Rattle.ato_catalog.proofs.reading.read_catalog.Goals as goal

pub returns-clause-given : goal.returns-clause-given
returns-clause-given c = given c.args.bytes.now c.read_first.result c.read_first.ensures.catalogue c.read_first.ensures.fault

pub returns-clause-stands : goal.returns-clause-stands
returns-clause-stands c = stands c.args.bytes.now c.read_first.result c.read_first.ensures.catalogue c.read_first.ensures.fault

pub returns-clause-well_made : goal.returns-clause-well_made
returns-clause-well_made c = ok-well_made (records_of c.args.bytes.now) c.read_first.result c.read_first.ensures.catalogue
