use Rattle.std.proofs.Common.{Result, Ok, Err, IfOk, List, ℕ}
use Rattle.ato_base.specs.declared.faults.Refusal.{Refusal}
use Rattle.ato_first_catalog.specs.Catalogue.{IsCatalogue}
use Rattle.ato_first_catalog.specs.Records.{records_of}
use Rattle.ato_first_catalog.specs.WellMade.{IsWellMade}
use Rattle.ato_first_catalog.specs.declared.reading.Catalog.{Catalog}
use Rattle.ato_first_catalog.proofs.WellMadeLaws.{contents_in-well_made}
use Rattle.ato_first_catalog.proofs.reading.read_catalog.Goals as goal

is_well_made : (bytes : List ℕ) (result : Result Catalog Refusal) → IfOk result (IsCatalogue bytes) → IfOk result IsWellMade
is_well_made bytes (Ok catalog) h = contents_in-well_made (records_of bytes) catalog h
is_well_made bytes (Err refusal) h = tt

pub returns-clause-well_made : goal.returns-clause-well_made
returns-clause-well_made c = is_well_made c.args.bytes.now c.read_first.result c.read_first.ensures.catalogue
