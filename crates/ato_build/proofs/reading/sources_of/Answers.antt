use Rattle.std.proofs.Common.{subst}
use Rattle.ato_first_catalog.specs.Catalogue.{IsRefused}
use Rattle.ato_first_catalog.proofs.PlaceLaws.{in_cell}
use Rattle.ato_build.proofs.ReadingLemmas.{contents_end, fault_not_missing}
use Rattle.ato_build.proofs.WithinLemmas.{cell_within, alone_within}
use Rattle.ato_build.proofs.reading.sources_of.Goals as goal

pub fault_end-requires : goal.fault_end-requires
fault_end-requires c =
    let cell = in_cell c.args.bytes.now c.in-Fault.fault (subst (IsRefused c.args.bytes.now) c.in-Fault.is c.in-Err.ensures.fault) in
    record { at = cell_within c.as_slice.result.now c.in-Fault.fault cell; other = alone_within c.as_slice.result.now c.in-Fault.fault cell.other; path = cell.path }

pub returns-in-Fault-clause-reading : goal.returns-in-Fault-clause-reading
returns-in-Fault-clause-reading c =
    contents_end c.args.project.now c.args.source c.as_slice.result.now c.args.block c.args.bytes.now c.in-Fault.fault c.fault_end.result c.requires
    (subst (IsRefused c.args.bytes.now) c.in-Fault.is c.in-Err.ensures.fault) c.as_slice.ensures c.fault_end.ensures

pub returns-in-Fault-clause-not_missing : goal.returns-in-Fault-clause-not_missing
returns-in-Fault-clause-not_missing c =
    fault_not_missing c.args.project.now c.as_slice.result.now c.in-Fault.fault c.fault_end.result c.fault_end.ensures
    (in_cell c.args.bytes.now c.in-Fault.fault (subst (IsRefused c.args.bytes.now) c.in-Fault.is c.in-Err.ensures.fault)).kind
