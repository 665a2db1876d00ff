use Rattle.std.proofs.Common.{subst, sym, ◌∙◌}
use Rattle.ato_build.specs.Entry.{IsEntryRefusal, StandsInEntry}
use Rattle.ato_build.specs.Found.{Whole}
use Rattle.ato_build.proofs.ReadingLemmas.{entry_end}
use Rattle.ato_build.proofs.WithinLemmas.{stands_within, stands_alone, stands_pathless, alone_within}
use Rattle.ato_build.proofs.reading.read_block.Goals as goal

pub fault_end-requires : goal.fault_end-requires
fault_end-requires g c =
    let stands = subst (λ s. StandsInEntry c.args.project.now (Whole s) c.in-Fault.fault) (c.as_slice.ensures ∙ sym c.as_slice-in-Fault.ensures)
    (subst (IsEntryRefusal c.args.project.now (Whole c.as_slice.result.now)) c.in-Fault.is c.in-Err.ensures.refused) in
    record {
      at = stands_within c.args.project.now c.as_slice-in-Fault.result.now c.in-Fault.fault stands;
      other = alone_within c.as_slice-in-Fault.result.now c.in-Fault.fault (stands_alone c.args.project.now c.as_slice-in-Fault.result.now c.in-Fault.fault stands);
      path = stands_pathless c.args.project.now c.as_slice-in-Fault.result.now c.in-Fault.fault stands;
    }

pub returns-in-Fault-clause-reading : goal.returns-in-Fault-clause-reading
returns-in-Fault-clause-reading g c =
    entry_end (g.S.Shelf.files c.args.shelf.now) c.args.project.now c.args.source c.as_slice-in-Fault.result.now c.in-Fault.fault c.fault_end.result
    (subst (λ s. StandsInEntry c.args.project.now (Whole s) c.in-Fault.fault) c.as_slice.ensures (subst (IsEntryRefusal c.args.project.now (Whole c.as_slice.result.now)) c.in-Fault.is c.in-Err.ensures.refused))
    c.as_slice-in-Fault.ensures c.fault_end.ensures
