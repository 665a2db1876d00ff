use Rattle.ato_build.specs.Found.{Missing, TooLong, Whole}
use Rattle.ato_build.proofs.ReadingLemmas.{catalogue_end, catalogue_unread, has_missing, has_long}
use Rattle.ato_build.proofs.reading.read_catalogue.Goals as goal

pub returns-in-Missing-clause-reading : goal.returns-in-Missing-clause-reading
returns-in-Missing-clause-reading g c =
    catalogue_end (g.S.Shelf.files c.args.shelf.now) c.args.project.now c.args.source c.as_slice.result.now c.args.block Missing c.word_fault.result c.fault_end.result c.requires
    (has_missing (g.S.Shelf.files c.args.shelf.now) _ c.as_str.result.now c.args.project.now.catalogue c.in_ok-fetch.field-0 c.as_str.ensures c.in-Missing.is c.in_ok-fetch.ensures.found)
    c.word_fault.ensures c.as_slice.ensures c.fault_end.ensures

pub returns-in-TooLong-clause-reading : goal.returns-in-TooLong-clause-reading
returns-in-TooLong-clause-reading g c =
    catalogue_end (g.S.Shelf.files c.args.shelf.now) c.args.project.now c.args.source c.as_slice-in-TooLong.result.now c.args.block TooLong c.word_fault-in-TooLong.result c.fault_end-in-TooLong.result c.requires
    (has_long (g.S.Shelf.files c.args.shelf.now) _ c.as_str.result.now c.args.project.now.catalogue c.in_ok-fetch.field-0 c.as_str.ensures c.in-TooLong.is c.in_ok-fetch.ensures.found)
    c.word_fault-in-TooLong.ensures c.as_slice-in-TooLong.ensures c.fault_end-in-TooLong.ensures

pub returns-in-Whole-clause-missing : goal.returns-in-Whole-clause-missing
returns-in-Whole-clause-missing g c = λ f with is. absurd (c.sources_of.ensures.not_missing f with is)

pub returns-in_ok-unread-in-Failed-clause-reading : goal.returns-in_ok-unread-in-Failed-clause-reading
returns-in_ok-unread-in-Failed-clause-reading g c = λ read.
    catalogue_unread (g.S.Shelf.files c.args.shelf.now) c.args.project.now c.as_str-in-Failed.result.now c.in_ok-unread-in-Failed.field-0 c.in_ok-unread-in-Failed.ensures.status c.in_ok-unread-in-Failed.ensures.said
    (Whole c.args.source) c.args.block read c.requires c.as_str-in-Failed.ensures
