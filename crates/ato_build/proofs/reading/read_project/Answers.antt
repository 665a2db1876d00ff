use Rattle.std.proofs.Common.{refl, []}
use Rattle.ato_build.specs.Found.{Missing, TooLong}
use Rattle.ato_build.proofs.ReadingLemmas.{entry_ended, entry_unread, has_missing, has_long, rose_since}
use Rattle.ato_build.proofs.reading.read_project.Goals as goal

pub returns-in-Missing-clause-reading : goal.returns-in-Missing-clause-reading
returns-in-Missing-clause-reading g c =
    entry_ended (g.S.Shelf.files c.args.shelf.now) c.args.project.now Missing c.word_fault.result []
    (has_missing (g.S.Shelf.files c.args.shelf.now) _ c.as_str.result.now c.args.project.now.file c.in_ok-fetch.field-0 c.as_str.ensures c.in-Missing.is c.in_ok-fetch.ensures.found) refl
    c.fault_end.result c.word_fault.ensures c.fault_end.ensures

pub returns-in-TooLong-clause-reading : goal.returns-in-TooLong-clause-reading
returns-in-TooLong-clause-reading g c =
    entry_ended (g.S.Shelf.files c.args.shelf.now) c.args.project.now TooLong c.word_fault-in-TooLong.result []
    (has_long (g.S.Shelf.files c.args.shelf.now) _ c.as_str.result.now c.args.project.now.file c.in_ok-fetch.field-0 c.as_str.ensures c.in-TooLong.is c.in_ok-fetch.ensures.found) refl
    c.fault_end-in-TooLong.result c.word_fault-in-TooLong.ensures c.fault_end-in-TooLong.ensures

pub returns-in-Whole-clause-missing : goal.returns-in-Whole-clause-missing
returns-in-Whole-clause-missing g c = λ f with is. rose_since _ _ _ c.in_ok-fetch.ensures.misses (c.read_block.ensures.missing f with is)

pub returns-in_ok-unread-in-Failed-clause-reading : goal.returns-in_ok-unread-in-Failed-clause-reading
returns-in_ok-unread-in-Failed-clause-reading g c =
    entry_unread (g.S.Shelf.files c.args.shelf.now) c.args.project.now c.as_str-in-Failed.result.now c.in_ok-unread-in-Failed.field-0 c.in_ok-unread-in-Failed.ensures.status c.in_ok-unread-in-Failed.ensures.said
    c.as_str-in-Failed.ensures
