use Rattle.std.proofs.Common.{refl}
use Rattle.ato_build.specs.Found.{Missing, TooLong}
use Rattle.ato_build.proofs.CheckLemmas.{certificate_refused, certificate_unread, certificate_judged}
use Rattle.ato_build.proofs.ReadingLemmas.{has_whole, has_missing, has_long}
use Rattle.ato_build.proofs.checking.check_sources.Goals as goal

pub returns-in-Failed-clause-means : goal.returns-in-Failed-clause-means
returns-in-Failed-clause-means g c = λ words check tray job same named read.
    certificate_unread words (g.S.Shelf.files c.args.shelf.now) tray check c.args.project.now c.args.cert.now c.args.sources.now job same named read
    c.unread.result c.unread.ensures.status c.unread.ensures.said

pub returns-in-Missing-clause-means : goal.returns-in-Missing-clause-means
returns-in-Missing-clause-means g c = λ words check tray job same named read.
    certificate_refused words (g.S.Shelf.files c.args.shelf.now) tray check c.args.project.now c.args.cert.now c.args.sources.now job same named read
    Missing c.word_fault.result c.as_slice-source.result.now c.refuse.result
    (has_missing (g.S.Shelf.files c.args.shelf.now) _ c.args.cert.now c.args.cert.now c.in_ok-fetch.field-0 refl c.in-Missing.is c.in_ok-fetch.ensures.found)
    c.word_fault.ensures c.as_slice-source.ensures c.refuse.ensures.status c.refuse.ensures.said

pub returns-in-TooLong-clause-means : goal.returns-in-TooLong-clause-means
returns-in-TooLong-clause-means g c = λ words check tray job same named read.
    certificate_refused words (g.S.Shelf.files c.args.shelf.now) tray check c.args.project.now c.args.cert.now c.args.sources.now job same named read
    TooLong c.word_fault-in-TooLong.result c.as_slice-source.result.now c.refuse-in-TooLong.result
    (has_long (g.S.Shelf.files c.args.shelf.now) _ c.args.cert.now c.args.cert.now c.in_ok-fetch.field-0 refl c.in-TooLong.is c.in_ok-fetch.ensures.found)
    c.word_fault-in-TooLong.ensures c.as_slice-source.ensures c.refuse-in-TooLong.ensures.status c.refuse-in-TooLong.ensures.said

pub returns-in-Whole-clause-means : goal.returns-in-Whole-clause-means
returns-in-Whole-clause-means g c = λ words check tray job same named read.
    certificate_judged words (g.S.Shelf.files c.args.shelf.now) tray check c.args.project.now c.args.cert.now c.args.sources.now job same named read
    c.as_slice.result.now c.judge_block.result
    (has_whole (g.S.Shelf.files c.args.shelf.now) _ c.args.cert.now c.args.cert.now c.in_ok-fetch.field-0 c.in-Whole.bytes c.as_slice.result.now refl c.as_slice.ensures c.in-Whole.is c.in_ok-fetch.ensures.found)
    c.judge_block.ensures.verdict c.judge_block.ensures.judgement
