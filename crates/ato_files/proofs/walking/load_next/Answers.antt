use Rattle.std.proofs.Common.{ap, sym, subst, ◌∙◌, drop, IfErr, Ok}
use Rattle.std.proofs.lemmas.Result.{err_from_is_err_and}
use Rattle.ato_files.specs.Fetching.{IsFetched}
use Rattle.ato_files.specs.LoadSteps.{StopsBehind}
use Rattle.ato_files.specs.Replies.{ForReplies}
use Rattle.ato_files.proofs.ReplyLaws.{for_replies}
use Rattle.ato_files.proofs.WalkLaws.{fault_fetched, failed_fetched, halted_fetched, grown_fetched, stopped_fetched, loads_one, stops_with, misses_fetched}
use Rattle.ato_files.proofs.walking.load_next.Goals as goal

pub returns-in-Fault-clause-stopped : goal.returns-in-Fault-clause-stopped
returns-in-Fault-clause-stopped g c = λ entry l is called.
    let told = g.S.Shelf.files c.args.shelf.now in
    let given = subst (λ v. ForReplies g.S.Shelf.gets c.args.shelf.now c.fetch.new.shelf (IsFetched told c.as_str.result.now c.behind.result.now (Ok v))) c.in-Fault.is c.in_ok-fetch.ensures.fetched in
    for_replies g.S.Shelf.gets given (λ replies f. fault_fetched told entry c.args.walk.now l is c.args.name called c.as_str.result.now c.as_str.ensures c.behind.result.now (c.behind.ensures ∙ ap (drop 1) c.as_slice.ensures) c.in-Fault.fault replies f)

pub returns-in-Failed-clause-stopped : goal.returns-in-Failed-clause-stopped
returns-in-Failed-clause-stopped g c = λ entry l is called.
    let told = g.S.Shelf.files c.args.shelf.now in
    let given = subst (λ v. ForReplies g.S.Shelf.gets c.args.shelf.now c.fetch.new.shelf (IsFetched told c.as_str.result.now c.behind.result.now (Ok v))) c.in-Failed.is c.in_ok-fetch.ensures.fetched in
    for_replies g.S.Shelf.gets given (λ replies f. failed_fetched told entry c.args.walk.now l is c.args.name called c.as_str.result.now c.as_str.ensures c.behind.result.now (c.behind.ensures ∙ ap (drop 1) c.as_slice.ensures) replies f)

pub returns-in-Whole-clause-loaded : goal.returns-in-Whole-clause-loaded
returns-in-Whole-clause-loaded g c = λ entry l is called.
    let told = g.S.Shelf.files c.args.shelf.now in
    let given = subst (λ v. ForReplies g.S.Shelf.gets c.args.shelf.now c.fetch.new.shelf (IsFetched told c.as_str.result.now c.behind.result.now (Ok v))) c.in-Whole.is c.in_ok-fetch.ensures.fetched in
    grown_fetched told entry c.args.walk.now l is c.args.name called c.as_str.result.now c.as_str.ensures c.behind.result.now (c.behind.ensures ∙ ap (drop 1) c.as_slice.ensures) c.in-Whole.bytes given.replies c.add.new.walk c.add.result given.is c.add.ensures.added

pub returns-in-Whole-clause-asked : goal.returns-in-Whole-clause-asked
returns-in-Whole-clause-asked g c =
    let told = g.S.Shelf.files c.args.shelf.now in
    let given = subst (λ v. ForReplies g.S.Shelf.gets c.args.shelf.now c.fetch.new.shelf (IsFetched told c.as_str.result.now c.behind.result.now (Ok v))) c.in-Whole.is c.in_ok-fetch.ensures.fetched in
    loads_one g.S.Shelf.gets c.args.shelf.now c.fetch.new.shelf told c.as_str.result.now c.args.name c.in-Whole.bytes c.behind.result.now c.args.walk.now c.add.new.walk c.add.result c.as_str.ensures given c.add.ensures.added

pub returns-in-Whole-clause-stopped : goal.returns-in-Whole-clause-stopped
returns-in-Whole-clause-stopped g c = λ entry l is called.
    let told = g.S.Shelf.files c.args.shelf.now in
    let given = subst (λ v. ForReplies g.S.Shelf.gets c.args.shelf.now c.fetch.new.shelf (IsFetched told c.as_str.result.now c.behind.result.now (Ok v))) c.in-Whole.is c.in_ok-fetch.ensures.fetched in
    stops_with g.S.Shelf.gets c.args.shelf.now c.fetch.new.shelf told entry l c.add.result _ given (λ replies f. stopped_fetched told entry c.args.walk.now l is c.args.name called c.as_str.result.now c.as_str.ensures c.behind.result.now (c.behind.ensures ∙ ap (drop 1) c.as_slice.ensures) c.in-Whole.bytes replies c.add.result f c.add.ensures.stopped)

pub returns-in-Whole-clause-misses : goal.returns-in-Whole-clause-misses
returns-in-Whole-clause-misses g c =
    misses_fetched _ _ _ _ _ c.args.name c.in-Whole.bytes c.args.walk.now c.add.result c.in_ok-fetch.field-0 c.in-Whole.is c.in_ok-fetch.ensures.misses c.add.ensures.stopped

pub returns-in_err-fetch-clause-stopped : goal.returns-in_err-fetch-clause-stopped
returns-in_err-fetch-clause-stopped g c = λ entry l is called.
    let told = g.S.Shelf.files c.args.shelf.now in
    let p = err_from_is_err_and c.from_residual.result c.from_residual.ensures.1 in
    subst (λ r. IfErr r (λ stop. ForReplies g.S.Shelf.gets c.args.shelf.now c.fetch.new.shelf (StopsBehind told entry l stop))) (sym p.1)
    (subst (λ stop. ForReplies g.S.Shelf.gets c.args.shelf.now c.fetch.new.shelf (StopsBehind told entry l stop)) (sym p.2)
    (for_replies g.S.Shelf.gets c.in_err-fetch.ensures.fetched (λ replies f. halted_fetched told entry c.args.walk.now l is c.args.name called c.as_str.result.now c.as_str.ensures c.behind.result.now (c.behind.ensures ∙ ap (drop 1) c.as_slice.ensures) c.in_err-fetch.field-0.0 replies f)))
