use Rattle.std.proofs.Common.{sym, subst}
use Rattle.std.proofs.lemmas.Result.{err_from_is_err_and}
use Rattle.ato_files.specs.Fetching.{IsFetched}
use Rattle.ato_files.specs.Replies.{ForReplies}
use Rattle.ato_files.proofs.FetchLaws.{is_missing, is_long, missing_out, long_out, call_out}
use Rattle.ato_files.proofs.fetching.fetch_plain.Goals as goal

pub returns-in_ok-file_fault-in-Missing-clause-fetched : goal.returns-in_ok-file_fault-in-Missing-clause-fetched
returns-in_ok-file_fault-in-Missing-clause-fetched g c =
    is_missing g.S.Shelf.gets _ _ (g.S.Shelf.files c.args.shelf.now) c.args.name.now c.args.files.now c.requires _ c.in_ok-ask.ensures.asked c.in_ok-ask.ensures.found _ c.in-Missing.is c.in_ok-file_fault-in-Missing.ensures

pub returns-in_ok-file_fault-in-TooLong-clause-fetched : goal.returns-in_ok-file_fault-in-TooLong-clause-fetched
returns-in_ok-file_fault-in-TooLong-clause-fetched g c =
    is_long g.S.Shelf.gets _ _ (g.S.Shelf.files c.args.shelf.now) c.args.name.now c.args.files.now c.requires _ c.in_ok-ask.ensures.asked c.in_ok-ask.ensures.found _ c.in-TooLong.is c.in_ok-file_fault-in-TooLong.ensures

pub returns-in_err-file_fault-in-Missing-clause-fetched : goal.returns-in_err-file_fault-in-Missing-clause-fetched
returns-in_err-file_fault-in-Missing-clause-fetched g c =
    let told = g.S.Shelf.files c.args.shelf.now in
    let p = err_from_is_err_and c.from_residual-in_err-file_fault-in-Missing.result c.from_residual-in_err-file_fault-in-Missing.ensures.1 in
    subst (λ r. ForReplies g.S.Shelf.gets c.args.shelf.now c.ask.new.shelf (IsFetched told c.args.name.now c.args.files.now r)) (sym p.1)
    (missing_out g.S.Shelf.gets _ _ told c.args.name.now c.args.files.now c.requires _ c.in_ok-ask.ensures.asked c.in_ok-ask.ensures.found p.0 c.in-Missing.is)

pub returns-in_err-file_fault-in-TooLong-clause-fetched : goal.returns-in_err-file_fault-in-TooLong-clause-fetched
returns-in_err-file_fault-in-TooLong-clause-fetched g c =
    let told = g.S.Shelf.files c.args.shelf.now in
    let p = err_from_is_err_and c.from_residual-in_err-file_fault-in-TooLong.result c.from_residual-in_err-file_fault-in-TooLong.ensures.1 in
    subst (λ r. ForReplies g.S.Shelf.gets c.args.shelf.now c.ask.new.shelf (IsFetched told c.args.name.now c.args.files.now r)) (sym p.1)
    (long_out g.S.Shelf.gets _ _ told c.args.name.now c.args.files.now c.requires _ c.in_ok-ask.ensures.asked c.in_ok-ask.ensures.found p.0 c.in-TooLong.is)

pub returns-in_err-ask-clause-fetched : goal.returns-in_err-ask-clause-fetched
returns-in_err-ask-clause-fetched g c =
    let told = g.S.Shelf.files c.args.shelf.now in
    let p = err_from_is_err_and c.from_residual.result c.from_residual.ensures.1 in
    subst (λ r. ForReplies g.S.Shelf.gets c.args.shelf.now c.ask.new.shelf (IsFetched told c.args.name.now c.args.files.now r)) (sym p.1)
    (call_out g.S.Shelf.gets _ _ told c.args.name.now c.args.files.now p.0 c.requires c.in_err-ask.ensures.asked)
