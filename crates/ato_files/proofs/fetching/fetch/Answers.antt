use Rattle.std.proofs.Common.{sym, subst, ◌∙◌}
use Rattle.std.proofs.lemmas.Result.{err_from_is_err_and}
use Rattle.ato_files.specs.Fetching.{IsFetched}
use Rattle.ato_files.specs.Replies.{ForReplies}
use Rattle.ato_files.proofs.FetchLaws.{is_not_plain, not_plain_out}
use Rattle.ato_files.proofs.fetching.fetch.Goals as goal

pub returns-in_ok-file_fault-clause-fetched : goal.returns-in_ok-file_fault-clause-fetched
returns-in_ok-file_fault-clause-fetched g c =
    is_not_plain g.S.Shelf.gets c.args.shelf.now (g.S.Shelf.files c.args.shelf.now) c.args.name.now c.args.files.now _ (sym c.is_plain.ensures ∙ c.if-is_plain.false) c.in_ok-file_fault.ensures

pub returns-in_err-file_fault-clause-fetched : goal.returns-in_err-file_fault-clause-fetched
returns-in_err-file_fault-clause-fetched g c =
    let told = g.S.Shelf.files c.args.shelf.now in
    let p = err_from_is_err_and c.from_residual.result c.from_residual.ensures.1 in
    subst (λ r. ForReplies g.S.Shelf.gets c.args.shelf.now c.args.shelf.now (IsFetched told c.args.name.now c.args.files.now r)) (sym p.1)
    (not_plain_out g.S.Shelf.gets c.args.shelf.now told c.args.name.now c.args.files.now p.0)
