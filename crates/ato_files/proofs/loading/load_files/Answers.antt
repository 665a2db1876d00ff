use Rattle.std.proofs.Common.{[], sym, subst, IfErr}
use Rattle.std.proofs.lemmas.Result.{err_from_is_err_and}
use Rattle.ato_outside.specs.Replies.{no_call}
use Rattle.ato_files.specs.Answers.{IsRefused}
use Rattle.ato_files.specs.Replies.{ForReplies}
use Rattle.ato_files.proofs.AnswerLaws.{done_loads, refused_misses, start_halts}
use Rattle.ato_files.proofs.ReplyLaws.{for_replies}
use Rattle.ato_files.proofs.loading.load_files.Goals as goal

pub load_all-requires : goal.load_all-requires
load_all-requires g c = (c.args.entry.now, c.in_ok-walk.ensures)

pub returns-in-Ok-clause-loaded : goal.returns-in-Ok-clause-loaded
returns-in-Ok-clause-loaded g c = done_loads (g.S.Shelf.files c.args.shelf.now) c.args.entry.now c.load_all.new.walk (c.in-Ok.ensures.loaded c.args.entry.now c.in_ok-walk.ensures)

pub returns-in-Ok-clause-misses : goal.returns-in-Ok-clause-misses
returns-in-Ok-clause-misses g c = c.in-Ok.ensures.missed c.args.entry.now c.in_ok-walk.ensures

pub returns-in-Err-clause-refused : goal.returns-in-Err-clause-refused
returns-in-Err-clause-refused g c =
    for_replies g.S.Shelf.gets (c.in-Err.ensures.stopped c.args.entry.now c.in_ok-walk.ensures) (λ replies stops. c.refuse.ensures.fault (g.S.Shelf.files c.args.shelf.now) c.args.entry.now replies stops)

pub returns-in-Err-clause-misses : goal.returns-in-Err-clause-misses
returns-in-Err-clause-misses g c =
    refused_misses _ _ _ _ _ _ _ c.refuse.ensures.missing c.refuse.ensures.missed c.refuse.ensures.out (c.in-Err.ensures.missed c.args.entry.now c.in_ok-walk.ensures)

pub returns-in_err-walk-clause-refused : goal.returns-in_err-walk-clause-refused
returns-in_err-walk-clause-refused g c =
    let told = g.S.Shelf.files c.args.shelf.now in
    let p = err_from_is_err_and c.from_residual.result c.from_residual.ensures.1 in
    subst (λ r. IfErr r (λ e. ForReplies g.S.Shelf.gets c.args.shelf.now c.args.shelf.now (IsRefused told c.args.entry.now e))) (sym p.1)
    (subst (λ e. ForReplies g.S.Shelf.gets c.args.shelf.now c.args.shelf.now (IsRefused told c.args.entry.now e)) (sym p.2)
    (record { replies = []; asks = no_call; is = start_halts told c.args.entry.now }))
