use Rattle.std.proofs.Common.{rules, sym, subst, IfErr}
use Rattle.std.proofs.lemmas.Result.{err_from_is_err_and}
use Rattle.ato_files.specs.Answers.{IsRefused}
use Rattle.ato_files.specs.Replies.{ForReplies}
use Rattle.ato_files.proofs.ProjectLaws.{sound_program, faulty_stands, loaded_halts, never_missing, no_more_missing}
use Rattle.ato_files.proofs.projects.load_program.Goals as goal

pub returns-in-Sound-clause-program : goal.returns-in-Sound-clause-program
returns-in-Sound-clause-program g c = sound_program _ c.args.entry.now _ _ c.in_ok-names.ensures.loaded (search rules) (search rules)

pub returns-in_ok-read_files-in-Faulty-clause-refused : goal.returns-in_ok-read_files-in-Faulty-clause-refused
returns-in_ok-read_files-in-Faulty-clause-refused g c =
    faulty_stands g.S.Shelf.gets _ _ _ c.args.entry.now _ c.in-Faulty.fault c.in_ok-read_files-in-Faulty.field-0 c.in_ok-names.ensures.loaded (search rules) (search rules) c.in_ok-names.ensures.asked

pub returns-in_ok-read_files-in-Faulty-clause-misses : goal.returns-in_ok-read_files-in-Faulty-clause-misses
returns-in_ok-read_files-in-Faulty-clause-misses g c = no_more_missing _ _ _ _ (never_missing c.in_ok-names.files c.in-Faulty.fault (search rules)) c.in_ok-names.ensures.misses

pub returns-in_err-blocks-clause-refused : goal.returns-in_err-blocks-clause-refused
returns-in_err-blocks-clause-refused g c =
    let told = g.S.Shelf.files c.args.shelf.now in
    let p = err_from_is_err_and c.from_residual-in_err-blocks.result c.from_residual-in_err-blocks.ensures.1 in
    subst (λ r. IfErr r (λ e. ForReplies g.S.Shelf.gets c.args.shelf.now c.load_files.new.shelf (IsRefused told c.args.entry.now e))) (sym p.1)
    (subst (λ e. ForReplies g.S.Shelf.gets c.args.shelf.now c.load_files.new.shelf (IsRefused told c.args.entry.now e)) (sym p.2)
    (loaded_halts g.S.Shelf.gets _ _ told c.args.entry.now _ c.in_ok-names.ensures.loaded c.in_ok-names.ensures.asked))

pub returns-in_err-read_files-in-Faulty-clause-refused : goal.returns-in_err-read_files-in-Faulty-clause-refused
returns-in_err-read_files-in-Faulty-clause-refused g c =
    let told = g.S.Shelf.files c.args.shelf.now in
    let p = err_from_is_err_and c.from_residual-in_err-read_files-in-Faulty.result c.from_residual-in_err-read_files-in-Faulty.ensures.1 in
    subst (λ r. IfErr r (λ e. ForReplies g.S.Shelf.gets c.args.shelf.now c.load_files.new.shelf (IsRefused told c.args.entry.now e))) (sym p.1)
    (subst (λ e. ForReplies g.S.Shelf.gets c.args.shelf.now c.load_files.new.shelf (IsRefused told c.args.entry.now e)) (sym p.2)
    (loaded_halts g.S.Shelf.gets _ _ told c.args.entry.now _ c.in_ok-names.ensures.loaded c.in_ok-names.ensures.asked))
