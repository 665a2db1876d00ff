use Rattle.std.proofs.Common.{reverse, refl, subst, ◌∷◌, []}
use Rattle.std.proofs.lemmas.Result.{err_from_is_err_and}
use Rattle.ato_lexer.specs.Layout.{steps, token_item}
use Rattle.ato_lexer.specs.Puts.{Puts, StopsAt, placed_of}
use Rattle.ato_lexer.proofs.PutLaws.{puts_more, stops_front, stops_past, put_first}
use Rattle.ato_lexer.proofs.scanning.put_first.Goals as goal

pub returns-in_err-begin_line-clause-stops : goal.returns-in_err-begin_line-clause-stops
returns-in_err-begin_line-clause-stops c =
    let p = placed_of c.args.piece in
    let levels = reverse c.args.levels.now.items in
    let q = err_from_is_err_and c.from_residual.result c.from_residual.ensures.1 in
    rw (q.1, q.2)
    (subst (λ is. StopsAt c.args.piece.at.file is c.in_err-begin_line.field-0.0) (put_first levels c.args.column p c.requires.token)
    (stops_front c.args.piece.at.file (steps c.args.column p levels) (token_item p ∷ []) c.in_err-begin_line.field-0.0 (c.in_err-begin_line.ensures.stops p refl refl)))

pub returns-in_err-push_piece-clause-stops : goal.returns-in_err-push_piece-clause-stops
returns-in_err-push_piece-clause-stops c =
    let p = placed_of c.args.piece in
    let levels = reverse c.args.levels.now.items in
    let q = err_from_is_err_and c.from_residual-in_err-push_piece.result c.from_residual-in_err-push_piece.ensures.1 in
    let put = c.in_ok-begin_line.ensures.puts p c.args.names.now refl refl in
    rw (q.1, q.2)
    (subst (λ is. StopsAt c.args.piece.at.file is c.in_err-push_piece.field-0.0) (put_first levels c.args.column p c.requires.token)
    (stops_past c.args.piece.at.file (steps c.args.column p levels) (token_item p ∷ []) c.in_err-push_piece.field-0.0 put.sound c.in_err-push_piece.ensures.stops))

pub returns-clause-puts : goal.returns-clause-puts
returns-clause-puts c =
    let p = placed_of c.args.piece in
    let levels = reverse c.args.levels.now.items in
    let put = c.in_ok-begin_line.ensures.puts p c.args.names.now refl refl in
    subst (Puts c.args.piece.at.file c.args.names.now c.push_piece.new.names c.args.tokens.now c.push_piece.new.tokens) (put_first levels c.args.column p c.requires.token)
    (puts_more c.args.piece.at.file c.args.names.now c.args.names.now c.push_piece.new.names c.args.tokens.now c.begin_line.new.tokens c.push_piece.new.tokens
    (steps c.args.column p levels) (token_item p ∷ []) put c.in_ok-push_piece.ensures.puts)
