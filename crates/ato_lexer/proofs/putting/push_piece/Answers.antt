use Rattle.std.proofs.Common.{◌∷◌, [], sym, subst}
use Rattle.ato_lexer.specs.Layout.{token_item}
use Rattle.ato_lexer.specs.Puts.{Puts, placed_as}
use Rattle.ato_lexer.proofs.putting.push_piece.Goals as goal

pub returns-in_ok-push_number-in-Number-clause-puts : goal.returns-in_ok-push_number-in-Number-clause-puts
returns-in_ok-push_number-in-Number-clause-puts c =
    subst (λ s. Puts c.args.piece.at.file c.args.names.now c.args.names.now c.args.tokens.now c.push_number.new.tokens (token_item (placed_as s c.args.piece.text.now c.args.piece.at.start c.args.piece.at.end) ∷ []))
    (sym c.in-Number.is) (c.in_ok-push_number-in-Number.ensures.puts c.args.names.now)
