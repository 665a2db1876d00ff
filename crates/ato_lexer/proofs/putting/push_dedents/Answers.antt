use Rattle.std.proofs.Common.{◌≡◌, suc, ◌+◌, ◌∷◌, [], ◌++◌, ap, ◌∙◌, append_assoc, arith}
use Rattle.std.specs.List.{repeat}
use Rattle.ato_base.specs.declared.tokens.TokenKind.TheVariants as kinds
use Rattle.ato_lexer.specs.Tokens.{token_at}
use Rattle.ato_lexer.proofs.LevelPuts.{repeat-last}
use Rattle.ato_lexer.proofs.putting.push_dedents.Goals as goal

pub dedents-preserved : goal.dedents-preserved
dedents-preserved c =
    let t = token_at c.args.file c.args.at c.args.at kinds.Dedent in
    let next : suc c.dedents.counter ≡ c.dedents.counter + 1 = omega arith in
    c.in_ok-push_empty.ensures ∙ ap (λ l. l ++ t ∷ []) c.dedents.invariant ∙ append_assoc c.args.tokens.now (repeat c.dedents.counter (t ∷ [])) (t ∷ [])
    ∙ ap (λ l. c.args.tokens.now ++ l) (repeat-last c.dedents.counter t ∙ ap (λ n. repeat n (t ∷ [])) next)
