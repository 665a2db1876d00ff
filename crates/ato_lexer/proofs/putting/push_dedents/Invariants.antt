use Rattle.std.proofs.Common.{◌≡◌, [], ◌∷◌, ◌++◌}
use Rattle.std.specs.List.{repeat}
use Rattle.ato_base.specs.declared.tokens.TokenKind.TheVariants as kinds
use Rattle.ato_lexer.specs.Tokens.{token_at}
use Rattle.ato_lexer.proofs.putting.push_dedents.Given as goal

abbrev pub invariant-dedents : goal.invariant-dedents
invariant-dedents l = l.tokens ≡ l.initial.tokens ++ repeat l.counter (token_at l.file l.at l.at kinds.Dedent ∷ [])
