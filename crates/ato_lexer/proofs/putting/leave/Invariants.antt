use Rattle.std.proofs.Common.{◌≡◌, ℕ, ◌+◌, [], ◌∷◌, ◌++◌, reverse, vec_len}
use Rattle.std.specs.List.{repeat}
use Rattle.ato_base.specs.declared.tokens.TokenKind.TheVariants as kinds
use Rattle.ato_lexer.specs.Layout.{left, kept}
use Rattle.ato_lexer.specs.Tokens.{token_at}
use Rattle.ato_lexer.proofs.putting.leave.Given as goal

abbrev pub invariant-levels : goal.invariant-levels
invariant-levels l = (n : ℕ)
    × (l.tokens ≡ l.initial.tokens ++ repeat n (token_at l.file l.at l.at kinds.Dedent ∷ []))
    × (left l.depth (reverse l.initial.levels.items) ≡ n + left l.depth (reverse l.levels.items))
    × (kept l.depth (reverse l.initial.levels.items) ≡ kept l.depth (reverse l.levels.items))

abbrev pub decreases-levels : goal.decreases-levels
decreases-levels l = vec_len l.levels
