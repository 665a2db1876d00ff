-- How many more parentheses may be opened.
use Rattle.std.specs.Prelude.{ℕ, zero, suc, [], ◌∷◌, Option, Some, None}
use Rattle.ato_base.specs.declared.keywords.Mark.TheVariants as marks
use Rattle.ato_base.specs.declared.tokens.TokenKind.{TokenKind}
use Rattle.ato_base.specs.declared.tokens.TokenKind.TheVariants as kinds
use Rattle.ato_parser.specs.Tokens.{Tokens}

-- how many more behind a token, where so many more may be before it; none where it opens one too many
abbrev pub after_one : ℕ → TokenKind → Option ℕ
after_one zero (kinds.Mark marks.LeftParenthesis) = None
after_one (suc n) (kinds.Mark marks.LeftParenthesis) = Some n
after_one n (kinds.Mark marks.RightParenthesis) = Some (suc n)
after_one n _ = Some n

-- the same, where one too many may have been opened before
abbrev pub after : Option ℕ → TokenKind → Option ℕ
after None kind = None
after (Some n) kind = after_one n kind

-- the same behind tokens
abbrev pub left_to_open : Option ℕ → Tokens → Option ℕ
left_to_open before [] = before
left_to_open before (t ∷ ts) = left_to_open (after before t.kind) ts
