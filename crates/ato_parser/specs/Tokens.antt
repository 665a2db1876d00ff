-- Tokens in a row.
use Rattle.std.specs.Prelude.{◌≡◌, Bool, true, false, List, [], ◌∷◌}
use Rattle.ato_base.specs.declared.places.Span.{Span}
use Rattle.ato_base.specs.declared.tokens.Token.{Token}
use Rattle.ato_base.specs.declared.tokens.TokenKind.{TokenKind}
use Rattle.ato_base.specs.declared.tokens.TokenKind.TheVariants as kinds

abbrev pub Tokens : Type 0
Tokens = List Token

-- a token of this kind at this place
abbrev pub token : TokenKind → Span → Token
token kind at = record { kind = kind; at = at }

-- from the start of the one to the end of the other
abbrev pub cover : Span → Span → Span
cover a b = record { file = a.file; start = a.start; end = b.end }

-- where the last of the tokens stands; the place before them where there is none
abbrev pub last_at : Span → Tokens → Span
last_at before [] = before
last_at before (t ∷ ts) = last_at t.at ts

-- from the start of the first token to the end of the last; no part of a tree is without tokens, so what no tokens have does not
-- matter
abbrev pub extent : Tokens → Span
extent [] = record { file = record { 0 = 0 }; start = 0; end = 0 }
extent (t ∷ ts) = cover t.at (last_at t.at ts)

abbrev pub is_end : TokenKind → Bool
is_end kinds.End = true
is_end _ = false

-- the tokens end with END, and no other token is one
pub data EndsOnce : Tokens → Type 0 where
  just_end : (at : Span) → EndsOnce (token kinds.End at ∷ [])
  before_end : {t : Token} {ts : Tokens} → is_end t.kind ≡ false → EndsOnce ts → EndsOnce (t ∷ ts)
