-- Tokens for worked rows, a byte each, and what single ones spell.
use Rattle.std.proofs.Common.{ℕ, suc, List, [], ◌∷◌, true, false, if◌then◌else◌, Some, None, refl, ap}
use denote.Enum.Bare.{true_same}
use Rattle.ato_base.specs.contracts.keywords.Mark.{the_type as mark_type}
use Rattle.ato_base.specs.contracts.keywords.Keyword.{the_type as keyword_type}
use Rattle.ato_base.specs.declared.places.Span.{Span}
use Rattle.ato_base.specs.declared.keywords.Keyword.{Keyword}
use Rattle.ato_base.specs.declared.keywords.Mark.{Mark}
use Rattle.ato_base.specs.declared.tokens.TokenKind.{TokenKind}
use Rattle.ato_base.specs.declared.tokens.TokenKind.TheVariants as kinds
use Rattle.ato_ast.specs.declared.names.Named.{Named}
use Rattle.ato_ast.specs.declared.names.Number.{Number}
use Rattle.ato_ast.specs.declared.names.Quoted.{Quoted}
use Rattle.ato_parser.specs.Tokens.{Tokens, token}
use Rattle.ato_parser.specs.Kinds.{same_mark, same_keyword}
use Rattle.ato_parser.specs.Pieces.{then_spells, one_token, nothing}
use Rattle.ato_parser.specs.TokenPieces.{mark, keyword, name, text}

-- from one byte of a file to before another
abbrev pub bytes : ℕ → ℕ → Span
bytes a b = record { file = record { 0 = 7 }; start = a; end = b }

abbrev pub byte : ℕ → Span
byte n = bytes n (suc n)

-- tokens of these kinds, a byte each, from a byte on
abbrev pub from : ℕ → List TokenKind → Tokens
from n [] = []
from n (k ∷ ks) = token k (byte n) ∷ from (suc n) ks

abbrev pub row : List TokenKind → Tokens
row ks = from 0 ks

-- a name, by its number
abbrev pub word : ℕ → TokenKind
word n = kinds.Name (record { 0 = n })

-- a whole number
abbrev pub digits : ℕ → TokenKind
digits n = kinds.Number true (Some n) (byte n)

-- a number with a point
abbrev pub fraction : ℕ → TokenKind
fraction n = kinds.Number false None (byte n)

-- a string, by where its contents stand
abbrev pub quote : ℕ → TokenKind
quote n = kinds.Str (byte n)

abbrev pub sign : Mark → TokenKind
sign m = kinds.Mark m

abbrev pub key : Keyword → TokenKind
key w = kinds.Keyword w

-- ---- their values

-- a name at a byte
abbrev pub named : ℕ → ℕ → Named
named n at = record { name = record { 0 = n }; at = byte at }

abbrev pub integer : ℕ → Number
integer n = record { whole = true; small = Some n; at = byte n }

abbrev pub decimal : ℕ → Number
decimal n = record { whole = false; small = None; at = byte n }

abbrev pub quoted : ℕ → ℕ → Quoted
quoted n at = record { contents = byte n; at = byte at }

-- ---- what spells them

pub a_name : (n at : ℕ) → name.Spells (named n at) (from at (word n ∷ []))
a_name n at = then_spells (one_token (word n) (byte at) refl) nothing

pub a_text : (n at : ℕ) → text.Spells (quoted n at) (from at (quote n ∷ []))
a_text n at = then_spells (one_token (quote n) (byte at) refl) nothing

pub a_mark : (m : Mark) (at : ℕ) → (mark m).Spells (tt, byte at) (from at (sign m ∷ []))
unfolding same_mark
a_mark m at = one_token (sign m) (byte at) (ap (λ b. if b then Some tt else None) (true_same mark_type m m refl))

pub a_keyword : (w : Keyword) (at : ℕ) → (keyword w).Spells (tt, byte at) (from at (key w ∷ []))
unfolding same_keyword
a_keyword w at = one_token (key w) (byte at) (ap (λ b. if b then Some tt else None) (true_same keyword_type w w refl))
