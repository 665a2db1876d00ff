-- What has to unfold so that the items of a worked text compute, and its tokens in short.
use Rattle.std.proofs.Common.{◌∷◌, [], Option, Some, None, ℕ, List, true, false}
use Rattle.std.specs.Str.{chars, is_utf8}
use Rattle.std.specs.Str.Lossy.{utf8_valid_len}
use lib.Utf8.{encode}
use Rattle.unicode_ident.proofs.Computing.{unicode_ident}
use Rattle.ato_base.specs.NameTable.{with_names}
use Rattle.ato_base.specs.declared.places.FileId.{FileId}
use Rattle.ato_base.specs.declared.faults.Fault.{Fault}
use Rattle.ato_base.specs.declared.faults.FaultKind.{FaultKind}
use Rattle.ato_base.specs.declared.tokens.Token.{Token}
use Rattle.ato_base.specs.declared.tokens.TokenKind.{TokenKind}
use Rattle.ato_base.specs.declared.tokens.TokenKind.TheVariants as kinds
use Rattle.ato_units.specs.LiteralReading.{past, past_number}
use Rattle.ato_lexer.specs.WideNumbers.{is_wide}
use Rattle.ato_lexer.specs.Pieces.{front_piece, pieces_within, pieces}
use Rattle.ato_lexer.specs.Lines.{logical_lines}
use Rattle.ato_lexer.specs.Layout.{laid_out}
use Rattle.ato_lexer.specs.Tokens.{items, first_fault, tokens_of, names_in, token_at, fault_at}

unfoldable pub on_literals : Unit {0}
unfolding unicode_ident utf8_valid_len chars is_utf8 encode is_wide past past_number front_piece pieces_within pieces logical_lines laid_out items first_fault
on_literals = tt

-- the file of the rows
abbrev pub file : FileId
file = record { 0 = 1 }

-- the tokens of a text, with the table of its own names
abbrev pub read : List ℕ → List Token
read text = tokens_of (with_names [] (names_in text)) file text

-- a token
abbrev pub at : ℕ → ℕ → TokenKind → Token
at start stop kind = token_at file start stop kind

-- the name with this number
abbrev pub name : ℕ → TokenKind
name n = kinds.Name (record { 0 = n })

-- a whole number with this value
abbrev pub whole : ℕ → ℕ → ℕ → Token
whole start stop value = at start stop (kinds.Number true (Some value) (record { file = file; start = start; end = stop }))

-- a number with a point or an exponent
abbrev pub decimal : ℕ → ℕ → Token
decimal start stop = at start stop (kinds.Number false None (record { file = file; start = start; end = stop }))

-- NEWLINE behind the last token, and END
abbrev pub ending : ℕ → ℕ → List Token
ending last size = at last last kinds.Newline ∷ at size size kinds.End ∷ []

-- the first fault of a text
abbrev pub first : List ℕ → Option Fault
first text = first_fault file text

-- a fault at these bytes
abbrev pub bad : FaultKind → ℕ → ℕ → Option Fault
bad kind start stop = Some (fault_at file kind start stop)
