-- The tokens of a source file, or its first fault.
use Rattle.std.specs.Prelude.{◌≡◌, ℕ, ◌+◌, ◌-◌, ◌&&◌, not, nat_le, Bool, if◌then◌else◌, List, [], ◌∷◌, length, Option, Some, None}
use Rattle.std.specs.Char.{is_ascii_digit}
use Rattle.std.specs.List.{filter_map, flat_map, take_while, list_all}
use Rattle.std.specs.Str.{chars, is_utf8, encode_utf8_all}
use Rattle.std.specs.Str.Lossy.{utf8_valid_len}
use Rattle.ato_base.specs.NameTable.{number_of, with_names}
use Rattle.ato_base.specs.declared.places.FileId.{FileId}
use Rattle.ato_base.specs.declared.places.Place.TheVariants as places
use Rattle.ato_base.specs.declared.tokens.Token.{Token}
use Rattle.ato_base.specs.declared.tokens.TokenKind.{TokenKind}
use Rattle.ato_base.specs.declared.tokens.TokenKind.TheVariants as kinds
use Rattle.ato_base.specs.declared.faults.Fault.{Fault}
use Rattle.ato_base.specs.declared.faults.FaultKind.{FaultKind}
use Rattle.ato_base.specs.declared.faults.FaultKind.TheVariants as faults
use Rattle.ato_base.specs.declared.faults.Refusal.{Refusal}
use Rattle.ato_base.specs.declared.faults.Refusal.TheVariants as refusals
use Rattle.ato_frac.specs.Numbers.{digits_value}
use Rattle.ato_lexer.specs.Pieces.{Kind, is_bad, pieces, name, keyword, number, string, mark, bad_char, open_string}
use Rattle.ato_lexer.specs.Lines.{Placed, placed, logical_lines}
use Rattle.ato_lexer.specs.Layout.{Item, laid_out, token, newline, indent, dedent, end, fault}

-- the fault that a piece is by its kind
abbrev pub bad_kind : Kind → Option FaultKind
bad_kind bad_char = Some faults.BadChar
bad_kind open_string = Some faults.OpenString
bad_kind _ = None

-- a piece is no fault by its kind
abbrev pub is_good : Placed → Bool
is_good p = not (is_bad p.piece.kind)

-- a fault at the place of a piece
abbrev pub bad_item : Placed → Option FaultKind → List Item
bad_item p None = []
bad_item p (Some k) = fault k p.start p.end ∷ []

-- the pieces that are faults by their kinds
abbrev pub bad_items : List Placed → List Item
bad_items ps = flat_map (λ p. bad_item p (bad_kind p.piece.kind)) ps

-- the pieces of a file, with their places
abbrev pub pieces_in : List ℕ → List Placed
pieces_in bytes = placed 0 (pieces (chars bytes))

-- what stands in a file, in the order of places, up to the first piece that is a fault by its kind
unfoldable pub items : List ℕ → List Item
items bytes = laid_out [] (length bytes) (bad_items (pieces_in bytes)) (logical_lines (take_while is_good (pieces_in bytes)))

-- a token of a file at these bytes
abbrev pub token_at : FileId → ℕ → ℕ → TokenKind → Token
token_at file start stop kind = record { kind = kind; at = record { file = file; start = start; end = stop } }

-- the value of digits alone, where it is at most 65,535
abbrev pub small_value : List ℕ → Option ℕ
small_value text = if list_all is_ascii_digit text && nat_le (digits_value text) 65535 then Some (digits_value text) else None

-- what the token of a piece is, with names by their numbers in a table; a blank or a fault is none
abbrev pub kind_of : List (List ℕ) → FileId → Placed → Kind → Option TokenKind
kind_of names file p name = Some (kinds.Name (record { 0 = number_of names (encode_utf8_all p.piece.text) }))
kind_of names file p (keyword k) = Some (kinds.Keyword k)
kind_of names file p number = Some (kinds.Number (list_all is_ascii_digit p.piece.text) (small_value p.piece.text) (record { file = file; start = p.start; end = p.end }))
kind_of names file p (string quotes) = Some (kinds.Str (record { file = file; start = p.start + quotes; end = p.end - quotes }))
kind_of names file p (mark m) = Some (kinds.Mark m)
kind_of names file p _ = None

-- a token where a piece stands
abbrev pub with_place : FileId → Placed → Option TokenKind → Option Token
with_place file p None = None
with_place file p (Some kind) = Some (token_at file p.start p.end kind)

-- the token that an item is; a fault is none
abbrev pub item_token : List (List ℕ) → FileId → Item → Option Token
item_token names file (token p) = with_place file p (kind_of names file p p.piece.kind)
item_token names file (newline at) = Some (token_at file at at kinds.Newline)
item_token names file (indent at) = Some (token_at file at at kinds.Indent)
item_token names file (dedent at) = Some (token_at file at at kinds.Dedent)
item_token names file (end at) = Some (token_at file at at kinds.End)
item_token names file (fault k start stop) = None

-- the tokens of a file, with names by their numbers in a table
abbrev pub tokens_of : List (List ℕ) → FileId → List ℕ → List Token
tokens_of names file bytes = filter_map (item_token names file) (items bytes)

-- a fault at these bytes
abbrev pub fault_at : FileId → FaultKind → ℕ → ℕ → Fault
fault_at file kind start stop = record { kind = kind; at = places.Source (record { file = file; start = start; end = stop }); other = None; path = [] }

-- the first of some items that is a fault
abbrev pub first_of : FileId → List Item → Option Fault
first_of file [] = None
first_of file (fault k start stop ∷ is) = Some (fault_at file k start stop)
first_of file (i ∷ is) = first_of file is

-- the first fault of a file: the first byte at which no whole character begins, or else the first that stands among its items
unfoldable pub first_fault : FileId → List ℕ → Option Fault
first_fault file bytes =
    if is_utf8 bytes then first_of file (items bytes)
    else Some (fault_at file faults.BadText (utf8_valid_len bytes) (utf8_valid_len bytes + 1))

-- the text of a piece that is a name
abbrev pub piece_name : Placed → Kind → Option (List ℕ)
piece_name p name = Some (encode_utf8_all p.piece.text)
piece_name p _ = None

-- the text of an item that is a name
abbrev pub item_name : Item → Option (List ℕ)
item_name (token p) = piece_name p p.piece.kind
item_name _ = None

-- the names of a file in the order of their mentions
abbrev pub names_in : List ℕ → List (List ℕ)
names_in bytes = filter_map item_name (items bytes)

-- there is no fault, these are the tokens, and the table has got the names of the file and no others
pub record AreTokens (bytes : List ℕ) (file : FileId) (old new : List (List ℕ)) (tokens : List Token) : Type 0 where
  pub no_fault : first_fault file bytes ≡ None
  pub names_are : new ≡ with_names old (names_in bytes)
  pub tokens_are : tokens ≡ tokens_of new file bytes

-- why there are no tokens: want of memory, or the first fault
abbrev pub IsRefused : List ℕ → FileId → Refusal → Type 0
IsRefused bytes file refusals.NoMemory = Unit {0}
IsRefused bytes file (refusals.Fault f) = first_fault file bytes ≡ Some f
