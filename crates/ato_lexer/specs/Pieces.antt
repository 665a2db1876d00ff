-- The pieces that a text is cut into from left to right. That each is the longest possible is a law about them (Spellings).
use Rattle.std.specs.Prelude.{ℕ, zero, suc, ◌+◌, ◌==◌, ◌||◌, Bool, true, false, if◌then◌else◌, List, [], ◌∷◌, take, drop, length, Option, Some, None}
use Rattle.std.specs.Char.{is_ascii_digit}
use Rattle.std.specs.List.{find}
use Rattle.std.specs.Str.{bytes_eq}
use Rattle.unicode_ident.specs.Ident.{is_xid_continue}
use Rattle.ato_base.specs.Keywords.{keyword_text, all_keywords}
use Rattle.ato_base.specs.Names.{starts_name}
use Rattle.ato_base.specs.declared.keywords.Keyword.{Keyword}
use Rattle.ato_base.specs.declared.keywords.Mark.{Mark}
use Rattle.ato_units.specs.LiteralReading.{past, before, past_number}
use Rattle.ato_lexer.specs.Fronts.{Written, begins, three, comment_len, before_quote, before_three, front_mark}

-- what a piece is. A string has one quote or three at each end. The last two are no pieces of a text that has tokens
pub data Kind : Type 0 where
  blank : Kind
  comment : Kind
  line_end : Kind
  name : Kind
  keyword : Keyword → Kind
  number : Kind
  string : ℕ → Kind
  mark : Mark → Kind
  bad_char : Kind
  open_string : Kind

-- one of the last two kinds
abbrev pub is_bad : Kind → Bool
is_bad bad_char = true
is_bad open_string = true
is_bad _ = false

-- a piece, and how it is spelled
pub record Piece : Type 0 where
  pub kind : Kind
  pub text : List ℕ

-- the piece of so many characters in front
abbrev pub piece : Kind → ℕ → List ℕ → Piece
piece kind n text = record { kind = kind; text = take n text }

-- a name, or the keyword that a word is
abbrev pub keyword_or_name : Option Keyword → Kind
keyword_or_name None = name
keyword_or_name (Some k) = keyword k

-- a word is the keyword that is written so, or else a name
abbrev pub word_kind : List ℕ → Kind
word_kind text = keyword_or_name (find (λ k. bytes_eq text (keyword_text k)) all_keywords)

-- a word as a piece
abbrev pub word_piece : List ℕ → Piece
word_piece text = record { kind = word_kind text; text = text }

-- a string whose contents have this length, or its first quote
abbrev pub string_or_open : ℕ → List ℕ → Option ℕ → Piece
string_or_open quotes text None = piece open_string 1 text
string_or_open quotes text (Some n) = piece (string quotes) (quotes + n + quotes) text

-- the string in front. Three quotes always begin a triple string
abbrev pub string_piece : ℕ → List ℕ → Piece
string_piece q text =
    if begins (three q) text then string_or_open 3 text (before_three q (drop 3 text))
    else string_or_open 1 text (before_quote q (drop 1 text))

-- a mark, or one character that begins nothing
abbrev pub mark_or_bad : List ℕ → Option Written → Piece
mark_or_bad text None = piece bad_char 1 text
mark_or_bad text (Some w) = piece (mark w.mark) (length w.text) text

-- the piece at the front of a text that has a first character
unfoldable pub front_piece : ℕ → List ℕ → Piece
front_piece c cs =
    if (c == 32) || (c == 9) then piece blank 1 (c ∷ cs)
    else (if c == 10 then piece line_end 1 (c ∷ cs)
    else (if begins (13 ∷ 10 ∷ []) (c ∷ cs) then piece line_end 2 (c ∷ cs)
    else (if c == 35 then piece comment (1 + comment_len cs) (c ∷ cs)
    else (if (c == 34) || (c == 39) then string_piece c (c ∷ cs)
    else (if is_ascii_digit c then record { kind = number; text = before (c ∷ cs) (past_number (c ∷ cs)) }
    else (if starts_name c then word_piece (before (c ∷ cs) (past is_xid_continue cs))
    else mark_or_bad (c ∷ cs) (front_mark (c ∷ cs))))))))

-- the same of any text: an empty one has no piece in front, which counts as a bad one
abbrev pub front_of : List ℕ → Piece
front_of [] = record { kind = bad_char; text = [] }
front_of (c ∷ cs) = front_piece c cs

-- the pieces of a text from left to right, so many at most
unfoldable pub pieces_within : ℕ → List ℕ → List Piece
pieces_within zero text = []
pieces_within (suc n) [] = []
pieces_within (suc n) (c ∷ cs) = front_piece c cs ∷ pieces_within n (drop (length (front_piece c cs).text) (c ∷ cs))

-- the pieces of a text from left to right. There are no more of them than characters
abbrev pub pieces_of : List ℕ → List Piece
pieces_of text = pieces_within (length text) text

-- the pieces of a whole text: U+FEFF at its start is a blank
unfoldable pub pieces : List ℕ → List Piece
pieces text = if begins (0xFEFF ∷ []) text then piece blank 1 text ∷ pieces_of (drop 1 text) else pieces_of text
