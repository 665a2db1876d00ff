-- The pieces of a text read from left to right: the kind of the piece in front, and what follows it.
use Rattle.std.specs.Prelude.{◌≡◌, ◌<◌, ◌++◌, length, ℕ, ◌==◌, ◌||◌, not, Bool, if◌then◌else◌, List, [], ◌∷◌, Option, Some, None, option_and_then}
use Rattle.std.specs.Char.{is_ascii_digit}
use Rattle.unicode_ident.specs.Ident.{is_xid_continue}
use Rattle.ato_base.specs.Names.{starts_name}
use Rattle.ato_base.specs.declared.keywords.Mark.{Mark}
use Rattle.ato_base.specs.declared.keywords.Mark.TheVariants as marks
use Rattle.ato_units.specs.LiteralReading.{past, before, past_number}
use Rattle.ato_lexer.specs.Pieces.{Kind, blank, comment, line_end, number, string, mark, bad_char, open_string, word_kind}

-- a text goes on behind one character or more
pub record GoesOn (text rest : List ℕ) : Type 0 where
  pub front : List ℕ
  pub some : 0 < length front
  pub text_is : text ≡ front ++ rest

-- what follows a character, if it stands in front
abbrev pub past_char : ℕ → List ℕ → Option (List ℕ)
past_char q [] = None
past_char q (c ∷ cs) = if c == q then Some cs else None

-- what follows two of a character, if they stand in front
abbrev pub past_two : ℕ → List ℕ → Option (List ℕ)
past_two q text = option_and_then (past_char q) (past_char q text)

-- what follows three of a character, if they stand in front
abbrev pub past_three : ℕ → List ℕ → Option (List ℕ)
past_three q text = option_and_then (past_two q) (past_char q text)

-- a character is no LF
abbrev pub is_in_line : ℕ → Bool
is_in_line c = not (c == 10)

-- what follows the next of this quote; none where a line ends before it
unfoldable pub after_quote : ℕ → List ℕ → Option (List ℕ)
after_quote q [] = None
after_quote q (c ∷ cs) = if c == q then Some cs else (if c == 10 then None else after_quote q cs)

-- one of two texts, the first if there is one
abbrev pub or_else : Option (List ℕ) → Option (List ℕ) → Option (List ℕ)
or_else None other = other
or_else (Some rest) other = Some rest

-- what follows the next three of this quote
unfoldable pub after_three : ℕ → List ℕ → Option (List ℕ)
after_three q [] = None
after_three q (c ∷ cs) = or_else (past_three q (c ∷ cs)) (after_three q cs)

-- a string and what follows it, or its first quote and what follows this
abbrev pub string_or_quote : ℕ → List ℕ → Option (List ℕ) → Kind × List ℕ
string_or_quote quotes cs None = (open_string, cs)
string_or_quote quotes cs (Some rest) = (string quotes, rest)

-- a string whose first quote is cut off, where two more quotes may follow
abbrev pub read_quoted : ℕ → List ℕ → Option (List ℕ) → Kind × List ℕ
read_quoted q cs None = string_or_quote 1 cs (after_quote q cs)
read_quoted q cs (Some inner) = string_or_quote 3 cs (after_three q inner)

-- a mark of two characters, or the mark of the first
abbrev pub longer_or : Mark → Mark → List ℕ → Option (List ℕ) → Kind × List ℕ
longer_or long short cs None = (mark short, cs)
longer_or long short cs (Some rest) = (mark long, rest)

-- the mark that begins with a character, and what follows
unfoldable pub read_mark : ℕ → List ℕ → Kind × List ℕ
read_mark c cs =
    if c == 43 then longer_or marks.PlusMinus marks.Plus cs (option_and_then (past_char 45) (past_char 47 cs))
    else (if c == 45 then longer_or marks.Arrow marks.Minus cs (past_char 62 cs)
    else (if c == 42 then longer_or marks.Power marks.Star cs (past_char 42 cs)
    else (if c == 60 then longer_or marks.LessEqual marks.Less cs (past_char 61 cs)
    else (if c == 62 then longer_or marks.GreaterEqual marks.Greater cs (past_char 61 cs)
    else (if c == 0xB1 then (mark marks.PlusMinus, cs)
    else (if c == 61 then (mark marks.Equal, cs)
    else (if c == 126 then (mark marks.Tilde, cs)
    else (if c == 58 then (mark marks.Colon, cs)
    else (if c == 59 then (mark marks.Semicolon, cs)
    else (if c == 44 then (mark marks.Comma, cs)
    else (if c == 46 then (mark marks.Dot, cs)
    else (if c == 40 then (mark marks.LeftParenthesis, cs)
    else (if c == 41 then (mark marks.RightParenthesis, cs)
    else (if c == 91 then (mark marks.LeftBracket, cs)
    else (if c == 93 then (mark marks.RightBracket, cs)
    else (if c == 47 then (mark marks.Slash, cs)
    else (if c == 124 then (mark marks.Bar, cs)
    else (if c == 37 then (mark marks.Percent, cs)
    else (bad_char, cs)))))))))))))))))))

-- a line end whose CR is cut off, or the CR alone
abbrev pub feed_or_bad : List ℕ → Option (List ℕ) → Kind × List ℕ
feed_or_bad cs None = (bad_char, cs)
feed_or_bad cs (Some rest) = (line_end, rest)

-- a number, a word or a mark, and what follows it
abbrev pub read_token : ℕ → List ℕ → Kind × List ℕ
read_token c cs =
    if is_ascii_digit c then (number, past_number (c ∷ cs))
    else (if starts_name c then (word_kind (before (c ∷ cs) (past is_xid_continue cs)), past is_xid_continue cs)
    else read_mark c cs)

-- the kind of the piece in front, and what follows the piece
unfoldable pub read_front : ℕ → List ℕ → Kind × List ℕ
read_front c cs =
    if (c == 32) || (c == 9) then (blank, cs)
    else (if c == 10 then (line_end, cs)
    else (if c == 13 then feed_or_bad cs (past_char 10 cs)
    else (if c == 35 then (comment, past is_in_line cs)
    else (if (c == 34) || (c == 39) then read_quoted c cs (past_two c cs)
    else read_token c cs))))

-- the same of a text, which may have no first character
abbrev pub read_first : List ℕ → Option (Kind × List ℕ)
read_first [] = None
read_first (c ∷ cs) = Some (read_front c cs)
