-- The same texts read from left to right.
use Rattle.std.specs.Prelude.{ℕ, ◌-◌, ◌==◌, Bool, true, false, ◌||◌, ◌&&◌, List, [], ◌∷◌, take, length, Option, Some, None, option_and_then, if◌then◌else◌}
use Rattle.std.specs.Char.{is_ascii_digit}
use Rattle.unicode_ident.specs.Ident.{is_xid_continue}
use Rattle.ato_base.specs.Names.{starts_name}
use Rattle.ato_units.specs.declared.quantities.Form.{Form}
use Rattle.ato_units.specs.declared.quantities.Form.TheVariants as forms
use Rattle.ato_units.specs.Literals.{is_blank, Token, number, unit, to, plus_minus, minus, keyword, word_token, Spelled, Literal}

-- what follows the characters at the front that pass a test
unfoldable pub past : (ℕ → Bool) → List ℕ → List ℕ
past test [] = []
past test (c ∷ cs) = if test c then past test cs else c ∷ cs

-- the front of a text, before what follows it
abbrev pub before : List ℕ → List ℕ → List ℕ
before text rest = take (length text - length rest) text

abbrev pub begins_with_digit : List ℕ → Bool
begins_with_digit [] = false
begins_with_digit (c ∷ cs) = is_ascii_digit c

-- what follows a point and digits, if they stand at the front
abbrev pub past_fraction : List ℕ → List ℕ
past_fraction [] = []
past_fraction (c ∷ cs) = if (c == 46) && begins_with_digit cs then past is_ascii_digit cs else c ∷ cs

-- what follows a sign, if it stands at the front
abbrev pub past_sign : List ℕ → List ℕ
past_sign [] = []
past_sign (c ∷ cs) = if (c == 43) || (c == 45) then cs else c ∷ cs

-- what follows `e` or `E`, a sign or none, and digits, if they stand at the front
abbrev pub past_exponent : List ℕ → List ℕ
past_exponent [] = []
past_exponent (c ∷ cs) = if ((c == 101) || (c == 69)) && begins_with_digit (past_sign cs) then past is_ascii_digit (past_sign cs) else c ∷ cs

-- what follows the number at the front
unfoldable pub past_number : List ℕ → List ℕ
past_number text = past_exponent (past_fraction (past is_ascii_digit text))

-- what follows the second and third character of `+/-`
abbrev pub past_minus : List ℕ → Option (List ℕ)
past_minus [] = None
past_minus (c ∷ cs) = if c == 45 then Some cs else None

abbrev pub past_slash : List ℕ → Option (List ℕ)
past_slash [] = None
past_slash (c ∷ cs) = if c == 47 then past_minus cs else None

abbrev pub then_plus_minus : Option (List ℕ) → Option (Token × List ℕ)
then_plus_minus None = None
then_plus_minus (Some rest) = Some (plus_minus, rest)

-- the mark that begins with a character, and what follows
abbrev pub front_mark : ℕ → List ℕ → Option (Token × List ℕ)
front_mark c cs =
    if c == 37 then Some (unit (c ∷ []), cs)
    else (if c == 45 then Some (minus, cs)
    else (if c == 0xB1 then Some (plus_minus, cs)
    else (if c == 43 then then_plus_minus (past_slash cs) else None)))

-- the token at the front, and what follows
unfoldable pub front_token : List ℕ → Option (Token × List ℕ)
front_token [] = None
front_token (c ∷ cs) =
    if is_ascii_digit c then Some (number (before (c ∷ cs) (past_number (c ∷ cs))), past_number (c ∷ cs))
    else (if starts_name c then Some (word_token (before (c ∷ cs) (past is_xid_continue cs)), past is_xid_continue cs)
    else front_mark c cs)

-- the token that comes next, after blanks
abbrev pub next_token : List ℕ → Option (Token × List ℕ)
next_token text = front_token (past is_blank text)

-- the unit that a token is
abbrev pub as_unit : Token → Option (List ℕ)
as_unit (number digits) = None
as_unit (unit text) = Some text
as_unit to = None
as_unit plus_minus = None
as_unit minus = None
as_unit keyword = None

-- the digits that a token is
abbrev pub as_number : Token → Option (List ℕ)
as_number (number digits) = Some digits
as_number (unit text) = None
as_number to = None
as_number plus_minus = None
as_number minus = None
as_number keyword = None

-- a number, the unit that was found after it, and what follows that; else what follows the number
abbrev pub found_unit : Bool → List ℕ → List ℕ → Option (List ℕ) → List ℕ → Spelled × List ℕ
found_unit negative digits rest None after = (record { negative = negative; digits = digits; unit = None }, rest)
found_unit negative digits rest (Some text) after = (record { negative = negative; digits = digits; unit = Some text }, after)

abbrev pub with_unit : Bool → List ℕ → List ℕ → Option (Token × List ℕ) → Spelled × List ℕ
with_unit negative digits rest None = (record { negative = negative; digits = digits; unit = None }, rest)
with_unit negative digits rest (Some cut) = found_unit negative digits rest (as_unit cut.0) cut.1

abbrev pub of_number : Bool → Option (List ℕ) → List ℕ → Option (Spelled × List ℕ)
of_number negative None rest = None
of_number negative (Some digits) rest = Some (with_unit negative digits rest (next_token rest))

-- a number, and a unit or none, and what follows
unfoldable pub front_unsigned : Bool → List ℕ → Option (Spelled × List ℕ)
front_unsigned negative text = option_and_then (λ cut. of_number negative (as_number cut.0) cut.1) (next_token text)

-- whether a minus sign comes first, and what follows that
abbrev pub after_sign : List ℕ → Option (Token × List ℕ) → Bool × List ℕ
after_sign text None = (false, text)
after_sign text (Some (number digits, rest)) = (false, text)
after_sign text (Some (unit u, rest)) = (false, text)
after_sign text (Some (to, rest)) = (false, text)
after_sign text (Some (plus_minus, rest)) = (false, text)
after_sign text (Some (minus, rest)) = (true, rest)
after_sign text (Some (keyword, rest)) = (false, text)

-- a part that may have a minus sign before its number
unfoldable pub front_part : List ℕ → Option (Spelled × List ℕ)
front_part text = front_unsigned (after_sign text (next_token text)).0 (after_sign text (next_token text)).1

abbrev pub is_nothing : List ℕ → Bool
is_nothing [] = true
is_nothing (c ∷ cs) = false

-- a literal, where nothing but blanks follows its second part
abbrev pub whole : Form → Spelled → Option (Spelled × List ℕ) → Option Literal
whole form first None = None
whole form first (Some cut) =
    if is_nothing (past is_blank cut.1) then Some (record { form = form; first = first; second = cut.0 }) else None

-- a literal whose first part was read, from what follows that
abbrev pub from_token : Spelled → List ℕ → Option (Token × List ℕ) → Option Literal
from_token first rest None = whole forms.One first (Some (first, rest))
from_token first rest (Some (number digits, after)) = None
from_token first rest (Some (unit u, after)) = None
from_token first rest (Some (to, after)) = whole forms.To first (front_part after)
from_token first rest (Some (plus_minus, after)) = whole forms.About first (front_unsigned false after)
from_token first rest (Some (minus, after)) = None
from_token first rest (Some (keyword, after)) = None

-- the literal that a text is
unfoldable pub read_literal : List ℕ → Option Literal
read_literal text = option_and_then (λ cut. from_token cut.0 cut.1 (next_token cut.1)) (front_part text)
