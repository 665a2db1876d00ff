-- Worked texts: their tokens.
use Rattle.std.proofs.Common.{◌≡◌, ◌∷◌, [], None, codes, refl, true}
use Rattle.std.specs.List.{repeat}
use Rattle.ato_base.specs.declared.tokens.TokenKind.TheVariants as kinds
use Rattle.ato_base.specs.declared.keywords.Keyword.TheVariants as words
use Rattle.ato_base.specs.declared.keywords.Mark.TheVariants as marks
use Rattle.ato_lexer.proofs.Computing.{on_literals, file, read, at, name, whole, decimal, ending}

pub tolerance : read (codes "10kohm +/- 5%") ≡
    whole 0 2 10 ∷ at 2 6 (name 0) ∷ at 7 10 (kinds.Mark marks.PlusMinus) ∷ whole 11 12 5 ∷ at 12 13 (kinds.Mark marks.Percent) ∷ ending 13 13
unfolding on_literals
tolerance = refl

pub exponent : read (codes "1e3ohm") ≡
    decimal 0 3 ∷ at 3 6 (name 0) ∷ ending 6 6
unfolding on_literals
exponent = refl

pub no_exponent : read (codes "1em") ≡
    whole 0 1 1 ∷ at 1 3 (name 0) ∷ ending 3 3
unfolding on_literals
no_exponent = refl

pub pin_number : read (codes "a.1.b") ≡
    at 0 1 (name 0) ∷ at 1 2 (kinds.Mark marks.Dot) ∷ whole 2 3 1 ∷ at 3 4 (kinds.Mark marks.Dot) ∷ at 4 5 (name 1) ∷ ending 5 5
unfolding on_literals
pin_number = refl

pub power : read (codes "x**2") ≡
    at 0 1 (name 0) ∷ at 1 3 (kinds.Mark marks.Power) ∷ whole 3 4 2 ∷ ending 4 4
unfolding on_literals
power = refl

pub four_quotes : read (codes "\"\"\"\"a\"\"\"") ≡
    at 0 8 (kinds.Str (record { file = file; start = 3; end = 5 })) ∷ ending 8 8
unfolding on_literals
four_quotes = refl

pub plus_minus_sign : read (49 ∷ 0xC2 ∷ 0xB1 ∷ 50 ∷ []) ≡
    whole 0 1 1 ∷ at 1 3 (kinds.Mark marks.PlusMinus) ∷ whole 3 4 2 ∷ ending 4 4
unfolding on_literals
plus_minus_sign = refl

pub point_without_digits : read (codes "1..2") ≡
    whole 0 1 1 ∷ at 1 2 (kinds.Mark marks.Dot) ∷ at 2 3 (kinds.Mark marks.Dot) ∷ whole 3 4 2 ∷ ending 4 4
unfolding on_literals
point_without_digits = refl

pub sign_without_digits : read (codes "1.5e+") ≡
    decimal 0 3 ∷ at 3 4 (name 0) ∷ at 4 5 (kinds.Mark marks.Plus) ∷ ending 5 5
unfolding on_literals
sign_without_digits = refl

pub plus_slash : read (codes "+/->=*") ≡
    at 0 3 (kinds.Mark marks.PlusMinus) ∷ at 3 5 (kinds.Mark marks.GreaterEqual) ∷ at 5 6 (kinds.Mark marks.Star) ∷ ending 6 6
unfolding on_literals
plus_slash = refl

-- the place of a name counts its bytes
pub ohm : read (107 ∷ 0xE2 ∷ 0x84 ∷ 0xA6 ∷ []) ≡
    at 0 4 (name 0) ∷ ending 4 4
unfolding on_literals
ohm = refl

pub keyword_longer : read (codes "in into") ≡
    at 0 2 (kinds.Keyword words.In) ∷ at 3 7 (name 0) ∷ ending 7 7
unfolding on_literals
keyword_longer = refl

pub large_number : read (codes "65536") ≡
    at 0 5 (kinds.Number true None (record { file = file; start = 0; end = 5 })) ∷ ending 5 5
unfolding on_literals
large_number = refl

pub empty_strings : read (codes "\"\" ''") ≡
    at 0 2 (kinds.Str (record { file = file; start = 1; end = 1 })) ∷ at 3 5 (kinds.Str (record { file = file; start = 4; end = 4 })) ∷ ending 5 5
unfolding on_literals
empty_strings = refl

pub upper_exponent : read (codes "1E+2E-3") ≡ decimal 0 4 ∷ at 4 5 (name 0) ∷ at 5 6 (kinds.Mark marks.Minus) ∷ whole 6 7 3 ∷ ending 7 7
unfolding on_literals
upper_exponent = refl

pub decimal_of_pin : read (codes "a.1.5") ≡ at 0 1 (name 0) ∷ at 1 2 (kinds.Mark marks.Dot) ∷ decimal 2 5 ∷ ending 5 5
unfolding on_literals
decimal_of_pin = refl

pub one_name_twice : read (codes "b a b") ≡ at 0 1 (name 0) ∷ at 2 3 (name 1) ∷ at 4 5 (name 0) ∷ ending 5 5
unfolding on_literals
one_name_twice = refl

pub no_exponent_alone : read (codes "1e") ≡
    whole 0 1 1 ∷ at 1 2 (name 0) ∷ ending 2 2
unfolding on_literals
no_exponent_alone = refl

pub no_fraction_alone : read (codes "1.") ≡
    whole 0 1 1 ∷ at 1 2 (kinds.Mark marks.Dot) ∷ ending 2 2
unfolding on_literals
no_fraction_alone = refl

pub point_first : read (codes ".5") ≡
    at 0 1 (kinds.Mark marks.Dot) ∷ whole 1 2 5 ∷ ending 2 2
unfolding on_literals
point_first = refl

pub two_points : read (codes "1.2.3") ≡
    decimal 0 3 ∷ at 3 4 (kinds.Mark marks.Dot) ∷ whole 4 5 3 ∷ ending 5 5
unfolding on_literals
two_points = refl

pub plus_slash_alone : read (codes "+/") ≡
    at 0 1 (kinds.Mark marks.Plus) ∷ at 1 2 (kinds.Mark marks.Slash) ∷ ending 2 2
unfolding on_literals
plus_slash_alone = refl

pub plus_slash_apart : read (codes "+/ -") ≡
    at 0 1 (kinds.Mark marks.Plus) ∷ at 1 2 (kinds.Mark marks.Slash) ∷ at 3 4 (kinds.Mark marks.Minus) ∷ ending 4 4
unfolding on_literals
plus_slash_apart = refl

pub less_twice : read (codes "<<") ≡
    at 0 1 (kinds.Mark marks.Less) ∷ at 1 2 (kinds.Mark marks.Less) ∷ ending 2 2
unfolding on_literals
less_twice = refl

pub less_equal_greater : read (codes "<=>") ≡
    at 0 2 (kinds.Mark marks.LessEqual) ∷ at 2 3 (kinds.Mark marks.Greater) ∷ ending 3 3
unfolding on_literals
less_equal_greater = refl

pub three_stars : read (codes "***") ≡
    at 0 2 (kinds.Mark marks.Power) ∷ at 2 3 (kinds.Mark marks.Star) ∷ ending 3 3
unfolding on_literals
three_stars = refl

pub two_arrows : read (codes "-->") ≡
    at 0 1 (kinds.Mark marks.Minus) ∷ at 1 3 (kinds.Mark marks.Arrow) ∷ ending 3 3
unfolding on_literals
two_arrows = refl

pub all_keywords : read (codes "module component interface from import new signal pin assert within is to pass for in True False") ≡
    at 0 6 (kinds.Keyword words.Module) ∷ at 7 16 (kinds.Keyword words.Component) ∷ at 17 26 (kinds.Keyword words.Interface) ∷ at 27 31 (kinds.Keyword words.From) ∷ at 32 38 (kinds.Keyword words.Import) ∷ at 39 42 (kinds.Keyword words.New) ∷ at 43 49 (kinds.Keyword words.Signal) ∷ at 50 53 (kinds.Keyword words.Pin) ∷ at 54 60 (kinds.Keyword words.Assert) ∷ at 61 67 (kinds.Keyword words.Within) ∷ at 68 70 (kinds.Keyword words.Is) ∷ at 71 73 (kinds.Keyword words.To) ∷ at 74 78 (kinds.Keyword words.Pass) ∷ at 79 82 (kinds.Keyword words.For) ∷ at 83 85 (kinds.Keyword words.In) ∷ at 86 90 (kinds.Keyword words.True) ∷ at 91 96 (kinds.Keyword words.False) ∷ ending 96 96
unfolding on_literals
all_keywords = refl

pub every_mark : read (codes "+/- -> ** <= >= < > = ~ : ; , . ( ) [ ] + - * / | %") ≡
    at 0 3 (kinds.Mark marks.PlusMinus) ∷ at 4 6 (kinds.Mark marks.Arrow) ∷ at 7 9 (kinds.Mark marks.Power) ∷ at 10 12 (kinds.Mark marks.LessEqual) ∷ at 13 15 (kinds.Mark marks.GreaterEqual) ∷ at 16 17 (kinds.Mark marks.Less) ∷ at 18 19 (kinds.Mark marks.Greater) ∷ at 20 21 (kinds.Mark marks.Equal) ∷ at 22 23 (kinds.Mark marks.Tilde) ∷ at 24 25 (kinds.Mark marks.Colon) ∷ at 26 27 (kinds.Mark marks.Semicolon) ∷ at 28 29 (kinds.Mark marks.Comma) ∷ at 30 31 (kinds.Mark marks.Dot) ∷ at 32 33 (kinds.Mark marks.LeftParenthesis) ∷ at 34 35 (kinds.Mark marks.RightParenthesis) ∷ at 36 37 (kinds.Mark marks.LeftBracket) ∷ at 38 39 (kinds.Mark marks.RightBracket) ∷ at 40 41 (kinds.Mark marks.Plus) ∷ at 42 43 (kinds.Mark marks.Minus) ∷ at 44 45 (kinds.Mark marks.Star) ∷ at 46 47 (kinds.Mark marks.Slash) ∷ at 48 49 (kinds.Mark marks.Bar) ∷ at 50 51 (kinds.Mark marks.Percent) ∷ ending 51 51
unfolding on_literals
every_mark = refl

pub keyword_with_more : read (codes "pins pin_ Pin true") ≡
    at 0 4 (name 0) ∷ at 5 9 (name 1) ∷ at 10 13 (name 2) ∷ at 14 18 (name 3) ∷ ending 18 18
unfolding on_literals
keyword_with_more = refl

pub low_line : read (codes "_ _1") ≡
    at 0 1 (name 0) ∷ at 2 4 (name 1) ∷ ending 4 4
unfolding on_literals
low_line = refl

-- U+1D400 is a letter of four bytes
pub four_bytes : read (0xF0 ∷ 0x9D ∷ 0x90 ∷ 0x80 ∷ codes "1") ≡
    at 0 5 (name 0) ∷ ending 5 5
unfolding on_literals
four_bytes = refl

pub zeros_first : read (codes "007 65535") ≡
    whole 0 3 7 ∷ whole 4 9 65535 ∷ ending 9 9
unfolding on_literals
zeros_first = refl

pub digits_then_name : read (codes "1_000") ≡
    whole 0 1 1 ∷ at 1 5 (name 0) ∷ ending 5 5
unfolding on_literals
digits_then_name = refl

pub other_quote_inside : read (codes "'a\"b'") ≡
    at 0 5 (kinds.Str (record { file = file; start = 1; end = 4 })) ∷ ending 5 5
unfolding on_literals
other_quote_inside = refl

-- a backslash is a character like others
pub no_escapes : read (codes "'a\\'b") ≡
    at 0 4 (kinds.Str (record { file = file; start = 1; end = 3 })) ∷ at 4 5 (name 0) ∷ ending 5 5
unfolding on_literals
no_escapes = refl

-- one or two quotes do not end a triple string
pub quote_before_three : read (codes "'''a''b'''") ≡
    at 0 10 (kinds.Str (record { file = file; start = 3; end = 7 })) ∷ ending 10 10
unfolding on_literals
quote_before_three = refl

pub triple_of_none : read (codes "''''''") ≡
    at 0 6 (kinds.Str (record { file = file; start = 3; end = 3 })) ∷ ending 6 6
unfolding on_literals
triple_of_none = refl

-- any character may stand in a string
pub nul_in_string : read (34 ∷ 0 ∷ 34 ∷ []) ≡
    at 0 3 (kinds.Str (record { file = file; start = 1; end = 2 })) ∷ ending 3 3
unfolding on_literals
nul_in_string = refl

pub many_zeros : read (repeat 400 (48 ∷ [])) ≡
    whole 0 400 0 ∷ ending 400 400
unfolding on_literals
many_zeros = refl
