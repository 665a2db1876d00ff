-- Worked texts: their first faults.
use Rattle.std.proofs.Common.{◌≡◌, ◌∷◌, ◌++◌, [], None, codes, refl}
use Rattle.std.specs.List.{repeat}
use Rattle.ato_base.specs.declared.faults.FaultKind.TheVariants as faults
use Rattle.ato_lexer.proofs.Computing.{on_literals, first, bad}

pub returns_before_feed : first (97 ∷ 13 ∷ 13 ∷ 10 ∷ []) ≡ bad faults.BadChar 1 2
unfolding on_literals
returns_before_feed = refl

pub return_in_brackets : first (40 ∷ 13 ∷ 41 ∷ []) ≡ bad faults.BadChar 1 2
unfolding on_literals
return_in_brackets = refl

pub no_level : first (codes "a:\n    b\n  c\n") ≡ bad faults.BadIndent 11 12
unfolding on_literals
no_level = refl

pub no_level_and_wide : first (codes "a:\n    b\n  1e99\n") ≡ bad faults.BadIndent 11 15
unfolding on_literals
no_level_and_wide = refl

pub no_level_and_open : first (codes "a:\n    b\n  \"c\n") ≡ bad faults.OpenString 11 12
unfolding on_literals
no_level_and_open = refl

pub open_single : first (codes "x = \"ab\n\"") ≡ bad faults.OpenString 4 5
unfolding on_literals
open_single = refl

pub open_triple : first (codes "x '''a''\n") ≡ bad faults.OpenString 2 3
unfolding on_literals
open_triple = refl

-- three quotes begin a triple string, also where two would be a string
pub open_of_three : first (codes "\"\"\" \"") ≡ bad faults.OpenString 0 1
unfolding on_literals
open_of_three = refl

pub return_alone : first (97 ∷ 13 ∷ 98 ∷ []) ≡ bad faults.BadChar 1 2
unfolding on_literals
return_alone = refl

pub mark_later : first (97 ∷ 0xEF ∷ 0xBB ∷ 0xBF ∷ []) ≡ bad faults.BadChar 1 4
unfolding on_literals
mark_later = refl

pub second_mark : first (0xEF ∷ 0xBB ∷ 0xBF ∷ 0xEF ∷ 0xBB ∷ 0xBF ∷ []) ≡ bad faults.BadChar 3 6
unfolding on_literals
second_mark = refl

pub exclamation : first (codes "a\n b!") ≡ bad faults.BadChar 4 5
unfolding on_literals
exclamation = refl

pub wide : first (codes "a = 1e40") ≡ bad faults.WideNumber 4 8
unfolding on_literals
wide = refl

pub wide_first : first (codes "1e40 $") ≡ bad faults.WideNumber 0 4
unfolding on_literals
wide_first = refl

pub bad_first : first (codes "$ 1e40") ≡ bad faults.BadChar 0 1
unfolding on_literals
bad_first = refl

-- F1 comes before all others
pub no_text : first (36 ∷ 0xFF ∷ 97 ∷ []) ≡ bad faults.BadText 1 2
unfolding on_literals
no_text = refl

pub cut_off : first (97 ∷ 0xE2 ∷ 0x84 ∷ []) ≡ bad faults.BadText 1 2
unfolding on_literals
cut_off = refl

pub lone_continuation : first (0x80 ∷ []) ≡ bad faults.BadText 0 1
unfolding on_literals
lone_continuation = refl

pub overlong_two : first (97 ∷ 0xc0 ∷ 0xaf ∷ []) ≡ bad faults.BadText 1 2
unfolding on_literals
overlong_two = refl

pub overlong_three : first (97 ∷ 0xe0 ∷ 0x80 ∷ 0x80 ∷ []) ≡ bad faults.BadText 1 2
unfolding on_literals
overlong_three = refl

pub overlong_four : first (0xf0 ∷ 0x80 ∷ 0x80 ∷ 0x80 ∷ []) ≡ bad faults.BadText 0 1
unfolding on_literals
overlong_four = refl

pub surrogate : first (97 ∷ 98 ∷ 0xed ∷ 0xa0 ∷ 0x80 ∷ []) ≡ bad faults.BadText 2 3
unfolding on_literals
surrogate = refl

pub above_all : first (0xf4 ∷ 0x90 ∷ 0x80 ∷ 0x80 ∷ []) ≡ bad faults.BadText 0 1
unfolding on_literals
above_all = refl

pub no_first_byte : first (0xc3 ∷ 0xa9 ∷ 0xf5 ∷ []) ≡ bad faults.BadText 2 3
unfolding on_literals
no_first_byte = refl

pub cut_after_one : first (0xc3 ∷ []) ≡ bad faults.BadText 0 1
unfolding on_literals
cut_after_one = refl

pub cut_after_three : first (97 ∷ 0xf0 ∷ 0x9f ∷ 0x98 ∷ []) ≡ bad faults.BadText 1 2
unfolding on_literals
cut_after_three = refl

pub cut_by_another : first (0xe2 ∷ 0x84 ∷ 97 ∷ []) ≡ bad faults.BadText 0 1
unfolding on_literals
cut_by_another = refl

pub no_text_in_string : first (34 ∷ 0xff ∷ 34 ∷ []) ≡ bad faults.BadText 1 2
unfolding on_literals
no_text_in_string = refl

pub nul : first (97 ∷ 0 ∷ 98 ∷ []) ≡ bad faults.BadChar 1 2
unfolding on_literals
nul = refl

pub bell : first (7 ∷ []) ≡ bad faults.BadChar 0 1
unfolding on_literals
bell = refl

pub vertical_tab : first (11 ∷ []) ≡ bad faults.BadChar 0 1
unfolding on_literals
vertical_tab = refl

pub form_feed : first (12 ∷ []) ≡ bad faults.BadChar 0 1
unfolding on_literals
form_feed = refl

pub escape : first (27 ∷ []) ≡ bad faults.BadChar 0 1
unfolding on_literals
escape = refl

pub delete : first (127 ∷ []) ≡ bad faults.BadChar 0 1
unfolding on_literals
delete = refl

pub next_line : first (0xc2 ∷ 0x85 ∷ []) ≡ bad faults.BadChar 0 2
unfolding on_literals
next_line = refl

pub no_break_space : first (0xc2 ∷ 0xa0 ∷ []) ≡ bad faults.BadChar 0 2
unfolding on_literals
no_break_space = refl

pub line_separator : first (0xe2 ∷ 0x80 ∷ 0xa8 ∷ []) ≡ bad faults.BadChar 0 3
unfolding on_literals
line_separator = refl

pub backquote : first (codes "a `b`") ≡ bad faults.BadChar 2 3
unfolding on_literals
backquote = refl

pub backslash : first (codes "a \\") ≡ bad faults.BadChar 2 3
unfolding on_literals
backslash = refl

pub return_at_end : first (97 ∷ 13 ∷ []) ≡ bad faults.BadChar 1 2
unfolding on_literals
return_at_end = refl

pub open_at_end : first (codes "\"abc") ≡ bad faults.OpenString 0 1
unfolding on_literals
open_at_end = refl

-- the other quote does not close
pub open_other : first (codes "\"a'") ≡ bad faults.OpenString 0 1
unfolding on_literals
open_other = refl

pub open_other_way : first (codes "'a\"") ≡ bad faults.OpenString 0 1
unfolding on_literals
open_other_way = refl

pub open_triple_other : first (codes "'''a\"\"\"") ≡ bad faults.OpenString 0 1
unfolding on_literals
open_triple_other = refl

pub open_triple_at_end : first (codes "x = \"\"\"a\n\nb\"\"") ≡ bad faults.OpenString 4 5
unfolding on_literals
open_triple_at_end = refl

pub open_before_return_feed : first (34 ∷ 97 ∷ 13 ∷ 10 ∷ 34 ∷ []) ≡ bad faults.OpenString 0 1
unfolding on_literals
open_before_return_feed = refl

pub open_in_brackets : first (codes "(\"a\n\")") ≡ bad faults.OpenString 1 2
unfolding on_literals
open_in_brackets = refl

pub tab_against_spaces : first (codes "a\n" ++ (9 ∷ codes "b\n    c")) ≡ bad faults.BadIndent 9 10
unfolding on_literals
tab_against_spaces = refl

pub between_levels : first (codes "a\n b\n   c\n  d\n") ≡ bad faults.BadIndent 12 13
unfolding on_literals
between_levels = refl

pub many_digits : first (repeat 400 (49 ∷ [])) ≡ bad faults.WideNumber 0 400
unfolding on_literals
many_digits = refl

pub wide_label : first (codes "pin 1e39") ≡ bad faults.WideNumber 4 8
unfolding on_literals
wide_label = refl

pub open_first : first (codes "\"1e40 $") ≡ bad faults.OpenString 0 1
unfolding on_literals
open_first = refl

pub wide_before_open : first (codes "1e40 \"") ≡ bad faults.WideNumber 0 4
unfolding on_literals
wide_before_open = refl

pub indent_before_bad : first (codes "a\n  b\n c $") ≡ bad faults.BadIndent 7 8
unfolding on_literals
indent_before_bad = refl

pub no_fault_in_comment : first (35 ∷ 0 ∷ 13 ∷ 36 ∷ 96 ∷ []) ≡ None
unfolding on_literals
no_fault_in_comment = refl

pub dollar : first (codes "a $ b") ≡ bad faults.BadChar 2 3
unfolding on_literals
dollar = refl

pub open_value : first (codes "x = \"a") ≡ bad faults.OpenString 4 5
unfolding on_literals
open_value = refl
