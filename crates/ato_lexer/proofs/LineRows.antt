-- Worked texts: their lines.
use Rattle.std.proofs.Common.{◌≡◌, ◌∷◌, ◌++◌, [], None, codes, refl}
use Rattle.ato_base.specs.declared.tokens.TokenKind.TheVariants as kinds
use Rattle.ato_base.specs.declared.keywords.Keyword.TheVariants as words
use Rattle.ato_base.specs.declared.keywords.Mark.TheVariants as marks
use Rattle.ato_lexer.proofs.Computing.{on_literals, file, read, at, name, whole, ending, first}

-- two levels, a blank line, a comment, brackets over lines, a tab, and no last line end
pub two_levels : read (codes "module A:\n    pin 1\n\n  # c\n    x = (1,\n 2)\n" ++ (9 ∷ codes "pass\ny")) ≡
    at 0 6 (kinds.Keyword words.Module) ∷ at 7 8 (name 0) ∷ at 8 9 (kinds.Mark marks.Colon) ∷ at 9 9 kinds.Newline ∷ at 14 14 kinds.Indent ∷ at 14 17 (kinds.Keyword words.Pin) ∷ whole 18 19 1 ∷ at 19 19 kinds.Newline ∷ at 31 32 (name 1) ∷ at 33 34 (kinds.Mark marks.Equal) ∷ at 35 36 (kinds.Mark marks.LeftParenthesis) ∷ whole 36 37 1 ∷ at 37 38 (kinds.Mark marks.Comma) ∷ whole 40 41 2 ∷ at 41 42 (kinds.Mark marks.RightParenthesis) ∷ at 42 42 kinds.Newline ∷ at 44 44 kinds.Indent ∷ at 44 48 (kinds.Keyword words.Pass) ∷ at 48 48 kinds.Newline ∷ at 49 49 kinds.Dedent ∷ at 49 49 kinds.Dedent ∷ at 49 50 (name 2) ∷ at 50 50 kinds.Newline ∷ at 50 50 kinds.End ∷ []
unfolding on_literals
two_levels = refl

pub two_levels_good : first (codes "module A:\n    pin 1\n\n  # c\n    x = (1,\n 2)\n" ++ (9 ∷ codes "pass\ny")) ≡ None
unfolding on_literals
two_levels_good = refl

pub nothing : read ([]) ≡
    at 0 0 kinds.End ∷ []
unfolding on_literals
nothing = refl

pub comment_alone : read (codes "  # x") ≡
    at 5 5 kinds.End ∷ []
unfolding on_literals
comment_alone = refl

-- NEWLINE stands before a comment, the last DEDENT at the end of the text
pub last_dedents : read (codes "a:\n  b # c\n\n") ≡
    at 0 1 (name 0) ∷ at 1 2 (kinds.Mark marks.Colon) ∷ at 2 2 kinds.Newline ∷ at 5 5 kinds.Indent ∷ at 5 6 (name 1) ∷ at 6 6 kinds.Newline ∷ at 12 12 kinds.Dedent ∷ at 12 12 kinds.End ∷ []
unfolding on_literals
last_dedents = refl

pub unopened : read (codes ")\n(\n)") ≡
    at 0 1 (kinds.Mark marks.RightParenthesis) ∷ at 1 1 kinds.Newline ∷ at 2 3 (kinds.Mark marks.LeftParenthesis) ∷ at 4 5 (kinds.Mark marks.RightParenthesis) ∷ ending 5 5
unfolding on_literals
unopened = refl

pub never_closed : read (codes "[\na\n") ≡
    at 0 1 (kinds.Mark marks.LeftBracket) ∷ at 2 3 (name 0) ∷ at 3 3 kinds.Newline ∷ at 4 4 kinds.End ∷ []
unfolding on_literals
never_closed = refl

pub triple_over_lines : read (codes "'''a\n  b''' c\nd") ≡
    at 0 11 (kinds.Str (record { file = file; start = 3; end = 8 })) ∷ at 12 13 (name 0) ∷ at 13 13 kinds.Newline ∷ at 14 15 (name 1) ∷ ending 15 15
unfolding on_literals
triple_over_lines = refl

-- a space and a tab are 8 columns
pub tab_to_column : read (32 ∷ 9 ∷ codes "a\n        b") ≡
    at 2 2 kinds.Indent ∷ at 2 3 (name 0) ∷ at 3 3 kinds.Newline ∷ at 12 13 (name 1) ∷ at 13 13 kinds.Newline ∷ at 13 13 kinds.Dedent ∷ at 13 13 kinds.End ∷ []
unfolding on_literals
tab_to_column = refl

pub line_ends : read (97 ∷ 13 ∷ 10 ∷ 98 ∷ []) ≡
    at 0 1 (name 0) ∷ at 1 1 kinds.Newline ∷ at 3 4 (name 1) ∷ ending 4 4
unfolding on_literals
line_ends = refl

pub comment_with_line_end : read (97 ∷ 35 ∷ 13 ∷ 35 ∷ 13 ∷ 10 ∷ 98 ∷ []) ≡
    at 0 1 (name 0) ∷ at 1 1 kinds.Newline ∷ at 6 7 (name 1) ∷ ending 7 7
unfolding on_literals
comment_with_line_end = refl

pub return_in_string : read (34 ∷ 13 ∷ 34 ∷ []) ≡
    at 0 3 (kinds.Str (record { file = file; start = 1; end = 2 })) ∷ ending 3 3
unfolding on_literals
return_in_string = refl

pub mark_at_start : read (0xEF ∷ 0xBB ∷ 0xBF ∷ codes "a") ≡
    at 3 4 (name 0) ∷ ending 4 4
unfolding on_literals
mark_at_start = refl

pub depth_after_mark : read (0xEF ∷ 0xBB ∷ 0xBF ∷ codes "  a") ≡
    at 5 5 kinds.Indent ∷ at 5 6 (name 0) ∷ at 6 6 kinds.Newline ∷ at 6 6 kinds.Dedent ∷ at 6 6 kinds.End ∷ []
unfolding on_literals
depth_after_mark = refl

pub blanks_alone : read (32 ∷ 9 ∷ 32 ∷ []) ≡
    at 3 3 kinds.End ∷ []
unfolding on_literals
blanks_alone = refl

pub comments_alone : read (codes "# a\n# b\n") ≡
    at 8 8 kinds.End ∷ []
unfolding on_literals
comments_alone = refl

pub line_end_alone : read (10 ∷ []) ≡
    at 1 1 kinds.End ∷ []
unfolding on_literals
line_end_alone = refl

pub return_feed_alone : read (13 ∷ 10 ∷ []) ≡
    at 2 2 kinds.End ∷ []
unfolding on_literals
return_feed_alone = refl

-- U+FEFF alone
pub mark_alone : read (0xEF ∷ 0xBB ∷ 0xBF ∷ []) ≡
    at 3 3 kinds.End ∷ []
unfolding on_literals
mark_alone = refl

pub blank_lines : read (codes "\n  \na\n\n\n   \nb\n\n") ≡
    at 4 5 (name 0) ∷ at 5 5 kinds.Newline ∷ at 12 13 (name 1) ∷ at 13 13 kinds.Newline ∷ at 15 15 kinds.End ∷ []
unfolding on_literals
blank_lines = refl

pub comment_line_has_no_depth : read (codes "a\n  b\n#\n  c\n") ≡
    at 0 1 (name 0) ∷ at 1 1 kinds.Newline ∷ at 4 4 kinds.Indent ∷ at 4 5 (name 1) ∷ at 5 5 kinds.Newline ∷ at 10 11 (name 2) ∷ at 11 11 kinds.Newline ∷ at 12 12 kinds.Dedent ∷ at 12 12 kinds.End ∷ []
unfolding on_literals
comment_line_has_no_depth = refl

pub closing_first : read (codes "](\n)") ≡
    at 0 1 (kinds.Mark marks.RightBracket) ∷ at 1 2 (kinds.Mark marks.LeftParenthesis) ∷ at 3 4 (kinds.Mark marks.RightParenthesis) ∷ ending 4 4
unfolding on_literals
closing_first = refl

-- brackets are counted, not matched
pub other_bracket_closes : read (codes "(]\na") ≡
    at 0 1 (kinds.Mark marks.LeftParenthesis) ∷ at 1 2 (kinds.Mark marks.RightBracket) ∷ at 2 2 kinds.Newline ∷ at 3 4 (name 0) ∷ ending 4 4
unfolding on_literals
other_bracket_closes = refl

pub stays_open : read (codes "a:\n  (b\n c") ≡
    at 0 1 (name 0) ∷ at 1 2 (kinds.Mark marks.Colon) ∷ at 2 2 kinds.Newline ∷ at 5 5 kinds.Indent ∷ at 5 6 (kinds.Mark marks.LeftParenthesis) ∷ at 6 7 (name 1) ∷ at 9 10 (name 2) ∷ at 10 10 kinds.Newline ∷ at 10 10 kinds.Dedent ∷ at 10 10 kinds.End ∷ []
unfolding on_literals
stays_open = refl

pub two_brackets : read (codes "([\n]\n)\na") ≡
    at 0 1 (kinds.Mark marks.LeftParenthesis) ∷ at 1 2 (kinds.Mark marks.LeftBracket) ∷ at 3 4 (kinds.Mark marks.RightBracket) ∷ at 5 6 (kinds.Mark marks.RightParenthesis) ∷ at 6 6 kinds.Newline ∷ at 7 8 (name 0) ∷ ending 8 8
unfolding on_literals
two_brackets = refl

-- four spaces and a tab are 8 columns
pub tab_behind_spaces : read (codes "a\n" ++ (9 ∷ codes "b\n    " ++ (9 ∷ codes "c"))) ≡
    at 0 1 (name 0) ∷ at 1 1 kinds.Newline ∷ at 3 3 kinds.Indent ∷ at 3 4 (name 1) ∷ at 4 4 kinds.Newline ∷ at 10 11 (name 2) ∷ at 11 11 kinds.Newline ∷ at 11 11 kinds.Dedent ∷ at 11 11 kinds.End ∷ []
unfolding on_literals
tab_behind_spaces = refl

pub up_and_down : read (codes "a\n b\n  c\n b\n  d\na") ≡
    at 0 1 (name 0) ∷ at 1 1 kinds.Newline ∷ at 3 3 kinds.Indent ∷ at 3 4 (name 1) ∷ at 4 4 kinds.Newline ∷ at 7 7 kinds.Indent ∷ at 7 8 (name 2) ∷ at 8 8 kinds.Newline ∷ at 10 10 kinds.Dedent ∷ at 10 11 (name 1) ∷ at 11 11 kinds.Newline ∷ at 14 14 kinds.Indent ∷ at 14 15 (name 3) ∷ at 15 15 kinds.Newline ∷ at 16 16 kinds.Dedent ∷ at 16 16 kinds.Dedent ∷ at 16 17 (name 0) ∷ ending 17 17
unfolding on_literals
up_and_down = refl

pub no_last_line_end : read (codes "a\n b") ≡
    at 0 1 (name 0) ∷ at 1 1 kinds.Newline ∷ at 3 3 kinds.Indent ∷ at 3 4 (name 1) ∷ at 4 4 kinds.Newline ∷ at 4 4 kinds.Dedent ∷ at 4 4 kinds.End ∷ []
unfolding on_literals
no_last_line_end = refl
