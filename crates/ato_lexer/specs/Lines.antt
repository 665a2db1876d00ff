-- The places of a text's pieces, and its logical lines.
use Rattle.std.specs.Prelude.{ℕ, suc, ◌+◌, ◌-◌, ◌*◌, ◌/◌, ◌==◌, ◌&&◌, not, Bool, true, false, if◌then◌else◌, List, [], ◌∷◌}
use Rattle.std.specs.Char.{len_utf8}
use Rattle.std.specs.List.{filter, fold, take_while, sum_by, flat_map, onto_first}
use Rattle.ato_base.specs.declared.keywords.Mark.{Mark}
use Rattle.ato_base.specs.declared.keywords.Mark.TheVariants as marks
use Rattle.ato_lexer.specs.Pieces.{Kind, Piece, blank, comment, line_end, mark}

-- a piece, with the bytes from start up to end that it is
pub record Placed : Type 0 where
  pub piece : Piece
  pub start : ℕ
  pub end : ℕ

-- how many bytes a text has
abbrev pub bytes_len : List ℕ → ℕ
bytes_len text = sum_by len_utf8 text

-- each piece begins where the one before it ends
abbrev pub placed : ℕ → List Piece → List Placed
placed at [] = []
placed at (p ∷ ps) = record { piece = p; start = at; end = at + bytes_len p.text } ∷ placed (at + bytes_len p.text) ps

-- LF or CR LF
abbrev pub is_line_end : Kind → Bool
is_line_end line_end = true
is_line_end _ = false

-- spaces, tabs, comments and line ends
abbrev pub is_blank : Kind → Bool
is_blank blank = true
is_blank comment = true
is_blank line_end = true
is_blank _ = false

-- all that is no blank
abbrev pub is_token : Kind → Bool
is_token k = not (is_blank k)

-- how many brackets are open after a mark; a closing one without an opening one leaves the count at 0
abbrev pub after_mark : Mark → ℕ → ℕ
after_mark marks.LeftParenthesis brackets = suc brackets
after_mark marks.LeftBracket brackets = suc brackets
after_mark marks.RightParenthesis brackets = brackets - 1
after_mark marks.RightBracket brackets = brackets - 1
after_mark _ brackets = brackets

-- how many brackets are open after a piece
abbrev pub open_after : Kind → ℕ → ℕ
open_after (mark m) brackets = after_mark m brackets
open_after _ brackets = brackets

-- the pieces between the line ends that stand in no brackets
abbrev pub parted : ℕ → List Placed → List (List Placed)
parted brackets [] = [] ∷ []
parted brackets (p ∷ ps) =
    if is_line_end p.piece.kind && (brackets == 0) then [] ∷ parted 0 ps
    else onto_first p (parted (open_after p.piece.kind brackets) ps)

-- the column after a character: a tab goes to the next multiple of 8, and U+FEFF takes none
abbrev pub column_after : ℕ → ℕ → ℕ
column_after column c = if c == 9 then (column / 8 + 1) * 8 else (if c == 0xFEFF then column else column + 1)

-- a logical line: the column of its first token, and its tokens
pub record Line : Type 0 where
  pub depth : ℕ
  pub first : Placed
  pub others : List Placed

-- the column behind the blanks in front
abbrev pub depth_of : List Placed → ℕ
depth_of ps = fold column_after 0 (flat_map (λ p. p.piece.text) (take_while (λ p. is_blank p.piece.kind) ps))

-- the line of this depth with these tokens; there is none without a token
abbrev pub line_of : ℕ → List Placed → List Line
line_of depth [] = []
line_of depth (p ∷ ps) = record { depth = depth; first = p; others = ps } ∷ []

-- the logical lines of pieces
unfoldable pub logical_lines : List Placed → List Line
logical_lines ps = flat_map (λ part. line_of (depth_of part) (filter (λ p. is_token p.piece.kind) part)) (parted 0 ps)
