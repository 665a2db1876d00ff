-- What stands before, between and after the logical lines of a text: levels, line ends and faults.
use Rattle.std.specs.Prelude.{ℕ, ◌==◌, ◌||◌, nat_eq, nat_lt, Bool, true, false, if◌then◌else◌, List, [], ◌∷◌, ◌++◌, map, length, drop, Option, Some, None}
use Rattle.std.specs.List.{list_any, prefix_len, repeat}
use Rattle.ato_base.specs.declared.faults.FaultKind.{FaultKind}
use Rattle.ato_base.specs.declared.faults.FaultKind.TheVariants as faults
use Rattle.ato_lexer.specs.Pieces.{Kind, number}
use Rattle.ato_lexer.specs.WideNumbers.{is_wide}
use Rattle.ato_lexer.specs.Lines.{Placed, Line}

-- what stands in a text, in the order of places: tokens, and faults between them
pub data Item : Type 0 where
  token : Placed → Item
  newline : ℕ → Item
  indent : ℕ → Item
  dedent : ℕ → Item
  end : ℕ → Item
  fault : FaultKind → ℕ → ℕ → Item

-- where an item begins
abbrev pub start_of : Item → ℕ
start_of (token p) = p.start
start_of (newline at) = at
start_of (indent at) = at
start_of (dedent at) = at
start_of (end at) = at
start_of (fault k start stop) = start

-- where an item ends. A fault takes no place of its own: the token at which it stands may follow it
abbrev pub stop_of : Item → ℕ
stop_of (token p) = p.end
stop_of (newline at) = at
stop_of (indent at) = at
stop_of (dedent at) = at
stop_of (end at) = at
stop_of (fault k start stop) = start

-- the piece that an item is, if it is one
abbrev pub item_piece : Item → Option Placed
item_piece (token p) = Some p
item_piece _ = None

-- an item opens a level
abbrev pub is_indent : Item → Bool
is_indent (indent at) = true
is_indent _ = false

-- an item closes a level
abbrev pub is_dedent : Item → Bool
is_dedent (dedent at) = true
is_dedent _ = false

-- the depth of the deepest open level. The list has the open levels above depth 0, the deepest first
abbrev pub top : List ℕ → ℕ
top [] = 0
top (l ∷ ls) = l

-- how many levels a line of this depth leaves
abbrev pub left : ℕ → List ℕ → ℕ
left depth levels = prefix_len (nat_lt depth) levels

-- the levels that stay open before a line of this depth
abbrev pub kept : ℕ → List ℕ → List ℕ
kept depth levels = drop (left depth levels) levels

-- the levels once a line of this depth has begun
abbrev pub opened : ℕ → List ℕ → List ℕ
opened depth levels = if nat_lt (top levels) depth then depth ∷ levels else kept depth levels

-- a depth is an open level: 0 is one always
abbrev pub is_open : ℕ → List ℕ → Bool
is_open depth levels = (depth == 0) || list_any (nat_eq depth) levels

-- what stands before the first token of a line: INDENT, a DEDENT for each level that is left, or the fault of a depth that
-- is no open level
abbrev pub steps : ℕ → Placed → List ℕ → List Item
steps depth first levels =
    if nat_lt (top levels) depth then indent first.start ∷ []
    else (if is_open depth levels then repeat (left depth levels) (dedent first.start ∷ [])
    else fault faults.BadIndent first.start first.end ∷ [])

-- a piece is a number that is wide
abbrev pub is_wide_number : Kind → List ℕ → Bool
is_wide_number number text = is_wide text
is_wide_number _ text = false

-- a token, or the fault that a wide number is
abbrev pub token_item : Placed → Item
token_item p = if is_wide_number p.piece.kind p.piece.text then fault faults.WideNumber p.start p.end else token p

-- where the last of some tokens ends, or this place
abbrev pub last_end : ℕ → List Placed → ℕ
last_end at [] = at
last_end at (p ∷ ps) = last_end p.end ps

-- the steps to a line, its tokens, and NEWLINE right behind the last of them
abbrev pub line_items : List ℕ → Line → List Item
line_items levels line =
    steps line.depth line.first levels ++ (map token_item (line.first ∷ line.others) ++ newline (last_end line.first.end line.others) ∷ [])

-- the end of a text of so many bytes: the first piece that is a fault, or a DEDENT for each open level and END
abbrev pub last_items : List ℕ → ℕ → List Item → List Item
last_items levels size [] = repeat (length levels) (dedent size ∷ []) ++ end size ∷ []
last_items levels size (bad ∷ more) = bad ∷ []

-- lines one after another, and the end of the text
unfoldable pub laid_out : List ℕ → ℕ → List Item → List Line → List Item
laid_out levels size bad [] = last_items levels size bad
laid_out levels size bad (line ∷ lines) = line_items levels line ++ laid_out (opened line.depth levels) size bad lines
