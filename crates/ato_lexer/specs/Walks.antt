-- What stands in a text, as one scan over its pieces puts it, piece by piece. That it is what the logical lines put is a law
-- (WalkLaws).
use Rattle.std.specs.Prelude.{ℕ, ◌≤◌, ◌*◌, ◌==◌, ◌&&◌, if◌then◌else◌, List, [], ◌∷◌, ◌++◌}
use Rattle.std.specs.List.{fold}
use Rattle.ato_lexer.specs.Pieces.{is_bad}
use Rattle.ato_lexer.specs.Lines.{Placed, is_line_end, is_blank, open_after, column_after}
use Rattle.ato_lexer.specs.Layout.{Item, newline, steps, opened, token_item, last_items}
use Rattle.ato_lexer.specs.Tokens.{bad_item, bad_kind}
use Rattle.ato_lexer.specs.declared.scanning.Standing.{Standing}
use Rattle.ato_lexer.specs.declared.scanning.Standing.TheVariants.{Between, Within}

-- what a piece in a line puts: a token, or NEWLINE where the line ends
abbrev pub put_within : ℕ → ℕ → Placed → List Item
put_within brackets last p =
    if is_line_end p.piece.kind && (brackets == 0) then newline last ∷ [] else (if is_blank p.piece.kind then [] else token_item p ∷ [])

-- what a piece puts that is no fault by its kind: between two lines a token begins one, with the steps to it
abbrev pub put : List ℕ → Standing → Placed → List Item
put levels (Between column) p = if is_blank p.piece.kind then [] else steps column p levels ++ token_item p ∷ []
put levels (Within brackets last) p = put_within brackets last p

-- where the scan stands behind a piece
abbrev pub standing_after : Standing → Placed → Standing
standing_after (Between column) p =
    if is_line_end p.piece.kind then Between 0
    else (if is_blank p.piece.kind then Between (fold column_after column p.piece.text) else Within (open_after p.piece.kind 0) p.end)
standing_after (Within brackets last) p =
    if is_line_end p.piece.kind && (brackets == 0) then Between 0
    else (if is_blank p.piece.kind then Within brackets last else Within (open_after p.piece.kind brackets) p.end)

-- the open levels behind a piece: the first token of a line opens and leaves levels
abbrev pub levels_after : List ℕ → Standing → Placed → List ℕ
levels_after levels (Between column) p = if is_blank p.piece.kind then levels else opened column levels
levels_after levels (Within brackets last) p = levels

-- NEWLINE, where a line is open
abbrev pub closing : Standing → List Item
closing (Between column) = []
closing (Within brackets last) = newline last ∷ []

-- what the pieces put that are left of a text of so many bytes, up to the first that is a fault by its kind, or its end
unfoldable pub scan : ℕ → List ℕ → Standing → List Placed → List Item
scan size levels standing [] = closing standing ++ last_items levels size []
scan size levels standing (p ∷ ps) =
    if is_bad p.piece.kind then closing standing ++ bad_item p (bad_kind p.piece.kind)
    else put levels standing p ++ scan size (levels_after levels standing p) (standing_after standing p) ps

-- The column and the count of brackets are small for a scan that stands at this byte.
abbrev pub HasRoom : Standing → ℕ → Type 0
HasRoom (Between column) at = column ≤ 8 * at
HasRoom (Within brackets last) at = brackets ≤ at
