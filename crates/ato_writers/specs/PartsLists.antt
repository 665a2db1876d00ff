-- The text of a parts list: a line of headings, and then a line for each part.
use Rattle.std.specs.Prelude.{ℕ, ◌==◌, ◌||◌, if◌then◌else◌, Bool, List, [], ◌∷◌, ◌++◌, codes}
use Rattle.std.specs.List.{flat_map, list_any}
use Rattle.ato_base.specs.declared.nets.PartRow.{PartRow}

-- A comma, a quote, LF and CR call for quotes.
abbrev pub calls_for_quotes : ℕ → Bool
calls_for_quotes b = (b == 44) || (b == 34) || (b == 10) || (b == 13)

-- In quotes a quote is written twice, and every other byte once.
abbrev pub doubled : ℕ → List ℕ
doubled b = if b == 34 then 34 ∷ 34 ∷ [] else b ∷ []

-- A cell is in quotes exactly where one of its bytes calls for them.
unfoldable pub cell_text : List ℕ → List ℕ
cell_text cell = if list_any calls_for_quotes cell then 34 ∷ (flat_map doubled cell ++ 34 ∷ []) else cell

-- The cells after the first, each behind a comma.
unfoldable pub more_text : List (List ℕ) → List ℕ
more_text cells = flat_map (λ cell. 44 ∷ cell_text cell) cells

-- A line of cells, which ends with LF.
unfoldable pub line_text : List ℕ → List (List ℕ) → List ℕ
line_text first more = cell_text first ++ (more_text more ++ 10 ∷ [])

-- The cells of a part's line after its designator.
abbrev pub part_cells : PartRow → List (List ℕ)
part_cells row = row.path ∷ row.kind_name ∷ row.kind ∷ row.part ∷ row.package ∷ row.footprint ∷ row.price ∷ []

unfoldable pub part_text : PartRow → List ℕ
part_text row = line_text row.designator (part_cells row)

unfoldable pub parts_list : List PartRow → List ℕ
parts_list rows = codes "designator,path,type,kind,part,package,footprint,price\n" ++ flat_map part_text rows
