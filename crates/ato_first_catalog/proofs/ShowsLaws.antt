-- Cells and rows that are these, one by one.
use Rattle.std.proofs.Common.{◌++◌, ◌∷◌, [], ℕ, List, Option}
use Rattle.ato_frac.specs.declared.fraction.Frac.{Frac}
use Rattle.ato_first_catalog.specs.Catalogue.{ShowsCell, ShowsCells, ShowsRow, ShowsRows}
use Rattle.ato_first_catalog.specs.Rows.{PlainRow}
use Rattle.ato_first_catalog.specs.declared.rows.CatalogRow.{CatalogRow}

-- one more cell
pub shows_cells-push : (cells : List (Option (Frac × Frac))) (plains : List (Option (ℕ × ℕ))) (cell : Option (Frac × Frac)) (plain : Option (ℕ × ℕ))
    → ShowsCells cells plains → ShowsCell cell plain → ShowsCells (cells ++ cell ∷ []) (plains ++ plain ∷ [])
shows_cells-push [] [] cell plain h k = (k, tt)
shows_cells-push [] (p ∷ plains) cell plain h k = absurd h
shows_cells-push (c ∷ cells) [] cell plain h k = absurd h
shows_cells-push (c ∷ cells) (p ∷ plains) cell plain h k = (h.0, shows_cells-push cells plains cell plain h.1 k)

-- one more row
pub shows_rows-push : (rows : List CatalogRow) (plains : List PlainRow) (row : CatalogRow) (plain : PlainRow)
    → ShowsRows rows plains → ShowsRow row plain → ShowsRows (rows ++ row ∷ []) (plains ++ plain ∷ [])
shows_rows-push [] [] row plain h k = (k, tt)
shows_rows-push [] (p ∷ plains) row plain h k = absurd h
shows_rows-push (r ∷ rows) [] row plain h k = absurd h
shows_rows-push (r ∷ rows) (p ∷ plains) row plain h k = (h.0, shows_rows-push rows plains row plain h.1 k)
