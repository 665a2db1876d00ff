use Rattle.std.proofs.Common.{◌≡◌, ℕ, zero, suc, List, [], ◌∷◌, None, get_or, sym, refl}
use Rattle.csv.specs.Records.{field_at, fields_of}
use Rattle.csv.proofs.RecordFacts.{field-get}
use Rattle.ato_catalog.proofs.cells.cell_at.Goals as goal

pub returns-in-Some : goal.returns-in-Some
returns-in-Some c = sym (field-get (fields_of c.args.row.now) c.args.place c.in-Some.cell.now (sym c.in-Some.ensures.value))

past : (fields : List (List ℕ)) (place : ℕ) → field_at fields place ≡ None → get_or fields place [] ≡ []
unfolding field_at
past [] place e = refl
past (field ∷ fields) zero e = cc e
past (field ∷ fields) (suc place) e = past fields place e

pub returns-in-None : goal.returns-in-None
returns-in-None c = sym (past (fields_of c.args.row.now) c.args.place (sym c.in-None.ensures.value))
