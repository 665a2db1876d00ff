-- Bytes hold one catalogue at most, or have one first fault at most, and never both.
use Rattle.std.proofs.Common.{◌≡◌, ◌<◌, ◌+◌, ◌⊎◌, ◌++◌, ◌∷◌, [], ℕ, List, Bool, true, false, Option, Some, None, Result, Ok, Err, length, refl, sym, ap, subst, arith, inl, inr, ◌∙◌}
use Rattle.std.specs.Prelude.{MatchOption, MatchResult, IfOk, IfErr, IsErrAnd, IsSome}
use Rattle.ato_base.specs.declared.faults.Refusal.{Refusal}
use Rattle.ato_base.specs.declared.faults.Refusal.TheVariants as refusal
use Rattle.ato_base.specs.declared.faults.Fault.{Fault}
use Rattle.ato_base.specs.declared.faults.FaultKind.{FaultKind}
use Rattle.ato_units.specs.declared.quantities.Quantity.{Quantity}
use Rattle.ato_units.specs.declared.quantities.QuantityFault.{QuantityFault}
use Rattle.ato_units.specs.Literals.{Literal}
use Rattle.ato_units.specs.Spellings.{LiteralGives}
use Rattle.ato_units.proofs.LiteralAnswers.{one_answer}
use Rattle.ato_units.proofs.LiteralLaws.{one_literal}
use Rattle.std.specs.Str.{chars}
use Rattle.ato_catalog.specs.Catalogue.{AreRows, HasFault, IsCatalogue, IsFault, IsFaultIn, IsFirstFault, IsReadIn, IsRefusalBy, is_taken}
use Rattle.ato_catalog.specs.Header.{layout_of}
use Rattle.ato_catalog.specs.HeaderFaults.{fault_at, header_fault}
use Rattle.ato_catalog.specs.Prices.{price_of}
use Rattle.ato_catalog.specs.Records.{records_of}
use Rattle.ato_catalog.specs.Rows.{AreValues, CellsFault, HasValues, IsBadAt, IsBadCell, IsRow, IsSound, RowFault, bad_cell, bad_row, in_cells, is_whole, part_in, part_twice, too_many}
use Rattle.ato_catalog.specs.Values.{IsQuantity, IsValue}
use Rattle.ato_catalog.specs.declared.header.Layout.{Layout}
use Rattle.ato_catalog.specs.declared.header.Role.{Role}
use Rattle.ato_catalog.specs.declared.header.Role.TheVariants as under
use Rattle.ato_catalog.specs.declared.reading.Catalog.{Catalog}
use Rattle.ato_catalog.specs.declared.rows.CatalogRow.{CatalogRow}

-- A text is one quantity at most.
pub one_quantity : (text : List ℕ) (a b : Quantity) → IsQuantity text a → IsQuantity text b → a ≡ b
one_quantity text a b h k =
    let same : k.literal ≡ h.literal = one_literal (chars text) k.literal h.literal k.is_literal h.is_literal in
    let gives : LiteralGives h.literal (Ok b) = subst (λ (l : Literal). LiteralGives l (Ok b)) same k.gives in
    okay (one_answer h.literal (Ok a) (Ok b) h.gives gives)
  where
    okay : ◌≡◌ {A = Result Quantity QuantityFault} (Ok a) (Ok b) → a ≡ b
    okay e = cc e

one_value : (cell : List ℕ) (a b : Option Quantity) → IsValue cell a → IsValue cell b → a ≡ b
one_value cell None None h k = refl
one_value cell None (Some q) h k = let above = k.0 in absurd (omega arith)
one_value cell (Some p) None h k = let above = h.0 in absurd (omega arith)
one_value cell (Some p) (Some q) h k = ap Some (one_quantity cell p q h.1 k.1)

has_one : (role : Role) (cell : List ℕ) (a b : List (Option Quantity)) → HasValues role cell a → HasValues role cell b → a ≡ b
has_one under.Part cell a b h k = h.1 ∙ sym k.1
has_one under.Kind cell a b h k = h.1 ∙ sym k.1
has_one under.Package cell a b h k = h ∙ sym k
has_one under.Footprint cell a b h k = h ∙ sym k
has_one under.Price cell a b h k = h.1 ∙ sym k.1
has_one under.Remark cell a b h k = h ∙ sym k
has_one under.Attribute cell a b h k = h.2 ∙ (ap (λ value. value ∷ []) (one_value cell h.0 k.0 h.1 k.1) ∙ sym k.2)

no_value : (cell : List ℕ) (value : Option Quantity) → IsValue cell value → IsBadCell under.Attribute cell → ⊥
no_value cell None h bad = let above = bad.0 in absurd (omega arith)
no_value cell (Some q) h bad = bad.1 q h.1

no_price : (cell : List ℕ) (o : Option _) → price_of cell ≡ o → (length cell ≡ 0) ⊎ IsSome o → 0 < length cell → o ≡ None → ⊥
no_price cell o e (inl none) above bad = absurd (omega arith)
no_price cell None e (inr some) above bad = cc some
no_price cell (Some p) e (inr some) above bad = cc bad

-- a good cell is not bad
not_bad : (role : Role) (cell : List ℕ) (values : List (Option Quantity)) → HasValues role cell values → IsBadCell role cell → ⊥
not_bad under.Part cell values h bad = let above = h.0 in absurd (omega arith)
not_bad under.Kind cell values h bad = let above = h.0 in absurd (omega arith)
not_bad under.Package cell values h bad = bad
not_bad under.Footprint cell values h bad = bad
not_bad under.Price cell values h bad = no_price cell (price_of cell) refl h.0 bad.0 bad.1
not_bad under.Remark cell values h bad = bad
not_bad under.Attribute cell values h bad = no_value cell h.0 h.1 bad

-- The values of a row are settled,
pub one_values : (roles : List Role) (cells : List (List ℕ)) (a b : List (Option Quantity)) → AreValues roles cells a → AreValues roles cells b → a ≡ b
one_values [] [] a b h k = h ∙ sym k
one_values [] (cell ∷ cells) a b h k = absurd h
one_values (role ∷ roles) [] a b h k = absurd h
one_values (role ∷ roles) (cell ∷ cells) a b h k =
    let first = has_one role cell h.0 k.0 h.3 k.3 in
    let rest = one_values roles cells h.1 k.1 h.4 k.4 in
    h.2 ∙ (ap (λ front. front ++ h.1) first ∙ (ap (λ back. k.0 ++ back) rest ∙ sym k.2))

-- a row with values has no bad cell,
good_not_bad : (at : ℕ) (roles : List Role) (cells : List (List ℕ)) (values : List (Option Quantity)) (column : ℕ) → AreValues roles cells values → IsBadAt at roles cells column → ⊥
good_not_bad at [] cells values column h bad = bad
good_not_bad at (role ∷ roles) [] values column h bad = bad
good_not_bad at (role ∷ roles) (cell ∷ cells) values column h (inl bad) = not_bad role cell h.0 h.3 bad.0
good_not_bad at (role ∷ roles) (cell ∷ cells) values column h (inr later) = good_not_bad (at + 1) roles cells h.1 column h.4 later.2

-- and the first bad cell is settled.
one_bad : (at : ℕ) (roles : List Role) (cells : List (List ℕ)) (a b : ℕ) → IsBadAt at roles cells a → IsBadAt at roles cells b → a ≡ b
one_bad at [] cells a b h k = absurd h
one_bad at (role ∷ roles) [] a b h k = absurd h
one_bad at (role ∷ roles) (cell ∷ cells) a b (inl h) (inl k) = h.1 ∙ sym k.1
one_bad at (role ∷ roles) (cell ∷ cells) a b (inl h) (inr k) = absurd (not_bad role cell k.0 k.1 h.0)
one_bad at (role ∷ roles) (cell ∷ cells) a b (inr h) (inl k) = absurd (not_bad role cell h.0 h.1 k.0)
one_bad at (role ∷ roles) (cell ∷ cells) a b (inr h) (inr k) = one_bad (at + 1) roles cells a b h.2 k.2

both_ways : (b : Bool) → b ≡ true → b ≡ false → ⊥
both_ways true e f = cc f
both_ways false e f = cc e

cells_sound : (layout : Layout) (cells : List (List ℕ)) (kind : FaultKind) (column : ℕ) (values : List (Option Quantity)) → is_whole layout cells ≡ true → AreValues layout.roles cells values
    → CellsFault layout cells kind column → ⊥
cells_sound layout cells kind column values whole good (bad_row broken k c) = both_ways (is_whole layout cells) whole broken
cells_sound layout cells kind column values whole good (bad_cell w bad k) = good_not_bad 1 layout.roles cells values column good bad

-- two faults are one
record IsOne (kind other : FaultKind) (column place : ℕ) : Type 0 where
  kinds : kind ≡ other
  columns : column ≡ place

cells_one : (layout : Layout) (cells : List (List ℕ)) (kind other : FaultKind) (column place : ℕ) → CellsFault layout cells kind column → CellsFault layout cells other place → IsOne kind other column place
cells_one layout cells kind other column place (bad_row h k c) (bad_row h' k' c') = record { kinds = k ∙ sym k'; columns = c ∙ sym c' }
cells_one layout cells kind other column place (bad_row h k c) (bad_cell h' b' k') = absurd (both_ways (is_whole layout cells) h' h)
cells_one layout cells kind other column place (bad_cell h b k) (bad_row h' k' c') = absurd (both_ways (is_whole layout cells) h h')
cells_one layout cells kind other column place (bad_cell h b k) (bad_cell h' b' k') = record { kinds = k ∙ sym k'; columns = one_bad 1 layout.roles cells column place b b' }

-- A row in which nothing is wrong has no fault,
sound_not_wrong : (layout : Layout) (before : ℕ) (taken : Bool) (cells : List (List ℕ)) (kind : FaultKind) (column : ℕ) → IsSound layout before taken cells
    → RowFault layout before taken cells kind column → ⊥
sound_not_wrong layout before taken cells kind column h (too_many over k c) = let few = h.few in absurd (omega arith)
sound_not_wrong layout before taken cells kind column h (in_cells few wrong) = cells_sound layout cells kind column h.values h.whole h.good wrong
sound_not_wrong layout before taken cells kind column h (part_twice few w v g t k c) = both_ways taken t h.free

-- and another one fault.
one_wrong : (layout : Layout) (before : ℕ) (taken : Bool) (cells : List (List ℕ)) (kind other : FaultKind) (column place : ℕ)
    → RowFault layout before taken cells kind column → RowFault layout before taken cells other place → IsOne kind other column place
one_wrong layout before taken cells kind other column place (too_many o k c) (too_many o' k' c') = record { kinds = k ∙ sym k'; columns = c ∙ sym c' }
one_wrong layout before taken cells kind other column place (too_many o k c) (in_cells f' w') = absurd (omega arith)
one_wrong layout before taken cells kind other column place (too_many o k c) (part_twice f' w' v' g' t' k' c') = absurd (omega arith)
one_wrong layout before taken cells kind other column place (in_cells f w) (too_many o' k' c') = absurd (omega arith)
one_wrong layout before taken cells kind other column place (in_cells f w) (in_cells f' w') = cells_one layout cells kind other column place w w'
one_wrong layout before taken cells kind other column place (in_cells f w) (part_twice f' w' v' g' t' k' c') = absurd (cells_sound layout cells kind column v' w' g' w)
one_wrong layout before taken cells kind other column place (part_twice f w v g t k c) (too_many o' k' c') = absurd (omega arith)
one_wrong layout before taken cells kind other column place (part_twice f w v g t k c) (in_cells f' w') = absurd (cells_sound layout cells other place v w g w')
one_wrong layout before taken cells kind other column place (part_twice f w v g t k c) (part_twice f' w' v' g' t' k' c') = record { kinds = k ∙ sym k'; columns = c ∙ sym c' }

one_fault_of : (layout : Layout) (before : ℕ) (taken : Bool) (cells : List (List ℕ)) (a b : Fault) → HasFault layout before taken cells a → HasFault layout before taken cells b → a ≡ b
one_fault_of layout before taken cells a b h k =
    let one = one_wrong layout before taken cells h.kind k.kind h.column k.column h.wrong k.wrong in
    let same : fault_at h.kind (before + 1) h.column ≡ fault_at k.kind (before + 1) k.column = ap (λ kind. fault_at kind (before + 1) h.column) one.kinds ∙ ap (λ column. fault_at k.kind (before + 1) column) one.columns in
    h.fault_is ∙ (same ∙ sym k.fault_is)

one_row : (layout : Layout) (cells : List (List ℕ)) (a b : CatalogRow) → IsRow layout cells a → IsRow layout cells b → a ≡ b
one_row layout cells a b h k =
    let part : a.part ≡ b.part = h.part ∙ sym k.part in
    let kind : a.kind ≡ b.kind = h.kind ∙ sym k.kind in
    let package' : a.package ≡ b.package = h.package ∙ sym k.package in
    let footprint : a.footprint ≡ b.footprint = h.footprint ∙ sym k.footprint in
    let price : a.price ≡ b.price = h.price ∙ sym k.price in
    let values : a.cells ≡ b.cells = one_values layout.roles cells a.cells b.cells h.values k.values in
    λ i. record { part = part i; kind = kind i; «package» = package' i; footprint = footprint i; price = price i; cells = values i }

one_rows : (layout : Layout) (parts : List (List ℕ)) (records : List (List (List ℕ))) (a b : List CatalogRow) → AreRows layout parts records a → AreRows layout parts records b → a ≡ b
one_rows layout parts [] [] [] h k = refl
one_rows layout parts [] [] (y ∷ b) h k = absurd k
one_rows layout parts [] (x ∷ a) b h k = absurd h
one_rows layout parts (cells ∷ records) [] b h k = absurd h
one_rows layout parts (cells ∷ records) (x ∷ a) [] h k = absurd k
one_rows layout parts (cells ∷ records) (x ∷ a) (y ∷ b) h k =
    let first = one_row layout cells x y h.1 k.1 in
    let rest = one_rows layout (parts ++ part_in layout cells ∷ []) records a b h.2 k.2 in
    λ i. first i ∷ rest i

rows_not_wrong : (layout : Layout) (parts : List (List ℕ)) (records : List (List (List ℕ))) (rows : List CatalogRow) (fault : Fault) → AreRows layout parts records rows
    → IsFirstFault layout parts records fault → ⊥
rows_not_wrong layout parts [] rows fault h wrong = wrong
rows_not_wrong layout parts (cells ∷ records) [] fault h wrong = h
rows_not_wrong layout parts (cells ∷ records) (row ∷ rows) fault h (inl wrong) =
    sound_not_wrong layout (length parts) (is_taken parts (part_in layout cells)) cells wrong.kind wrong.column h.0 wrong.wrong
rows_not_wrong layout parts (cells ∷ records) (row ∷ rows) fault h (inr later) = rows_not_wrong layout (parts ++ part_in layout cells ∷ []) records rows fault h.2 later.1

one_first : (layout : Layout) (parts : List (List ℕ)) (records : List (List (List ℕ))) (a b : Fault) → IsFirstFault layout parts records a → IsFirstFault layout parts records b → a ≡ b
one_first layout parts [] a b h k = absurd h
one_first layout parts (cells ∷ records) a b (inl h) (inl k) = one_fault_of layout (length parts) (is_taken parts (part_in layout cells)) cells a b h k
one_first layout parts (cells ∷ records) a b (inl h) (inr k) = absurd (sound_not_wrong layout (length parts) (is_taken parts (part_in layout cells)) cells h.kind h.column k.0 h.wrong)
one_first layout parts (cells ∷ records) a b (inr h) (inl k) = absurd (sound_not_wrong layout (length parts) (is_taken parts (part_in layout cells)) cells k.kind k.column h.0 k.wrong)
one_first layout parts (cells ∷ records) a b (inr h) (inr k) = one_first layout (parts ++ part_in layout cells ∷ []) records a b h.1 k.1

one_read : (records : List (List (List ℕ))) (a b : Catalog) → IsReadIn records a → IsReadIn records b → a ≡ b
one_read [] a b h k = absurd h
one_read (header ∷ rows) a b h k =
    let columns : a.columns ≡ b.columns = h.1 ∙ sym k.1 in
    let same = one_rows (layout_of header) [] rows a.rows b.rows h.2 k.2 in
    λ i. record { columns = columns i; rows = same i }

read_not_wrong : (records : List (List (List ℕ))) (catalog : Catalog) (fault : Fault) → IsReadIn records catalog → IsFaultIn records fault → ⊥
read_not_wrong [] catalog fault h wrong = h
read_not_wrong (header ∷ rows) catalog fault h wrong =
    rows_not_wrong (layout_of header) [] rows catalog.rows fault h.2
    (subst (λ (o : Option Fault). MatchOption o (IsFirstFault (layout_of header) [] rows fault) (λ found. fault ≡ found)) h.0 wrong)

one_in : (records : List (List (List ℕ))) (a b : Fault) → IsFaultIn records a → IsFaultIn records b → a ≡ b
one_in [] a b h k = h ∙ sym k
one_in (header ∷ rows) a b h k = by (header_fault header) h k
  where
    by : (o : Option Fault) → MatchOption o (IsFirstFault (layout_of header) [] rows a) (λ found. a ≡ found) → MatchOption o (IsFirstFault (layout_of header) [] rows b) (λ found. b ≡ found) → a ≡ b
    by None d e = one_first (layout_of header) [] rows a b d e
    by (Some f) d e = d ∙ sym e

-- Bytes hold one catalogue at most,
pub one_catalogue : (bytes : List ℕ) (a b : Catalog) → IsCatalogue bytes a → IsCatalogue bytes b → a ≡ b
one_catalogue bytes a b h k = one_read (records_of bytes) a b h k

-- have one first fault at most,
pub one_fault : (bytes : List ℕ) (a b : Fault) → IsFault bytes a → IsFault bytes b → a ≡ b
one_fault bytes a b h k = one_in (records_of bytes) a b h k

-- and never both.
pub never_both : (bytes : List ℕ) (catalog : Catalog) (fault : Fault) → IsCatalogue bytes catalog → IsFault bytes fault → ⊥
never_both bytes catalog fault h wrong = read_not_wrong (records_of bytes) catalog fault h wrong

-- So where bytes hold a catalogue it is the answer, or want of memory,
pub given : (bytes : List ℕ) (r : Result Catalog Refusal) → IfOk r (IsCatalogue bytes) → IfErr r (IsRefusalBy (IsFault bytes)) → (catalog : Catalog) → IsCatalogue bytes catalog
    → MatchResult r (λ read. read ≡ catalog) (λ e. e ≡ refusal.NoMemory)
given bytes (Ok read) h wrong catalog k = one_catalogue bytes read catalog h k
given bytes (Err refusal.NoMemory) h wrong catalog k = refl
given bytes (Err (refusal.Fault fault)) h wrong catalog k = absurd (never_both bytes catalog fault k wrong)

-- and where a fault stands first it is.
pub stands : (bytes : List ℕ) (r : Result Catalog Refusal) → IfOk r (IsCatalogue bytes) → IfErr r (IsRefusalBy (IsFault bytes)) → (found : Fault) → IsFault bytes found
    → IsErrAnd r (IsRefusalBy (λ fault. fault ≡ found))
stands bytes (Ok read) h wrong found k = absurd (never_both bytes read found h k)
stands bytes (Err refusal.NoMemory) h wrong found k = tt
stands bytes (Err (refusal.Fault fault)) h wrong found k = one_fault bytes fault found wrong k
