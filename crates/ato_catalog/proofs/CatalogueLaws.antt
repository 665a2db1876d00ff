-- Laws over the rows of a catalogue, one after another.
use Rattle.std.proofs.Common.{◌≡◌, ◌<◌, ◌≤◌, ◌+◌, ◌-◌, ◌++◌, ◌∷◌, [], ℕ, zero, suc, List, Bool, true, false, length, get_or, take, drop, map, refl, sym, ap, subst, arith, add-one, append_assoc, drop-cons, inl, inr, ◌∙◌}
use Rattle.std.specs.Prelude.{not, ◌||◌, MatchOption, Option, Some, None, Result, Ok, Err, IfOk, IfErr}
use Rattle.std.proofs.lemmas.List.{append-nil, length-append, length-map, length-take-le, map-append}
use Rattle.std.proofs.lemmas.List.Folds.{list_any-append}
use Rattle.std.specs.Str.{bytes_eq}
use Rattle.std.proofs.Math.Seq.{take-length, take-suc}
use Rattle.std.proofs.Math.ListN.{take-append-drop}
use Rattle.ato_base.specs.declared.faults.Refusal.{Refusal}
use Rattle.ato_base.specs.declared.faults.Refusal.TheVariants as refusal
use Rattle.ato_base.specs.declared.faults.Fault.{Fault}
use Rattle.ato_catalog.specs.Catalogue.{AreRows, HasFault, IsFaultIn, IsFirstFault, IsReadIn, IsRefusalBy, is_taken}
use Rattle.ato_base.specs.declared.faults.FaultKind.TheVariants as faults
use Rattle.ato_units.specs.declared.quantities.Quantity.{Quantity}
use Rattle.ato_catalog.specs.HeaderFaults.{fault_at, header_fault}
use Rattle.ato_catalog.specs.Header.{layout_of}
use Rattle.ato_catalog.specs.Limits.{most_rows}
use Rattle.ato_catalog.specs.Rows.{AreValues, IsRow, IsSound, is_whole, part_in, part_twice}
use Rattle.ato_catalog.specs.declared.header.Layout.{Layout}
use Rattle.ato_catalog.specs.declared.reading.Catalog.{Catalog}
use Rattle.ato_catalog.specs.declared.rows.CatalogRow.{CatalogRow}
use Rattle.ato_catalog.proofs.RowLaws.{parts_of}

-- nothing is wrong with a row behind rows with these parts
abbrev pub SoundBehind : Layout → List (List ℕ) → List (List ℕ) → Type 0
SoundBehind layout parts cells = IsSound layout (length parts) (is_taken parts (part_in layout cells)) cells

-- this is wrong with a row behind rows with these parts
abbrev pub FaultBehind : Layout → List (List ℕ) → List (List ℕ) → Fault → Type 0
FaultBehind layout parts cells fault = HasFault layout (length parts) (is_taken parts (part_in layout cells)) cells fault

-- a row whose part is taken has this fault, unless its cells have one
pub twice_fault : (layout : Layout) (before : ℕ) (taken new : Bool) (cells : List (List ℕ)) (values : List (Option Quantity)) → before < most_rows → is_whole layout cells ≡ true
    → AreValues layout.roles cells values → new ≡ not taken → new ≡ false → HasFault layout before taken cells (fault_at faults.PartTwice (before + 1) (layout.part + 1))
twice_fault layout before taken new cells values few whole good is old =
    record { kind = faults.PartTwice; column = layout.part + 1; wrong = part_twice few whole values good (by taken (sym is ∙ old)) refl refl; fault_is = refl }
  where
    by : (b : Bool) → not b ≡ false → b ≡ true
    by true e = refl
    by false e = cc e

-- the parts before some rows and theirs
regroup : (layout : Layout) (parts : List (List ℕ)) (cells : List (List ℕ)) (rows : List (List (List ℕ)))
    → parts ++ parts_of layout (cells ∷ rows) ≡ (parts ++ part_in layout cells ∷ []) ++ parts_of layout rows
regroup layout parts cells rows = sym (append_assoc parts (part_in layout cells ∷ []) (parts_of layout rows))

push : (layout : Layout) (parts : List (List ℕ)) (records : List (List (List ℕ))) (rows : List CatalogRow) (cells : List (List ℕ)) (row : CatalogRow)
    → AreRows layout parts records rows → SoundBehind layout (parts ++ parts_of layout records) cells → IsRow layout cells row
    → AreRows layout parts (records ++ cells ∷ []) (rows ++ row ∷ [])
push layout parts [] [] cells row h sound is = (rw (append-nil parts) at sound, is, tt)
push layout parts [] (r ∷ rows) cells row h sound is = absurd h
push layout parts (c ∷ records) [] cells row h sound is = absurd h
push layout parts (c ∷ records) (r ∷ rows) cells row h sound is =
    (h.0, h.1, push layout (parts ++ part_in layout c ∷ []) records rows cells row h.2 (rw (regroup layout parts c records) at sound) is)

here : (layout : Layout) (parts : List (List ℕ)) (records : List (List (List ℕ))) (rows : List CatalogRow) (cells : List (List ℕ)) (more : List (List (List ℕ))) (fault : Fault)
    → AreRows layout parts records rows → FaultBehind layout (parts ++ parts_of layout records) cells fault → IsFirstFault layout parts (records ++ cells ∷ more) fault
here layout parts [] [] cells more fault h wrong = inl (rw (append-nil parts) at wrong)
here layout parts [] (r ∷ rows) cells more fault h wrong = absurd h
here layout parts (c ∷ records) [] cells more fault h wrong = absurd h
here layout parts (c ∷ records) (r ∷ rows) cells more fault h wrong =
    inr (h.0, here layout (parts ++ part_in layout c ∷ []) records rows cells more fault h.2 (rw (regroup layout parts c records) at wrong))

-- one more row in which nothing is wrong
pub rows_push : (layout : Layout) (records : List (List (List ℕ))) (rows : List CatalogRow) (cells : List (List ℕ)) (row : CatalogRow)
    → AreRows layout [] records rows → SoundBehind layout (parts_of layout records) cells → IsRow layout cells row
    → AreRows layout [] (records ++ cells ∷ []) (rows ++ row ∷ [])
rows_push layout records rows cells row h sound is = push layout [] records rows cells row h sound is

-- the first row in which something is wrong
pub fault_here : (layout : Layout) (records : List (List (List ℕ))) (rows : List CatalogRow) (cells : List (List ℕ)) (more : List (List (List ℕ))) (fault : Fault)
    → AreRows layout [] records rows → FaultBehind layout (parts_of layout records) cells fault → IsFirstFault layout [] (records ++ cells ∷ more) fault
fault_here layout records rows cells more fault h wrong = here layout [] records rows cells more fault h wrong

-- the rows that may be and one more tell as much as all of them
rows-take : (layout : Layout) (parts : List (List ℕ)) (records : List (List (List ℕ))) (rows : List CatalogRow) (n : ℕ) → length parts + n ≡ most_rows + 1 → length parts ≤ most_rows
    → AreRows layout parts (take n records) rows → AreRows layout parts records rows
rows-take layout parts [] rows zero count few h = h
rows-take layout parts [] rows (suc n) count few h = h
rows-take layout parts (cells ∷ records) rows zero count few h = absurd (omega arith)
rows-take layout parts (cells ∷ records) [] (suc n) count few h = absurd h
rows-take layout parts (cells ∷ records) (row ∷ rows) (suc n) count few h =
    let size = length-append parts (part_in layout cells ∷ []) in
    let less = h.0.few in
    (h.0, h.1, rows-take layout (parts ++ part_in layout cells ∷ []) records rows n (omega arith) (omega arith) h.2)

fault-take : (layout : Layout) (parts : List (List ℕ)) (records : List (List (List ℕ))) (fault : Fault) (n : ℕ) → length parts + n ≡ most_rows + 1 → length parts ≤ most_rows
    → IsFirstFault layout parts (take n records) fault → IsFirstFault layout parts records fault
fault-take layout parts [] fault zero count few h = h
fault-take layout parts [] fault (suc n) count few h = h
fault-take layout parts (cells ∷ records) fault zero count few h = absurd h
fault-take layout parts (cells ∷ records) fault (suc n) count few (inl wrong) = inl wrong
fault-take layout parts (cells ∷ records) fault (suc n) count few (inr later) =
    let size = length-append parts (part_in layout cells ∷ []) in
    let less = later.0.few in
    inr (later.0, fault-take layout (parts ++ part_in layout cells ∷ []) records fault n (omega arith) (omega arith) later.1)

-- the header, the rows that may be and one more tell as much as all records
pub read-take : (records : List (List (List ℕ))) (catalog : Catalog) (n : ℕ) → n ≡ most_rows + 1 → IsReadIn (take (suc n) records) catalog → IsReadIn records catalog
read-take [] catalog n many h = h
read-take (header ∷ rows) catalog n many h = (h.0, h.1, rows-take (layout_of header) [] rows catalog.rows n (omega arith) (omega arith) h.2)

pub fault-in-take : (records : List (List (List ℕ))) (fault : Fault) (n : ℕ) → n ≡ most_rows + 1 → IsFaultIn (take (suc n) records) fault → IsFaultIn records fault
fault-in-take [] fault n many h = h
fault-in-take (header ∷ rows) fault n many h = by (header_fault header) h
  where
    by : (found : Option Fault) → MatchOption found (IsFirstFault (layout_of header) [] (take n rows) fault) (λ f. fault ≡ f)
        → MatchOption found (IsFirstFault (layout_of header) [] rows fault) (λ f. fault ≡ f)
    by None k = fault-take (layout_of header) [] rows fault n (omega arith) (omega arith) k
    by (Some f) k = k

-- the catalogue, if there is one, of the first records is that of all
pub ok-take : (records found : List (List (List ℕ))) (most : ℕ) (r : Result Catalog Refusal) → found ≡ take (most + 2) records → most ≡ most_rows
    → IfOk r (IsReadIn found) → IfOk r (IsReadIn records)
ok-take records found most (Err e) same many h = tt
ok-take records found most (Ok catalog) same many h =
    let count : most + 2 ≡ suc (most + 1) = omega arith in
    read-take records catalog (most + 1) (omega arith)
    (subst (λ (rows : List (List (List ℕ))). IsReadIn rows catalog) (same ∙ ap (λ (n : ℕ). take n records) count) h)

-- and so is the first fault
pub err-take : (records found : List (List (List ℕ))) (most : ℕ) (r : Result Catalog Refusal) → found ≡ take (most + 2) records → most ≡ most_rows
    → IfErr r (IsRefusalBy (IsFaultIn found)) → IfErr r (IsRefusalBy (IsFaultIn records))
err-take records found most (Ok catalog) same many h = tt
err-take records found most (Err refusal.NoMemory) same many h = tt
err-take records found most (Err (refusal.Fault fault)) same many h =
    let count : most + 2 ≡ suc (most + 1) = omega arith in
    fault-in-take records fault (most + 1) (omega arith)
    (subst (λ (rows : List (List (List ℕ))). IsFaultIn rows fault) (same ∙ ap (λ (n : ℕ). take n records) count) h)

-- some records are the first one and those below it
pub split-records : {X : Type 0} (cells_of : X → List (List ℕ)) (records rows : List X) (header : X) → 1 ≤ length records → header ≡ get_or records 0 header
    → rows ≡ take (length records - 1) (drop 1 records) → map cells_of records ≡ cells_of header ∷ map cells_of rows
split-records cells_of [] rows header some first below = absurd (omega arith)
split-records cells_of (record' ∷ records) rows header some first below =
    let count : length (record' ∷ records) - 1 ≡ length records = omega arith in
    let same : rows ≡ records = below ∙ (ap (λ (n : ℕ). take n records) count ∙ take-length records) in
    rw (same, first) refl

module _ {X : Type 0} (cells_of : X → List (List ℕ)) (layout : Layout) (records : List X) (i : ℕ) (row : X) where
  -- the parts of the rows before a place
  abbrev pub parts_before : List (List ℕ)
  parts_before = parts_of layout (map cells_of (take i records))

  count-before : i < length records → length parts_before ≡ i
  count-before inside =
      length-map (map cells_of (take i records)) (part_in layout) ∙ (length-map (take i records) cells_of ∙ length-take-le i records (omega arith))

  front : i < length records → row ≡ get_or records i row → map cells_of (take (i + 1) records) ≡ map cells_of (take i records) ++ cells_of row ∷ []
  front inside here = rw (add-one, take-suc records i row inside, map-append, ← here) refl

  whole : i < length records → row ≡ get_or records i row → map cells_of (take i records) ++ cells_of row ∷ map cells_of (drop (suc i) records) ≡ map cells_of records
  whole inside here =
      let tail : drop i records ≡ row ∷ drop (suc i) records = drop-cons records i row inside ∙ ap (λ x. x ∷ drop (suc i) records) (sym here) in
      sym (map-append cells_of (take i records) (row ∷ drop (suc i) records)) ∙ ap (map cells_of) (ap (λ more. take i records ++ more) (sym tail) ∙ take-append-drop i records)

  or-false : (a : Bool) → (a || false) ≡ a
  or-false true = refl
  or-false false = refl

  -- one more part
  pub parts_more : (part : List ℕ) → i < length records → row ≡ get_or records i row
      → is_taken (parts_of layout (map cells_of (take (i + 1) records))) part ≡ (is_taken parts_before part || bytes_eq (part_in layout (cells_of row)) part)
  parts_more part inside here =
      rw (
        front inside here,
        map-append (part_in layout) (map cells_of (take i records)) (cells_of row ∷ []),
        list_any-append (λ held. bytes_eq held part) parts_before (part_in layout (cells_of row) ∷ []),
      )
      (ap (λ more. is_taken parts_before part || more) (or-false (bytes_eq (part_in layout (cells_of row)) part)))

  -- one more row
  pub rows_more : (rows : List CatalogRow) (made : CatalogRow) (taken : Bool) → AreRows layout [] (map cells_of (take i records)) rows
      → i < length records → row ≡ get_or records i row → taken ≡ is_taken parts_before (part_in layout (cells_of row))
      → IsSound layout i taken (cells_of row) → IsRow layout (cells_of row) made
      → AreRows layout [] (map cells_of (take (i + 1) records)) (rows ++ made ∷ [])
  rows_more rows made taken so_far inside here same sound is =
      let behind : SoundBehind layout parts_before (cells_of row) =
      subst (λ (n : ℕ). IsSound layout n (is_taken parts_before (part_in layout (cells_of row))) (cells_of row)) (sym (count-before inside))
      (subst (λ (b : Bool). IsSound layout i b (cells_of row)) same sound)
      in
      subst (λ (front : List (List (List ℕ))). AreRows layout [] front (rows ++ made ∷ [])) (sym (front inside here))
      (rows_push layout (map cells_of (take i records)) rows (cells_of row) made so_far behind is)

  -- the first fault
  pub refused_here : (rows : List CatalogRow) (taken : Bool) (e : Refusal) → AreRows layout [] (map cells_of (take i records)) rows
      → i < length records → row ≡ get_or records i row → taken ≡ is_taken parts_before (part_in layout (cells_of row))
      → IsRefusalBy (HasFault layout i taken (cells_of row)) e → IsRefusalBy (IsFirstFault layout [] (map cells_of records)) e
  refused_here rows taken refusal.NoMemory so_far inside here same wrong = tt
  refused_here rows taken (refusal.Fault fault) so_far inside here same wrong =
      let behind : FaultBehind layout parts_before (cells_of row) fault =
      subst (λ (n : ℕ). HasFault layout n (is_taken parts_before (part_in layout (cells_of row))) (cells_of row) fault) (sym (count-before inside))
      (subst (λ (b : Bool). HasFault layout i b (cells_of row) fault) same wrong)
      in
      subst (λ (all : List (List (List ℕ))). IsFirstFault layout [] all fault) (whole inside here)
      (fault_here layout (map cells_of (take i records)) rows (cells_of row) (map cells_of (drop (suc i) records)) fault so_far behind)
