-- What the bytes of a catalogue hold, and the first fault in them.
use Rattle.std.specs.Prelude.{◌≡◌, ◌⊎◌, ℕ, ◌+◌, ⊤, Bool, List, [], ◌∷◌, ◌++◌, None, MatchOption, length}
use Rattle.std.specs.List.{list_any}
use Rattle.std.specs.Str.{bytes_eq}
use Rattle.ato_base.specs.declared.faults.Fault.{Fault}
use Rattle.ato_base.specs.declared.faults.FaultKind.{FaultKind}
use Rattle.ato_base.specs.declared.faults.FaultKind.TheVariants as faults
use Rattle.ato_base.specs.declared.faults.Refusal.{Refusal}
use Rattle.ato_base.specs.declared.faults.Refusal.TheVariants as refusal
use Rattle.ato_catalog.specs.Header.{layout_of}
use Rattle.ato_catalog.specs.HeaderFaults.{fault_at, header_fault}
use Rattle.ato_catalog.specs.Records.{records_of}
use Rattle.ato_catalog.specs.Rows.{IsRow, IsSound, RowFault, part_in}
use Rattle.ato_catalog.specs.declared.header.Layout.{Layout}
use Rattle.ato_catalog.specs.declared.reading.Catalog.{Catalog}
use Rattle.ato_catalog.specs.declared.rows.CatalogRow.{CatalogRow}

-- one of the parts is this one
abbrev pub is_taken : List (List ℕ) → List ℕ → Bool
is_taken parts part = list_any (λ held. bytes_eq held part) parts

-- This is what is wrong with a row behind so many others.
pub record HasFault (layout : Layout) (before : ℕ) (taken : Bool) (cells : List (List ℕ)) (fault : Fault) : Type 0 where
  pub kind : FaultKind
  pub column : ℕ
  pub wrong : RowFault layout before taken cells kind column
  pub fault_is : fault ≡ fault_at kind (before + 1) column

-- This is the first fault in rows that come behind rows with these parts.
abbrev pub IsFirstFault : Layout → List (List ℕ) → List (List (List ℕ)) → Fault → Type 0
IsFirstFault layout parts [] fault = ⊥
IsFirstFault layout parts (cells ∷ rows) fault =
    HasFault layout (length parts) (is_taken parts (part_in layout cells)) cells fault
    ⊎ (IsSound layout (length parts) (is_taken parts (part_in layout cells)) cells × IsFirstFault layout (parts ++ part_in layout cells ∷ []) rows fault)

-- Nothing is wrong with rows that come behind rows with these parts, and they are these.
abbrev pub AreRows : Layout → List (List ℕ) → List (List (List ℕ)) → List CatalogRow → Type 0
AreRows layout parts [] [] = ⊤
AreRows layout parts [] (row ∷ rows) = ⊥
AreRows layout parts (cells ∷ records) [] = ⊥
AreRows layout parts (cells ∷ records) (row ∷ rows) =
    IsSound layout (length parts) (is_taken parts (part_in layout cells)) cells × IsRow layout cells row
    × AreRows layout (parts ++ part_in layout cells ∷ []) records rows

-- This is the first fault in records, of which the first is to be the header.
abbrev pub IsFaultIn : List (List (List ℕ)) → Fault → Type 0
IsFaultIn [] fault = fault ≡ fault_at faults.NoHeader 0 0
IsFaultIn (header ∷ rows) fault = MatchOption (header_fault header) (IsFirstFault (layout_of header) [] rows fault) (λ found. fault ≡ found)

-- The records are a header and rows without a fault, and the catalogue has these columns and rows.
abbrev pub IsReadIn : List (List (List ℕ)) → Catalog → Type 0
IsReadIn [] catalog = ⊥
IsReadIn (header ∷ rows) catalog =
    (header_fault header ≡ None) × (catalog.columns ≡ (layout_of header).attributes) × AreRows (layout_of header) [] rows catalog.rows

-- The bytes hold this catalogue, and no fault.
abbrev pub IsCatalogue : List ℕ → Catalog → Type 0
IsCatalogue bytes = IsReadIn (records_of bytes)

-- This is the first fault in the bytes.
abbrev pub IsFault : List ℕ → Fault → Type 0
IsFault bytes = IsFaultIn (records_of bytes)

-- A refusal is want of memory or a fault of which this holds.
abbrev pub IsRefusalBy : (Fault → Type 0) → Refusal → Type 0
IsRefusalBy Holds (refusal.Fault fault) = Holds fault
IsRefusalBy Holds refusal.NoMemory = ⊤
