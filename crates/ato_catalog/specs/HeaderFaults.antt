-- What is wrong with a header.
use Rattle.std.specs.Prelude.{ℕ, List, [], Option, Some, None, if◌then◌else◌, option_map}
use Rattle.ato_base.specs.declared.faults.Fault.{Fault}
use Rattle.ato_base.specs.declared.faults.FaultKind.{FaultKind}
use Rattle.ato_base.specs.declared.faults.FaultKind.TheVariants as faults
use Rattle.ato_base.specs.declared.places.Place.TheVariants as places
use Rattle.ato_catalog.specs.Header.{is_header, twice_after}

-- a fault in a cell: the header is row 0, columns count from 1, and column 0 is the whole row
abbrev pub fault_at : FaultKind → ℕ → ℕ → Fault
fault_at kind row column = record { kind = kind; at = places.Cell row column; other = None; path = [] }

-- a fault in the header
abbrev pub in_header : FaultKind × ℕ → Fault
in_header found = fault_at found.0 0 found.1

-- what is wrong with the headings: they are no header, or one of them stands twice
unfoldable pub header_fault : List (List ℕ) → Option Fault
header_fault headings =
    if is_header headings then option_map (λ column. fault_at faults.ColumnTwice 0 column) (twice_after [] headings)
    else Some (fault_at faults.NoHeader 0 0)
