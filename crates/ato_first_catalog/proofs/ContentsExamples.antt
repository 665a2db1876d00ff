-- What some bytes hold.
use Rattle.std.proofs.Common.{◌≡◌, ◌∷◌, ◌++◌, [], Some, None, Ok, Err, codes, refl}
use Rattle.csv.specs.Machine.{next_record}
use Rattle.csv.specs.Reading.{records_from, strip_bom}
use Rattle.std.specs.Str.{chars, is_utf8}
use lib.Utf8.{encode}
use Rattle.ato_base.specs.declared.faults.FaultKind.TheVariants as fault
use Rattle.ato_first_catalog.specs.Contents.{catalogue_row, contents_in, contents_of, fault_at, first_fault, no_header, range_under, row_fault}
use Rattle.ato_first_catalog.specs.Header.{columns_from, is_attribute, is_distinct, is_header, is_word}
use Rattle.ato_first_catalog.specs.Ranges.{number_of, range_of, up_to}
use Rattle.ato_first_catalog.specs.Rows.{bad_column, cells_fault}

unfoldable on_literals : Unit {0}
unfolding next_record records_from strip_bom is_utf8 chars encode contents_in first_fault row_fault columns_from is_attribute is_distinct is_header is_word number_of range_of up_to bad_column cells_fault
on_literals = tt

pub two_rows : contents_of (codes "part,kind,x\nA,k,1 to 3\nB,k,2\n")
    ≡ Ok (record {
      columns = record { name = codes "x"; at = 3 } ∷ [];
      rows = record { part = codes "A"; kind = codes "k"; cells = Some (1, 3) ∷ [] }
          ∷ record { part = codes "B"; kind = codes "k"; cells = Some (2, 2) ∷ [] } ∷ [];
    })
unfolding on_literals
two_rows = refl

-- rows are counted from 1
pub second_row : catalogue_row (codes "part,kind,x\nA,k,1 to 3\nB,k,\n") 2 ≡ Some (record { part = codes "B"; kind = codes "k"; cells = None ∷ [] })
unfolding on_literals
second_row = refl

-- a range under a name, and none under another
pub range_by_name : range_under (codes "part,kind,x,y\nA,k,1,2 to 3\n") (record { part = codes "A"; kind = codes "k"; cells = Some (1, 1) ∷ Some (2, 3) ∷ [] }) (codes "y") ≡ Some (2, 3)
unfolding on_literals
range_by_name = refl

pub range_of_no_column : range_under (codes "part,kind,x\nA,k,1\n") (record { part = codes "A"; kind = codes "k"; cells = Some (1, 1) ∷ [] }) (codes "z") ≡ None
unfolding on_literals
range_of_no_column = refl

pub no_bytes : contents_of [] ≡ Err no_header
unfolding on_literals
no_bytes = refl

pub part_alone : contents_of (codes "part\n") ≡ Err no_header
unfolding on_literals
part_alone = refl

pub heading_twice : contents_of (codes "part,kind,x,x\n") ≡ Err no_header
unfolding on_literals
heading_twice = refl

pub short_row : contents_of (codes "part,kind\nA") ≡ Err (fault_at fault.BadRow 1 0)
unfolding on_literals
short_row = refl

pub row_of_no_text : contents_of (codes "part,kind\nA,k\nB," ++ 255 ∷ []) ≡ Err (fault_at fault.BadRow 2 0)
unfolding on_literals
row_of_no_text = refl

pub empty_kind : contents_of (codes "part,kind\nA,") ≡ Err (fault_at fault.BadCell 1 2)
unfolding on_literals
empty_kind = refl

pub ends_turned : contents_of (codes "part,kind,x\nA,k,3 to 2\n") ≡ Err (fault_at fault.BadCell 1 3)
unfolding on_literals
ends_turned = refl

pub part_twice : contents_of (codes "part,kind\nA,k\nA,m\n") ≡ Err (fault_at fault.PartTwice 2 1)
unfolding on_literals
part_twice = refl

-- the earlier row comes first, and in a row its cells come before its part
pub first_of_three : contents_of (codes "part,kind,x\nA,k,1\nA,k,one\nA\n") ≡ Err (fault_at fault.BadCell 2 3)
unfolding on_literals
first_of_three = refl
