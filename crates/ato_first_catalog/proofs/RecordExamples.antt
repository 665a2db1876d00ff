-- What some texts hold.
use Rattle.std.proofs.Common.{◌≡◌, ◌∷◌, [], codes, refl}
use Rattle.csv.specs.Machine.{next_record}
use Rattle.csv.specs.Reading.{records_from, strip_bom}
use Rattle.ato_first_catalog.specs.Records.{records_of}

pub plain : records_of (codes "part,kind\nA,k\n") ≡ (codes "part" ∷ codes "kind" ∷ []) ∷ (codes "A" ∷ codes "k" ∷ []) ∷ []
unfolding next_record records_from strip_bom
plain = refl

-- quotes are no part of a cell, and may hold a comma and a line's end
pub quotes : records_of (codes "\"a,b\",\"c\nd\"\n") ≡ (codes "a,b" ∷ codes "c\nd" ∷ []) ∷ []
unfolding next_record records_from strip_bom
quotes = refl

-- two quotes in quotes are one
pub doubled_quotes : records_of (codes "\"a\"\"b\",c\n") ≡ (codes "a\"b" ∷ codes "c" ∷ []) ∷ []
unfolding next_record records_from strip_bom
doubled_quotes = refl

-- a quote inside a cell is the cell's
pub late_quote : records_of (codes "a\"b,c\n") ≡ (codes "a\"b" ∷ codes "c" ∷ []) ∷ []
unfolding next_record records_from strip_bom
late_quote = refl

-- lines end with LF, with CR LF or with CR
pub line_ends : records_of (codes "a,b\r\nc,d\re,f\n") ≡ (codes "a" ∷ codes "b" ∷ []) ∷ (codes "c" ∷ codes "d" ∷ []) ∷ (codes "e" ∷ codes "f" ∷ []) ∷ []
unfolding next_record records_from strip_bom
line_ends = refl

-- empty lines hold nothing
pub empty_lines : records_of (codes "\n\na\r\n\r\n\nb\n\n") ≡ (codes "a" ∷ []) ∷ (codes "b" ∷ []) ∷ []
unfolding next_record records_from strip_bom
empty_lines = refl

-- a line of one pair of quotes is a record of one empty cell
pub empty_cell : records_of (codes "\"\"\n") ≡ ([] ∷ []) ∷ []
unfolding next_record records_from strip_bom
empty_cell = refl

-- a comma at the end begins an empty cell
pub last_comma : records_of (codes "A,\n") ≡ (codes "A" ∷ [] ∷ []) ∷ []
unfolding next_record records_from strip_bom
last_comma = refl

-- the last line needs no end
pub no_last_end : records_of (codes "a,b\nc,d") ≡ (codes "a" ∷ codes "b" ∷ []) ∷ (codes "c" ∷ codes "d" ∷ []) ∷ []
unfolding next_record records_from strip_bom
no_last_end = refl

-- quotes that are left open end with the text
pub open_quotes : records_of (codes "a,\"b\n") ≡ (codes "a" ∷ codes "b\n" ∷ []) ∷ []
unfolding next_record records_from strip_bom
open_quotes = refl

-- one byte order mark at the start is no part of the text
pub byte_order_mark : records_of (239 ∷ 187 ∷ 191 ∷ codes "a\n") ≡ (codes "a" ∷ []) ∷ []
unfolding next_record records_from strip_bom
byte_order_mark = refl

-- a second one is
pub second_mark : records_of (239 ∷ 187 ∷ 191 ∷ 239 ∷ 187 ∷ 191 ∷ codes "a\n") ≡ ((239 ∷ 187 ∷ 191 ∷ codes "a") ∷ []) ∷ []
unfolding next_record records_from strip_bom
second_mark = refl

-- no bytes hold no record, not even an empty header
pub no_bytes : records_of [] ≡ []
unfolding next_record records_from strip_bom
no_bytes = refl

-- spaces are part of a cell
pub spaces : records_of (codes " a , b \n") ≡ (codes " a " ∷ codes " b " ∷ []) ∷ []
unfolding next_record records_from strip_bom
spaces = refl
