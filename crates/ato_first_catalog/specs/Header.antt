-- The header of a catalogue, and which column stands where.
use Rattle.std.specs.Prelude.{ℕ, ◌+◌, ◌==◌, ◌&&◌, ◌||◌, Bool, true, false, List, [], ◌∷◌, not, nat_le, length, get_or, drop, codes}
use Rattle.std.specs.Char.{is_ascii_alphabetic, is_ascii_alphanumeric}
use Rattle.std.specs.List.{list_all, list_any, position_or_len}
use Rattle.std.specs.Str.{bytes_eq, is_utf8}
use Rattle.ato_base.specs.Keywords.{is_keyword}
use Rattle.ato_first_catalog.specs.Limits.{most_attributes}
use Rattle.ato_first_catalog.specs.declared.header.Column.{Column}
use Rattle.ato_first_catalog.specs.declared.header.Layout.{Layout}

-- an ASCII letter or `_`
abbrev pub is_name_start : ℕ → Bool
is_name_start b = is_ascii_alphabetic b || (b == 95)

-- an ASCII letter, digit or `_`
abbrev pub is_name_byte : ℕ → Bool
is_name_byte b = is_ascii_alphanumeric b || (b == 95)

-- ASCII letters, digits and `_`, with no digit first
unfoldable pub is_word : List ℕ → Bool
is_word [] = false
is_word (b ∷ rest) = is_name_start b && list_all is_name_byte rest

-- one of these texts
abbrev pub is_among : List (List ℕ) → List ℕ → Bool
is_among texts text = list_any (bytes_eq text) texts

-- the headings with a meaning of their own
abbrev pub own_headings : List (List ℕ)
own_headings = codes "part" ∷ codes "kind" ∷ codes "package" ∷ codes "footprint" ∷ codes "price" ∷ []

-- the heading of an attribute: a name that is no keyword and has no meaning of its own
unfoldable pub is_attribute : List ℕ → Bool
is_attribute text = is_word text && not (is_keyword text) && not (is_among own_headings text)

-- no text stands twice
unfoldable pub is_distinct : List (List ℕ) → Bool
is_distinct [] = true
is_distinct (text ∷ texts) = not (is_among texts text) && is_distinct texts

-- the header of a catalogue: `part`, `kind`, and then different attributes up to their limit
unfoldable pub is_header : List (List ℕ) → Bool
is_header cells =
    nat_le 2 (length cells) && nat_le (length cells) (2 + most_attributes) && list_all is_utf8 cells
    && bytes_eq (get_or cells 0 []) (codes "part") && bytes_eq (get_or cells 1 []) (codes "kind")
    && list_all is_attribute (drop 2 cells) && is_distinct (drop 2 cells)

-- the number of the first column with a heading, counted from 1
abbrev pub column_of : List ℕ → List (List ℕ) → ℕ
column_of heading header = position_or_len (bytes_eq heading) header + 1

-- the columns of these names, from this number on
unfoldable pub columns_from : ℕ → List (List ℕ) → List Column
columns_from at [] = []
columns_from at (name ∷ names) = record { name = name; at = at } ∷ columns_from (at + 1) names

-- how many cells the header has, and which column stands where
abbrev pub layout_of : List (List ℕ) → Layout
layout_of header = record {
  width = length header;
  part = column_of (codes "part") header;
  kind = column_of (codes "kind") header;
  attributes = columns_from 3 (drop 2 header);
}
