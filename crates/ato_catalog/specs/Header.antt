-- The header of a catalogue, and what each column holds.
use Rattle.std.specs.Prelude.{ℕ, ◌+◌, ◌==◌, ◌&&◌, Bool, false, List, [], ◌∷◌, ◌++◌, Option, Some, None, if◌then◌else◌, not, nat_le, length, map, codes}
use Rattle.std.specs.List.{list_all, list_any, position_or_len}
use Rattle.std.specs.Str.{bytes_eq, is_utf8}
use Rattle.ato_catalog.specs.Limits.{most_columns}
use Rattle.ato_catalog.specs.declared.header.Column.{Column}
use Rattle.ato_catalog.specs.declared.header.Layout.{Layout}
use Rattle.ato_catalog.specs.declared.header.Role.{Role}
use Rattle.ato_catalog.specs.declared.header.Role.TheVariants as under

-- a heading that begins with `#`
abbrev pub is_remark : List ℕ → Bool
is_remark [] = false
is_remark (b ∷ rest) = b == 35

-- what stands under a heading: five have a meaning of their own, a remark is not read, and any other is an attribute
unfoldable pub role_of : List ℕ → Role
role_of heading =
    if bytes_eq heading (codes "part") then under.Part
    else if bytes_eq heading (codes "kind") then under.Kind
    else if bytes_eq heading (codes "package") then under.Package
    else if bytes_eq heading (codes "footprint") then under.Footprint
    else if bytes_eq heading (codes "price") then under.Price
    else if is_remark heading then under.Remark
    else under.Attribute

-- one of the headings is this one
abbrev pub is_among : List (List ℕ) → List ℕ → Bool
is_among headings heading = list_any (bytes_eq heading) headings

-- not empty
abbrev pub is_some_text : List ℕ → Bool
is_some_text text = not (length text == 0)

-- the header of a catalogue: no more columns than the limit, each heading a text that is not empty, and `part` and `kind` among them
unfoldable pub is_header : List (List ℕ) → Bool
is_header headings =
    nat_le (length headings) most_columns && list_all is_utf8 headings && list_all is_some_text headings
    && is_among headings (codes "part") && is_among headings (codes "kind")

-- a heading behind others that is no remark and one of them
abbrev pub is_twice : List (List ℕ) → List ℕ → Bool
is_twice before heading = not (is_remark heading) && is_among before heading

-- the number of the first column, behind those with some headings, whose heading is no remark and stands before it too
unfoldable pub twice_after : List (List ℕ) → List (List ℕ) → Option ℕ
twice_after before [] = None
twice_after before (heading ∷ headings) =
    if is_twice before heading then Some (length before + 1) else twice_after (before ++ heading ∷ []) headings

-- the place of the first column with this heading, counted from 0, or the number of columns where there is none
abbrev pub place_of : List ℕ → List (List ℕ) → ℕ
place_of heading headings = position_or_len (bytes_eq heading) headings

-- the column of an attribute in front of others; another column is left out
abbrev pub put_column : Role → ℕ → List ℕ → List Column → List Column
put_column under.Part at name columns = columns
put_column under.Kind at name columns = columns
put_column under.Package at name columns = columns
put_column under.Footprint at name columns = columns
put_column under.Price at name columns = columns
put_column under.Remark at name columns = columns
put_column under.Attribute at name columns = record { name = name; at = at } ∷ columns

-- the columns of the attributes, where the headings stand from this number on
unfoldable pub columns_from : ℕ → List (List ℕ) → List Column
columns_from at [] = []
columns_from at (heading ∷ headings) = put_column (role_of heading) at heading (columns_from (at + 1) headings)

-- what stands in each column, and where the headings with a meaning of their own stand
abbrev pub layout_of : List (List ℕ) → Layout
layout_of headings = record {
  roles = map role_of headings;
  part = place_of (codes "part") headings;
  kind = place_of (codes "kind") headings;
  «package» = place_of (codes "package") headings;
  footprint = place_of (codes "footprint") headings;
  price = place_of (codes "price") headings;
  attributes = columns_from 1 headings;
}
