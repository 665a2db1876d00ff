-- The parts of a project, with their strings and designators.
use Rattle.std.specs.Prelude.{◌≡◌, ℕ, ◌+◌, Contains, Bool, true, false, ◌&&◌, ◌||◌, List, [], ◌∷◌, ◌++◌, map, filter, Option, Some, None, if◌then◌else◌, is_some, slice_get, position, count_by, decimal, unwrap_or, codes}
use Rattle.std.specs.List.{list_any, join_with_byte}
use Rattle.std.specs.Option.{option_and_then, option_map}
use Rattle.std.specs.Str.{bytes_eq}
use Rattle.ato_base.specs.declared.nets.PartRow.{PartRow}
use Rattle.ato_files.specs.declared.program.Program.{Program}
use Rattle.ato_files.specs.declared.program.SourceFile.{SourceFile}
use Rattle.ato_files.specs.Blocks.{BlockAt, block_of}
use Rattle.ato_instance_tree.specs.declared.tree.Tree.{Tree}
use Rattle.ato_instance_tree.specs.Members.{Member, pin, named, members, source_text}
use Rattle.ato_instance_tree.specs.Walk.{type_at}
use Rattle.ato_instance_tree.specs.Order.{Spot, nodes, instances}
use Rattle.ato_instance_tree.specs.TreeFaults.{Limits, most_in_tree}
use Rattle.ato_instance_tree.specs.PathFaults.{keys_of, string_at, is_component_at, is_prefix, path_fault}
use Rattle.ato_instance_tree.specs.Elaborated.{IsElaborated, IsLoaded}
use Rattle.ato_instance_tree.specs.Laws.{at_names, place_of}

-- ---- strings

-- the string that counts for the name of this text, of the instance at a path
abbrev pub text_at : List SourceFile → ℕ → List (List ℕ) → List ℕ → List ℕ → Option (List ℕ)
text_at files entry names word path = option_map (λ text. source_text files text.contents)
    (option_and_then (λ name. string_at files entry name path) (position (bytes_eq word) names))

-- the same, or nothing
abbrev pub text_or_none : List SourceFile → ℕ → List (List ℕ) → List ℕ → List ℕ → List ℕ
text_or_none files entry names word path = unwrap_or (text_at files entry names word path) []

-- ---- parts

-- A component is a slot where a string counts for `kind`.
abbrev pub has_kind : List SourceFile → ℕ → List (List ℕ) → List ℕ → Bool
has_kind files entry names path = is_some (text_at files entry names (codes "kind") path)

abbrev pub is_pin : Member → Bool
is_pin (pin text) = true
is_pin (named n k) = false

-- A component is a part where it has a pin or is a slot.
abbrev pub is_part : List SourceFile → ℕ → List (List ℕ) → List ℕ → Bool
is_part files entry names path = is_component_at files entry path
    && (list_any is_pin (members files (type_at files entry path)) || has_kind files entry names path)

-- the paths of the parts, in tree order
abbrev pub parts : List SourceFile → ℕ → List (List ℕ) → List (List ℕ)
parts files entry names = filter (is_part files entry names) (instances files entry)

-- ---- designators

abbrev pub prefix_of : List SourceFile → ℕ → List (List ℕ) → List ℕ → List ℕ
prefix_of files entry names path = unwrap_or (text_at files entry names (codes "designator_prefix") path) (codes "U")

-- each prefix with a number, which counts from 1 for each; `before` are those before them
abbrev pub designators_after : List (List ℕ) → List (List ℕ) → List (List ℕ)
designators_after before [] = []
designators_after before (prefix ∷ more) = (prefix ++ decimal (count_by (bytes_eq prefix) before + 1)) ∷ designators_after (prefix ∷ before) more

-- the designators of the parts
abbrev pub designators : List SourceFile → ℕ → List (List ℕ) → List (List ℕ)
designators files entry names = designators_after [] (map (prefix_of files entry names) (parts files entry names))

-- ---- rows

-- the names of a path from the root; those of nodes are in the table (`NamesAreInTable`)
abbrev pub names_from_root : List (List ℕ) → List ℕ → List (List ℕ)
names_from_root names [] = []
names_from_root names (n ∷ path) = names_from_root names path ++ unwrap_or (slice_get names n) [] ∷ []

-- a path is its names joined by points
abbrev pub path_text : List (List ℕ) → List ℕ → List ℕ
path_text names path = join_with_byte 46 (names_from_root names path)

-- the text of the name of a type
abbrev pub type_text : List SourceFile → List (List ℕ) → Option ℕ → Option (List ℕ)
type_text files names type = option_and_then (λ b. slice_get names b.block.name.name.0) (option_and_then (block_of files) type)

-- the name of a type; that of a part has one (`PartsHaveTypes`)
abbrev pub type_name : List SourceFile → List (List ℕ) → Option ℕ → List ℕ
type_name files names type = unwrap_or (type_text files names type) []

-- what restricts the rows of a slot is no text of its part
abbrev pub unless_slot : Bool → List ℕ → List ℕ
unless_slot slot text = if slot then [] else text

abbrev pub part_row : List SourceFile → ℕ → List (List ℕ) → List ℕ → List ℕ → PartRow
part_row files entry names path designator = record {
  designator = designator;
  path = path_text names path;
  kind_name = type_name files names (type_at files entry path);
  kind = text_or_none files entry names (codes "kind") path;
  part = unless_slot (has_kind files entry names path) (text_or_none files entry names (codes "part") path);
  «package» = unless_slot (has_kind files entry names path) (text_or_none files entry names (codes "package") path);
  footprint = unless_slot (has_kind files entry names path) (text_or_none files entry names (codes "footprint") path);
  price = [];
}

-- rows for parts and their designators
abbrev pub rows_of : List SourceFile → ℕ → List (List ℕ) → List (List ℕ) → List (List ℕ) → List PartRow
rows_of files entry names [] designators = []
rows_of files entry names (path ∷ paths) [] = []
rows_of files entry names (path ∷ paths) (d ∷ more) = part_row files entry names path d ∷ rows_of files entry names paths more

-- the rows of the parts list, in tree order, before parts are picked
abbrev pub part_rows : List SourceFile → ℕ → List (List ℕ) → List PartRow
part_rows files entry names = rows_of files entry names (parts files entry names) (designators files entry names)

-- ---- laws

-- Each name in the path of a node of a tree is in the table.
abbrev pub NamesAreInTable : Type 0
NamesAreInTable = (most : Limits) (program : Program) (name : List ℕ) (tree : Tree) (is : IsElaborated most program name tree)
    (s : Spot) (path : List ℕ) (n : ℕ) → Contains (nodes program.files is.entry) s → place_of s ≡ at_names path → Contains path n
    → (text : List ℕ) × (slice_get program.names n ≡ Some text)

-- The name of each block of a loaded project is in the table.
abbrev pub BlocksHaveNames : Type 0
BlocksHaveNames = (program : Program) (number : ℕ) (b : BlockAt) → IsLoaded program → block_of program.files number ≡ Some b
    → (text : List ℕ) × (slice_get program.names b.block.name.name.0 ≡ Some text)

-- Each part of a loaded project has a type with a name.
abbrev pub PartsHaveTypes : Type 0
PartsHaveTypes = (program : Program) (entry : ℕ) (path : List ℕ) → IsLoaded program → Contains (parts program.files entry program.names) path
    → (text : List ℕ) × (type_text program.files program.names (type_at program.files entry path) ≡ Some text)

-- Where no fault of paths stands, the prefix of each instance of a tree is one.
abbrev pub EachPrefixIsOne : Type 0
EachPrefixIsOne = (most : Limits) (program : Program) (name : List ℕ) (tree : Tree) (is : IsElaborated most program name tree) (path : List ℕ)
    → path_fault program.files is.entry (keys_of program.names) ≡ None → Contains (instances program.files is.entry) path
    → is_prefix (prefix_of program.files is.entry program.names path) ≡ true

-- Where no fault of paths stands, no two parts of a tree have one designator.
abbrev pub DesignatorsDiffer : Type 0
DesignatorsDiffer = (program : Program) (name : List ℕ) (tree : Tree) → IsLoaded program → (is : IsElaborated most_in_tree program name tree)
    → path_fault program.files is.entry (keys_of program.names) ≡ None
    → (i j : ℕ) (d : List ℕ) → slice_get (designators program.files is.entry program.names) i ≡ Some d
    → slice_get (designators program.files is.entry program.names) j ≡ Some d → i ≡ j
