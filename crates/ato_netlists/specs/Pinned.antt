-- Which nodes are parts, by their numbers. Only private functions have clauses in these words.
use Rattle.std.specs.Prelude.{ℕ, zero, suc, Bool, false, ◌&&◌, ◌||◌, nat_eq, List, [], ◌++◌, Option, Some, None, is_some, unwrap_or, slice_get, option_to_list, codes, if◌then◌else◌}
use Rattle.std.specs.List.{list_any}
use Rattle.ato_instance_tree.specs.declared.tree.Node.{Node}
use Rattle.ato_instance_tree.specs.Trees.{is_pin}
use Rattle.ato_elab.specs.Late.{component_at}
use Rattle.ato_netlists.specs.declared.parts.Part.{Part}
use Rattle.ato_netlists.specs.declared.strings.Strings.{Strings}
use Rattle.ato_netlists.specs.Parts.{held}

-- the instance of a pin
abbrev pub holder_of : Node → Option ℕ
holder_of n = if is_pin n.kind then n.parent else None

-- The node is a pin in the instance of a number.
abbrev pub is_pin_in : ℕ → Node → Bool
is_pin_in instance n = list_any (nat_eq instance) (option_to_list (holder_of n))

-- The node of a number is marked.
abbrev pub is_marked : List Bool → ℕ → Bool
is_marked marks number = unwrap_or (slice_get marks number) false

-- A string is held for `kind` of the instance of a number.
abbrev pub slot_in : Strings → ℕ → Bool
slot_in strings number = is_some (held strings number (codes "kind"))

-- what the node of a number is as a part, if it is one
unfoldable pub part_at : List Node → List Bool → Strings → ℕ → Option Part
part_at nodes pins strings number = if component_at nodes number && (slot_in strings number || is_marked pins number)
    then Some (record { node = number; slot = slot_in strings number }) else None

-- the parts before a number
unfoldable pub parts_below : List Node → List Bool → Strings → ℕ → List Part
parts_below nodes pins strings zero = []
parts_below nodes pins strings (suc number) = parts_below nodes pins strings number ++ option_to_list (part_at nodes pins strings number)
