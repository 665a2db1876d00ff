-- The names above an instance, from node to node. Only private functions have clauses in these words.
use Rattle.std.specs.Prelude.{ℕ, zero, suc, List, [], ◌∷◌, Option, Some, None, slice_get, position}
use Rattle.std.specs.Option.{option_map}
use Rattle.std.specs.Str.{bytes_eq}
use Rattle.ato_instance_tree.specs.declared.tree.Node.{Node}
use Rattle.ato_elab.specs.declared.late_names.Above.{Above}
use Rattle.ato_elab.specs.declared.late_names.Above.TheVariants as above

abbrev pub under_name : ℕ → Option ℕ → Above
under_name parent None = above.Nowhere
under_name parent (Some name) = above.Under (record { 0 = name }) parent

abbrev pub above_node : List (List ℕ) → Node → Option ℕ → Above
above_node names n None = above.Root
above_node names n (Some parent) = under_name parent (position (bytes_eq n.name) names)

abbrev pub above_maybe : List (List ℕ) → Option Node → Above
above_maybe names None = above.Nowhere
above_maybe names (Some n) = above_node names n n.parent

-- what stands above a node
unfoldable pub above_at : List (List ℕ) → List Node → ℕ → Above
above_at names ns number = above_maybe names (slice_get ns number)

abbrev pub climb_on : Above → (ℕ → Option (List ℕ)) → Option (List ℕ)
climb_on above.Nowhere further = None
climb_on above.Root further = Some []
climb_on (above.Under name parent) further = option_map (λ path. name.0 ∷ path) (further parent)

-- the names from a node up to the root, if there are fewer than so many
unfoldable pub climbed : List (List ℕ) → List Node → ℕ → ℕ → Option (List ℕ)
climbed names ns zero number = None
climbed names ns (suc most) number = climb_on (above_at names ns number) (λ parent. climbed names ns most parent)
