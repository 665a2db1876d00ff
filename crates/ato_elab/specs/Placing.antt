-- How places grow with the nodes. Only private functions have clauses in these words.
use Rattle.std.specs.Prelude.{◌≡◌, ◌≤◌, ℕ, Bool, true, List, [], ◌∷◌, length, Option, Some, None, slice_get, if◌then◌else◌}
use Rattle.std.specs.Option.{option_or}
use Rattle.ato_instance_tree.specs.Members.{pin, named}
use Rattle.ato_instance_tree.specs.Order.{Spot, leaf, made_at}
use Rattle.ato_elab.specs.declared.places.Places.{Places}
use Rattle.ato_elab.specs.Built.{same_key, held, stands_under, ArePlaces}

-- the path of the instance in which a node stands, and the node's name; pins and the root have none
abbrev pub own_name : Spot → Option (List ℕ × ℕ)
own_name (made_at []) = None
own_name (made_at (n ∷ path)) = Some (path, n)
own_name (leaf path (pin text)) = None
own_name (leaf path (named n k)) = Some (path, n.name.0)

-- The nodes so far are held. Each stands in an instance before it, and no instance is there twice.
pub record AreHeld (done : List Spot) (places : Places) : Type 0 where
  pub each : ArePlaces done places
  pub no_more : (instance name : ℕ) → length done ≤ instance → held places instance name ≡ None
  pub inside : (i name : ℕ) (path : List ℕ) (s : Spot) → slice_get done i ≡ Some s → stands_under path name s ≡ true → (j : ℕ) × (slice_get done j ≡ Some (made_at path))
  pub once : (i j : ℕ) (path : List ℕ) → slice_get done i ≡ Some (made_at path) → slice_get done j ≡ Some (made_at path) → i ≡ j

-- The new places hold one node more, where nothing was held under its name before.
abbrev pub HoldsMore : Places → ℕ × ℕ → ℕ → Places → Type 0
HoldsMore old key node new = (instance name : ℕ) → held new instance name ≡ option_or (held old instance name) (if same_key key (instance, name) then Some node else None)

-- The node is not an instance that is there.
abbrev pub IsFresh : List Spot → Spot → Type 0
IsFresh done s = (j : ℕ) (path : List ℕ) → s ≡ made_at path → slice_get done j ≡ Some (made_at path) → ⊥
