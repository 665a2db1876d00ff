-- What is held of the members of instances. Only private functions have clauses in these words.
use Rattle.std.specs.Prelude.{◌≡◌, ℕ, ◌<◌, Bool, true, false, ◌&&◌, ◌==◌, List, [], ◌∷◌, ◌++◌, length, map, Option, Some, None, get_or, if◌then◌else◌}
use Rattle.std.specs.Borrow.{Bor}
use Rattle.std.specs.Option.{option_or}
use Rattle.std.specs.Str.{bytes_eq}
use Rattle.indexmap.specs.IndexMap.{get_by}
use Rattle.ato_instance_tree.specs.declared.tree.Node.{Node}
use Rattle.ato_instance_tree.specs.Targets.{child, is_called}
use Rattle.ato_connections.specs.declared.members.Members.{Members}
use Rattle.ato_connections.specs.NodeLinks.{is_named_in, names_in}

-- the key is that of a text of an instance
abbrev pub is_key : ℕ → List ℕ → ℕ × Bor (List ℕ) → Bool
is_key instance text key = (instance == key.0) && bytes_eq text key.1.now

-- the node that is held for a name of an instance, both by the instance's number and the name's text
unfoldable pub held_name : Members → ℕ → List ℕ → Option ℕ
held_name m instance text = get_by (is_key instance text) m.named

-- the node that is held for a label
unfoldable pub held_pin : Members → ℕ → List ℕ → Option ℕ
held_pin m instance text = get_by (is_key instance text) m.pins

-- the names that are held of an instance's members
abbrev pub held_names : Members → ℕ → List (List ℕ)
held_names m instance = map (λ text. text.now) (get_or m.names.items instance [])

-- What is held are the members of the instances among these nodes.
pub record AreMembers (ns : List Node) (m : Members) : Type 0 where
  pub named : (instance : ℕ) (text : List ℕ) → held_name m instance text ≡ child ns instance false text
  pub pins : (instance : ℕ) (text : List ℕ) → held_pin m instance text ≡ child ns instance true text
  pub names : (instance : ℕ) → instance < length ns → held_names m instance ≡ names_in ns instance

-- ---- node by node

-- What is held are the members among these first nodes, with names for so many nodes.
pub record AreFirst (rows : ℕ) (ns : List Node) (m : Members) : Type 0 where
  pub named : (instance : ℕ) (text : List ℕ) → held_name m instance text ≡ child ns instance false text
  pub pins : (instance : ℕ) (text : List ℕ) → held_pin m instance text ≡ child ns instance true text
  pub count : length m.names.items ≡ rows
  pub names : (instance : ℕ) → instance < rows → held_names m instance ≡ names_in ns instance

-- One node more is held, where nothing was held under its name or label before.
pub record HoldsMore (old : Members) (number : ℕ) (n : Node) (new : Members) : Type 0 where
  pub named : (instance : ℕ) (text : List ℕ) → held_name new instance text ≡ option_or (held_name old instance text)
      (if is_called instance false text n then Some number else None)
  pub pins : (instance : ℕ) (text : List ℕ) → held_pin new instance text ≡ option_or (held_pin old instance text)
      (if is_called instance true text n then Some number else None)
  pub count : length new.names.items ≡ length old.names.items
  pub names : (instance : ℕ) → instance < length old.names.items → held_names new instance ≡ held_names old instance
      ++ (if is_named_in instance n then n.name ∷ [] else [])
