-- Which pins the types of a tree have. Only private functions have clauses in these words.
use Rattle.std.specs.Prelude.{◌≡◌, ℕ, Bool, false, ◌&&◌, ◌==◌, nat_eq, List, Option, Some, None, slice_get, option_to_list}
use Rattle.std.specs.List.{list_any}
use Rattle.std.specs.Str.{bytes_eq}
use Rattle.ato_files.specs.declared.program.SourceFile.{SourceFile}
use Rattle.ato_instance_tree.specs.declared.tree.Node.{Node}
use Rattle.ato_instance_tree.specs.Members.{members}
use Rattle.ato_instance_tree.specs.Paths.{has_pin}
use Rattle.ato_elab.specs.declared.finding_pins.Pins.{Pins}
use Rattle.ato_elab.specs.declared.gathering_pins.Gathering.{Gathering}

-- whether a label is held for a type
unfoldable pub holds : Pins → ℕ → List ℕ → Bool
holds pins type text = list_any (λ key. (type == key.0) && bytes_eq text key.1.now) pins.labels.keys

-- the same of a type that may be there
abbrev pub holds_maybe : Pins → Option ℕ → List ℕ → Bool
holds_maybe pins None text = false
holds_maybe pins (Some type) text = holds pins type text

-- The labels that are held for the types of nodes are those of their pins.
pub record ArePins (files : List SourceFile) (ns : List Node) (pins : Pins) : Type 0 where
  pub each : (number type : ℕ) (n : Node) (text : List ℕ) → slice_get ns number ≡ Some n → n.block ≡ Some type
      → holds pins type text ≡ has_pin (members files (Some type)) text

-- ---- type by type

-- whether a node has this type
abbrev pub has_type : ℕ → Node → Bool
has_type type n = list_any (nat_eq type) (option_to_list n.block)

-- whether a type was met
unfoldable pub is_met : Gathering → ℕ → Bool
is_met g type = list_any (nat_eq type) g.types.keys

-- The labels that are held are those of the types that were met.
abbrev pub AreHeld : List SourceFile → Gathering → Type 0
AreHeld files g = (type : ℕ) (text : List ℕ) → holds g.pins type text ≡ (is_met g type && has_pin (members files (Some type)) text)
