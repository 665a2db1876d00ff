-- The net list of a block of the first form.
use Rattle.std.specs.Prelude.{◌≡◌, ℕ, Bool, ◌||◌, if◌then◌else◌, nat_lt, is_some, List, [], ◌∷◌, ◌++◌, length, map, All, Contains, Some, codes}
use Rattle.std.specs.List.{AllZip, slice_get}
use Rattle.ato_base.specs.Classes.{Classes}
use Rattle.ato_base.specs.declared.nets.Comp.{Comp}
use Rattle.ato_base.specs.declared.nets.NetPin.{NetPin}
use Rattle.ato_base.specs.declared.nets.Net.{Net}
use Rattle.ato_base.specs.declared.nets.NetList.{NetList}
use Rattle.ato_first.specs.declared.first_form.Point.TheVariants.{Signal, Pin}
use Rattle.ato_first.specs.declared.first_form.Block.{Block}
use Rattle.ato_first.specs.FirstParts.{part_of}
use Rattle.ato_first.specs.FirstPoints.{AreJoined, signals_of, pins_of}

-- a pin of the one part
abbrev pub net_pin : List ℕ → NetPin
net_pin label = record { comp = 0; label = label }

-- The name of a net with this first pin: the first signal that is joined with the pin, or the pin's own name, which is
-- the root's empty path, a colon and the label.
pub data IsNetName (block : Block) (label : List ℕ) : List ℕ → Type 0 where
  by_signal : {name : List ℕ} (front back : List (List ℕ)) → signals_of block ≡ front ++ name ∷ back → AreJoined block (Signal name) (Pin label)
      → All (λ other. AreJoined block (Signal other) (Pin label) → ⊥) front → IsNetName block label name
  by_pin : All (λ other. AreJoined block (Signal other) (Pin label) → ⊥) (signals_of block) → IsNetName block label (58 ∷ label)

-- The net is made of these pins.
abbrev pub IsNet : Block → List (List ℕ) → Net → Type 0
IsNet block [] net = ⊥
IsNet block (label ∷ labels) net = IsNetName block label net.name × (net.pins ≡ map net_pin (label ∷ labels))

-- The block is a part where it has a pin, or describes a part that is picked.
abbrev pub is_comp : Block → Bool
is_comp block = is_some (part_of block.lines) || nat_lt 0 (length (pins_of block))

-- the one part, where there is one, with what stands for it in the netlist
abbrev pub comps_with : Bool → List ℕ → List Comp
comps_with is_comp value = if is_comp then record { designator = codes "U1"; value = value; footprint = []; path = [] } ∷ [] else []

-- The net list of a block, with what stands for its part: its nets are the classes of joined pins, in the order of their
-- first pins.
pub record IsNetList (block : Block) (value : List ℕ) (list : NetList) : Type 0 where
  pub comps : list.comps ≡ comps_with (is_comp block) value
  pub classes : List (List (List ℕ))
  pub are_classes : Classes (λ a b. AreJoined block (Pin a) (Pin b)) (pins_of block) classes
  pub nets : AllZip (IsNet block) classes list.nets

-- The pin stands in the net at this place.
abbrev pub StandsIn : NetList → List ℕ → ℕ → Type 0
StandsIn list label place = (net : Net) × (slice_get list.nets place ≡ Some net) × Contains net.pins (net_pin label)

-- Two pins of the block share a net exactly where they are joined, and each pin stands in exactly one net.
pub record SharesExactly (block : Block) (list : NetList) : Type 0 where
  pub joined : (a b : List ℕ) (place : ℕ) → StandsIn list a place → StandsIn list b place → AreJoined block (Pin a) (Pin b)
  pub shared : (a b : List ℕ) → Contains (pins_of block) a → Contains (pins_of block) b → AreJoined block (Pin a) (Pin b)
      → (place : ℕ) × StandsIn list a place × StandsIn list b place
  pub once : (a : List ℕ) (place other : ℕ) → StandsIn list a place → StandsIn list a other → place ≡ other
