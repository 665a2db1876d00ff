-- The nets of a project: classes of joined points with a pin, reduced to their pins.
use Rattle.std.specs.Prelude.{◌≡◌, ◌⊎◌, ℕ, ◌<◌, ◌≤◌, Bool, List, [], ◌∷◌, ◌++◌, length, map, Contains, Some, slice_get, if◌then◌else◌}
use Rattle.std.specs.List.{flat_map, AllZip, position_or_len}
use Rattle.std.specs.Str.{bytes_eq}
use Rattle.ato_base.specs.Classes.{Classes}
use Rattle.ato_base.specs.declared.nets.Comp.{Comp}
use Rattle.ato_base.specs.declared.nets.Net.{Net}
use Rattle.ato_base.specs.declared.nets.NetList.{NetList}
use Rattle.ato_base.specs.declared.nets.NetPin.{NetPin}
use Rattle.ato_base.specs.declared.nets.PartRow.{PartRow}
use Rattle.ato_files.specs.declared.program.Program.{Program}
use Rattle.ato_files.specs.declared.program.SourceFile.{SourceFile}
use Rattle.ato_files.specs.Members.{signal, instance, param}
use Rattle.ato_instance_tree.specs.Members.{pin, named}
use Rattle.ato_instance_tree.specs.Order.{Spot, leaf, made_at, nodes}
use Rattle.ato_instance_tree.specs.Elaborated.{IsLoaded}
use Rattle.ato_instance_tree.specs.Laws.{SpotPlace, at_names, at_label}
use Rattle.ato_links.specs.Links.{Electrical}
use Rattle.ato_links.specs.Joins.{AreJoined}
use Rattle.ato_links.specs.Parts.{has_kind, parts, path_text}

-- A pin: the path of its component, and its label.
pub record Pin : Type 0 where
  pub path : List ℕ
  pub label : List ℕ

abbrev pub pin_place : Pin → SpotPlace
pin_place p = at_label p.path p.label

abbrev pub pins_of : Spot → List Pin
pins_of (leaf path (pin text)) = record { path = path; label = text } ∷ []
pins_of (leaf path (named n k)) = []
pins_of (made_at path) = []

-- the path of a signal
abbrev pub signals_of : Spot → List (List ℕ)
signals_of (leaf path (named n signal)) = (n.name.0 ∷ path) ∷ []
signals_of (leaf path (named n param)) = []
signals_of (leaf path (named n (instance type))) = []
signals_of (leaf path (pin text)) = []
signals_of (made_at path) = []

-- the pins and the paths of the signals, in tree order
abbrev pub pins : List SourceFile → ℕ → List Pin
pins files entry = flat_map pins_of (nodes files entry)

abbrev pub signals : List SourceFile → ℕ → List (List ℕ)
signals files entry = flat_map signals_of (nodes files entry)

-- ---- names

-- a pin's own name: the path of its component, a colon and its label
abbrev pub pin_text : List (List ℕ) → Pin → List ℕ
pin_text names p = path_text names p.path ++ (58 ∷ p.label)

-- The signal of this number is joined with a pin.
pub record IsOn (files : List SourceFile) (entry : ℕ) (library : Electrical) (p : Pin) (i : ℕ) (path : List ℕ) : Type 0 where
  pub is : slice_get (signals files entry) i ≡ Some path
  pub joined : AreJoined files entry library (at_names path) (pin_place p)

-- The first signal has a path of fewer names, or of as many and stands first in tree order.
abbrev pub ComesFirst : ℕ → List ℕ → ℕ → List ℕ → Type 0
ComesFirst i path j other = (length path < length other) ⊎ ((length path ≡ length other) × (i ≤ j))

-- The name of a net with this first pin: the path of its signal that comes first, or the pin's own name where it has none.
pub data IsNetName (files : List SourceFile) (entry : ℕ) (names : List (List ℕ)) (library : Electrical) (p : Pin) : List ℕ → Type 0 where
  by_signal : (i : ℕ) (path : List ℕ) → IsOn files entry library p i path
      → ((j : ℕ) (other : List ℕ) → IsOn files entry library p j other → ComesFirst i path j other) → IsNetName files entry names library p (path_text names path)
  by_pin : ((i : ℕ) (path : List ℕ) → IsOn files entry library p i path → ⊥) → IsNetName files entry names library p (pin_text names p)

-- ---- nets

-- a pin in the net list, by the number of its component among the parts; in a loaded project it is one of them (`PinsStandInParts`)
abbrev pub net_pin : List SourceFile → ℕ → List (List ℕ) → Pin → NetPin
net_pin files entry names p = record { comp = position_or_len (bytes_eq p.path) (parts files entry names); label = p.label }

-- The net is made of these pins.
abbrev pub IsNet : List SourceFile → ℕ → List (List ℕ) → Electrical → List Pin → Net → Type 0
IsNet files entry names library [] net = ⊥
IsNet files entry names library (p ∷ more) net = IsNetName files entry names library p net.name × (net.pins ≡ map (net_pin files entry names) (p ∷ more))

-- Two pins are joined.
abbrev pub ArePins : List SourceFile → ℕ → Electrical → Pin → Pin → Type 0
ArePins files entry library p q = AreJoined files entry library (pin_place p) (pin_place q)

-- The nets are the classes of joined pins, in the order of their first pins.
pub record AreNets (files : List SourceFile) (entry : ℕ) (names : List (List ℕ)) (library : Electrical) (nets : List Net) : Type 0 where
  pub classes : List (List Pin)
  pub are_classes : Classes (ArePins files entry library) (pins files entry) classes
  pub each : AllZip (IsNet files entry names library) classes nets

-- ---- the net list

-- A part in the net list, by its row: for a slot what is picked, else the type's name.
abbrev pub comp_of : Bool → PartRow → Comp
comp_of slot row = record { designator = row.designator; value = if slot then row.part else row.kind_name; footprint = row.footprint; path = row.path }

abbrev pub comps_of : List SourceFile → ℕ → List (List ℕ) → List (List ℕ) → List PartRow → List Comp
comps_of files entry names [] rows = []
comps_of files entry names (path ∷ paths) [] = []
comps_of files entry names (path ∷ paths) (row ∷ rows) = comp_of (has_kind files entry names path) row ∷ comps_of files entry names paths rows

-- The net list of a project, whose parts have these rows.
pub record IsNetList (files : List SourceFile) (entry : ℕ) (names : List (List ℕ)) (library : Electrical) (rows : List PartRow) (list : NetList) : Type 0 where
  pub comps : list.comps ≡ comps_of files entry names (parts files entry names) rows
  pub nets : AreNets files entry names library list.nets

-- ---- laws

-- A pin stands in the net of this number.
abbrev pub StandsIn : List Net → NetPin → ℕ → Type 0
StandsIn nets p number = (net : Net) × (slice_get nets number ≡ Some net) × Contains net.pins p

-- Two pins share a net exactly where they are joined, and each pin stands in exactly one net.
pub record SharesExactly (files : List SourceFile) (entry : ℕ) (names : List (List ℕ)) (library : Electrical) (nets : List Net) : Type 0 where
  pub joined : (p q : Pin) (number : ℕ) → Contains (pins files entry) p → Contains (pins files entry) q → StandsIn nets (net_pin files entry names p) number
      → StandsIn nets (net_pin files entry names q) number → ArePins files entry library p q
  pub shared : (p q : Pin) → Contains (pins files entry) p → Contains (pins files entry) q → ArePins files entry library p q
      → (number : ℕ) × StandsIn nets (net_pin files entry names p) number × StandsIn nets (net_pin files entry names q) number
  pub once : (p : Pin) (number other : ℕ) → Contains (pins files entry) p → StandsIn nets (net_pin files entry names p) number
      → StandsIn nets (net_pin files entry names p) other → number ≡ other

-- No two pins have one component and one label.
abbrev pub PinsDiffer : List SourceFile → ℕ → List (List ℕ) → Type 0
PinsDiffer files entry names = (p q : Pin) → Contains (pins files entry) p → Contains (pins files entry) q
    → net_pin files entry names p ≡ net_pin files entry names q → p ≡ q

-- Each pin of a loaded project stands in a part: the number of its component is that of the part at its path.
abbrev pub PinsStandInParts : Type 0
PinsStandInParts = (program : Program) (entry : ℕ) (p : Pin) → IsLoaded program → Contains (pins program.files entry) p
    → slice_get (parts program.files entry program.names) (net_pin program.files entry program.names p).comp ≡ Some p.path

-- No two pins of a loaded project have one component and one label.
abbrev pub NoPinTwice : Type 0
NoPinTwice = (program : Program) (entry : ℕ) → IsLoaded program → PinsDiffer program.files entry program.names

-- Two pins of a loaded project share a net exactly where they are joined, and each pin stands in exactly one net.
abbrev pub NetsShare : Type 0
NetsShare = (program : Program) (entry : ℕ) (library : Electrical) (nets : List Net) → IsLoaded program
    → AreNets program.files entry program.names library nets → SharesExactly program.files entry program.names library nets
