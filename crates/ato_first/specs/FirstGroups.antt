-- The nets that groups of pins by their numbers make.
use Rattle.std.specs.Prelude.{ℕ, ◌+◌, nat_lt, if◌then◌else◌, List, [], ◌∷◌, length, map}
use Rattle.std.specs.List.{slice_index, slice_index_or}
use Rattle.ato_base.specs.declared.nets.Net.{Net}
use Rattle.ato_first.specs.FirstNets.{net_pin}
use Rattle.ato_first.specs.declared.first_points.Points.{Points}

-- the label of a pin
abbrev pub label_at : Points → ℕ → List ℕ
label_at points pin = slice_index_or points.pins pin []

-- the name of a net with this first pin: the signal that its class number is, or the pin's own name
abbrev pub class_name : Points → List ℕ → ℕ → List ℕ
class_name points of pin =
    if nat_lt (slice_index of (length points.signals + pin)) (length points.signals)
    then slice_index_or points.signals (slice_index of (length points.signals + pin)) []
    else 58 ∷ label_at points pin

-- the name of a net of these pins
abbrev pub group_name : Points → List ℕ → List ℕ → List ℕ
group_name points of [] = []
group_name points of (pin ∷ pins) = class_name points of pin

-- the net of these pins
abbrev pub group_net : Points → List ℕ → List ℕ → Net
group_net points of group = record { name = group_name points of group; pins = map (λ pin. net_pin (label_at points pin)) group }
