-- Worked rows of connections: what they join, and the faults of those that cannot be joined.
use Rattle.std.proofs.Common.{◌≡◌, ℕ, true, List, [], ◌∷◌, Option, Some, None, codes, refl}
use Rattle.ato_base.specs.declared.faults.Fault.{Fault}
use Rattle.ato_base.specs.declared.faults.FaultKind.TheVariants as kinds
use Rattle.ato_base.specs.declared.places.Place.TheVariants as place
use Rattle.ato_ast.specs.declared.paths.Point.TheVariants as point
use Rattle.ato_ast.specs.declared.blocks.BlockKind.TheVariants.{Module, Component, Interface}
use Rattle.ato_ast.specs.declared.blocks.Item.{Item}
use Rattle.ato_ast.specs.declared.stmts.End.TheVariants as end
use Rattle.ato_ast.specs.declared.stmts.Stmt.{Stmt}
use Rattle.ato_ast.specs.declared.stmts.Stmt.TheVariants as stmt
use Rattle.ato_files.specs.declared.program.SourceFile.{SourceFile}
use Rattle.ato_files.specs.NameFaults.{name_fault}
use Rattle.ato_files.proofs.Written.{span, nm, block}
use Rattle.ato_instance_tree.specs.Laws.{at_names, at_label}
use Rattle.ato_instance_tree.specs.TreeFaults.{fault_in, tree_fault}
use Rattle.ato_instance_tree.specs.PathFaults.{keys_of}
use Rattle.ato_instance_tree.proofs.Written.{ample, make, replace, declare, signal_of, pin_path, connect}
use Rattle.ato_links.specs.Links.{Link, join, electrical_of, links}
use Rattle.ato_links.specs.LinkFaults.{connect_fault}
use Rattle.ato_links.specs.NodeJoins.{node_joins, are_placed}
use Rattle.ato_links.proofs.Boards.{names, board, electrical, pin_of, pin_alone, to_pin, path, cannot}

-- The library's type and the name are found in the table of names.
pub found_in_library : electrical_of (board []) names ≡ electrical
found_in_library = refl

-- ---- an interface joins a descendant of its type: `P` with `hv` and `lv`, `Q from P` with `en`, a component `C` with `q = new Q`,
-- `q.lv ~ pin 1`, `q.hv ~ pin 2`, `q.en ~ pin 3`, and `p = new P`, `c = new C`, `c.q ~ p` in `Top`

abbrev pub kin_with : Stmt → List SourceFile
kin_with s = board (block Interface (nm 21 10) None (signal_of (nm 16 11) ∷ signal_of (nm 17 12) ∷ [])
    ∷ block Interface (nm 22 13) (Some (nm 21 14)) (signal_of (nm 18 15) ∷ [])
    ∷ block Component (nm 5 16) None (make (nm 19 17) (nm 22 18) ∷ to_pin (path 19 (19 ∷ 17 ∷ [])) 0 ∷ to_pin (path 21 (19 ∷ 16 ∷ [])) 1 ∷ to_pin (path 23 (19 ∷ 18 ∷ [])) 2 ∷ [])
    ∷ block Module (nm 8 30) None (make (nm 20 31) (nm 21 32) ∷ make (nm 24 33) (nm 5 34) ∷ s ∷ []) ∷ [])

abbrev pub kin : List SourceFile
kin = kin_with (connect (path 40 (24 ∷ 19 ∷ [])) (path 50 (20 ∷ [])))

pub kin_is_named : name_fault kin ≡ None
kin_is_named = refl

pub kin_is_sound : tree_fault kin ample (Some 5) ≡ None
kin_is_sound = refl

-- the ancestor's members and no others, by their names; then the pins of the component
pub kin_links : links kin 5 electrical ≡ join (at_names (16 ∷ 19 ∷ 24 ∷ [])) (at_names (16 ∷ 20 ∷ []))
    ∷ join (at_names (17 ∷ 19 ∷ 24 ∷ [])) (at_names (17 ∷ 20 ∷ []))
    ∷ join (at_names (17 ∷ 19 ∷ 24 ∷ [])) (at_label (24 ∷ []) (codes "1"))
    ∷ join (at_names (16 ∷ 19 ∷ 24 ∷ [])) (at_label (24 ∷ []) (codes "2"))
    ∷ join (at_names (18 ∷ 19 ∷ 24 ∷ [])) (at_label (24 ∷ []) (codes "3")) ∷ []
kin_links = refl

-- the other way round
pub kin_links_back : links (kin_with (connect (path 50 (20 ∷ [])) (path 40 (24 ∷ 19 ∷ [])))) 5 electrical ≡ join (at_names (16 ∷ 20 ∷ [])) (at_names (16 ∷ 19 ∷ 24 ∷ []))
    ∷ join (at_names (17 ∷ 20 ∷ [])) (at_names (17 ∷ 19 ∷ 24 ∷ []))
    ∷ join (at_names (17 ∷ 19 ∷ 24 ∷ [])) (at_label (24 ∷ []) (codes "1"))
    ∷ join (at_names (16 ∷ 19 ∷ 24 ∷ [])) (at_label (24 ∷ []) (codes "2"))
    ∷ join (at_names (18 ∷ 19 ∷ 24 ∷ [])) (at_label (24 ∷ []) (codes "3")) ∷ []
kin_links_back = refl

pub kin_joins : node_joins kin 5 electrical ≡ (6, 2) ∷ (7, 3) ∷ (7, 9) ∷ (6, 10) ∷ (8, 11) ∷ []
kin_joins = refl

pub kin_is_placed : are_placed kin 5 electrical ≡ true
kin_is_placed = refl

pub kin_has_no_fault : connect_fault kin 5 (keys_of names) electrical ≡ None
kin_has_no_fault = refl

-- ---- one statement of `Top`: `s` is a signal, `p` a P, `q` a Q, `c` a C with pins, `r` a Resistor, `A`, `B` and `D` of other types

-- Top has the number 7; its instances: p P, q Q, m D (a sibling of Q), c C, r Resistor, A and B Electrical, D E (from Electrical), s a signal
abbrev tops : Stmt → Item
tops s = block Module (nm 8 30) None (make (nm 20 31) (nm 21 32) ∷ make (nm 19 33) (nm 22 34) ∷ make (nm 10 35) (nm 6 36) ∷ make (nm 24 37) (nm 5 38)
    ∷ make (nm 9 39) (nm 23 40) ∷ make (nm 3 41) (nm 14 42) ∷ make (nm 4 43) (nm 14 44) ∷ make (nm 6 45) (nm 25 46) ∷ signal_of (nm 11 47) ∷ s ∷ [])

abbrev with_stmt : Stmt → List SourceFile
with_stmt s = board (block Interface (nm 21 10) None (signal_of (nm 16 11) ∷ signal_of (nm 17 12) ∷ [])
    ∷ block Interface (nm 22 13) (Some (nm 21 14)) (signal_of (nm 18 15) ∷ [])
    ∷ block Component (nm 5 16) None (pin_alone 0 ∷ [])
    ∷ block Interface (nm 6 17) (Some (nm 21 18)) (signal_of (nm 18 19) ∷ [])
    ∷ block Interface (nm 25 20) (Some (nm 14 21)) (signal_of (nm 18 22) ∷ [])
    ∷ tops s ∷ [])

abbrev links_of : Stmt → List Link
links_of s = links (with_stmt s) 7 electrical

abbrev fault_of : Stmt → Option (ℕ × Fault)
fault_of s = connect_fault (with_stmt s) 7 (keys_of names) electrical

-- `LEFT ~ RIGHT`, with the left end at 60
abbrev tied : List ℕ → List ℕ → Stmt
tied left right = connect (path 60 left) (path 70 right)

pub types_are_named : name_fault (with_stmt (tied (11 ∷ []) (11 ∷ []))) ≡ None
types_are_named = refl

-- a signal with itself, and with a signal of an instance
pub with_itself : links_of (tied (11 ∷ []) (11 ∷ [])) ≡ join (at_names (11 ∷ [])) (at_names (11 ∷ [])) ∷ []
with_itself = refl

pub signal_with_signal : links_of (tied (11 ∷ []) (20 ∷ 16 ∷ [])) ≡ join (at_names (11 ∷ [])) (at_names (16 ∷ 20 ∷ [])) ∷ []
signal_with_signal = refl

-- a signal with the pin of an instance, by the number behind its path
pub signal_with_pin : links_of (connect (path 60 (11 ∷ [])) (pin_path (nm 24 70 ∷ []) 0)) ≡ join (at_names (11 ∷ [])) (at_label (24 ∷ []) (codes "1")) ∷ []
signal_with_pin = refl

-- a point that is declared there, with one of an instance: `signal E ~ p.hv`
pub declared_signal : links_of (stmt.Point (point.Signal (nm 25 60) (span 1 58 61)) (Some (end.Path (path 70 (20 ∷ 16 ∷ [])))) (span 1 58 75))
    ≡ join (at_names (25 ∷ [])) (at_names (16 ∷ 20 ∷ [])) ∷ []
declared_signal = refl

-- an interface with itself
pub instance_with_itself : links_of (tied (20 ∷ []) (20 ∷ [])) ≡ join (at_names (16 ∷ 20 ∷ [])) (at_names (16 ∷ 20 ∷ [])) ∷ join (at_names (17 ∷ 20 ∷ [])) (at_names (17 ∷ 20 ∷ [])) ∷ []
instance_with_itself = refl

-- with its own member
pub instance_with_member : fault_of (tied (20 ∷ []) (20 ∷ 16 ∷ [])) ≡ cannot 9 60
instance_with_member = refl

-- interfaces with an ancestor in common only
pub siblings : fault_of (tied (19 ∷ []) (10 ∷ [])) ≡ cannot 9 60
siblings = refl

-- a signal with an interface, on both sides, and with a component; a component with itself
pub signal_with_interface : fault_of (tied (11 ∷ []) (20 ∷ [])) ≡ cannot 9 60
signal_with_interface = refl

pub interface_with_signal : fault_of (tied (20 ∷ []) (11 ∷ [])) ≡ cannot 9 60
interface_with_signal = refl

pub signal_with_component : fault_of (tied (11 ∷ []) (9 ∷ [])) ≡ cannot 9 60
signal_with_component = refl

pub component_with_itself : fault_of (tied (9 ∷ []) (9 ∷ [])) ≡ cannot 9 60
component_with_itself = refl

-- a point that is declared there is at fault at its keyword: `signal E ~ p`, and `pin 1 ~ p`
pub at_signal : fault_of (stmt.Point (point.Signal (nm 25 67) (span 1 60 68)) (Some (end.Path (path 70 (20 ∷ [])))) (span 1 60 71))
    ≡ Some (9, fault_in [] kinds.CannotConnect (place.Source (span 1 60 66)))
at_signal = refl

pub at_pin : fault_of (stmt.Point (pin_of 0) (Some (end.Path (path 70 (20 ∷ [])))) (span 1 80 91))
    ≡ Some (9, fault_in [] kinds.CannotConnect (place.Source (span 1 80 83)))
at_pin = refl

-- ---- `Electrical` stands for its `line` beside a point

pub electrical_with_signal : links_of (tied (3 ∷ []) (11 ∷ [])) ≡ join (at_names (15 ∷ 3 ∷ [])) (at_names (11 ∷ [])) ∷ []
electrical_with_signal = refl

pub signal_with_electrical : links_of (tied (11 ∷ []) (3 ∷ [])) ≡ join (at_names (11 ∷ [])) (at_names (15 ∷ 3 ∷ [])) ∷ []
signal_with_electrical = refl

-- also with a pin, and where it is an ancestor
pub electrical_with_pin : links_of (connect (path 60 (3 ∷ [])) (pin_path (nm 24 70 ∷ []) 0)) ≡ join (at_names (15 ∷ 3 ∷ [])) (at_label (24 ∷ []) (codes "1")) ∷ []
electrical_with_pin = refl

pub descendant_with_signal : links_of (tied (6 ∷ []) (11 ∷ [])) ≡ join (at_names (15 ∷ 6 ∷ [])) (at_names (11 ∷ [])) ∷ []
descendant_with_signal = refl

-- two of them, and one with a descendant, are interfaces
pub electrical_with_electrical : links_of (tied (3 ∷ []) (4 ∷ [])) ≡ join (at_names (15 ∷ 3 ∷ [])) (at_names (15 ∷ 4 ∷ [])) ∷ []
electrical_with_electrical = refl

pub electrical_with_descendant : links_of (tied (3 ∷ []) (6 ∷ [])) ≡ join (at_names (15 ∷ 3 ∷ [])) (at_names (15 ∷ 6 ∷ [])) ∷ []
electrical_with_descendant = refl

-- beside another interface it is none that fits
pub electrical_with_interface : fault_of (tied (3 ∷ []) (20 ∷ [])) ≡ cannot 9 60
electrical_with_interface = refl

-- ---- interfaces inside interfaces, and parameters: `P` with `hv`, `voltage: D`; `Q` with `p = new P` and `lv`; two Q's in `Top`

abbrev nested_with : List Stmt → List SourceFile
nested_with more = board (block Interface (nm 21 10) None (signal_of (nm 16 11) ∷ declare (nm 26 12) ∷ [])
    ∷ block Interface (nm 25 13) (Some (nm 21 14)) (signal_of (nm 18 15) ∷ [])
    ∷ block Interface (nm 6 16) (Some (nm 21 17)) (signal_of (nm 18 18) ∷ [])
    ∷ block Interface (nm 22 20) None (make (nm 20 21) (nm 21 22) ∷ signal_of (nm 17 23) ∷ [])
    ∷ block Module (nm 8 30) None (make (nm 19 31) (nm 22 32) ∷ make (nm 24 33) (nm 22 34) ∷ connect (path 40 (19 ∷ [])) (path 50 (24 ∷ [])) ∷ more) ∷ [])

pub nested_is_sound : tree_fault (nested_with []) ample (Some 6) ≡ None
nested_is_sound = refl

pub nested_links : links (nested_with []) 6 electrical ≡ join (at_names (16 ∷ 20 ∷ 19 ∷ [])) (at_names (16 ∷ 20 ∷ 24 ∷ []))
    ∷ join (at_names (26 ∷ 20 ∷ 19 ∷ [])) (at_names (26 ∷ 20 ∷ 24 ∷ []))
    ∷ join (at_names (17 ∷ 19 ∷ [])) (at_names (17 ∷ 24 ∷ [])) ∷ []
nested_links = refl

-- one of the inner ones is replaced by a descendant: they still have the ancestor's members in common
pub replaced_links : links (nested_with (replace (nm 19 60 ∷ nm 20 61 ∷ []) (nm 25 62) ∷ [])) 6 electrical ≡ join (at_names (16 ∷ 20 ∷ 19 ∷ [])) (at_names (16 ∷ 20 ∷ 24 ∷ []))
    ∷ join (at_names (26 ∷ 20 ∷ 19 ∷ [])) (at_names (26 ∷ 20 ∷ 24 ∷ []))
    ∷ join (at_names (17 ∷ 19 ∷ [])) (at_names (17 ∷ 24 ∷ [])) ∷ []
replaced_links = refl

-- both are replaced apart: members that are reached and cannot be joined, at the left end of the connection
pub replaced_apart : connect_fault (nested_with (replace (nm 19 60 ∷ nm 20 61 ∷ []) (nm 25 62) ∷ replace (nm 24 63 ∷ nm 20 64 ∷ []) (nm 6 65) ∷ [])) 6 (keys_of names) electrical
    ≡ cannot 2 40
replaced_apart = refl

-- a parameter as an end is at fault by its kind, before it cannot be joined
pub end_is_param : connect_fault (nested_with (connect (path 60 (19 ∷ 20 ∷ 26 ∷ [])) (path 70 (24 ∷ 20 ∷ 26 ∷ [])) ∷ [])) 6 (keys_of names) electrical
    ≡ Some (3, fault_in [] kinds.WrongKind (place.Source (nm 26 62).at))
end_is_param = refl

-- ---- the order of faults

-- The earlier statement is at fault, whichever fault it has.
pub clash_before_path : connect_fault (nested_with (connect (path 60 (19 ∷ [])) (path 62 (19 ∷ 17 ∷ [])) ∷ connect (path 64 (3 ∷ [])) (path 66 (19 ∷ [])) ∷ [])) 6 (keys_of names) electrical
    ≡ cannot 3 60
clash_before_path = refl

pub path_before_clash : connect_fault (nested_with (connect (path 64 (3 ∷ [])) (path 66 (19 ∷ [])) ∷ connect (path 60 (19 ∷ [])) (path 62 (19 ∷ 17 ∷ [])) ∷ [])) 6 (keys_of names) electrical
    ≡ Some (3, fault_in [] kinds.NoSuchMember (place.Source (nm 3 64).at))
path_before_clash = refl

-- ---- a resistor has no line, and `Electrical` has: `r = new TYPE`, `signal s`, `s ~ r`

abbrev with_type : ℕ → List SourceFile
with_type type = board (block Module (nm 8 30) None (make (nm 9 31) (nm type 32) ∷ signal_of (nm 11 33) ∷ connect (path 40 (11 ∷ [])) (path 50 (9 ∷ [])) ∷ []) ∷ [])

pub signal_with_resistor : connect_fault (with_type 23) 2 (keys_of names) electrical ≡ cannot 2 40
signal_with_resistor = refl

pub signal_with_line : links (with_type 14) 2 electrical ≡ join (at_names (11 ∷ [])) (at_names (15 ∷ 9 ∷ [])) ∷ []
signal_with_line = refl
