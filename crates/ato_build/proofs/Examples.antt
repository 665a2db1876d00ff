-- Small cases, worked by hand.
use Rattle.std.proofs.Common.{◌≡◌, [], ◌∷◌, ◌++◌, refl, arith}
use Rattle.std.specs.Prelude.{ℕ, List, codes, Option, Some, None, ◌==◌, if◌then◌else◌}
use Rattle.std.specs.Fmt.{digits}
use Rattle.ato_base.specs.declared.faults.FaultKind.TheVariants as kinds
use Rattle.ato_base.specs.declared.places.Place.TheVariants as places
use Rattle.ato_first.specs.declared.first_form.Block.{Block}
use Rattle.ato_base.specs.Classes.{no_class, a_class, no_point, related}
use Rattle.ato_base.specs.Joined.{same, along, against}
use Rattle.ato_base.specs.declared.nets.NetList.{NetList}
use Rattle.ato_first.specs.declared.first_form.End.TheVariants.{Name, Declared}
use Rattle.ato_first.specs.declared.first_form.Line.TheVariants.{Pass, Declaration, Join, Kind, Attribute, Assertion}
use Rattle.ato_first.specs.declared.first_form.Point.TheVariants.{Signal, Pin}
use Rattle.ato_first.specs.FirstTokens.{syntax_fault}
use Rattle.ato_build.specs.Entry.{word_fault, entry_file}
use Rattle.ato_first.specs.FirstNets.{net_pin, by_signal, IsNetList}
use Rattle.ato_first.specs.FirstParts.{part_of, candidates}
use Rattle.ato_first_catalog.specs.Rows.{PlainRow}
use Rattle.ato_first.specs.FirstPoints.{IsJoinedByLine}
use Rattle.ato_writers.specs.Netlists.{list_text, comp_text, net_text, node_text, field, quoted}
use Rattle.ato_build.specs.Texts.{column_at, files_with, also_text, fault_text, accepted_text, rejected_text, place_in_text, word_text}
use Rattle.ato_build.specs.declared.project.Project.{Project}

-- ---- a block with no pin

abbrev empty_block : Block
empty_block = record { name = codes "E"; lines = Pass ∷ [] }

abbrev empty_list : NetList
empty_list = record { comps = []; nets = [] }

-- Its net list has no part and no net.
pub empty_is : IsNetList empty_block (codes "E") empty_list
empty_is = record { comps = refl; classes = []; are_classes = no_class; nets = tt }

pub empty_netlist : list_text empty_list ≡ codes "(export (version \"ato-1\")\n  (components\n  )\n  (nets\n  )\n)\n"
unfolding list_text
empty_netlist = refl

-- ---- a block with two pins, which a signal joins

abbrev two_pins : Block
two_pins = record {
  name = codes "Two";
  lines = Declaration (Signal (codes "a")) ∷ Join (Name (codes "a")) (Declared (Pin (codes "1"))) ∷ Join (Declared (Pin (codes "2"))) (Name (codes "a")) ∷ [];
}

abbrev one_net : NetList
one_net = record {
  comps = record { designator = codes "U1"; value = codes "Two"; footprint = []; path = [] } ∷ [];
  nets = record { name = codes "a"; pins = net_pin (codes "1") ∷ net_pin (codes "2") ∷ [] } ∷ [];
}

signal_to_one : IsJoinedByLine two_pins (Signal (codes "a")) (Pin (codes "1"))
signal_to_one = (Name (codes "a"), Declared (Pin (codes "1")), (1, omega arith, refl), refl, refl)

two_to_signal : IsJoinedByLine two_pins (Pin (codes "2")) (Signal (codes "a"))
two_to_signal = (Declared (Pin (codes "2")), Name (codes "a"), (2, omega arith, refl), refl, refl)

-- The two pins are joined through the signal, and the net has its name.
pub two_pins_is : IsNetList two_pins (codes "Two") one_net
two_pins_is = record {
  comps = refl;
  classes = (codes "1" ∷ codes "2" ∷ []) ∷ [];
  are_classes = a_class (related (against signal_to_one (against two_to_signal same)) no_point) no_class;
  nets = ((by_signal [] [] refl (along signal_to_one same) (λ k d h. absurd (omega arith)), refl), tt);
}

pub two_pins_netlist : list_text one_net ≡
    codes "(export (version \"ato-1\")\n  (components\n"
    ++ codes "    (comp (ref \"U1\") (value \"Two\") (footprint \"\") (path \"\"))\n"
    ++ codes "  )\n  (nets\n"
    ++ codes "    (net (code \"1\") (name \"a\")\n      (node (ref \"U1\") (pin \"1\"))\n      (node (ref \"U1\") (pin \"2\"))\n    )\n"
    ++ codes "  )\n)\n"
unfolding list_text comp_text net_text node_text field quoted digits
two_pins_netlist = refl

-- ---- printed texts

-- a project of main.ato
abbrev main_project : Project
main_project = record { file = codes "main.ato"; block = codes "T"; catalogue = codes "parts.csv" }

-- The entry file is not there.
pub missing_file : fault_text (files_with main_project []) (word_fault kinds.FileMissing 1) ≡ codes "fault F8 FileMissing word 1\n"
unfolding fault_text also_text word_text digits
missing_file = refl

-- The second line begins with a tab, at byte 13.
pub bad_line : fault_text (files_with main_project (codes "component T:\n\tpin 1\n")) (syntax_fault entry_file 13) ≡ codes "fault F6 Syntax main.ato:2:1\n"
unfolding fault_text also_text place_in_text digits
bad_line = refl

-- A fault with a second place names both.
pub two_places : fault_text (files_with main_project (codes "a\nb\n"))
    (record { kind = kinds.DefinitionLoop; at = places.Source (record { file = entry_file; start = 0; end = 1 }); other = Some (places.Source (record { file = entry_file; start = 2; end = 3 })); path = [] })
    ≡ codes "fault F28 DefinitionLoop main.ato:1:1 also main.ato:2:1\n"
unfolding fault_text also_text place_in_text digits
two_places = refl

-- A fault in an instance names its path between the two.
pub in_an_instance : fault_text (record { source = λ file. record { name = codes "main.ato"; bytes = codes "a\nb\n" }; catalogue = []; name = λ n. if n.0 == 5 then codes "top" else codes "left" })
    (record {
      kind = kinds.DefinitionLoop;
      at = places.Source (record { file = entry_file; start = 0; end = 1 });
      other = Some (places.Source (record { file = entry_file; start = 2; end = 3 }));
      path = record { 0 = 5 } ∷ record { 0 = 6 } ∷ [];
    })
    ≡ codes "fault F28 DefinitionLoop main.ato:1:1 in top.left also main.ato:2:1\n"
unfolding fault_text also_text place_in_text digits
in_an_instance = refl

-- The two texts of a check.
pub accepted : accepted_text (codes "refuted") ≡ codes "accepted refuted\n"
unfolding accepted_text
accepted = refl

pub rejected : rejected_text 4 ≡ codes "rejected line 4\n"
unfolding rejected_text digits
rejected = refl

-- A letter of two bytes is one column.
pub two_bytes : column_at (97 ∷ 195 ∷ 169 ∷ 98 ∷ []) 3 ≡ 3
two_bytes = refl

-- ---- a part and its candidates

abbrev some_row : List ℕ → List ℕ → Option (ℕ × ℕ) → PlainRow
some_row part kind cell = record { part = part; kind = kind; cells = cell ∷ [] }

-- The part of a block with its three lines, in any order.
pub its_part : part_of (Assertion (record { name = codes "x"; low = codes "2"; high = codes "4" }) ∷ Pass ∷ Kind (codes "k") ∷ Attribute (codes "x") ∷ [])
    ≡ Some (record { kind = codes "k"; attribute = codes "x"; low = 2; high = 4 })
its_part = refl

-- A row of another kind is no candidate, nor is one without a value. The others keep their numbers.
pub two_candidates : candidates
    (record { columns = record { name = codes "x"; at = 3 } ∷ []; rows = some_row (codes "A") (codes "k") (Some (1, 3)) ∷ some_row (codes "B") (codes "j") (Some (9, 9)) ∷ some_row (codes "C") (codes "k") None ∷ some_row (codes "D") (codes "k") (Some (2, 2)) ∷ [] })
    (record { kind = codes "k"; attribute = codes "x"; low = 2; high = 4 })
    ≡ record { number = 1; low = 1; high = 3 } ∷ record { number = 4; low = 2; high = 2 } ∷ []
two_candidates = refl

-- Where no column has the attribute's name there is none.
pub no_candidate : candidates
    (record { columns = record { name = codes "y"; at = 3 } ∷ []; rows = some_row (codes "A") (codes "k") (Some (1, 3)) ∷ [] })
    (record { kind = codes "k"; attribute = codes "x"; low = 2; high = 4 })
    ≡ []
no_candidate = refl
