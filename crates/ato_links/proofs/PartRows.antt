-- Worked rows of parts, their strings and designators, and of the names of nets.
use Rattle.std.proofs.Common.{◌≡◌, ℕ, List, [], ◌∷◌, ◌++◌, Some, None, codes, refl}
use Rattle.std.specs.Fmt.{digits}
use Rattle.ato_base.specs.declared.nets.PartRow.{PartRow}
use Rattle.ato_base.specs.declared.nets.Net.{Net}
use Rattle.ato_ast.specs.declared.blocks.BlockKind.TheVariants.{Module, Component}
use Rattle.ato_ast.specs.declared.blocks.Item.{Item}
use Rattle.ato_ast.specs.declared.stmts.End.TheVariants as end
use Rattle.ato_ast.specs.declared.stmts.Stmt.{Stmt}
use Rattle.ato_ast.specs.declared.stmts.Stmt.TheVariants as stmt
use Rattle.ato_files.specs.declared.program.SourceFile.{SourceFile}
use Rattle.ato_files.proofs.Written.{span, nm, block, source}
use Rattle.ato_instance_tree.proofs.Written.{pass, make, replace, assign, text, signal_of, signal_and_pin, connect}
use Rattle.ato_links.specs.Parts.{parts, designators_after, part_rows, path_text}
use Rattle.ato_links.specs.Joins.{AreClasses}
use Rattle.ato_links.specs.NodeJoins.{node_joins}
use Rattle.ato_links.specs.Nets.{comps_of, AreNets}
use Rattle.ato_links.specs.ByNumbers.{nets_by}
use Rattle.ato_links.proofs.Boards.{names, board, electrical, library, pin_of, pin_alone, path}
use Rattle.ato_links.proofs.Colours.{numbers_are}
use Rattle.ato_links.proofs.LinkRows.{kin, kin_is_placed}
use Rattle.ato_links.proofs.NumberLaws.{least_are_classes}
use Rattle.ato_links.proofs.NetLaws.{nets_by_numbers}

-- an entry file with these bytes and blocks, from the number 2 on; `texts` begins at 3 with AZkp
abbrev with_texts : List Item → List SourceFile
with_texts items = library ∷ source (codes "main.ato") (codes "123AZkp") items ∷ []

abbrev words : List (List ℕ)
words = names ++ codes "part" ∷ codes "package" ∷ codes "footprint" ∷ []

-- the string of one byte at this offset
abbrev sets : List ℕ → ℕ → Stmt
sets steps at = assign (path 60 steps) (text at 1)

abbrev row_of : List ℕ → List ℕ → List ℕ → PartRow
row_of designator path type = record { designator = designator; path = path; kind_name = type; kind = []; part = []; «package» = []; footprint = []; price = [] }

-- ---- designators: `C` with `designator_prefix = "A"` and a pin; `c.designator_prefix = "Z"` around it

abbrev prefixed : List Stmt → List SourceFile
prefixed more = with_texts (block Component (nm 5 10) None (sets (13 ∷ []) 2 ∷ signal_and_pin (nm 11 12) ∷ [])
    ∷ block Module (nm 8 20) None (make (nm 24 21) (nm 5 22) ∷ more) ∷ [])

pub own_prefix : part_rows (prefixed []) 3 words ≡ row_of (codes "A1") (codes "c") (codes "C") ∷ []
unfolding digits
own_prefix = refl

pub outer_prefix : part_rows (prefixed (sets (24 ∷ 13 ∷ []) 3 ∷ [])) 3 words ≡ row_of (codes "Z1") (codes "c") (codes "C") ∷ []
unfolding digits
outer_prefix = refl

-- each prefix counts for itself
pub by_prefix : designators_after [] (codes "U" ∷ codes "R" ∷ codes "U" ∷ codes "R" ∷ codes "R" ∷ []) ≡ codes "U1" ∷ codes "R1" ∷ codes "U2" ∷ codes "R2" ∷ codes "R3" ∷ []
unfolding digits
by_prefix = refl

-- ---- which components are parts: with a pin, a slot without one, neither; a module with a string `kind` is none, and the root may be one

abbrev some_parts : List SourceFile
some_parts = with_texts (block Component (nm 5 10) None (pin_alone 0 ∷ [])
    ∷ block Component (nm 3 12) None (sets (12 ∷ []) 4 ∷ sets (27 ∷ []) 5 ∷ sets (28 ∷ []) 5 ∷ sets (29 ∷ []) 5 ∷ [])
    ∷ block Component (nm 4 14) None (signal_of (nm 11 15) ∷ [])
    ∷ block Module (nm 7 16) None (sets (12 ∷ []) 4 ∷ [])
    ∷ block Component (nm 6 18) None (pin_alone 0 ∷ sets (27 ∷ []) 5 ∷ sets (28 ∷ []) 4 ∷ sets (29 ∷ []) 3 ∷ [])
    ∷ block Module (nm 8 20) None (make (nm 20 21) (nm 5 22) ∷ make (nm 19 23) (nm 3 24) ∷ make (nm 9 25) (nm 4 26) ∷ make (nm 10 27) (nm 7 28) ∷ make (nm 24 29) (nm 6 30) ∷ []) ∷ [])

pub which_parts : parts some_parts 7 words ≡ (20 ∷ []) ∷ (19 ∷ []) ∷ (24 ∷ []) ∷ []
which_parts = refl

-- A slot has its kind and no other string; a part that is none has its strings and no kind.
pub rows_with_strings : part_rows some_parts 7 words ≡ row_of (codes "U1") (codes "p") (codes "C")
    ∷ record { designator = codes "U2"; path = codes "q"; kind_name = codes "A"; kind = codes "k"; part = []; «package» = []; footprint = []; price = [] }
    ∷ record { designator = codes "U3"; path = codes "c"; kind_name = codes "D"; kind = []; part = codes "p"; «package» = codes "k"; footprint = codes "Z"; price = [] } ∷ []
unfolding digits
rows_with_strings = refl

pub root_is_part : part_rows some_parts 2 words ≡ row_of (codes "U1") [] (codes "C") ∷ []
unfolding digits
root_is_part = refl

-- Once parts are picked, the net list has for a slot the picked part, and for another part its type's name.
abbrev picked : List PartRow
picked = row_of (codes "U1") (codes "p") (codes "C")
    ∷ record { designator = codes "U2"; path = codes "q"; kind_name = codes "A"; kind = codes "k"; part = codes "R"; «package» = codes "S"; footprint = codes "F"; price = [] }
    ∷ row_of (codes "U3") (codes "c") (codes "D") ∷ []

pub picked_comps : comps_of some_parts 7 words (parts some_parts 7 words) picked
    ≡ record { designator = codes "U1"; value = codes "C"; footprint = []; path = codes "p" }
    ∷ record { designator = codes "U2"; value = codes "R"; footprint = codes "F"; path = codes "q" }
    ∷ record { designator = codes "U3"; value = codes "D"; footprint = []; path = codes "c" } ∷ []
picked_comps = refl

-- ---- types: `C` with a pin, and `A from C`; `c = new C`, `q = new A`, `p = new C` with `p -> A`

abbrev derived : List SourceFile
derived = with_texts (block Component (nm 5 10) None (pin_alone 0 ∷ [])
    ∷ block Component (nm 3 12) (Some (nm 5 13)) (pass ∷ [])
    ∷ block Module (nm 8 20) None (make (nm 24 21) (nm 5 22) ∷ make (nm 19 23) (nm 3 24) ∷ make (nm 20 25) (nm 5 26)
    ∷ replace (nm 20 27 ∷ []) (nm 3 28) ∷ []) ∷ [])

-- The pin of its ancestor makes an instance a part, whose name is that of its own type, as replaced.
pub own_types : part_rows derived 4 words ≡ row_of (codes "U1") (codes "c") (codes "C") ∷ row_of (codes "U2") (codes "q") (codes "A")
    ∷ row_of (codes "U3") (codes "p") (codes "A") ∷ []
unfolding digits
own_types = refl

-- ---- paths

pub names_with_points : path_text names (16 ∷ 19 ∷ 24 ∷ []) ≡ codes "c.q.hv"
names_with_points = refl

-- ---- nets

abbrev one_pin : List ℕ → List ℕ → Net
one_pin name label = record { name = name; pins = record { comp = 0; label = label } ∷ [] }

-- the interface and its descendant: the shortest path names each net, and the nets stand in the order of their first pins
abbrev pub kin_numbers : List ℕ
kin_numbers = 0 ∷ 1 ∷ 2 ∷ 3 ∷ 4 ∷ 5 ∷ 2 ∷ 3 ∷ 8 ∷ 3 ∷ 2 ∷ 8 ∷ []

pub kin_nets : nets_by kin 5 names kin_numbers ≡ one_pin (codes "p.lv") (codes "1") ∷ one_pin (codes "p.hv") (codes "2") ∷ one_pin (codes "c.q.en") (codes "3") ∷ []
kin_nets = refl

-- They are the numbers of its classes, so these are its nets.
pub kin_classes : AreClasses kin 5 electrical kin_numbers
kin_classes = least_are_classes kin 5 electrical kin_numbers kin_is_placed
    (numbers_are ((6, 2) ∷ (7, 3) ∷ (7, 9) ∷ (6, 10) ∷ (8, 11) ∷ []) kin_numbers (0 ∷ 0 ∷ 0 ∷ 0 ∷ 0 ∷ 0 ∷ 2 ∷ 3 ∷ 0 ∷ 7 ∷ 6 ∷ 8 ∷ []) 12 refl)

pub kin_are_nets : AreNets kin 5 names electrical (one_pin (codes "p.lv") (codes "1") ∷ one_pin (codes "p.hv") (codes "2") ∷ one_pin (codes "c.q.en") (codes "3") ∷ [])
kin_are_nets = nets_by_numbers kin 5 names electrical kin_numbers kin_classes

-- ---- more nets: a ring of three parts; signals of as many names; pins without a signal; a signal without a pin; two pins on one net

abbrev ring : List SourceFile
ring = board (block Component (nm 5 10) None (signal_and_pin (nm 11 11) ∷ [])
    ∷ block Module (nm 8 20) None (make (nm 3 21) (nm 5 22) ∷ make (nm 4 23) (nm 5 24) ∷ make (nm 6 25) (nm 5 26)
    ∷ connect (path 30 (3 ∷ 11 ∷ [])) (path 32 (4 ∷ 11 ∷ [])) ∷ connect (path 34 (4 ∷ 11 ∷ [])) (path 36 (6 ∷ 11 ∷ []))
    ∷ connect (path 38 (6 ∷ 11 ∷ [])) (path 40 (3 ∷ 11 ∷ [])) ∷ connect (path 42 (3 ∷ 11 ∷ [])) (path 44 (4 ∷ 11 ∷ [])) ∷ []) ∷ [])

abbrev ring_numbers : List ℕ
ring_numbers = 0 ∷ 1 ∷ 2 ∷ 2 ∷ 4 ∷ 2 ∷ 2 ∷ 7 ∷ 2 ∷ 2 ∷ []

pub ring_joins : node_joins ring 3 electrical ≡ (2, 5) ∷ (5, 8) ∷ (8, 2) ∷ (2, 5) ∷ (2, 3) ∷ (5, 6) ∷ (8, 9) ∷ []
ring_joins = refl

pub ring_classes : AreClasses ring 3 electrical ring_numbers
ring_classes = least_are_classes ring 3 electrical ring_numbers refl
    (numbers_are ((2, 5) ∷ (5, 8) ∷ (8, 2) ∷ (2, 5) ∷ (2, 3) ∷ (5, 6) ∷ (8, 9) ∷ []) ring_numbers (0 ∷ 0 ∷ 0 ∷ 2 ∷ 0 ∷ 2 ∷ 5 ∷ 0 ∷ 2 ∷ 8 ∷ []) 10 refl)

pub ring_nets : AreNets ring 3 names electrical
    (record { name = codes "A.s"; pins = record { comp = 0; label = codes "1" } ∷ record { comp = 1; label = codes "1" } ∷ record { comp = 2; label = codes "1" } ∷ [] } ∷ [])
ring_nets = nets_by_numbers ring 3 names electrical ring_numbers ring_classes

-- one component with `pin 1`, `signal r` without a pin, `pin 2 ~ pin 3`
abbrev bare : List SourceFile
bare = board (block Component (nm 5 10) None (pin_alone 0 ∷ signal_of (nm 9 11) ∷ stmt.Point (pin_of 1) (Some (end.Point (pin_of 2))) (span 1 80 90) ∷ []) ∷ [])

pub bare_joins : node_joins bare 2 electrical ≡ (3, 4) ∷ []
bare_joins = refl

pub bare_classes : AreClasses bare 2 electrical (0 ∷ 1 ∷ 2 ∷ 3 ∷ 3 ∷ [])
bare_classes = least_are_classes bare 2 electrical (0 ∷ 1 ∷ 2 ∷ 3 ∷ 3 ∷ []) refl (numbers_are ((3, 4) ∷ []) (0 ∷ 1 ∷ 2 ∷ 3 ∷ 3 ∷ []) (0 ∷ 0 ∷ 0 ∷ 0 ∷ 3 ∷ []) 5 refl)

-- Each net without a signal has the name of its first pin, and the signal without a pin is in none.
pub bare_nets : AreNets bare 2 names electrical (one_pin (codes ":1") (codes "1")
    ∷ record { name = codes ":2"; pins = record { comp = 0; label = codes "2" } ∷ record { comp = 0; label = codes "3" } ∷ [] } ∷ [])
bare_nets = nets_by_numbers bare 2 names electrical (0 ∷ 1 ∷ 2 ∷ 3 ∷ 3 ∷ []) bare_classes
