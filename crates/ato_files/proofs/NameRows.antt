-- Worked rows of names, lineages and their faults, on trees written by hand. Offsets are made up, in order.
use Rattle.std.proofs.Common.{◌≡◌, ◌+◌, ℕ, true, false, List, [], ◌∷◌, Option, Some, None, codes, refl}
use Rattle.ato_base.specs.declared.faults.FaultKind.TheVariants as kinds
use Rattle.ato_base.specs.declared.faults.Fault.{Fault}
use Rattle.ato_ast.specs.declared.names.Named.{Named}
use Rattle.ato_ast.specs.declared.blocks.BlockKind.TheVariants.{Module, Component, Interface}
use Rattle.ato_ast.specs.declared.blocks.Head.TheVariants as head
use Rattle.ato_ast.specs.declared.stmts.Stmt.{Stmt}
use Rattle.ato_ast.specs.declared.stmts.Stmt.TheVariants as stmt
use Rattle.ato_ast.specs.declared.stmts.End.TheVariants as end
use Rattle.ato_ast.specs.declared.stmts.Value.TheVariants as value
use Rattle.ato_ast.specs.declared.paths.Point.TheVariants as point
use Rattle.ato_ast.specs.declared.paths.Label.TheVariants as label
use Rattle.ato_ast.specs.declared.blocks.Item.{Item}
use Rattle.ato_ast.specs.declared.blocks.Item.TheVariants as item
use Rattle.ato_ast.specs.declared.exprs.Expr.{Expr}
use Rattle.ato_ast.specs.declared.stmts.Value.{Value}
use Rattle.ato_base.specs.declared.tokens.TokenKind.{TokenKind}
use Rattle.ato_files.specs.declared.program.SourceFile.{SourceFile}
use Rattle.ato_files.proofs.Written.{span, nm, quoted, path_of, heads, block, source, library}
use Rattle.ato_files.specs.Blocks.{meaning}
use Rattle.ato_files.specs.Lineages.{lineage, descends}
use Rattle.ato_files.specs.Members.{member, signal, instance, param}
use Rattle.ato_files.specs.Faults.{fault, least}
use Rattle.ato_files.specs.NameFaults.{name_fault}

-- the library, which is empty here, and the entry
abbrev only : List Item → List SourceFile
only items = library ∷ source (codes "main.ato") [] items ∷ []

-- a library of some blocks
abbrev library_of : List Item → SourceFile
library_of items = source (codes "<library>") [] items

-- a name in the file of a number
abbrev at_file : ℕ → ℕ → ℕ → Named
at_file file name start = record { name = record { 0 = name }; at = span file start (start + 1) }

-- ---- statements

abbrev make : ℕ → ℕ → ℕ → ℕ → Stmt
make name at type there = stmt.Make (nm name at) (nm type there) (span 1 at (there + 1))

abbrev declare : ℕ → ℕ → Stmt
declare name at = stmt.Declare (nm name at) (nm 9 (at + 1)) None (span 1 at (at + 2))

abbrev signal_of : ℕ → ℕ → Stmt
signal_of name at = stmt.Point (point.Signal (nm name at) (span 1 at (at + 1))) None (span 1 at (at + 1))

abbrev pin_of : ℕ → ℕ → Stmt
pin_of name at = stmt.Point (point.Pin (label.Name (nm name at)) (span 1 at (at + 1))) None (span 1 at (at + 1))

abbrev replace : ℕ → ℕ → Stmt
replace type at = stmt.Replace (path_of (nm 8 at ∷ [])) (nm type (at + 1)) (span 1 at (at + 2))

-- ---- lineages

-- `module A from B: pass` and `module B from A: pass`
pub looped_fault : name_fault (only (block Module (nm 3 7) (Some (nm 4 14)) (stmt.Pass (span 1 17 21) ∷ []) ∷ block Module (nm 4 29) (Some (nm 3 36)) (stmt.Pass (span 1 39 43) ∷ []) ∷ []))
    ≡ Some (fault kinds.SuperLoop (span 1 14 15))
looped_fault = refl

-- a block that is its own parent
pub own_parent : name_fault (only (block Module (nm 3 7) (Some (nm 3 14)) [] ∷ [])) ≡ Some (fault kinds.SuperLoop (span 1 14 15))
own_parent = refl

-- A block under a loop is told of the loop, and not of what it declares.
pub under_loop : name_fault (only (block Module (nm 3 1) (Some (nm 4 2)) [] ∷ block Module (nm 4 3) (Some (nm 4 4)) [] ∷ [])) ≡ Some (fault kinds.SuperLoop (span 1 2 3))
under_loop = refl

-- the same with a chain that ends: no fault, and the lineages, the oldest first
abbrev chained : List SourceFile
chained = only (block Module (nm 3 7) (Some (nm 4 14)) [] ∷ block Module (nm 4 29) (Some (nm 5 32)) [] ∷ block Module (nm 5 36) None [] ∷ [])

pub chained_fault : name_fault chained ≡ None
chained_fault = refl

pub chained_lineage : lineage chained 0 ≡ 2 ∷ 1 ∷ 0 ∷ []
chained_lineage = refl

pub middle_lineage : lineage chained 1 ≡ 2 ∷ 1 ∷ []
middle_lineage = refl

pub youngest_descends : descends chained 0 2 ≡ true
youngest_descends = refl

pub itself_descends : descends chained 1 1 ≡ true
itself_descends = refl

pub oldest_descends_not : descends chained 2 0 ≡ false
oldest_descends_not = refl

-- ---- a name twice: the fault is at the later one

pub block_twice : name_fault (only (block Module (nm 3 1) None [] ∷ block Component (nm 3 2) None [] ∷ [])) ≡ Some (fault kinds.NameTwice (span 1 2 3))
block_twice = refl

-- the first of two blocks is the one that the name means
pub first_of_two : meaning (only (block Module (nm 3 1) None [] ∷ block Component (nm 3 2) None [] ∷ [])) 1 3 ≡ Some 0
first_of_two = refl

-- a block with the name of an import
pub import_and_block : name_fault (library ∷ source (codes "main.ato") (codes "\"b\"") (heads (head.ImportFrom (nm 3 4) (quoted 1 0 1) (span 1 4 6) ∷ []) ∷ block Module (nm 3 7) None [] ∷ [])
    ∷ source (codes "b") [] (block Module (nm 3 0) None [] ∷ []) ∷ []) ≡ Some (fault kinds.NameTwice (span 1 7 8))
import_and_block = refl

-- one name from two files, which is the first file's
abbrev imported_twice : List SourceFile
imported_twice = library ∷ source (codes "main.ato") (codes "\"b\"\"c\"") (heads (head.From (quoted 1 0 1) (nm 3 6 ∷ []) (span 1 6 7) ∷ head.From (quoted 1 3 1) (nm 3 8 ∷ []) (span 1 8 9) ∷ []) ∷ [])
    ∷ source (codes "b") [] (block Module (nm 3 0) None [] ∷ []) ∷ source (codes "c") [] (block Module (nm 4 0) None [] ∷ block Module (nm 3 0) None [] ∷ []) ∷ []

pub second_import : name_fault imported_twice ≡ Some (fault kinds.NameTwice (span 1 8 9))
second_import = refl

pub first_import : meaning imported_twice 1 3 ≡ Some 0
first_import = refl

-- one name in two files is no fault
pub two_files : name_fault (library ∷ source (codes "a") [] (block Module (nm 3 0) None [] ∷ []) ∷ source (codes "b") [] (block Module (nm 3 0) None [] ∷ []) ∷ []) ≡ None
two_files = refl

-- ---- members

abbrev in_module : List Stmt → Option Fault
in_module stmts = name_fault (only (block Module (nm 3 1) None stmts ∷ []))

abbrev under : List Stmt → List Stmt → Option Fault
under above stmts = name_fault (only (block Module (nm 3 1) None above ∷ block Module (nm 4 20) (Some (nm 3 21)) stmts ∷ []))

pub signal_again : in_module (signal_of 5 2 ∷ signal_of 5 4 ∷ []) ≡ None
signal_again = refl

pub parameter_again : in_module (declare 5 2 ∷ declare 5 4 ∷ []) ≡ None
parameter_again = refl

pub instance_again : in_module (make 5 2 3 3 ∷ make 5 5 3 6 ∷ []) ≡ Some (fault kinds.NameTwice (span 1 5 6))
instance_again = refl

pub signal_and_parameter : in_module (signal_of 5 2 ∷ declare 5 4 ∷ []) ≡ Some (fault kinds.NameTwice (span 1 4 5))
signal_and_parameter = refl

-- both points of a statement are declared
pub signals_joined : in_module (declare 5 2 ∷ stmt.Point (point.Signal (nm 6 4) (span 1 4 5)) (Some (end.Point (point.Signal (nm 5 6) (span 1 6 7)))) (span 1 4 7) ∷ []) ≡ Some (fault kinds.NameTwice (span 1 6 7))
signals_joined = refl

-- a member that an ancestor declares otherwise
pub member_twice : under (make 5 2 3 3 ∷ []) (declare 5 25 ∷ []) ≡ Some (fault kinds.NameTwice (span 1 25 26))
member_twice = refl

pub parameter_below : under (declare 5 2 ∷ []) (declare 5 25 ∷ []) ≡ None
parameter_below = refl

pub signal_below : under (signal_of 5 2 ∷ []) (signal_of 5 25 ∷ []) ≡ None
signal_below = refl

-- a name is what it is first declared as; else a parameter, where a quantity is assigned to it
pub first_member : member (signal_of 5 2 ∷ declare 5 4 ∷ []) 5 ≡ Some signal
first_member = refl

pub instance_member : member (declare 6 2 ∷ make 5 4 3 6 ∷ []) 5 ≡ Some (instance (nm 3 6))
instance_member = refl

abbrev assigned : List Named → Option TokenKind → Value → Stmt
assigned steps pin v = stmt.Assign (record { steps = steps; pin = pin; at = span 1 2 3 }) v (span 1 2 6)

pub quantity_is_a_member : (x : Expr) → member (assigned (nm 5 2 ∷ []) None (value.Expr x) ∷ []) 5 ≡ Some param
quantity_is_a_member x = refl

pub declared_before_assigned : (x : Expr) → member (assigned (nm 5 2 ∷ []) None (value.Expr x) ∷ signal_of 5 7 ∷ []) 5 ≡ Some signal
declared_before_assigned x = refl

pub text_is_no_member : member (assigned (nm 5 2 ∷ []) None (value.Text (quoted 1 3 1)) ∷ []) 5 ≡ None
text_is_no_member = refl

pub truth_is_no_member : member (assigned (nm 5 2 ∷ []) None (value.Truth true (span 1 3 7)) ∷ []) 5 ≡ None
truth_is_no_member = refl

-- a path of more names, or of a pin, is no member's name
pub long_path : (x : Expr) → member (assigned (nm 5 2 ∷ nm 6 3 ∷ []) None (value.Expr x) ∷ []) 5 ≡ None
long_path x = refl

pub path_of_a_pin : (x : Expr) (pin : TokenKind) → member (assigned (nm 5 2 ∷ []) (Some pin) (value.Expr x) ∷ []) 5 ≡ None
path_of_a_pin x pin = refl

-- `a ~ signal b` declares `b`
pub connected_signal : in_module (declare 5 2 ∷ stmt.Connect (path_of (nm 6 4 ∷ [])) (end.Point (point.Signal (nm 5 6) (span 1 6 7))) (span 1 4 7) ∷ []) ≡ Some (fault kinds.NameTwice (span 1 6 7))
connected_signal = refl

pub connected_path : in_module (declare 5 2 ∷ stmt.Connect (path_of (nm 6 4 ∷ [])) (end.Path (path_of (nm 5 6 ∷ []))) (span 1 4 7) ∷ []) ≡ None
connected_path = refl

-- each statement of a line counts
pub one_line : name_fault (only (item.Block (record { kind = Module; name = nm 3 1; parent = None; inline = true; lines = record { parts = declare 5 2 ∷ signal_of 5 4 ∷ []; tail = false } ∷ [] }) ∷ []))
    ≡ Some (fault kinds.NameTwice (span 1 4 5))
one_line = refl

-- ---- an unknown name

-- an import of the library that it does not have, before a later fault
pub no_import : name_fault (only (heads (head.Import (nm 4 1 ∷ []) (span 1 0 2) ∷ []) ∷ block Module (nm 3 2) (Some (nm 5 3)) [] ∷ [])) ≡ Some (fault kinds.NameUnknown (span 1 1 2))
no_import = refl

pub no_parent : name_fault (only (block Module (nm 3 2) (Some (nm 5 3)) [] ∷ [])) ≡ Some (fault kinds.NameUnknown (span 1 3 4))
no_parent = refl

pub no_type : in_module (make 5 2 6 3 ∷ []) ≡ Some (fault kinds.NameUnknown (span 1 3 4))
no_type = refl

pub no_replacement : in_module (replace 6 2 ∷ []) ≡ Some (fault kinds.NameUnknown (span 1 3 4))
no_replacement = refl

-- an imported name is that file's own block, and no name that it imported
abbrev taken_on : List Item → List SourceFile
taken_on last = library ∷ source (codes "main.ato") (codes "\"b\"") (heads (head.From (quoted 1 0 1) (nm 3 5 ∷ []) (span 1 0 6) ∷ []) ∷ [])
    ∷ source (codes "b") (codes "\"c\"") (heads (head.From (quoted 2 0 1) (at_file 2 3 5 ∷ []) (span 2 0 6) ∷ []) ∷ last) ∷ source (codes "c") [] (block Module (at_file 3 3 0) None [] ∷ []) ∷ []

pub not_taken_on : name_fault (taken_on []) ≡ Some (fault kinds.NameUnknown (span 1 5 6))
not_taken_on = refl

-- each name of an import counts
pub second_of_two : name_fault (library ∷ source (codes "main.ato") (codes "\"b\"") (heads (head.From (quoted 1 0 1) (nm 3 5 ∷ nm 4 7 ∷ []) (span 1 0 8) ∷ []) ∷ []) ∷ source (codes "b") [] (block Module (nm 3 0) None [] ∷ []) ∷ [])
    ≡ Some (fault kinds.NameUnknown (span 1 7 8))
second_of_two = refl

pub second_of_library : name_fault (library_of (block Module (nm 3 0) None [] ∷ []) ∷ source (codes "main.ato") [] (heads (head.Import (nm 3 5 ∷ nm 4 7 ∷ []) (span 1 0 8) ∷ []) ∷ []) ∷ []) ≡ Some (fault kinds.NameUnknown (span 1 7 8))
second_of_library = refl

pub second_line : name_fault (only (heads (head.Docs (quoted 1 0 1) ∷ head.Pass (span 1 4 8) ∷ []) ∷ heads (head.Import (nm 4 9 ∷ []) (span 1 9 10) ∷ []) ∷ [])) ≡ Some (fault kinds.NameUnknown (span 1 9 10))
second_line = refl

-- a name of another file is unknown where it is not imported
pub not_imported : name_fault (library ∷ source (codes "main.ato") [] (block Module (nm 3 1) (Some (nm 4 2)) [] ∷ []) ∷ source (codes "b") [] (block Module (nm 4 0) None [] ∷ []) ∷ [])
    ≡ Some (fault kinds.NameUnknown (span 1 2 3))
not_imported = refl

-- ---- the wrong kind

pub stray_pin : in_module (pin_of 4 2 ∷ []) ≡ Some (fault kinds.WrongKind (span 1 2 3))
stray_pin = refl

pub pin_of_a_component : name_fault (only (block Component (nm 3 1) None (pin_of 4 2 ∷ pin_of 4 3 ∷ []) ∷ [])) ≡ None
pin_of_a_component = refl

pub interface_above : name_fault (only (block Interface (nm 3 1) None [] ∷ block Module (nm 4 2) (Some (nm 3 3)) [] ∷ [])) ≡ Some (fault kinds.WrongKind (span 1 3 4))
interface_above = refl

pub interface_below : name_fault (only (block Component (nm 3 1) None [] ∷ block Interface (nm 4 2) (Some (nm 3 3)) [] ∷ [])) ≡ Some (fault kinds.WrongKind (span 1 3 4))
interface_below = refl

pub module_above_component : name_fault (only (block Module (nm 3 1) None [] ∷ block Component (nm 4 2) (Some (nm 3 3)) [] ∷ [])) ≡ None
module_above_component = refl

pub module_in_interface : name_fault (only (block Module (nm 3 1) None [] ∷ block Interface (nm 4 2) None (make 5 3 3 4 ∷ []) ∷ [])) ≡ Some (fault kinds.WrongKind (span 1 4 5))
module_in_interface = refl

pub interface_in_interface : name_fault (only (block Interface (nm 3 1) None [] ∷ block Interface (nm 4 2) None (make 5 3 3 4 ∷ []) ∷ [])) ≡ None
interface_in_interface = refl

-- only what stands behind `new` has to be one, and it is what the name means in that file
pub replacement_in_interface : name_fault (only (block Module (nm 3 1) None [] ∷ block Interface (nm 4 2) None (replace 3 3 ∷ []) ∷ [])) ≡ None
replacement_in_interface = refl

pub interface_of_its_file : name_fault (library ∷ source (codes "a") [] (block Module (nm 3 1) None [] ∷ []) ∷ source (codes "b") [] (block Interface (nm 3 1) None [] ∷ block Interface (nm 4 2) None (make 5 3 3 4 ∷ []) ∷ []) ∷ []) ≡ None
interface_of_its_file = refl

-- ---- the first of several faults

-- two at one place: the one of the lesser number
pub loop_and_kind : name_fault (only (block Module (nm 3 1) (Some (nm 4 2)) [] ∷ block Interface (nm 4 3) (Some (nm 3 4)) [] ∷ [])) ≡ Some (fault kinds.SuperLoop (span 1 2 3))
loop_and_kind = refl

pub lesser_kind : least (fault kinds.WrongKind (span 1 2 3) ∷ fault kinds.SuperLoop (span 1 2 3) ∷ []) ≡ Some (fault kinds.SuperLoop (span 1 2 3))
lesser_kind = refl

-- in one file the earlier one, whatever it is
pub earlier_offset : name_fault (only (block Module (nm 3 1) None (pin_of 4 2 ∷ []) ∷ block Module (nm 3 4) (Some (nm 6 5)) [] ∷ [])) ≡ Some (fault kinds.WrongKind (span 1 2 3))
earlier_offset = refl

-- the earlier file first, whatever the offsets
pub earlier_file : name_fault (library ∷ source (codes "a") [] (block Module (nm 3 20) (Some (nm 4 21)) [] ∷ []) ∷ source (codes "b") [] (block Module (at_file 2 3 1) (Some (at_file 2 4 2)) [] ∷ []) ∷ [])
    ≡ Some (fault kinds.NameUnknown (span 1 21 22))
earlier_file = refl

-- an import that takes nothing has the fault, and not the names that use it, wherever they stand: a block before it, that makes one
pub import_of_nothing : name_fault (only (block Module (nm 3 1) None (stmt.Make (nm 5 2) (nm 4 3) (span 1 2 4) ∷ []) ∷ heads (head.Import (nm 4 5 ∷ []) (span 1 5 6) ∷ []) ∷ [])) ≡ Some (fault kinds.NameUnknown (span 1 5 6))
import_of_nothing = refl
