-- Worked rows of types, nodes, occurrences and the faults of trees, on projects written by hand.
use Rattle.std.proofs.Common.{◌≡◌, ℕ, List, [], ◌∷◌, map, Option, Some, None, false, true, codes, refl}
use Rattle.std.specs.Prelude.{sum_by}
use Rattle.ato_base.specs.declared.faults.Fault.{Fault}
use Rattle.ato_base.specs.declared.faults.FaultKind.{FaultKind}
use Rattle.ato_base.specs.declared.faults.FaultKind.TheVariants as kinds
use Rattle.ato_base.specs.declared.places.Place.TheVariants as place
use Rattle.ato_ast.specs.declared.names.Named.{Named}
use Rattle.ato_ast.specs.declared.paths.Label.TheVariants as label
use Rattle.ato_ast.specs.declared.paths.Point.TheVariants as point
use Rattle.ato_ast.specs.declared.blocks.BlockKind.TheVariants.{Module, Component, Interface}
use Rattle.ato_ast.specs.declared.blocks.Head.TheVariants as head
use Rattle.ato_ast.specs.declared.blocks.Item.TheVariants as item
use Rattle.ato_ast.specs.declared.exprs.Expr.{Expr}
use Rattle.ato_ast.specs.declared.stmts.End.TheVariants as end
use Rattle.ato_ast.specs.declared.stmts.Stmt.{Stmt}
use Rattle.ato_ast.specs.declared.stmts.Stmt.TheVariants as stmt
use Rattle.ato_ast.specs.declared.stmts.Value.TheVariants as value
use Rattle.ato_files.specs.declared.program.SourceFile.{SourceFile}
use Rattle.ato_files.specs.Members.{signal, param}
use Rattle.ato_files.specs.NameFaults.{name_fault}
use Rattle.ato_files.proofs.Written.{span, nm, quoted, heads, block, source, library}
use Rattle.ato_instance_tree.specs.declared.tree.NodeKind.TheVariants as node
use Rattle.ato_instance_tree.specs.Types.{type_kind}
use Rattle.ato_instance_tree.specs.Members.{pin, named, members}
use Rattle.ato_instance_tree.specs.Walk.{Occ, type_at}
use Rattle.ato_instance_tree.specs.Order.{leaf, made_at, nodes, instances, occurrences}
use Rattle.ato_instance_tree.specs.TreeFaults.{Limits, shown, fault_in, own_nodes, own_occs, entry_block, tree_fault}
use Rattle.ato_instance_tree.proofs.Written.{table, written, project, ample, dotted, pass, make, replace, declare, signal_of, pin_one, signal_and_pin, connect, assign, text}

-- a fault in the instance at a path, at a name of one byte
abbrev told : List ℕ → FaultKind → ℕ → Option Fault
told path kind at = Some (fault_in path kind (place.Source (nm 0 at).at))

-- ---- replacements: the outermost wins, and each must be the type so far or a descendant of it

-- C, A from C, B from A, D from C, and M with `r = new C` and `r -> A`; Top has `m = new M` and `m.r -> TYPE`
abbrev replaced : Named → List SourceFile
replaced type = project (block Component (nm 5 1) None (signal_and_pin (nm 11 2) ∷ [])
    ∷ block Component (nm 3 10) (Some (nm 5 11)) []
    ∷ block Component (nm 4 20) (Some (nm 3 21)) []
    ∷ block Component (nm 6 30) (Some (nm 5 31)) []
    ∷ block Module (nm 7 40) None (make (nm 9 41) (nm 5 42) ∷ replace (nm 9 44 ∷ []) (nm 3 45) ∷ [])
    ∷ block Module (nm 8 50) None (make (nm 10 51) (nm 7 52) ∷ replace (nm 10 54 ∷ nm 9 55 ∷ []) type ∷ []) ∷ [])

pub names_are_sound : name_fault (replaced (nm 4 56)) ≡ None
names_are_sound = refl

pub outer_wins : type_at (replaced (nm 4 56)) 5 (9 ∷ 10 ∷ []) ≡ Some 2
outer_wins = refl

pub outer_is_sound : tree_fault (replaced (nm 4 56)) ample (Some 5) ≡ None
outer_is_sound = refl

-- the same in the module alone: its own one counts
pub inner_alone : type_at (replaced (nm 4 56)) 4 (9 ∷ []) ≡ Some 1
inner_alone = refl

-- nothing is replaced at other paths
pub module_stays : type_at (replaced (nm 4 56)) 5 (10 ∷ []) ≡ Some 4
module_stays = refl

-- a path of no member has no type, nor has one below it
pub no_member_no_type : type_at (replaced (nm 4 56)) 5 (9 ∷ []) ≡ None
no_member_no_type = refl

pub nothing_below_no_member : type_at (replaced (nm 4 56)) 5 (9 ∷ 9 ∷ []) ≡ None
nothing_below_no_member = refl

pub a_signal_has_no_type : type_at (replaced (nm 4 56)) 5 (11 ∷ 9 ∷ 10 ∷ []) ≡ None
a_signal_has_no_type = refl

-- the type so far again
pub same_type : tree_fault (replaced (nm 3 56)) ample (Some 5) ≡ None
same_type = refl

-- a sibling of the type so far, in the path of the instance that is made
pub sibling : tree_fault (replaced (nm 6 56)) ample (Some 5) ≡ told (9 ∷ 10 ∷ []) kinds.NotSpecial 56
sibling = refl

-- an ancestor of the type so far, though it is that of the `new`
pub ancestor : tree_fault (replaced (nm 5 56)) ample (Some 5) ≡ told (9 ∷ 10 ∷ []) kinds.NotSpecial 56
ancestor = refl

-- The first replacement is looked at even if a later one is good: `r -> D`, then from outside `m.r -> B`, over `new A`.
abbrev first_is_bad : List SourceFile
first_is_bad = project (block Component (nm 5 1) None [] ∷ block Component (nm 3 10) (Some (nm 5 11)) [] ∷ block Component (nm 4 20) (Some (nm 3 21)) []
    ∷ block Component (nm 6 30) (Some (nm 5 31)) []
    ∷ block Module (nm 7 40) None (make (nm 9 41) (nm 3 42) ∷ replace (nm 9 44 ∷ []) (nm 6 45) ∷ [])
    ∷ block Module (nm 8 50) None (make (nm 10 51) (nm 7 52) ∷ replace (nm 10 54 ∷ nm 9 55 ∷ []) (nm 4 56) ∷ []) ∷ [])

pub first_of_two_bad : tree_fault first_is_bad ample (Some 5) ≡ told (9 ∷ 10 ∷ []) kinds.NotSpecial 45
first_of_two_bad = refl

-- In one block they count in source order, and an ancestor's before a descendant's.
abbrev in_order : List Stmt → List Stmt → List SourceFile
in_order above stmts = project (block Component (nm 5 1) None [] ∷ block Component (nm 3 10) (Some (nm 5 11)) [] ∷ block Component (nm 4 20) (Some (nm 3 21)) []
    ∷ block Module (nm 7 40) None (make (nm 9 41) (nm 5 42) ∷ above)
    ∷ block Module (nm 8 50) (Some (nm 7 51)) stmts ∷ [])

pub last_in_a_block : type_at (in_order (replace (nm 9 43 ∷ []) (nm 3 44) ∷ replace (nm 9 45 ∷ []) (nm 4 46) ∷ []) []) 3 (9 ∷ []) ≡ Some 2
last_in_a_block = refl

pub descendant_after_ancestor : type_at (in_order (replace (nm 9 43 ∷ []) (nm 3 44) ∷ []) (replace (nm 9 53 ∷ []) (nm 4 54) ∷ [])) 4 (9 ∷ []) ≡ Some 2
descendant_after_ancestor = refl

pub descendant_is_sound : tree_fault (in_order (replace (nm 9 43 ∷ []) (nm 3 44) ∷ []) (replace (nm 9 53 ∷ []) (nm 4 54) ∷ [])) ample (Some 4) ≡ None
descendant_is_sound = refl

pub descendant_goes_back : tree_fault (in_order (replace (nm 9 43 ∷ []) (nm 4 44) ∷ []) (replace (nm 9 53 ∷ []) (nm 3 54) ∷ [])) ample (Some 4) ≡ told (9 ∷ []) kinds.NotSpecial 54
descendant_goes_back = refl

-- An instance is what its `new` says, wherever that stands among the statements.
pub replaced_before_new : type_at (project (block Component (nm 5 1) None [] ∷ block Component (nm 3 10) (Some (nm 5 11)) []
    ∷ block Module (nm 8 50) None (replace (nm 9 51 ∷ []) (nm 3 52) ∷ make (nm 9 53) (nm 5 54) ∷ []) ∷ [])) 2 (9 ∷ []) ≡ Some 1
replaced_before_new = refl

-- Through an instance that was itself replaced: `m -> D`, where D from M adds `s = new C`, and then `m.s -> A`.
abbrev through : List SourceFile
through = project (block Component (nm 5 1) None (pin_one ∷ []) ∷ block Component (nm 3 10) (Some (nm 5 11)) []
    ∷ block Module (nm 7 20) None [] ∷ block Module (nm 6 30) (Some (nm 7 31)) (make (nm 11 32) (nm 5 33) ∷ [])
    ∷ block Module (nm 8 50) None (make (nm 10 51) (nm 7 52) ∷ replace (nm 10 53 ∷ []) (nm 6 54) ∷ replace (nm 10 55 ∷ nm 11 56 ∷ []) (nm 3 57) ∷ []) ∷ [])

pub replaced_below_replaced : type_at through 4 (11 ∷ 10 ∷ []) ≡ Some 1
replaced_below_replaced = refl

pub nodes_of_replaced : nodes through 4 ≡ made_at [] ∷ made_at (10 ∷ []) ∷ made_at (11 ∷ 10 ∷ []) ∷ leaf (11 ∷ 10 ∷ []) (pin (codes "1")) ∷ []
nodes_of_replaced = refl

-- A path that goes on, stops short or ends in a pin's number replaces nothing there.
pub longer_path : type_at (in_order (replace (nm 9 43 ∷ nm 9 44 ∷ []) (nm 3 45) ∷ []) []) 3 (9 ∷ []) ≡ Some 0
longer_path = refl

pub path_of_another : type_at (in_order (replace (nm 10 43 ∷ []) (nm 3 45) ∷ []) []) 3 (9 ∷ []) ≡ Some 0
path_of_another = refl

-- A statement's path begins at its own instance: `m.r -> A` inside M is no path of Top.
pub paths_begin_inside : type_at (project (block Component (nm 5 1) None [] ∷ block Component (nm 3 10) (Some (nm 5 11)) []
    ∷ block Module (nm 7 40) None (make (nm 9 41) (nm 5 42) ∷ replace (nm 10 43 ∷ nm 9 44 ∷ []) (nm 3 45) ∷ [])
    ∷ block Module (nm 8 50) None (make (nm 10 51) (nm 7 52) ∷ []) ∷ [])) 3 (9 ∷ 10 ∷ []) ≡ Some 0
paths_begin_inside = refl

-- ---- type names are those of the file in which they are written

-- in the entry: A, and Top with `m = new M`, M from the other file; in that file: C, A from C, and M with `r = new TYPE` and replacements
abbrev two_files : Named → List Stmt → List Stmt → List SourceFile
two_files type inner outer = library
    ∷ source (codes "main.ato") (codes "\"b\"") (heads (head.ImportFrom (nm 7 3) (quoted 1 0 1) (span 1 0 4) ∷ []) ∷ block Component (nm 3 10) None []
    ∷ block Module (nm 8 50) None (make (nm 10 51) (nm 7 52) ∷ outer) ∷ [])
    ∷ source (codes "b") [] (block Component (nm 5 1) None [] ∷ block Component (nm 3 10) (Some (nm 5 11)) [] ∷ block Module (nm 7 40) None (make (nm 9 41) type ∷ inner) ∷ []) ∷ []

pub files_are_sound : name_fault (two_files (nm 5 42) (replace (nm 9 43 ∷ []) (nm 3 44) ∷ []) []) ≡ None
files_are_sound = refl

-- `r = new A` in the other file makes that file's A, and `r -> A` there replaces by it
pub new_of_its_file : type_at (two_files (nm 3 42) [] []) 1 (9 ∷ 10 ∷ []) ≡ Some 3
new_of_its_file = refl

pub replacement_of_its_file : type_at (two_files (nm 5 42) (replace (nm 9 43 ∷ []) (nm 3 44) ∷ []) []) 1 (9 ∷ 10 ∷ []) ≡ Some 3
replacement_of_its_file = refl

-- `m.r -> A` in the entry replaces by the entry's A, which is no descendant
pub replacement_from_outside : type_at (two_files (nm 5 42) [] (replace (nm 10 53 ∷ nm 9 54 ∷ []) (nm 3 55) ∷ [])) 1 (9 ∷ 10 ∷ []) ≡ Some 0
replacement_from_outside = refl

pub stranger : tree_fault (two_files (nm 5 42) [] (replace (nm 10 53 ∷ nm 9 54 ∷ []) (nm 3 55) ∷ [])) ample (Some 1) ≡ told (9 ∷ 10 ∷ []) kinds.NotSpecial 55
stranger = refl

-- ---- a type in itself

pub nested : tree_fault (project (block Module (nm 8 7) None (make (nm 9 14) (nm 8 22) ∷ []) ∷ [])) ample (Some 0) ≡ told (9 ∷ []) kinds.NestLoop 22
nested = refl

-- two modules in each other
pub nested_in_two : tree_fault (project (block Module (nm 8 7) None (make (nm 9 14) (nm 7 22) ∷ []) ∷ block Module (nm 7 30) None (make (nm 10 34) (nm 8 42) ∷ []) ∷ [])) ample (Some 0)
    ≡ told (10 ∷ 9 ∷ []) kinds.NestLoop 42
nested_in_two = refl

-- one that is not around the root: M in M, below Top
pub nested_below : tree_fault (project (block Module (nm 8 7) None (make (nm 9 14) (nm 7 22) ∷ []) ∷ block Module (nm 7 30) None (make (nm 10 34) (nm 7 42) ∷ []) ∷ [])) ample (Some 0)
    ≡ told (10 ∷ 9 ∷ []) kinds.NestLoop 42
nested_below = refl

-- It counts what the instance is, and not what its `new` says: Top from M with `m = new M` and `m -> Top`, or with no replacement.
abbrev over : List Stmt → List SourceFile
over more = project (block Module (nm 7 1) None [] ∷ block Module (nm 8 10) (Some (nm 7 11)) (make (nm 10 20) (nm 7 21) ∷ more) ∷ [])

pub nested_by_replacement : tree_fault (over (replace (nm 10 22 ∷ []) (nm 8 23) ∷ [])) ample (Some 1) ≡ told (10 ∷ []) kinds.NestLoop 21
nested_by_replacement = refl

pub ancestor_inside : tree_fault (over []) ample (Some 1) ≡ None
ancestor_inside = refl

-- two of one type beside each other are none around each other
pub beside : tree_fault (project (block Module (nm 7 1) None [] ∷ block Module (nm 8 10) None (make (nm 9 20) (nm 7 21) ∷ make (nm 10 22) (nm 7 23) ∷ []) ∷ [])) ample (Some 1) ≡ None
beside = refl

-- ---- three parts

abbrev pub three : List SourceFile
three = project (block Component (nm 5 1) None (signal_and_pin (nm 11 2) ∷ [])
    ∷ block Module (nm 8 50) None (make (nm 3 51) (nm 5 52) ∷ make (nm 4 54) (nm 5 55) ∷ make (nm 6 57) (nm 5 58)
    ∷ connect (dotted (nm 3 60 ∷ nm 11 61 ∷ [])) (dotted (nm 4 62 ∷ nm 11 63 ∷ [])) ∷ []) ∷ [])

pub three_nodes : nodes three 1 ≡ made_at [] ∷ made_at (3 ∷ []) ∷ leaf (3 ∷ []) (named (nm 11 2) signal) ∷ leaf (3 ∷ []) (pin (codes "1"))
    ∷ made_at (4 ∷ []) ∷ leaf (4 ∷ []) (named (nm 11 2) signal) ∷ leaf (4 ∷ []) (pin (codes "1"))
    ∷ made_at (6 ∷ []) ∷ leaf (6 ∷ []) (named (nm 11 2) signal) ∷ leaf (6 ∷ []) (pin (codes "1")) ∷ []
three_nodes = refl

pub three_is_sound : tree_fault three ample (Some 1) ≡ None
three_is_sound = refl

pub three_entry : entry_block three table (codes "Top") ≡ Some 1
three_entry = refl

pub three_other_entry : entry_block three table (codes "C") ≡ Some 0
three_other_entry = refl

-- ---- the entry block

pub name_of_no_block : entry_block three table (codes "M") ≡ None
name_of_no_block = refl

pub no_name : entry_block three table (codes "X") ≡ None
no_name = refl

-- it is one of the entry file's own: M is imported there, and A is its own and not the other file's
pub imported_entry : entry_block (two_files (nm 5 42) [] []) table (codes "M") ≡ None
imported_entry = refl

pub own_entry : entry_block (two_files (nm 5 42) [] []) table (codes "A") ≡ Some 0
own_entry = refl

pub no_entry : tree_fault three ample None ≡ Some (fault_in [] kinds.NameUnknown (place.Word 1))
no_entry = refl

-- ---- occurrences

-- where an occurrence stands: its path, the block, the line and the place in the line
record Standing : Type 0 where
  path : List ℕ
  block : ℕ
  line : ℕ
  part : ℕ

abbrev standing : Occ → Standing
standing o = record { path = o.path; block = o.at.block; line = o.at.line; part = o.at.part }

abbrev at : List ℕ → ℕ → ℕ → ℕ → Standing
at path block line part = record { path = path; block = block; line = line; part = part }

-- A from C with a line of two statements, and Top with two of them
abbrev two_lines : List SourceFile
two_lines = project (block Component (nm 3 1) (Some (nm 5 2)) (signal_of (nm 10 3) ∷ [])
    ∷ item.Block (record { kind = Component; name = nm 5 10; parent = None; inline = true; lines = record { parts = pin_one ∷ signal_of (nm 11 11) ∷ []; tail = false } ∷ [] })
    ∷ block Module (nm 8 50) None (make (nm 9 51) (nm 3 52) ∷ pass ∷ make (nm 4 53) (nm 5 54) ∷ []) ∷ [])

-- by the instances in tree order, and then an ancestor's before a descendant's, though the descendant stands first in the file
pub in_written_order : map standing (occurrences two_lines 2) ≡ at [] 2 0 0 ∷ at [] 2 1 0 ∷ at [] 2 2 0
    ∷ at (9 ∷ []) 1 0 0 ∷ at (9 ∷ []) 1 0 1 ∷ at (9 ∷ []) 0 0 0 ∷ at (4 ∷ []) 1 0 0 ∷ at (4 ∷ []) 1 0 1 ∷ []
in_written_order = refl

-- an instance's statements come before those of the instances below it, and these before those of the next one beside it
pub below_before_beside : map standing (occurrences (project (block Module (nm 5 1) None (pass ∷ []) ∷ block Module (nm 7 10) None (make (nm 9 11) (nm 5 12) ∷ pass ∷ [])
    ∷ block Module (nm 8 50) None (make (nm 10 51) (nm 7 52) ∷ make (nm 4 53) (nm 5 54) ∷ []) ∷ [])) 2)
    ≡ at [] 2 0 0 ∷ at [] 2 1 0 ∷ at (10 ∷ []) 1 0 0 ∷ at (10 ∷ []) 1 1 0 ∷ at (9 ∷ 10 ∷ []) 0 0 0 ∷ at (4 ∷ []) 0 0 0 ∷ []
below_before_beside = refl

-- ---- members

-- in the order of first declarations: `s`, pin 1, `r`, `m`; `s` and pin 1 are declared once more, `m` first by its lineage's ancestor
pub first_declared : nodes (project (block Component (nm 5 1) None (signal_and_pin (nm 11 2) ∷ declare (nm 9 3) ∷ signal_and_pin (nm 11 4) ∷ declare (nm 10 5) ∷ [])
    ∷ block Component (nm 3 10) (Some (nm 5 11)) (declare (nm 10 12) ∷ signal_of (nm 4 13) ∷ pin_one ∷ []) ∷ [])) 1
    ≡ made_at [] ∷ leaf [] (named (nm 11 2) signal) ∷ leaf [] (pin (codes "1")) ∷ leaf [] (named (nm 9 3) param) ∷ leaf [] (named (nm 10 5) param) ∷ leaf [] (named (nm 4 13) signal) ∷ []
first_declared = refl

-- a parameter by assignment alone stands where it is first assigned to
pub by_assignment : (x : Expr) → nodes (project (block Module (nm 8 1) None (assign (dotted (nm 3 2 ∷ [])) (value.Expr x) ∷ signal_of (nm 11 3) ∷ assign (dotted (nm 3 4 ∷ [])) (value.Expr x) ∷ []) ∷ [])) 0
    ≡ made_at [] ∷ leaf [] (named (nm 3 2) param) ∷ leaf [] (named (nm 11 3) signal) ∷ []
by_assignment x = refl

-- one that is declared too stands where it is declared
pub declared_too : (x : Expr) → nodes (project (block Module (nm 8 1) None (assign (dotted (nm 3 2 ∷ [])) (value.Expr x) ∷ signal_of (nm 11 3) ∷ declare (nm 3 4) ∷ []) ∷ [])) 0
    ≡ made_at [] ∷ leaf [] (named (nm 11 3) signal) ∷ leaf [] (named (nm 3 4) param) ∷ []
declared_too x = refl

-- one that an ancestor assigns to and a descendant declares
pub declared_below : (x : Expr) → nodes (project (block Module (nm 7 1) None (assign (dotted (nm 3 2 ∷ [])) (value.Expr x) ∷ []) ∷ block Module (nm 8 10) (Some (nm 7 11)) (signal_of (nm 11 13) ∷ declare (nm 3 14) ∷ []) ∷ [])) 1
    ≡ made_at [] ∷ leaf [] (named (nm 11 13) signal) ∷ leaf [] (named (nm 3 14) param) ∷ []
declared_below x = refl

-- strings, and quantities behind a longer path, declare nothing
pub no_member_by_text : (x : Expr) → members (project (block Module (nm 8 1) None (assign (dotted (nm 3 2 ∷ [])) (text 3 1) ∷ assign (dotted (nm 3 4 ∷ nm 4 5 ∷ [])) (value.Expr x) ∷ []) ∷ [])) (Some 0) ≡ []
no_member_by_text x = refl

-- Pins and names have spaces of their own: `pin s` and `signal s`; `pin s` and `pin "s"` are one.
abbrev pins_and_names : List SourceFile
pins_and_names = written (codes "s\"s\"") (block Component (nm 5 10) None (stmt.Point (point.Pin (label.Name (nm 11 0)) (span 1 80 84)) None (span 1 80 84)
    ∷ signal_of (nm 11 12) ∷ stmt.Point (point.Pin (label.Text (quoted 1 1 1)) (span 1 80 84)) None (span 1 80 84) ∷ []) ∷ [])

pub two_spaces : members pins_and_names (Some 0) ≡ pin (codes "s") ∷ named (nm 11 12) signal ∷ []
two_spaces = refl

-- ends of connections declare: `a ~ signal b`
pub declared_end : members (project (block Module (nm 8 1) None (signal_of (nm 3 2) ∷ stmt.Connect (dotted (nm 3 3 ∷ [])) (end.Point (point.Signal (nm 4 5) (span 1 80 84))) (span 1 80 84) ∷ []) ∷ [])) (Some 0)
    ≡ named (nm 3 2) signal ∷ named (nm 4 5) signal ∷ []
declared_end = refl

-- nothing has no members
pub no_type_no_members : members three None ≡ []
no_type_no_members = refl

-- ---- kinds of types

-- a component above makes a component; else a module is a module
pub component_above : type_kind (project (block Component (nm 5 1) None [] ∷ block Module (nm 7 10) (Some (nm 5 11)) [] ∷ [])) 1 ≡ node.Component
component_above = refl

pub component_below : type_kind (project (block Module (nm 5 1) None [] ∷ block Component (nm 7 10) (Some (nm 5 11)) [] ∷ [])) 1 ≡ node.Component
component_below = refl

pub module_kind : type_kind (project (block Component (nm 5 1) None [] ∷ block Module (nm 7 10) None [] ∷ [])) 1 ≡ node.Module
module_kind = refl

pub interface_kind : type_kind (project (block Interface (nm 5 1) None [] ∷ block Interface (nm 7 10) (Some (nm 5 11)) [] ∷ [])) 1 ≡ node.Interface
interface_kind = refl

-- ---- limits

abbrev limits : ℕ → ℕ → Limits
limits nodes occurrences = record { nodes = nodes; occurrences = occurrences }

-- ten nodes, and seven occurrences: three of them those of parts
pub just_enough : tree_fault three (limits 10 7) (Some 1) ≡ None
just_enough = refl

-- at the last part, in tree order, with all its own nodes and occurrences
pub one_node_more : tree_fault three (limits 9 7) (Some 1) ≡ told (6 ∷ []) kinds.TreeTooLarge 58
one_node_more = refl

pub one_occurrence_more : tree_fault three (limits 10 6) (Some 1) ≡ told (6 ∷ []) kinds.TreeTooLarge 58
one_occurrence_more = refl

pub three_nodes_more : tree_fault three (limits 7 7) (Some 1) ≡ told (6 ∷ []) kinds.TreeTooLarge 58
three_nodes_more = refl

pub four_nodes_more : tree_fault three (limits 6 7) (Some 1) ≡ told (4 ∷ []) kinds.TreeTooLarge 55
four_nodes_more = refl

-- the root alone has one node, and four occurrences
pub root_fits : tree_fault three (limits 1 4) (Some 1) ≡ told (3 ∷ []) kinds.TreeTooLarge 52
root_fits = refl

pub root_is_too_large : tree_fault three (limits 0 7) (Some 1) ≡ Some (fault_in [] kinds.TreeTooLarge (place.Word 1))
root_is_too_large = refl

pub root_has_too_many : tree_fault three (limits 10 3) (Some 1) ≡ Some (fault_in [] kinds.TreeTooLarge (place.Word 1))
root_has_too_many = refl

pub counted_nodes : sum_by (own_nodes three 1) (instances three 1) ≡ 10
counted_nodes = refl

pub counted_occurrences : sum_by (own_occs three 1) (instances three 1) ≡ 7
counted_occurrences = refl

-- ---- the order of faults

-- at one instance: a replacement, then a loop, then the limit
abbrev all_three : Named → List SourceFile
all_three type = project (block Module (nm 8 7) None (make (nm 9 14) (nm 8 22) ∷ replace (nm 9 23 ∷ []) type ∷ []) ∷ block Module (nm 7 30) None [] ∷ block Module (nm 6 40) (Some (nm 8 41)) [] ∷ [])

pub replacement_first : tree_fault (project (block Module (nm 8 7) None (make (nm 9 14) (nm 7 22) ∷ replace (nm 9 23 ∷ []) (nm 8 24) ∷ []) ∷ block Module (nm 7 30) None [] ∷ [])) (limits 1 100) (Some 0)
    ≡ told (9 ∷ []) kinds.NotSpecial 24
replacement_first = refl

pub loop_then : tree_fault (all_three (nm 8 24)) (limits 1 100) (Some 0) ≡ told (9 ∷ []) kinds.NestLoop 22
loop_then = refl

pub limit_last : tree_fault (project (block Module (nm 8 7) None (make (nm 9 14) (nm 7 22) ∷ []) ∷ block Module (nm 7 30) None [] ∷ [])) (limits 1 100) (Some 0) ≡ told (9 ∷ []) kinds.TreeTooLarge 22
limit_last = refl

-- a fault has the names from the root on
pub names_of_a_fault : shown (9 ∷ 10 ∷ []) ≡ record { 0 = 10 } ∷ record { 0 = 9 } ∷ []
names_of_a_fault = refl

-- between instances: the earlier in tree order, whatever stands earlier in the source
pub in_tree_order : tree_fault (project (block Module (nm 8 40) None (make (nm 10 41) (nm 7 42) ∷ make (nm 9 43) (nm 8 44) ∷ []) ∷ block Module (nm 7 50) None (make (nm 9 51) (nm 7 52) ∷ []) ∷ [])) ample (Some 0)
    ≡ told (9 ∷ 10 ∷ []) kinds.NestLoop 52
in_tree_order = refl
