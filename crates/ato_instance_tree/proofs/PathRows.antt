-- Worked rows of assignments that count and of the faults of paths, on projects written by hand.
use Rattle.std.proofs.Common.{◌≡◌, ◌+◌, ℕ, Bool, true, false, List, [], ◌∷◌, Option, Some, None, codes, refl}
use Rattle.std.specs.Option.{option_map}
use Rattle.ato_base.specs.declared.places.Span.{Span}
use Rattle.ato_base.specs.declared.places.Place.TheVariants as place
use Rattle.ato_base.specs.declared.faults.Fault.{Fault}
use Rattle.ato_base.specs.declared.faults.FaultKind.{FaultKind}
use Rattle.ato_base.specs.declared.faults.FaultKind.TheVariants as kinds
use Rattle.ato_ast.specs.declared.names.Quoted.{Quoted}
use Rattle.ato_ast.specs.declared.paths.Path.{Path}
use Rattle.ato_ast.specs.declared.paths.Point.TheVariants as point
use Rattle.ato_ast.specs.declared.blocks.BlockKind.{BlockKind}
use Rattle.ato_ast.specs.declared.blocks.BlockKind.TheVariants.{Module, Component}
use Rattle.ato_ast.specs.declared.exprs.Part.{Part}
use Rattle.ato_ast.specs.declared.exprs.Literal.TheVariants as literal
use Rattle.ato_ast.specs.declared.exprs.Expr.{Expr}
use Rattle.ato_ast.specs.declared.exprs.Expr.TheVariants as exprs
use Rattle.ato_ast.specs.declared.stmts.End.TheVariants as end
use Rattle.ato_ast.specs.declared.stmts.Stmt.{Stmt}
use Rattle.ato_ast.specs.declared.stmts.Stmt.TheVariants as stmt
use Rattle.ato_ast.specs.declared.stmts.Value.{Value}
use Rattle.ato_ast.specs.declared.stmts.Value.TheVariants as value
use Rattle.ato_files.specs.declared.program.SourceFile.{SourceFile}
use Rattle.ato_files.proofs.Written.{span, nm, quoted, block}
use Rattle.ato_instance_tree.specs.Walk.{effective}
use Rattle.ato_instance_tree.specs.PathFaults.{Keys, keys_of, string_at, is_slot, path_fault}
use Rattle.ato_instance_tree.specs.TreeFaults.{fault_in}
use Rattle.ato_instance_tree.proofs.ExprLaws as laws
use Rattle.ato_instance_tree.proofs.Written.{table, written, project, dotted, pin_path, digit, make, replace, declare, declare_as, signal_and_pin, connect, assign, text, truth}

abbrev pub keys : Keys
keys = keys_of table

-- `kind` is name 12 and `designator_prefix` name 13; a project without them has no such names
pub keys_found : keys ≡ record { kind = Some 12; prefix = Some 13 }
keys_found = refl

pub keys_missing : keys_of (codes "abs" ∷ codes "kinds" ∷ []) ≡ record { kind = None; prefix = None }
keys_missing = refl

-- ---- assignments: the last of those around counts, inner blocks before outer, ancestors before descendants, in source order

-- C with an assignment to its `x`, and M from N, with `r = new C`; both may have more, and so may Top, with `m = new M`. `x` is name 13.
abbrev layers : List Stmt → List Stmt → List Stmt → List Stmt → List SourceFile
layers own above inside outside = project (block Component (nm 5 1) None own
    ∷ block Module (nm 4 10) None (make (nm 9 11) (nm 5 12) ∷ above)
    ∷ block Module (nm 7 20) (Some (nm 4 21)) inside
    ∷ block Module (nm 8 50) None (make (nm 10 51) (nm 7 52) ∷ outside) ∷ [])

abbrev x_of : List Stmt → List Stmt → List Stmt → List Stmt → Option Quoted
x_of own above inside outside = string_at (layers own above inside outside) 3 13 (9 ∷ 10 ∷ [])

abbrev own_x : ℕ → List Stmt
own_x at = assign (dotted (nm 13 2 ∷ [])) (text at 1) ∷ []

abbrev r_x : ℕ → List Stmt
r_x at = assign (dotted (nm 9 2 ∷ nm 13 3 ∷ [])) (text at 1) ∷ []

abbrev m_r_x : ℕ → List Stmt
m_r_x at = assign (dotted (nm 10 2 ∷ nm 9 3 ∷ nm 13 4 ∷ [])) (text at 1) ∷ []

pub nothing_assigned : x_of [] [] [] [] ≡ None
nothing_assigned = refl

pub own_alone : x_of (own_x 61) [] [] [] ≡ Some (quoted 1 61 1)
own_alone = refl

pub last_of_two : x_of (assign (dotted (nm 13 2 ∷ [])) (text 61 1) ∷ own_x 64) [] [] [] ≡ Some (quoted 1 64 1)
last_of_two = refl

pub around_over_own : x_of (own_x 61) (r_x 64) [] [] ≡ Some (quoted 1 64 1)
around_over_own = refl

pub descendant_over_ancestor : x_of (own_x 61) (r_x 64) (r_x 67) [] ≡ Some (quoted 1 67 1)
descendant_over_ancestor = refl

pub outermost_over_all : x_of (own_x 61) (r_x 64) (r_x 67) (m_r_x 70) ≡ Some (quoted 1 70 1)
outermost_over_all = refl

-- A path is that of the statement's own instance: `m.r.x` inside M, and `r.x` in Top, are others.
pub other_paths : x_of (own_x 61) [] (m_r_x 67) (r_x 70) ≡ Some (quoted 1 61 1)
other_paths = refl

-- A truth value has no effect, a quantity has; a path that ends in a pin's number assigns to no name.
pub truth_counts_not : x_of (own_x 61) (assign (dotted (nm 9 2 ∷ nm 13 3 ∷ [])) (truth 64) ∷ []) [] [] ≡ Some (quoted 1 61 1)
truth_counts_not = refl

pub quantity_counts : (x : Expr) → x_of (own_x 61) (assign (dotted (nm 9 2 ∷ nm 13 3 ∷ [])) (value.Expr x) ∷ []) [] [] ≡ None
quantity_counts x = refl

pub pin_counts_not : x_of (own_x 61) (assign (pin_path (nm 9 2 ∷ nm 13 3 ∷ []) 0) (text 64 1) ∷ []) [] [] ≡ Some (quoted 1 61 1)
pin_counts_not = refl

-- What is declared with a value is assigned; without one, or with a truth value, it is not.
pub declared_value : option_map (λ o. o.at.line) (effective (layers (declare_as (nm 13 2) (text 61 1) ∷ declare (nm 13 4) ∷ declare_as (nm 13 6) (truth 70) ∷ []) [] [] []) 3 13 (9 ∷ 10 ∷ [])) ≡ Some 0
declared_value = refl

-- a string on a parameter, which is a fault, is none that counts
pub string_of_a_param : x_of (declare_as (nm 13 2) (text 61 1) ∷ []) [] [] [] ≡ None
string_of_a_param = refl

-- the block of the statement that assigns: that of M, a descendant of N
pub who_assigns : option_map (λ o. o.at.block) (effective (layers (own_x 61) (r_x 64) (r_x 67) []) 3 13 (9 ∷ 10 ∷ [])) ≡ Some 2
who_assigns = refl

-- ---- slots

abbrev kind_of : BlockKind → List Stmt → List SourceFile
kind_of which stmts = project (block which (nm 5 1) None stmts ∷ [])

abbrev pub kind_is : Value → Stmt
kind_is v = assign (dotted (nm 12 2 ∷ [])) v

pub slot : is_slot (kind_of Component (kind_is (text 3 1) ∷ [])) 0 (Some 12) [] ≡ true
slot = refl

-- an empty string is one
pub empty_kind : is_slot (kind_of Component (kind_is (text 3 0) ∷ [])) 0 (Some 12) [] ≡ true
empty_kind = refl

pub still_slot : is_slot (kind_of Component (kind_is (text 3 1) ∷ kind_is (truth 5) ∷ [])) 0 (Some 12) [] ≡ true
still_slot = refl

pub slot_no_more : (x : Expr) → is_slot (kind_of Component (kind_is (text 3 1) ∷ kind_is (value.Expr x) ∷ [])) 0 (Some 12) [] ≡ false
slot_no_more x = refl

pub module_is_no_slot : is_slot (kind_of Module (kind_is (text 3 1) ∷ [])) 0 (Some 12) [] ≡ false
module_is_no_slot = refl

-- a string on another member of this name makes none
pub kind_is_a_param : is_slot (kind_of Component (declare (nm 12 2) ∷ kind_is (text 3 1) ∷ [])) 0 (Some 12) [] ≡ false
kind_is_a_param = refl

pub without_kind : is_slot (kind_of Component []) 0 (Some 12) [] ≡ false
without_kind = refl

pub without_the_name : is_slot (kind_of Component (kind_is (text 3 1) ∷ [])) 0 None [] ≡ false
without_the_name = refl

-- ---- faults of paths: C with a signal `s`, pin 1 and a parameter `B`; Top with `r = new C` and one statement, its occurrence 1

abbrev beside : Stmt → List SourceFile
beside s = written (codes "12") (block Component (nm 5 1) None (signal_and_pin (nm 11 2) ∷ declare (nm 4 4) ∷ [])
    ∷ block Module (nm 8 50) None (make (nm 9 51) (nm 5 52) ∷ s ∷ []) ∷ [])

abbrev pub of_stmt : Stmt → Option (ℕ × Fault)
of_stmt s = path_fault (beside s) 1 keys

abbrev of_stmts : List Stmt → Option (ℕ × Fault)
of_stmts stmts = path_fault (written (codes "12") (block Component (nm 5 1) None (signal_and_pin (nm 11 2) ∷ declare (nm 4 4) ∷ [])
    ∷ block Module (nm 8 50) None (make (nm 9 51) (nm 5 52) ∷ stmts) ∷ [])) 1 keys

abbrev pub at_span : FaultKind → Span → Option (ℕ × Fault)
at_span kind at = Some (1, fault_in [] kind (place.Source at))

abbrev pub told : FaultKind → ℕ → Option (ℕ × Fault)
told kind at = at_span kind (span 1 at (at + 1))

abbrev r_s : Path
r_s = dotted (nm 9 58 ∷ nm 11 59 ∷ [])

-- `r.s ~ r.s`
pub no_fault : of_stmt (connect r_s r_s) ≡ None
no_fault = refl

-- `A.s ~ r.s`, `r.A ~ r.s`, `r.A.s ~ r.s`, and on the right
pub first_name : of_stmt (connect (dotted (nm 3 54 ∷ nm 11 55 ∷ [])) r_s) ≡ told kinds.NoSuchMember 54
first_name = refl

pub last_name : of_stmt (connect (dotted (nm 9 54 ∷ nm 3 55 ∷ [])) r_s) ≡ told kinds.NoSuchMember 55
last_name = refl

pub middle_name : of_stmt (connect (dotted (nm 9 54 ∷ nm 3 55 ∷ nm 11 56 ∷ [])) r_s) ≡ told kinds.NoSuchMember 55
middle_name = refl

pub on_the_right : of_stmt (connect r_s (dotted (nm 9 60 ∷ nm 3 61 ∷ []))) ≡ told kinds.NoSuchMember 61
on_the_right = refl

-- the left one first
pub on_both_sides : of_stmt (connect (dotted (nm 9 54 ∷ nm 3 55 ∷ [])) (dotted (nm 3 60 ∷ []))) ≡ told kinds.NoSuchMember 55
on_both_sides = refl

-- Signals and parameters have no members: `r.s.s ~ r.s`, `r.B.s ~ r.s`
pub past_signal : of_stmt (connect (dotted (nm 9 54 ∷ nm 11 55 ∷ nm 11 56 ∷ [])) r_s) ≡ told kinds.NoSuchMember 56
past_signal = refl

pub past_param : of_stmt (connect (dotted (nm 9 54 ∷ nm 4 55 ∷ nm 11 56 ∷ [])) r_s) ≡ told kinds.NoSuchMember 56
past_param = refl

-- an end that is a parameter, on either side; an instance is none
pub end_is_param : of_stmt (connect r_s (dotted (nm 9 60 ∷ nm 4 61 ∷ []))) ≡ told kinds.WrongKind 61
end_is_param = refl

pub left_end_is_param : of_stmt (connect (dotted (nm 9 54 ∷ nm 4 55 ∷ [])) r_s) ≡ told kinds.WrongKind 55
left_end_is_param = refl

pub end_is_instance : of_stmt (connect (dotted (nm 9 54 ∷ [])) r_s) ≡ None
end_is_instance = refl

-- `signal A ~ r.A`, and `r.s ~ signal A`, which declares its end
pub behind_a_point : of_stmt (stmt.Point (point.Signal (nm 3 54) (span 1 80 84)) (Some (end.Path (dotted (nm 9 56 ∷ nm 3 57 ∷ [])))) (span 1 80 84)) ≡ told kinds.NoSuchMember 57
behind_a_point = refl

pub declared_end : of_stmt (stmt.Connect r_s (end.Point (point.Signal (nm 3 56) (span 1 80 84))) (span 1 80 84)) ≡ None
declared_end = refl

-- ---- paths that end in the number of a pin

pub pin_by_number : of_stmt (connect (pin_path (nm 9 54 ∷ []) 0) r_s) ≡ None
pin_by_number = refl

pub no_such_pin : of_stmt (connect (pin_path (nm 9 54 ∷ []) 1) r_s) ≡ told kinds.NoSuchMember 1
no_such_pin = refl

pub pin_of_nothing : of_stmt (connect (pin_path (nm 3 54 ∷ []) 0) r_s) ≡ told kinds.NoSuchMember 54
pin_of_nothing = refl

pub pin_of_a_signal : of_stmt (connect (pin_path (nm 9 54 ∷ nm 11 55 ∷ []) 0) r_s) ≡ told kinds.NoSuchMember 0
pin_of_a_signal = refl

pub pin_of_a_param : of_stmt (connect (pin_path (nm 9 54 ∷ nm 4 55 ∷ []) 0) r_s) ≡ told kinds.NoSuchMember 0
pin_of_a_param = refl

-- it is no instance, no parameter and no name for a string, which stands at the last name
pub pin_replaced : of_stmt (stmt.Replace (pin_path (nm 9 54 ∷ []) 0) (nm 5 56) (span 1 80 84)) ≡ told kinds.WrongKind 54
pin_replaced = refl

pub no_pin_replaced : of_stmt (stmt.Replace (pin_path (nm 9 54 ∷ []) 1) (nm 5 56) (span 1 80 84)) ≡ told kinds.NoSuchMember 1
no_pin_replaced = refl

pub string_to_pin : of_stmt (assign (pin_path (nm 9 54 ∷ []) 0) (text 57 1)) ≡ told kinds.WrongKind 54
string_to_pin = refl

-- ---- replacements

pub replaced_instance : of_stmt (replace (nm 9 54 ∷ []) (nm 5 56)) ≡ None
replaced_instance = refl

pub replaced_signal : of_stmt (replace (nm 9 54 ∷ nm 11 55 ∷ []) (nm 5 56)) ≡ told kinds.WrongKind 55
replaced_signal = refl

pub replaced_param : of_stmt (replace (nm 9 54 ∷ nm 4 55 ∷ []) (nm 5 56)) ≡ told kinds.WrongKind 55
replaced_param = refl

pub replaced_nothing : of_stmt (replace (nm 9 54 ∷ nm 3 55 ∷ []) (nm 5 56)) ≡ told kinds.NoSuchMember 55
replaced_nothing = refl

-- ---- strings and truth values

pub string_to_name : of_stmt (assign (dotted (nm 9 54 ∷ nm 3 55 ∷ [])) (text 57 1)) ≡ None
string_to_name = refl

pub string_to_signal : of_stmt (assign (dotted (nm 9 54 ∷ nm 11 55 ∷ [])) (text 57 1)) ≡ told kinds.WrongKind 55
string_to_signal = refl

pub string_to_param : of_stmt (assign (dotted (nm 9 54 ∷ nm 4 55 ∷ [])) (text 57 1)) ≡ told kinds.WrongKind 55
string_to_param = refl

pub string_to_instance : of_stmt (assign (dotted (nm 9 54 ∷ [])) (text 57 1)) ≡ told kinds.WrongKind 54
string_to_instance = refl

pub string_to_nothing : of_stmt (assign (dotted (nm 3 54 ∷ nm 3 55 ∷ [])) (text 57 1)) ≡ told kinds.NoSuchMember 54
string_to_nothing = refl

pub truth_to_name : of_stmt (assign (dotted (nm 9 54 ∷ nm 3 55 ∷ [])) (truth 57)) ≡ None
truth_to_name = refl

pub truth_to_param : of_stmt (assign (dotted (nm 9 54 ∷ nm 4 55 ∷ [])) (truth 57)) ≡ told kinds.WrongKind 55
truth_to_param = refl

-- a declared parameter
pub string_declared : of_stmt (declare_as (nm 3 54) (text 57 1)) ≡ told kinds.WrongKind 54
string_declared = refl

pub truth_declared : of_stmt (declare_as (nm 3 54) (truth 57)) ≡ told kinds.WrongKind 54
truth_declared = refl

-- ---- quantities

abbrev pub one : Bool → Part
one minus = record { minus = minus; number = digit 70; unit = None; at = span 1 69 71 }

abbrev pub literal_one : Expr
literal_one = exprs.Literal (literal.One (one false)) (span 1 69 71)

pub literal_to_param : of_stmt (assign (dotted (nm 9 54 ∷ nm 4 55 ∷ [])) (value.Expr literal_one)) ≡ None
literal_to_param = rw (laws.literal_literal (literal.One (one false)) (span 1 69 71)) refl

pub literal_declared : of_stmt (declare_as (nm 3 54) (value.Expr literal_one)) ≡ None
literal_declared = rw (laws.literal_literal (literal.One (one false)) (span 1 69 71)) refl

pub makes_a_param : of_stmt (assign (dotted (nm 3 54 ∷ [])) (value.Expr literal_one)) ≡ None
makes_a_param = rw (laws.literal_literal (literal.One (one false)) (span 1 69 71)) refl

pub quantity_to_signal : (x : Expr) → of_stmt (assign (dotted (nm 9 54 ∷ nm 11 55 ∷ [])) (value.Expr x)) ≡ told kinds.WrongKind 55
quantity_to_signal x = refl

pub quantity_to_instance : (x : Expr) → of_stmt (assign (dotted (nm 9 54 ∷ [])) (value.Expr x)) ≡ told kinds.WrongKind 54
quantity_to_instance x = refl

pub quantity_to_pin : (x : Expr) → of_stmt (assign (pin_path (nm 9 54 ∷ []) 0) (value.Expr x)) ≡ told kinds.WrongKind 54
quantity_to_pin x = refl

pub quantity_to_nothing : (x : Expr) → of_stmt (assign (dotted (nm 9 54 ∷ nm 3 55 ∷ [])) (value.Expr x)) ≡ told kinds.NoSuchMember 55
quantity_to_nothing x = refl

-- ---- the order of faults

-- the earlier statement, whatever stands earlier in the source
pub earlier_statement : of_stmts (connect (dotted (nm 9 70 ∷ nm 3 71 ∷ [])) r_s ∷ connect (dotted (nm 3 54 ∷ [])) r_s ∷ []) ≡ told kinds.NoSuchMember 71
earlier_statement = refl
