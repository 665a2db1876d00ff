-- Worked rows of the faults of paths in expressions, and of expressions that are assigned to attributes of parts.
use Rattle.std.proofs.Common.{◌≡◌, ℕ, true, false, List, [], ◌∷◌, Option, Some, None, refl, ◌∙◌}
use Rattle.ato_base.specs.declared.places.Span.{Span}
use Rattle.ato_base.specs.declared.places.Place.TheVariants as place
use Rattle.ato_base.specs.declared.faults.Fault.{Fault}
use Rattle.ato_base.specs.declared.faults.FaultKind.TheVariants as kinds
use Rattle.ato_ast.specs.declared.names.Named.{Named}
use Rattle.ato_ast.specs.declared.blocks.BlockKind.TheVariants.{Module, Component}
use Rattle.ato_ast.specs.declared.exprs.Choice.{Choice}
use Rattle.ato_ast.specs.declared.exprs.Sign.{Sign}
use Rattle.ato_ast.specs.declared.exprs.Literal.TheVariants as literal
use Rattle.ato_ast.specs.declared.exprs.Expr.{Expr}
use Rattle.ato_ast.specs.declared.exprs.Expr.TheVariants as exprs
use Rattle.ato_ast.specs.declared.stmts.Compare.TheVariants as compare
use Rattle.ato_ast.specs.declared.stmts.Comparison.{Comparison}
use Rattle.ato_ast.specs.declared.stmts.Stmt.{Stmt}
use Rattle.ato_ast.specs.declared.stmts.Stmt.TheVariants as stmt
use Rattle.ato_ast.specs.declared.stmts.Value.TheVariants as value
use Rattle.ato_files.proofs.Written.{span, nm, block}
use Rattle.ato_instance_tree.specs.Exprs.{expr_front, is_literal}
use Rattle.ato_instance_tree.specs.PathFaults.{path_fault}
use Rattle.ato_instance_tree.specs.TreeFaults.{fault_in}
use Rattle.ato_instance_tree.proofs.ExprLaws as laws
use Rattle.ato_instance_tree.proofs.Written.{project, dotted, make, declare, declare_as, assign, text}
use Rattle.ato_instance_tree.proofs.PathRows.{keys, of_stmt, at_span, told, kind_is, one, literal_one}

-- ---- paths in expressions

abbrev named_expr : List Named → Expr
named_expr steps = exprs.Path (dotted steps)

-- `assert X < Y`
abbrev less : Expr → Expr → Stmt
less x y = stmt.Assert x (compare.Sides Comparison.Less y) (span 1 80 84)

-- `assert X within 1`
abbrev within : Expr → Stmt
within x = stmt.Assert x (compare.Within (literal.One (one false) ∷ [])) (span 1 80 84)

abbrev r_b : List Named
r_b = nm 9 58 ∷ nm 4 59 ∷ []

pub asserted_param : of_stmt (within (named_expr r_b)) ≡ None
asserted_param = rw (laws.path_paths (dotted r_b)) refl

pub asserted_signal : of_stmt (within (named_expr (nm 9 54 ∷ nm 11 55 ∷ []))) ≡ told kinds.WrongKind 55
asserted_signal = rw (laws.path_paths (dotted (nm 9 54 ∷ nm 11 55 ∷ []))) refl

pub asserted_nothing : of_stmt (within (named_expr (nm 9 54 ∷ nm 3 55 ∷ []))) ≡ told kinds.NoSuchMember 55
asserted_nothing = rw (laws.path_paths (dotted (nm 9 54 ∷ nm 3 55 ∷ []))) refl

pub compared_signal : of_stmt (less (named_expr r_b) (named_expr (nm 9 54 ∷ nm 11 55 ∷ []))) ≡ told kinds.WrongKind 55
compared_signal = rw (laws.path_paths (dotted r_b), laws.path_paths (dotted (nm 9 54 ∷ nm 11 55 ∷ []))) refl

-- the operands of a sum from left to right: the first one's fault, though the second one stands before it in the source
pub first_operand : of_stmt (within (exprs.Sum (named_expr (nm 9 54 ∷ nm 11 55 ∷ [])) ((Sign.Plus, named_expr (nm 3 20 ∷ [])) ∷ []) (span 1 50 60))) ≡ told kinds.WrongKind 55
first_operand = rw (laws.sum_paths (named_expr (nm 9 54 ∷ nm 11 55 ∷ [])) ((Sign.Plus, named_expr (nm 3 20 ∷ [])) ∷ []) (span 1 50 60), laws.path_paths (dotted (nm 9 54 ∷ nm 11 55 ∷ []))) refl

-- `r.B = r.A`, and `A: D = r.A`
pub assigned_nothing : of_stmt (assign (dotted r_b) (value.Expr (named_expr (nm 9 54 ∷ nm 3 55 ∷ [])))) ≡ told kinds.NoSuchMember 55
assigned_nothing = rw (laws.path_literal (dotted (nm 9 54 ∷ nm 3 55 ∷ [])), laws.path_paths (dotted (nm 9 54 ∷ nm 3 55 ∷ []))) refl

pub declared_as_nothing : of_stmt (declare_as (nm 3 53) (value.Expr (named_expr (nm 9 54 ∷ nm 3 55 ∷ [])))) ≡ told kinds.NoSuchMember 55
declared_as_nothing = rw (laws.path_literal (dotted (nm 9 54 ∷ nm 3 55 ∷ [])), laws.path_paths (dotted (nm 9 54 ∷ nm 3 55 ∷ []))) refl

-- ---- an expression that is no literal, for an attribute of a part: at its first token

-- with `kind = ".."` in the component, `r.B = X`
abbrev slotted : List Stmt → Expr → Option (ℕ × Fault)
slotted more x = path_fault (project (block Component (nm 5 1) None (declare (nm 4 4) ∷ more)
    ∷ block Module (nm 8 50) None (make (nm 9 51) (nm 5 52) ∷ assign (dotted r_b) (value.Expr x) ∷ []) ∷ [])) 1 keys

abbrev with_kind : List Stmt
with_kind = kind_is (text 3 1) ∷ []

no_attribute : (x : Expr) (at : Span) → is_literal x ≡ false → expr_front x ≡ at → slotted with_kind x ≡ at_span kinds.WrongKind at
no_attribute x at e f = rw (e, f) refl

pub literal_attribute : slotted with_kind literal_one ≡ None
literal_attribute = rw (laws.literal_literal (literal.One (one false)) (span 1 69 71)) refl

-- one byte for `(`, three for `abs`, `min` and `max`
pub group_attribute : (x : Expr) → slotted with_kind (exprs.Group x (span 1 60 70)) ≡ at_span kinds.WrongKind (span 1 60 61)
group_attribute x = no_attribute (exprs.Group x (span 1 60 70)) (span 1 60 61) (laws.group_literal x (span 1 60 70)) (laws.group_front x (span 1 60 70))

pub abs_attribute : (x : Expr) → slotted with_kind (exprs.Abs x (span 1 60 70)) ≡ at_span kinds.WrongKind (span 1 60 63)
abs_attribute x = no_attribute (exprs.Abs x (span 1 60 70)) (span 1 60 63) (laws.abs_literal x (span 1 60 70)) (laws.abs_front x (span 1 60 70))

pub choice_attribute : (f : Choice) (x : Expr) (more : List Expr) → slotted with_kind (exprs.Choice f x more (span 1 60 70)) ≡ at_span kinds.WrongKind (span 1 60 63)
choice_attribute f x more = no_attribute (exprs.Choice f x more (span 1 60 70)) (span 1 60 63) (laws.choice_literal f x more (span 1 60 70)) (laws.choice_front f x more (span 1 60 70))

-- a sum begins where its first operand does: a minus sign, a number or the first name of a path
abbrev sum_of : Expr → Expr
sum_of first = exprs.Sum first [] (span 1 60 90)

pub sum_attribute : (x : Expr) (at : Span) → expr_front x ≡ at → slotted with_kind (sum_of x) ≡ at_span kinds.WrongKind at
sum_attribute x at e = no_attribute (sum_of x) at (laws.sum_literal x [] (span 1 60 90)) (laws.sum_front x [] (span 1 60 90) ∙ e)

pub signed_attribute : slotted with_kind (sum_of (exprs.Literal (literal.One (one true)) (span 1 69 71))) ≡ at_span kinds.WrongKind (span 1 69 70)
signed_attribute = sum_attribute (exprs.Literal (literal.One (one true)) (span 1 69 71)) (span 1 69 70) (laws.literal_expr_front (literal.One (one true)) (span 1 69 71))

pub unsigned_attribute : slotted with_kind (sum_of literal_one) ≡ at_span kinds.WrongKind (span 1 70 71)
unsigned_attribute = sum_attribute literal_one (span 1 70 71) (laws.literal_expr_front (literal.One (one false)) (span 1 69 71))

pub path_attribute : slotted with_kind (sum_of (named_expr r_b)) ≡ at_span kinds.WrongKind (span 1 58 59)
path_attribute = sum_attribute (named_expr r_b) (span 1 58 59) (laws.path_front (dotted r_b))

-- it is told before what is wrong with the paths in it, and behind what is wrong with the target
pub before_its_paths : slotted with_kind (named_expr (nm 3 54 ∷ [])) ≡ at_span kinds.WrongKind (span 1 54 55)
before_its_paths = no_attribute (named_expr (nm 3 54 ∷ [])) (span 1 54 55) (laws.path_literal (dotted (nm 3 54 ∷ []))) (laws.path_front (dotted (nm 3 54 ∷ [])))

-- a part without `kind` takes expressions, and so does a module with it
pub no_slot_takes : slotted [] (named_expr r_b) ≡ None
no_slot_takes = rw (laws.path_literal (dotted r_b), laws.path_paths (dotted r_b)) refl

-- `B: D = (X)` in a component with `kind`, which is an attribute of itself
pub own_attribute : (x : Expr) → path_fault (project (block Component (nm 5 1) None (declare_as (nm 4 4) (value.Expr (exprs.Group x (span 1 60 70))) ∷ with_kind) ∷ [])) 0 keys
    ≡ Some (0, fault_in [] kinds.WrongKind (place.Source (span 1 60 61)))
own_attribute x = rw (laws.group_literal x (span 1 60 70), laws.group_front x (span 1 60 70)) refl
