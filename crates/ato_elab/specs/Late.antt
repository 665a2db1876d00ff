-- What is wrong with an occurrence, without the path of its instance. Only private functions have clauses in these words.
use Rattle.std.specs.Prelude.{ℕ, suc, Bool, true, false, ◌&&◌, ◌==◌, not, List, [], ◌∷◌, ◌++◌, Option, Some, None, is_some, is_none, slice_get, if◌then◌else◌}
use Rattle.std.specs.Option.{option_and_then, option_map, option_or}
use Rattle.ato_base.specs.declared.name_table.Name.{Name}
use Rattle.ato_ast.specs.declared.names.Named.{Named}
use Rattle.ato_ast.specs.declared.names.Quoted.{Quoted}
use Rattle.ato_ast.specs.declared.paths.Path.{Path}
use Rattle.ato_ast.specs.declared.exprs.Expr.{Expr}
use Rattle.ato_ast.specs.declared.stmts.End.{End}
use Rattle.ato_ast.specs.declared.stmts.End.TheVariants as end
use Rattle.ato_ast.specs.declared.stmts.Value.{Value}
use Rattle.ato_ast.specs.declared.stmts.Value.TheVariants as value
use Rattle.ato_ast.specs.declared.stmts.Stmt.{Stmt}
use Rattle.ato_ast.specs.declared.stmts.Stmt.TheVariants as stmt
use Rattle.ato_instance_tree.specs.declared.tree.NodeKind.{NodeKind}
use Rattle.ato_instance_tree.specs.declared.tree.NodeKind.TheVariants as node
use Rattle.ato_instance_tree.specs.declared.tree.Node.{Node}
use Rattle.ato_instance_tree.specs.declared.tree.Occurrence.{Occurrence}
use Rattle.ato_instance_tree.specs.Members.{source_text}
use Rattle.ato_instance_tree.specs.PathFaults.{string_of, is_prefix}
use Rattle.ato_instance_tree.specs.Exprs.{expr_paths, compared_paths, expr_front, is_literal}
use Rattle.ato_elab.specs.declared.faults.Mark.{Mark}
use Rattle.ato_elab.specs.declared.faults.Wanted.TheVariants as wanted
use Rattle.ato_elab.specs.declared.finding_names.Sort.TheVariants as sort
use Rattle.ato_elab.specs.declared.finding_paths.Found.{Found}
use Rattle.ato_elab.specs.declared.finding_paths.Found.TheVariants as found
use Rattle.ato_elab.specs.declared.late_ground.Ground.{Ground}
use Rattle.ato_elab.specs.Assigned.{assigned_to}
use Rattle.ato_elab.specs.Finding.{named_in}
use Rattle.ato_elab.specs.Ground.{found_in}
use Rattle.ato_elab.specs.Faults.{wrong, judged, text_judged}

-- ---- slots

-- the statement of the occurrence of a number
abbrev pub stmt_in : Ground → ℕ → Option Stmt
stmt_in g number = option_map (λ s. s.now) (slice_get g.stmts.now number)

-- the statement that assigns to a name of an instance
unfoldable pub assigning : Ground → ℕ → ℕ → Option Stmt
assigning g instance name = option_and_then (stmt_in g) (assigned_to g.assigned.now instance name)

-- the string that counts for a name of an instance, if the name is no member of it
unfoldable pub string_in : Ground → ℕ → ℕ → Option Quoted
string_in g instance name = if is_none (named_in g.built.now instance name) then option_and_then string_of (assigning g instance name) else None

abbrev pub kind_is_component : NodeKind → Bool
kind_is_component node.Component = true
kind_is_component _ = false

abbrev pub some_component : Option Node → Bool
some_component None = false
some_component (Some n) = kind_is_component n.kind

-- The node of a number is a component.
abbrev pub component_at : List Node → ℕ → Bool
component_at ns number = some_component (slice_get ns number)

-- The node of a number is a component with a string for `kind`.
unfoldable pub slot_in : Ground → ℕ → Bool
slot_in g number = component_at g.built.now.nodes number && is_some (option_and_then (λ n. string_in g number n.0) g.kind)

-- ---- prefixes

abbrev pub same_entry : Occurrence → Occurrence → Bool
same_entry a b = (a.node == b.node) && (a.block == b.block) && (a.line == b.line) && (a.part == b.part)

abbrev pub same_entries : Option Occurrence → Option Occurrence → Bool
same_entries None b = false
same_entries (Some a) None = false
same_entries (Some a) (Some b) = same_entry a b

abbrev pub same_numbers : List Occurrence → ℕ → Option ℕ → Bool
same_numbers all number None = false
same_numbers all number (Some other) = same_entries (slice_get all number) (slice_get all other)

-- The occurrence of a number is the assignment that counts for a name of an instance.
unfoldable pub counts_in : Ground → ℕ → ℕ → ℕ → Bool
counts_in g number instance name = same_numbers g.built.now.occurrences number (assigned_to g.assigned.now instance name)

abbrev pub key_is : Option Name → Named → Bool
key_is None n = false
key_is (Some key) n = n.name.0 == key.0

-- what is wrong with a string that an occurrence assigns to a name of an instance
unfoldable pub prefix_in : Ground → ℕ → ℕ → Named → Quoted → Option Mark
prefix_in g number instance n text = if key_is g.prefix n && counts_in g number instance n.name.0 && not (is_prefix (source_text g.files.now text.contents))
    then Some (wrong text.at) else None

-- the same where a path leads
abbrev pub text_in : Ground → ℕ → Quoted → Found → Option Mark
text_in g number text (found.Free instance n) = prefix_in g number instance n text
text_in g number text (found.Lost at) = None
text_in g number text (found.Member instance n node s) = None
text_in g number text (found.Pin n) = None

-- ---- expressions

-- the first mark of paths that are to lead to parameters
unfoldable pub params_in : Ground → ℕ → List Path → Option Mark
params_in g instance [] = None
params_in g instance (p ∷ ps) = option_or (judged wanted.Param (found_in g instance p)) (params_in g instance ps)

-- An expression may not be assigned to an attribute of a slot.
abbrev pub slot_mark : Ground → Option ℕ → Expr → Option Mark
slot_mark g None x = None
slot_mark g (Some instance) x = if slot_in g instance then Some (wrong (expr_front x)) else None

-- what is wrong with an expression that is assigned to a parameter of `holder`
abbrev pub value_in : Ground → ℕ → Option ℕ → Expr → Option Mark
value_in g instance holder x = if is_literal x then None else option_or (slot_mark g holder x) (params_in g instance (expr_paths x))

-- the instance whose parameter is found
abbrev pub holder_of : Found → Option ℕ
holder_of (found.Member instance n number sort.Param) = Some instance
holder_of (found.Member instance n number sort.Signal) = None
holder_of (found.Member instance n number sort.Instance) = None
holder_of (found.Lost at) = None
holder_of (found.Free instance n) = None
holder_of (found.Pin n) = None

-- ---- statements

-- what is wrong with a value that is assigned where a path leads
abbrev pub assign_in : Ground → ℕ → ℕ → Found → Value → Option Mark
assign_in g instance number f (value.Text text) = option_or (text_judged f) (text_in g number text f)
assign_in g instance number f (value.Truth is at) = text_judged f
assign_in g instance number f (value.Expr x) = option_or (judged wanted.Param f) (value_in g instance (holder_of f) x)

-- what is wrong with a value that is declared with a parameter
abbrev pub declare_in : Ground → ℕ → Named → Option Value → Option Mark
declare_in g instance n None = None
declare_in g instance n (Some (value.Text text)) = Some (wrong n.at)
declare_in g instance n (Some (value.Truth is at)) = Some (wrong n.at)
declare_in g instance n (Some (value.Expr x)) = value_in g instance (Some instance) x

abbrev pub end_in : Ground → ℕ → End → Option Mark
end_in g instance (end.Point p) = None
end_in g instance (end.Path p) = judged wanted.End (found_in g instance p)

abbrev pub maybe_end_in : Ground → ℕ → Option End → Option Mark
maybe_end_in g instance None = None
maybe_end_in g instance (Some e) = end_in g instance e

-- the first mark of a statement of the instance of a node, where the occurrence has a number
abbrev pub mark_in : Ground → ℕ → ℕ → Stmt → Option Mark
mark_in g instance number (stmt.Pass at) = None
mark_in g instance number (stmt.Docs text) = None
mark_in g instance number (stmt.Point p e at) = maybe_end_in g instance e
mark_in g instance number (stmt.Connect p e at) = option_or (judged wanted.End (found_in g instance p)) (end_in g instance e)
mark_in g instance number (stmt.Replace p type at) = judged wanted.Instance (found_in g instance p)
mark_in g instance number (stmt.Assign p v at) = assign_in g instance number (found_in g instance p) v
mark_in g instance number (stmt.Make n type at) = None
mark_in g instance number (stmt.Declare n unit v at) = declare_in g instance n v
mark_in g instance number (stmt.Assert x c at) = params_in g instance (expr_paths x ++ compared_paths c)

-- ---- all statements

-- the first mark of the occurrence of a number, with the number
unfoldable pub numbered_mark : Ground → ℕ → Stmt → Option (ℕ × Mark)
numbered_mark g number s = option_and_then (λ e. option_map (λ m. (number, m)) (mark_in g e.node number s)) (slice_get g.built.now.occurrences number)

-- the first mark of the statements from a number on
unfoldable pub marks_from : Ground → ℕ → List Stmt → Option (ℕ × Mark)
marks_from g number [] = None
marks_from g number (s ∷ ss) = option_or (numbered_mark g number s) (marks_from g (suc number) ss)
