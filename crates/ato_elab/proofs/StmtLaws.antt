-- The first mark of a statement is its first fault.
use Rattle.std.proofs.Common.{◌≡◌, ℕ, Bool, true, false, List, [], ◌∷◌, ◌++◌, Option, Some, None, refl, sym, ap, ◌∙◌, subst}
use Rattle.std.specs.Prelude.{slice_get, if◌then◌else◌, option_to_list}
use Rattle.std.specs.List.{flat_map}
use Rattle.std.specs.Option.{option_map, option_or}
use Rattle.ato_base.specs.declared.faults.Fault.{Fault}
use Rattle.ato_ast.specs.declared.names.Named.{Named}
use Rattle.ato_ast.specs.declared.paths.Path.{Path}
use Rattle.ato_ast.specs.declared.exprs.Expr.{Expr}
use Rattle.ato_ast.specs.declared.stmts.End.{End}
use Rattle.ato_ast.specs.declared.stmts.End.TheVariants as end
use Rattle.ato_ast.specs.declared.stmts.Value.{Value}
use Rattle.ato_ast.specs.declared.stmts.Value.TheVariants as value
use Rattle.ato_ast.specs.declared.stmts.Stmt.{Stmt}
use Rattle.ato_ast.specs.declared.stmts.Stmt.TheVariants as stmt
use Rattle.ato_files.specs.declared.program.SourceFile.{SourceFile}
use Rattle.ato_files.specs.Members.{param}
use Rattle.ato_instance_tree.specs.Walk.{Occ}
use Rattle.ato_instance_tree.specs.Exprs.{expr_paths, compared_paths, is_literal}
use Rattle.ato_instance_tree.specs.Paths as paths
use Rattle.ato_instance_tree.specs.Paths.{member_of, find_path, end_faults, param_faults}
use Rattle.ato_instance_tree.specs.PathFaults.{Keys, keys_of, text_of, attribute_faults, expr_faults, value_faults, target_faults, declared_faults, assigned_prefix, end_paths, stmt_faults}
use Rattle.ato_elab.specs.declared.faults.Mark.{Mark}
use Rattle.ato_elab.specs.declared.finding_paths.Found.{Found}
use Rattle.ato_elab.specs.declared.late_ground.Ground.{Ground}
use Rattle.ato_elab.specs.Ground.{found_in}
use Rattle.ato_elab.specs.Late.{slot_mark, holder_of, params_in, value_in, assign_in, declare_in, end_in, maybe_end_in, mark_in}
use Rattle.ato_elab.specs.Standing.{IsAt}
use Rattle.ato_elab.specs.Landing.{IsFound, IsGround, IsFirst, IsOcc, MarksAreFaults}
use Rattle.ato_elab.proofs.FoundLaws.{paths_are_found}
use Rattle.ato_elab.proofs.JudgedLaws.{none_first, both_first, alone_first, if_first, end_first, param_first, instance_first, text_first, params_first}
use Rattle.ato_elab.proofs.SlotLaws.{slot_first, attribute_first, prefix_first}

value_first : {names : List (List ℕ)} {entry : ℕ} {g : Ground} → IsGround names entry g → {number : ℕ} {path : List ℕ} → IsAt g.files.now entry number path → (x : Expr) (h : Option ℕ) (f : paths.Found)
    → IsFirst path (slot_mark g h x) (attribute_faults g.files.now entry (keys_of names) path x f)
    → IsFirst path (value_in g number h x) (value_faults g.files.now entry (keys_of names) path f (value.Expr x))
value_first is at x h f slot = if_first (is_literal x) (both_first slot (params_first is at (expr_paths x)))

assign_first : {names : List (List ℕ)} {entry : ℕ} {g : Ground} → IsGround names entry g → (number node : ℕ) (o : Occ) → IsOcc g.files.now entry number o → IsAt g.files.now entry node o.path → (p : Path) (v : Value)
    → IsFirst o.path (assign_in g node number (found_in g node p) v)
    (target_faults g.files.now entry o.path p v ++ value_faults g.files.now entry (keys_of names) o.path (find_path g.files.now entry o.path p) v
    ++ flat_map (λ text. assigned_prefix g.files.now entry (keys_of names) o text (find_path g.files.now entry o.path p)) (option_to_list (text_of v)))
assign_first {names = names} {entry = entry} {g = g} is number node o it at p (value.Text text) =
    both_first (alone_first (text_first is at p))
    (alone_first (prefix_first is number o it text (find_path g.files.now entry o.path p) (found_in g node p) (paths_are_found names entry node g o.path p is at)))
assign_first is number node o it at p (value.Truth flag place) = alone_first (alone_first (text_first is at p))
assign_first {names = names} {entry = entry} {g = g} is number node o it at p (value.Expr x) =
    alone_first (both_first (param_first is at p)
    (value_first is at x (holder_of (found_in g node p)) (find_path g.files.now entry o.path p)
    (attribute_first is o.path x (find_path g.files.now entry o.path p) (found_in g node p) (paths_are_found names entry node g o.path p is at))))

declare_first : {names : List (List ℕ)} {entry : ℕ} {g : Ground} → IsGround names entry g → {node : ℕ} {path : List ℕ} → IsAt g.files.now entry node path → (n : Named) (v : Option Value)
    → IsFirst path (declare_in g node n v)
    (flat_map (λ w. declared_faults path n w ++ value_faults g.files.now entry (keys_of names) path (member_of path n param) w) (option_to_list v))
declare_first is at n None = none_first
declare_first is at n (Some (value.Text text)) = record { is = refl }
declare_first is at n (Some (value.Truth flag place)) = record { is = refl }
declare_first {names = names} {entry = entry} {g = g} is {node = node} {path = path} at n (Some (value.Expr x)) = alone_first (value_first is at x (Some node) (member_of path n param) (slot_first is at path n x))

ends_first : {names : List (List ℕ)} {entry : ℕ} {g : Ground} → IsGround names entry g → {node : ℕ} {path : List ℕ} → IsAt g.files.now entry node path → (e : End)
    → IsFirst path (end_in g node e) (flat_map (end_faults g.files.now entry path) (end_paths e))
ends_first is at (end.Point p) = none_first
ends_first is at (end.Path p) = alone_first (end_first is at p)

maybe_first : {names : List (List ℕ)} {entry : ℕ} {g : Ground} → IsGround names entry g → {node : ℕ} {path : List ℕ} → IsAt g.files.now entry node path → (e : Option End)
    → IsFirst path (maybe_end_in g node e) (flat_map (end_faults g.files.now entry path) (flat_map end_paths (option_to_list e)))
maybe_first is at None = none_first
maybe_first is at (Some (end.Point p)) = none_first
maybe_first is at (Some (end.Path p)) = alone_first (end_first is at p)

stmt_first : {names : List (List ℕ)} {entry : ℕ} {g : Ground} → IsGround names entry g → (number node : ℕ) (o : Occ) → IsOcc g.files.now entry number o → IsAt g.files.now entry node o.path → (s : Stmt)
    → IsFirst o.path (mark_in g node number s) (stmt_faults g.files.now entry (keys_of names) o s)
stmt_first is number node o it at (stmt.Pass place) = none_first
stmt_first is number node o it at (stmt.Docs text) = none_first
stmt_first is number node o it at (stmt.Point p e place) = maybe_first is at e
stmt_first is number node o it at (stmt.Connect p e place) = both_first (end_first is at p) (ends_first is at e)
stmt_first is number node o it at (stmt.Replace p type place) = instance_first is at p
stmt_first is number node o it at (stmt.Assign p v place) = assign_first is number node o it at p v
stmt_first is number node o it at (stmt.Make n type place) = none_first
stmt_first is number node o it at (stmt.Declare n unit v place) = declare_first is at n v
stmt_first is number node o it at (stmt.Assert x c place) = params_first is at (expr_paths x ++ compared_paths c)

pub marks_are_faults : MarksAreFaults
marks_are_faults names entry number g o node is it at = stmt_first is number node o it at o.at.stmt
