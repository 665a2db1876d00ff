-- The faults of paths and links without the one of ends that cannot be joined, in written order, from left to right. The one that
-- stands is the first.
use Rattle.std.specs.Prelude.{ℕ, Bool, true, false, ◌&&◌, ◌||◌, ◌==◌, not, nat_le, nat_lt, nat_eq, List, [], ◌∷◌, ◌++◌, map, length, Option, Some, None, is_some, if◌then◌else◌, option_to_list, slice_get, position, codes}
use Rattle.std.specs.List.{flat_map, list_any, list_all}
use Rattle.std.specs.Option.{option_and_then}
use Rattle.std.specs.Str.{bytes_eq}
use Rattle.ato_base.specs.declared.faults.Fault.{Fault}
use Rattle.ato_ast.specs.declared.names.Named.{Named}
use Rattle.ato_ast.specs.declared.names.Quoted.{Quoted}
use Rattle.ato_ast.specs.declared.paths.Path.{Path}
use Rattle.ato_ast.specs.declared.exprs.Expr.{Expr}
use Rattle.ato_ast.specs.declared.stmts.End.{End}
use Rattle.ato_ast.specs.declared.stmts.End.TheVariants as end
use Rattle.ato_ast.specs.declared.stmts.Value.{Value}
use Rattle.ato_ast.specs.declared.stmts.Value.TheVariants as value
use Rattle.ato_ast.specs.declared.stmts.Stmt.{Stmt}
use Rattle.ato_ast.specs.declared.stmts.Stmt.TheVariants as stmt
use Rattle.ato_files.specs.declared.program.SourceFile.{SourceFile}
use Rattle.ato_files.specs.Lists.{numbered, first_of_all}
use Rattle.ato_files.specs.Members.{param}
use Rattle.ato_instance_tree.specs.Types.{Located, block_kinds, is_component}
use Rattle.ato_instance_tree.specs.Members.{source_text}
use Rattle.ato_instance_tree.specs.Walk.{Occ, type_at, effective}
use Rattle.ato_instance_tree.specs.Order.{occurrences}
use Rattle.ato_instance_tree.specs.Paths.{Found, lost, free, member_of, pin_of, member_at, find_path, no_member, wrong_kind, end_faults, param_faults, instance_path_faults, text_faults}
use Rattle.ato_instance_tree.specs.Exprs.{expr_paths, compared_paths, expr_front, is_literal}

-- The numbers of the names `kind` and `designator_prefix`, where they occur in the project.
pub record Keys : Type 0 where
  pub kind : Option ℕ
  pub prefix : Option ℕ

abbrev pub keys_of : List (List ℕ) → Keys
keys_of names = record { kind = position (bytes_eq (codes "kind")) names; prefix = position (bytes_eq (codes "designator_prefix")) names }

-- ---- strings

abbrev pub text_of : Value → Option Quoted
text_of (value.Text text) = Some text
text_of _ = None

-- the string that a statement assigns
abbrev pub string_of : Stmt → Option Quoted
string_of (stmt.Assign p v at) = text_of v
string_of (stmt.Declare n unit v at) = option_and_then text_of v
string_of _ = None

-- The string that counts for a name of an instance; where the name is a member, none does.
abbrev pub string_at : List SourceFile → ℕ → ℕ → List ℕ → Option Quoted
string_at files entry name path = if is_some (member_at files entry path name) then None else option_and_then (λ o. string_of o.at.stmt) (effective files entry name path)

-- The type of the instance is a component.
abbrev pub is_component_at : List SourceFile → ℕ → List ℕ → Bool
is_component_at files entry path = list_any is_component (flat_map (block_kinds files) (option_to_list (type_at files entry path)))

-- An instance is a slot where its type is a component and a string counts for `kind`.
abbrev pub is_slot : List SourceFile → ℕ → Option ℕ → List ℕ → Bool
is_slot files entry kind path = is_component_at files entry path && is_some (option_and_then (λ name. string_at files entry name path) kind)

abbrev pub is_letter : ℕ → Bool
is_letter c = (nat_le 65 c && nat_le c 90) || (nat_le 97 c && nat_le c 122)

-- a prefix of designators: 1 to 8 ASCII letters
abbrev pub is_prefix : List ℕ → Bool
is_prefix text = nat_lt 0 (length text) && nat_le (length text) 8 && list_all is_letter text

abbrev pub same_place : Located → Located → Bool
same_place a b = (a.block == b.block) && (a.line == b.line) && (a.part == b.part)

abbrev pub same_occ : Occ → Occ → Bool
same_occ a b = bytes_eq a.path b.path && same_place a.at b.at

-- The occurrence is the assignment that counts for a name of an instance.
abbrev pub is_effective : List SourceFile → ℕ → Occ → ℕ → List ℕ → Bool
is_effective files entry o name path = list_any (same_occ o) (option_to_list (effective files entry name path))

abbrev pub is_key : Option ℕ → Named → Bool
is_key key n = list_any (nat_eq n.name.0) (option_to_list key)

-- A string that counts for `designator_prefix` of an instance is a prefix.
abbrev pub prefix_faults : List SourceFile → ℕ → Keys → Occ → List ℕ → Named → Quoted → List Fault
prefix_faults files entry keys o holder n text = if is_key keys.prefix n && is_effective files entry o n.name.0 holder && not (is_prefix (source_text files text.contents))
    then wrong_kind o.path text.at ∷ [] else []

abbrev pub assigned_prefix : List SourceFile → ℕ → Keys → Occ → Quoted → Found → List Fault
assigned_prefix files entry keys o text (free holder n) = prefix_faults files entry keys o holder n text
assigned_prefix files entry keys o text (lost at) = []
assigned_prefix files entry keys o text (member_of holder n k) = []
assigned_prefix files entry keys o text (pin_of holder n) = []

-- ---- expressions

abbrev pub expr_faults : List SourceFile → ℕ → List ℕ → Expr → List Fault
expr_faults files entry path x = flat_map (param_faults files entry path) (expr_paths x)

-- An expression may not be assigned to a part's attribute.
abbrev pub attribute_faults : List SourceFile → ℕ → Keys → List ℕ → Expr → Found → List Fault
attribute_faults files entry keys path x (member_of holder n param) = if is_slot files entry keys.kind holder then wrong_kind path (expr_front x) ∷ [] else []
attribute_faults files entry keys path x _ = []

-- the faults of a value, assigned where `found` says
abbrev pub value_faults : List SourceFile → ℕ → Keys → List ℕ → Found → Value → List Fault
value_faults files entry keys path found (value.Text text) = []
value_faults files entry keys path found (value.Truth is at) = []
value_faults files entry keys path found (value.Expr x) = if is_literal x then [] else attribute_faults files entry keys path x found ++ expr_faults files entry path x

-- Strings and truth values are assigned to names that are no members, quantities to parameters.
abbrev pub target_faults : List SourceFile → ℕ → List ℕ → Path → Value → List Fault
target_faults files entry path p (value.Text text) = text_faults files entry path p
target_faults files entry path p (value.Truth is at) = text_faults files entry path p
target_faults files entry path p (value.Expr x) = param_faults files entry path p

-- A value that is declared with a parameter is no string and no truth value.
abbrev pub declared_faults : List ℕ → Named → Value → List Fault
declared_faults path n (value.Text text) = wrong_kind path n.at ∷ []
declared_faults path n (value.Truth is at) = wrong_kind path n.at ∷ []
declared_faults path n (value.Expr x) = []

-- ---- statements

abbrev pub end_paths : End → List Path
end_paths (end.Point p) = []
end_paths (end.Path p) = p ∷ []

-- the faults of a statement of an occurrence, from left to right
abbrev pub stmt_faults : List SourceFile → ℕ → Keys → Occ → Stmt → List Fault
stmt_faults files entry keys o (stmt.Pass at) = []
stmt_faults files entry keys o (stmt.Docs text) = []
stmt_faults files entry keys o (stmt.Point p e at) = flat_map (end_faults files entry o.path) (flat_map end_paths (option_to_list e))
stmt_faults files entry keys o (stmt.Connect p e at) = end_faults files entry o.path p ++ flat_map (end_faults files entry o.path) (end_paths e)
stmt_faults files entry keys o (stmt.Replace p type at) = instance_path_faults files entry o.path p
stmt_faults files entry keys o (stmt.Assign p v at) = target_faults files entry o.path p v
    ++ value_faults files entry keys o.path (find_path files entry o.path p) v
    ++ flat_map (λ text. assigned_prefix files entry keys o text (find_path files entry o.path p)) (option_to_list (text_of v))
stmt_faults files entry keys o (stmt.Make n type at) = []
stmt_faults files entry keys o (stmt.Declare n unit v at) = flat_map (λ w. declared_faults o.path n w
    ++ value_faults files entry keys o.path (member_of o.path n param) w) (option_to_list v)
stmt_faults files entry keys o (stmt.Assert x c at) = flat_map (param_faults files entry o.path) (expr_paths x ++ compared_paths c)

abbrev pub occ_faults : List SourceFile → ℕ → Keys → Occ → List Fault
occ_faults files entry keys o = stmt_faults files entry keys o o.at.stmt

-- the occurrences' numbers with their faults
abbrev pub numbered_faults : List SourceFile → ℕ → Keys → ℕ × Occ → List (ℕ × Fault)
numbered_faults files entry keys o = map (λ f. (o.0, f)) (occ_faults files entry keys o.1)

abbrev pub path_faults : List SourceFile → ℕ → Keys → List (ℕ × Fault)
path_faults files entry keys = flat_map (numbered_faults files entry keys) (numbered 0 (occurrences files entry))

-- the first fault of paths, and the occurrence in which it stands
abbrev pub path_fault : List SourceFile → ℕ → Keys → Option (ℕ × Fault)
path_fault files entry keys = first_of_all (path_faults files entry keys)
