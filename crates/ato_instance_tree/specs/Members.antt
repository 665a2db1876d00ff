-- The members of types.
use Rattle.std.specs.Prelude.{ℕ, Bool, true, false, ◌==◌, List, [], ◌∷◌, ◌++◌, Option, if◌then◌else◌, slice_get, option_to_list}
use Rattle.std.specs.List.{flat_map, list_any}
use Rattle.std.specs.Str.{bytes_eq}
use Rattle.ato_base.specs.declared.places.Span.{Span}
use Rattle.ato_ast.specs.declared.names.Named.{Named}
use Rattle.ato_ast.specs.declared.paths.Label.{Label}
use Rattle.ato_ast.specs.declared.paths.Label.TheVariants as label
use Rattle.ato_ast.specs.declared.paths.Point.{Point}
use Rattle.ato_ast.specs.declared.paths.Point.TheVariants as point
use Rattle.ato_ast.specs.declared.stmts.Stmt.{Stmt}
use Rattle.ato_ast.specs.declared.stmts.Stmt.TheVariants as stmt
use Rattle.ato_files.specs.declared.program.SourceFile.{SourceFile}
use Rattle.ato_files.specs.Lists.{text_at}
use Rattle.ato_files.specs.Members.{Kind, signal, instance, param, decls, points, assigned_names}
use Rattle.ato_instance_tree.specs.Types.{stmts_of_type}

-- A member of a type: a pin with the text of its label, or a name.
pub data Member : Type 0 where
  pin : List ℕ → Member
  named : Named → Kind → Member

-- the text that stands at a place of a source
abbrev pub source_text : List SourceFile → Span → List ℕ
source_text files at = flat_map (λ f. text_at f.bytes at) (option_to_list (slice_get files at.file.0))

-- the name, the digits or what stands between the quotes
abbrev pub label_place : Label → Span
label_place (label.Name n) = n.at
label_place (label.Number n at) = at
label_place (label.Text q) = q.contents

abbrev pub label_text : List SourceFile → Label → List ℕ
label_text files l = source_text files (label_place l)

-- Pins have labels in a space of their own.
abbrev pub same_member : Member → Member → Bool
same_member (pin a) (pin b) = bytes_eq a b
same_member (named a k) (named b l) = a.name.0 == b.name.0
same_member _ _ = false

-- each member where it stands first, behind those that were seen
abbrev pub firsts : List Member → List Member → List Member
firsts seen [] = []
firsts seen (m ∷ more) = (if list_any (same_member m) seen then [] else m ∷ []) ++ firsts (m ∷ seen) more

abbrev pub point_members : List SourceFile → Point → List Member
point_members files (point.Signal n at) = named n signal ∷ []
point_members files (point.Pin l at) = pin (label_text files l) ∷ []

-- A declaration among the statements has this name.
abbrev pub is_declared : List Stmt → ℕ → Bool
is_declared all name = list_any (λ d. d.name.name.0 == name) (flat_map decls all)

-- The members that a statement declares. A name to which a quantity is assigned is a parameter where nothing else declares it.
abbrev pub stmt_members : List SourceFile → List Stmt → Stmt → List Member
stmt_members files all (stmt.Make n type at) = named n (instance type) ∷ []
stmt_members files all (stmt.Declare n unit v at) = named n param ∷ []
stmt_members files all (stmt.Assign p v at) = flat_map (λ n. if is_declared all n.name.0 then [] else named n param ∷ []) (assigned_names (stmt.Assign p v at))
stmt_members files all s = flat_map (point_members files) (points s)

abbrev pub members_among : List SourceFile → List Stmt → List Member
members_among files all = firsts [] (flat_map (stmt_members files all) all)

-- the members of a type, in the order of their first declarations
abbrev pub members : List SourceFile → Option ℕ → List Member
members files type = members_among files (stmts_of_type files type)
