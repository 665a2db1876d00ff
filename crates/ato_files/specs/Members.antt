-- What statements declare.
use Rattle.std.specs.Prelude.{ℕ, Bool, true, false, ◌==◌, List, [], ◌∷◌, Option, Some, None, find, if◌then◌else◌}
use Rattle.std.specs.List.{flat_map}
use Rattle.std.specs.Option.{option_map, option_or}
use Rattle.ato_ast.specs.declared.names.Named.{Named}
use Rattle.ato_ast.specs.declared.paths.Label.{Label}
use Rattle.ato_base.specs.declared.tokens.TokenKind.{TokenKind}
use Rattle.ato_ast.specs.declared.paths.Point.{Point}
use Rattle.ato_ast.specs.declared.paths.Point.TheVariants as point
use Rattle.ato_ast.specs.declared.stmts.End.{End}
use Rattle.ato_ast.specs.declared.stmts.End.TheVariants as end
use Rattle.ato_ast.specs.declared.stmts.Value.{Value}
use Rattle.ato_ast.specs.declared.stmts.Value.TheVariants as value
use Rattle.ato_ast.specs.declared.stmts.Stmt.{Stmt}
use Rattle.ato_ast.specs.declared.stmts.Stmt.TheVariants as stmt
use Rattle.ato_ast.specs.declared.blocks.Block.{Block}

-- What a name is declared as; an instance with its type's name.
pub data Kind : Type 0 where
  signal : Kind
  instance : Named → Kind
  param : Kind

pub record Decl : Type 0 where
  pub name : Named
  pub kind : Kind

abbrev pub point_decls : Point → List Decl
point_decls (point.Signal name at) = record { name = name; kind = signal } ∷ []
point_decls (point.Pin label at) = []

abbrev pub point_pins : Point → List Label
point_pins (point.Signal name at) = []
point_pins (point.Pin label at) = label ∷ []

abbrev pub end_points : End → List Point
end_points (end.Point p) = p ∷ []
end_points (end.Path path) = []

abbrev pub maybe_end_points : Option End → List Point
maybe_end_points None = []
maybe_end_points (Some e) = end_points e

-- the points that a statement declares, from left to right
abbrev pub points : Stmt → List Point
points (stmt.Point p e at) = p ∷ maybe_end_points e
points (stmt.Connect path e at) = end_points e
points _ = []

-- the names that a statement declares
abbrev pub decls : Stmt → List Decl
decls (stmt.Make name type at) = record { name = name; kind = instance type } ∷ []
decls (stmt.Declare name unit value at) = record { name = name; kind = param } ∷ []
decls s = flat_map point_decls (points s)

abbrev pub pins : Stmt → List Label
pins s = flat_map point_pins (points s)

-- the statements of a block, in source order
abbrev pub stmts_of : Block → List Stmt
stmts_of block = flat_map (λ line. line.parts) block.lines

abbrev pub is_quantity : Value → Bool
is_quantity (value.Text text) = false
is_quantity (value.Truth flag at) = false
is_quantity (value.Expr expr) = true

-- the name of a path of one name
abbrev pub lone_of : List Named → Option TokenKind → List Named
lone_of (name ∷ []) None = name ∷ []
lone_of _ _ = []

-- the names to which a quantity is assigned as a path of one name
abbrev pub assigned_names : Stmt → List Named
assigned_names (stmt.Assign path v at) = if is_quantity v then lone_of path.steps path.pin else []
assigned_names _ = []

abbrev pub named_as : ℕ → Decl → Bool
named_as name d = d.name.name.0 == name

-- What a name is among statements: as it is first declared, else a parameter where a quantity is assigned to it.
abbrev pub member : List Stmt → ℕ → Option Kind
member stmts name = option_or
    (option_map (λ d. d.kind) (find (named_as name) (flat_map decls stmts)))
    (option_map (λ n. param) (find (λ n. n.name.0 == name) (flat_map assigned_names stmts)))
