-- Small projects written by hand, to try definitions on. The names are those of `table`; offsets are made up, in order.
use Rattle.std.specs.Prelude.{ℕ, ◌+◌, true, List, [], ◌∷◌, Some, None, codes}
use Rattle.ato_base.specs.declared.tokens.TokenKind.{TokenKind}
use Rattle.ato_base.specs.declared.tokens.TokenKind.TheVariants as token
use Rattle.ato_ast.specs.declared.names.Named.{Named}
use Rattle.ato_ast.specs.declared.names.Number.{Number}
use Rattle.ato_ast.specs.declared.paths.Label.TheVariants as label
use Rattle.ato_ast.specs.declared.paths.Path.{Path}
use Rattle.ato_ast.specs.declared.paths.Point.TheVariants as point
use Rattle.ato_ast.specs.declared.blocks.Item.{Item}
use Rattle.ato_ast.specs.declared.stmts.End.TheVariants as end
use Rattle.ato_ast.specs.declared.stmts.Value.{Value}
use Rattle.ato_ast.specs.declared.stmts.Value.TheVariants as value
use Rattle.ato_ast.specs.declared.stmts.Stmt.{Stmt}
use Rattle.ato_ast.specs.declared.stmts.Stmt.TheVariants as stmt
use Rattle.ato_files.specs.declared.program.SourceFile.{SourceFile}
use Rattle.ato_files.proofs.Written.{span, nm, quoted, source, library}
use Rattle.ato_instance_tree.specs.TreeFaults.{Limits}

-- names: 3 A, 4 B, 5 C, 6 D, 7 M, 8 Top, 9 r, 10 m, 11 s, 12 kind, 13 designator_prefix
abbrev pub table : List (List ℕ)
table = codes "abs" ∷ codes "max" ∷ codes "min" ∷ codes "A" ∷ codes "B" ∷ codes "C" ∷ codes "D" ∷ codes "M" ∷ codes "Top" ∷ codes "r" ∷ codes "m"
    ∷ codes "s" ∷ codes "kind" ∷ codes "designator_prefix" ∷ []

-- an empty library, and the entry file with its bytes and its items
abbrev pub written : List ℕ → List Item → List SourceFile
written bytes items = library ∷ source (codes "main.ato") bytes items ∷ []

-- one whose first byte is the digit of a pin
abbrev pub project : List Item → List SourceFile
project items = written (codes "1") items

abbrev pub ample : Limits
ample = record { nodes = 100; occurrences = 100 }

-- ---- paths

-- names with points between
abbrev pub dotted : List Named → Path
dotted steps = record { steps = steps; pin = None; at = span 1 90 99 }

-- the number whose digits stand in one byte of the entry file
abbrev pub digit : ℕ → Number
digit at = record { whole = true; small = Some 1; at = span 1 at (at + 1) }

abbrev pub digit_kind : ℕ → TokenKind
digit_kind at = token.Number true (Some 1) (span 1 at (at + 1))

-- a path that ends in the number of a pin
abbrev pub pin_path : List Named → ℕ → Path
pin_path steps at = record { steps = steps; pin = Some (digit_kind at); at = span 1 90 99 }

-- ---- statements

abbrev pub pass : Stmt
pass = stmt.Pass (span 1 80 84)

-- `NAME = new TYPE`
abbrev pub make : Named → Named → Stmt
make n type = stmt.Make n type (span 1 80 84)

-- `PATH -> TYPE`
abbrev pub replace : List Named → Named → Stmt
replace steps type = stmt.Replace (dotted steps) type (span 1 80 84)

-- `NAME: D`
abbrev pub declare : Named → Stmt
declare n = stmt.Declare n (nm 6 70) None (span 1 80 84)

-- `NAME: D = VALUE`
abbrev pub declare_as : Named → Value → Stmt
declare_as n v = stmt.Declare n (nm 6 70) (Some v) (span 1 80 84)

-- `signal NAME`
abbrev pub signal_of : Named → Stmt
signal_of n = stmt.Point (point.Signal n (span 1 80 84)) None (span 1 80 84)

-- `pin 1`
abbrev pub pin_one : Stmt
pin_one = stmt.Point (point.Pin (label.Number (digit 0) (span 1 0 1)) (span 1 80 84)) None (span 1 80 84)

-- `signal NAME ~ pin 1`
abbrev pub signal_and_pin : Named → Stmt
signal_and_pin n = stmt.Point (point.Signal n (span 1 80 84)) (Some (end.Point (point.Pin (label.Number (digit 0) (span 1 0 1)) (span 1 80 84)))) (span 1 80 84)

-- `PATH ~ PATH`
abbrev pub connect : Path → Path → Stmt
connect p q = stmt.Connect p (end.Path q) (span 1 80 84)

-- `PATH = VALUE`
abbrev pub assign : Path → Value → Stmt
assign p v = stmt.Assign p v (span 1 80 84)

-- a string of so many bytes, from its first quote on
abbrev pub text : ℕ → ℕ → Value
text at long = value.Text (quoted 1 at long)

abbrev pub truth : ℕ → Value
truth at = value.Truth true (span 1 at (at + 4))
