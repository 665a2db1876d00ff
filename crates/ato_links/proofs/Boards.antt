-- Small projects with a library, written by hand, to try definitions on. The names are those of `names`.
use Rattle.std.specs.Prelude.{ℕ, ◌+◌, List, [], ◌∷◌, ◌++◌, Option, Some, None, codes}
use Rattle.ato_base.specs.declared.faults.Fault.{Fault}
use Rattle.ato_base.specs.declared.faults.FaultKind.TheVariants as kinds
use Rattle.ato_base.specs.declared.places.Place.TheVariants as place
use Rattle.ato_ast.specs.declared.names.Named.{Named}
use Rattle.ato_ast.specs.declared.paths.Label.TheVariants as label
use Rattle.ato_ast.specs.declared.paths.Path.{Path}
use Rattle.ato_ast.specs.declared.paths.Point.{Point}
use Rattle.ato_ast.specs.declared.paths.Point.TheVariants as point
use Rattle.ato_ast.specs.declared.blocks.BlockKind.TheVariants.{Component, Interface}
use Rattle.ato_ast.specs.declared.blocks.Head.TheVariants as head
use Rattle.ato_ast.specs.declared.blocks.Item.{Item}
use Rattle.ato_ast.specs.declared.stmts.End.TheVariants as end
use Rattle.ato_ast.specs.declared.stmts.Stmt.{Stmt}
use Rattle.ato_ast.specs.declared.stmts.Stmt.TheVariants as stmt
use Rattle.ato_files.specs.declared.program.SourceFile.{SourceFile}
use Rattle.ato_files.proofs.Written.{span, nm, heads, block, source}
use Rattle.ato_instance_tree.specs.TreeFaults.{fault_in}
use Rattle.ato_instance_tree.proofs.Written.{table, digit, dotted, signal_of}
use Rattle.ato_links.specs.Links.{Electrical}

-- behind those of `table`: 14 Electrical, 15 line, 16 hv, 17 lv, 18 en, 19 q, 20 p, 21 P, 22 Q, 23 Resistor, 24 c, 25 E, 26 voltage
abbrev pub names : List (List ℕ)
names = table ++ codes "Electrical" ∷ codes "line" ∷ codes "hv" ∷ codes "lv" ∷ codes "en" ∷ codes "q" ∷ codes "p" ∷ codes "P" ∷ codes "Q" ∷ codes "Resistor"
    ∷ codes "c" ∷ codes "E" ∷ codes "voltage" ∷ []

-- a library with `Electrical` and a component `Resistor`, whose blocks have the numbers 0 and 1
abbrev pub library : SourceFile
library = source [] [] (block Interface (nm 14 0) None (signal_of (nm 15 1) ∷ [])
    ∷ block Component (nm 23 2) None (signal_of (nm 10 3) ∷ []) ∷ [])

-- an entry file that imports both and has these blocks, from the number 2 on; its first bytes are digits of pins
abbrev pub board : List Item → List SourceFile
board items = library ∷ source (codes "main.ato") (codes "123") (heads (head.Import (nm 14 4 ∷ nm 23 5 ∷ []) (span 1 4 6) ∷ []) ∷ items) ∷ []

abbrev pub electrical : Electrical
electrical = record { type = Some 0; line = Some 15 }

-- ---- statements

-- `pin N`, with its digit at this offset
abbrev pub pin_of : ℕ → Point
pin_of at = point.Pin (label.Number (digit at) (span 1 at (at + 1))) (span 1 80 85)

-- `pin N` alone
abbrev pub pin_alone : ℕ → Stmt
pin_alone at = stmt.Point (pin_of at) None (span 1 80 85)

-- `PATH ~ pin N`
abbrev pub to_pin : Path → ℕ → Stmt
to_pin p at = stmt.Connect p (end.Point (pin_of at)) (span 1 80 85)

-- names behind each other, the first at this offset
abbrev pub named_from : ℕ → List ℕ → List Named
named_from at [] = []
named_from at (n ∷ more) = nm n at ∷ named_from (at + 1) more

abbrev pub path : ℕ → List ℕ → Path
path at steps = dotted (named_from at steps)

-- the fault of a connection whose left end begins at a name at this offset, in the root
abbrev pub cannot : ℕ → ℕ → Option (ℕ × Fault)
cannot occurrence at = Some (occurrence, fault_in [] kinds.CannotConnect (place.Source (nm 0 at).at))
