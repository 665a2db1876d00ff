-- The faults of paths and links, in written order; at each statement those of its paths come first. The one that stands is the first.
use Rattle.std.specs.Prelude.{◌≡◌, ℕ, Bool, true, false, nat_lt, List, [], ◌∷◌, ◌++◌, map, Option, Some, None, if◌then◌else◌}
use Rattle.std.specs.List.{flat_map, list_any}
use Rattle.ato_base.specs.declared.places.Span.{Span}
use Rattle.ato_base.specs.declared.places.Place.TheVariants as place
use Rattle.ato_base.specs.declared.faults.Fault.{Fault}
use Rattle.ato_base.specs.declared.faults.FaultKind.TheVariants as kinds
use Rattle.ato_ast.specs.declared.paths.Point.{Point}
use Rattle.ato_ast.specs.declared.paths.Point.TheVariants as points
use Rattle.ato_ast.specs.declared.stmts.Stmt.{Stmt}
use Rattle.ato_ast.specs.declared.stmts.Stmt.TheVariants as stmt
use Rattle.ato_files.specs.declared.program.SourceFile.{SourceFile}
use Rattle.ato_files.specs.Lists.{numbered, first_of_all}
use Rattle.ato_instance_tree.specs.Walk.{Occ}
use Rattle.ato_instance_tree.specs.Order.{occurrences}
use Rattle.ato_instance_tree.specs.TreeFaults.{fault_in}
use Rattle.ato_instance_tree.specs.Exprs.{front_of, steps_front}
use Rattle.ato_instance_tree.specs.PathFaults.{Keys, occ_faults, path_fault}
use Rattle.ato_links.specs.Links.{Link, join, clash, Electrical, occ_links}

-- the keyword of a point, `signal` or `pin`
abbrev pub point_front : Point → Span
point_front (points.Signal n at) = front_of 6 at
point_front (points.Pin l at) = front_of 3 at

-- the first token of the left end of a connection
abbrev pub left_end : Stmt → List Span
left_end (stmt.Point p e at) = point_front p ∷ []
left_end (stmt.Connect p e at) = steps_front p.at p.steps ∷ []
left_end _ = []

abbrev pub is_clash : Link → Bool
is_clash clash = true
is_clash (join p q) = false

-- The ends of the connection, or two members that it reaches, cannot be joined.
abbrev pub link_faults : List SourceFile → ℕ → Electrical → Occ → List Fault
link_faults files entry library o = if list_any is_clash (occ_links files entry library o)
    then map (λ at. fault_in o.path kinds.CannotConnect (place.Source at)) (left_end o.at.stmt) else []

-- the faults of a statement of an occurrence
abbrev pub connect_faults : List SourceFile → ℕ → Keys → Electrical → Occ → List Fault
connect_faults files entry keys library o = occ_faults files entry keys o ++ link_faults files entry library o

-- the faults that are found in each occurrence, with its number
abbrev pub faults_by : (Occ → List Fault) → List (ℕ × Occ) → List (ℕ × Fault)
faults_by found os = flat_map (λ o. map (λ f. (o.0, f)) (found o.1)) os

-- the first fault of paths and links, and the occurrence in which it stands
abbrev pub connect_fault : List SourceFile → ℕ → Keys → Electrical → Option (ℕ × Fault)
connect_fault files entry keys library = first_of_all (faults_by (connect_faults files entry keys library) (numbered 0 (occurrences files entry)))

-- the first fault of links alone
abbrev pub link_fault : List SourceFile → ℕ → Electrical → Option (ℕ × Fault)
link_fault files entry library = first_of_all (faults_by (link_faults files entry library) (numbered 0 (occurrences files entry)))

-- A fault of links stands where it is in an occurrence before that of the first fault of paths.
abbrev pub earlier : Option (ℕ × Fault) → Option (ℕ × Fault) → Option (ℕ × Fault)
earlier None late = late
earlier (Some first) None = Some first
earlier (Some first) (Some late) = if nat_lt first.0 late.0 then Some first else Some late

-- The first fault of paths and links is the earlier of the first ones of both.
abbrev pub FirstOfBoth : Type 0
FirstOfBoth = (files : List SourceFile) (entry : ℕ) (keys : Keys) (library : Electrical)
    → connect_fault files entry keys library ≡ earlier (link_fault files entry library) (path_fault files entry keys)
