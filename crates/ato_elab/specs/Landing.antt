-- What the numbers of nodes that are found stand for. Only laws speak in these words.
use Rattle.std.specs.Prelude.{◌≡◌, ℕ, List, ◌∷◌, Option, Some, None, ⊤, slice_get, map}
use Rattle.ato_base.specs.declared.faults.Fault.{Fault}
use Rattle.ato_base.specs.declared.places.Place.TheVariants as place
use Rattle.ato_files.specs.declared.program.SourceFile.{SourceFile}
use Rattle.ato_files.specs.Members.{Kind, signal, instance, param}
use Rattle.ato_ast.specs.declared.paths.Path.{Path}
use Rattle.ato_files.specs.Lists.{first_of_all}
use Rattle.ato_instance_tree.specs.Walk.{Occ, effective}
use Rattle.ato_instance_tree.specs.Order.{nodes, occurrences}
use Rattle.ato_instance_tree.specs.PathFaults.{keys_of, occ_faults}
use Rattle.ato_instance_tree.specs.Paths as paths
use Rattle.ato_instance_tree.specs.Paths.{lost, free, member_of, pin_of, find_path}
use Rattle.ato_instance_tree.specs.TreeFaults.{fault_in}
use Rattle.ato_elab.specs.declared.faults.Mark.{Mark}
use Rattle.ato_elab.specs.declared.finding_names.Sort.{Sort}
use Rattle.ato_elab.specs.declared.finding_names.Sort.TheVariants as sort
use Rattle.ato_elab.specs.declared.finding_paths.Found.{Found}
use Rattle.ato_elab.specs.declared.finding_paths.Found.TheVariants as found
use Rattle.ato_instance_tree.specs.Paths.{member_at}
use Rattle.ato_elab.specs.declared.built.Built.{Built}
use Rattle.ato_elab.specs.Built.{IsBuilt}
use Rattle.std.specs.Option.{option_map}
use Rattle.ato_elab.specs.declared.assigned.Assigned.{Assigned}
use Rattle.ato_elab.specs.declared.late_ground.Ground.{Ground}
use Rattle.ato_elab.specs.Assigned.{assigned_to}
use Rattle.ato_elab.specs.Ground.{found_in}
use Rattle.ato_elab.specs.Late.{mark_in}
use Rattle.ato_elab.specs.Pins.{ArePins}
use Rattle.ato_elab.specs.Finding.{sort_at, named_in}
use Rattle.ato_elab.specs.Standing.{IsAt, HasKind, IsReady}

-- the sort of a member
abbrev pub sort_of : Kind → Sort
sort_of signal = sort.Signal
sort_of (instance type) = sort.Instance
sort_of param = sort.Param

-- A name is found as the member that it is.
abbrev pub IsNamed : List SourceFile → ℕ → List ℕ → ℕ → Option Kind → Option (ℕ × Sort) → Type 0
IsNamed files entry path name None None = ⊤
IsNamed files entry path name None (Some r) = ⊥
IsNamed files entry path name (Some k) None = ⊥
IsNamed files entry path name (Some k) (Some r) = (r.1 ≡ sort_of k) × HasKind (nodes files entry) path name k r.0

-- What is found by numbers is what is found by paths.
abbrev pub IsFound : List SourceFile → ℕ → paths.Found → Found → Type 0
IsFound files entry (lost at) (found.Lost other) = other ≡ at
IsFound files entry (free path n) (found.Free number m) = (m ≡ n) × IsAt files entry number path
IsFound files entry (member_of path n k) (found.Member number m node s) = (m ≡ n) × IsAt files entry number path × (s ≡ sort_of k) × HasKind (nodes files entry) path n.name.0 k node
IsFound files entry (pin_of path n) (found.Pin m) = m ≡ n
IsFound files entry _ _ = ⊥

-- the fault of a mark in the instance at a path
abbrev pub marked : List ℕ → Mark → Fault
marked path m = fault_in path m.kind (place.Source m.at)

-- The sort of a node is that of its member.
abbrev pub SortsAgree : Type 0
SortsAgree = (files : List SourceFile) (names : List (List ℕ)) (entry number name : ℕ) (built : Built) (path : List ℕ) (k : Kind)
    → IsBuilt files names entry built → HasKind (nodes files entry) path name k number → sort_at built.nodes number ≡ Some (sort_of k)

-- A name is found as the member that it is.
abbrev pub NamesAreFound : Type 0
NamesAreFound = (files : List SourceFile) (names : List (List ℕ)) (entry number name : ℕ) (built : Built) (path : List ℕ)
    → IsReady files names entry built → IsAt files entry number path → IsNamed files entry path name (member_at files entry path name) (named_in built number name)

-- the occurrence of a number is this one, or there is none
abbrev pub IsChosen : List Occ → Option Occ → Option ℕ → Type 0
IsChosen os None None = ⊤
IsChosen os None (Some number) = ⊥
IsChosen os (Some o) None = ⊥
IsChosen os (Some o) (Some number) = slice_get os number ≡ Some o

-- For each name of each instance of the tree the assignment that counts is held.
pub record AreAssigned (files : List SourceFile) (entry : ℕ) (a : Assigned) : Type 0 where
  pub each : (number name : ℕ) (path : List ℕ) → IsAt files entry number path → IsChosen (occurrences files entry) (effective files entry name path) (assigned_to a number name)

-- The occurrence of a number is this one.
pub record IsOcc (files : List SourceFile) (entry number : ℕ) (o : Occ) : Type 0 where
  pub is : slice_get (occurrences files entry) number ≡ Some o

-- What is known of a tree is right.
pub record IsGround (names : List (List ℕ)) (entry : ℕ) (g : Ground) : Type 0 where
  pub ready : IsReady g.files.now names entry g.built.now
  pub pins : ArePins g.files.now g.built.now.nodes g.pins.now
  pub stmts : map (λ s. s.now) g.stmts.now ≡ map (λ o. o.at.stmt) (occurrences g.files.now entry)
  pub assigned : AreAssigned g.files.now entry g.assigned.now
  pub kind : option_map (λ n. n.0) g.kind ≡ (keys_of names).kind
  pub prefix : option_map (λ n. n.0) g.prefix ≡ (keys_of names).prefix

-- The mark is that of the first of these faults, if there is one.
pub record IsFirst (path : List ℕ) (m : Option Mark) (faults : List Fault) : Type 0 where
  pub is : option_map (marked path) m ≡ first_of_all faults

-- The first mark of a statement is its first fault.
abbrev pub MarksAreFaults : Type 0
MarksAreFaults = (names : List (List ℕ)) (entry number : ℕ) (g : Ground) (o : Occ) (node : ℕ) → IsGround names entry g
    → IsOcc g.files.now entry number o → IsAt g.files.now entry node o.path
    → IsFirst o.path (mark_in g node number o.at.stmt) (occ_faults g.files.now entry (keys_of names) o)

-- What is found by numbers is what is found by paths.
abbrev pub PathsAreFound : Type 0
PathsAreFound = (names : List (List ℕ)) (entry number : ℕ) (g : Ground) (path : List ℕ) (p : Path) → IsGround names entry g → IsAt g.files.now entry number path
    → IsFound g.files.now entry (find_path g.files.now entry path p) (found_in g number p)
