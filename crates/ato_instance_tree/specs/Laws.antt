-- What holds of all trees.
use Rattle.std.specs.Prelude.{◌≡◌, ◌↔◌, Contains, MatchOption, true, false, ◌==◌, ◌<◌, ◌≤◌, ℕ, List, [], ◌∷◌, ◌++◌, length, take, map, slice_get, option_to_list, Option, Some, None, if◌then◌else◌}
use Rattle.std.specs.List.{flat_map, list_any}
use Rattle.std.specs.Option.{option_map}
use Rattle.std.specs.Str.{bytes_eq}
use Rattle.ato_base.specs.declared.places.Span.{Span}
use Rattle.ato_base.specs.declared.faults.Fault.{Fault}
use Rattle.ato_base.specs.declared.tokens.TokenKind.{TokenKind}
use Rattle.ato_ast.specs.declared.names.Named.{Named}
use Rattle.ato_ast.specs.declared.paths.Path.{Path}
use Rattle.ato_files.specs.declared.program.SourceFile.{SourceFile}
use Rattle.ato_files.specs.declared.program.Program.{Program}
use Rattle.ato_files.specs.Lists.{Among, first_of_all}
use Rattle.ato_files.specs.Blocks.{blocks_of}
use Rattle.ato_files.specs.Members.{Kind, instance, pins, member}
use Rattle.ato_instance_tree.specs.declared.tree.Effective.{Effective}
use Rattle.ato_instance_tree.specs.declared.tree.Tree.{Tree}
use Rattle.ato_instance_tree.specs.Types.{stmts_of_type}
use Rattle.ato_instance_tree.specs.Members.{Member, pin, named, source_text, label_text, members}
use Rattle.ato_instance_tree.specs.Walk.{Occ, assigns, walk, type_at, effective}
use Rattle.ato_instance_tree.specs.Order.{Spot, leaf, made_at, nodes, instances, occurrences}
use Rattle.ato_instance_tree.specs.TreeFaults.{Limits, is_leaf, instance_faults, tree_fault}
use Rattle.ato_instance_tree.specs.Paths.{Found, lost, free, member_of, pin_of, has_pin, number_place, find_path}
use Rattle.ato_instance_tree.specs.Targets.{statement_of, target_of}
use Rattle.ato_instance_tree.specs.Elaborated.{IsElaborated, IsLoaded, stands}

-- Two trees of one project and entry block have the same nodes, the same occurrences, the same first fault and, without one, the same
-- assignments that count.
pub record AreAlike (t u : Tree) : Type 0 where
  pub nodes : t.nodes ≡ u.nodes
  pub occurrences : t.occurrences ≡ u.occurrences
  pub first : t.first ≡ u.first
  pub effective : t.first ≡ None → (e : Effective) → Contains t.effective e ↔ Contains u.effective e

abbrev pub OneTree : Type 0
OneTree = (most : Limits) (program : Program) (name : List ℕ) (t u : Tree) → IsLoaded program → IsElaborated most program name t → IsElaborated most program name u → AreAlike t u

-- The place of a node: the path of its names, or the label of a pin in the instance at a path. An instance has a place as a member
-- of that name has.
pub data SpotPlace : Type 0 where
  at_names : List ℕ → SpotPlace
  at_label : List ℕ → List ℕ → SpotPlace

abbrev pub place_of : Spot → SpotPlace
place_of (made_at path) = at_names path
place_of (leaf path (named n k)) = at_names (n.name.0 ∷ path)
place_of (leaf path (pin text)) = at_label path text

-- No two nodes of a project have one place.
abbrev pub NoNodeTwice : Type 0
NoNodeTwice = (files : List SourceFile) (entry i j : ℕ) (s t : Spot) → slice_get (nodes files entry) i ≡ Some s → slice_get (nodes files entry) j ≡ Some t
    → place_of s ≡ place_of t → i ≡ j

-- A tree has no more nodes and no more occurrences than the limits allow.
pub record AreKept (most : Limits) (tree : Tree) : Type 0 where
  pub nodes : length tree.nodes ≤ most.nodes
  pub occurrences : length tree.occurrences ≤ most.occurrences

abbrev pub LimitsAreKept : Type 0
LimitsAreKept = (most : Limits) (program : Program) (name : List ℕ) (tree : Tree) → IsLoaded program → IsElaborated most program name tree → AreKept most tree

-- what a name is among members
abbrev pub named_kind : List Member → ℕ → Option Kind
named_kind [] name = None
named_kind (pin text ∷ more) name = named_kind more name
named_kind (named n k ∷ more) name = if n.name.0 == name then Some k else named_kind more name

-- The members of a type are what its statements declare: each name is what it is among them, and each label of a pin that they declare
-- is that of a pin.
pub record AreMembers (files : List SourceFile) (type : Option ℕ) : Type 0 where
  pub names : (name : ℕ) → named_kind (members files type) name ≡ member (stmts_of_type files type) name
  pub labels : (text : List ℕ) → has_pin (members files type) text ≡ list_any (λ l. bytes_eq text (label_text files l)) (flat_map pins (stmts_of_type files type))

abbrev pub MembersAgree : Type 0
MembersAgree = (files : List SourceFile) (type : Option ℕ) → AreMembers files type

-- ---- nodes

-- an instance of this name among members
pub record IsMadeAmong (ms : List Member) (n : ℕ) : Type 0 where
  pub name : Named
  pub type : Named
  pub called : name.name.0 ≡ n
  pub is : Among (named name (instance type)) ms

-- The nodes are the root and the members of each instance that is one: its leaves, and the instances below it.
pub record AreNodes (files : List SourceFile) (entry : ℕ) : Type 0 where
  pub root : Among (made_at []) (nodes files entry)
  pub leaves : (path : List ℕ) (m : Member) → Among (leaf path m) (nodes files entry)
      ↔ (Among (made_at path) (nodes files entry) × Among m (members files (type_at files entry path)) × (is_leaf m ≡ true))
  pub instances : (path : List ℕ) (n : ℕ) → Among (made_at (n ∷ path)) (nodes files entry)
      ↔ (Among (made_at path) (nodes files entry) × IsMadeAmong (members files (type_at files entry path)) n)

abbrev pub NodesAreMembers : Type 0
NodesAreMembers = (files : List SourceFile) (entry : ℕ) (most : Limits) → entry < length (blocks_of files) → tree_fault files most (Some entry) ≡ None → AreNodes files entry

-- ---- assignments

-- The statement is the last of these that assigns something to the path.
pub record IsLastAssigning (stmts : List Occ) (path : List ℕ) (o : Occ) : Type 0 where
  pub before : List Occ
  pub after : List Occ
  pub is : stmts ≡ before ++ o ∷ after
  pub does : assigns path o ≡ true
  pub none_later : list_any (assigns path) after ≡ false

-- The assignment that counts for a name of an instance is the last one among the statements at it and around it; where none of them
-- assigns the name, none counts.
abbrev pub EffectiveIsLast : Type 0
EffectiveIsLast = (files : List SourceFile) (entry name : ℕ) (path : List ℕ) → MatchOption (effective files entry name path)
    (list_any (assigns (name ∷ path)) (walk files entry path).stmts ≡ false) (IsLastAssigning (walk files entry path).stmts (name ∷ path))

-- ---- faults

-- The fault is the first one of an instance, and no instance before it, in tree order, has one.
pub record IsFirstFault (files : List SourceFile) (entry : ℕ) (most : Limits) (f : Fault) : Type 0 where
  pub before : List (List ℕ)
  pub path : List ℕ
  pub after : List (List ℕ)
  pub is : instances files entry ≡ before ++ path ∷ after
  pub sound : (i : ℕ) (earlier : List ℕ) → slice_get before i ≡ Some earlier → instance_faults files entry most (take i before) earlier ≡ []
  pub has : first_of_all (instance_faults files entry most before path) ≡ Some f

abbrev pub FirstFaultStands : Type 0
FirstFaultStands = (files : List SourceFile) (entry : ℕ) (most : Limits) (f : Fault) → (tree_fault files most (Some entry) ≡ Some f) ↔ IsFirstFault files entry most f

-- A project that has a tree has no fault of the tree.
abbrev pub OneTreeFault : Type 0
OneTreeFault = (most : Limits) (program : Program) (name : List ℕ) (tree : Tree) (f : Fault) → IsElaborated most program name tree → stands most program name ≡ Some f → ⊥

-- ---- statements and targets

-- The statement of an occurrence of a tree is that of the project's occurrence of this number.
abbrev pub StatementsAreWalked : Type 0
StatementsAreWalked = (most : Limits) (program : Program) (name : List ℕ) (tree : Tree) (is : IsElaborated most program name tree) (i : ℕ)
    → statement_of program tree i ≡ option_map (λ o. o.at.stmt) (slice_get (occurrences program.files is.entry) i)

-- The node of this number stands at the place.
pub record IsNodeAt (spots : List Spot) (place : SpotPlace) (number : ℕ) : Type 0 where
  pub node : Spot
  pub is : slice_get spots number ≡ Some node
  pub at : place_of node ≡ place

-- the place to which a path leads, if it leads to a member, or to a pin with the number behind the path as its label
abbrev pub placed : List SourceFile → List Span → Found → Option SpotPlace
placed files numbers (lost at) = None
placed files numbers (free holder n) = None
placed files numbers (member_of holder n k) = Some (at_names (n.name.0 ∷ holder))
placed files numbers (pin_of holder n) = first_of_all (map (λ number. at_label holder (source_text files number)) numbers)

abbrev pub found_place : List SourceFile → Option TokenKind → Found → Option SpotPlace
found_place files kind found = placed files (flat_map number_place (option_to_list kind)) found

-- A path that leads nowhere has no target, and one that leads to a place has the node there.
abbrev pub IsTarget : List Spot → Option SpotPlace → Option ℕ → Type 0
IsTarget spots None target = target ≡ None
IsTarget spots (Some place) target = (number : ℕ) × (target ≡ Some number) × IsNodeAt spots place number

-- The target of a path of an occurrence is the node to which the path leads from the instance; a number that is none of an
-- occurrence has no targets.
abbrev pub TargetsAreFound : Type 0
TargetsAreFound = (most : Limits) (program : Program) (name : List ℕ) (tree : Tree) → IsLoaded program → (is : IsElaborated most program name tree) (i : ℕ) (p : Path)
    → MatchOption (slice_get (occurrences program.files is.entry) i) (target_of program tree i p ≡ None)
    (λ o. IsTarget (nodes program.files is.entry) (found_place program.files p.pin (find_path program.files is.entry o.path p)) (target_of program tree i p))
