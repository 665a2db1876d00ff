-- How far a tree is built. Only private functions have clauses in these words.
use Rattle.std.specs.Prelude.{◌≡◌, ◌+◌, ◌≤◌, ℕ, suc, Bool, ◌||◌, nat_lt, filter, nat_eq, true, ◌<◌, List, [], ◌∷◌, ◌++◌, map, drop, length, reverse, Option, Some, None, slice_get, filter_map, sum_by, ⊤}
use Rattle.std.specs.List.{flat_map, list_any, IsDistinct}
use Rattle.ato_base.specs.declared.name_table.Name.{Name}
use Rattle.ato_base.specs.declared.faults.Fault.{Fault}
use Rattle.ato_base.specs.declared.faults.Refusal.{Refusal}
use Rattle.ato_base.specs.declared.faults.Refusal.TheVariants as refusal
use Rattle.ato_files.specs.declared.program.SourceFile.{SourceFile}
use Rattle.ato_files.specs.declared.program.Program.{Program}
use Rattle.ato_ast.specs.declared.names.Named.{Named}
use Rattle.ato_files.specs.Blocks.{blocks_of}
use Rattle.ato_files.specs.Members.{instance}
use Rattle.ato_files.specs.Meant.{AreMeanings}
use Rattle.ato_files.specs.Programs.{AreBlocks}
use Rattle.ato_instance_tree.specs.Kept.{member_of}
use Rattle.ato_instance_tree.specs.Members.{Member, named}
use Rattle.ato_instance_tree.specs.Order.{Spot, made_at, instance_of, member_spots, spots, nodes}
use Rattle.ato_instance_tree.specs.TreeFaults.{Limits, is_leaf, faults_from, own_nodes, own_occs, tree_fault, types_around}
use Rattle.ato_instance_tree.specs.Types.{type_stmts}
use Rattle.ato_instance_tree.specs.Walk.{type_at}
use Rattle.ato_files.specs.declared.meanings.Meanings.{Meanings}
use Rattle.ato_elab.specs.declared.built.Built.{Built}
use Rattle.ato_elab.specs.declared.marks.Marks.{Marks}
use Rattle.ato_elab.specs.declared.frames.Counts.{Counts}
use Rattle.ato_elab.specs.declared.frames.Frame.{Frame}
use Rattle.ato_elab.specs.declared.frames.Given.{Given}
use Rattle.ato_elab.specs.declared.frames.Growth.{Growth}
use Rattle.ato_elab.specs.declared.changes.Change.{Change}
use Rattle.ato_elab.specs.Changes.{AreChanges, listed, seen}
use Rattle.ato_elab.specs.Growing.{IsSoFar}
use Rattle.ato_elab.specs.Marks.{AreMarked}
use Rattle.ato_elab.specs.Settling.{LeadsTo}
use Rattle.ato_elab.specs.Waiting.{ends, waiting}
use Rattle.ato_elab.specs.Ways.{AreNews, kept}

-- ---- open instances, the innermost first

abbrev pub with_name : Option Name → List ℕ → List ℕ
with_name None path = path
with_name (Some n) path = n.0 ∷ path

-- the path of the innermost
abbrev pub path_of : List Frame → List ℕ
path_of [] = []
path_of (f ∷ fs) = with_name f.name (path_of fs)

abbrev pub types_of : List Frame → List ℕ
types_of fs = map (λ f. f.block) fs

-- the members that are left
abbrev pub left : Frame → List Member
left f = map member_of (drop f.next f.members)

-- the frame with another number of members that are put
abbrev pub at_member : Frame → ℕ → Frame
at_member f n = record { number = f.number; name = f.name; block = f.block; members = f.members; next = n; ways = f.ways }

abbrev pub next_of : Frame → Frame
next_of f = at_member f (f.next + 1)

-- the nodes that are left, with so many levels below the innermost
abbrev pub remaining : List SourceFile → ℕ → ℕ → List Frame → List Spot
remaining files entry d [] = []
remaining files entry d (f ∷ fs) = flat_map (member_spots (spots files entry d) (path_of (f ∷ fs))) (left f) ++ remaining files entry (suc d) fs

-- The instance at a path, with these types around it, is open.
pub record IsFrame (files : List SourceFile) (entry : ℕ) (done : List Spot) (path outer : List ℕ) (f : Frame) : Type 0 where
  pub spot : slice_get done f.number ≡ Some (made_at path)
  pub type : type_at files entry path ≡ Some f.block
  pub around : types_around files entry path ≡ f.block ∷ outer
  pub news : AreNews files (type_stmts files f.block) f.ways.news
  pub changes : AreChanges (waiting files entry path) f.ways.changes

abbrev pub AreFrames : List SourceFile → ℕ → List Spot → List Frame → Type 0
AreFrames files entry done [] = ⊤
AreFrames files entry done (f ∷ fs) = IsFrame files entry done (path_of (f ∷ fs)) (types_of fs) f × AreFrames files entry done fs

-- ---- how far it is

abbrev pub made : List Spot → List (List ℕ)
made done = filter_map instance_of done

abbrev pub limits_of : Counts → Limits
limits_of c = record { nodes = c.nodes; occurrences = c.occurrences }

-- The counts are those of these instances, and within the limits.
pub record AreCounted (files : List SourceFile) (entry : ℕ) (most counts : Counts) (paths : List (List ℕ)) : Type 0 where
  pub nodes : counts.nodes ≡ sum_by (own_nodes files entry) paths
  pub occurrences : counts.occurrences ≡ sum_by (own_occs files entry) paths
  pub few_nodes : counts.nodes ≤ most.nodes
  pub few_occurrences : counts.occurrences ≤ most.occurrences

-- These nodes are built, and these instances are open.
pub record IsDone (files : List SourceFile) (names : List (List ℕ)) (entry : ℕ) (most : Counts) (done : List Spot) (fs : List Frame) (built : Built) (marks : Marks) (counts : Counts) : Type 0 where
  pub so_far : IsSoFar files names entry done (made done) built
  pub depth : ℕ
  pub levels : depth + length fs ≡ suc (length (blocks_of files))
  pub parts : done ++ remaining files entry depth fs ≡ nodes files entry
  pub frames : AreFrames files entry done fs
  pub differ : IsDistinct nat_eq (types_of fs)
  pub below : (q : ℕ) → list_any (nat_eq q) (types_of fs) ≡ true → q < length (blocks_of files)
  pub marked : AreMarked (length (blocks_of files)) (types_of fs) marks
  pub sound : faults_from files entry (limits_of most) [] (made done) ≡ []
  pub counted : AreCounted files entry most counts (made done)

-- The program is whole, and so are the meanings of its names.
pub record IsGiven (program : Program) (meanings : Meanings) : Type 0 where
  pub blocks : AreBlocks program.files program.blocks
  pub meant : AreMeanings program.files meanings

-- So much is built where these instances are open.
pub record IsBuilding (given : Given) (entry : ℕ) (fs : List Frame) (g : Growth) : Type 0 where
  pub given_is : IsGiven given.program.now given.meanings.now
  pub done : List Spot
  pub is : IsDone given.program.now.files given.program.now.names entry given.most done fs g.built g.marks g.counts

-- The refusal is this fault, or memory ran out.
abbrev pub Refuses : Refusal → Fault → Type 0
Refuses (refusal.Fault g) f = g ≡ f
Refuses refusal.NoMemory f = ⊤

-- The refusal is the fault of the tree that stands, or memory ran out.
abbrev pub RefusesTree : Given → ℕ → Refusal → Type 0
RefusesTree given entry (refusal.Fault f) = tree_fault given.program.now.files (limits_of given.most) (Some entry) ≡ Some f
RefusesTree given entry refusal.NoMemory = ⊤

-- ---- entering

-- The next member of the innermost instance is an instance of this name.
pub record IsHere (given : Given) (entry : ℕ) (fs : List Frame) (f : Frame) (name : Name) (g : Growth) : Type 0 where
  pub called : Named
  pub type : Named
  pub same : called.name ≡ name
  pub here : left f ≡ named called (instance type) ∷ left (next_of f)
  pub building : IsBuilding given entry (f ∷ fs) g

-- `new` gives the name this type, and these replacements lead from it to another one.
pub record AreLeading (given : Given) (f : Frame) (name : Name) (from : ℕ) (new : Named) (list : List Change) (block : ℕ) : Type 0 where
  pub new_is : kept f.ways.news name.0 ≡ Some (from, new)
  pub list_is : list ≡ listed f.ways.changes name.0
  pub leads : LeadsTo given.program.now.files from (ends (map seen list)) block

-- the counts with those of a type's members and statements
abbrev pub grown : Counts → List Member → ℕ → Counts
grown c ms long = record { nodes = c.nodes + suc (length (filter is_leaf ms)); occurrences = c.occurrences + long }

abbrev pub is_over : Counts → Counts → Bool
is_over most c = nat_lt most.nodes c.nodes || nat_lt most.occurrences c.occurrences
