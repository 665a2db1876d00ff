-- What an instance is that is entered. Only private functions have clauses in these words.
use Rattle.std.specs.Prelude.{◌≡◌, ◌<◌, ℕ, false, List, [], length, map, Some, None, nat_eq}
use Rattle.std.specs.List.{list_any}
use Rattle.ato_files.specs.declared.program.SourceFile.{SourceFile}
use Rattle.ato_files.specs.Blocks.{blocks_of}
use Rattle.ato_instance_tree.specs.Kept.{located_of, member_of}
use Rattle.ato_instance_tree.specs.Members.{members}
use Rattle.ato_instance_tree.specs.Types.{type_stmts}
use Rattle.ato_elab.specs.declared.contents.Content.{Content}
use Rattle.ato_elab.specs.declared.entering.Lead.{Lead}
use Rattle.ato_elab.specs.declared.frames.Counts.{Counts}
use Rattle.ato_elab.specs.declared.frames.Frame.{Frame}
use Rattle.ato_elab.specs.declared.frames.Given.{Given}
use Rattle.ato_instance_tree.specs.TreeFaults.{tree_fault}
use Rattle.ato_elab.specs.declared.built.Built.{Built}
use Rattle.ato_elab.specs.declared.frames.Growth.{Growth}
use Rattle.ato_elab.specs.Building.{AreLeading, grown, is_over, limits_of}
use Rattle.ato_elab.specs.Built.{IsBuilt}
use Rattle.ato_elab.specs.Growing.{IsSoFar}
use Rattle.ato_elab.specs.Marks.{AreMarked}
use Rattle.ato_base.specs.declared.name_table.Name.{Name}

-- This is what a type holds.
pub record IsContent (files : List SourceFile) (block : ℕ) (content : Content) : Type 0 where
  pub statements : map located_of content.statements ≡ type_stmts files block
  pub members : map member_of content.members ≡ members files (Some block)

-- the counts with what one more type holds
abbrev pub with_content : Counts → Content → Counts
with_content c content = grown c (map member_of content.members) (length content.statements)

-- The counts with what one more type holds are these, and within the limits.
pub record IsWithin (most old : Counts) (content : Content) (new : Counts) : Type 0 where
  pub sum : new ≡ with_content old content
  pub few : is_over most new ≡ false

-- A name of an instance leads to a type.
abbrev pub IsLead : Given → Frame → Name → Lead → Type 0
IsLead given f name lead = AreLeading given f name lead.from lead.new lead.list lead.block

-- The type is a block, and none of these.
pub record IsNewType (files : List SourceFile) (types : List ℕ) (block : ℕ) : Type 0 where
  pub below : block < length (blocks_of files)
  pub free : list_any (nat_eq block) types ≡ false

-- ---- the beginning and the end

-- Nothing is built.
pub record IsEmpty (given : Given) (g : Growth) : Type 0 where
  pub so_far : (files : List SourceFile) (names : List (List ℕ)) (entry : ℕ) → IsSoFar files names entry [] [] g.built
  pub marked : AreMarked (length given.program.now.blocks) [] g.marks
  pub nodes : g.counts.nodes ≡ 0
  pub occurrences : g.counts.occurrences ≡ 0

-- The tree of the entry block is built, and has no fault.
pub record IsWhole (given : Given) (entry : ℕ) (built : Built) : Type 0 where
  pub tree : IsBuilt given.program.now.files given.program.now.names entry built
  pub sound : tree_fault given.program.now.files (limits_of given.most) (Some entry) ≡ None
