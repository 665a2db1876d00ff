-- What a loaded project is, and its first fault.
use Rattle.std.specs.Prelude.{◌≡◌, ℕ, List, ◌++◌, map, length, Option, Some, None, slice_get, position}
use Rattle.std.specs.Option.{option_and_then}
use Rattle.std.specs.Str.{bytes_eq}
use Rattle.ato_base.specs.Stages.{Reaches, StandsFrom}
use Rattle.ato_base.specs.declared.faults.Fault.{Fault}
use Rattle.ato_files.specs.declared.program.Source.{Source}
use Rattle.ato_files.specs.declared.program.SourceFile.{SourceFile}
use Rattle.ato_files.specs.declared.program.BlockInfo.{BlockInfo}
use Rattle.ato_files.specs.declared.program.Program.{Program}
use Rattle.ato_files.specs.Files.{next_name}
use Rattle.ato_files.specs.Blocks.{BlockAt, blocks_of, block_of, meaning}
use Rattle.ato_files.specs.Lineages.{IsLineage}
use Rattle.ato_files.specs.Loading.{Held, Loaded, all_files, IsStart, LeadsOn, FileFault, source_of, readable}
use Rattle.ato_files.specs.NameFaults.{name_fault}

-- ---- stages

-- How far a project is read without a fault: not at all, up to some files, or whole, with its names.
pub data Stage : Type 0 where
  Started : Stage
  Loading : Loaded → Stage
  Named : Loaded → Stage

-- A fault, and the files that are read when it is found.
pub record Failure : Type 0 where
  pub fault : Fault
  pub sources : List Source

-- The shelf's files and the name of the entry.
module _ (held : Held) (entry : List ℕ) where
  -- All files are loaded, and their names have no fault.
  pub record IsWhole (l : Loaded) : Type 0 where
    pub last : next_name entry l.files ≡ None
    pub sound : name_fault (all_files l) ≡ None

  -- The stage leads to the next one: first to the library, then from file to file, and at last to the names.
  abbrev pub Leads : Stage → Stage → Type 0
  Leads Started (Loading l) = IsStart l
  Leads (Loading l) (Loading m) = LeadsOn held entry l m
  Leads (Loading l) (Named m) = (m ≡ l) × IsWhole l
  Leads _ _ = ⊥

  -- the files that are read where the next one has a fault
  abbrev pub sources : Loaded → List Source
  sources l = map (source_of held entry) (all_files l) ++ readable held entry (next_name entry l.files)

  -- The first fault behind some files: of the next file, or, where there is none, of names.
  pub data FirstFault (l : Loaded) : Fault → Type 0 where
    of_a_file : {f : Fault} → FileFault held entry l f → FirstFault l f
    of_a_name : {f : Fault} → next_name entry l.files ≡ None → name_fault (all_files l) ≡ Some f → FirstFault l f

  -- The stage has the fault, with these files read.
  abbrev pub Has : Stage → Failure → Type 0
  Has (Loading l) f = FirstFault l f.fault × (f.sources ≡ sources l)
  Has _ f = ⊥

  -- The stage is reached: no fault stands before it.
  abbrev pub IsReached : Stage → Type 0
  IsReached stage = Reaches Leads Started stage

  -- The fault stands in the files or the names of the project.
  abbrev pub Stands : Failure → Type 0
  Stands f = StandsFrom Leads Has Started f

-- ---- programs

-- What is kept of a block.
pub record IsBlockInfo (files : List SourceFile) (number : ℕ) (info : BlockInfo) : Type 0 where
  pub at : BlockAt
  pub found : block_of files number ≡ Some at
  pub file : info.file.0 ≡ at.file
  pub item : info.item ≡ at.item
  pub lineage : IsLineage files number info.lineage

-- The blocks of the files, in written order.
pub record AreBlocks (files : List SourceFile) (blocks : List BlockInfo) : Type 0 where
  pub count : length blocks ≡ length (blocks_of files)
  pub each : (number : ℕ) (info : BlockInfo) → slice_get blocks number ≡ Some info → IsBlockInfo files number info

-- No text stands twice in a table of names.
abbrev pub NamesDiffer : List (List ℕ) → Type 0
NamesDiffer names = (i j : ℕ) (text : List ℕ) → slice_get names i ≡ Some text → slice_get names j ≡ Some text → i ≡ j

-- The program of an entry: it is read to its end without a fault.
pub record IsProgram (held : Held) (entry : List ℕ) (program : Program) : Type 0 where
  pub loaded : Loaded
  pub reached : IsReached held entry (Named loaded)
  pub names : program.names ≡ loaded.names
  pub files : program.files ≡ all_files loaded
  pub blocks : AreBlocks program.files program.blocks

-- the number of the block that a name means in a file of a program
abbrev pub found_block : Program → ℕ → List ℕ → Option ℕ
found_block program file name = option_and_then (meaning program.files file) (position (bytes_eq name) program.names)
