-- Only private functions have clauses in these words.
-- What is known of blocks while the faults of their names are noted.
use Rattle.std.specs.Prelude.{◌≡◌, ℕ, List, [], ◌∷◌, ◌++◌, map, length, option_to_list, if◌then◌else◌}
use Rattle.std.specs.List.{flat_map}
use Rattle.ato_base.specs.declared.faults.Fault.{Fault}
use Rattle.ato_base.specs.declared.faults.FaultKind.TheVariants as kinds
use Rattle.ato_ast.specs.declared.names.Named.{Named}
use Rattle.ato_ast.specs.declared.paths.Label.{Label}
use Rattle.ato_ast.specs.declared.blocks.Block.{Block}
use Rattle.ato_ast.specs.declared.blocks.BlockKind.{BlockKind}
use Rattle.ato_files.specs.declared.members.Members.{Members}
use Rattle.ato_ast.specs.Places.{label_at}
use Rattle.ato_files.specs.declared.program.SourceFile.{SourceFile}
use Rattle.ato_files.specs.declared.tables.Tables.{Tables}
use Rattle.ato_files.specs.BlockPlaces.{places_of}
use Rattle.ato_files.specs.Blocks.{meaning}
use Rattle.ato_files.specs.Faults.{fault}
use Rattle.ato_files.specs.Inherited.{all_members}
use Rattle.ato_files.specs.Meant.{AreMeanings}
use Rattle.ato_files.specs.NameFaults.{is_component, is_interface, is_interface_block, block_faults}
use Rattle.ato_files.specs.ParentLists.{AreEnds, AreParents}

pub record AreTables (t : Tables) : Type 0 where
  pub places : t.places.now ≡ places_of t.files.now
  pub meanings : AreMeanings t.files.now t.meanings.now
  pub parents : AreParents t.files.now t.parents.now
  pub ends : AreEnds t.parents.now (length t.parents.now) t.ends.now
  pub members : t.members.now ≡ all_members t.files.now

-- ---- the faults of single names

abbrev pub made_faults : List SourceFile → ℕ → Named → List Fault
made_faults files file t = flat_map (λ m. if is_interface_block files m then [] else fault kinds.WrongKind t.at ∷ []) (option_to_list (meaning files file t.name.0))

abbrev pub pin_fault : Label → Fault
pin_fault l = fault kinds.WrongKind (label_at l)

-- the faults of a block of a file
abbrev pub faults_in : List SourceFile → ℕ → ℕ → Block → List Fault
faults_in files number file block = block_faults files number (record { file = file; item = 0; block = block })

-- the faults of what may not stand in a block of a kind
abbrev pub kind_faults : List SourceFile → ℕ → BlockKind → Members → List Fault
kind_faults files file kind m = (if is_component kind then [] else map pin_fault m.pins) ++ (if is_interface kind then flat_map (made_faults files file) m.made else [])
