-- Worked rows of the library: its blocks, and what their names mean in other files.
use Rattle.std.proofs.Common.{◌≡◌, List, [], ◌∷◌, Some, None, codes, refl}
use Rattle.std.specs.Prelude.{map}
use Rattle.ato_base.specs.declared.faults.FaultKind.TheVariants as kinds
use Rattle.ato_ast.specs.declared.blocks.Item.{Item}
use Rattle.ato_ast.specs.declared.blocks.Head.TheVariants as head
use Rattle.ato_ast.specs.declared.blocks.BlockKind.TheVariants.{Module, Component}
use Rattle.ato_files.specs.declared.program.SourceFile.{SourceFile}
use Rattle.ato_files.proofs.Written.{span, nm, quoted, heads, block, source}
use Rattle.ato_files.specs.Blocks.{blocks_of, meaning}
use Rattle.ato_files.specs.Lineages.{lineage}
use Rattle.ato_files.specs.Faults.{fault}
use Rattle.ato_files.specs.NameFaults.{name_fault}
use Rattle.ato_files.proofs.LibraryLaws.{on_library, the_library}

-- the library and the entry
abbrev with_entry : List Item → List SourceFile
with_entry items = the_library ∷ source (codes "main.ato") (codes "\"<library>\"") items ∷ []

-- `import Resistor, LED`
abbrev imports : Item
imports = heads (head.Import (nm 25 0 ∷ nm 45 1 ∷ []) (span 1 0 2) ∷ [])

-- ---- the library alone

pub block_names : map (λ b. b.block.name.name.0) (blocks_of (the_library ∷ [])) ≡ 3 ∷ 5 ∷ 14 ∷ 16 ∷ 21 ∷ 25 ∷ 35 ∷ 38 ∷ 41 ∷ 45 ∷ []
unfolding on_library
block_names = refl

-- an LED is a diode
pub led_lineage : lineage (the_library ∷ []) 9 ≡ 8 ∷ 9 ∷ []
unfolding on_library
led_lineage = refl

-- ---- its names in other files

pub imports_resistor : meaning (with_entry (imports ∷ [])) 1 25 ≡ Some 5
unfolding on_library
imports_resistor = refl

pub imports_led : meaning (with_entry (imports ∷ [])) 1 45 ≡ Some 9
unfolding on_library
imports_led = refl

pub imports_sound : name_fault (with_entry (imports ∷ block Component (nm 46 3) (Some (nm 45 4)) [] ∷ [])) ≡ None
unfolding on_library
imports_sound = refl

pub own_led : lineage (with_entry (imports ∷ block Component (nm 46 3) (Some (nm 45 4)) [] ∷ [])) 10 ≡ 8 ∷ 9 ∷ 10 ∷ []
unfolding on_library
own_led = refl

-- no name of the library is there without an import
pub no_capacitor : meaning (with_entry (imports ∷ [])) 1 35 ≡ None
unfolding on_library
no_capacitor = refl

pub no_capacitor_above : name_fault (with_entry (block Component (nm 46 3) (Some (nm 35 4)) [] ∷ [])) ≡ Some (fault kinds.NameUnknown (span 1 4 5))
unfolding on_library
no_capacitor_above = refl

-- a file's own block hides none of the library, and is not hidden by it
pub own_resistor : meaning (with_entry (block Component (nm 25 0) None [] ∷ [])) 1 25 ≡ Some 10
unfolding on_library
own_resistor = refl

pub own_before_import : meaning (with_entry (imports ∷ block Component (nm 25 4) None [] ∷ [])) 1 25 ≡ Some 10
unfolding on_library
own_before_import = refl

pub import_and_own : name_fault (with_entry (imports ∷ block Component (nm 25 4) None [] ∷ [])) ≡ Some (fault kinds.NameTwice (span 1 4 5))
unfolding on_library
import_and_own = refl

pub in_the_library : meaning (with_entry (block Component (nm 25 0) None [] ∷ [])) 0 25 ≡ Some 5
unfolding on_library
in_the_library = refl

-- ---- a file of the project that has the name of the library

-- `from "<library>" import` takes from the project's own file, and never from the library
abbrev named_alike : List Item → List SourceFile
named_alike items = the_library ∷ source (codes "main.ato") (codes "\"<library>\"") (heads (head.From (quoted 1 0 9) (nm 25 12 ∷ []) (span 1 0 13) ∷ []) ∷ []) ∷ source (codes "<library>") [] items ∷ []

pub from_own_file : meaning (named_alike (block Module (nm 25 0) None [] ∷ [])) 1 25 ≡ Some 10
unfolding on_library
from_own_file = refl

pub not_from_library : name_fault (named_alike []) ≡ Some (fault kinds.NameUnknown (span 1 12 13))
unfolding on_library
not_from_library = refl

-- `import` takes from the library, and never from the project's own file
pub not_from_own_file : name_fault (the_library ∷ source (codes "main.ato") [] (heads (head.Import (nm 46 0 ∷ []) (span 1 0 1) ∷ []) ∷ []) ∷ source (codes "<library>") [] (block Module (nm 46 0) None [] ∷ []) ∷ [])
    ≡ Some (fault kinds.NameUnknown (span 1 0 1))
unfolding on_library
not_from_own_file = refl
