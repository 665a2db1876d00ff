-- Only private functions have clauses in these words.
-- The faults of single imports.
use Rattle.std.specs.Prelude.{List, [], ◌∷◌, Option, is_none, if◌then◌else◌}
use Rattle.ato_base.specs.declared.faults.Fault.{Fault}
use Rattle.ato_base.specs.declared.faults.FaultKind.TheVariants as kinds
use Rattle.ato_ast.specs.declared.names.Named.{Named}
use Rattle.ato_ast.specs.declared.names.Quoted.{Quoted}
use Rattle.ato_files.specs.declared.program.SourceFile.{SourceFile}
use Rattle.ato_files.specs.Blocks.{imported}
use Rattle.ato_files.specs.Faults.{fault}

-- the fault of an import that takes nothing
abbrev pub import_faults : List SourceFile → SourceFile → Named × Option Quoted → List Fault
import_faults files file i = if is_none (imported files file i) then fault kinds.NameUnknown i.0.at ∷ [] else []
