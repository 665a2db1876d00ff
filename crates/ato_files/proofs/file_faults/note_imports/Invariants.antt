use Rattle.std.proofs.Common.{◌≡◌, List, take}
use Rattle.std.specs.Prelude.{Some, slice_get}
use Rattle.std.specs.List.{flat_map}
use Rattle.ato_files.specs.declared.program.SourceFile.{SourceFile}
use Rattle.ato_files.specs.FileFaults.{import_faults}
use Rattle.ato_files.specs.Meant.{AreMeanings}
use Rattle.ato_files.specs.Noted.{noted}
use Rattle.ato_files.proofs.file_faults.note_imports.Given as goal

abbrev pub invariant-loop-import : goal.invariant-loop-import
invariant-loop-import l = (files : List SourceFile) → AreMeanings files l.meanings → slice_get files l.number ≡ Some l.file
    → l.least ≡ noted l.fn.least (flat_map (import_faults files l.file) (take l.import l.name-items))
