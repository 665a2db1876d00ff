-- What is found of the names of files. Only private functions have clauses in these words.
use Rattle.std.specs.Prelude.{◌≡◌, List, Some, None}
use Rattle.ato_files.specs.declared.program.SourceFile.{SourceFile}
use Rattle.ato_files.specs.declared.naming.Named.{Named}
use Rattle.ato_files.specs.declared.naming.Named.TheVariants as named
use Rattle.ato_files.specs.NameFaults.{name_fault}
use Rattle.ato_files.specs.Programs.{AreBlocks}

abbrev pub IsNamed : List SourceFile → Named → Type 0
IsNamed files (named.Sound blocks) = (name_fault files ≡ None) × AreBlocks files blocks
IsNamed files (named.Faulty fault) = name_fault files ≡ Some fault
