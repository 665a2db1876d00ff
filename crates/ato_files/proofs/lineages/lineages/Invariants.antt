use Rattle.std.proofs.Common.{List}
use Rattle.ato_files.specs.declared.program.SourceFile.{SourceFile}
use Rattle.ato_files.specs.ParentLists.{AreParents, AreLineages}
use Rattle.ato_files.proofs.lineages.lineages.Given as goal

abbrev pub invariant-loop-number : goal.invariant-loop-number
invariant-loop-number l = (files : List SourceFile) → AreParents files l.parents → AreLineages files l.number l.lineages
