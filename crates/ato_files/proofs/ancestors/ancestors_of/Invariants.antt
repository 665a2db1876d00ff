use Rattle.std.specs.Prelude.{List}
use Rattle.ato_files.specs.declared.program.SourceFile.{SourceFile}
use Rattle.ato_files.specs.ParentLists.{AreParents}
use Rattle.ato_files.proofs.AncestorLaws.{IsWalked}
use Rattle.ato_files.proofs.ancestors.ancestors_of.Given as goal

abbrev pub invariant-loop-step : goal.invariant-loop-step
invariant-loop-step l = (files : List SourceFile) → AreParents files l.parents → IsWalked files l.block l.step l.at l.seen
