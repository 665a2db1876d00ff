use Rattle.ato_files.specs.ParentLists.{AreMarks, AreEnds}
use Rattle.ato_files.proofs.endings.endings.Given as goal

abbrev pub invariant-loop-start : goal.invariant-loop-start
invariant-loop-start l = AreMarks l.parents l.start l.walks.items × AreEnds l.parents l.start l.ends
