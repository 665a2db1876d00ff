use Rattle.std.proofs.Common.{◌++◌, List, take}
use Rattle.std.specs.List.{flat_map}
use Rattle.ato_files.specs.declared.members.Declared.{Declared}
use Rattle.ato_files.specs.Clashes.{AreDeclared}
use Rattle.ato_files.specs.Inherited.{decls_but}
use Rattle.ato_files.proofs.inherited.add_others.Given as goal

abbrev pub invariant-loop-number : goal.invariant-loop-number
invariant-loop-number l = (seen : List Declared) → AreDeclared l.fn.clashes seen → AreDeclared l.clashes (seen ++ flat_map (decls_but l.members l.block) (take l.number-index l.numbers))
