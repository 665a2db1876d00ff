use Rattle.std.proofs.Common.{◌++◌, List, take}
use Rattle.ato_files.specs.declared.members.Declared.{Declared}
use Rattle.ato_files.specs.Clashes.{AreDeclared}
use Rattle.ato_files.proofs.clashes.Clashes.add_all.Given as goal

abbrev pub invariant-loop-d : goal.invariant-loop-d
invariant-loop-d l = (seen : List Declared) → AreDeclared l.fn.self seen → AreDeclared l.self (seen ++ take l.d-index l.decls)
