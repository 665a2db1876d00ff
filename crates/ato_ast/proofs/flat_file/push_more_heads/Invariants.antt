use Rattle.std.proofs.Common.{◌≡◌, ◌++◌, take}
use Rattle.ato_base.specs.declared.keywords.Mark.TheVariants as mark
use Rattle.ato_ast.specs.PathKinds.{marked}
use Rattle.ato_ast.specs.FileKinds.{head_kinds}
use Rattle.ato_ast.proofs.flat_file.push_more_heads.Given as goal

abbrev pub invariant-loop-head : goal.invariant-loop-head
invariant-loop-head l = l.out ≡ l.fn.out ++ marked mark.Semicolon head_kinds (take l.head-index l.more)
