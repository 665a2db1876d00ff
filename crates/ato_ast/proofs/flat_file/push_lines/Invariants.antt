use Rattle.std.proofs.Common.{◌≡◌, ◌++◌, take}
use Rattle.ato_ast.specs.FileKinds.{lines_kinds}
use Rattle.ato_ast.proofs.flat_file.push_lines.Given as goal

abbrev pub invariant-loop-line : goal.invariant-loop-line
invariant-loop-line l = l.out ≡ l.fn.out ++ lines_kinds (take l.line-index l.lines)
