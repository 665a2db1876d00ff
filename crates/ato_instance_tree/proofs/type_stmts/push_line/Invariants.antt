use Rattle.std.proofs.Common.{◌≡◌, ◌++◌, map, take}
use Rattle.ato_instance_tree.specs.Kept.{located_of}
use Rattle.ato_instance_tree.specs.Types.{line_stmts}
use Rattle.ato_instance_tree.proofs.type_stmts.push_line.Given as goal

abbrev pub invariant-loop-part : goal.invariant-loop-part
invariant-loop-part l = map located_of l.found ≡ map located_of l.fn.found ++ line_stmts l.block (l.line, take l.part l.parts)
