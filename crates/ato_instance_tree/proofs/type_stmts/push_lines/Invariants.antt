use Rattle.std.proofs.Common.{◌≡◌, ◌++◌, map, take}
use Rattle.std.specs.List.{flat_map}
use Rattle.ato_ast.specs.declared.stmts.Stmt.{Stmt}
use Rattle.ato_ast.specs.declared.blocks.Line.{Line}
use Rattle.ato_files.specs.Lists.{numbered}
use Rattle.ato_instance_tree.specs.Kept.{located_of}
use Rattle.ato_instance_tree.specs.Types.{line_stmts}
use Rattle.ato_instance_tree.proofs.type_stmts.push_lines.Given as goal

abbrev pub invariant-loop-number : goal.invariant-loop-number
invariant-loop-number l = map located_of l.found ≡ map located_of l.fn.found ++ flat_map (line_stmts l.block) (numbered 0 (map (λ (x : Line Stmt). x.parts) (take l.number l.lines)))
