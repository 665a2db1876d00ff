use Rattle.std.proofs.Common.{◌≡◌, ◌++◌, map, take, Bor}
use Rattle.std.specs.List.{flat_map}
use Rattle.ato_ast.specs.declared.paths.Path.{Path}
use Rattle.ato_ast.specs.declared.exprs.Sign.{Sign}
use Rattle.ato_ast.specs.declared.exprs.Scale.{Scale}
use Rattle.ato_ast.specs.declared.exprs.Expr.{Expr}
use Rattle.ato_instance_tree.specs.Exprs.{expr_paths}
use Rattle.ato_instance_tree.proofs.exprs.+paths.Given as goal

abbrev pub invariant-listed_paths-loop-operand : goal.invariant-listed_paths-loop-operand
invariant-listed_paths-loop-operand l = map (λ (p : Bor Path). p.now) l.into ≡ map (λ (p : Bor Path). p.now) l.fn.into ++ flat_map expr_paths (take l.operand-index l.more)

abbrev pub invariant-scaled_paths-loop-operand : goal.invariant-scaled_paths-loop-operand
invariant-scaled_paths-loop-operand l = map (λ (p : Bor Path). p.now) l.into ≡ map (λ (p : Bor Path). p.now) l.fn.into ++ flat_map (λ (x : Scale × Expr). expr_paths x.1) (take l.operand-index l.more)

abbrev pub invariant-signed_paths-loop-operand : goal.invariant-signed_paths-loop-operand
invariant-signed_paths-loop-operand l = map (λ (p : Bor Path). p.now) l.into ≡ map (λ (p : Bor Path). p.now) l.fn.into ++ flat_map (λ (x : Sign × Expr). expr_paths x.1) (take l.operand-index l.more)
