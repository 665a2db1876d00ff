use Rattle.std.proofs.Common.{◌≡◌, [], ◌∷◌, ◌++◌, take}
use Rattle.ato_ast.specs.PathKinds.{marked, named_kind}
use Rattle.ato_ast.proofs.flat_exprs.push_more_names.Given as goal

abbrev pub invariant-loop-name : goal.invariant-loop-name
invariant-loop-name l = l.out ≡ l.fn.out ++ marked l.between (λ n. named_kind n ∷ []) (take l.name-index l.more)
