use Rattle.ato_expr.proofs.HeldLaws.{first_of, rest_of}
use Rattle.ato_expr.proofs.operations.chained.Goals as goal

pub combined-requires-clause-first : goal.combined-requires-clause-first
combined-requires-clause-first c = c.requires.held _ (first_of c.args.nodes.now c.requires.some)

pub combined-requires-clause-rest : goal.combined-requires-clause-rest
combined-requires-clause-rest c = λ n h. c.requires.held n (rest_of c.args.nodes.now c.requires.some n h)
