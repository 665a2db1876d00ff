use Rattle.std.proofs.Common.{arith}
use Rattle.ato_check.proofs.TreeLines.{bad_within}
use Rattle.ato_check.proofs.WholeLemmas.{few_nodes}
use Rattle.ato_check.proofs.checking.bad_line_of_proof.Goals as goal

pub check_tree-requires-clause-few : goal.check_tree-requires-clause-few
check_tree-requires-clause-few c =
    let few = few_nodes c.args.problem.now c.args.cert.now c.in-Some-Tree.verdict-1 c.in-Some-Tree.tree c.requires.readable c.requires.size c.in-Some-Tree.is-1 in
    omega (arith, few)

pub overflow_add-result : goal.overflow_add-result
overflow_add-result c =
    let few = few_nodes c.args.problem.now c.args.cert.now c.in-Some-Tree.verdict-1 c.in-Some-Tree.tree c.requires.readable c.requires.size c.in-Some-Tree.is-1 in
    omega (arith, few, bad_within c.in-Some-Tree.slot c.in-Err.ensures)
