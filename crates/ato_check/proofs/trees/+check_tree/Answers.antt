use Rattle.std.proofs.Common.{◌<◌, rules, arith}
use Rattle.std.proofs.lemmas.Result.{MatchResult-weaker}
use Rattle.ato_cert.specs.Nodes.{tree_nodes}
use Rattle.ato_cert.proofs.HalvesLaws.{low_rising, high_rising}
use Rattle.ato_check.proofs.TreeLines.{not_middle, rows_left, no_failure, no_rows, failure, bad_low, bad_high, both_checked, both_nodes, bad_within}
use Rattle.ato_check.proofs.trees.+check_tree.Goals as goal

pub returns-in-Empty : goal.returns-in-Empty
returns-in-Empty t c =
    rw c.in-Empty.is (MatchResult-weaker c.one_line.result c.one_line.ensures
    (λ count p. rw p.0 (no_rows c.args.slot.now c.args.rows.now c.in-Empty.number (c.empty_is_right.ensures.0 p.1)))
    (λ at p. rw p.0 (rows_left c.args.slot.now c.args.rows.now c.in-Empty.number (λ h. p.1 (c.empty_is_right.ensures.1 h)))))

pub returns-in-Fails : goal.returns-in-Fails
returns-in-Fails t c =
    rw c.in-Fails.is (MatchResult-weaker c.one_line-in-Fails.result c.one_line-in-Fails.ensures
    (λ count p. rw p.0 (failure c.args.slot.now c.args.rows.now c.in-Fails.check c.in-Fails.point (rw c.as_slice.ensures at (c.fails_is_right.ensures.0 p.1))))
    (λ at p. rw p.0 (no_failure c.args.slot.now c.args.rows.now c.in-Fails.check c.in-Fails.point (λ h. p.1 (c.fails_is_right.ensures.1 (rw c.as_slice.ensures h))))))

pub returns-in-None : goal.returns-in-None
returns-in-None t c = rw c.in-ByRow.is (not_middle c.args.slot.now c.args.rows.now c.in-ByRow.number c.in-ByRow.row c.in-ByRow.low c.in-ByRow.high c.in-None.ensures)

pub check_tree-requires : goal.check_tree-requires
check_tree-requires t c =
    let sum = both_nodes c.args.tree.now c.in-ByRow.number c.in-ByRow.row c.in-ByRow.low c.in-ByRow.high c.in-ByRow.is in
    let fewer : tree_nodes c.get.result.now < tree_nodes c.args.tree.now = rw c.get.ensures (omega (arith, sum)) in
    (search (rules, fewer, c.decreases), (low_rising c.in-Some.ensures.1 c.requires.rising, rw c.get.ensures (omega (arith, sum, c.requires.few))))

pub check_tree-requires-in-Ok : goal.check_tree-requires-in-Ok
check_tree-requires-in-Ok t c =
    let sum = both_nodes c.args.tree.now c.in-ByRow.number c.in-ByRow.row c.in-ByRow.low c.in-ByRow.high c.in-ByRow.is in
    let fewer : tree_nodes c.get-in-Ok.result.now < tree_nodes c.args.tree.now = rw c.get-in-Ok.ensures (omega (arith, sum)) in
    (search (rules, fewer, c.decreases), (high_rising c.in-Some.ensures.1 c.requires.rising, rw c.get-in-Ok.ensures (omega (arith, sum, c.requires.few))))

pub overflow_add-result : goal.overflow_add-result
overflow_add-result t c =
    let sum = both_nodes c.args.tree.now c.in-ByRow.number c.in-ByRow.row c.in-ByRow.low c.in-ByRow.high c.in-ByRow.is in
    let bad = rw c.get.ensures at c.in-Err.ensures in
    omega (arith, sum, c.requires.few, bad_within c.args.slot.now bad)

pub overflow_add-result-in-Err-check_tree-2 : goal.overflow_add-result-in-Err-check_tree-2
overflow_add-result-in-Err-check_tree-2 t c =
    let sum = both_nodes c.args.tree.now c.in-ByRow.number c.in-ByRow.row c.in-ByRow.low c.in-ByRow.high c.in-ByRow.is in
    let before = rw c.get.ensures at c.in-Ok.ensures in
    let bad = rw c.get-in-Ok.ensures at c.in-Err-check_tree.ensures in
    omega (arith, sum, c.requires.few, before.counted, bad_within c.args.slot.now bad)

pub returns-in-Err : goal.returns-in-Err
returns-in-Err t c =
    rw c.in-ByRow.is (bad_low c.args.slot.now c.args.rows.now c.in-Some.low_rows.now c.in-ByRow.row c.in-Some.high_rows.now c.in-ByRow.low c.in-ByRow.high c.in-ByRow.number
    c.in-Some.ensures.0 c.in-Some.ensures.1 c.in-Err.at (rw c.get.ensures at c.in-Err.ensures))

pub returns-in-Err-check_tree : goal.returns-in-Err-check_tree
returns-in-Err-check_tree t c =
    rw c.in-ByRow.is (bad_high c.args.slot.now c.args.rows.now c.in-Some.low_rows.now c.in-ByRow.row c.in-Some.high_rows.now c.in-ByRow.low c.in-ByRow.high c.in-ByRow.number
    c.in-Some.ensures.0 c.in-Some.ensures.1 c.in-Ok.before c.in-Err-check_tree.at (rw c.get.ensures at c.in-Ok.ensures) (rw c.get-in-Ok.ensures at c.in-Err-check_tree.ensures))

pub returns-in-Ok-check_tree : goal.returns-in-Ok-check_tree
returns-in-Ok-check_tree t c =
    rw c.in-ByRow.is (both_checked c.args.slot.now c.args.rows.now c.in-Some.low_rows.now c.in-ByRow.row c.in-Some.high_rows.now c.in-ByRow.low c.in-ByRow.high c.in-ByRow.number
    c.in-Some.ensures.0 c.in-Some.ensures.1 c.in-Ok.before c.in-Ok-check_tree.more (rw c.get.ensures at c.in-Ok.ensures) (rw c.get-in-Ok.ensures at c.in-Ok-check_tree.ensures))
