use Rattle.std.proofs.lemmas.Result.{err_from_is_err_and}
use Rattle.ato_cert.proofs.TreeReading.{because, no_line, no_low, no_high, tree_empty, tree_fails, tree_row, line_is}
use Rattle.ato_cert.proofs.reading.+read_tree.Goals as goal

pub returns-in_err-line : goal.returns-in_err-line
returns-in_err-line t c =
    let p = err_from_is_err_and c.from_residual.result c.from_residual.ensures.1 in
    rw (p.1, p.2) (because (no_line c.args.count c.args.above c.args.text.now) _ c.in_err-line.ensures)

pub returns-in_err-low-in-Row : goal.returns-in_err-low-in-Row
returns-in_err-low-in-Row t c =
    let p = err_from_is_err_and c.from_residual-in_err-low-in-Row.result c.from_residual-in_err-low-in-Row.ensures.1 in
    let r = line_is c.in-Row.is c.in_ok-line.ensures in
    rw (p.1, p.2) (because (no_low c.args.count c.args.above c.args.text.now c.in-Row.slot c.in-Row.row c.in_ok-line.rest.now r) _ c.in_err-low-in-Row.ensures)

pub returns-in_err-high-in-Row : goal.returns-in_err-high-in-Row
returns-in_err-high-in-Row t c =
    let p = err_from_is_err_and c.from_residual-in_err-high-in-Row.result c.from_residual-in_err-high-in-Row.ensures.1 in
    let r = line_is c.in-Row.is c.in_ok-line.ensures in
    rw (p.1, p.2) (because (no_high c.args.count c.args.above c.args.text.now c.in-Row.slot c.in-Row.row c.in_ok-line.rest.now r
    c.in_ok-low-in-Row.low c.in_ok-low-in-Row.rest.now c.in_ok-low-in-Row.ensures) _ c.in_err-high-in-Row.ensures)

pub returns-in-Empty : goal.returns-in-Empty
returns-in-Empty t c =
    tree_empty c.args.count c.args.above c.args.text.now c.in-Empty.slot c.in_ok-line.rest.now (line_is c.in-Empty.is c.in_ok-line.ensures)

pub returns-in-Fails : goal.returns-in-Fails
returns-in-Fails t c =
    tree_fails c.args.count c.args.above c.args.text.now c.in-Fails.check c.in-Fails.point c.in_ok-line.rest.now (line_is c.in-Fails.is c.in_ok-line.ensures)

pub returns-in_ok-tree-in-Row : goal.returns-in_ok-tree-in-Row
returns-in_ok-tree-in-Row t c =
    let r = line_is c.in-Row.is c.in_ok-line.ensures in
    rw c.in_ok-tree-in-Row.ensures (tree_row c.args.count c.args.above c.args.text.now c.in-Row.slot c.in-Row.row c.in_ok-line.rest.now r
    c.in_ok-low-in-Row.low c.in_ok-low-in-Row.rest.now c.in_ok-low-in-Row.ensures c.in_ok-high-in-Row.high c.in_ok-high-in-Row.rest.now c.in_ok-high-in-Row.ensures)
