use Rattle.std.proofs.Common.{◌<◌, ◌+◌, length, get_or, take, subst, sym, ap, ◌∙◌, arith}
use Rattle.ato_nets.specs.Flooding.{AreRows, with_neighbour}
use Rattle.ato_nets.proofs.RowLemmas.{rows_more}
use Rattle.ato_nets.proofs.classes.add_joins.Goals as goal

pub loop-first-preserved : goal.loop-first-preserved
loop-first-preserved c =
    let within : c.loop-first.first-index < length c.args.joins.now = omega arith in
    let inside = c.requires.inside c.loop-first.first-index (0, 0) within in
    subst (AreRows (take (c.loop-first.first-index + 1) c.args.joins.now))
    (sym (c.in_ok-add_neighbour-2.ensures ∙ ap (λ rows. with_neighbour rows (get_or c.args.joins.now c.loop-first.first-index (0, 0)).1 (get_or c.args.joins.now c.loop-first.first-index (0, 0)).0) c.in_ok-add_neighbour.ensures))
    (rows_more c.args.joins.now c.loop-first.first-index c.loop-first.rows within
    (subst (λ n. (get_or c.args.joins.now c.loop-first.first-index (0, 0)).0 < n) (sym c.loop-first.auto.rows) inside.0)
    (subst (λ n. (get_or c.args.joins.now c.loop-first.first-index (0, 0)).1 < n) (sym c.loop-first.auto.rows) inside.1)
    c.loop-first.invariant)
