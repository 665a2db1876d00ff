use Rattle.std.proofs.Common.{ℕ, Vec, Global, ◌≡◌, ◌<◌, ◌≤◌, [], length, get_or, subst, ◌∙◌, ap, arith}
use Rattle.std.proofs.lemmas.List.{get_or_read}
use Rattle.ato_nets.proofs.FloodLemmas.{row_within, look_new_at, look_old_at, look_ends}
use Rattle.ato_nets.proofs.classes.number_neighbours.Goals.{After-as_slice-row, then-numbers-next+in_ok-push, else-numbers-next}
use Rattle.ato_nets.proofs.classes.number_neighbours.Goals as goal

row_is : (c : After-as_slice-row) → c.as_slice-row.result.now ≡ get_or c.args.rows.now c.args.point []
row_is c = c.as_slice-row.ensures ∙ get_or_read c.args.rows.now c.args.point c.index-rows-point.result c.requires.point_inside c.index-rows-point.is []

pub bounds-numbers-next : goal.bounds-numbers-next
bounds-numbers-next c =
    let within : get_or c.as_slice-row.result.now c.loop-next.next-index 0 < length c.args.rows.now =
    row_within c.as_slice-row.result.now c.args.point c.loop-next.next-index c.requires.mutual (row_is (goal.at.bounds-numbers-next c).After-as_slice-row) c.loop-next-test.true in
    omega arith

pub offset_bounds-numbers-next : goal.offset_bounds-numbers-next
offset_bounds-numbers-next c =
    let within : get_or c.as_slice-row.result.now c.loop-next.next-index 0 < length c.args.rows.now =
    row_within c.as_slice-row.result.now c.args.point c.loop-next.next-index c.requires.mutual (row_is (goal.at.offset_bounds-numbers-next c).After-as_slice-row) c.loop-next-test.true in
    omega arith

pub loop-next-preserved : goal.loop-next-preserved
loop-next-preserved c = elim c.if-numbers-next.branch [
  | then-numbers-next+in_ok-push w ↦
      look_new_at c.as_slice-row.result.now _ _ (row_is (goal.at.loop-next-preserved c).After-as_slice-row) c.requires.mutual c.requires.start_inside
      c.loop-next.invariant c.loop-next-test.true w.if-numbers-next.true w.numbers-is (ap (λ (v : Vec ℕ Global). v.items) w.stack-is ∙ w.in_ok-push.ensures.items)
  | else-numbers-next w ↦
      look_old_at c.as_slice-row.result.now _ _ (row_is (goal.at.loop-next-preserved c).After-as_slice-row) c.requires.mutual c.requires.start_inside
      c.loop-next.invariant c.loop-next-test.true w.if-numbers-next.false w.numbers-is (ap (λ (v : Vec ℕ Global). v.items) w.stack-is)
]

pub returns-clause-flooded : goal.returns-clause-flooded
returns-clause-flooded c =
    look_ends c.loop-next.invariant (subst (λ row. length row ≤ c.loop-next.next-index) (row_is (goal.at.returns-clause-flooded c).After-as_slice-row) c.loop-next-test.false)
