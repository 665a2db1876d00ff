use Rattle.std.proofs.Common.{inr, ⊎_elim, ◌≤◌, length, ap, ◌∙◌, arith}
use Rattle.ato_expr.specs.Scratches.{Notes}
use Rattle.ato_expr.proofs.scratch.Scratch.mark.Goals as goal

pub end_of-end-requires : goal.end_of-end-requires
end_of-end-requires c = λ r h. let there = c.requires.roots r h in omega (arith, there, c.count.ensures.count)

pub mark_all-from-requires-clause-nodes : goal.mark_all-from-requires-clause-nodes
mark_all-from-requires-clause-nodes c = λ r h.
    let there = c.requires.roots r h in
    let marks = ap length (c.as_mut_slice-marks.ensures.value ∙ ap (λ (n : Notes). n.marks) c.self.view_is) in
    omega (arith, there, marks, c.requires.room.marks)

pub mark_below-first-requires-clause-roots : goal.mark_below-first-requires-clause-roots
mark_below-first-requires-clause-roots c = λ k h. (
  λ s. ⊎_elim (λ u. absurd (let from : c.end_of-end.result ≤ k = u.from in omega arith)) (λ r. r) ((c.mark_all-from.ensures.marked k).0 s),
  λ r. (c.mark_all-from.ensures.marked k).1 (inr r),
)
