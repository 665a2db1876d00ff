use Rattle.std.proofs.Common.{ℕ, Vec, Global, ◌+◌, [], subst, sym, ap, ◌∙◌}
use Rattle.ato_nets.specs.Flooding.{IsFlooded}
use Rattle.ato_nets.proofs.FloodLemmas.{flood_ends, flood_passed}
use Rattle.ato_nets.proofs.classes.number_all.Goals.{then-numbers-start+in_ok-flood_class, else-numbers-start}
use Rattle.ato_nets.proofs.classes.number_all.Goals as goal

pub loop-start-preserved : goal.loop-start-preserved
loop-start-preserved c = elim c.if-numbers-start.branch [
  | then-numbers-start+in_ok-flood_class w ↦ (
    subst (λ numbers. IsFlooded c.args.rows.now (c.loop-start.start + 1) (c.loop-start.start + 1) numbers []) (sym w.numbers-is) (flood_ends w.in_ok-flood_class.ensures.flooded),
    ap (λ (v : Vec ℕ Global). v.items) w.stack-is ∙ w.in_ok-flood_class.ensures.empty,
  )
  | else-numbers-start w ↦ (
    subst (λ numbers. IsFlooded c.args.rows.now (c.loop-start.start + 1) (c.loop-start.start + 1) numbers []) (sym w.numbers-is)
        (flood_passed c.loop-start.invariant.0 c.loop-start-test.true w.if-numbers-start.false),
    ap (λ (v : Vec ℕ Global). v.items) w.stack-is ∙ c.loop-start.invariant.1,
  )
]
