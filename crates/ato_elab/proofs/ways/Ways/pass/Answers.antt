use Rattle.std.proofs.Common.{subst, arith, ◌++◌, map, take}
use Rattle.ato_elab.specs.Changes.{AreChanges, seen}
use Rattle.ato_elab.proofs.WayLemmas.{map_at}
use Rattle.ato_elab.proofs.ways.Ways.pass.Goals as goal

pub loop-change-preserved : goal.loop-change-preserved
loop-change-preserved c = (
  c.loop-change.invariant.0,
  λ ws was. subst (λ zs. AreChanges zs c.push.new.self) (map_at seen ws c.args.from.now c.loop-change.change-index _ (omega arith))
      (c.in_ok-push.ensures (ws ++ map seen (take c.loop-change.change-index c.args.from.now)) (c.loop-change.invariant.1 ws was)),
)
