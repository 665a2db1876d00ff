use Rattle.std.proofs.Common.{refl, arith}
use Rattle.std.proofs.lemmas.Bool.{false≢true}
use Rattle.ato_search.proofs.SearchLemmas.{first_at, none_more, none_whole}
use Rattle.ato_search.proofs.searching.first_in_target.Goals as goal

pub returns-then-has_in_target : goal.returns-then-has_in_target
returns-then-has_in_target c =
    first_at c.args.slot.now c.as_slice-row-items.result.now c.loop-row.row-index c.row-item.result c.loop-row.invariant.1 c.loop-row-test.true
    c.row-item.is (c.if-has_in_target.ensures.0 refl) c.loop-row.invariant.0

pub loop-row-preserved : goal.loop-row-preserved
loop-row-preserved c = (
  none_more c.args.slot.now c.as_slice-row-items.result.now c.loop-row.row-index c.row-item.result c.loop-row-test.true c.loop-row.invariant.0 c.row-item.is
      (λ h. false≢true (c.if-has_in_target.ensures.1 h)),
  c.loop-row.invariant.1,
)

pub returns : goal.returns
returns c = none_whole c.args.slot.now c.as_slice-row-items.result.now c.args.slot.now.rows c.loop-row.row-index c.loop-row.invariant.1 (omega arith) c.loop-row.invariant.0
