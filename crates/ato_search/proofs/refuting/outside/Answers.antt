use Rattle.std.proofs.Common.{refl}
use Rattle.std.proofs.lemmas.Bool.{false≢true}
use Rattle.ato_search.proofs.FailingLemmas.{low_end_fails, high_end_fails, high_end_outside, less_since}
use Rattle.ato_search.proofs.refuting.outside.Goals as goal

pub returns-then-is_at_most : goal.returns-then-is_at_most
returns-then-is_at_most c =
    high_end_fails c.args.slot.now c.args.row.now c.one.result c.one.ensures (high_end_outside c.args.slot.now c.args.row.now c.requires (c.if-is_at_most.ensures.0 refl))

pub returns-else-is_at_most : goal.returns-else-is_at_most
returns-else-is_at_most c = low_end_fails c.args.slot.now c.args.row.now c.zero.result c.zero.ensures (less_since (λ h. false≢true (c.if-is_at_most.ensures.1 h)))
