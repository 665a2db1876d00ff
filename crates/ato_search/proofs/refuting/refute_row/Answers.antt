use Rattle.std.proofs.Common.{◌∷◌, []}
use Rattle.std.proofs.lemmas.Result.{IfOk-weaker}
use Rattle.ato_search.proofs.SearchLemmas.{fails_refuted}
use Rattle.ato_search.proofs.refuting.refute_row.Goals as goal

pub returns : goal.returns
returns c = IfOk-weaker c.failing.result _ _ (λ tree e. rw e (fails_refuted c.args.slot.now (c.args.row.now ∷ []) c.outside.result c.outside.ensures)) c.failing.ensures
