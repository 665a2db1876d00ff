use Rattle.std.proofs.Common.{rules}
use Rattle.std.proofs.lemmas.Result.{IfOk-weaker}
use Rattle.ato_cert.specs.Justified.{LiesInTarget}
use Rattle.ato_cert.proofs.HalvesLaws.{low_rising, high_rising, low_all, high_all, low_fewer, high_fewer}
use Rattle.ato_search.proofs.SearchLemmas.{empty_at, halves_refuted}
use Rattle.ato_search.proofs.refuting.+refute.Goals as goal

pub refute-requires : goal.refute-requires
refute-requires t c =
    let h = c.halves-number.ensures in
    (search (rules, low_fewer h, c.decreases), (low_rising h c.requires.rising, low_all (λ row. ¬ LiesInTarget c.args.slot.now row) h c.requires.outside))

pub refute-requires-in_default : goal.refute-requires-in_default
refute-requires-in_default t c =
    let h = c.halves-number.ensures in
    (search (rules, high_fewer h, c.decreases), (high_rising h c.requires.rising, high_all (λ row. ¬ LiesInTarget c.args.slot.now row) h c.requires.outside))

pub returns-in-empty : goal.returns-in-empty
returns-in-empty t c = empty_at c.args.slot.now c.args.rows.now c.in-empty.len_below

pub returns-in_ok-high-in_default : goal.returns-in_ok-high-in_default
returns-in_ok-high-in_default t c =
    IfOk-weaker c.divided.result _ _
    (λ tree e. rw e (halves_refuted c.args.slot.now c.args.rows.now c.halves-number.result.0.now c.halves-number.result.1 c.halves-number.result.2.now _ _
    c.halves-number.ensures c.in_ok-low-in_default.ensures c.in_ok-high-in_default.ensures))
    c.divided.ensures
