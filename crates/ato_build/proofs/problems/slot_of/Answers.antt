use Rattle.std.proofs.Common.{arith, length, ap}
use Rattle.ato_build.proofs.ProblemLemmas.{slot_shows, slot_well_made, few_rows}
use Rattle.ato_build.proofs.problems.slot_of.Goals as goal

pub returns-clause-made : goal.returns-clause-made
returns-clause-made c =
    slot_well_made c.args.catalog.now c.args.part.now.kind.now c.args.part.now.attribute.now c.in_ok-rows_of.field-0 c.whole.result c.whole-2.result c.args.part.now.low c.args.part.now.high
    c.requires.made c.in_ok-rows_of.ensures c.whole.ensures c.whole-2.ensures c.requires.order

pub returns-clause-few : goal.returns-clause-few
returns-clause-few c =
    omega (arith, ap length c.in_ok-rows_of.ensures, few_rows c.args.catalog.now.columns c.args.part.now.kind.now c.args.part.now.attribute.now 1 c.args.catalog.now.rows, c.requires.made.few_rows)

pub returns-clause-slot : goal.returns-clause-slot
returns-clause-slot c =
    slot_shows (record { kind = c.args.part.now.kind.now; attribute = c.args.part.now.attribute.now; low = c.args.part.now.low; high = c.args.part.now.high }) c.args.catalog.now
    c.in_ok-rows_of.field-0 c.whole.result c.whole-2.result c.in_ok-rows_of.ensures c.whole.ensures c.whole-2.ensures
