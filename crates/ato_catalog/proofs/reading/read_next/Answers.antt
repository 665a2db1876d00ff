use Rattle.std.proofs.Common.{◌≡◌, ◌+◌, ◌<◌, ◌^◌, true, false, arith, rules}
use Rattle.std.specs.Prelude.{not}
use Rattle.csv.specs.Records.{fields_of}
use Rattle.ato_catalog.specs.Limits.{most_rows}
use Rattle.ato_catalog.specs.Parts.{has_part}
use Rattle.ato_catalog.specs.Rows.{AreValues, is_whole, part_in}
use Rattle.ato_catalog.proofs.CatalogueLaws.{twice_fault}
use Rattle.std.proofs.Math.Facts.{Fits-of_lt}
use Rattle.ato_catalog.proofs.LimitLaws.{few_rows}
use Rattle.ato_catalog.proofs.reading.read_next.Goals as goal

pub overflow_cast-number : goal.overflow_cast-number
overflow_cast-number c = Fits-of_lt (let few : c.args.before + 1 < 2 ^ 32 = few_rows c.args.before c.requires.few in omega arith)

pub overflow_add-number : goal.overflow_add-number
overflow_add-number c = Fits-of_lt (let few : c.args.before + 1 < 2 ^ 32 = few_rows c.args.before c.requires.few in omega arith)

pub returns-then-not-branch-clause-fault : goal.returns-then-not-branch-clause-fault
returns-then-not-branch-clause-fault c =
    let layout = c.args.layout.now in
    let cells = fields_of c.args.row.now in
    let few : c.args.before < most_rows = omega (arith, c.requires.most) in
    let whole : is_whole c.args.layout.now (fields_of c.args.row.now) ≡ true = search rules in
    let good : AreValues c.args.layout.now.roles (fields_of c.args.row.now) c.in-Good.values = search rules in
    let is : c.in_ok-note_part.field-0 ≡ not (has_part c.args.parts.now (part_in c.args.layout.now (fields_of c.args.row.now))) = search rules in
    let old : c.in_ok-note_part.field-0 ≡ false = search rules in
    rw c.fault-then-not-branch.ensures
    (twice_fault layout c.args.before (has_part c.args.parts.now (part_in layout cells)) c.in_ok-note_part.field-0 cells c.in-Good.values few whole good is old)
