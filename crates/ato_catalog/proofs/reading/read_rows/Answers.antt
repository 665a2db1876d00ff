use Rattle.std.proofs.lemmas.Result.{err_from_is_err_and}
use Rattle.std.proofs.Common.{arith, sym, ap, ◌∙◌}
use Rattle.std.specs.Prelude.{◌||◌}
use Rattle.std.specs.Str.{bytes_eq}
use Rattle.csv.specs.Records.{fields_of}
use Rattle.ato_catalog.specs.Parts.{has_part}
use Rattle.ato_catalog.specs.Rows.{part_in}
use Rattle.ato_catalog.proofs.CatalogueLaws.{parts_more, refused_here, rows_more}
use Rattle.ato_catalog.proofs.reading.read_rows.Goals as goal

pub returns-in_err-read_next-clause-fault : goal.returns-in_err-read_next-clause-fault
returns-in_err-read_next-clause-fault c =
    let p = err_from_is_err_and c.from_residual-in_err-read_next.result c.from_residual-in_err-read_next.ensures.1 in
    let layout = c.args.layout.now in
    let part = part_in layout (fields_of c.index-records-before.result) in
    rw (p.1, p.2) (refused_here fields_of layout c.args.records.now c.loop-before.before c.index-records-before.result c.loop-before.rows (has_part c.loop-before.parts part) _
    c.loop-before.invariant.rows c.loop-before-test.true c.index-records-before.is (c.loop-before.invariant.parts part) c.in_err-read_next.ensures.fault)

pub loop-before-preserved : goal.loop-before-preserved
loop-before-preserved c =
    let layout = c.args.layout.now in
    let row = c.index-records-before.result in
    let part = part_in layout (fields_of row) in
    let inside = c.loop-before-test.true in
    record {
      few = omega (arith, c.in_ok-read_next.ensures.sound.few);
      rows = rw c.in_ok-push.ensures.ok (rows_more fields_of layout c.args.records.now c.loop-before.before row c.loop-before.rows _ (has_part c.loop-before.parts part) c.loop-before.invariant.rows inside
          c.index-records-before.is (c.loop-before.invariant.parts part) c.in_ok-read_next.ensures.sound c.in_ok-read_next.ensures.row);
      parts = λ other. c.in_ok-read_next.ensures.parts other
          ∙ (ap (λ b. b || bytes_eq part other) (c.loop-before.invariant.parts other)
          ∙ sym (parts_more fields_of layout c.args.records.now c.loop-before.before row other inside c.index-records-before.is));
    }
