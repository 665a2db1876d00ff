use Rattle.std.proofs.Common.{◌∙◌, sym, ap, arith}
use Rattle.std.specs.Prelude.{◌||◌}
use Rattle.std.specs.Str.{bytes_eq}
use Rattle.std.proofs.lemmas.Result.{err_from_is_err_and}
use Rattle.csv.specs.Records.{fields_of}
use Rattle.ato_first_catalog.specs.Parts.{has_part}
use Rattle.ato_first_catalog.specs.Rows.{part_in, row_of}
use Rattle.ato_first_catalog.proofs.FirstFault.{first_fault-here, first_fault-more, is_taken-more, map-take-more}
use Rattle.ato_first_catalog.proofs.ShowsLaws.{shows_rows-push}
use Rattle.ato_first_catalog.proofs.reading.read_rows.Goals as goal

pub returns-in_err-read_next-clause-fault : goal.returns-in_err-read_next-clause-fault
returns-in_err-read_next-clause-fault c =
    let p = err_from_is_err_and c.from_residual.result c.from_residual.ensures.1 in
    let layout = c.args.layout.now in
    let part = part_in layout (fields_of c.index-records-before.result) in
    rw (p.1, p.2) (first_fault-here fields_of layout c.args.records.now c.loop-before.before c.index-records-before.result (has_part c.loop-before.parts part) _ _
    c.loop-before-test.true c.index-records-before.is (c.loop-before.invariant.parts part) c.loop-before.invariant.sound c.in_err-read_next.ensures.fault)

pub loop-before-preserved : goal.loop-before-preserved
loop-before-preserved c =
    let layout = c.args.layout.now in
    let row = c.index-records-before.result in
    let part = part_in layout (fields_of row) in
    record {
      few = omega (arith, c.in_ok-read_next.ensures.more);
      rows = rw (c.in_ok-push.ensures.ok, map-take-more (λ row. row_of layout (fields_of row)) c.args.records.now c.loop-before.before row c.loop-before-test.true c.index-records-before.is)
          (shows_rows-push _ _ _ _ c.loop-before.invariant.rows c.in_ok-read_next.ensures.row);
      parts = λ other. c.in_ok-read_next.ensures.parts other
          ∙ (ap (λ b. b || bytes_eq part other) (c.loop-before.invariant.parts other)
          ∙ sym (is_taken-more fields_of layout c.args.records.now c.loop-before.before row other c.loop-before-test.true c.index-records-before.is));
      sound = c.loop-before.invariant.sound
          ∙ first_fault-more fields_of layout c.args.records.now c.loop-before.before row (has_part c.loop-before.parts part) c.loop-before-test.true c.index-records-before.is (c.loop-before.invariant.parts part) c.in_ok-read_next.ensures.sound;
    }
