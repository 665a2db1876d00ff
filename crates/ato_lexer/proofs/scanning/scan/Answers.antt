use Rattle.std.proofs.Common.{[], ◌++◌, reverse, refl, ap, sym, subst}
use Rattle.std.proofs.lemmas.Result.{err_from_is_err_and}
use Rattle.ato_base.proofs.NameTableLaws.{extends_more}
use Rattle.ato_lexer.specs.Layout.{last_items}
use Rattle.ato_lexer.specs.Puts.{Puts, StopsAt}
use Rattle.ato_lexer.specs.Scans.{scanned}
use Rattle.ato_lexer.specs.Walks.{closing}
use Rattle.ato_lexer.proofs.PutLaws.{table_same}
use Rattle.ato_lexer.proofs.ScanLaws.{scan_begins, scan_goes, scan_stops, scan_fails, scan_ends}
use Rattle.ato_lexer.proofs.scanning.scan.Goals as goal

pub pieces-init : goal.pieces-init
pieces-init c = record {
  utf8 = c.utf8.text;
  scanned = scan_begins c.args.file c.args.start c.args.text.now c.args.names.now c.new-tokens.result (reverse c.new-levels.result.items) c.new-tokens.ensures (ap reverse c.new-levels.ensures.items);
  names = table_same c.args.names.now;
}

pub returns-in-Some-bad_kind-clause-stops : goal.returns-in-Some-bad_kind-clause-stops
returns-in-Some-bad_kind-clause-stops c =
    subst (StopsAt c.args.file (scanned c.args.start c.args.text.now)) (sym c.refusal.ensures)
    (scan_fails c.args.file c.args.start c.args.text.now c.args.names.now c.pieces.names c.pieces.tokens (reverse c.pieces.levels.items) c.pieces.standing c.pieces.at c.pieces.rest.now
    c.in-Some.shape c.in-Some.spelled.now c.in-Some.after.now _ c.in-Some-bad_kind.kind c.pieces.invariant.scanned c.in-Some.ensures refl (sym c.in-Some-bad_kind.ensures))

pub returns-in_err-put_piece-clause-stops : goal.returns-in_err-put_piece-clause-stops
returns-in_err-put_piece-clause-stops c =
    let q = err_from_is_err_and c.from_residual.result c.from_residual.ensures.1 in
    rw (q.1, q.2)
    (scan_stops c.args.file c.args.start c.args.text.now c.args.names.now c.pieces.names c.pieces.tokens (reverse c.pieces.levels.items) c.pieces.standing c.pieces.at c.pieces.rest.now
    c.in-Some.shape c.in-Some.spelled.now c.in-Some.after.now _ c.in_err-put_piece.field-0.0 c.pieces.invariant.scanned c.in-Some.ensures refl (sym c.in_default-bad_kind.ensures) c.in_err-put_piece.ensures.stops)

pub pieces-preserved : goal.pieces-preserved
pieces-preserved c = record {
  utf8 = c.in-Some.ensures.utf8;
  scanned =
      scan_goes c.args.file c.args.start c.args.text.now c.args.names.now c.pieces.names c.pieces.tokens (reverse c.pieces.levels.items) c.pieces.standing c.pieces.at c.pieces.rest.now
      c.put_piece.new.names c.put_piece.new.tokens c.in-Some.shape c.in-Some.spelled.now c.in-Some.after.now _ (reverse c.put_piece.new.levels.items) c.standing_after-standing.result
      c.pieces.invariant.scanned c.in-Some.ensures refl (sym c.in_default-bad_kind.ensures) c.in_ok-put_piece.ensures.puts c.in_ok-put_piece.ensures.levels
      c.standing_after-standing.ensures.value c.standing_after-standing.ensures.room;
  names = extends_more c.args.names.now c.pieces.names c.put_piece.new.names c.pieces.invariant.names c.put_piece.ensures.names;
}

pub returns-clause-puts : goal.returns-clause-puts
returns-clause-puts c =
    scan_ends c.args.file c.args.start c.args.text.now c.args.names.now c.pieces.names c.pieces.tokens (reverse c.pieces.levels.items) c.pieces.standing c.pieces.at c.pieces.rest.now
    c.put_end.new.tokens c.pieces.invariant.scanned c.in_default.ensures
    (subst (λ l. Puts c.args.file c.pieces.names c.pieces.names c.pieces.tokens c.put_end.new.tokens (closing c.pieces.standing ++ last_items (reverse l) c.pieces.at [])) c.as_slice.ensures.value (c.in_ok-put_end.ensures c.pieces.names))
