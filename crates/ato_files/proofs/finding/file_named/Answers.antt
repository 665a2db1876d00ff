use Rattle.std.proofs.Common.{◌+◌, Some, None, sym, ap, ◌∙◌, arith}
use Rattle.std.specs.Prelude.{if◌then◌else◌}
use Rattle.std.specs.Option.{option_or}
use Rattle.std.specs.Str.{bytes_eq}
use Rattle.ato_files.proofs.FileMapLemmas.{behind_more, behind_first, behind_found}
use Rattle.ato_files.proofs.finding.file_named.Goals.{else-number-gt0-via-then-number-gt0+else-eq, else-number-gt0-via-else-number-gt0}
use Rattle.ato_files.proofs.finding.file_named.Goals as goal

pub returns-then-eq : goal.returns-then-eq
returns-then-eq c =
    let i = c.loop-number.number in
    let file = c.index-files-number.result in
    let text = c.args.text.now in
    sym (behind_found c.args.files.now (i + 1) text i
    (behind_more c.args.files.now i file c.loop-number-test.true c.index-files-number.is text c.if-number-gt0.true
    ∙ ap (λ o. option_or o (if bytes_eq text file.name then Some i else None)) c.loop-number.invariant
    ∙ ap (λ b. if b then Some i else None) (ap (bytes_eq text) (sym (c.as_bytes.ensures.value ∙ c.as_str.ensures)) ∙ sym c.if-eq.ensures)))

pub loop-number-preserved : goal.loop-number-preserved
loop-number-preserved c =
    let i = c.loop-number.number in
    let file = c.index-files-number.result in
    let text = c.args.text.now in
    elim c.else-number-gt0.branch [
      | else-number-gt0-via-then-number-gt0+else-eq w ↦ (
          behind_more c.args.files.now i file c.loop-number-test.true c.index-files-number.is text w.if-number-gt0.true
          ∙ ap (λ o. option_or o (if bytes_eq text file.name then Some i else None)) c.loop-number.invariant
          ∙ ap (λ b. if b then Some i else None) (ap (bytes_eq text) (sym (w.as_bytes.ensures.value ∙ w.as_str.ensures)) ∙ sym w.if-eq.ensures))
      | else-number-gt0-via-else-number-gt0 w ↦
          behind_first c.args.files.now i file c.loop-number-test.true c.index-files-number.is text (omega (arith, w.if-number-gt0.false)) ∙ c.loop-number.invariant
    ]
