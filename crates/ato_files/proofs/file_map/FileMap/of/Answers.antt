use Rattle.std.proofs.Common.{ℕ, List, Some, None, sym, ◌∙◌, ◌≡◌, ap, arith}
use Rattle.std.specs.Prelude.{if◌then◌else◌}
use Rattle.std.specs.Option.{option_or}
use Rattle.std.specs.Str.{bytes_eq}
use Rattle.ato_files.specs.declared.file_map.FileMap.{FileMap}
use Rattle.ato_files.specs.FileMaps.{number_in}
use Rattle.ato_files.proofs.FileMapLemmas.{behind_more, behind_first}
use Rattle.ato_files.proofs.file_map.FileMap.of.Goals.{then-number-gt0+in_ok-put, else-number-gt0}
use Rattle.ato_files.proofs.file_map.FileMap.of.Goals as goal

pub loop-number-preserved : goal.loop-number-preserved
loop-number-preserved c = λ text. elim c.if-number-gt0.branch [
  | then-number-gt0+in_ok-put w ↦ (
      let name : w.as_bytes.result.now ≡ c.index-files-number.result.name = w.as_bytes.ensures.value ∙ w.as_str.ensures in
      ap (λ (m : FileMap). number_in m text) w.map-is ∙ w.in_ok-put.ensures text
      ∙ ap (λ (n : List ℕ). option_or (number_in c.loop-number.map text) (if bytes_eq text n then Some c.loop-number.number else None)) name
      ∙ ap (λ o. option_or o (if bytes_eq text c.index-files-number.result.name then Some c.loop-number.number else None)) (c.loop-number.invariant text)
      ∙ sym (behind_more c.args.files.now c.loop-number.number c.index-files-number.result c.loop-number-test.true c.index-files-number.is text w.if-number-gt0.true))
  | else-number-gt0 w ↦ (
      ap (λ (m : FileMap). number_in m text) w.map-is ∙ c.loop-number.invariant text
      ∙ sym (behind_first c.args.files.now c.loop-number.number c.index-files-number.result c.loop-number-test.true c.index-files-number.is text (omega (arith, w.if-number-gt0.false))))
]
