use Rattle.std.proofs.Common.{refl, sym, ◌∙◌}
use Rattle.ato_first.proofs.Bytes.{number_without}
use Rattle.ato_first.proofs.PartLineLemmas.{no_low, no_high}
use Rattle.ato_first.proofs.part_lines.range_of.Goals as goal
use Rattle.ato_first.proofs.part_lines.range_of.Goals.{else-is_short_number-via-then-is_short_number+else-is_short_number-2, else-is_short_number-via-else-is_short_number}

pub returns-in_err-low : goal.returns-in_err-low
returns-in_err-low c = rw c.from_residual.ensures (λ low high l h e. c.in_err-low.ensures low high (number_without 32 refl low l) e)

pub returns-else-is_short_number : goal.returns-else-is_short_number
returns-else-is_short_number c =
    elim c.else-is_short_number.branch [
      | else-is_short_number-via-then-is_short_number+else-is_short_number-2 w ↦
          no_high c.args.text.now c.in_ok-low.low.now c.in_ok-low.high.now c.in_ok-low.ensures.0 c.in_ok-low.ensures.1 (sym w.is_short_number-then-is_short_number.ensures ∙ w.if-is_short_number-2.false)
      | else-is_short_number-via-else-is_short_number w ↦
          no_low c.args.text.now c.in_ok-low.low.now c.in_ok-low.high.now c.in_ok-low.ensures.0 c.in_ok-low.ensures.1 (sym c.is_short_number.ensures ∙ w.if-is_short_number.false)
    ]
