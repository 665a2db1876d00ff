use Rattle.ato_first.proofs.PartLineLemmas.{no_claim, no_claim_name, no_claim_range}
use Rattle.ato_first.proofs.part_lines.assertion_of.Goals as goal

pub returns-in_err-word : goal.returns-in_err-word
returns-in_err-word c = rw c.from_residual-in_err-word.ensures (no_claim c.args.text.now c.in_ok-claim.claim.now c.in_ok-claim.ensures c.in_err-word.ensures)

pub returns-in_err-name : goal.returns-in_err-name
returns-in_err-name c =
    rw c.from_residual-in_err-name.ensures
    (no_claim_name c.args.text.now c.in_ok-claim.claim.now c.in_ok-word.word.now c.in_ok-word.range.now c.in_ok-claim.ensures c.in_ok-word.ensures.0 c.in_ok-word.ensures.1 c.in_err-name.ensures)

pub returns-in_err-low : goal.returns-in_err-low
returns-in_err-low c =
    rw c.from_residual-in_err-low.ensures
    (no_claim_range c.args.text.now c.in_ok-claim.claim.now c.in_ok-word.word.now c.in_ok-word.range.now c.in_ok-claim.ensures c.in_ok-word.ensures.0 c.in_ok-word.ensures.1 c.in_err-low.ensures)
