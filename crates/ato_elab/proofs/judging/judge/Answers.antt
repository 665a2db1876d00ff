use Rattle.ato_elab.proofs.JudgingLaws.{judged_from}
use Rattle.ato_elab.proofs.judging.judge.Goals as goal

-- src/judging.rt
pub returns : goal.returns
returns c = judged_from c.args.program.now.files c.args.program.now.names c.args.program.now.blocks c.args.built.now c.in_ok-stmts.stmts c.in_ok-pins.pins _
    c.as_slice.result.now c.as_slice-3.result.now c.as_slice-2.result.now c.as_slice-4.result.now c.as_slice.ensures c.as_slice-3.ensures c.as_slice-2.ensures c.as_slice-4.ensures
    c.in_ok-stmts.ensures c.in_ok-assigned.ensures c.in_ok-pins.ensures c.in_ok-first.ensures
