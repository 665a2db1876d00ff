use Rattle.std.proofs.Common.{sym, arith}
use Rattle.ato_elab.proofs.SettleLemmas.{passes_none, passes_one, strays_one}
use Rattle.ato_elab.proofs.settling.step.Goals as goal

pub returns-then-change-gt0-clause-passes : goal.returns-then-change-gt0-clause-passes
returns-then-change-gt0-clause-passes c = λ are. passes_none c.args.program.now.files c.args.from c.args.change.now (omega arith)

pub returns-then-descends-clause-passes : goal.returns-then-descends-clause-passes
returns-then-descends-clause-passes c = λ are. passes_one c.args.program.now.files c.args.from c.args.change.now (omega arith) (let d = c.descends.ensures are in let t = c.if-descends.true in cc)
