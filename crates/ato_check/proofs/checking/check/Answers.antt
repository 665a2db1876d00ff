use Rattle.ato_check.proofs.WholeLemmas.{not_valid}
use Rattle.ato_check.proofs.checking.check.Goals as goal

pub returns-in-Some : goal.returns-in-Some
returns-in-Some c = record { right = (not_valid c.args.problem.now c.args.cert.now c.in-Some.line c.requires.made c.in-Some.ensures, c.in-Some.ensures) }
