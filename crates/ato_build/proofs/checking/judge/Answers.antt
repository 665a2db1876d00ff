use Rattle.std.proofs.Common.{subst}
use Rattle.ato_cert.specs.Refusals.{RefusesBytes}
use Rattle.ato_check.specs.Checks.{IsRight}
use Rattle.ato_build.proofs.CheckLemmas.{bad_bytes, invalid_bytes, no_bad_line, one_bad_line, rejected_judged}
use Rattle.ato_build.proofs.checking.judge.Goals as goal

pub returns-in-Ok-clause-judged : goal.returns-in-Ok-clause-judged
returns-in-Ok-clause-judged c =
    rejected_judged c.args.problem.now c.args.bytes.now c.in-Rejected.line c.rejected.result
    (λ small. invalid_bytes c.args.problem.now c.args.bytes.now c.in-Ok.cert c.requires.few small c.in-Ok.ensures.only
    (subst (IsRight c.args.problem.now c.in-Ok.cert) c.in-Rejected.is c.in_ok-check-in-Ok.ensures.right).0)
    (one_bad_line c.args.problem.now c.args.bytes.now c.in-Ok.cert c.in-Rejected.line c.in-Ok.ensures.only
    (subst (IsRight c.args.problem.now c.in-Ok.cert) c.in-Rejected.is c.in_ok-check-in-Ok.ensures.right).1)
    c.rejected.ensures.status c.rejected.ensures.said

pub returns-in-Bad-clause-judged : goal.returns-in-Bad-clause-judged
returns-in-Bad-clause-judged c =
    rejected_judged c.args.problem.now c.args.bytes.now c.in-Bad.line c.rejected-in-Bad.result
    (λ small. bad_bytes c.args.problem.now c.args.bytes.now c.requires.few small (subst (RefusesBytes c.args.problem.now c.args.bytes.now) c.in-Bad.is c.in-Err.ensures.bad))
    (no_bad_line c.args.problem.now c.args.bytes.now c.in-Bad.line (subst (RefusesBytes c.args.problem.now c.args.bytes.now) c.in-Bad.is c.in-Err.ensures.bad))
    c.rejected-in-Bad.ensures.status c.rejected-in-Bad.ensures.said
