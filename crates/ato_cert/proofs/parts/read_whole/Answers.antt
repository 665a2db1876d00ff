use Rattle.std.proofs.Common.{arith}
use Rattle.std.proofs.lemmas.Result.{err_from_is_err_and}
use Rattle.ato_cert.proofs.TreeReading.{because}
use Rattle.ato_cert.proofs.WholeReading.{no_head, no_steps, no_proof, more_text, whole_text}
use Rattle.ato_cert.proofs.parts.read_whole.Goals as goal

pub returns-in_err-built : goal.returns-in_err-built
returns-in_err-built c =
    let p = err_from_is_err_and c.from_residual.result c.from_residual.ensures.1 in
    rw (p.1, p.2) (because (no_head c.args.count c.args.text.now) _ c.in_err-built.ensures)

pub returns-in_err-steps : goal.returns-in_err-steps
returns-in_err-steps c =
    let p = err_from_is_err_and c.from_residual-in_err-steps.result c.from_residual-in_err-steps.ensures.1 in
    rw (p.1, p.2) (because (no_steps c.args.count c.args.text.now c.in_ok-built.built c.in_ok-built.rest.now c.in_ok-built.ensures) _ c.in_err-steps.ensures)

pub returns-in_err-proof : goal.returns-in_err-proof
returns-in_err-proof c =
    let p = err_from_is_err_and c.from_residual-in_err-proof.result c.from_residual-in_err-proof.ensures.1 in
    rw (p.1, p.2) (because (no_proof c.args.count c.args.text.now c.in_ok-built.built c.in_ok-built.rest.now c.in_ok-built.ensures
    c.in_ok-steps.steps c.in_ok-steps.rest.now c.in_ok-steps.ensures) _ c.in_err-proof.ensures)

pub returns-then-rest-ne0 : goal.returns-then-rest-ne0
returns-then-rest-ne0 c =
    more_text c.args.count c.args.text.now c.in_ok-built.built c.in_ok-built.rest.now c.in_ok-built.ensures
    c.in_ok-steps.steps c.in_ok-steps.rest.now c.in_ok-steps.ensures c.in_ok-proof.proof c.in_ok-proof.rest.now c.in_ok-proof.ensures (omega arith)

pub returns : goal.returns
returns c =
    whole_text c.args.count c.args.text.now c.in_ok-built.built c.in_ok-built.rest.now c.in_ok-built.ensures
    c.in_ok-steps.steps c.in_ok-steps.rest.now c.in_ok-steps.ensures c.in_ok-proof.proof c.in_ok-proof.rest.now c.in_ok-proof.ensures (omega arith)
