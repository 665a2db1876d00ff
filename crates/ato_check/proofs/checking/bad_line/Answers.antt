use Rattle.std.proofs.Common.{◌-◌, ◌^◌}
use Rattle.ato_cert.specs.Nodes.{nodes}
use Rattle.ato_check.specs.FirstBad as first
use Rattle.ato_check.proofs.WholeLemmas.{too_many}
use Rattle.ato_check.proofs.checking.bad_line.Goals as goal

pub returns-in-Some : goal.returns-in-Some
returns-in-Some c = first.in_proof c.in-Some.ensures

pub returns-else-nodes-cert : goal.returns-else-nodes-cert
returns-else-nodes-cert c =
    let cert = c.args.cert.now in
    first.steps c.in-None.ensures (too_many (nodes cert.proof) (2 ^ 32 - 1) cert.steps c.nodes.result c.nodes.ensures c.if-nodes-cert.false)
