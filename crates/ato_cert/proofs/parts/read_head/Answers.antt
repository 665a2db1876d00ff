use Rattle.ato_cert.proofs.CertReading.{head_none, head_neither}
use Rattle.ato_cert.proofs.parts.read_head.Goals as goal

pub returns-in_default : goal.returns-in_default
returns-in_default c = head_none c.args.text.now c.in_default.ensures.back

pub returns-in-None : goal.returns-in-None
returns-in-None c = head_neither c.args.text.now c.in-Some.rest.now c.in-Some.ensures.stands c.in_default-after.ensures.back c.in-None.ensures.back
