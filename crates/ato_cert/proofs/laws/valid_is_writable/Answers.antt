use Rattle.ato_cert.proofs.WritableLaws.{valid_writable}
use Rattle.ato_cert.proofs.laws.valid_is_writable.Goals as goal

pub returns : goal.returns
returns c = valid_writable
