-- What a check says of a certificate.
use Rattle.ato_cert.specs.declared.problem.Problem.{Problem}
use Rattle.ato_cert.specs.declared.cert.Cert.{Cert}
use Rattle.ato_cert.specs.Valid.{IsValid}
use Rattle.ato_check.specs.declared.checking.Checked.{Checked}
use Rattle.ato_check.specs.declared.checking.Checked.TheVariants.{Accepted, Rejected}
use Rattle.ato_check.specs.FirstBad.{IsFirstBad}

-- it is accepted where it is valid, and rejected with its first bad line where it is not
abbrev pub IsRight : Problem → Cert → Checked → Type 0
IsRight problem cert Accepted = IsValid problem cert
IsRight problem cert (Rejected line) = (¬ IsValid problem cert) × IsFirstBad problem cert line
