-- Why bytes are refused as a certificate.
use Rattle.std.specs.Prelude.{◌≡◌, ℕ, List}
use Rattle.ato_cert.specs.declared.problem.Problem.{Problem}
use Rattle.ato_cert.specs.declared.cert.Cert.{Cert}
use Rattle.ato_cert.specs.declared.refusal.CertRefusal.{CertRefusal}
use Rattle.ato_cert.specs.declared.refusal.CertRefusal.TheVariants.{Bad, NoMemory}
use Rattle.ato_cert.specs.Readable.{IsReadable}
use Rattle.ato_cert.specs.Texts.{cert_text}

-- bytes are bad where no certificate of the form over the problem has them as its text
abbrev pub RefusesBytes : Problem → List ℕ → CertRefusal → Type 0
RefusesBytes problem bytes (Bad line) = (cert : Cert) → IsReadable problem cert → cert_text cert ≡ bytes → ⊥
RefusesBytes problem bytes NoMemory = Unit {0}
