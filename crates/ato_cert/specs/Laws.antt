-- What valid certificates show, and that they have a text.
use Rattle.std.specs.Prelude.{◌<◌, ◌^◌, length}
use Rattle.ato_cert.specs.declared.problem.Problem.{Problem}
use Rattle.ato_cert.specs.declared.cert.Verdict.TheVariants.{Refuted}
use Rattle.ato_cert.specs.declared.cert.Proof.{Proof}
use Rattle.ato_cert.specs.declared.cert.Proof.TheVariants.{Built, Tree}
use Rattle.ato_cert.specs.declared.cert.Cert.{Cert}
use Rattle.ato_cert.specs.Problems.{IsWellMade, HasAtMost, HasNumbersBelow}
use Rattle.ato_cert.specs.Good.{IsGood, NoGood}
use Rattle.ato_cert.specs.Readable.{IsReadable}
use Rattle.ato_cert.specs.Texts.{cert_text}
use Rattle.ato_cert.specs.Valid.{IsValid}

-- what a proof is about: that its pick is good, or that no pick is
abbrev pub Says : Problem → Proof → Type 0
Says problem (Built pick boxes) = IsGood problem pick
Says problem (Tree Refuted tree) = NoGood problem

-- what a valid certificate says is so
abbrev pub IsSound : Type 0
IsSound = (problem : Problem) (cert : Cert) → IsWellMade problem → IsValid problem cert → Says problem cert.proof

-- a valid certificate of at most 10,000 candidates, with numbers below 2^32, has the form of a text, and its text has fewer
-- than 2^30 bytes
abbrev pub IsWritable : Type 0
IsWritable = (problem : Problem) (cert : Cert) → HasAtMost 10000 problem → HasNumbersBelow (2 ^ 32) problem → IsValid problem cert
    → IsReadable problem cert × (length (cert_text cert) < 2 ^ 30)
