-- What a check finds of the bytes of a certificate, and what it prints of them.
use Rattle.std.specs.Prelude.{◌≡◌, ℕ, List}
use Rattle.ato_cert.specs.Readable.{IsReadable}
use Rattle.ato_cert.specs.Texts.{cert_text, proof_word}
use Rattle.ato_cert.specs.Valid.{IsValid}
use Rattle.ato_cert.specs.declared.cert.Cert.{Cert}
use Rattle.ato_cert.specs.declared.cert.Verdict.TheVariants.{Refuted}
use Rattle.ato_cert.specs.declared.cert.Proof.{Proof}
use Rattle.ato_cert.specs.declared.cert.Proof.TheVariants.{Built, Tree}
use Rattle.ato_cert.specs.declared.problem.Problem.{Problem}
use Rattle.ato_check.specs.FirstBad.{IsFirstBad}
use Rattle.ato_build.specs.Boards.{Board, IsGood, NoGood, IsProblemOf, IsValidOn}
use Rattle.ato_build.specs.Texts.{accepted_text, rejected_text}
use Rattle.ato_build.specs.declared.status.Status.{Status}
use Rattle.ato_build.specs.declared.status.Status.TheVariants as answers

-- What a certificate says of a board: that its pick is good, or that no pick is.
abbrev pub SaysOfBoard : Board → Proof → Type 0
SaysOfBoard board (Built pick boxes) = IsGood board pick
SaysOfBoard board (Tree Refuted tree) = NoGood board

-- The bytes are the text of a valid certificate, whoever wrote it. What it says is so, and its verdict is printed.
pub record Accepts (board : Board) (bytes text : List ℕ) : Type 0 where
  pub cert : Cert
  pub bytes_are : bytes ≡ cert_text cert
  pub valid : IsValidOn board cert
  pub says : SaysOfBoard board cert.proof
  pub text_is : text ≡ accepted_text (proof_word cert.proof)

-- The bytes are the text of no valid certificate.
abbrev pub IsNoValidCertificate : Board → List ℕ → Type 0
IsNoValidCertificate board bytes = (cert : Cert) → bytes ≡ cert_text cert → IsValidOn board cert → ⊥

-- Of each certificate of the form whose text the bytes are, this is the first bad line.
abbrev pub IsFirstBadLine : Board → List ℕ → ℕ → Type 0
IsFirstBadLine board bytes line =
    (problem : Problem) (cert : Cert) → IsProblemOf board problem → IsReadable problem cert → bytes ≡ cert_text cert → IsFirstBad problem cert line

-- The bytes are the text of no valid certificate, and a line is printed: the first bad one, where they are the text of a certificate.
pub record Rejects (board : Board) (bytes : List ℕ) (line : ℕ) (text : List ℕ) : Type 0 where
  pub none_valid : IsNoValidCertificate board bytes
  pub first_bad : IsFirstBadLine board bytes line
  pub text_is : text ≡ rejected_text line

-- What is found of the bytes, by the status that the check ends with where all goes well.
abbrev pub IsJudgement : Board → List ℕ → Status → List ℕ → Type 0
IsJudgement board bytes answers.Accepted text = Accepts board bytes text
IsJudgement board bytes (answers.Rejected line) text = Rejects board bytes line text
IsJudgement board bytes status text = ⊥

-- The same of a problem: the bytes are the text of a certificate that is valid for it, or of none, with their first bad line.
abbrev pub IsJudged : Problem → List ℕ → Status → List ℕ → Type 0
IsJudged problem bytes answers.Accepted text = (cert : Cert) × (bytes ≡ cert_text cert) × IsValid problem cert × (text ≡ accepted_text (proof_word cert.proof))
IsJudged problem bytes (answers.Rejected line) text =
    ((cert : Cert) → bytes ≡ cert_text cert → IsValid problem cert → ⊥)
    × ((cert : Cert) → IsReadable problem cert → bytes ≡ cert_text cert → IsFirstBad problem cert line)
    × (text ≡ rejected_text line)
IsJudged problem bytes status text = ⊥
