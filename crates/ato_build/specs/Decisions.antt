-- What a build decides: which files it puts, and what it prints of them.
use Rattle.std.specs.Prelude.{◌≡◌, ℕ, List, [], ◌∷◌, ◌++◌, codes}
use Rattle.ato_base.specs.declared.nets.NetList.{NetList}
use Rattle.ato_cert.specs.Nodes.{nodes}
use Rattle.ato_cert.specs.Texts.{cert_text}
use Rattle.ato_cert.specs.declared.cert.BoxTree.{BoxTree}
use Rattle.ato_cert.specs.declared.cert.Cert.{Cert}
use Rattle.ato_cert.specs.declared.cert.PickTree.{PickTree}
use Rattle.ato_cert.specs.declared.cert.Proof.TheVariants as proofs
use Rattle.ato_cert.specs.declared.cert.Verdict.TheVariants as verdicts
use Rattle.ato_writers.specs.Netlists.{list_text}
use Rattle.ato_build.specs.Boards.{Board, IsGood, IsFirstGood, NoGood, IsListFor, IsValidOn, slots_of}
use Rattle.ato_build.specs.Texts.{summary_text}
use Rattle.ato_build.specs.declared.outputs.Output.{Output}
use Rattle.ato_build.specs.declared.status.Status.{Status}
use Rattle.ato_build.specs.declared.status.Status.TheVariants as answers
use Rattle.ato_build.specs.declared.project.Options.{Options}

-- the files of a build
abbrev pub net_output : Options → NetList → Output
net_output options list = record { name = options.out ++ codes ".net"; bytes = list_text list }

abbrev pub cert_output : Options → Cert → Output
cert_output options cert = record { name = options.out ++ codes ".cert"; bytes = cert_text cert }

-- The certificate is valid for the pick, and was searched for within the steps of the build.
pub record CertifiesPick (options : Options) (board : Board) (pick : List ℕ) (cert : Cert) : Type 0 where
  pub valid : IsValidOn board cert
  pub steps_are : cert.steps ≡ options.steps
  pub boxes : List BoxTree
  pub proof : cert.proof ≡ proofs.Built pick boxes

-- The certificate is valid for there being no good pick, and was searched for within the steps of the build.
pub record CertifiesNone (options : Options) (board : Board) (cert : Cert) : Type 0 where
  pub valid : IsValidOn board cert
  pub steps_are : cert.steps ≡ options.steps
  pub tree : PickTree
  pub proof : cert.proof ≡ proofs.Tree verdicts.Refuted tree

-- What is put and printed for a pick: the net list with it, and its certificate.
pub record PutsBuilt (options : Options) (board : Board) (pick : List ℕ) (cert : Cert) (outputs : List Output) (text : List ℕ) : Type 0 where
  pub list : NetList
  pub list_is : IsListFor board pick list
  pub outputs_are : outputs ≡ net_output options list ∷ cert_output options cert ∷ []
  pub text_is : text ≡ summary_text (codes "built") list (slots_of board) (nodes cert.proof)

-- What is put and printed where no pick is good: the certificate.
pub record PutsRefuted (options : Options) (board : Board) (cert : Cert) (outputs : List Output) (text : List ℕ) : Type 0 where
  pub list : NetList
  pub list_is : IsListFor board [] list
  pub outputs_are : outputs ≡ cert_output options cert ∷ []
  pub text_is : text ≡ summary_text (codes "refuted") list (slots_of board) (nodes cert.proof)

-- The pick is good, and the first good one. Its net list is put, with the text of a certificate of the pick.
pub record BuildsPick (options : Options) (board : Board) (pick : List ℕ) (outputs : List Output) (text : List ℕ) : Type 0 where
  pub good : IsGood board pick
  pub first : IsFirstGood board pick
  pub cert : Cert
  pub puts : PutsBuilt options board pick cert outputs text
  pub certified : CertifiesPick options board pick cert

-- No pick is good. The text of a certificate of this is put.
pub record RefutesPicks (options : Options) (board : Board) (outputs : List Output) (text : List ℕ) : Type 0 where
  pub none_good : NoGood board
  pub cert : Cert
  pub puts : PutsRefuted options board cert outputs text
  pub certified : CertifiesNone options board cert

-- What a build of the board decides, by the status that it ends with where all goes well.
abbrev pub IsDecision : Options → Board → Status → List Output → List ℕ → Type 0
IsDecision options board answers.Built outputs text = (pick : List ℕ) × BuildsPick options board pick outputs text
IsDecision options board answers.Refuted outputs text = RefutesPicks options board outputs text
IsDecision options board status outputs text = ⊥
