-- What readers of a text give: the one value of a form whose text the text begins with, and what follows.
use Rattle.std.specs.Prelude.{◌≡◌, ℕ, ◌<◌, ◌≤◌, ◌^◌, Bool, true, false, List, ◌++◌, length, codes}
use Rattle.std.specs.List.{All, prefix_len}
use Rattle.std.specs.Char.{is_ascii_digit}
use Rattle.std.specs.Fmt.{decimal, signed_decimal}
use Rattle.ato_frac.specs.declared.fraction.Frac.{Frac}
use Rattle.ato_frac.specs.Fractions.{value_of}
use Rattle.ato_cert.specs.declared.line.Line.{Line}
use Rattle.ato_cert.specs.declared.line.Line.TheVariants.{Empty, Row, Fails}
use Rattle.ato_cert.specs.declared.line.ReadFault.{ReadFault}
use Rattle.ato_cert.specs.declared.line.ReadFault.TheVariants.{At, NoMemory}
use Rattle.ato_cert.specs.Readable.{IsNumberUpTo, IsTreeOver, IsReadableOver}
use Rattle.ato_cert.specs.Texts.{empty_line, row_line, fails_line, cert_text}
use Rattle.ato_cert.specs.declared.cert.BoxTree.{BoxTree}
use Rattle.ato_cert.specs.declared.cert.Verdict.TheVariants.{Refuted}
use Rattle.ato_cert.specs.declared.cert.Proof.{Proof}
use Rattle.ato_cert.specs.declared.cert.Proof.TheVariants.{Built, Tree}
use Rattle.ato_cert.specs.declared.cert.Cert.{Cert}

-- the text begins with this value's, and with no other value's
pub record Reads {X : Type 0} (Fits : X → Type 0) (print : X → List ℕ) (text : List ℕ) (x : X) (rest : List ℕ) : Type 0 where
  pub fits : Fits x
  pub text_is : text ≡ print x ++ rest
  pub only : (y : X) (other : List ℕ) → Fits y → text ≡ print y ++ other → (y ≡ x) × (other ≡ rest)

-- the text begins with no value's
pub record ReadsNothing {X : Type 0} (Fits : X → Type 0) (print : X → List ℕ) (text : List ℕ) : Type 0 where
  pub none : (y : X) (other : List ℕ) → Fits y → text ≡ print y ++ other → ⊥

-- a fault with its cause, where it is not want of memory
abbrev pub Because : Type 0 → ReadFault → Type 0
Because P (At left) = P
Because P NoMemory = Unit {0}

-- no digit stands first
abbrev pub NoDigitFirst : List ℕ → Type 0
NoDigitFirst rest = prefix_len is_ascii_digit rest ≡ 0

-- a fraction, as in `-1/2`
abbrev pub fraction_text : Frac → List ℕ
fraction_text f = signed_decimal (value_of f).num ++ (codes "/" ++ decimal (value_of f).den)

-- the first line of a tree
abbrev pub line_text : Line → List ℕ
line_text (Empty slot) = empty_line slot
line_text (Row slot row) = row_line slot row
line_text (Fails check point) = fails_line check point

-- its numbers are below 2^32
abbrev pub HasSmallNumbers : Line → Type 0
HasSmallNumbers (Empty slot) = slot < 2 ^ 32
HasSmallNumbers (Row slot row) = (slot < 2 ^ 32) × (row < 2 ^ 32)
HasSmallNumbers (Fails check point) = check < 2 ^ 32

-- a line whose slot or check is there, where a row may stand if a node may stand below it
abbrev pub IsLineOver : ℕ → ℕ → Line → Type 0
IsLineOver count above (Empty slot) = IsNumberUpTo count slot
IsLineOver count above (Row slot row) = IsNumberUpTo count slot × (row < 2 ^ 32) × (1 ≤ above)
IsLineOver count above (Fails check point) = IsNumberUpTo count check

-- the first two lines, of a certificate that is built or of one that is refuted
abbrev pub head_text : Bool → List ℕ
head_text true = codes "ato-certificate 1\nverdict built\n"
head_text false = codes "ato-certificate 1\nverdict refuted\n"

-- one number below 2^32 for each slot
abbrev pub IsPickOver : ℕ → List ℕ → Type 0
IsPickOver count pick = (length pick ≡ count) × All (λ n. n < 2 ^ 32) pick

-- at most so many checks
abbrev pub AtMost : ℕ → List BoxTree → Type 0
AtMost count boxes = length boxes ≤ count

-- a proof of the form after these two lines
abbrev pub IsProofOver : ℕ → Bool → Proof → Type 0
IsProofOver count true (Built pick boxes) = IsPickOver count pick × AtMost count boxes
IsProofOver count true (Tree verdict tree) = ⊥
IsProofOver count false (Built pick boxes) = ⊥
IsProofOver count false (Tree Refuted tree) = IsTreeOver count 10000 tree

-- no certificate of the form has the text
abbrev pub IsNoText : ℕ → List ℕ → Type 0
IsNoText count text = (cert : Cert) → IsReadableOver count cert → text ≡ cert_text cert → ⊥

-- the certificate of the form that has the text
pub record IsTextOf (count : ℕ) (text : List ℕ) (cert : Cert) : Type 0 where
  pub readable : IsReadableOver count cert
  pub text_is : text ≡ cert_text cert
  pub only : (other : Cert) → IsReadableOver count other → text ≡ cert_text other → other ≡ cert
