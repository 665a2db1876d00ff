-- The tree of a file's tokens, or its first fault.
use Rattle.std.specs.Prelude.{◌≡◌, ℕ, suc, [], ◌∷◌, ◌++◌, None, Result, Err}
use Rattle.ato_base.specs.declared.places.Place.TheVariants as places
use Rattle.ato_base.specs.declared.keywords.Mark.TheVariants as marks
use Rattle.ato_base.specs.declared.tokens.Token.{Token}
use Rattle.ato_base.specs.declared.tokens.TokenKind.TheVariants as kinds
use Rattle.ato_base.specs.declared.faults.Fault.{Fault}
use Rattle.ato_base.specs.declared.faults.FaultKind.{FaultKind}
use Rattle.ato_base.specs.declared.faults.FaultKind.TheVariants as faults
use Rattle.ato_base.specs.declared.faults.Refusal.{Refusal}
use Rattle.ato_base.specs.declared.faults.Refusal.TheVariants as refusals
use Rattle.ato_ast.specs.declared.blocks.File.{File}
use Rattle.ato_parser.specs.Tokens.{Tokens}
use Rattle.ato_parser.specs.Files.{IsFile, FileFront}

-- how many parentheses may stand inside each other
abbrev pub deepest : ℕ
deepest = 64

-- A first token does not fit: the tokens before it are a front, and with it they are none.
pub record FirstBad (Front : Tokens → Type 0) (tokens : Tokens) (bad : Token) : Type 0 where
  pub front : Tokens
  pub rest : Tokens
  pub split : tokens ≡ front ++ bad ∷ rest
  pub fits : Front front
  pub no_longer : Front (front ++ bad ∷ []) → ⊥

-- The first token that does not fit, and no deeper parentheses would let it fit.
pub record IsSyntax (tokens : Tokens) (bad : Token) : Type 0 where
  pub first : FirstBad (FileFront deepest) tokens bad
  pub never : (depth : ℕ) → FileFront depth (first.front ++ bad ∷ []) → ⊥

-- The first token that does not fit, an open parenthesis that would fit if one more might stand inside the others.
pub record IsTooDeep (tokens : Tokens) (bad : Token) : Type 0 where
  pub first : FirstBad (FileFront deepest) tokens bad
  pub opens : bad.kind ≡ kinds.Mark marks.LeftParenthesis
  pub deeper : FileFront (suc deepest) (first.front ++ bad ∷ [])

-- a fault at a token
abbrev pub fault_at : FaultKind → Token → Fault
fault_at kind t = record { kind = kind; at = places.Source t.at; other = None; path = [] }

-- The fault of the tokens.
pub data IsFault (tokens : Tokens) : Fault → Type 0 where
  a_syntax : {bad : Token} → IsSyntax tokens bad → IsFault tokens (fault_at faults.Syntax bad)
  a_depth : {bad : Token} → IsTooDeep tokens bad → IsFault tokens (fault_at faults.TooDeep bad)

-- The tokens spell the file.
abbrev pub IsTree : Tokens → File → Type 0
IsTree tokens f = IsFile deepest f tokens

-- why there is no tree: want of memory, or the fault
abbrev pub IsRefused : Tokens → Refusal → Type 0
IsRefused tokens refusals.NoMemory = Unit {0}
IsRefused tokens (refusals.Fault f) = IsFault tokens f

-- the answer is this one, unless memory runs out
abbrev pub Answers : Result File Refusal → Result File Refusal → Type 0
Answers answer (Err refusals.NoMemory) = Unit {0}
Answers answer result = result ≡ answer
