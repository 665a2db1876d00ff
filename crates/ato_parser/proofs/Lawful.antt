-- What holds of a piece of the grammar and of its reader.
use Rattle.std.proofs.Common.{◌≡◌, ℕ, ◌≤◌, Bool, true, false, [], ◌∷◌, ◌++◌, length, Ok, Err, ◌⊎◌}
use Rattle.ato_base.specs.declared.places.Span.{Span}
use Rattle.ato_base.specs.declared.tokens.Token.{Token}
use Rattle.ato_parser.specs.declared.stop.Stop.{Stop}
use Rattle.ato_parser.specs.declared.stop.Stop.TheVariants as stops
use Rattle.ato_parser.specs.Tokens.{Tokens, last_at}
use Rattle.ato_parser.specs.Pieces.{Piece}
use Rattle.ato_parser.specs.Input.{Input, Outcome, Reader, kind_of}
use Rattle.ato_parser.proofs.Classes.{Classes, among}

abbrev pub input : Span → Tokens → Input
input last ts = record { last = last; ahead = ts }

-- how many tokens are left behind an outcome
abbrev pub left_of : {A : Type 0} → Outcome A → ℕ
left_of (Ok p) = length p.1.ahead
left_of (Err stops.NoMemory) = 0
left_of (Err (stops.Syntax k)) = k
left_of (Err (stops.TooDeep k)) = k

-- a stop in front of so many tokens
abbrev pub StopsBefore : ℕ → Stop → Type 0
StopsBefore n stops.NoMemory = ⊥
StopsBefore n (stops.Syntax k) = k ≡ n
StopsBefore n (stops.TooDeep k) = k ≡ n

-- The tokens between two inputs spell the value.
pub record Spelled {A : Type 0} (p : Piece A) (i : Input) (a : A) (j : Input) : Type 0 where
  pub taken : Tokens
  pub split : i.ahead ≡ taken ++ j.ahead
  pub last : j.last ≡ last_at i.last taken
  pub spells : p.Spells a taken

-- A reader stops behind a front, or at once.
pub record StopsAt {A : Type 0} (p : Piece A) (i : Input) (e : Stop) : Type 0 where
  pub front : Tokens
  pub rest : Tokens
  pub split : i.ahead ≡ front ++ rest
  pub left : StopsBefore (length rest) e
  pub fits : (front ≡ []) ⊎ p.Front front

-- A reader reads just the piece. Its spellings begin with one of the first classes, go on with one of the others, and may
-- be empty only where it is said.
pub record Lawful {A : Type 0} (p : Piece A) (r : Reader A) (starts more : Classes) (empty : Bool) : Type 0 where
  pub begins : (t : Token) (ts : Tokens) → p.Front (t ∷ ts) → among starts t.kind ≡ true
  pub not_empty : (a : A) → p.Spells a [] → empty ≡ true
  pub whole : (a : A) (ts : Tokens) → p.Spells a ts → p.Front ts
  -- each spelling is read, where nothing behind it goes on with it
  pub complete : (a : A) (ts rest : Tokens) (last : Span) → p.Spells a ts → among more (kind_of rest) ≡ false → r (input last (ts ++ rest)) ≡ Ok (a, input (last_at last ts) rest)
  -- what is read is spelled
  pub sound : (i j : Input) (a : A) → r i ≡ Ok (a, j) → Spelled p i a j
  -- it stops behind a front
  pub stops : (i : Input) (e : Stop) → r i ≡ Err e → StopsAt p i e
  -- and never before the end of a front
  pub passes : (ts rest : Tokens) (last : Span) → p.Front ts → left_of (r (input last (ts ++ rest))) ≤ length rest

-- Two pieces have the same spellings and the same fronts.
pub record Same {A : Type 0} (p q : Piece A) : Type 0 where
  pub spells : (a : A) (ts : Tokens) → p.Spells a ts → q.Spells a ts
  pub spelled : (a : A) (ts : Tokens) → q.Spells a ts → p.Spells a ts
  pub fronts : (ts : Tokens) → p.Front ts → q.Front ts
  pub front : (ts : Tokens) → q.Front ts → p.Front ts
