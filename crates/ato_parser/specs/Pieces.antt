-- Pieces of a grammar, and how they are put together.
use Rattle.std.specs.Prelude.{◌≡◌, Bool, true, false, List, [], ◌∷◌, ◌++◌, Option, Some, None}
use Rattle.ato_base.specs.declared.places.Span.{Span}
use Rattle.ato_base.specs.declared.tokens.TokenKind.{TokenKind}
use Rattle.ato_parser.specs.Tokens.{Tokens, token, extent}

-- A piece of a grammar: which tokens spell which value, and with which tokens such a spelling may begin.
pub record Piece (A : Type 0) : Type 1 where
  pub Spells : A → Tokens → Type 0
  pub Front : Tokens → Type 0

-- ---- no token

pub data NothingSpells {A : Type 0} (a : A) : A → Tokens → Type 0 where
  nothing : NothingSpells a a []

pub data NothingFront : Tokens → Type 0 where
  before_nothing : NothingFront []

-- no token spells the value
abbrev pub pure : {A : Type 0} → A → Piece A
pure a = record { Spells = NothingSpells a; Front = NothingFront }

-- no tokens are this piece
abbrev pub never : {A : Type 0} → Piece A
never = record { Spells = λ a ts. ⊥; Front = λ ts. ⊥ }

-- ---- one token

pub data OneSpells {A : Type 0} (value : TokenKind → Option A) : A × Span → Tokens → Type 0 where
  one_token : {a : A} (kind : TokenKind) (at : Span) → value kind ≡ Some a → OneSpells value (a, at) (token kind at ∷ [])

pub data OneFront {A : Type 0} (value : TokenKind → Option A) : Tokens → Type 0 where
  before_one : OneFront value []
  whole_one : {a : A} (kind : TokenKind) (at : Span) → value kind ≡ Some a → OneFront value (token kind at ∷ [])

-- a token whose kind has a value, with its place
abbrev pub one : {A : Type 0} → (TokenKind → Option A) → Piece (A × Span)
one value = record { Spells = OneSpells value; Front = OneFront value }

-- ---- one piece after another

pub data ThenSpells {A B : Type 0} (p : Piece A) (q : A → Piece B) : B → Tokens → Type 0 where
  then_spells : {a : A} {b : B} {ts us : Tokens} → p.Spells a ts → (q a).Spells b us → ThenSpells p q b (ts ++ us)

pub data ThenFront {A B : Type 0} (p : Piece A) (q : A → Piece B) : Tokens → Type 0 where
  in_first : {ts : Tokens} → p.Front ts → ThenFront p q ts
  in_second : {a : A} {ts us : Tokens} → p.Spells a ts → (q a).Front us → ThenFront p q (ts ++ us)

-- a piece, and then another that may depend on its value
infixl 10 ◌>>=◌
abbrev pub ◌>>=◌ : {A B : Type 0} → Piece A → (A → Piece B) → Piece B
p >>= q = record { Spells = ThenSpells p q; Front = ThenFront p q }

infixl 10 ◌>>◌
abbrev pub ◌>>◌ : {A B : Type 0} → Piece A → Piece B → Piece B
p >> q = p >>= (λ _. q)

-- ---- one piece or another

pub data OrSpells {A : Type 0} (p q : Piece A) : A → Tokens → Type 0 where
  the_one : {a : A} {ts : Tokens} → p.Spells a ts → OrSpells p q a ts
  the_other : {a : A} {ts : Tokens} → q.Spells a ts → OrSpells p q a ts

pub data OrFront {A : Type 0} (p q : Piece A) : Tokens → Type 0 where
  in_one : {ts : Tokens} → p.Front ts → OrFront p q ts
  in_other : {ts : Tokens} → q.Front ts → OrFront p q ts

infixr 5 ◌or◌
abbrev pub ◌or◌ : {A : Type 0} → Piece A → Piece A → Piece A
p or q = record { Spells = OrSpells p q; Front = OrFront p q }

-- ---- a piece as often as one likes

pub data ManySpells {A : Type 0} (p : Piece A) : List A → Tokens → Type 0 where
  no_more : ManySpells p [] []
  one_more : {a : A} {more : List A} {ts us : Tokens} → p.Spells a ts → ManySpells p more us → ManySpells p (a ∷ more) (ts ++ us)

pub data ManyFront {A : Type 0} (p : Piece A) : Tokens → Type 0 where
  before_many : ManyFront p []
  in_next : {ts : Tokens} → p.Front ts → ManyFront p ts
  after_next : {a : A} {ts us : Tokens} → p.Spells a ts → ManyFront p us → ManyFront p (ts ++ us)

-- a piece any number of times
abbrev pub many : {A : Type 0} → Piece A → Piece (List A)
many p = record { Spells = ManySpells p; Front = ManyFront p }

-- ---- the place of a piece

pub data PlacedSpells {A : Type 0} (p : Piece (Span → A)) : A → Tokens → Type 0 where
  placed_spells : {f : Span → A} {ts : Tokens} → p.Spells f ts → PlacedSpells p (f (extent ts)) ts

-- a piece whose value has the place of its tokens
abbrev pub placed : {A : Type 0} → Piece (Span → A) → Piece A
placed p = record { Spells = PlacedSpells p; Front = p.Front }

-- ---- pieces made of these

-- a piece, or nothing
abbrev pub optional : {A : Type 0} → Piece A → Piece (Option A)
optional p = (p >>= λ a. pure (Some a)) or pure None

-- a piece any number of times and then maybe another, each behind a separator: { sep p } [ sep q ]
abbrev pub ended : {S A B : Type 0} → Piece S → Piece A → Piece B → Piece (List A × Option B)
ended sep p q = do
  more ← many (sep >> p)
  last ← optional (sep >> q)
  pure (more, last)

-- whether the piece stands there
abbrev pub flag : {A : Type 0} → Piece A → Piece Bool
flag p = (p >> pure true) or pure false
