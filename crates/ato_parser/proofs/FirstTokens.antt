-- Which token a piece of the grammar may begin with.
use Rattle.std.proofs.Common.{◌≡◌, List, [], ◌∷◌, ◌++◌, Bool, true, Option, Some, refl, ap, subst}
use Rattle.ato_base.specs.declared.places.Span.{Span}
use Rattle.ato_base.specs.declared.tokens.Token.{Token}
use Rattle.ato_base.specs.declared.tokens.TokenKind.{TokenKind}
use Rattle.ato_parser.specs.Tokens.{Tokens}
use Rattle.ato_parser.specs.Pieces.{Piece, OneSpells, one_token, OneFront, before_one, whole_one, NothingSpells, nothing, NothingFront, before_nothing, ThenSpells, then_spells, ThenFront, in_first, in_second, OrSpells, the_one, the_other, OrFront, in_one, in_other, ManySpells, no_more, one_more, ManyFront, before_many, in_next, after_next, PlacedSpells, placed_spells, pure, never, one, ◌>>=◌, ◌or◌, many, placed}

-- The tokens begin with one of a kind for which the test holds.
pub data Begun (test : TokenKind → Bool) : Tokens → Type 0 where
  begun : (t : Token) (ts : Tokens) → test t.kind ≡ true → Begun test (t ∷ ts)

-- The tokens are none, or begin with such a token.
pub data MaybeBegun (test : TokenKind → Bool) : Tokens → Type 0 where
  no_token : MaybeBegun test []
  first_token : (t : Token) (ts : Tokens) → test t.kind ≡ true → MaybeBegun test (t ∷ ts)

-- Each spelling and each front with tokens begins with such a token.
pub record Opens {A : Type 0} (test : TokenKind → Bool) (p : Piece A) : Type 0 where
  pub front : (ts : Tokens) → p.Front ts → MaybeBegun test ts
  pub spelling : (a : A) (ts : Tokens) → p.Spells a ts → MaybeBegun test ts

-- The same, and no spelling is without tokens.
pub record Starts {A : Type 0} (test : TokenKind → Bool) (p : Piece A) : Type 0 where
  pub front : (ts : Tokens) → p.Front ts → MaybeBegun test ts
  pub spelling : (a : A) (ts : Tokens) → p.Spells a ts → Begun test ts

maybe : {test : TokenKind → Bool} (ts : Tokens) → Begun test ts → MaybeBegun test ts
maybe ts (begun t us e) = first_token t us e

pub opens : {A : Type 0} (test : TokenKind → Bool) (p : Piece A) → Starts test p → Opens test p
opens test p h = record { front = h.front; spelling = λ a ts d. maybe ts (h.spelling a ts d) }

before : {test : TokenKind → Bool} (ts us : Tokens) → Begun test ts → Begun test (ts ++ us)
before ts us (begun t vs e) = begun t (vs ++ us) e

before_maybe : {test : TokenKind → Bool} (ts us : Tokens) → MaybeBegun test ts → MaybeBegun test us → MaybeBegun test (ts ++ us)
before_maybe ts us no_token h = h
before_maybe ts us (first_token t vs e) h = first_token t (vs ++ us) e

before_begun : {test : TokenKind → Bool} (ts us : Tokens) → MaybeBegun test ts → Begun test us → Begun test (ts ++ us)
before_begun ts us no_token h = h
before_begun ts us (first_token t vs e) h = begun t (vs ++ us) e

-- ---- single pieces

pub one_starts : {A : Type 0} (test : TokenKind → Bool) (value : TokenKind → Option A) → ((kind : TokenKind) (a : A) → value kind ≡ Some a → test kind ≡ true) → Starts test (one value)
one_starts {A} test value law = record { front = fronts; spelling = spellings }
  where
    fronts : (ts : Tokens) → OneFront value ts → MaybeBegun test ts
    fronts ts before_one = no_token
    fronts ts (whole_one {a} kind at e) = first_token (record { kind = kind; at = at }) [] (law kind a e)

    spellings : (x : A × Span) (ts : Tokens) → OneSpells value x ts → Begun test ts
    spellings x ts (one_token {a} kind at e) = begun (record { kind = kind; at = at }) [] (law kind a e)

pub pure_opens : {A : Type 0} (test : TokenKind → Bool) (a : A) → Opens test (pure a)
pure_opens {A} test a = record { front = fronts; spelling = spellings }
  where
    fronts : (ts : Tokens) → NothingFront ts → MaybeBegun test ts
    fronts ts before_nothing = no_token

    spellings : (x : A) (ts : Tokens) → NothingSpells a x ts → MaybeBegun test ts
    spellings x ts nothing = no_token

pub never_starts : {A : Type 0} (test : TokenKind → Bool) → Starts {A = A} test never
never_starts test = record { front = λ ts f. absurd f; spelling = λ a ts d. absurd d }

-- ---- pieces put together

-- where the first piece has tokens
module _ {A B : Type 0} (test : TokenKind → Bool) (p : Piece A) (q : A → Piece B) where
  pub then_starts : Starts test p → Starts test (p >>= q)
  then_starts h = record { front = fronts; spelling = spellings }
    where
      fronts : (ts : Tokens) → ThenFront p q ts → MaybeBegun test ts
      fronts ts (in_first f) = h.front ts f
      fronts ts (in_second {a} {ts = us} {us = vs} d f) = maybe (us ++ vs) (before us vs (h.spelling a us d))

      spellings : (b : B) (ts : Tokens) → ThenSpells p q b ts → Begun test ts
      spellings b ts (then_spells {a} {ts = us} {us = vs} d e) = before us vs (h.spelling a us d)

  -- where it may have none
  pub then_after : Opens test p → ((a : A) → Starts test (q a)) → Starts test (p >>= q)
  then_after h k = record { front = fronts; spelling = spellings }
    where
      fronts : (ts : Tokens) → ThenFront p q ts → MaybeBegun test ts
      fronts ts (in_first f) = h.front ts f
      fronts ts (in_second {a} {ts = us} {us = vs} d f) = before_maybe us vs (h.spelling a us d) ((k a).front vs f)

      spellings : (b : B) (ts : Tokens) → ThenSpells p q b ts → Begun test ts
      spellings b ts (then_spells {a} {ts = us} {us = vs} d e) = before_begun us vs (h.spelling a us d) ((k a).spelling b vs e)

pub or_starts : {A : Type 0} (test : TokenKind → Bool) (p q : Piece A) → Starts test p → Starts test q → Starts test (p or q)
or_starts {A} test p q h k = record { front = fronts; spelling = spellings }
  where
    fronts : (ts : Tokens) → OrFront p q ts → MaybeBegun test ts
    fronts ts (in_one f) = h.front ts f
    fronts ts (in_other f) = k.front ts f

    spellings : (a : A) (ts : Tokens) → OrSpells p q a ts → Begun test ts
    spellings a ts (the_one d) = h.spelling a ts d
    spellings a ts (the_other d) = k.spelling a ts d

pub or_opens : {A : Type 0} (test : TokenKind → Bool) (p q : Piece A) → Opens test p → Opens test q → Opens test (p or q)
or_opens {A} test p q h k = record { front = fronts; spelling = spellings }
  where
    fronts : (ts : Tokens) → OrFront p q ts → MaybeBegun test ts
    fronts ts (in_one f) = h.front ts f
    fronts ts (in_other f) = k.front ts f

    spellings : (a : A) (ts : Tokens) → OrSpells p q a ts → MaybeBegun test ts
    spellings a ts (the_one d) = h.spelling a ts d
    spellings a ts (the_other d) = k.spelling a ts d

module _ {A : Type 0} (test : TokenKind → Bool) (p : Piece A) (h : Starts test p) where
  many_spellings : (xs : List A) (ts : Tokens) → ManySpells p xs ts → MaybeBegun test ts
  many_spellings xs ts no_more = no_token
  many_spellings xs ts (one_more {a} {ts = us} {us = vs} d e) = maybe (us ++ vs) (before us vs (h.spelling a us d))

  many_fronts : (ts : Tokens) → ManyFront p ts → MaybeBegun test ts
  many_fronts ts before_many = no_token
  many_fronts ts (in_next f) = h.front ts f
  many_fronts ts (after_next {a} {ts = us} {us = vs} d f) = maybe (us ++ vs) (before us vs (h.spelling a us d))

  pub many_opens : Opens test (many p)
  many_opens = record { front = many_fronts; spelling = many_spellings }

pub placed_starts : {A : Type 0} (test : TokenKind → Bool) (p : Piece (Span → A)) → Starts test p → Starts test (placed p)
placed_starts {A} test p h = record { front = h.front; spelling = spellings }
  where
    spellings : (a : A) (ts : Tokens) → PlacedSpells p a ts → Begun test ts
    spellings a ts (placed_spells {f} d) = h.spelling f ts d

-- a test that holds for more kinds
pub weaken : {A : Type 0} (test wide : TokenKind → Bool) (p : Piece A) → ((kind : TokenKind) → test kind ≡ true → wide kind ≡ true) → Starts test p → Starts wide p
weaken {A} test wide p w h = record { front = λ ts f. more ts (h.front ts f); spelling = λ a ts d. more_begun ts (h.spelling a ts d) }
  where
    more : (ts : Tokens) → MaybeBegun test ts → MaybeBegun wide ts
    more ts no_token = no_token
    more ts (first_token t us e) = first_token t us (w t.kind e)

    more_begun : (ts : Tokens) → Begun test ts → Begun wide ts
    more_begun ts (begun t us e) = begun t us (w t.kind e)

-- ---- what that says of tokens

at_first : {test : TokenKind → Bool} (ws : Tokens) (t : Token) (ts : Tokens) → ws ≡ t ∷ ts → MaybeBegun test ws → test t.kind ≡ true
at_first {test} ws t ts e no_token = absurd (subst none e tt)
  where
    none : Tokens → Type 0
    none [] = Unit {0}
    none (x ∷ xs) = ⊥
at_first {test} ws t ts e (first_token u us f) = subst (λ (x : Token). test x.kind ≡ true) (ap (first t) e) f
  where
    first : Token → Tokens → Token
    first d [] = d
    first d (x ∷ xs) = x

-- no front begins with another token
pub begins : {A : Type 0} (test : TokenKind → Bool) (p : Piece A) → Starts test p → (t : Token) (ts : Tokens) → p.Front (t ∷ ts) → test t.kind ≡ true
begins test p h t ts f = at_first (t ∷ ts) t ts refl (h.front (t ∷ ts) f)
