-- What each piece of the grammar has: a front of a front is a front, and each front begins a spelling.
use Rattle.std.proofs.Common.{◌≡◌, true, false, List, [], ◌∷◌, ◌++◌, Option, Some, None, refl, sym, subst, append_assoc}
use Rattle.ato_base.specs.declared.places.Span.{Span}
use Rattle.ato_base.specs.declared.tokens.Token.{Token}
use Rattle.ato_base.specs.declared.tokens.TokenKind.{TokenKind}
use Rattle.ato_parser.specs.Tokens.{Tokens, token, extent}
use Rattle.ato_parser.specs.Pieces.{Piece, pure, one, ◌>>=◌, ◌or◌, many, placed, optional, ended, flag, NothingSpells, nothing, NothingFront, before_nothing, OneSpells, one_token, OneFront, before_one, whole_one, ThenSpells, then_spells, ThenFront, in_first, in_second, OrSpells, the_one, the_other, OrFront, in_one, in_other, ManySpells, no_more, one_more, ManyFront, before_many, in_next, after_next, PlacedSpells, placed_spells}
use Rattle.ato_parser.proofs.Splits.{Cuts, first_in, second_in, cuts, no_first}

-- A spelling that begins with these tokens.
pub record Completed {A : Type 0} (p : Piece A) (ts : Tokens) : Type 0 where
  pub value : A
  pub rest : Tokens
  pub spells : p.Spells value (ts ++ rest)

pub record Natural {A : Type 0} (p : Piece A) : Type 0 where
  -- no tokens are a front
  pub opens : p.Front []
  -- a whole spelling is a front
  pub whole : (a : A) (ts : Tokens) → p.Spells a ts → p.Front ts
  -- a front of a front is one
  pub begins : (ts us : Tokens) → p.Front (ts ++ us) → p.Front ts
  -- each front begins a spelling
  pub goes_on : (ts : Tokens) → p.Front ts → Completed p ts

-- ---- no token

pure_whole : {A : Type 0} (a b : A) (ts : Tokens) → NothingSpells a b ts → NothingFront ts
pure_whole a b ts nothing = before_nothing

pure_begins : (ws ts us : Tokens) → ws ≡ ts ++ us → NothingFront ws → NothingFront ts
pure_begins ws ts us e before_nothing = subst NothingFront (no_first ts us e) before_nothing

pure_goes_on : {A : Type 0} (a : A) (ts : Tokens) → NothingFront ts → Completed (pure a) ts
pure_goes_on a ts before_nothing = record { value = a; rest = []; spells = nothing }

pub pure_natural : {A : Type 0} (a : A) → Natural (pure a)
pure_natural a = record {
  opens = before_nothing;
  whole = pure_whole a;
  begins = λ ts us. pure_begins (ts ++ us) ts us refl;
  goes_on = pure_goes_on a;
}

-- ---- one token

one_whole : {A : Type 0} (value : TokenKind → Option A) (a : A × Span) (ts : Tokens) → OneSpells value a ts → OneFront value ts
one_whole value a ts (one_token kind at e) = whole_one kind at e

one_cut : {t x : Token} (ts us : Tokens) → t ∷ [] ≡ x ∷ (ts ++ us) → t ∷ [] ≡ x ∷ ts
one_cut ts us e = let none : [] ≡ ts = no_first ts us (cc) in cc

one_front_begins : {A : Type 0} (value : TokenKind → Option A) (a : A) (kind : TokenKind) (at : Span) (ts us : Tokens) → value kind ≡ Some a → token kind at ∷ [] ≡ ts ++ us → OneFront value ts
one_front_begins value a kind at [] us is e = before_one
one_front_begins value a kind at (t ∷ ts) us is e = subst (OneFront value) (one_cut ts us e) (whole_one kind at is)

pub one_begins : {A : Type 0} (value : TokenKind → Option A) (ws ts us : Tokens) → ws ≡ ts ++ us → OneFront value ws → OneFront value ts
one_begins value ws ts us e before_one = subst (OneFront value) (no_first ts us e) before_one
one_begins value ws ts us e (whole_one {a} kind at is) = one_front_begins value a kind at ts us is e

one_goes_on : {A : Type 0} (value : TokenKind → Option A) (kind : TokenKind) (a : A) → value kind ≡ Some a → (ts : Tokens) → OneFront value ts → Completed (one value) ts
one_goes_on value kind a is ts before_one = record { value = (a, extent []); rest = token kind (extent []) ∷ []; spells = one_token kind (extent []) is }
one_goes_on value kind a is ts (whole_one {a = b} k at e) = record { value = (b, at); rest = []; spells = one_token k at e }

-- a token, where some kind has a value
pub one_natural : {A : Type 0} (value : TokenKind → Option A) (kind : TokenKind) (a : A) → value kind ≡ Some a → Natural (one value)
one_natural value kind a is = record {
  opens = before_one;
  whole = one_whole value;
  begins = λ ts us. one_begins value (ts ++ us) ts us refl;
  goes_on = one_goes_on value kind a is;
}

-- ---- one piece after another

module _ {A B : Type 0} (p : Piece A) (q : A → Piece B) (pn : Natural p) (qn : (a : A) → Natural (q a)) where
  then_whole : (b : B) (ts : Tokens) → ThenSpells p q b ts → ThenFront p q ts
  then_whole b ts (then_spells {a} {us} s t) = in_second s ((qn a).whole b us t)

  second_begins : {a : A} (vs bs ts us : Tokens) → p.Spells a vs → (q a).Front bs → Cuts vs bs ts us → ThenFront p q ts
  second_begins {a} vs bs ts us s f (first_in between e g) = subst (ThenFront p q) (sym e) (in_second s ((qn a).begins between us (subst (q a).Front g f)))
  second_begins {a} vs bs ts us s f (second_in between e g) = in_first (pn.begins ts between (subst p.Front e (pn.whole a vs s)))

  then_begins : (ws ts us : Tokens) → ws ≡ ts ++ us → ThenFront p q ws → ThenFront p q ts
  then_begins ws ts us e (in_first f) = in_first (pn.begins ts us (subst p.Front e f))
  then_begins ws ts us e (in_second {ts = vs} {us = bs} s f) = second_begins vs bs ts us s f (cuts vs bs ts us e)

  after_first : (ts : Tokens) (c : Completed p ts) → Completed (q c.value) [] → Completed (p >>= q) ts
  after_first ts c d = record { value = d.value; rest = c.rest ++ d.rest; spells = subst (ThenSpells p q d.value) (append_assoc ts c.rest d.rest) (then_spells c.spells d.spells) }

  after_second : {a : A} (ts us : Tokens) → p.Spells a ts → Completed (q a) us → Completed (p >>= q) (ts ++ us)
  after_second ts us s d = record { value = d.value; rest = d.rest; spells = subst (ThenSpells p q d.value) (sym (append_assoc ts us d.rest)) (then_spells s d.spells) }

  then_goes_on : (ts : Tokens) → ThenFront p q ts → Completed (p >>= q) ts
  then_goes_on ts (in_first f) = let c = pn.goes_on ts f in after_first ts c ((qn c.value).goes_on [] (qn c.value).opens)
  then_goes_on ts (in_second {a} {ts = vs} {us} s f) = after_second vs us s ((qn a).goes_on us f)

  pub then_natural : Natural (p >>= q)
  then_natural = record {
    opens = in_first pn.opens;
    whole = then_whole;
    begins = λ ts us. then_begins (ts ++ us) ts us refl;
    goes_on = then_goes_on;
  }

-- ---- one piece or another

module _ {A : Type 0} (p q : Piece A) (pn : Natural p) (qn : Natural q) where
  or_whole : (a : A) (ts : Tokens) → OrSpells p q a ts → OrFront p q ts
  or_whole a ts (the_one s) = in_one (pn.whole a ts s)
  or_whole a ts (the_other s) = in_other (qn.whole a ts s)

  or_begins : (ts us : Tokens) → OrFront p q (ts ++ us) → OrFront p q ts
  or_begins ts us (in_one f) = in_one (pn.begins ts us f)
  or_begins ts us (in_other f) = in_other (qn.begins ts us f)

  or_goes_on : (ts : Tokens) → OrFront p q ts → Completed (p or q) ts
  or_goes_on ts (in_one f) = let c = pn.goes_on ts f in record { value = c.value; rest = c.rest; spells = the_one c.spells }
  or_goes_on ts (in_other f) = let c = qn.goes_on ts f in record { value = c.value; rest = c.rest; spells = the_other c.spells }

  pub or_natural : Natural (p or q)
  or_natural = record { opens = in_one pn.opens; whole = or_whole; begins = or_begins; goes_on = or_goes_on }

-- ---- a piece as often as one likes

module _ {A : Type 0} (p : Piece A) (pn : Natural p) where
  many_whole : (vs : List A) (ts : Tokens) → ManySpells p vs ts → ManyFront p ts
  many_whole vs ts no_more = before_many
  many_whole vs ts (one_more {us} s t) = after_next s (many_whole _ us t)

  next_begins : {a : A} (vs bs ts us : Tokens) → p.Spells a vs → ((ys zs : Tokens) → bs ≡ ys ++ zs → ManyFront p ys) → Cuts vs bs ts us → ManyFront p ts
  next_begins vs bs ts us s f (first_in between e g) = subst (ManyFront p) (sym e) (after_next s (f between us g))
  next_begins {a} vs bs ts us s f (second_in between e g) = in_next (pn.begins ts between (subst p.Front e (pn.whole a vs s)))

  many_begins : (ws ts us : Tokens) → ws ≡ ts ++ us → ManyFront p ws → ManyFront p ts
  many_begins ws ts us e before_many = subst (ManyFront p) (no_first ts us e) before_many
  many_begins ws ts us e (in_next f) = in_next (pn.begins ts us (subst p.Front e f))
  many_begins ws ts us e (after_next {ts = vs} {us = bs} s f) = next_begins vs bs ts us s (λ ys zs g. many_begins bs ys zs g f) (cuts vs bs ts us e)

  one_item : (ts : Tokens) → Completed p ts → Completed (many p) ts
  one_item ts c = record { value = c.value ∷ []; rest = c.rest ++ []; spells = subst (ManySpells p (c.value ∷ [])) (append_assoc ts c.rest []) (one_more c.spells no_more) }

  more_items : {a : A} (ts us : Tokens) → p.Spells a ts → Completed (many p) us → Completed (many p) (ts ++ us)
  more_items {a} ts us s d = record { value = a ∷ d.value; rest = d.rest; spells = subst (ManySpells p (a ∷ d.value)) (sym (append_assoc ts us d.rest)) (one_more s d.spells) }

  many_goes_on : (ts : Tokens) → ManyFront p ts → Completed (many p) ts
  many_goes_on ts before_many = record { value = []; rest = []; spells = no_more }
  many_goes_on ts (in_next f) = one_item ts (pn.goes_on ts f)
  many_goes_on ts (after_next {ts = vs} {us} s f) = more_items vs us s (many_goes_on us f)

  pub many_natural : Natural (many p)
  many_natural = record {
    opens = before_many;
    whole = many_whole;
    begins = λ ts us. many_begins (ts ++ us) ts us refl;
    goes_on = many_goes_on;
  }

-- ---- the place of a piece

module _ {A : Type 0} (p : Piece (Span → A)) (pn : Natural p) where
  placed_whole : (a : A) (ts : Tokens) → PlacedSpells p a ts → p.Front ts
  placed_whole a ts (placed_spells {f} s) = pn.whole f ts s

  placed_goes_on : (ts : Tokens) → Completed p ts → Completed (placed p) ts
  placed_goes_on ts c = record { value = c.value (extent (ts ++ c.rest)); rest = c.rest; spells = placed_spells c.spells }

  pub placed_natural : Natural (placed p)
  placed_natural = record {
    opens = pn.opens;
    whole = placed_whole;
    begins = pn.begins;
    goes_on = λ ts f. placed_goes_on ts (pn.goes_on ts f);
  }

-- ---- pieces made of these

pub optional_natural : {A : Type 0} (p : Piece A) → Natural p → Natural (optional p)
optional_natural p pn = or_natural _ _ (then_natural _ _ pn (λ a. pure_natural (Some a))) (pure_natural None)

pub flag_natural : {A : Type 0} (p : Piece A) → Natural p → Natural (flag p)
flag_natural p pn = or_natural _ _ (then_natural _ _ pn (λ a. pure_natural true)) (pure_natural false)

pub ended_natural : {S A B : Type 0} (sep : Piece S) (p : Piece A) (q : Piece B) → Natural sep → Natural p → Natural q → Natural (ended sep p q)
ended_natural sep p q sn pn qn =
    then_natural _ _ (many_natural _ (then_natural _ _ sn (λ a. pn)))
    (λ more. then_natural _ _ (optional_natural _ (then_natural _ _ sn (λ a. qn))) (λ last. pure_natural (more, last)))
