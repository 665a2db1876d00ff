-- A greater piece has the spellings and the fronts of a smaller one.
use Rattle.std.proofs.Common.{List}
use Rattle.ato_base.specs.declared.places.Span.{Span}
use Rattle.ato_parser.specs.Tokens.{Tokens}
use Rattle.ato_parser.specs.Pieces.{Piece, never, ◌>>=◌, ◌or◌, many, placed, optional, ended, flag, ThenSpells, then_spells, ThenFront, in_first, in_second, OrSpells, the_one, the_other, OrFront, in_one, in_other, ManySpells, no_more, one_more, ManyFront, before_many, in_next, after_next, PlacedSpells, placed_spells}

pub record Grows {A : Type 0} (p q : Piece A) : Type 0 where
  pub spells : (a : A) (ts : Tokens) → p.Spells a ts → q.Spells a ts
  pub fronts : (ts : Tokens) → p.Front ts → q.Front ts

pub same_grows : {A : Type 0} (p : Piece A) → Grows p p
same_grows p = record { spells = λ a ts s. s; fronts = λ ts f. f }

pub never_grows : {A : Type 0} (p : Piece A) → Grows never p
never_grows p = record { spells = λ a ts s. absurd s; fronts = λ ts f. absurd f }

-- ---- one piece after another

module _ {A B : Type 0} (p p' : Piece A) (q q' : A → Piece B) (first : Grows p p') (second : (a : A) → Grows (q a) (q' a)) where
  then_spelled : (b : B) (ts : Tokens) → ThenSpells p q b ts → ThenSpells p' q' b ts
  then_spelled b ts (then_spells {a} {ts = vs} {us} s t) = then_spells (first.spells a vs s) ((second a).spells b us t)

  then_front : (ts : Tokens) → ThenFront p q ts → ThenFront p' q' ts
  then_front ts (in_first f) = in_first (first.fronts ts f)
  then_front ts (in_second {a} {ts = vs} {us} s f) = in_second (first.spells a vs s) ((second a).fronts us f)

  pub then_grows : Grows (p >>= q) (p' >>= q')
  then_grows = record { spells = then_spelled; fronts = then_front }

-- ---- one piece or another

module _ {A : Type 0} (p p' q q' : Piece A) (first : Grows p p') (second : Grows q q') where
  or_spelled : (a : A) (ts : Tokens) → OrSpells p q a ts → OrSpells p' q' a ts
  or_spelled a ts (the_one s) = the_one (first.spells a ts s)
  or_spelled a ts (the_other s) = the_other (second.spells a ts s)

  or_front : (ts : Tokens) → OrFront p q ts → OrFront p' q' ts
  or_front ts (in_one f) = in_one (first.fronts ts f)
  or_front ts (in_other f) = in_other (second.fronts ts f)

  pub or_grows : Grows (p or q) (p' or q')
  or_grows = record { spells = or_spelled; fronts = or_front }

-- ---- a piece as often as one likes, and its place

module _ {A : Type 0} (p p' : Piece A) (part : Grows p p') where
  many_spelled : (xs : List A) (ts : Tokens) → ManySpells p xs ts → ManySpells p' xs ts
  many_spelled xs ts no_more = no_more
  many_spelled xs ts (one_more {a} {more} {ts = vs} {us} s t) = one_more (part.spells a vs s) (many_spelled more us t)

  many_front : (ts : Tokens) → ManyFront p ts → ManyFront p' ts
  many_front ts before_many = before_many
  many_front ts (in_next f) = in_next (part.fronts ts f)
  many_front ts (after_next {a} {ts = vs} {us} s f) = after_next (part.spells a vs s) (many_front us f)

  pub many_grows : Grows (many p) (many p')
  many_grows = record { spells = many_spelled; fronts = many_front }

module _ {A : Type 0} (p p' : Piece (Span → A)) (part : Grows p p') where
  placed_spelled : (a : A) (ts : Tokens) → PlacedSpells p a ts → PlacedSpells p' a ts
  placed_spelled a ts (placed_spells {f} s) = placed_spells (part.spells f ts s)

  pub placed_grows : Grows (placed p) (placed p')
  placed_grows = record { spells = placed_spelled; fronts = part.fronts }

-- ---- pieces made of these

pub optional_grows : {A : Type 0} (p p' : Piece A) → Grows p p' → Grows (optional p) (optional p')
optional_grows p p' part = or_grows _ _ _ _ (then_grows _ _ _ _ part (λ a. same_grows _)) (same_grows _)

pub flag_grows : {A : Type 0} (p p' : Piece A) → Grows p p' → Grows (flag p) (flag p')
flag_grows p p' part = or_grows _ _ _ _ (then_grows _ _ _ _ part (λ a. same_grows _)) (same_grows _)

pub ended_grows : {S A B : Type 0} (sep sep' : Piece S) (p p' : Piece A) (q q' : Piece B) → Grows sep sep' → Grows p p' → Grows q q' → Grows (ended sep p q) (ended sep' p' q')
ended_grows sep sep' p p' q q' between part last =
    then_grows _ _ _ _ (many_grows _ _ (then_grows _ _ _ _ between (λ s. part)))
    (λ more. then_grows _ _ _ _ (optional_grows _ _ (then_grows _ _ _ _ between (λ s. last))) (λ l. same_grows _))
