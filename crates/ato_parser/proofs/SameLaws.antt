-- Pieces that are the same.
use Rattle.std.proofs.Common.{◌≡◌, Bool, List, [], ◌∷◌, ◌++◌, length, sym, ◌∙◌, subst, ◌⊎◌, inl, inr, ◌≤◌}
use Rattle.ato_base.specs.declared.places.Span.{Span}
use Rattle.ato_parser.specs.declared.stop.Stop.{Stop}
use Rattle.ato_parser.specs.Tokens.{Tokens}
use Rattle.ato_parser.specs.Pieces.{Piece, never, ◌>>=◌, ◌or◌, placed, many, ThenSpells, then_spells, ThenFront, in_first, in_second, OrSpells, the_one, the_other, OrFront, in_one, in_other, PlacedSpells, placed_spells, ManySpells, no_more, one_more, ManyFront, before_many, in_next, after_next}
use Rattle.ato_parser.specs.Input.{Input, Reader}
use Rattle.ato_parser.proofs.Classes.{Classes}
use Rattle.ato_parser.proofs.Lawful.{input, left_of, Spelled, StopsAt, Lawful, Same}

-- ---- the same piece

pub same_refl : {A : Type 0} (p : Piece A) → Same p p
same_refl p = record { spells = λ a ts h. h; spelled = λ a ts h. h; fronts = λ ts h. h; front = λ ts h. h }

pub same_sym : {A : Type 0} {p q : Piece A} → Same p q → Same q p
same_sym s = record { spells = s.spelled; spelled = s.spells; fronts = s.front; front = s.fronts }

pub same_trans : {A : Type 0} {p q o : Piece A} → Same p q → Same q o → Same p o
same_trans s t = record {
  spells = λ a ts h. t.spells a ts (s.spells a ts h);
  spelled = λ a ts h. s.spelled a ts (t.spelled a ts h);
  fronts = λ ts h. t.fronts ts (s.fronts ts h);
  front = λ ts h. s.front ts (t.front ts h);
}

-- ---- in larger pieces

then_spells_same : {A B : Type 0} {p p' : Piece A} {q q' : A → Piece B} → ((a : A) (ts : Tokens) → p.Spells a ts → p'.Spells a ts) → ((a : A) (b : B) (ts : Tokens) → (q a).Spells b ts → (q' a).Spells b ts) → (b : B) (ts : Tokens) → ThenSpells p q b ts → ThenSpells p' q' b ts
then_spells_same one two b all (then_spells {a = a} {ts = ts} {us = us} h k) = then_spells (one a ts h) (two a b us k)

then_front_same : {A B : Type 0} {p p' : Piece A} {q q' : A → Piece B} → ((a : A) (ts : Tokens) → p.Spells a ts → p'.Spells a ts) → ((ts : Tokens) → p.Front ts → p'.Front ts) → ((a : A) (ts : Tokens) → (q a).Front ts → (q' a).Front ts) → (ts : Tokens) → ThenFront p q ts → ThenFront p' q' ts
then_front_same one begun two ts (in_first h) = in_first (begun ts h)
then_front_same one begun two all (in_second {a = a} {ts = ts} {us = us} h k) = in_second (one a ts h) (two a us k)

-- the first and each second the same
pub same_then : {A B : Type 0} {p p' : Piece A} {q q' : A → Piece B} → Same p p' → ((a : A) → Same (q a) (q' a)) → Same (p >>= q) (p' >>= q')
same_then s t = record {
  spells = then_spells_same s.spells (λ a. (t a).spells);
  spelled = then_spells_same s.spelled (λ a. (t a).spelled);
  fronts = then_front_same s.spells s.fronts (λ a. (t a).fronts);
  front = then_front_same s.spelled s.front (λ a. (t a).front);
}

pub same_first : {A B : Type 0} {p p' : Piece A} (q : A → Piece B) → Same p p' → Same (p >>= q) (p' >>= q)
same_first q s = same_then s (λ a. same_refl (q a))

pub same_second : {A B : Type 0} (p : Piece A) {q q' : A → Piece B} → ((a : A) → Same (q a) (q' a)) → Same (p >>= q) (p >>= q')
same_second p t = same_then (same_refl p) t

or_spells_same : {A : Type 0} {p p' q q' : Piece A} → ((a : A) (ts : Tokens) → p.Spells a ts → p'.Spells a ts) → ((a : A) (ts : Tokens) → q.Spells a ts → q'.Spells a ts) → (a : A) (ts : Tokens) → OrSpells p q a ts → OrSpells p' q' a ts
or_spells_same one two a ts (the_one h) = the_one (one a ts h)
or_spells_same one two a ts (the_other h) = the_other (two a ts h)

or_front_same : {A : Type 0} {p p' q q' : Piece A} → ((ts : Tokens) → p.Front ts → p'.Front ts) → ((ts : Tokens) → q.Front ts → q'.Front ts) → (ts : Tokens) → OrFront p q ts → OrFront p' q' ts
or_front_same one two ts (in_one h) = in_one (one ts h)
or_front_same one two ts (in_other h) = in_other (two ts h)

pub same_or : {A : Type 0} {p p' q q' : Piece A} → Same p p' → Same q q' → Same (p or q) (p' or q')
same_or s t = record {
  spells = or_spells_same s.spells t.spells;
  spelled = or_spells_same s.spelled t.spelled;
  fronts = or_front_same s.fronts t.fronts;
  front = or_front_same s.front t.front;
}

placed_same : {A : Type 0} {p q : Piece (Span → A)} → ((f : Span → A) (ts : Tokens) → p.Spells f ts → q.Spells f ts) → (a : A) (ts : Tokens) → PlacedSpells p a ts → PlacedSpells q a ts
placed_same one a ts (placed_spells {f = f} h) = placed_spells (one f ts h)

pub same_placed : {A : Type 0} {p q : Piece (Span → A)} → Same p q → Same (placed p) (placed q)
same_placed s = record { spells = placed_same s.spells; spelled = placed_same s.spelled; fronts = s.fronts; front = s.front }

many_spells_same : {A : Type 0} {p q : Piece A} → ((a : A) (ts : Tokens) → p.Spells a ts → q.Spells a ts) → (xs : List A) (ts : Tokens) → ManySpells p xs ts → ManySpells q xs ts
many_spells_same one xs all no_more = no_more
many_spells_same one xs all (one_more {a = a} {more = more} {ts = ts} {us = us} h k) = one_more (one a ts h) (many_spells_same one more us k)

many_front_same : {A : Type 0} {p q : Piece A} → ((a : A) (ts : Tokens) → p.Spells a ts → q.Spells a ts) → ((ts : Tokens) → p.Front ts → q.Front ts) → (ts : Tokens) → ManyFront p ts → ManyFront q ts
many_front_same one begun all before_many = before_many
many_front_same one begun ts (in_next h) = in_next (begun ts h)
many_front_same one begun all (after_next {a = a} {ts = ts} {us = us} h k) = after_next (one a ts h) (many_front_same one begun us k)

pub same_many : {A : Type 0} {p q : Piece A} → Same p q → Same (many p) (many q)
same_many s = record {
  spells = many_spells_same s.spells;
  spelled = many_spells_same s.spelled;
  fronts = many_front_same s.spells s.fronts;
  front = many_front_same s.spelled s.front;
}

-- ---- orders of alternatives

swapped_spells : {A : Type 0} {p q : Piece A} (a : A) (ts : Tokens) → OrSpells p q a ts → OrSpells q p a ts
swapped_spells a ts (the_one h) = the_other h
swapped_spells a ts (the_other h) = the_one h

swapped_front : {A : Type 0} {p q : Piece A} (ts : Tokens) → OrFront p q ts → OrFront q p ts
swapped_front ts (in_one h) = in_other h
swapped_front ts (in_other h) = in_one h

pub or_comm : {A : Type 0} (p q : Piece A) → Same (p or q) (q or p)
or_comm p q = record { spells = swapped_spells; spelled = swapped_spells; fronts = swapped_front; front = swapped_front }

module _ {A : Type 0} {p q o : Piece A} where
  or_right_spells : (a : A) (ts : Tokens) → OrSpells (p or q) o a ts → OrSpells p (q or o) a ts
  or_right_spells a ts (the_one (the_one h)) = the_one h
  or_right_spells a ts (the_one (the_other h)) = the_other (the_one h)
  or_right_spells a ts (the_other h) = the_other (the_other h)

  or_left_spells : (a : A) (ts : Tokens) → OrSpells p (q or o) a ts → OrSpells (p or q) o a ts
  or_left_spells a ts (the_one h) = the_one (the_one h)
  or_left_spells a ts (the_other (the_one h)) = the_one (the_other h)
  or_left_spells a ts (the_other (the_other h)) = the_other h

  or_right_front : (ts : Tokens) → OrFront (p or q) o ts → OrFront p (q or o) ts
  or_right_front ts (in_one (in_one h)) = in_one h
  or_right_front ts (in_one (in_other h)) = in_other (in_one h)
  or_right_front ts (in_other h) = in_other (in_other h)

  or_left_front : (ts : Tokens) → OrFront p (q or o) ts → OrFront (p or q) o ts
  or_left_front ts (in_one h) = in_one (in_one h)
  or_left_front ts (in_other (in_one h)) = in_one (in_other h)
  or_left_front ts (in_other (in_other h)) = in_other h

pub or_assoc : {A : Type 0} (p q o : Piece A) → Same ((p or q) or o) (p or (q or o))
or_assoc p q o = record { spells = or_right_spells; spelled = or_left_spells; fronts = or_right_front; front = or_left_front }

-- the second of three first
pub or_second_first : {A : Type 0} (p q o : Piece A) → Same (p or (q or o)) (q or (p or o))
or_second_first p q o = same_trans (same_sym (or_assoc p q o)) (same_trans (same_or (or_comm p q) (same_refl o)) (or_assoc q p o))

-- ---- no piece beside another

either_spells : {A : Type 0} {p : Piece A} (a : A) (ts : Tokens) → OrSpells p p a ts → p.Spells a ts
either_spells a ts (the_one h) = h
either_spells a ts (the_other h) = h

either_front : {A : Type 0} {p : Piece A} (ts : Tokens) → OrFront p p ts → p.Front ts
either_front ts (in_one h) = h
either_front ts (in_other h) = h

pub or_same : {A : Type 0} (p : Piece A) → Same (p or p) p
or_same p = record { spells = either_spells; spelled = λ a ts h. the_one h; fronts = either_front; front = λ ts h. in_one h }

left_spells : {A : Type 0} {p : Piece A} (a : A) (ts : Tokens) → OrSpells p never a ts → p.Spells a ts
left_spells a ts (the_one h) = h
left_spells a ts (the_other h) = absurd h

left_front : {A : Type 0} {p : Piece A} (ts : Tokens) → OrFront p never ts → p.Front ts
left_front ts (in_one h) = h
left_front ts (in_other h) = absurd h

pub or_never : {A : Type 0} (p : Piece A) → Same (p or never) p
or_never p = record { spells = left_spells; spelled = λ a ts h. the_one h; fronts = left_front; front = λ ts h. in_one h }

pub never_or : {A : Type 0} (p : Piece A) → Same (never or p) p
never_or p = same_trans (or_comm never p) (or_never p)

-- ---- one beginning of two alternatives

module _ {A B : Type 0} {p : Piece A} {f g : A → Piece B} where
  joined_spells : (b : B) (ts : Tokens) → OrSpells (p >>= f) (p >>= g) b ts → ThenSpells p (λ a. f a or g a) b ts
  joined_spells b all (the_one (then_spells h k)) = then_spells h (the_one k)
  joined_spells b all (the_other (then_spells h k)) = then_spells h (the_other k)

  parted_spells : (b : B) (ts : Tokens) → ThenSpells p (λ a. f a or g a) b ts → OrSpells (p >>= f) (p >>= g) b ts
  parted_spells b all (then_spells h (the_one k)) = the_one (then_spells h k)
  parted_spells b all (then_spells h (the_other k)) = the_other (then_spells h k)

  joined_front : (ts : Tokens) → OrFront (p >>= f) (p >>= g) ts → ThenFront p (λ a. f a or g a) ts
  joined_front ts (in_one (in_first h)) = in_first h
  joined_front all (in_one (in_second h k)) = in_second h (in_one k)
  joined_front ts (in_other (in_first h)) = in_first h
  joined_front all (in_other (in_second h k)) = in_second h (in_other k)

  parted_front : (ts : Tokens) → ThenFront p (λ a. f a or g a) ts → OrFront (p >>= f) (p >>= g) ts
  parted_front ts (in_first h) = in_one (in_first h)
  parted_front all (in_second h (in_one k)) = in_one (in_second h k)
  parted_front all (in_second h (in_other k)) = in_other (in_second h k)

pub or_joined : {A B : Type 0} (p : Piece A) (f g : A → Piece B) → Same ((p >>= f) or (p >>= g)) (p >>= (λ a. f a or g a))
or_joined p f g = record { spells = joined_spells; spelled = parted_spells; fronts = joined_front; front = parted_front }

-- ---- lawful by another piece or another reader

spelled_same : {A : Type 0} {p q : Piece A} → Same p q → (i : Input) (a : A) (j : Input) → Spelled p i a j → Spelled q i a j
spelled_same s i a j h = record { taken = h.taken; split = h.split; last = h.last; spells = s.spells a h.taken h.spells }

fits_same : {A : Type 0} {p q : Piece A} → Same p q → (ts : Tokens) → (ts ≡ []) ⊎ p.Front ts → (ts ≡ []) ⊎ q.Front ts
fits_same s ts (inl none) = inl none
fits_same s ts (inr front) = inr (s.fronts ts front)

stops_same : {A : Type 0} {p q : Piece A} → Same p q → (i : Input) (e : Stop) → StopsAt p i e → StopsAt q i e
stops_same s i e h = record { front = h.front; rest = h.rest; split = h.split; left = h.left; fits = fits_same s h.front h.fits }

pub lawful_same : {A : Type 0} {p q : Piece A} {r : Reader A} {s m : Classes} {e : Bool} → Same p q → Lawful p r s m e → Lawful q r s m e
lawful_same same law = record {
  begins = λ t ts front. law.begins t ts (same.front (t ∷ ts) front);
  not_empty = λ a spelled. law.not_empty a (same.spelled a [] spelled);
  whole = λ a ts spelled. same.fronts ts (law.whole a ts (same.spelled a ts spelled));
  complete = λ a ts rest last spelled behind. law.complete a ts rest last (same.spelled a ts spelled) behind;
  sound = λ i j a h. spelled_same same i a j (law.sound i j a h);
  stops = λ i e h. stops_same same i e (law.stops i e h);
  passes = λ ts rest last front. law.passes ts rest last (same.front ts front);
}

pub lawful_read : {A : Type 0} {p : Piece A} {r r' : Reader A} {s m : Classes} {e : Bool} → ((i : Input) → r i ≡ r' i) → Lawful p r s m e → Lawful p r' s m e
lawful_read same law = record {
  begins = law.begins;
  not_empty = law.not_empty;
  whole = law.whole;
  complete = λ a ts rest last spelled behind. sym (same (input last (ts ++ rest))) ∙ law.complete a ts rest last spelled behind;
  sound = λ i j a h. law.sound i j a (same i ∙ h);
  stops = λ i e h. law.stops i e (same i ∙ h);
  passes = λ ts rest last front. subst (λ o. left_of o ≤ length rest) (same (input last (ts ++ rest))) (law.passes ts rest last front);
}
