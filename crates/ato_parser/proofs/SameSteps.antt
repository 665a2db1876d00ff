-- Pieces with the same spellings and the same fronts: a value known before, and pieces in a row.
use Rattle.std.proofs.Common.{[], sym, append_assoc, subst}
use Rattle.ato_parser.specs.Tokens.{Tokens}
use Rattle.ato_parser.specs.Pieces.{Piece, nothing, before_nothing, ThenSpells, then_spells, ThenFront, in_first, in_second, pure, ◌>>=◌}
use Rattle.ato_parser.proofs.SameLaws.{same_sym, same_trans, same_second}
use Rattle.ato_parser.proofs.Lawful.{Same}

infixr 6 ◌then◌
pub ◌then◌ : {A : Type 0} {p q r : Piece A} → Same p q → Same q r → Same p r
e then f = same_trans e f

-- ---- three in a row

nested_spells : {A B C : Type 0} {p : Piece A} {f : A → Piece B} {g : B → Piece C} (c : C) (ts : Tokens) → ThenSpells p (λ a. f a >>= g) c ts → ThenSpells (p >>= f) g c ts
nested_spells {g = g} c ts (then_spells {ts = us} s (then_spells {ts = vs} {us = ws} t u)) = subst (ThenSpells _ g c) (append_assoc us vs ws) (then_spells (then_spells s t) u)

flat_spells : {A B C : Type 0} {p : Piece A} {f : A → Piece B} {g : B → Piece C} (c : C) (ts : Tokens) → ThenSpells (p >>= f) g c ts → ThenSpells p (λ a. f a >>= g) c ts
flat_spells {p = p} c ts (then_spells {us = ws} (then_spells {ts = us} {us = vs} s t) u) = subst (ThenSpells p _ c) (sym (append_assoc us vs ws)) (then_spells s (then_spells t u))

nested_front : {A B C : Type 0} {p : Piece A} {f : A → Piece B} {g : B → Piece C} (ts : Tokens) → ThenFront p (λ a. f a >>= g) ts → ThenFront (p >>= f) g ts
nested_front ts (in_first s) = in_first (in_first s)
nested_front ts (in_second s (in_first t)) = in_first (in_second s t)
nested_front {g = g} ts (in_second {ts = us} s (in_second {ts = vs} {us = ws} t u)) = subst (ThenFront _ g) (append_assoc us vs ws) (in_second (then_spells s t) u)

flat_front : {A B C : Type 0} {p : Piece A} {f : A → Piece B} {g : B → Piece C} (ts : Tokens) → ThenFront (p >>= f) g ts → ThenFront p (λ a. f a >>= g) ts
flat_front ts (in_first (in_first s)) = in_first s
flat_front ts (in_first (in_second s t)) = in_second s (in_first t)
flat_front {p = p} ts (in_second {us = ws} (then_spells {ts = us} {us = vs} s t) u) = subst (ThenFront p _) (sym (append_assoc us vs ws)) (in_second s (in_second t u))

pub nested : {A B C : Type 0} (p : Piece A) (f : A → Piece B) (g : B → Piece C) → Same (p >>= λ a. f a >>= g) ((p >>= f) >>= g)
nested p f g = record { spells = nested_spells {p = p}; spelled = flat_spells {p = p}; fronts = nested_front {p = p}; front = flat_front {p = p} }

-- what goes on behind the value of a piece, over what goes on behind each part
pub carried : {A B C : Type 0} (p : Piece A) {f : A → Piece B} {g : B → Piece C} {h : A → Piece C} → ((a : A) → Same (f a >>= g) (h a)) → Same ((p >>= f) >>= g) (p >>= h)
carried p e = same_sym (nested p _ _) then same_second p e

-- ---- a value known before

known_spells : {A B : Type 0} {a : A} {f : A → Piece B} (b : B) (ts : Tokens) → ThenSpells (pure a) f b ts → (f a).Spells b ts
known_spells b ts (then_spells nothing s) = s

known_front : {A B : Type 0} {a : A} {f : A → Piece B} → (f a).Front [] → (ts : Tokens) → ThenFront (pure a) f ts → (f a).Front ts
known_front empty ts (in_first before_nothing) = empty
known_front empty ts (in_second nothing s) = s

pub known : {A B : Type 0} (a : A) (f : A → Piece B) → (f a).Front [] → Same (pure a >>= f) (f a)
known a f empty = record { spells = known_spells {f = f}; spelled = λ b ts s. then_spells nothing s; fronts = known_front {f = f} empty; front = λ ts s. in_second nothing s }
