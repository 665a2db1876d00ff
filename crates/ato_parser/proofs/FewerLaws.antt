-- Where fewer parentheses may stand inside each other, the spellings and fronts with no more of them open stay.
use Rattle.std.proofs.Common.{◌≡◌, ℕ, List, [], ◌∷◌, ◌++◌, true, Option, Some, None, is_some, refl, sym, ap, ◌∙◌, subst}
use Rattle.ato_base.specs.declared.places.Span.{Span}
use Rattle.ato_base.specs.declared.keywords.Mark.TheVariants as marks
use Rattle.ato_base.specs.declared.tokens.TokenKind.{TokenKind}
use Rattle.ato_parser.specs.Tokens.{Tokens, token}
use Rattle.ato_parser.specs.Kinds.{is_mark, just}
use Rattle.ato_parser.specs.Nesting.{after_one, left_to_open}
use Rattle.ato_parser.specs.Pieces.{Piece, never, pure, one, ◌>>=◌, ◌or◌, many, placed, optional, ended, OneSpells, one_token, OneFront, before_one, whole_one, ThenSpells, then_spells, ThenFront, in_first, in_second, OrSpells, the_one, the_other, OrFront, in_one, in_other, ManySpells, no_more, one_more, ManyFront, before_many, in_next, after_next, PlacedSpells, placed_spells}
use Rattle.ato_parser.specs.TokenPieces.{mark}
use Rattle.ato_parser.proofs.KindsOfTokens.{false_true, just_some, mark_is}
use Rattle.ato_parser.proofs.GrowsLaws.{Grows}
use Rattle.ato_parser.proofs.Nesting.{Moves, left_both, then_moves}

-- in these tokens no more parentheses are opened than may be
abbrev pub Fits : ℕ → Tokens → Type 0
Fits b ts = is_some (left_to_open (Some b) ts) ≡ true

-- The spellings and the fronts of the one with no more parentheses open are those of the other.
pub record Fewer {A : Type 0} (b : ℕ) (p q : Piece A) : Type 0 where
  pub spells : (a : A) (ts : Tokens) → p.Spells a ts → Fits b ts → q.Spells a ts
  pub fronts : (ts : Tokens) → p.Front ts → Fits b ts → q.Front ts

pub same_fewer : {A : Type 0} (b : ℕ) (p : Piece A) → Fewer b p p
same_fewer b p = record { spells = λ a ts s fits. s; fronts = λ ts f fits. f }

pub grows_fewer : {A : Type 0} (b : ℕ) (p q : Piece A) → Grows p q → Fewer b p q
grows_fewer b p q grows = record { spells = λ a ts s fits. grows.spells a ts s; fronts = λ ts f fits. grows.fronts ts f }

-- ---- tokens that fit

none_left : (ts : Tokens) → left_to_open None ts ≡ None
none_left [] = refl
none_left (t ∷ ts) = none_left ts

left_before : (s : Option ℕ) (us : Tokens) → is_some (left_to_open s us) ≡ true → is_some s ≡ true
left_before None us e = absurd (false_true (sym (ap is_some (none_left us)) ∙ e))
left_before (Some n) us e = refl

-- what stands before fits
fits_before : (b : ℕ) (ts us : Tokens) → Fits b (ts ++ us) → Fits b ts
fits_before b ts us e = left_before (left_to_open (Some b) ts) us (sym (ap is_some (left_both (Some b) ts us)) ∙ e)

-- and so does what stands behind
fits_behind : (b c : ℕ) (ts us : Tokens) → left_to_open (Some b) ts ≡ Some c → Fits b (ts ++ us) → Fits c us
fits_behind b c ts us e fits = sym (ap is_some (left_both (Some b) ts us ∙ ap (λ s. left_to_open s us) e)) ∙ fits

-- ---- one piece after another

-- where the second is the same
module _ {A B : Type 0} (b : ℕ) (p p' : Piece A) (q : A → Piece B) (first : Fewer b p p') where
  begun_spelled : (x : B) (ts : Tokens) → ThenSpells p q x ts → Fits b ts → ThenSpells p' q x ts
  begun_spelled x ts (then_spells {a} {ts = vs} {us} s t) fits = then_spells (first.spells a vs s (fits_before b vs us fits)) t

  begun_front : (ts : Tokens) → ThenFront p q ts → Fits b ts → ThenFront p' q ts
  begun_front ts (in_first f) fits = in_first (first.fronts ts f fits)
  begun_front ts (in_second {a} {ts = vs} {us} s f) fits = in_second (first.spells a vs s (fits_before b vs us fits)) f

  pub begun_fewer : Fewer b (p >>= q) (p' >>= q)
  begun_fewer = record { spells = begun_spelled; fronts = begun_front }

-- where c more may be opened behind the first
module _ {A B : Type 0} (b c : ℕ) (p p' : Piece A) (q q' : A → Piece B) (moves : Moves b c p') (first : Fewer b p p') (second : (a : A) → Fewer c (q a) (q' a)) where
  then_spelled : (x : B) (ts : Tokens) → ThenSpells p q x ts → Fits b ts → ThenSpells p' q' x ts
  then_spelled x ts (then_spells {a} {ts = vs} {us} s t) fits =
      let here : p'.Spells a vs = first.spells a vs s (fits_before b vs us fits) in
      then_spells here ((second a).spells x us t (fits_behind b c vs us (moves.spelling a vs here) fits))

  then_front : (ts : Tokens) → ThenFront p q ts → Fits b ts → ThenFront p' q' ts
  then_front ts (in_first f) fits = in_first (first.fronts ts f fits)
  then_front ts (in_second {a} {ts = vs} {us} s f) fits =
      let here : p'.Spells a vs = first.spells a vs s (fits_before b vs us fits) in
      in_second here ((second a).fronts us f (fits_behind b c vs us (moves.spelling a vs here) fits))

  pub then_fewer : Fewer b (p >>= q) (p' >>= q')
  then_fewer = record { spells = then_spelled; fronts = then_front }

-- where the first is the same
pub behind_fewer : {A B : Type 0} (b c : ℕ) (p : Piece A) (q q' : A → Piece B) → Moves b c p → ((a : A) → Fewer c (q a) (q' a)) → Fewer b (p >>= q) (p >>= q')
behind_fewer b c p q q' moves second = then_fewer b c p p q q' moves (same_fewer b p) second

-- ---- one piece or another

-- either is one piece
module _ {A : Type 0} (b : ℕ) (p q r : Piece A) (first : Fewer b p r) (second : Fewer b q r) where
  either_spelled : (a : A) (ts : Tokens) → OrSpells p q a ts → Fits b ts → r.Spells a ts
  either_spelled a ts (the_one s) fits = first.spells a ts s fits
  either_spelled a ts (the_other s) fits = second.spells a ts s fits

  either_front : (ts : Tokens) → OrFront p q ts → Fits b ts → r.Front ts
  either_front ts (in_one f) fits = first.fronts ts f fits
  either_front ts (in_other f) fits = second.fronts ts f fits

  pub either_fewer : Fewer b (p or q) r
  either_fewer = record { spells = either_spelled; fronts = either_front }

pub one_fewer : {A : Type 0} (b : ℕ) (p p' q : Piece A) → Fewer b p p' → Fewer b p (p' or q)
one_fewer b p p' q h = record { spells = λ a ts s fits. the_one (h.spells a ts s fits); fronts = λ ts f fits. in_one (h.fronts ts f fits) }

pub other_fewer : {A : Type 0} (b : ℕ) (p q q' : Piece A) → Fewer b q q' → Fewer b q (p or q')
other_fewer b p q q' h = record { spells = λ a ts s fits. the_other (h.spells a ts s fits); fronts = λ ts f fits. in_other (h.fronts ts f fits) }

pub or_fewer : {A : Type 0} (b : ℕ) (p p' q q' : Piece A) → Fewer b p p' → Fewer b q q' → Fewer b (p or q) (p' or q')
or_fewer b p p' q q' first second = either_fewer b p q (p' or q') (one_fewer b p p' q' first) (other_fewer b p' q q' second)

-- ---- a piece as often as one likes, and its place

module _ {A : Type 0} (b : ℕ) (p p' : Piece A) (moves : Moves b b p') (part : Fewer b p p') where
  many_spelled : (xs : List A) (ts : Tokens) → ManySpells p xs ts → Fits b ts → ManySpells p' xs ts
  many_spelled xs ts no_more fits = no_more
  many_spelled xs ts (one_more {a} {more} {ts = vs} {us} s t) fits =
      let here : p'.Spells a vs = part.spells a vs s (fits_before b vs us fits) in
      one_more here (many_spelled more us t (fits_behind b b vs us (moves.spelling a vs here) fits))

  many_front : (ts : Tokens) → ManyFront p ts → Fits b ts → ManyFront p' ts
  many_front ts before_many fits = before_many
  many_front ts (in_next f) fits = in_next (part.fronts ts f fits)
  many_front ts (after_next {a} {ts = vs} {us} s f) fits =
      let here : p'.Spells a vs = part.spells a vs s (fits_before b vs us fits) in
      after_next here (many_front us f (fits_behind b b vs us (moves.spelling a vs here) fits))

  pub many_fewer : Fewer b (many p) (many p')
  many_fewer = record { spells = many_spelled; fronts = many_front }

module _ {A : Type 0} (b : ℕ) (p p' : Piece (Span → A)) (part : Fewer b p p') where
  placed_spelled : (a : A) (ts : Tokens) → PlacedSpells p a ts → Fits b ts → PlacedSpells p' a ts
  placed_spelled a ts (placed_spells {f} s) fits = placed_spells (part.spells f ts s fits)

  pub placed_fewer : Fewer b (placed p) (placed p')
  placed_fewer = record { spells = placed_spelled; fronts = part.fronts }

-- ---- pieces made of these

pub optional_fewer : {A : Type 0} (b : ℕ) (p p' : Piece A) → Fewer b p p' → Fewer b (optional p) (optional p')
optional_fewer b p p' part = or_fewer b _ _ _ _ (begun_fewer b p p' (λ a. pure (Some a)) part) (same_fewer b _)

-- where the separator and what may stand at the end are the same
pub ended_fewer : {S A B : Type 0} (b : ℕ) (s : Piece S) (p p' : Piece A) (q : Piece B) → Moves b b s → Moves b b p' → Fewer b p p' → Fewer b (ended s p q) (ended s p' q)
ended_fewer b s p p' q between moves part =
    begun_fewer b _ _ _ (many_fewer b _ _ (then_moves b b b s _ between (λ _. moves)) (behind_fewer b b s _ _ between (λ _. part)))

-- ---- where no parenthesis may be opened

no_opening : (kind : TokenKind) (a : Unit) (us : Tokens) (at : Span) → just (is_mark marks.LeftParenthesis) kind ≡ Some a → Fits 0 (token kind at ∷ us) → ⊥
no_opening kind a us at e fits =
    let same : after_one 0 kind ≡ None = ap (after_one 0) (mark_is marks.LeftParenthesis kind (just_some (is_mark marks.LeftParenthesis) kind a e)) in
    false_true (sym (ap is_some (ap (λ s. left_to_open s us) same ∙ none_left us)) ∙ fits)

-- behind an open parenthesis
module _ {A : Type 0} (q : Unit {0} × Span → Piece A) where
  never_opened : (x : A) (ts : Tokens) → ThenSpells (mark marks.LeftParenthesis) q x ts → Fits 0 ts → ⊥
  never_opened x ts (then_spells {us} (one_token {a} kind at e) t) fits = no_opening kind a us at e fits

  only_nothing : (ts : Tokens) → ThenFront (mark marks.LeftParenthesis) q ts → Fits 0 ts → ts ≡ []
  only_nothing ts (in_first before_one) fits = refl
  only_nothing ts (in_first (whole_one {a} kind at e)) fits = absurd (no_opening kind a [] at e fits)
  only_nothing ts (in_second {us} (one_token {a} kind at e) f) fits = absurd (no_opening kind a us at e fits)

  -- it is each piece that has nothing as a front
  pub opened_fewer : (r : Piece A) → r.Front [] → Fewer 0 (mark marks.LeftParenthesis >>= q) r
  opened_fewer r begins = record {
    spells = λ x ts s fits. absurd (never_opened x ts s fits);
    fronts = λ ts f fits. subst (λ us. r.Front us) (sym (only_nothing ts f fits)) begins;
  }

-- behind a token and an open parenthesis
module _ {A B : Type 0} (value : TokenKind → Option A) (q q' : A × Span → Unit {0} × Span → Piece B) (moves : Moves 0 0 (one value)) where
  call_spelled : (x : B) (ts : Tokens) → ThenSpells (one value) (λ a. mark marks.LeftParenthesis >>= q a) x ts → Fits 0 ts → ThenSpells (one value) (λ a. never >>= q' a) x ts
  call_spelled x ts (then_spells {a} {ts = vs} {us} s t) fits =
      absurd (never_opened (q a) x us t (fits_behind 0 0 vs us (moves.spelling a vs s) fits))

  whole_token : (a : A × Span) (ts : Tokens) → OneSpells value a ts → OneFront value (ts ++ [])
  whole_token a ts (one_token kind at e) = whole_one kind at e

  call_front : (ts : Tokens) → ThenFront (one value) (λ a. mark marks.LeftParenthesis >>= q a) ts → Fits 0 ts → ThenFront (one value) (λ a. never >>= q' a) ts
  call_front ts (in_first f) fits = in_first f
  call_front ts (in_second {a} {ts = vs} {us} s f) fits =
      let none : us ≡ [] = only_nothing (q a) us f (fits_behind 0 0 vs us (moves.spelling a vs s) fits) in
      in_first (subst (λ ws. OneFront value (vs ++ ws)) (sym none) (whole_token a vs s))

  pub call_fewer : Fewer 0 (one value >>= λ a. mark marks.LeftParenthesis >>= q a) (one value >>= λ a. never >>= q' a)
  call_fewer = record { spells = call_spelled; fronts = call_front }
