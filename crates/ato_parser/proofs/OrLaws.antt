-- One piece or another.
use Rattle.std.proofs.Common.{◌≡◌, ◌≤◌, Bool, true, false, if◌then◌else◌, [], ◌∷◌, ◌++◌, length, Ok, Err, refl, sym, ◌∙◌, subst, ◌⊎◌, inl, inr}
use Rattle.ato_base.specs.declared.places.Span.{Span}
use Rattle.ato_base.specs.declared.tokens.Token.{Token}
use Rattle.ato_base.specs.declared.tokens.TokenKind.{TokenKind}
use Rattle.ato_parser.specs.declared.stop.Stop.{Stop}
use Rattle.ato_parser.specs.Tokens.{Tokens, last_at}
use Rattle.ato_parser.specs.Pieces.{Piece, ◌or◌, OrSpells, the_one, the_other, OrFront, in_one, in_other}
use Rattle.ato_parser.specs.Input.{Input, Outcome, Reader, kind_of}
use Rattle.ato_parser.specs.Input as R
use Rattle.ato_parser.proofs.Classes.{Classes, among, apart, within, Tests}
use Rattle.ato_parser.proofs.ClassLaws.{apart_among, within_among, in_left, in_right, in_neither}
use Rattle.ato_parser.proofs.OutcomeLaws.{never_back}
use Rattle.ato_parser.proofs.SameLaws.{or_comm, lawful_same}
use Rattle.ato_parser.proofs.Lawful.{input, left_of, Spelled, StopsAt, Lawful}

-- what is the case of both is the case of either
either : {X : Type 0} (P : X → Type 0) (b : Bool) (x y : X) → (b ≡ true → P x) → (b ≡ false → P y) → P (if b then x else y)
either P true x y f g = f refl
either P false x y f g = g refl

either_is : {X P : Type 0} (b : Bool) (x y z : X) → (b ≡ true → x ≡ z → P) → (b ≡ false → y ≡ z → P) → (if b then x else y) ≡ z → P
either_is true x y z f g h = f refl h
either_is false x y z f g h = g refl h

first_chosen : {X : Type 0} (b : Bool) (x y : X) → b ≡ true → (if b then x else y) ≡ x
first_chosen true x y e = refl
first_chosen false x y e = cc

second_chosen : {X : Type 0} (b : Bool) (x y : X) → b ≡ false → (if b then x else y) ≡ y
second_chosen true x y e = cc
second_chosen false x y e = refl

other_more : (cs m2 : Classes) (e2 : Bool) (kind : TokenKind) → among (if e2 then cs ++ m2 else m2) kind ≡ false → among m2 kind ≡ false
other_more cs m2 true kind h = (in_neither cs m2 kind h).1
other_more cs m2 false kind h = h

empty_more : (cs m2 : Classes) (e2 : Bool) (kind : TokenKind) → e2 ≡ true → among (if e2 then cs ++ m2 else m2) kind ≡ false → among cs kind ≡ false
empty_more cs m2 true kind e h = (in_neither cs m2 kind h).0
empty_more cs m2 false kind e h = cc

module _ {A : Type 0} {p q : Piece A} {r r' : Reader A} {s1 m1 s2 m2 : Classes} {e2 : Bool}
    (test : TokenKind → Bool) (cs : Classes) (tests : Tests test cs) (one : Lawful p r s1 m1 false) (other : Lawful q r' s2 m2 e2)
    (inside : within s1 cs ≡ true) (away : apart s2 cs ≡ true) where
  or_begins : (t : Token) (ts : Tokens) → OrFront p q (t ∷ ts) → among (s1 ++ s2) t.kind ≡ true
  or_begins t ts (in_one front) = in_left s1 s2 t.kind (one.begins t ts front)
  or_begins t ts (in_other front) = in_right s1 s2 t.kind (other.begins t ts front)

  or_not_empty : (a : A) → OrSpells p q a [] → e2 ≡ true
  or_not_empty a (the_one spelled) = let wrong : false ≡ true = one.not_empty a spelled in cc
  or_not_empty a (the_other spelled) = other.not_empty a spelled

  or_whole : (a : A) (ts : Tokens) → OrSpells p q a ts → OrFront p q ts
  or_whole a ts (the_one spelled) = in_one (one.whole a ts spelled)
  or_whole a ts (the_other spelled) = in_other (other.whole a ts spelled)

  -- what begins the one is told by the test, and nothing that begins the other
  tested : (t : Token) (ts : Tokens) → p.Front (t ∷ ts) → test t.kind ≡ true
  tested t ts front = tests t.kind ∙ within_among s1 cs t.kind inside (one.begins t ts front)

  untested : (t : Token) (ts : Tokens) → q.Front (t ∷ ts) → test t.kind ≡ false
  untested t ts front = tests t.kind ∙ apart_among s2 cs t.kind away (other.begins t ts front)

  spelled_tested : (a : A) (ts rest : Tokens) → p.Spells a ts → test (kind_of (ts ++ rest)) ≡ true
  spelled_tested a [] rest spelled = let wrong : false ≡ true = one.not_empty a spelled in cc
  spelled_tested a (t ∷ ts) rest spelled = tested t ts (one.whole a (t ∷ ts) spelled)

  spelled_untested : (a : A) (ts rest : Tokens) → q.Spells a ts → among (if e2 then cs ++ m2 else m2) (kind_of rest) ≡ false → test (kind_of (ts ++ rest)) ≡ false
  spelled_untested a [] rest spelled behind = tests (kind_of rest) ∙ empty_more cs m2 e2 (kind_of rest) (other.not_empty a spelled) behind
  spelled_untested a (t ∷ ts) rest spelled behind = untested t ts (other.whole a (t ∷ ts) spelled)

  or_complete : (a : A) (ts rest : Tokens) (last : Span) → OrSpells p q a ts → among (m1 ++ (if e2 then cs ++ m2 else m2)) (kind_of rest) ≡ false → R.choose test r r' (input last (ts ++ rest)) ≡ Ok (a, input (last_at last ts) rest)
  or_complete a ts rest last (the_one spelled) behind =
      first_chosen (test (kind_of (ts ++ rest))) (r (input last (ts ++ rest))) (r' (input last (ts ++ rest))) (spelled_tested a ts rest spelled)
      ∙ one.complete a ts rest last spelled (in_neither m1 (if e2 then cs ++ m2 else m2) (kind_of rest) behind).0
  or_complete a ts rest last (the_other spelled) behind =
      let more = (in_neither m1 (if e2 then cs ++ m2 else m2) (kind_of rest) behind).1 in
      second_chosen (test (kind_of (ts ++ rest))) (r (input last (ts ++ rest))) (r' (input last (ts ++ rest))) (spelled_untested a ts rest spelled more)
      ∙ other.complete a ts rest last spelled (other_more cs m2 e2 (kind_of rest) more)

  one_spelled : (i j : Input) (a : A) → Spelled p i a j → Spelled (p or q) i a j
  one_spelled i j a s = record { taken = s.taken; split = s.split; last = s.last; spells = the_one s.spells }

  other_spelled : (i j : Input) (a : A) → Spelled q i a j → Spelled (p or q) i a j
  other_spelled i j a s = record { taken = s.taken; split = s.split; last = s.last; spells = the_other s.spells }

  or_sound : (i j : Input) (a : A) → R.choose test r r' i ≡ Ok (a, j) → Spelled (p or q) i a j
  or_sound i j a h =
      either_is (test (kind_of i.ahead)) (r i) (r' i) (Ok (a, j))
      (λ _ read. one_spelled i j a (one.sound i j a read))
      (λ _ read. other_spelled i j a (other.sound i j a read))
      h

  one_fits : (ts : Tokens) → (ts ≡ []) ⊎ p.Front ts → (ts ≡ []) ⊎ OrFront p q ts
  one_fits ts (inl none) = inl none
  one_fits ts (inr front) = inr (in_one front)

  other_fits : (ts : Tokens) → (ts ≡ []) ⊎ q.Front ts → (ts ≡ []) ⊎ OrFront p q ts
  other_fits ts (inl none) = inl none
  other_fits ts (inr front) = inr (in_other front)

  one_stopped : (i : Input) (e : Stop) → StopsAt p i e → StopsAt (p or q) i e
  one_stopped i e s = record { front = s.front; rest = s.rest; split = s.split; left = s.left; fits = one_fits s.front s.fits }

  other_stopped : (i : Input) (e : Stop) → StopsAt q i e → StopsAt (p or q) i e
  other_stopped i e s = record { front = s.front; rest = s.rest; split = s.split; left = s.left; fits = other_fits s.front s.fits }

  or_stops : (i : Input) (e : Stop) → R.choose test r r' i ≡ Err e → StopsAt (p or q) i e
  or_stops i e h =
      either_is (test (kind_of i.ahead)) (r i) (r' i) (Err e)
      (λ _ read. one_stopped i e (one.stops i e read))
      (λ _ read. other_stopped i e (other.stops i e read))
      h

  -- with nothing of a front read, nothing is given back
  or_back : (i : Input) → left_of (R.choose test r r' i) ≤ length i.ahead
  or_back i =
      either (λ (o : Outcome A). left_of o ≤ length i.ahead) (test (kind_of i.ahead)) (r i) (r' i)
      (λ _. never_back one i) (λ _. never_back other i)

  or_passes : (ts rest : Tokens) (last : Span) → OrFront p q ts → left_of (R.choose test r r' (input last (ts ++ rest))) ≤ length rest
  or_passes [] rest last front = or_back (input last rest)
  or_passes (t ∷ ts) rest last (in_one front) =
      subst (λ (o : Outcome A). left_of o ≤ length rest)
      (sym (first_chosen (test t.kind) (r (input last (t ∷ (ts ++ rest)))) (r' (input last (t ∷ (ts ++ rest)))) (tested t ts front)))
      (one.passes (t ∷ ts) rest last front)
  or_passes (t ∷ ts) rest last (in_other front) =
      subst (λ (o : Outcome A). left_of o ≤ length rest)
      (sym (second_chosen (test t.kind) (r (input last (t ∷ (ts ++ rest)))) (r' (input last (t ∷ (ts ++ rest)))) (untested t ts front)))
      (other.passes (t ∷ ts) rest last front)

  -- Where the other may be empty, nothing of the test's classes may stand behind it.
  pub or_lawful : Lawful (p or q) (R.choose test r r') (s1 ++ s2) (m1 ++ (if e2 then cs ++ m2 else m2)) e2
  or_lawful = record {
    begins = or_begins;
    not_empty = or_not_empty;
    whole = or_whole;
    complete = or_complete;
    sound = or_sound;
    stops = or_stops;
    passes = or_passes;
  }

-- the test belongs to the piece that is written second
pub or_swapped : {A : Type 0} {p q : Piece A} {r r' : Reader A} {s1 m1 s2 m2 : Classes} {e2 : Bool} (test : TokenKind → Bool) (cs : Classes) → Tests test cs → Lawful p r s1 m1 false → Lawful q r' s2 m2 e2 → within s1 cs ≡ true → apart s2 cs ≡ true → Lawful (q or p) (R.choose test r r') (s1 ++ s2) (m1 ++ (if e2 then cs ++ m2 else m2)) e2
or_swapped {p = p} {q = q} test cs tests one other inside away = lawful_same (or_comm p q) (or_lawful test cs tests one other inside away)
