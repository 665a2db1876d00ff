-- One piece after another.
use Rattle.std.proofs.Common.{◌≡◌, ℕ, ◌≤◌, Bool, true, false, ◌&&◌, if◌then◌else◌, [], ◌∷◌, ◌++◌, length, Ok, Err, refl, ap, sym, ◌∙◌, subst, append_assoc, append-nil, ◌⊎◌, inl, inr, le_trans}
use Rattle.ato_base.specs.declared.places.Span.{Span}
use Rattle.ato_base.specs.declared.tokens.Token.{Token}
use Rattle.ato_base.specs.declared.tokens.TokenKind.{TokenKind}
use Rattle.ato_parser.specs.declared.stop.Stop.{Stop}
use Rattle.ato_parser.specs.Tokens.{Tokens, last_at}
use Rattle.ato_parser.specs.Pieces.{Piece, ThenSpells, then_spells, ThenFront, in_first, in_second}
use Rattle.ato_parser.specs.Pieces as P
use Rattle.ato_parser.specs.Input.{Input, Outcome, Reader, kind_of, and_then}
use Rattle.ato_parser.specs.Input as R
use Rattle.ato_parser.proofs.Classes.{Classes, among, apart, within}
use Rattle.ato_parser.proofs.ClassLaws.{apart_among, within_among, outside_among, in_left, in_right, in_neither}
use Rattle.ato_parser.proofs.OutcomeLaws.{after_ok, after_err, last_at-append, never_back}
use Rattle.ato_parser.proofs.OneLaws.{pure_lawful}
use Rattle.ato_parser.proofs.SameLaws.{lawful_read}
use Rattle.ato_parser.proofs.Lawful.{input, left_of, Spelled, StopsAt, Lawful}

-- ---- wider sets

-- a lawful reader is lawful by wider sets
pub weaken : {A : Type 0} {p : Piece A} {r : Reader A} {s m : Classes} {e : Bool} (s' m' : Classes) (e' : Bool) → Lawful p r s m e → ((kind : TokenKind) → among s kind ≡ true → among s' kind ≡ true) → ((kind : TokenKind) → among m' kind ≡ false → among m kind ≡ false) → (e ≡ true → e' ≡ true) → Lawful p r s' m' e'
weaken s' m' e' law starts more empty = record {
  begins = λ t ts front. starts t.kind (law.begins t ts front);
  not_empty = λ a spelled. empty (law.not_empty a spelled);
  whole = law.whole;
  complete = λ a ts rest last spelled behind. law.complete a ts rest last spelled (more (kind_of rest) behind);
  sound = law.sound;
  stops = law.stops;
  passes = law.passes;
}

-- a lawful reader is lawful by sets around its own
pub widen : {A : Type 0} {p : Piece A} {r : Reader A} {s m : Classes} {e : Bool} → Lawful p r s m e → (s' m' : Classes) → within s s' ≡ true → within m m' ≡ true → Lawful p r s' m' e
widen {s = s} {m = m} {e = e} law s' m' starts more =
    weaken s' m' e law (λ kind. within_among s s' kind starts) (λ kind. outside_among m m' kind more) (λ h. h)

-- ---- parts of the laws

then_starts : (s1 s2 : Classes) (e1 : Bool) (kind : TokenKind) → among s1 kind ≡ true → among (if e1 then s2 ++ s1 else s1) kind ≡ true
then_starts s1 s2 true kind h = in_right s2 s1 kind h
then_starts s1 s2 false kind h = h

second_starts : (s1 s2 : Classes) (e1 : Bool) (kind : TokenKind) → e1 ≡ true → among s2 kind ≡ true → among (if e1 then s2 ++ s1 else s1) kind ≡ true
second_starts s1 s2 true kind e h = in_left s2 s1 kind h
second_starts s1 s2 false kind e h = cc

then_more : (m1 m2 : Classes) (e2 : Bool) (kind : TokenKind) → among (if e2 then m1 ++ m2 else m2) kind ≡ false → among m2 kind ≡ false
then_more m1 m2 true kind h = (in_neither m1 m2 kind h).1
then_more m1 m2 false kind h = h

first_more : (m1 m2 : Classes) (e2 : Bool) (kind : TokenKind) → e2 ≡ true → among (if e2 then m1 ++ m2 else m2) kind ≡ false → among m1 kind ≡ false
first_more m1 m2 true kind e h = (in_neither m1 m2 kind h).0
first_more m1 m2 false kind e h = cc

both_empty : (e1 e2 : Bool) → e1 ≡ true → e2 ≡ true → (e1 && e2) ≡ true
both_empty true e2 e f = f
both_empty false e2 e f = cc

module _ {A B : Type 0} {p : Piece A} {q : A → Piece B} {r : Reader A} {f : A → Reader B} {s1 m1 s2 m2 : Classes} {e1 e2 : Bool}
    (first : Lawful p r s1 m1 e1) (second : (a : A) → Lawful (q a) (f a) s2 m2 e2) (away : apart s2 m1 ≡ true) where
  second_begins : {a : A} (ts us : Tokens) (t : Token) (vs : Tokens) → p.Spells a ts → (q a).Front us → ts ++ us ≡ t ∷ vs → among (if e1 then s2 ++ s1 else s1) t.kind ≡ true
  second_begins {a} [] [] t vs spelled front e = cc
  second_begins {a} [] (u ∷ us) t vs spelled front e =
      let same : u ≡ t = cc in
      subst (λ (x : Token). among (if e1 then s2 ++ s1 else s1) x.kind ≡ true) same
      (second_starts s1 s2 e1 u.kind (first.not_empty a spelled) ((second a).begins u us front))
  second_begins {a} (x ∷ ts) us t vs spelled front e =
      let same : x ≡ t = cc in
      subst (λ (x : Token). among (if e1 then s2 ++ s1 else s1) x.kind ≡ true) same
      (then_starts s1 s2 e1 x.kind (first.begins x ts (first.whole a (x ∷ ts) spelled)))

  then_begins_by : (all : Tokens) (t : Token) (vs : Tokens) → ThenFront p q all → all ≡ t ∷ vs → among (if e1 then s2 ++ s1 else s1) t.kind ≡ true
  then_begins_by all t vs (in_first front) e = then_starts s1 s2 e1 t.kind (first.begins t vs (subst p.Front e front))
  then_begins_by all t vs (in_second {a = a} {ts = ts} {us = us} spelled front) e = second_begins {a = a} ts us t vs spelled front e

  then_not_empty_by : (b : B) (all : Tokens) → ThenSpells p q b all → all ≡ [] → (e1 && e2) ≡ true
  then_not_empty_by b all (then_spells {a = a} {ts = ts} {us = us} spelled more) e = both_none a ts us spelled more e
    where
      both_none : (a : A) (ts us : Tokens) → p.Spells a ts → (q a).Spells b us → ts ++ us ≡ [] → (e1 && e2) ≡ true
      both_none a [] [] spelled more e = both_empty e1 e2 (first.not_empty a spelled) ((second a).not_empty b more)
      both_none a [] (u ∷ us) spelled more e = cc
      both_none a (t ∷ ts) us spelled more e = cc

  then_whole : (b : B) (all : Tokens) → ThenSpells p q b all → ThenFront p q all
  then_whole b all (then_spells {a = a} {us = us} spelled more) = in_second spelled ((second a).whole b us more)

  -- nothing of the first goes on before the second
  first_ends : (a : A) (b : B) (us rest : Tokens) → (q a).Spells b us → among (if e2 then m1 ++ m2 else m2) (kind_of rest) ≡ false → among m1 (kind_of (us ++ rest)) ≡ false
  first_ends a b [] rest more behind = first_more m1 m2 e2 (kind_of rest) ((second a).not_empty b more) behind
  first_ends a b (u ∷ us) rest more behind = apart_among s2 m1 u.kind away ((second a).begins u us ((second a).whole b (u ∷ us) more))

  then_complete : (b : B) (all rest : Tokens) (last : Span) → ThenSpells p q b all → among (if e2 then m1 ++ m2 else m2) (kind_of rest) ≡ false → and_then (r (input last (all ++ rest))) f ≡ Ok (b, input (last_at last all) rest)
  then_complete b all rest last (then_spells {a = a} {ts = ts} {us = us} spelled more) behind =
      ap (λ (ws : Tokens). and_then (r (input last ws)) f) (append_assoc ts us rest)
      ∙ ap (λ (o : Outcome A). and_then o f) (first.complete a ts (us ++ rest) last spelled (first_ends a b us rest more behind))
      ∙ (second a).complete b us rest (last_at last ts) more (then_more m1 m2 e2 (kind_of rest) behind)
      ∙ ap (λ (l : Span). Ok (b, input l rest)) (sym (last_at-append last ts us))

  then_spelled : (i j k : Input) (a : A) (b : B) → Spelled p i a j → Spelled (q a) j b k → Spelled (P.◌>>=◌ p q) i b k
  then_spelled i j k a b one two = record {
    taken = one.taken ++ two.taken;
    split = one.split ∙ ap (λ (ts : Tokens). one.taken ++ ts) two.split ∙ sym (append_assoc one.taken two.taken k.ahead);
    last = two.last ∙ ap (λ (l : Span). last_at l two.taken) one.last ∙ sym (last_at-append i.last one.taken two.taken);
    spells = then_spells one.spells two.spells;
  }

  then_sound : (i k : Input) (b : B) → and_then (r i) f ≡ Ok (b, k) → Spelled (P.◌>>=◌ p q) i b k
  then_sound i k b h = after_ok (r i) f (b, k) (λ a j one two. then_spelled i j k a b (first.sound i j a one) ((second a).sound j k b two)) h

  then_stopped_first : (i : Input) (e : Stop) → StopsAt p i e → StopsAt (P.◌>>=◌ p q) i e
  then_stopped_first i e at = record { front = at.front; rest = at.rest; split = at.split; left = at.left; fits = first_fits at.front at.fits }
    where
      first_fits : (ts : Tokens) → (ts ≡ []) ⊎ p.Front ts → (ts ≡ []) ⊎ ThenFront p q ts
      first_fits ts (inl none) = inl none
      first_fits ts (inr front) = inr (in_first front)

  second_fits : (a : A) (ts us : Tokens) → p.Spells a ts → (us ≡ []) ⊎ (q a).Front us → ThenFront p q (ts ++ us)
  second_fits a ts us spelled (inl none) = subst (ThenFront p q) (sym (append-nil ts) ∙ ap (λ (vs : Tokens). ts ++ vs) (sym none)) (in_first (first.whole a ts spelled))
  second_fits a ts us spelled (inr front) = in_second spelled front

  then_stopped_second : (i j : Input) (a : A) (e : Stop) → Spelled p i a j → StopsAt (q a) j e → StopsAt (P.◌>>=◌ p q) i e
  then_stopped_second i j a e one at = record {
    front = one.taken ++ at.front;
    rest = at.rest;
    split = one.split ∙ ap (λ (ts : Tokens). one.taken ++ ts) at.split ∙ sym (append_assoc one.taken at.front at.rest);
    left = at.left;
    fits = inr (second_fits a one.taken at.front one.spells at.fits);
  }

  then_stops : (i : Input) (e : Stop) → and_then (r i) f ≡ Err e → StopsAt (P.◌>>=◌ p q) i e
  then_stops i e h =
      after_err (r i) f e
      (λ one. then_stopped_first i e (first.stops i e one))
      (λ a j one two. then_stopped_second i j a e (first.sound i j a one) ((second a).stops j e two))
      h

  first_left : (n : ℕ) (o : Outcome A) → left_of o ≤ n → left_of (and_then o f) ≤ n
  first_left n (Ok x) h = le_trans (never_back (second x.0) x.1) h
  first_left n (Err e) h = h

  -- the front of the first is read past, whatever comes of the second
  past_first : (ts rest : Tokens) (last : Span) → p.Front ts → left_of (and_then (r (input last (ts ++ rest))) f) ≤ length rest
  past_first ts rest last front = first_left (length rest) (r (input last (ts ++ rest))) (first.passes ts rest last front)

  past_second : (a : A) (ts us rest : Tokens) (last : Span) → p.Spells a ts → (q a).Front us → left_of (and_then (r (input last (ts ++ (us ++ rest)))) f) ≤ length rest
  past_second a ts [] rest last spelled front = past_first ts rest last (first.whole a ts spelled)
  past_second a ts (u ∷ us) rest last spelled front =
      subst (λ (o : Outcome A). left_of (and_then o f) ≤ length rest)
      (sym (first.complete a ts (u ∷ (us ++ rest)) last spelled (apart_among s2 m1 u.kind away ((second a).begins u us front))))
      ((second a).passes (u ∷ us) rest (last_at last ts) front)

  then_passes : (all rest : Tokens) (last : Span) → ThenFront p q all → left_of (and_then (r (input last (all ++ rest))) f) ≤ length rest
  then_passes all rest last (in_first front) = past_first all rest last front
  then_passes all rest last (in_second {a = a} {ts = ts} {us = us} spelled front) =
      subst (λ (ws : Tokens). left_of (and_then (r (input last ws)) f) ≤ length rest) (sym (append_assoc ts us rest)) (past_second a ts us rest last spelled front)

  -- Nothing that the second begins with goes on with the first.
  pub then_lawful : Lawful (P.◌>>=◌ p q) (R.◌>>=◌ r f) (if e1 then s2 ++ s1 else s1) (if e2 then m1 ++ m2 else m2) (e1 && e2)
  then_lawful = record {
    begins = λ t ts front. then_begins_by (t ∷ ts) t ts front refl;
    not_empty = λ b spelled. then_not_empty_by b [] spelled refl;
    whole = then_whole;
    complete = then_complete;
    sound = λ i k b h. then_sound i k b h;
    stops = λ i e h. then_stops i e h;
    passes = then_passes;
  }

-- ---- another value

same_starts : (s : Classes) (e : Bool) (kind : TokenKind) → among (if e then [] ++ s else s) kind ≡ true → among s kind ≡ true
same_starts s true kind h = h
same_starts s false kind h = h

same_more : (m : Classes) (kind : TokenKind) → among m kind ≡ false → among (m ++ []) kind ≡ false
same_more m kind h = subst (λ (cs : Classes). among cs kind ≡ false) (sym (append-nil m)) h

same_empty : (e : Bool) → (e && true) ≡ true → e ≡ true
same_empty true h = h
same_empty false h = h

-- a value made of the value of a piece
pub map_lawful : {A B : Type 0} {p : Piece A} {r : Reader A} {s m : Classes} {e : Bool} (f : A → B) → Lawful p r s m e → Lawful (P.◌>>=◌ p (λ a. P.pure (f a))) (R.◌>>=◌ r (λ a. R.pure (f a))) s m e
map_lawful {A} {B} {p} {r} {s} {m} {e} f law =
    weaken s m e (then_lawful {p = p} {q = λ a. P.pure (f a)} {r = r} {f = λ a. R.pure (f a)} {s2 = []} {m2 = []} {e2 = true} law (λ a. pure_lawful (f a)) refl)
    (same_starts s e) (same_more m) (same_empty e)

-- ---- steps grouped to the left

group_steps : {A B C : Type 0} (o : Outcome A) (f : A → Reader B) (g : B → Reader C) → and_then o (λ a j. and_then (f a j) g) ≡ and_then (and_then o f) g
group_steps (Ok x) f g = refl
group_steps (Err e) f g = refl

pub group_left : {A B C : Type 0} {p : Piece C} (r : Reader A) (f : A → Reader B) (g : B → Reader C) {s m : Classes} {e : Bool} → Lawful p (R.◌>>=◌ r (λ a. R.◌>>=◌ (f a) g)) s m e → Lawful p (R.◌>>=◌ (R.◌>>=◌ r f) g) s m e
group_left r f g law = lawful_read (λ i. group_steps (r i) f g) law

-- a piece behind another, whose value is not asked for
pub second_lawful : {A B C : Type 0} {p : Piece A} {q : Piece B} {r : Reader A} {r' : Reader B} {s1 m1 s2 m2 : Classes} {e1 e2 : Bool} (g : B → C) → Lawful p r s1 m1 e1 → Lawful q r' s2 m2 e2 → apart s2 m1 ≡ true → Lawful (P.◌>>=◌ p (λ _. P.◌>>=◌ q (λ b. P.pure (g b)))) (R.◌>>=◌ (R.◌>>◌ r r') (λ b. R.pure (g b))) (if e1 then s2 ++ s1 else s1) (if e2 then m1 ++ m2 else m2) (e1 && e2)
second_lawful {r = r} {r' = r'} g first second away = group_left r (λ _. r') (λ b. R.pure (g b)) (then_lawful first (λ _. map_lawful g second) away)
