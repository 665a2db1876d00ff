-- Pieces with their places, and pieces that may be left out.
use Rattle.std.proofs.Common.{◌≡◌, ℕ, ◌≤◌, Bool, true, false, [], ◌∷◌, ◌++◌, length, Ok, Err, Some, None, refl, ap, sym, ◌∙◌, subst, append-nil}
use Rattle.ato_base.specs.declared.places.Span.{Span}
use Rattle.ato_base.specs.declared.tokens.TokenKind.{TokenKind}
use Rattle.ato_parser.specs.declared.stop.Stop.{Stop}
use Rattle.ato_parser.specs.Tokens.{Tokens, last_at, cover, extent}
use Rattle.ato_parser.specs.Pieces.{Piece, PlacedSpells, placed_spells}
use Rattle.ato_parser.specs.Pieces as P
use Rattle.ato_parser.specs.Input.{Input, Outcome, Reader, kind_of, span_of, and_then}
use Rattle.ato_parser.specs.Input as R
use Rattle.ato_parser.proofs.Classes.{Classes, among, within, Tests}
use Rattle.ato_parser.proofs.OutcomeLaws.{ok_is, after_ok, after_err}
use Rattle.ato_parser.proofs.OneLaws.{pure_lawful}
use Rattle.ato_parser.proofs.ThenLaws.{weaken, map_lawful}
use Rattle.ato_parser.proofs.OrLaws.{or_lawful}
use Rattle.ato_parser.proofs.Lawful.{input, left_of, Spelled, StopsAt, Lawful}

-- ---- the place of a piece

module _ {A : Type 0} {p : Piece (Span → A)} {r : Reader (Span → A)} {s m : Classes} (law : Lawful p r s m false) where
  placing : Span → (Span → A) → Reader A
  placing at f j = Ok (f (cover at j.last), j)

  placed_not_empty_by : (a : A) (ts : Tokens) → PlacedSpells p a ts → ts ≡ [] → false ≡ true
  placed_not_empty_by a ts (placed_spells {f = f} spelled) e = law.not_empty f (subst (p.Spells f) e spelled)

  placed_whole : (a : A) (ts : Tokens) → PlacedSpells p a ts → p.Front ts
  placed_whole a ts (placed_spells {f = f} spelled) = law.whole f ts spelled

  -- the place from the next token to the last one that is read
  place_read : (f : Span → A) (ts rest : Tokens) (last : Span) → p.Spells f ts → cover (span_of (ts ++ rest)) (last_at last ts) ≡ extent ts
  place_read f [] rest last spelled = let wrong : false ≡ true = law.not_empty f spelled in cc
  place_read f (t ∷ ts) rest last spelled = refl

  placed_complete : (a : A) (ts rest : Tokens) (last : Span) → PlacedSpells p a ts → among m (kind_of rest) ≡ false → R.placed r (input last (ts ++ rest)) ≡ Ok (a, input (last_at last ts) rest)
  unfolding placing
  placed_complete a ts rest last (placed_spells {f = f} spelled) behind =
      ap (λ (o : Outcome (Span → A)). and_then o (placing (span_of (ts ++ rest)))) (law.complete f ts rest last spelled behind)
      ∙ ap (λ (at : Span). Ok (f at, input (last_at last ts) rest)) (place_read f ts rest last spelled)

  placed_taken : (i j : Input) (f : Span → A) (s : Spelled p i f j) → cover (span_of i.ahead) j.last ≡ extent s.taken
  placed_taken i j f s =
      ap (λ (ts : Tokens). cover (span_of ts) j.last) s.split
      ∙ ap (λ (at : Span). cover (span_of (s.taken ++ j.ahead)) at) s.last
      ∙ place_read f s.taken j.ahead i.last s.spells

  placed_spelled : (i j k : Input) (f : Span → A) (a : A) → Spelled p i f j → f (cover (span_of i.ahead) j.last) ≡ a → j ≡ k → Spelled (P.placed p) i a k
  placed_spelled i j k f a s value rest = record {
    taken = s.taken;
    split = s.split ∙ ap (λ (l : Input). s.taken ++ l.ahead) rest;
    last = ap (λ (l : Input). l.last) (sym rest) ∙ s.last;
    spells = subst (λ (b : A). PlacedSpells p b s.taken) (sym (ap f (placed_taken i j f s)) ∙ value) (placed_spells s.spells);
  }

  placed_sound : (i k : Input) (a : A) → R.placed r i ≡ Ok (a, k) → Spelled (P.placed p) i a k
  unfolding placing
  placed_sound i k a h =
      after_ok (r i) (placing (span_of i.ahead)) (a, k)
      (λ f j one two. let is = ok_is {A = A} two in placed_spelled i j k f a (law.sound i j f one) is.0 is.1)
      h

  placed_stopped : (i : Input) (e : Stop) → StopsAt p i e → StopsAt (P.placed p) i e
  placed_stopped i e s = record { front = s.front; rest = s.rest; split = s.split; left = s.left; fits = s.fits }

  placed_stops : (i : Input) (e : Stop) → R.placed r i ≡ Err e → StopsAt (P.placed p) i e
  unfolding placing
  placed_stops i e h =
      after_err (r i) (placing (span_of i.ahead)) e
      (λ one. placed_stopped i e (law.stops i e one))
      (λ f j one two. cc)
      h

  placed_left : (n : ℕ) (at : Span) (o : Outcome (Span → A)) → left_of o ≤ n → left_of (and_then o (placing at)) ≤ n
  unfolding placing
  placed_left n at (Ok x) h = h
  placed_left n at (Err e) h = h

  placed_passes : (ts rest : Tokens) (last : Span) → p.Front ts → left_of (R.placed r (input last (ts ++ rest))) ≤ length rest
  unfolding placing
  placed_passes ts rest last front = placed_left (length rest) (span_of (ts ++ rest)) (r (input last (ts ++ rest))) (law.passes ts rest last front)

  pub placed_lawful : Lawful (P.placed p) (R.placed r) s m false
  placed_lawful = record {
    begins = law.begins;
    not_empty = λ a spelled. placed_not_empty_by a [] spelled refl;
    whole = placed_whole;
    complete = placed_complete;
    sound = placed_sound;
    stops = placed_stops;
    passes = placed_passes;
  }

-- ---- pieces that may be left out

pub lone_starts : (s : Classes) (kind : TokenKind) → among (s ++ []) kind ≡ true → among s kind ≡ true
lone_starts s kind h = subst (λ (cs : Classes). among cs kind ≡ true) (append-nil s) h

lone_more : (m cs : Classes) (kind : TokenKind) → among (m ++ cs) kind ≡ false → among (m ++ (cs ++ [])) kind ≡ false
lone_more m cs kind h = subst (λ (ds : Classes). among (m ++ ds) kind ≡ false) (sym (append-nil cs)) h

-- the value of a piece, or another where the piece is left out
pub or_pure_lawful : {A B : Type 0} {p : Piece A} {r : Reader A} {s m : Classes} (f : A → B) (b : B) (test : TokenKind → Bool) (cs : Classes) → Tests test cs → Lawful p r s m false → within s cs ≡ true → Lawful (P.◌or◌ (P.◌>>=◌ p (λ a. P.pure (f a))) (P.pure b)) (R.choose test (R.◌>>=◌ r (λ a. R.pure (f a))) (R.pure b)) s (m ++ cs) true
or_pure_lawful {A} {B} {p} {r} {s} {m} f b test cs tests law inside =
    weaken s (m ++ cs) true
    (or_lawful {p = P.◌>>=◌ p (λ a. P.pure (f a))} {q = P.pure b} {r = R.◌>>=◌ r (λ a. R.pure (f a))} {r' = R.pure b} {s2 = []} {m2 = []} {e2 = true} test cs tests (map_lawful f law) (pure_lawful b) inside refl)
    (lone_starts s) (lone_more m cs) (λ e. e)

pub optional_lawful : {A : Type 0} {p : Piece A} {r : Reader A} {s m : Classes} (test : TokenKind → Bool) (cs : Classes) → Tests test cs → Lawful p r s m false → within s cs ≡ true → Lawful (P.optional p) (R.optional test r) s (m ++ cs) true
optional_lawful test cs tests law inside = or_pure_lawful Some None test cs tests law inside

pub flag_lawful : {A : Type 0} {p : Piece A} {r : Reader A} {s m : Classes} (test : TokenKind → Bool) (cs : Classes) → Tests test cs → Lawful p r s m false → within s cs ≡ true → Lawful (P.flag p) (R.choose test (R.◌>>◌ r (R.pure true)) (R.pure false)) s (m ++ cs) true
flag_lawful test cs tests law inside = or_pure_lawful (λ _. true) false test cs tests law inside
