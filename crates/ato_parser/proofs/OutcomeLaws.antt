-- What outcomes of readers say.
use Rattle.std.proofs.Common.{◌≡◌, ◌≤◌, Bool, [], ◌∷◌, ◌++◌, length, Ok, Err, refl, ap, subst, arith, length-append, inl}
use Rattle.ato_base.specs.declared.places.Span.{Span}
use Rattle.ato_parser.specs.declared.stop.Stop.{Stop}
use Rattle.ato_parser.specs.declared.stop.Stop.TheVariants as stops
use Rattle.ato_parser.specs.Tokens.{Tokens, last_at}
use Rattle.ato_parser.specs.Pieces.{Piece}
use Rattle.ato_parser.specs.Input.{Input, Outcome, Reader, and_then}
use Rattle.ato_parser.proofs.Classes.{Classes}
use Rattle.ato_parser.proofs.Lawful.{left_of, StopsBefore, Spelled, StopsAt, Lawful}

-- ---- equal outcomes

pub ok_is : {A : Type 0} {a b : A} {i j : Input} → (let r : Outcome A = Ok (a, i) in r ≡ Ok (b, j)) → (a ≡ b) × (i ≡ j)
ok_is {A} {a} {b} {i} {j} h = let p : ◌≡◌ {A = A × Input} (a, i) (b, j) = cc in (ap (λ (q : A × Input). q.0) p, ap (λ (q : A × Input). q.1) p)

-- what comes of two steps comes of the first and then of the second
pub after_ok : {A B P : Type 0} (o : Outcome A) (f : A → Reader B) (y : B × Input) → ((a : A) (j : Input) → o ≡ Ok (a, j) → f a j ≡ Ok y → P) → and_then o f ≡ Ok y → P
after_ok (Ok p) f y go h = go p.0 p.1 refl h
after_ok (Err e) f y go h = cc

-- two steps stop where the first stops, or else the second
pub after_err : {A B P : Type 0} (o : Outcome A) (f : A → Reader B) (e : Stop) → (o ≡ Err e → P) → ((a : A) (j : Input) → o ≡ Ok (a, j) → f a j ≡ Err e → P) → and_then o f ≡ Err e → P
after_err (Ok p) f e first second h = second p.0 p.1 refl h
after_err (Err e') f e first second h = first (let s : e' ≡ e = cc in ap Err s)

-- what is the case of two steps, one by one
pub after : {A B : Type 0} (P : Outcome B → Type 0) (o : Outcome A) (f : A → Reader B) → ((e : Stop) → o ≡ Err e → P (Err e)) → ((a : A) (j : Input) → o ≡ Ok (a, j) → P (f a j)) → P (and_then o f)
after P (Ok p) f first second = second p.0 p.1 refl
after P (Err e) f first second = first e refl

-- ---- tokens

pub last_at-append : (last : Span) (ts us : Tokens) → last_at last (ts ++ us) ≡ last_at (last_at last ts) us
last_at-append last [] us = refl
last_at-append last (t ∷ ts) us = last_at-append t.at ts us

-- ---- no reader gives tokens back

spelled_back : {A : Type 0} {p : Piece A} {i j : Input} {a : A} → Spelled p i a j → length j.ahead ≤ length i.ahead
spelled_back {A} {p} {i} {j} s = omega (arith, ap length s.split, length-append s.taken j.ahead)

stopped_back : {A : Type 0} {p : Piece A} (i : Input) (e : Stop) → StopsAt p i e → left_of {A = A} (Err e) ≤ length i.ahead
stopped_back i stops.NoMemory s = omega arith
stopped_back i (stops.Syntax k) s = let left : k ≡ length s.rest = s.left in omega (arith, ap length s.split, length-append s.front s.rest)
stopped_back i (stops.TooDeep k) s = let left : k ≡ length s.rest = s.left in omega (arith, ap length s.split, length-append s.front s.rest)

never_back_by : {A : Type 0} {p : Piece A} {r : Reader A} {s m : Classes} {e : Bool} → Lawful p r s m e → (i : Input) (o : Outcome A) → r i ≡ o → left_of o ≤ length i.ahead
never_back_by law i (Ok x) h = spelled_back (law.sound i x.1 x.0 h)
never_back_by law i (Err stop) h = stopped_back i stop (law.stops i stop h)

pub never_back : {A : Type 0} {p : Piece A} {r : Reader A} {s m : Classes} {e : Bool} → Lawful p r s m e → (i : Input) → left_of (r i) ≤ length i.ahead
never_back {A} {p} {r} law i = never_back_by law i (r i) refl

-- ---- a stop at once

pub stops_here : {A : Type 0} (p : Piece A) (i : Input) (e : Stop) → StopsBefore (length i.ahead) e → StopsAt p i e
stops_here p i e left = record { front = []; rest = i.ahead; split = refl; left = left; fits = inl refl }

pub refused_here : {A : Type 0} (p : Piece A) (i : Input) (e : Stop) → (let o : Outcome A = Err (stops.Syntax (length i.ahead)) in o ≡ Err e) → StopsAt p i e
refused_here p i e h = let s : stops.Syntax (length i.ahead) ≡ e = cc in stops_here p i e (subst (StopsBefore (length i.ahead)) s refl)
