-- What is read from left to right is a number of the grammar, and each number of the grammar is read. So a text is a
-- number in one way at most.
use Rattle.std.proofs.Common.{◌≡◌, ◌≢◌, ℕ, suc, ◌+◌, ◌<◌, ◌≤◌, Bool, true, false, ◌||◌, cond, List, [], ◌∷◌, ◌++◌, length, take, drop, Option, Some, None, refl, sym, ap, subst, ◌∙◌, ⊎_elim, arith, take-append-drop, if◌then◌else◌, length-append}
use Rattle.std.specs.Prelude.{IfSome, ◌==◌, nat_le, option_map, option_and_then}
use Rattle.std.specs.List.{list_all, take_while, prefix_len}
use Rattle.std.specs.Char.{is_ascii_digit}
use Rattle.std.proofs.lemmas.Bool.{eqb-true, eqb-false, leb-true, le-leb}
use Rattle.std.proofs.lemmas.Bool.Decides.{eqb_tells}
use Rattle.std.proofs.Math.Seq.{take-append_seam, drop-append_seam}
use Rattle.std.proofs.lemmas.List.Folds.{length-prefix_len}
use Rattle.ato_frac.specs.Numbers.{AreDigits, Parts, IsFraction, no_point, point, IsSigned, plain, plus, minus, IsExponent, no_exponent, lower, upper, IsNumber}
use Rattle.ato_frac.specs.Reading.{front_digits, front_fraction, are_digits, all_digits, signed_digits, exponent_digits, parts_after, read_number}
use Rattle.ato_frac.proofs.Digits.{and_true, digit_range}

-- what is read is a number

some_then : {A B : Type 0} (o : Option A) (f : A → Option B) (Q : A → Type 0) (P : B → Type 0) → IfSome o Q → ((x : A) → Q x → IfSome (f x) P) → IfSome (option_and_then f o) P
some_then None f Q P h k = tt
some_then (Some x) f Q P h k = k x h

front_more : (p : ℕ → Bool) (x : ℕ) (xs : List ℕ) (b : Bool) → p x ≡ b → list_all p (take (prefix_len p xs) xs) ≡ true → list_all p (take (cond b (1 + prefix_len p xs) 0) (x ∷ xs)) ≡ true
front_more p x xs true e h =
    let s : 1 + prefix_len p xs ≡ suc (prefix_len p xs) = omega arith in
    rw (s, e) h
front_more p x xs false e h = refl

front_all : (p : ℕ → Bool) (xs : List ℕ) → list_all p (take (prefix_len p xs) xs) ≡ true
front_all p [] = refl
front_all p (x ∷ xs) = front_more p x xs (p x) refl (front_all p xs)

-- digits and what follows them
abbrev IsCut : List ℕ → List ℕ × List ℕ → Type 0
IsCut text r = (text ≡ r.0 ++ r.1) × AreDigits r.0

front_digits_sound : (text : List ℕ) → IfSome (front_digits text) (IsCut text)
front_digits_sound text = by (prefix_len is_ascii_digit text == 0) refl
  where
    by : (b : Bool) → (prefix_len is_ascii_digit text == 0) ≡ b → IfSome (if b then None else Some (take_while is_ascii_digit text, drop (prefix_len is_ascii_digit text) text)) (IsCut text)
    by true e = tt
    by false e =
        let n = prefix_len is_ascii_digit text in
        let some : n ≢ 0 = eqb-false n 0 e in (
          sym (take-append-drop n text),
          record { some = omega (arith, length-prefix_len is_ascii_digit text); all = front_all is_ascii_digit text },
        )

IsFront : List ℕ → List ℕ × List ℕ → Type 0
IsFront text r = (front : List ℕ) × (text ≡ front ++ r.1) × IsFraction front r.0

after_point : (bs : List ℕ) (o : Option (List ℕ × List ℕ)) → IfSome o (IsCut bs) → IfSome o (IsFront (46 ∷ bs))
unfolding IsFront
after_point bs None h = tt
after_point bs (Some r) h = (46 ∷ r.0, ap (λ x. 46 ∷ x) h.0, point refl h.1)

front_fraction_sound : (text : List ℕ) → IfSome (front_fraction text) (IsFront text)
unfolding IsFront
front_fraction_sound [] = ([], refl, no_point refl refl)
front_fraction_sound (b ∷ bs) = by (b == 46) refl
  where
    by : (t : Bool) → (b == 46) ≡ t → IfSome (if t then front_digits bs else Some ([], b ∷ bs)) (IsFront (b ∷ bs))
    by true e = subst (λ (x : ℕ). IfSome (front_digits bs) (IsFront (x ∷ bs))) (sym (eqb-true b 46 e)) (after_point bs (front_digits bs) (front_digits_sound bs))
    by false e = ([], refl, no_point refl refl)

are_digits_sound : (text : List ℕ) → are_digits text ≡ true → AreDigits text
are_digits_sound text h =
    let t = and_true (nat_le 1 (length text)) (list_all is_ascii_digit text) h in
    let some = leb-true 1 (length text) t.0 in
    record { some = omega arith; all = t.1 }

abbrev IsAll : Bool → List ℕ → Bool × List ℕ → Type 0
IsAll negative text e = (e.0 ≡ negative) × (e.1 ≡ text) × AreDigits text

all_digits_sound : (negative : Bool) (text : List ℕ) → IfSome (all_digits negative text) (IsAll negative text)
all_digits_sound negative text = by (are_digits text) refl
  where
    by : (t : Bool) → are_digits text ≡ t → IfSome (if t then Some (negative, text) else None) (IsAll negative text)
    by true e = (refl, refl, are_digits_sound text e)
    by false e = tt

some_map : {A : Type 0} (o : Option A) (Q P : A → Type 0) → IfSome o Q → ((x : A) → Q x → P x) → IfSome o P
some_map None Q P h k = tt
some_map (Some x) Q P h k = k x h

abbrev SignedAs : List ℕ → Bool × List ℕ → Type 0
SignedAs text e = IsSigned text e.0 e.1

signed_digits_sound : (text : List ℕ) → IfSome (signed_digits text) (SignedAs text)
signed_digits_sound [] = tt
signed_digits_sound (b ∷ bs) = by (b == 43) refl
  where
    with_minus : (t : Bool) → (b == 45) ≡ t → IfSome (if t then all_digits true bs else all_digits false (b ∷ bs)) (SignedAs (b ∷ bs))
    with_minus true e =
        some_map (all_digits true bs) (IsAll true bs) (SignedAs (b ∷ bs)) (all_digits_sound true bs)
        (λ r h. minus (rw (eqb-true b 45 e, h.1) refl) h.0 (rw h.1 h.2))
    with_minus false e =
        some_map (all_digits false (b ∷ bs)) (IsAll false (b ∷ bs)) (SignedAs (b ∷ bs)) (all_digits_sound false (b ∷ bs))
        (λ r h. plain (sym h.1) h.0 (rw h.1 h.2))

    by : (t : Bool) → (b == 43) ≡ t → IfSome (if t then all_digits false bs else (if b == 45 then all_digits true bs else all_digits false (b ∷ bs))) (SignedAs (b ∷ bs))
    by true e =
        some_map (all_digits false bs) (IsAll false bs) (SignedAs (b ∷ bs)) (all_digits_sound false bs)
        (λ r h. plus (rw (eqb-true b 43 e, h.1) refl) h.0 (rw h.1 h.2))
    by false e = with_minus (b == 45) refl

abbrev ExponentAs : List ℕ → Bool × List ℕ → Type 0
ExponentAs text e = IsExponent text e.0 e.1

exponent_digits_sound : (text : List ℕ) → IfSome (exponent_digits text) (ExponentAs text)
exponent_digits_sound [] = no_exponent refl refl refl
exponent_digits_sound (b ∷ bs) = by (b == 101) (b == 69) refl refl
  where
    by : (t u : Bool) → (b == 101) ≡ t → (b == 69) ≡ u → IfSome (if t || u then signed_digits bs else None) (ExponentAs (b ∷ bs))
    by true u e f =
        some_map (signed_digits bs) (SignedAs bs) (ExponentAs (b ∷ bs)) (signed_digits_sound bs)
        (λ r h. lower bs (rw (eqb-true b 101 e) refl) h)
    by false true e f =
        some_map (signed_digits bs) (SignedAs bs) (ExponentAs (b ∷ bs)) (signed_digits_sound bs)
        (λ r h. upper bs (rw (eqb-true b 69 f) refl) h)
    by false false e f = tt

parts_sound : (text : List ℕ) (w f : List ℕ × List ℕ) → text ≡ w.0 ++ w.1 → AreDigits w.0 → IsFront w.1 f → (o : Option (Bool × List ℕ)) → IfSome o (ExponentAs f.1) → IfSome (option_map (λ e. record { whole = w.0; fraction = f.0; negative = e.0; exponent = e.1 }) o) (IsNumber text)
unfolding IsFront
parts_sound text w f t d g None h = tt
parts_sound text w f t d g (Some e) h =
    record {
      fraction_text = g.0;
      exponent_text = f.1;
      text_is = t ∙ ap (λ x. w.0 ++ x) g.1;
      whole = d;
      fraction = g.2;
      exponent = h;
    }

number_if : (text : List ℕ) → IfSome (read_number text) (IsNumber text)
number_if text =
    some_then (front_digits text) (λ w. option_and_then (parts_after w.0) (front_fraction w.1)) (IsCut text) (IsNumber text) (front_digits_sound text)
    (λ w h.
    some_then (front_fraction w.1) (parts_after w.0) (IsFront w.1) (IsNumber text) (front_fraction_sound w.1)
    (λ f g. parts_sound text w f h.0 h.1 g (exponent_digits f.1) (exponent_digits_sound f.1)))

pub read_sound : (text : List ℕ) (parts : Parts) → read_number text ≡ Some parts → IsNumber text parts
read_sound text parts e = subst (λ (o : Option Parts). IfSome o (IsNumber text)) e (number_if text)

-- a number is read

prefix_all : (p : ℕ → Bool) (xs ys : List ℕ) → list_all p xs ≡ true → prefix_len p ys ≡ 0 → prefix_len p (xs ++ ys) ≡ length xs
prefix_all p [] ys h stop = stop
prefix_all p (x ∷ xs) ys h stop =
    let t = and_true (p x) (list_all p xs) h in
    rw (t.0, prefix_all p xs ys t.1 stop) (omega arith)

front_digits_complete : (xs ys : List ℕ) → AreDigits xs → prefix_len is_ascii_digit ys ≡ 0 → front_digits (xs ++ ys) ≡ Some (xs, ys)
front_digits_complete xs ys d stop =
    let n = prefix_all is_ascii_digit xs ys d.all stop in
    let some : (length xs == 0) ≡ false = not_zero (length xs) d.some in
    rw (n, some, take-append_seam xs ys, drop-append_seam xs ys) refl
  where
    not_zero : (k : ℕ) → 0 < k → (k == 0) ≡ false
    not_zero k h = ⊎_elim (λ e. absurd (omega (arith, e.1))) (λ e. e.0) (eqb_tells k 0)

-- an exponent begins with no digit and no point
exponent_stops : (text : List ℕ) (negative : Bool) (digits : List ℕ) → IsExponent text negative digits → prefix_len is_ascii_digit text ≡ 0
exponent_stops text negative digits (no_exponent t n d) = rw t refl
exponent_stops text negative digits (lower signed t s) = rw t refl
exponent_stops text negative digits (upper signed t s) = rw t refl

no_fraction : (text : List ℕ) (negative : Bool) (digits : List ℕ) → IsExponent text negative digits → front_fraction text ≡ Some ([], text)
no_fraction text negative digits (no_exponent t n d) = rw t refl
no_fraction text negative digits (lower signed t s) = rw t refl
no_fraction text negative digits (upper signed t s) = rw t refl

front_fraction_complete : (text digits rest : List ℕ) → IsFraction text digits → prefix_len is_ascii_digit rest ≡ 0 → front_fraction rest ≡ Some ([], rest) → front_fraction (text ++ rest) ≡ Some (digits, rest)
front_fraction_complete text digits rest (no_point t d) stop none = rw (t, d) none
front_fraction_complete text digits rest (point t d) stop none = rw t (front_digits_complete digits rest d stop)

fraction_stops : (text digits rest : List ℕ) → IsFraction text digits → prefix_len is_ascii_digit rest ≡ 0 → prefix_len is_ascii_digit (text ++ rest) ≡ 0
fraction_stops text digits rest (no_point t d) stop = rw t stop
fraction_stops text digits rest (point t d) stop = rw t refl

all_digits_complete : (negative : Bool) (text : List ℕ) → AreDigits text → all_digits negative text ≡ Some (negative, text)
all_digits_complete negative text d =
    let some : nat_le 1 (length text) ≡ true = le-leb 1 (length text) d.some in
    rw (some, d.all) refl

-- a digit is no sign
plain_digits : (text : List ℕ) → AreDigits text → signed_digits text ≡ Some (false, text)
plain_digits [] d = absurd (omega (arith, d.some))
plain_digits (b ∷ bs) d = by (b == 43) (b == 45) refl refl
  where
    low : 48 ≤ b
    low = (digit_range b (and_true (is_ascii_digit b) (list_all is_ascii_digit bs) d.all).0).0

    by : (t u : Bool) → (b == 43) ≡ t → (b == 45) ≡ u → (if t then all_digits false bs else (if u then all_digits true bs else all_digits false (b ∷ bs))) ≡ Some (false, b ∷ bs)
    by true u e f = let is = eqb-true b 43 e in absurd (omega (arith, is, low))
    by false true e f = let is = eqb-true b 45 f in absurd (omega (arith, is, low))
    by false false e f = all_digits_complete false (b ∷ bs) d

signed_digits_complete : (text : List ℕ) (negative : Bool) (digits : List ℕ) → IsSigned text negative digits → signed_digits text ≡ Some (negative, digits)
signed_digits_complete text negative digits (plain t n d) = rw (t, n) (plain_digits digits d)
signed_digits_complete text negative digits (plus t n d) = rw (t, n) (all_digits_complete false digits d)
signed_digits_complete text negative digits (minus t n d) = rw (t, n) (all_digits_complete true digits d)

exponent_digits_complete : (text : List ℕ) (negative : Bool) (digits : List ℕ) → IsExponent text negative digits → exponent_digits text ≡ Some (negative, digits)
exponent_digits_complete text negative digits (no_exponent t n d) = rw (t, n, d) refl
exponent_digits_complete text negative digits (lower signed t s) = rw t (signed_digits_complete signed negative digits s)
exponent_digits_complete text negative digits (upper signed t s) = rw t (signed_digits_complete signed negative digits s)

pub read_complete : (text : List ℕ) (parts : Parts) → IsNumber text parts → read_number text ≡ Some parts
read_complete text parts n =
    let stop = exponent_stops n.exponent_text parts.negative parts.exponent n.exponent in
    let none = no_fraction n.exponent_text parts.negative parts.exponent n.exponent in
    let whole = front_digits_complete parts.whole (n.fraction_text ++ n.exponent_text) n.whole (fraction_stops n.fraction_text parts.fraction n.exponent_text n.fraction stop) in
    let fraction = front_fraction_complete n.fraction_text parts.fraction n.exponent_text n.fraction stop none in
    let exponent = exponent_digits_complete n.exponent_text parts.negative parts.exponent n.exponent in
    rw (n.text_is, whole, fraction, exponent) refl

-- a text is a number in one way at most
pub number_unique : (text : List ℕ) (parts other : Parts) → IsNumber text parts → IsNumber text other → parts ≡ other
number_unique text parts other n m =
    some_same (sym (read_complete text parts n) ∙ read_complete text other m)
  where
    some_same : Some parts ≡ Some other → parts ≡ other
    some_same e = cc

-- the parts are digits, or there are none

pub fraction_digits : (text digits : List ℕ) → IsFraction text digits → list_all is_ascii_digit digits ≡ true
fraction_digits text digits (no_point t d) = rw d refl
fraction_digits text digits (point t d) = d.all

fraction_length : (text digits : List ℕ) → IsFraction text digits → length digits ≤ length text
fraction_length text digits (no_point t d) = rw (t, d) (omega arith)
fraction_length text digits (point t d) = rw t (omega arith)

signed_are_digits : (text : List ℕ) (negative : Bool) (digits : List ℕ) → IsSigned text negative digits → list_all is_ascii_digit digits ≡ true
signed_are_digits text negative digits (plain t n d) = d.all
signed_are_digits text negative digits (plus t n d) = d.all
signed_are_digits text negative digits (minus t n d) = d.all

pub exponent_are_digits : (text : List ℕ) (negative : Bool) (digits : List ℕ) → IsExponent text negative digits → list_all is_ascii_digit digits ≡ true
exponent_are_digits text negative digits (no_exponent t n d) = rw d refl
exponent_are_digits text negative digits (lower signed t s) = signed_are_digits signed negative digits s
exponent_are_digits text negative digits (upper signed t s) = signed_are_digits signed negative digits s

pub number_length : (text : List ℕ) (parts : Parts) → IsNumber text parts → length parts.whole + length parts.fraction ≤ length text
number_length text parts n =
    rw n.text_is
    (omega (
      arith,
      length-append parts.whole (n.fraction_text ++ n.exponent_text),
      length-append n.fraction_text n.exponent_text,
      fraction_length n.fraction_text parts.fraction n.fraction,
    ))
