-- What stands before the rest of a text: characters that pass a test, and numbers.
use Rattle.std.proofs.Common.{◌≡◌, ℕ, ◌<◌, ◌≤◌, Bool, true, false, List, [], ◌∷◌, ◌++◌, length, Option, Some, None, refl, sym, ap, ◌∙◌, arith, subst, if◌then◌else◌, ◌==◌, ◌||◌, ◌&&◌}
use Rattle.std.specs.Char.{is_ascii_digit}
use Rattle.std.specs.List.{list_all}
use Rattle.std.specs.Option.{is_some}
use Rattle.std.proofs.lemmas.Bool.{eqb-true}
use Rattle.std.proofs.lemmas.List.{length-append, append_assoc}
use Rattle.ato_frac.specs.Numbers.{Parts, IsNumber, AreDigits, IsFraction, no_point, point, IsExponent, no_exponent, lower, upper, IsSigned, plain, plus, minus}
use Rattle.ato_frac.specs.Reading.{read_number}
use Rattle.ato_frac.proofs.Grammar.{read_sound, read_complete}
use Rattle.ato_units.specs.Spellings.{HasEnd}
use Rattle.ato_units.specs.LiteralReading.{past, begins_with_digit, past_fraction, past_sign, past_exponent, past_number}
use Rattle.ato_units.proofs.Cutting.{past_end, fraction_end, exponent_end, end_trans}

-- the characters before the rest all pass the test
pub record IsCut (t : ℕ → Bool) (text rest : List ℕ) : Type 0 where
  pub front : List ℕ
  pub text_is : text ≡ front ++ rest
  pub all : list_all t front ≡ true

pub cut_past : (t : ℕ → Bool) (text : List ℕ) → IsCut t text (past t text)
unfolding past
cut_past t [] = record { front = []; text_is = refl; all = refl }
cut_past t (c ∷ cs) = by (t c) refl (cut_past t cs)
  where
    by : (b : Bool) → t c ≡ b → IsCut t cs (past t cs) → IsCut t (c ∷ cs) (if b then past t cs else c ∷ cs)
    by true e h = record { front = c ∷ h.front; text_is = ap (λ (xs : List ℕ). c ∷ xs) h.text_is; all = rw (e, h.all) refl }
    by false e h = record { front = []; text_is = refl; all = refl }

-- the characters that pass are left out
pub past_all : (t : ℕ → Bool) (front rest : List ℕ) → list_all t front ≡ true → past t (front ++ rest) ≡ past t rest
unfolding past
past_all t [] rest h = refl
past_all t (c ∷ cs) rest h = by (past_all t cs rest) (t c) h
  where
    by : (list_all t cs ≡ true → past t (cs ++ rest) ≡ past t rest) → (b : Bool) → (b && list_all t cs) ≡ true → (if b then past t (cs ++ rest) else c ∷ (cs ++ rest)) ≡ past t rest
    by k true g = k g
    by k false g = absurd (cc)

-- what follows begins with a character that does not pass
pub past_fails : (t : ℕ → Bool) (text more : List ℕ) (c : ℕ) → past t text ≡ c ∷ more → t c ≡ false
unfolding past
past_fails t [] more c e = absurd (cc)
past_fails t (d ∷ ds) more c e = by (past_fails t ds more c) (t d) refl e
  where
    by : (past t ds ≡ c ∷ more → t c ≡ false) → (b : Bool) → t d ≡ b → (if b then past t ds else d ∷ ds) ≡ c ∷ more → t c ≡ false
    by k true f g = k g
    by k false f g = let same : d ≡ c = cc in rw (sym same) f

some_digit : (text front rest : List ℕ) → begins_with_digit text ≡ true → text ≡ front ++ rest → list_all is_ascii_digit front ≡ true → begins_with_digit rest ≡ false → 0 < length front
some_digit text [] rest h e a f = absurd (cc)
some_digit text (c ∷ cs) rest h e a f = omega arith

stops_at_digit : (text : List ℕ) → begins_with_digit (past is_ascii_digit text) ≡ false
stops_at_digit text = by (past is_ascii_digit text) refl
  where
    by : (rest : List ℕ) → past is_ascii_digit text ≡ rest → begins_with_digit rest ≡ false
    by [] e = refl
    by (c ∷ cs) e = past_fails is_ascii_digit text cs c e

-- digits before the rest
record HasDigits (text rest : List ℕ) : Type 0 where
  front : List ℕ
  text_is : text ≡ front ++ rest
  digits : AreDigits front

digits_cut : (text : List ℕ) → begins_with_digit text ≡ true → HasDigits text (past is_ascii_digit text)
digits_cut text h =
    let k = cut_past is_ascii_digit text in
    record { front = k.front; text_is = k.text_is; digits = record { some = some_digit text k.front (past is_ascii_digit text) h k.text_is k.all (stops_at_digit text); all = k.all } }

record HasFraction (text rest : List ℕ) : Type 0 where
  front : List ℕ
  digits : List ℕ
  text_is : text ≡ front ++ rest
  is : IsFraction front digits

fraction_cut : (text : List ℕ) → HasFraction text (past_fraction text)
fraction_cut [] = record { front = []; digits = []; text_is = refl; is = no_point refl refl }
fraction_cut (c ∷ cs) = by (c == 46) refl (begins_with_digit cs) refl
  where
    by : (a : Bool) → (c == 46) ≡ a → (b : Bool) → begins_with_digit cs ≡ b → HasFraction (c ∷ cs) (if a && b then past is_ascii_digit cs else c ∷ cs)
    by true e true f =
        let k = digits_cut cs f in
        record { front = 46 ∷ k.front; digits = k.front; text_is = ap (λ (x : ℕ). x ∷ cs) (eqb-true c 46 e) ∙ ap (λ (xs : List ℕ). 46 ∷ xs) k.text_is; is = point refl k.digits }
    by true e false f = record { front = []; digits = []; text_is = refl; is = no_point refl refl }
    by false e b f = record { front = []; digits = []; text_is = refl; is = no_point refl refl }

record HasSigned (text : List ℕ) (rest : List ℕ) : Type 0 where
  front : List ℕ
  negative : Bool
  digits : List ℕ
  text_is : text ≡ front ++ rest
  is : IsSigned front negative digits

signed_cut : (text : List ℕ) → begins_with_digit (past_sign text) ≡ true → HasSigned text (past is_ascii_digit (past_sign text))
signed_cut [] h = absurd (cc)
signed_cut (c ∷ cs) h = by (c == 43) refl (c == 45) refl h
  where
    by : (a : Bool) → (c == 43) ≡ a → (b : Bool) → (c == 45) ≡ b → begins_with_digit (if a || b then cs else c ∷ cs) ≡ true
        → HasSigned (c ∷ cs) (past is_ascii_digit (if a || b then cs else c ∷ cs))
    by true e b f g =
        let k = digits_cut cs g in
        record { front = 43 ∷ k.front; negative = false; digits = k.front; text_is = ap (λ (x : ℕ). x ∷ cs) (eqb-true c 43 e) ∙ ap (λ (xs : List ℕ). 43 ∷ xs) k.text_is; is = plus refl refl k.digits }
    by false e true f g =
        let k = digits_cut cs g in
        record { front = 45 ∷ k.front; negative = true; digits = k.front; text_is = ap (λ (x : ℕ). x ∷ cs) (eqb-true c 45 f) ∙ ap (λ (xs : List ℕ). 45 ∷ xs) k.text_is; is = minus refl refl k.digits }
    by false e false f g =
        let k = digits_cut (c ∷ cs) g in
        record { front = k.front; negative = false; digits = k.front; text_is = k.text_is; is = plain refl refl k.digits }

record HasExponent (text rest : List ℕ) : Type 0 where
  front : List ℕ
  negative : Bool
  digits : List ℕ
  text_is : text ≡ front ++ rest
  is : IsExponent front negative digits

exponent_cut : (text : List ℕ) → HasExponent text (past_exponent text)
exponent_cut [] = record { front = []; negative = false; digits = []; text_is = refl; is = no_exponent refl refl refl }
exponent_cut (c ∷ cs) = by (c == 101) refl (c == 69) refl (begins_with_digit (past_sign cs)) refl
  where
    by : (a : Bool) → (c == 101) ≡ a → (b : Bool) → (c == 69) ≡ b → (d : Bool) → begins_with_digit (past_sign cs) ≡ d
        → HasExponent (c ∷ cs) (if (a || b) && d then past is_ascii_digit (past_sign cs) else c ∷ cs)
    by true e b f true g =
        let k = signed_cut cs g in
        record { front = 101 ∷ k.front; negative = k.negative; digits = k.digits; text_is = ap (λ (x : ℕ). x ∷ cs) (eqb-true c 101 e) ∙ ap (λ (xs : List ℕ). 101 ∷ xs) k.text_is; is = lower k.front refl k.is }
    by false e true f true g =
        let k = signed_cut cs g in
        record { front = 69 ∷ k.front; negative = k.negative; digits = k.digits; text_is = ap (λ (x : ℕ). x ∷ cs) (eqb-true c 69 f) ∙ ap (λ (xs : List ℕ). 69 ∷ xs) k.text_is; is = upper k.front refl k.is }
    by true e b f false g = record { front = []; negative = false; digits = []; text_is = refl; is = no_exponent refl refl refl }
    by false e true f false g = record { front = []; negative = false; digits = []; text_is = refl; is = no_exponent refl refl refl }
    by false e false f d g = record { front = []; negative = false; digits = []; text_is = refl; is = no_exponent refl refl refl }

-- a number before the rest
pub record HasNumberFront (text rest : List ℕ) : Type 0 where
  pub front : List ℕ
  pub parts : Parts
  pub text_is : text ≡ front ++ rest
  pub is : IsNumber front parts

pub number_cut : (text : List ℕ) → begins_with_digit text ≡ true → HasNumberFront text (past_number text)
unfolding past_number
number_cut text h =
    let w = digits_cut text h in
    let f = fraction_cut (past is_ascii_digit text) in
    let e = exponent_cut (past_fraction (past is_ascii_digit text)) in
    record {
      front = w.front ++ (f.front ++ e.front);
      parts = record { whole = w.front; fraction = f.digits; negative = e.negative; exponent = e.digits };
      text_is = w.text_is ∙ ap (λ (xs : List ℕ). w.front ++ xs) (f.text_is ∙ ap (λ (xs : List ℕ). f.front ++ xs) e.text_is)
          ∙ sym (append_assoc w.front (f.front ++ e.front) _ ∙ ap (λ (xs : List ℕ). w.front ++ xs) (append_assoc f.front e.front _));
      is = record { fraction_text = f.front; exponent_text = e.front; text_is = refl; whole = w.digits; fraction = f.is; exponent = e.is };
    }

-- no longer front is a number

at_most_end : (text rest : List ℕ) → HasEnd text rest → length rest ≤ length text
at_most_end text rest h = omega (arith, ap length h.text_is, length-append h.front rest)

pub begins : (ds rest : List ℕ) → AreDigits ds → begins_with_digit (ds ++ rest) ≡ true
begins [] rest h = absurd (omega (arith, h.some))
begins (d ∷ ds) rest h = by (is_ascii_digit d) h.all
  where
    by : (b : Bool) → (b && list_all is_ascii_digit ds) ≡ true → b ≡ true
    by true e = refl
    by false e = absurd (cc)

past_unsigned : (ds rest : List ℕ) → AreDigits ds → past_sign (ds ++ rest) ≡ ds ++ rest
past_unsigned [] rest h = absurd (omega (arith, h.some))
past_unsigned (d ∷ ds) rest h = by (d == 43) refl (d == 45) refl (begins (d ∷ ds) rest h)
  where
    by : (a : Bool) → (d == 43) ≡ a → (b : Bool) → (d == 45) ≡ b → is_ascii_digit d ≡ true → (if a || b then ds ++ rest else d ∷ (ds ++ rest)) ≡ d ∷ (ds ++ rest)
    by true e b f g = let k : is_ascii_digit 43 ≡ true = subst (λ (x : ℕ). is_ascii_digit x ≡ true) (eqb-true d 43 e) g in absurd (cc)
    by false e true f g = let k : is_ascii_digit 45 ≡ true = subst (λ (x : ℕ). is_ascii_digit x ≡ true) (eqb-true d 45 f) g in absurd (cc)
    by false e false f g = refl

-- a sign or none, and digits, are left out
signed_past : (signed : List ℕ) (negative : Bool) (digits after : List ℕ) → IsSigned signed negative digits
    → (begins_with_digit (past_sign (signed ++ after)) ≡ true) × (past is_ascii_digit (past_sign (signed ++ after)) ≡ past is_ascii_digit after)
signed_past signed negative digits after (plain e n a) =
    rw e (rw (past_unsigned digits after a) (begins digits after a, past_all is_ascii_digit digits after a.all))
signed_past signed negative digits after (plus e n a) = rw e (begins digits after a, past_all is_ascii_digit digits after a.all)
signed_past signed negative digits after (minus e n a) = rw e (begins digits after a, past_all is_ascii_digit digits after a.all)

lower_past : (signed : List ℕ) (negative : Bool) (digits after : List ℕ) → IsSigned signed negative digits
    → past_exponent (101 ∷ (signed ++ after)) ≡ past is_ascii_digit after
lower_past signed negative digits after h = let k = signed_past signed negative digits after h in rw (k.0, k.1) refl

upper_past : (signed : List ℕ) (negative : Bool) (digits after : List ℕ) → IsSigned signed negative digits
    → past_exponent (69 ∷ (signed ++ after)) ≡ past is_ascii_digit after
upper_past signed negative digits after h = let k = signed_past signed negative digits after h in rw (k.0, k.1) refl

reach : (given after : List ℕ) → given ≡ past is_ascii_digit after → length given ≤ length after
reach given after e = omega (arith, ap length e, at_most_end after (past is_ascii_digit after) (past_end is_ascii_digit after))

exponent_reach : (text : List ℕ) (negative : Bool) (digits after : List ℕ) → IsExponent text negative digits
    → length (past_exponent (past is_ascii_digit (text ++ after))) ≤ length after
unfolding past
exponent_reach text negative digits after (no_exponent e n d) =
    rw e (at_most_end after (past_exponent (past is_ascii_digit after))
    (end_trans after (past is_ascii_digit after) _ (past_end is_ascii_digit after) (exponent_end (past is_ascii_digit after))))
exponent_reach text negative digits after (lower signed e h) = rw e (reach _ after (lower_past signed negative digits after h))
exponent_reach text negative digits after (upper signed e h) = rw e (reach _ after (upper_past signed negative digits after h))

behind_reach : (text : List ℕ) (negative : Bool) (digits after : List ℕ) → IsExponent text negative digits
    → length (past_exponent (past_fraction (past is_ascii_digit (text ++ after)))) ≤ length after
unfolding past
behind_reach text negative digits after (no_exponent e n d) =
    rw e (at_most_end after (past_exponent (past_fraction (past is_ascii_digit after)))
    (end_trans after (past is_ascii_digit after) _ (past_end is_ascii_digit after)
    (end_trans (past is_ascii_digit after) _ _ (fraction_end (past is_ascii_digit after)) (exponent_end (past_fraction (past is_ascii_digit after))))))
behind_reach text negative digits after (lower signed e h) = rw e (reach _ after (lower_past signed negative digits after h))
behind_reach text negative digits after (upper signed e h) = rw e (reach _ after (upper_past signed negative digits after h))

point_past : (ds rest : List ℕ) → AreDigits ds → past_fraction (past is_ascii_digit (46 ∷ (ds ++ rest))) ≡ past is_ascii_digit rest
unfolding past
point_past ds rest h = rw (begins ds rest h) (past_all is_ascii_digit ds rest h.all)

fraction_reach : (f text digits : List ℕ) (negative : Bool) (exponent after : List ℕ) → IsFraction f digits → IsExponent text negative exponent
    → length (past_exponent (past_fraction (past is_ascii_digit (f ++ (text ++ after))))) ≤ length after
fraction_reach f text digits negative exponent after (no_point e d) h = rw e (behind_reach text negative exponent after h)
fraction_reach f text digits negative exponent after (point e a) h =
    rw e (rw (point_past digits (text ++ after) a) (exponent_reach text negative exponent after h))

-- a number at the front of a text is no longer than what is read
pub number_reach : (s after : List ℕ) (parts : Parts) → IsNumber s parts → length (past_number (s ++ after)) ≤ length after
unfolding past_number
number_reach s after parts n =
    let e : s ++ after ≡ parts.whole ++ (n.fraction_text ++ (n.exponent_text ++ after)) =
    ap (λ (xs : List ℕ). xs ++ after) n.text_is ∙ append_assoc parts.whole (n.fraction_text ++ n.exponent_text) after
    ∙ ap (λ (xs : List ℕ). parts.whole ++ xs) (append_assoc n.fraction_text n.exponent_text after) in
    rw e (rw (past_all is_ascii_digit parts.whole (n.fraction_text ++ (n.exponent_text ++ after)) n.whole.all)
    (fraction_reach n.fraction_text n.exponent_text parts.fraction parts.negative parts.exponent after n.fraction n.exponent))

-- which texts are numbers, by the reading
pub is_number_front : (front : List ℕ) (parts : Parts) → IsNumber front parts → is_some (read_number front) ≡ true
is_number_front front parts n = rw (read_complete front parts n) refl

pub reach_if : (s after : List ℕ) → is_some (read_number s) ≡ true → length (past_number (s ++ after)) ≤ length after
reach_if s after h = by (read_number s) refl h
  where
    by : (o : Option Parts) → read_number s ≡ o → is_some o ≡ true → length (past_number (s ++ after)) ≤ length after
    by None e g = absurd (cc)
    by (Some parts) e g = number_reach s after parts (read_sound s parts e)
