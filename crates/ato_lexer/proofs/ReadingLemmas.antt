-- Reading a text one character at a time.
use Rattle.std.proofs.Common.{◌≡◌, ◌≢◌, ℕ, Bool, true, false, ◌==◌, List, [], ◌∷◌, Option, Some, None, refl, ap}
use Rattle.std.proofs.lemmas.Bool.{eqb-true}
use Rattle.std.proofs.lemmas.Bool.Decides.{Decides-eqb}
use Rattle.ato_units.specs.LiteralReading.{past}
use Rattle.ato_lexer.specs.Reading.{is_in_line, past_three, after_quote, or_else, after_three}

equal : (c d : ℕ) → c ≡ d → (c == d) ≡ true
equal c d e = (Decides-eqb c d).1 e

other : (c d : ℕ) → c ≢ d → (c == d) ≡ false
other c d h = by (c == d) refl
  where
    by : (b : Bool) → (c == d) ≡ b → b ≡ false
    by true e = absurd (h (eqb-true c d e))
    by false e = refl

pub line_goes : (text rest : List ℕ) (c : ℕ) → text ≡ c ∷ rest → c ≢ 10 → past is_in_line text ≡ past is_in_line rest
unfolding past
line_goes text rest c e h = rw (e, other c 10 h) refl

pub line_stops : (text rest : List ℕ) (c : ℕ) → text ≡ c ∷ rest → c ≡ 10 → past is_in_line text ≡ text
unfolding past
line_stops text rest c e h = rw (e, equal c 10 h) refl

pub line_none : (text : List ℕ) → text ≡ [] → past is_in_line text ≡ text
unfolding past
line_none text e = rw e refl

pub quote_goes : (q : ℕ) (text rest : List ℕ) (c : ℕ) → text ≡ c ∷ rest → c ≢ q → c ≢ 10 → after_quote q text ≡ after_quote q rest
unfolding after_quote
quote_goes q text rest c e h g = rw (e, other c q h, other c 10 g) refl

pub quote_found : (q : ℕ) (text rest : List ℕ) (c : ℕ) → text ≡ c ∷ rest → c ≡ q → after_quote q text ≡ Some rest
unfolding after_quote
quote_found q text rest c e h = rw (e, equal c q h) refl

pub quote_line_end : (q : ℕ) (text rest : List ℕ) (c : ℕ) → text ≡ c ∷ rest → c ≢ q → c ≡ 10 → after_quote q text ≡ None
unfolding after_quote
quote_line_end q text rest c e h g = rw (e, other c q h, equal c 10 g) refl

pub quote_none : (q : ℕ) (text : List ℕ) → text ≡ [] → after_quote q text ≡ None
unfolding after_quote
quote_none q text e = rw e refl

pub three_goes : (q : ℕ) (text rest : List ℕ) (c : ℕ) → text ≡ c ∷ rest → past_three q text ≡ None → after_three q text ≡ after_three q rest
unfolding after_three
three_goes q text rest c e h = rw e (ap (λ (o : Option (List ℕ)). or_else o (after_three q rest)) (rw e at h))

pub three_found : (q : ℕ) (text rest found : List ℕ) (c : ℕ) → text ≡ c ∷ rest → past_three q text ≡ Some found → after_three q text ≡ Some found
unfolding after_three
three_found q text rest found c e h = rw e (ap (λ (o : Option (List ℕ)). or_else o (after_three q rest)) (rw e at h))

pub three_none : (q : ℕ) (text : List ℕ) → text ≡ [] → after_three q text ≡ None
unfolding after_three
three_none q text e = rw e refl
