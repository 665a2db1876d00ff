-- The lines of a tree are read back.
use Rattle.std.proofs.Common.{◌≡◌, ℕ, nat_eq, false, ◌^◌, ◌<◌, List, [], ◌∷◌, ◌++◌, Option, Some, None, refl, sym, ap, ◌∙◌, arith, append_assoc, append-nil}
use Rattle.std.specs.Prelude.{codes}
use Rattle.std.proofs.lemmas.Bool.{eqb-false}
use Rattle.std.specs.List.{flat_map}
use Rattle.std.specs.Fmt.{decimal}
use Rattle.ato_frac.specs.declared.fraction.Frac.{Frac}
use Rattle.ato_cert.specs.declared.line.Line.{Line}
use Rattle.ato_cert.specs.declared.line.Line.TheVariants.{Empty, Row, Fails}
use Rattle.ato_cert.specs.Reading.{NoDigitFirst, fraction_text, line_text, HasSmallNumbers, IsLineOver, Reads, ReadsNothing}
use Rattle.ato_cert.specs.Texts.{number_word, fraction_word, empty_line, row_line, fails_line}

-- texts that begin with different bytes
pub apart : (a b : ℕ) (xs ys : List ℕ) → nat_eq a b ≡ false → a ∷ xs ≡ b ∷ ys → ⊥
apart a b xs ys h e = let p : a ≡ b = cc in eqb-false a b h p

word_is : (f : Frac) → fraction_word f ≡ 32 ∷ fraction_text f
unfolding fraction_word
word_is f = refl

-- the fractions of a line, of which some are found and the rest stand before its end
abbrev pub IsLeft : List Frac → List Frac → List ℕ → List ℕ → Type 0
IsLeft point found rest end = (more : List Frac) × (point ≡ found ++ more) × (rest ≡ flat_map fraction_word more ++ (10 ∷ end))

pub after_fractions : (more : List Frac) (end : List ℕ) → NoDigitFirst (flat_map fraction_word more ++ (10 ∷ end))
after_fractions [] end = refl
after_fractions (f ∷ fs) end = rw (word_is f) refl

words_more : (f : Frac) (fs : List Frac) (end : List ℕ) → flat_map fraction_word (f ∷ fs) ++ (10 ∷ end) ≡ 32 ∷ (fraction_text f ++ (flat_map fraction_word fs ++ (10 ∷ end)))
words_more f fs end = rw (word_is f) (ap (λ l. 32 ∷ l) (append_assoc (fraction_text f) (flat_map fraction_word fs) (10 ∷ end)))

pub next_fraction : (P : Type 0) (point found : List Frac) (rest word end : List ℕ) → IsLeft point found rest end → rest ≡ 32 ∷ word
    → ((f : Frac) (fs : List Frac) → point ≡ found ++ f ∷ fs → word ≡ fraction_text f ++ (flat_map fraction_word fs ++ (10 ∷ end)) → P) → P
next_fraction P point found rest word end ([], p, r) w give = absurd (apart 10 32 end word refl (sym r ∙ w))
next_fraction P point found rest word end (f ∷ fs, p, r) w give =
    let e : 32 ∷ word ≡ 32 ∷ (fraction_text f ++ (flat_map fraction_word fs ++ (10 ∷ end))) = sym w ∙ r ∙ words_more f fs end in
    give f fs p cc

pub no_fraction : (point found : List Frac) (rest end : List ℕ) → IsLeft point found rest end → ((word : List ℕ) → rest ≡ 32 ∷ word → ⊥) → point ≡ found
no_fraction point found rest end ([], p, r) out = p ∙ append-nil found
no_fraction point found rest end (f ∷ fs, p, r) out = absurd (out (fraction_text f ++ (flat_map fraction_word fs ++ (10 ∷ end))) (r ∙ words_more f fs end))

-- the texts of lines, after their words

empty_parts : (slot : ℕ) (rest : List ℕ) → empty_line slot ++ rest ≡ codes "empty " ++ (decimal slot ++ (10 ∷ rest))
unfolding empty_line
empty_parts slot rest = simp append_assoc

row_parts : (slot row : ℕ) (rest : List ℕ) → row_line slot row ++ rest ≡ codes "row " ++ (decimal slot ++ (32 ∷ (decimal row ++ (10 ∷ rest))))
unfolding row_line
row_parts slot row rest = simp append_assoc

fails_parts : (check : ℕ) (point : List Frac) (rest : List ℕ) → fails_line check point ++ rest ≡ codes "fails " ++ (decimal check ++ (flat_map fraction_word point ++ (10 ∷ rest)))
unfolding fails_line number_word
fails_parts check point rest = simp append_assoc

-- a line is the one that is guessed after its word

pub at_empty : (text behind : List ℕ) (g : Option Line) → text ≡ codes "empty " ++ behind
    → ((slot : ℕ) (rest : List ℕ) → slot < 2 ^ 32 → behind ≡ decimal slot ++ (10 ∷ rest) → g ≡ Some (Empty slot))
    → (line : Line) (rest : List ℕ) → HasSmallNumbers line → text ≡ line_text line ++ rest → g ≡ Some line
at_empty text behind g w h (Empty slot) rest small e = let p = sym w ∙ e ∙ empty_parts slot rest in h slot rest small cc
at_empty text behind g w h (Row slot row) rest small e = let p = sym w ∙ e ∙ row_parts slot row rest in absurd (apart 101 114 _ _ refl p)
at_empty text behind g w h (Fails check point) rest small e = let p = sym w ∙ e ∙ fails_parts check point rest in absurd (apart 101 102 _ _ refl p)

pub at_row : (text behind : List ℕ) (g : Option Line) → text ≡ codes "row " ++ behind
    → ((slot row : ℕ) (rest : List ℕ) → slot < 2 ^ 32 → row < 2 ^ 32 → behind ≡ decimal slot ++ (32 ∷ (decimal row ++ (10 ∷ rest))) → g ≡ Some (Row slot row))
    → (line : Line) (rest : List ℕ) → HasSmallNumbers line → text ≡ line_text line ++ rest → g ≡ Some line
at_row text behind g w h (Empty slot) rest small e = let p = sym w ∙ e ∙ empty_parts slot rest in absurd (apart 114 101 _ _ refl p)
at_row text behind g w h (Row slot row) rest small e = let p = sym w ∙ e ∙ row_parts slot row rest in h slot row rest small.0 small.1 cc
at_row text behind g w h (Fails check point) rest small e = let p = sym w ∙ e ∙ fails_parts check point rest in absurd (apart 114 102 _ _ refl p)

pub at_fails : (text behind : List ℕ) (g : Option Line) → text ≡ codes "fails " ++ behind
    → ((check : ℕ) (point : List Frac) (rest : List ℕ) → check < 2 ^ 32 → behind ≡ decimal check ++ (flat_map fraction_word point ++ (10 ∷ rest)) → g ≡ Some (Fails check point))
    → (line : Line) (rest : List ℕ) → HasSmallNumbers line → text ≡ line_text line ++ rest → g ≡ Some line
at_fails text behind g w h (Empty slot) rest small e = let p = sym w ∙ e ∙ empty_parts slot rest in absurd (apart 102 101 _ _ refl p)
at_fails text behind g w h (Row slot row) rest small e = let p = sym w ∙ e ∙ row_parts slot row rest in absurd (apart 102 114 _ _ refl p)
at_fails text behind g w h (Fails check point) rest small e = let p = sym w ∙ e ∙ fails_parts check point rest in h check point rest small cc

pub at_none : (text : List ℕ) (g : Option Line) → ((behind : List ℕ) → text ≡ codes "empty " ++ behind → ⊥) → ((behind : List ℕ) → text ≡ codes "row " ++ behind → ⊥)
    → ((behind : List ℕ) → text ≡ codes "fails " ++ behind → ⊥)
    → (line : Line) (rest : List ℕ) → HasSmallNumbers line → text ≡ line_text line ++ rest → g ≡ Some line
at_none text g a b d (Empty slot) rest small e = absurd (a (decimal slot ++ (10 ∷ rest)) (e ∙ empty_parts slot rest))
at_none text g a b d (Row slot row) rest small e = absurd (b (decimal slot ++ (32 ∷ (decimal row ++ (10 ∷ rest)))) (e ∙ row_parts slot row rest))
at_none text g a b d (Fails check point) rest small e = absurd (d (decimal check ++ (flat_map fraction_word point ++ (10 ∷ rest))) (e ∙ fails_parts check point rest))

pub small_over : (count above : ℕ) (line : Line) → count < 2 ^ 32 → IsLineOver count above line → HasSmallNumbers line
small_over count above (Empty slot) h o = omega (arith, o.within)
small_over count above (Row slot row) h o = (omega (arith, o.0.within), o.1)
small_over count above (Fails check point) h o = omega (arith, o.within)

-- what a guess of lines tells

abbrev pub Guesses : List ℕ → Option Line → Type 0
Guesses text guess = (line : Line) (rest : List ℕ) → HasSmallNumbers line → text ≡ line_text line ++ rest → guess ≡ Some line

pub nothing_guessed : (count above : ℕ) (text : List ℕ) → count < 2 ^ 32 → Guesses text None → ReadsNothing (IsLineOver count above) line_text text
nothing_guessed count above text h g = record { none = λ y other o e. let p = g y other (small_over count above y h o) e in absurd cc }

pub not_over : (count above : ℕ) (text : List ℕ) (line : Line) → count < 2 ^ 32 → Guesses text (Some line) → ¬ IsLineOver count above line → ReadsNothing (IsLineOver count above) line_text text
not_over count above text line h g out = record {
  none = λ y other o e. let p = g y other (small_over count above y h o) e in let q : y ≡ line = cc in out (rw (← q) o);
}

pub line_read : (count above : ℕ) (text rest written : List ℕ) (line : Line) → count < 2 ^ 32 → Guesses text (Some line) → IsLineOver count above line
    → written ≡ line_text line → text ≡ written ++ rest → ((other : List ℕ) → text ≡ written ++ other → rest ≡ other) → Reads (IsLineOver count above) line_text text line rest
line_read count above text rest written line h g over w e back = record {
  fits = over;
  text_is = rw (← w) e;
  only = λ y other o f.
      let p = g y other (small_over count above y h o) f in
      let q : y ≡ line = cc in
      (q, sym (back other (rw (w, ← q) f)));
}

pub line_differs : (count above : ℕ) (text written : List ℕ) (line : Line) → count < 2 ^ 32 → Guesses text (Some line)
    → written ≡ line_text line → ((other : List ℕ) → text ≡ written ++ other → ⊥) → ReadsNothing (IsLineOver count above) line_text text
line_differs count above text written line h g w out = record {
  none = λ y other o f.
      let p = g y other (small_over count above y h o) f in
      let q : y ≡ line = cc in
      out other (rw (w, ← q) f);
}
