-- The token at the front of a text is the longest that the text begins with.
use Rattle.std.proofs.Common.{◌≡◌, ℕ, ◌<◌, Bool, true, false, List, [], ◌∷◌, ◌++◌, length, Option, Some, None, refl, sym, ap, ◌∙◌, arith, subst, if◌then◌else◌, ◌==◌, ◌&&◌}
use Rattle.std.specs.Char.{is_ascii_digit}
use Rattle.std.specs.List.{list_all}
use Rattle.std.specs.Option.{is_some}
use Rattle.std.specs.Str.{bytes_eq}
use Rattle.std.proofs.lemmas.Bool.{eqb-true}
use Rattle.std.proofs.lemmas.List.{length-append, append_assoc}
use Rattle.std.proofs.lemmas.Slice.Eq.{bytes_eq-Decides}
use Rattle.unicode_ident.specs.Ident.{is_xid_continue}
use Rattle.ato_base.specs.Names.{starts_name}
use Rattle.ato_frac.specs.Reading.{read_number}
use Rattle.ato_units.proofs.Spelling.{token_of}
use Rattle.ato_units.specs.Literals.{Token, number, unit, plus_minus, minus, word_token, mark_token}
use Rattle.ato_units.specs.LiteralReading.{past, before, begins_with_digit, past_number, past_minus, past_slash, then_plus_minus, front_mark, front_token}
use Rattle.ato_units.proofs.Cutting.{before_seam}
use Rattle.ato_units.proofs.Fronts.{cut_past, past_fails, number_cut, is_number_front, reach_if}

-- a text begins with a token, by a way of spelling, and with no longer one
pub record IsFirst (spells : List ℕ → Option Token) (text : List ℕ) (token : Token) (rest : List ℕ) : Type 0 where
  pub spelling : List ℕ
  pub text_is : text ≡ spelling ++ rest
  pub is : spells spelling ≡ Some token
  pub longest : (more after : List ℕ) → rest ≡ more ++ after → 0 < length more → spells (spelling ++ more) ≡ None

-- what a reading of the front says: no front spells a token, or the longest does
pub data Finds (spells : List ℕ → Option Token) (text : List ℕ) : Option (Token × List ℕ) → Type 0 where
  nothing : ((s after : List ℕ) → text ≡ s ++ after → spells s ≡ None) → Finds spells text None
  token : {t : Token} {rest : List ℕ} → IsFirst spells text t rest → Finds spells text (Some (t, rest))

-- two ways of spelling that agree on each front
agrees : (a b : List ℕ → Option Token) (text : List ℕ) (r : Option (Token × List ℕ)) → ((s after : List ℕ) → text ≡ s ++ after → b s ≡ a s)
    → Finds a text r → Finds b text r
agrees a b text None h (nothing n) = nothing (λ s after e. h s after e ∙ n s after e)
agrees a b text (Some found) h (token f) = token (record {
  spelling = f.spelling;
  text_is = f.text_is;
  is = h f.spelling found.1 f.text_is ∙ f.is;
  longest = λ more after e l. h (f.spelling ++ more) after (f.text_is ∙ ap (λ (xs : List ℕ). f.spelling ++ xs) e ∙ sym (append_assoc f.spelling more after)) ∙ f.longest more after e l;
})

number_token : List ℕ → Option Token
number_token s = if is_some (read_number s) then Some (number s) else None

digits_first : (text : List ℕ) → begins_with_digit text ≡ true → Finds number_token text (Some (number (before text (past_number text)), past_number text))
unfolding number_token
digits_first text h =
    let k = number_cut text h in
    let e = before_seam text k.front (past_number text) k.text_is in
    let n = is_number_front k.front k.parts k.is in
    token (record {
      spelling = k.front;
      text_is = k.text_is;
      is = rw n (ap (λ (xs : List ℕ). Some (number xs)) (sym e));
      longest = λ more after f l. longest k.front more after (is_some (read_number (k.front ++ more))) refl (k.text_is ∙ ap (λ (xs : List ℕ). k.front ++ xs) f ∙ sym (append_assoc k.front more after)) f l;
    })
  where
    longest : (front more after : List ℕ) (b : Bool) → is_some (read_number (front ++ more)) ≡ b → text ≡ (front ++ more) ++ after → past_number text ≡ more ++ after
        → 0 < length more → (if b then Some (number (front ++ more)) else None) ≡ None
    longest front more after false g e f l = refl
    longest front more after true g e f l =
        let r = reach_if (front ++ more) after g in
        absurd (omega (arith, r, ap length (sym (ap past_number e) ∙ f), length-append more after))

word_of : List ℕ → Option Token
word_of [] = None
word_of (c ∷ cs) = if list_all is_xid_continue cs then Some (word_token (c ∷ cs)) else None

not_all : (t : ℕ → Bool) (front more : List ℕ) (c : ℕ) → t c ≡ false → list_all t (front ++ (c ∷ more)) ≡ false
not_all t [] more c h = rw h refl
not_all t (d ∷ ds) more c h = by (t d) (not_all t ds more c h)
  where
    by : (b : Bool) → list_all t (ds ++ (c ∷ more)) ≡ false → (b && list_all t (ds ++ (c ∷ more))) ≡ false
    by true k = k
    by false k = refl

word_first : (c : ℕ) (cs : List ℕ) → Finds word_of (c ∷ cs) (Some (word_token (before (c ∷ cs) (past is_xid_continue cs)), past is_xid_continue cs))
unfolding word_of
word_first c cs =
    let k = cut_past is_xid_continue cs in
    let e = before_seam (c ∷ cs) (c ∷ k.front) (past is_xid_continue cs) (ap (λ (xs : List ℕ). c ∷ xs) k.text_is) in
    token (record {
      spelling = c ∷ k.front;
      text_is = ap (λ (xs : List ℕ). c ∷ xs) k.text_is;
      is = rw k.all (ap (λ (xs : List ℕ). Some (word_token xs)) (sym e));
      longest = longest k.front;
    })
  where
    longest : (front more after : List ℕ) → past is_xid_continue cs ≡ more ++ after → 0 < length more
        → (if list_all is_xid_continue (front ++ more) then Some (word_token (c ∷ (front ++ more))) else None) ≡ None
    longest front [] after e l = absurd (omega arith)
    longest front (m ∷ more) after e l = rw (not_all is_xid_continue front more m (past_fails is_xid_continue cs (more ++ after) m e)) refl

-- a mark that is the whole of what it can be
mark_first : (s rest : List ℕ) (t : Token) → mark_token s ≡ Some t → ((m : ℕ) (ms : List ℕ) → mark_token (s ++ (m ∷ ms)) ≡ None) → Finds mark_token (s ++ rest) (Some (t, rest))
mark_first s rest t h k = token (record { spelling = s; text_is = refl; is = h; longest = longest })
  where
    longest : (more after : List ℕ) → rest ≡ more ++ after → 0 < length more → mark_token (s ++ more) ≡ None
    longest [] after e l = absurd (omega arith)
    longest (m ∷ ms) after e l = k m ms

slash_none : (cs s after : List ℕ) → past_slash cs ≡ None → cs ≡ s ++ after → bytes_eq s (47 ∷ 45 ∷ []) ≡ false
slash_none cs s after n e = by (bytes_eq s (47 ∷ 45 ∷ [])) refl
  where
    by : (b : Bool) → bytes_eq s (47 ∷ 45 ∷ []) ≡ b → b ≡ false
    by false h = refl
    by true h =
        let k : past_slash (47 ∷ 45 ∷ after) ≡ None = subst (λ (xs : List ℕ). past_slash xs ≡ None) (e ∙ ap (λ (xs : List ℕ). xs ++ after) ((bytes_eq-Decides s (47 ∷ 45 ∷ [])).0 h)) n in
        absurd (cc)

slash_some : (cs rest : List ℕ) → past_slash cs ≡ Some rest → cs ≡ 47 ∷ 45 ∷ rest
slash_some [] rest e = absurd (cc)
slash_some (c ∷ []) rest e = by (c == 47) e
  where
    by : (a : Bool) → (if a then past_minus [] else None) ≡ Some rest → c ∷ [] ≡ 47 ∷ 45 ∷ rest
    by true h = absurd (cc)
    by false h = absurd (cc)
slash_some (c ∷ d ∷ ds) rest e = by (c == 47) refl (d == 45) refl e
  where
    by : (a : Bool) → (c == 47) ≡ a → (b : Bool) → (d == 45) ≡ b → (if a then (if b then Some ds else None) else None) ≡ Some rest → c ∷ d ∷ ds ≡ 47 ∷ 45 ∷ rest
    by true f true g h = let x = eqb-true c 47 f in let y = eqb-true d 45 g in cc
    by true f false g h = absurd (cc)
    by false f b g h = absurd (cc)

plus_first : (cs : List ℕ) (o : Option (List ℕ)) → past_slash cs ≡ o → Finds mark_token (43 ∷ cs) (then_plus_minus o)
plus_first cs (Some rest) e =
    subst (λ (xs : List ℕ). Finds mark_token (43 ∷ xs) (Some (plus_minus, rest))) (sym (slash_some cs rest e))
    (mark_first (43 ∷ 47 ∷ 45 ∷ []) rest plus_minus refl (λ m ms. refl))
plus_first cs None e = nothing none
  where
    none : (s after : List ℕ) → 43 ∷ cs ≡ s ++ after → mark_token s ≡ None
    none [] after f = refl
    none (d ∷ ds) after f =
        let x : d ≡ 43 = cc in
        let y : cs ≡ ds ++ after = cc in
        subst (λ (c : ℕ). mark_token (c ∷ ds) ≡ None) (sym x) (rw (slash_none cs ds after e y) refl)

mark_found : (c : ℕ) (cs : List ℕ) → Finds mark_token (c ∷ cs) (front_mark c cs)
mark_found c cs = by (c == 37) refl (c == 45) refl (c == 0xB1) refl (c == 43) refl
  where
    none : (c == 37) ≡ false → (c == 45) ≡ false → (c == 0xB1) ≡ false → (c == 43) ≡ false → (s after : List ℕ) → c ∷ cs ≡ s ++ after → mark_token s ≡ None
    none e f g h [] after k = refl
    none e f g h (d ∷ ds) after k =
        let x : d ≡ c = cc in
        subst (λ (y : ℕ). mark_token (y ∷ ds) ≡ None) (sym x) (rw (e, f, g, h) refl)

    by : (a : Bool) → (c == 37) ≡ a → (b : Bool) → (c == 45) ≡ b → (p : Bool) → (c == 0xB1) ≡ p → (q : Bool) → (c == 43) ≡ q
        → Finds mark_token (c ∷ cs) (if a then Some (unit (c ∷ []), cs) else (if b then Some (minus, cs) else (if p then Some (plus_minus, cs) else (if q then then_plus_minus (past_slash cs) else None))))
    by true e b f p g q h =
        subst (λ (x : ℕ). Finds mark_token (x ∷ cs) (Some (unit (x ∷ []), cs))) (sym (eqb-true c 37 e)) (mark_first (37 ∷ []) cs (unit (37 ∷ [])) refl (λ m ms. refl))
    by false e true f p g q h =
        subst (λ (x : ℕ). Finds mark_token (x ∷ cs) (Some (minus, cs))) (sym (eqb-true c 45 f)) (mark_first (45 ∷ []) cs minus refl (λ m ms. refl))
    by false e false f true g q h =
        subst (λ (x : ℕ). Finds mark_token (x ∷ cs) (Some (plus_minus, cs))) (sym (eqb-true c 0xB1 g)) (mark_first (0xB1 ∷ []) cs plus_minus refl (λ m ms. refl))
    by false e false f false g true h =
        subst (λ (x : ℕ). Finds mark_token (x ∷ cs) (then_plus_minus (past_slash cs))) (sym (eqb-true c 43 h)) (plus_first cs (past_slash cs) refl)
    by false e false f false g false h = nothing (none e f g h)

-- each front of a text has the text's first character
same_first : (c : ℕ) (cs : List ℕ) (a b : List ℕ → Option Token) → a [] ≡ b [] → ((ds : List ℕ) → a (c ∷ ds) ≡ b (c ∷ ds))
    → (s after : List ℕ) → c ∷ cs ≡ s ++ after → a s ≡ b s
same_first c cs a b e h [] after k = e
same_first c cs a b e h (d ∷ ds) after k = let x : d ≡ c = cc in subst (λ (y : ℕ). a (y ∷ ds) ≡ b (y ∷ ds)) (sym x) (h ds)

-- what is read at the front of a text
pub first_found : (text : List ℕ) → Finds token_of text (front_token text)
unfolding token_of front_token number_token word_of
first_found [] = nothing none
  where
    none : (s after : List ℕ) → [] ≡ s ++ after → token_of s ≡ None
    none [] after e = refl
    none (c ∷ cs) after e = absurd (cc)
first_found (c ∷ cs) = by (is_ascii_digit c) refl (starts_name c) refl
  where
    by : (a : Bool) → is_ascii_digit c ≡ a → (b : Bool) → starts_name c ≡ b
        → Finds token_of (c ∷ cs) (if a then Some (number (before (c ∷ cs) (past_number (c ∷ cs))), past_number (c ∷ cs))
        else (if b then Some (word_token (before (c ∷ cs) (past is_xid_continue cs)), past is_xid_continue cs) else front_mark c cs))
    by true e b f = agrees number_token token_of (c ∷ cs) _ (same_first c cs token_of number_token refl (λ ds. rw e refl)) (digits_first (c ∷ cs) e)
    by false e true f = agrees word_of token_of (c ∷ cs) _ (same_first c cs token_of word_of refl (λ ds. rw (e, f) refl)) (word_first c cs)
    by false e false f = agrees mark_token token_of (c ∷ cs) _ (same_first c cs token_of mark_token refl (λ ds. rw (e, f) refl)) (mark_found c cs)
