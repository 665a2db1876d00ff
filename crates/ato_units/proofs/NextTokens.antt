-- The next token of a text is what is read after its blanks.
use Rattle.std.proofs.Common.{◌≡◌, ℕ, ◌<◌, ◌≤◌, Bool, true, false, List, [], ◌∷◌, ◌++◌, length, Option, Some, None, refl, sym, ap, ◌∙◌, arith, subst, ◌==◌, ◌||◌, nat_le}
use Rattle.std.specs.List.{list_all}
use Rattle.std.proofs.lemmas.Bool.{eqb-true, leb-true, leb-false}
use Rattle.std.proofs.lemmas.List.{append-nil}
use Rattle.unicode_ident.proofs.IdentLemmas.{is_xid_start-ascii}
use Rattle.ato_units.specs.Literals.{is_blank, Token, IsNext}
use Rattle.ato_units.specs.LiteralReading.{past, front_token, next_token}
use Rattle.ato_units.proofs.Fronts.{cut_past, past_all}
use Rattle.ato_units.proofs.Spelling.{token_of, spelled_found, found_spelled, none_spelled, none_found}
use Rattle.ato_units.proofs.FirstTokens.{IsFirst, Finds, nothing, token, first_found}

pub same_found : (a b : Token × List ℕ) → Some a ≡ Some b → (a.0 ≡ b.0) × (a.1 ≡ b.1)
same_found a b e = let f : a ≡ b = cc in (ap (λ (p : Token × List ℕ). p.0) f, ap (λ (p : Token × List ℕ). p.1) f)

-- what is read comes next
pub next_sound : (text : List ℕ) (t : Token) (rest : List ℕ) → next_token text ≡ Some (t, rest) → IsNext text t rest
next_sound text t rest e = by (next_token text) e (first_found (past is_blank text))
  where
    by : (o : Option (Token × List ℕ)) → o ≡ Some (t, rest) → Finds token_of (past is_blank text) o → IsNext text t rest
    by None g f = absurd (cc)
    by (Some found) g (token f) =
        let k = cut_past is_blank text in
        let x = same_found found (t, rest) g in
        subst (λ (a : Token). IsNext text a rest) x.0 (subst (λ (a : List ℕ). IsNext text found.0 a) x.1 (record {
          blanks = k.front;
          spelling = f.spelling;
          text_is = k.text_is ∙ ap (λ (xs : List ℕ). k.front ++ xs) f.text_is;
          blank = k.all;
          spells = found_spelled f.spelling found.0 f.is;
          longest = λ more after e l. none_spelled (f.spelling ++ more) (f.longest more after e l);
        }))

-- a blank begins no token
blank_none : (c : ℕ) (cs : List ℕ) → is_blank c ≡ true → token_of (c ∷ cs) ≡ None
unfolding token_of
blank_none c cs h = by (c == 32) refl (c == 9) refl h
  where
    by : (a : Bool) → (c == 32) ≡ a → (b : Bool) → (c == 9) ≡ b → (a || b) ≡ true → token_of (c ∷ cs) ≡ None
    by true e b f g = subst (λ (x : ℕ). token_of (x ∷ cs) ≡ None) (sym (eqb-true c 32 e)) (rw (is_xid_start-ascii 32 (omega arith)) refl)
    by false e true f g = subst (λ (x : ℕ). token_of (x ∷ cs) ≡ None) (sym (eqb-true c 9 f)) (rw (is_xid_start-ascii 9 (omega arith)) refl)
    by false e false f g = absurd (cc)

-- where two fronts of a text end, one goes on to the other
pub record GoesOn (xs ys zs ws : List ℕ) : Type 0 where
  pub more : List ℕ
  pub longer : zs ≡ xs ++ more
  pub rest_is : ys ≡ more ++ ws

pub goes_on : (xs ys zs ws : List ℕ) → xs ++ ys ≡ zs ++ ws → length xs ≤ length zs → GoesOn xs ys zs ws
goes_on [] ys zs ws e l = record { more = zs; longer = refl; rest_is = e }
goes_on (x ∷ xs) ys [] ws e l = absurd (omega arith)
goes_on (x ∷ xs) ys (z ∷ zs) ws e l =
    let same : x ≡ z = cc in
    let k = goes_on xs ys zs ws (cc) (omega arith) in
    record { more = k.more; longer = ap (λ (c : ℕ). c ∷ zs) (sym same) ∙ ap (λ (cs : List ℕ). x ∷ cs) k.longer; rest_is = k.rest_is }

-- what comes next is read
front_complete : (s rest : List ℕ) (t : Token) → token_of s ≡ Some t → ((more after : List ℕ) → rest ≡ more ++ after → 0 < length more → token_of (s ++ more) ≡ None)
    → front_token (s ++ rest) ≡ Some (t, rest)
front_complete s rest t h longest = by (front_token (s ++ rest)) (first_found (s ++ rest))
  where
    with_more : (more : List ℕ) (found : Token × List ℕ) (f : IsFirst token_of (s ++ rest) found.0 found.1) → f.spelling ≡ s ++ more → rest ≡ more ++ found.1 → Some found ≡ Some (t, rest)
    with_more [] found f e g =
        let a : token_of s ≡ Some found.0 = rw (sym (e ∙ append-nil s)) f.is in
        let x : found.0 ≡ t = cc in
        let y : found.1 ≡ rest = sym g in
        λ i. Some (x i, y i)
    with_more (m ∷ ms) found f e g =
        let a : token_of f.spelling ≡ None = rw e (longest (m ∷ ms) found.1 g (omega arith)) in
        let b = f.is in
        absurd (cc)

    without : (more : List ℕ) (found : Token × List ℕ) (f : IsFirst token_of (s ++ rest) found.0 found.1) → s ≡ f.spelling ++ more → found.1 ≡ more ++ rest → Some found ≡ Some (t, rest)
    without [] found f e g =
        let a : token_of f.spelling ≡ Some t = rw (sym (e ∙ append-nil f.spelling)) h in
        let b = f.is in
        let x : found.0 ≡ t = cc in
        λ i. Some (x i, g i)
    without (m ∷ ms) found f e g =
        let a : token_of s ≡ None = rw e (f.longest (m ∷ ms) rest g (omega arith)) in
        absurd (cc)

    order : (found : Token × List ℕ) (f : IsFirst token_of (s ++ rest) found.0 found.1) (b : Bool) → nat_le (length s) (length f.spelling) ≡ b → Some found ≡ Some (t, rest)
    order found f true e =
        let k = goes_on s rest f.spelling found.1 f.text_is (leb-true (length s) (length f.spelling) e) in
        with_more k.more found f k.longer k.rest_is
    order found f false e =
        let k = goes_on f.spelling found.1 s rest (sym f.text_is) (omega (arith, leb-false (length s) (length f.spelling) e)) in
        without k.more found f k.longer k.rest_is

    by : (o : Option (Token × List ℕ)) → Finds token_of (s ++ rest) o → o ≡ Some (t, rest)
    by None (nothing n) = let a = n s rest refl in absurd (cc)
    by (Some found) (token f) = order found f (nat_le (length s) (length f.spelling)) refl

none_empty : token_of [] ≡ None
unfolding token_of
none_empty = refl

past_blanks : (blanks text : List ℕ) (c : ℕ) (cs : List ℕ) → list_all is_blank blanks ≡ true → is_blank c ≡ false → past is_blank (blanks ++ (c ∷ cs)) ≡ c ∷ cs
unfolding past
past_blanks blanks text c cs h k = past_all is_blank blanks (c ∷ cs) h ∙ rw k refl

pub next_complete : (text : List ℕ) (t : Token) (rest : List ℕ) → IsNext text t rest → next_token text ≡ Some (t, rest)
next_complete text t rest n =
    by n.spelling n.text_is (spelled_found n.spelling t n.spells) (λ more after e l. none_found (n.spelling ++ more) (n.longest more after e l))
  where
    by : (s : List ℕ) → text ≡ n.blanks ++ (s ++ rest) → token_of s ≡ Some t → ((more after : List ℕ) → rest ≡ more ++ after → 0 < length more → token_of (s ++ more) ≡ None)
        → next_token text ≡ Some (t, rest)
    by [] e h l = let a = none_empty in absurd (cc)
    by (c ∷ cs) e h l = at (is_blank c) refl
      where
        at : (b : Bool) → is_blank c ≡ b → next_token text ≡ Some (t, rest)
        at true f = let a = blank_none c cs f in absurd (cc)
        at false f = ap front_token (ap (λ (xs : List ℕ). past is_blank xs) e ∙ past_blanks n.blanks text c (cs ++ rest) n.blank f) ∙ front_complete (c ∷ cs) rest t h l
