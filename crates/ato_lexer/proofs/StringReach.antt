-- Strings at the front of a text.
use Rattle.std.proofs.Common.{◌≡◌, ℕ, suc, ◌+◌, ◌≤◌, Bool, true, false, not, ◌||◌, ◌==◌, List, [], ◌∷◌, ◌++◌, length, drop, Option, Some, None, refl, sym, ap, subst, ◌∙◌, arith, if◌then◌else◌, option_map}
use Rattle.std.specs.List.{list_all}
use Rattle.std.proofs.lemmas.Bool.{eqb-true, eqb-false}
use Rattle.std.proofs.lemmas.List.{length-append, append_assoc}
use Rattle.std.proofs.lemmas.Bool.Decides.{Decides-eqb}
use Rattle.std.proofs.lemmas.Slice.Eq.{starts_is}
use Rattle.ato_frac.proofs.Digits.{and_true}
use Rattle.ato_lexer.specs.Fronts.{begins, three, before_quote, before_three}
use Rattle.ato_lexer.specs.Pieces.{Kind, Piece, is_bad, piece, string_or_open, string_piece, front_piece, front_of}
use Rattle.ato_lexer.specs.Pieces as pieces
use Rattle.ato_lexer.specs.Spellings.{is_quote}
use Rattle.ato_lexer.proofs.ReachLaws.{Reaches, reach_take}

-- a quote begins a string, or a fault
pub quote_front : (q : ℕ) (cs : List ℕ) → is_quote q ≡ true → front_piece q cs ≡ string_piece q (q ∷ cs)
unfolding front_piece
quote_front q cs h = by (q == 34) refl (q == 39) refl h
  where
    by : (a : Bool) → (q == 34) ≡ a → (b : Bool) → (q == 39) ≡ b → (a || b) ≡ true → front_piece q cs ≡ string_piece q (q ∷ cs)
    by true e b f g = subst (λ (x : ℕ). front_piece x cs ≡ string_piece x (x ∷ cs)) (sym (eqb-true q 34 e)) refl
    by false e true f g = subst (λ (x : ℕ). front_piece x cs ≡ string_piece x (x ∷ cs)) (sym (eqb-true q 39 f)) refl
    by false e false f g = absurd (cc)

-- a text that begins with another goes on behind it
pub begins_is : (front text : List ℕ) → begins front text ≡ true → text ≡ front ++ drop (length front) text
begins_is front text h = (starts_is Decides-eqb text front (begins front text) refl).0 h

pub begins_yes : (front rest : List ℕ) → begins front (front ++ rest) ≡ true
begins_yes front rest = (starts_is Decides-eqb (front ++ rest) front (begins front (front ++ rest)) refl).1 rest refl

eq_self : (q : ℕ) → (q == q) ≡ true
eq_self q = by (q == q) refl
  where
    by : (b : Bool) → (q == q) ≡ b → b ≡ true
    by true e = refl
    by false e = absurd (eqb-false q q e refl)

pub three_begin : (q : ℕ) (xs : List ℕ) → begins (three q) (q ∷ q ∷ q ∷ xs) ≡ true
three_begin q xs = rw (eq_self q) refl

-- what stands before the next quote

quote_or_end : (q c : ℕ) → not ((c == q) || (c == 10)) ≡ true → ((c == q) ≡ false) × ((c == 10) ≡ false)
quote_or_end q c h = by (c == q) refl (c == 10) refl h
  where
    by : (a : Bool) → (c == q) ≡ a → (b : Bool) → (c == 10) ≡ b → not (a || b) ≡ true → ((c == q) ≡ false) × ((c == 10) ≡ false)
    by true e b f g = absurd (cc)
    by false e true f g = absurd (cc)
    by false e false f g = (e, f)

pub before_body : (q : ℕ) (body after : List ℕ) → list_all (λ c. not ((c == q) || (c == 10))) body ≡ true → before_quote q (body ++ (q ∷ after)) ≡ Some (length body)
before_body q [] after h = rw (eq_self q) refl
before_body q (c ∷ cs) after h =
    let t = and_true (not ((c == q) || (c == 10))) (list_all (λ c. not ((c == q) || (c == 10))) cs) h in
    let u = quote_or_end q c t.0 in
    rw (u.0, u.1, before_body q cs after t.1) refl

-- a string with one quote at each end reaches as far, but where three quotes begin the text
pub reach_string : (q : ℕ) (body after : List ℕ) → is_quote q ≡ true → list_all (λ c. not ((c == q) || (c == 10))) body ≡ true
    → begins (three q) ((q ∷ (body ++ q ∷ [])) ++ after) ≡ false → Reaches (pieces.string 1) (q ∷ (body ++ q ∷ [])) (front_of ((q ∷ (body ++ q ∷ [])) ++ after))
reach_string q body after h all one =
    let text_is : (body ++ q ∷ []) ++ after ≡ body ++ (q ∷ after) = append_assoc body (q ∷ []) after in
    let found : before_quote q ((body ++ q ∷ []) ++ after) ≡ Some (length body) = ap (before_quote q) text_is ∙ before_body q body after all in
    let front : front_piece q ((body ++ q ∷ []) ++ after) ≡ piece (pieces.string 1) (1 + length body + 1) (q ∷ ((body ++ q ∷ []) ++ after)) = quote_front q ((body ++ q ∷ []) ++ after) h ∙ (rw (one, found) refl) in
    subst (λ (p : Piece). Reaches (pieces.string 1) (q ∷ (body ++ q ∷ [])) p) (sym front)
    (reach_take (pieces.string 1) (1 + length body + 1) (q ∷ (body ++ q ∷ [])) after (omega (arith, length-append body (q ∷ []))) refl)

-- where three quotes begin the text, a string with one quote at each end is two quotes
pub two_quotes : (q : ℕ) (body after : List ℕ) → list_all (λ c. not ((c == q) || (c == 10))) body ≡ true → begins (three q) ((q ∷ (body ++ q ∷ [])) ++ after) ≡ true → length body ≡ 0
two_quotes q [] after all h = refl
two_quotes q (c ∷ cs) after all h =
    let t = and_true (not ((c == q) || (c == 10))) (list_all (λ c. not ((c == q) || (c == 10))) cs) all in
    let u = quote_or_end q c t.0 in
    let e = begins_is (three q) ((q ∷ ((c ∷ cs) ++ q ∷ [])) ++ after) h in
    let same : c ≡ q = cc in
    absurd (eqb-false c q u.0 same)

-- what stands before the next three quotes

pub three_long : (q : ℕ) (xs : List ℕ) (n : ℕ) → before_three q xs ≡ Some n → 3 + n ≤ length xs
three_long q [] n h = absurd (cc)
three_long q (c ∷ cs) n h = by (three_long q cs) (begins (three q) (c ∷ cs)) refl (before_three q cs) refl h
  where
    by : ((m : ℕ) → before_three q cs ≡ Some m → 3 + m ≤ length cs) → (b : Bool) → begins (three q) (c ∷ cs) ≡ b → (o : Option ℕ) → before_three q cs ≡ o → (if b then Some 0 else option_map suc o) ≡ Some n → 3 + n ≤ length (c ∷ cs)
    by go true e o f g = let zero_is : n ≡ 0 = cc in omega (arith, zero_is, ap length (begins_is (three q) (c ∷ cs) e))
    by go false e None f g = absurd (cc)
    by go false e (Some m) f g = let more : n ≡ suc m = cc in omega (arith, more, go m f)

-- whether three quotes begin a text that is long enough is told by its front
begins_longer : (q c : ℕ) (cs after : List ℕ) → 3 ≤ length (c ∷ cs) → begins (three q) ((c ∷ cs) ++ after) ≡ begins (three q) (c ∷ cs)
begins_longer q c [] after h = absurd (omega (arith, h))
begins_longer q c (a ∷ []) after h = absurd (omega (arith, h))
begins_longer q c (a ∷ b ∷ rest) after h = refl

pub before_more : (q : ℕ) (xs after : List ℕ) (n : ℕ) → before_three q xs ≡ Some n → before_three q (xs ++ after) ≡ Some n
before_more q [] after n h = absurd (cc)
before_more q (c ∷ cs) after n h = rw (begins_longer q c cs after (omega (arith, three_long q (c ∷ cs) n h))) (by (before_more q cs after) (begins (three q) (c ∷ cs)) (before_three q cs) refl h)
  where
    by : ((m : ℕ) → before_three q cs ≡ Some m → before_three q (cs ++ after) ≡ Some m) → (b : Bool) (o : Option ℕ) → before_three q cs ≡ o → (if b then Some 0 else option_map suc o) ≡ Some n → (if b then Some 0 else option_map suc (before_three q (cs ++ after))) ≡ Some n
    by go true o f g = g
    by go false None f g = absurd (cc)
    by go false (Some m) f g = rw (go m f) g

-- a string with three quotes at each end reaches as far
pub reach_triple : (q : ℕ) (body after : List ℕ) → is_quote q ≡ true → before_three q (body ++ three q) ≡ Some (length body)
    → Reaches (pieces.string 3) (q ∷ q ∷ q ∷ (body ++ three q)) (front_of ((q ∷ q ∷ q ∷ (body ++ three q)) ++ after))
reach_triple q body after h found =
    let more : before_three q ((body ++ three q) ++ after) ≡ Some (length body) = before_more q (body ++ three q) after (length body) found in
    let cs : List ℕ = q ∷ q ∷ ((body ++ three q) ++ after) in
    let front : front_piece q cs ≡ piece (pieces.string 3) (3 + length body + 3) (q ∷ cs) = quote_front q cs h ∙ (rw (eq_self q, more) refl) in
    subst (λ (p : Piece). Reaches (pieces.string 3) (q ∷ q ∷ q ∷ (body ++ three q)) p) (sym front)
    (reach_take (pieces.string 3) (3 + length body + 3) (q ∷ q ∷ q ∷ (body ++ three q)) after (omega (arith, length-append body (three q))) refl)

-- what is cut as a string is one

-- the contents of a string, and what follows its last quote
pub record HasBody (q : ℕ) (text : List ℕ) (n : ℕ) : Type 0 where
  pub body : List ℕ
  pub after : List ℕ
  pub text_is : text ≡ body ++ (q ∷ after)
  pub len : length body ≡ n
  pub all : list_all (λ c. not ((c == q) || (c == 10))) body ≡ true

pub quote_cut : (q : ℕ) (text : List ℕ) (n : ℕ) → before_quote q text ≡ Some n → HasBody q text n
quote_cut q [] n h = absurd (cc)
quote_cut q (c ∷ cs) n h = by (quote_cut q cs) (c == q) refl (c == 10) refl (before_quote q cs) refl h
  where
    by : ((m : ℕ) → before_quote q cs ≡ Some m → HasBody q cs m) → (a : Bool) → (c == q) ≡ a → (b : Bool) → (c == 10) ≡ b → (o : Option ℕ) → before_quote q cs ≡ o → (if a then Some 0 else (if b then None else option_map suc o)) ≡ Some n → HasBody q (c ∷ cs) n
    by go true e b f o k g = let zero_is : n ≡ 0 = cc in record { body = []; after = cs; text_is = ap (λ (x : ℕ). x ∷ cs) (eqb-true c q e); len = sym zero_is; all = refl }
    by go false e true f o k g = absurd (cc)
    by go false e false f None k g = absurd (cc)
    by go false e false f (Some m) k g =
        let more : n ≡ suc m = cc in
        let r = go m k in
        record { body = c ∷ r.body; after = r.after; text_is = ap (λ (xs : List ℕ). c ∷ xs) r.text_is; len = ap suc r.len ∙ sym more; all = rw (e, f, r.all) refl }

-- the contents of a triple string, and what follows its last three quotes
pub record HasTriple (q : ℕ) (text : List ℕ) (n : ℕ) : Type 0 where
  pub body : List ℕ
  pub after : List ℕ
  pub text_is : text ≡ (body ++ three q) ++ after
  pub len : length body ≡ n
  pub first : before_three q (body ++ three q) ≡ Some n

pub three_cut : (q : ℕ) (text : List ℕ) (n : ℕ) → before_three q text ≡ Some n → HasTriple q text n
three_cut q [] n h = absurd (cc)
three_cut q (c ∷ cs) n h = by (three_cut q cs) (begins (three q) (c ∷ cs)) refl (before_three q cs) refl h
  where
    by : ((m : ℕ) → before_three q cs ≡ Some m → HasTriple q cs m) → (b : Bool) → begins (three q) (c ∷ cs) ≡ b → (o : Option ℕ) → before_three q cs ≡ o → (if b then Some 0 else option_map suc o) ≡ Some n → HasTriple q (c ∷ cs) n
    by go true e o f g =
        let zero_is : n ≡ 0 = cc in
        record { body = []; after = drop 3 (c ∷ cs); text_is = begins_is (three q) (c ∷ cs) e; len = sym zero_is; first = rw (three_begin q []) (ap Some (sym zero_is)) }
    by go false e None f g = absurd (cc)
    by go false e (Some m) f g =
        let more : n ≡ suc m = cc in
        let r = go m f in
        let long : 3 ≤ length (c ∷ (r.body ++ three q)) = omega (arith, length-append r.body (three q)) in
        let text_is : c ∷ cs ≡ (c ∷ (r.body ++ three q)) ++ r.after = ap (λ (xs : List ℕ). c ∷ xs) r.text_is in
        let none : begins (three q) (c ∷ (r.body ++ three q)) ≡ false = sym (begins_longer q c (r.body ++ three q) r.after long) ∙ ap (begins (three q)) (sym text_is) ∙ e in
        record { body = c ∷ r.body; after = r.after; text_is = text_is; len = ap suc r.len ∙ sym more; first = rw (none, r.first) (ap Some (sym more)) }
