-- Marks at the front of a text.
use Rattle.std.proofs.Common.{◌≡◌, ◌⊎◌, inl, inr, ℕ, zero, suc, ◌<◌, ◌≤◌, Bool, true, false, ◌&&◌, nat_le, List, [], ◌∷◌, ◌++◌, length, take, drop, get_or, Option, Some, None, refl, sym, ap, subst, ◌∙◌, arith, if◌then◌else◌, option_map, lit<}
use Rattle.std.specs.List.{list_all, find}
use Rattle.std.specs.Str.{bytes_eq}
use Rattle.std.proofs.lemmas.Bool.{leb-true}
use Rattle.std.proofs.Math.Seq.{take-append_seam}
use Rattle.unicode_ident.proofs.Computing.{unicode_ident}
use Rattle.ato_base.specs.Keywords.{mark_text}
use Rattle.ato_base.specs.declared.keywords.Mark.{Mark}
use Rattle.ato_base.specs.declared.keywords.Mark.TheVariants as marks
use Rattle.ato_frac.proofs.Digits.{and_true}
use Rattle.ato_lexer.specs.Fronts.{Written, begins, written, all_marks, front_mark}
use Rattle.ato_lexer.specs.Pieces.{Kind, Piece, is_bad, piece, mark_or_bad, front_piece, front_of}
use Rattle.ato_lexer.specs.Pieces as pieces
use Rattle.ato_lexer.specs.Spellings.{Spells, mark, plus_minus}
use Rattle.ato_lexer.proofs.ReachLaws.{Reaches}
use Rattle.ato_lexer.proofs.StringReach.{begins_is, begins_yes}

-- a way to write a mark stands in a list
data IsIn (w : Written) : List Written → Type 0 where
  here : {ws : List Written} → IsIn w (w ∷ ws)
  there : {v : Written} {ws : List Written} → IsIn w ws → IsIn w (v ∷ ws)

in_at : (ws : List Written) (k : ℕ) (d : Written) → k < length ws → IsIn (get_or ws k d) ws
in_at [] k d h = absurd (omega (arith, h))
in_at (w ∷ ws) zero d h = here
in_at (w ∷ ws) (suc k) d h = there (in_at ws k d (omega (arith, h)))

all_in : (p : Written → Bool) (ws : List Written) (w : Written) → list_all p ws ≡ true → IsIn w ws → p w ≡ true
all_in p [] w h i = elim i [ ]
all_in p (v ∷ ws) w h here = (and_true (p v) (list_all p ws) h).0
all_in p (v ∷ ws) w h (there i) = all_in p ws w (and_true (p v) (list_all p ws) h).1 i

-- no longer one stands behind a shorter one
descends : List Written → Bool
descends [] = true
descends (w ∷ ws) = list_all (λ v. nat_le (length v.text) (length w.text)) ws && descends ws

-- what is found is at least as long as what fits
record IsFound (p : Written → Bool) (ws : List Written) (w : Written) : Type 0 where
  found : Written
  is : find p ws ≡ Some found
  within : IsIn found ws
  fits : p found ≡ true
  len : length w.text ≤ length found.text

-- where a spelling stands in a list that has a first one
InCases : Written → List Written → Type 0
InCases w [] = ⊥
InCases w (v ∷ ws) = (v ≡ w) ⊎ IsIn w ws

in_cases : (ws : List Written) (w : Written) → IsIn w ws → InCases w ws
unfolding InCases
in_cases [] w i = elim i [ ]
in_cases (v ∷ ws) w here = inl refl
in_cases (v ∷ ws) w (there i) = inr i

found_here : (p : Written → Bool) (v w : Written) (ws : List Written) → p v ≡ true → length w.text ≤ length v.text → IsFound p (v ∷ ws) w
found_here p v w ws e l = record { found = v; is = rw e refl; within = here; fits = e; len = l }

found_there : (p : Written → Bool) (v w : Written) (ws : List Written) → p v ≡ false → IsFound p ws w → IsFound p (v ∷ ws) w
found_there p v w ws e r = record { found = r.found; is = rw e r.is; within = there r.within; fits = r.fits; len = r.len }

found_first : (p : Written → Bool) (ws : List Written) (w : Written) → descends ws ≡ true → IsIn w ws → p w ≡ true → IsFound p ws w
unfolding InCases descends
found_first p [] w h i f = elim i [ ]
found_first p (v ∷ ws) w h i f =
    by (and_true (list_all (λ u. nat_le (length u.text) (length v.text)) ws) (descends ws) h).0
    (λ j. found_first p ws w (and_true (list_all (λ u. nat_le (length u.text) (length v.text)) ws) (descends ws) h).1 j f) (p v) refl (in_cases (v ∷ ws) w i)
  where
    by : list_all (λ u. nat_le (length u.text) (length v.text)) ws ≡ true → (IsIn w ws → IsFound p ws w) → (b : Bool) → p v ≡ b → (v ≡ w) ⊎ IsIn w ws → IsFound p (v ∷ ws) w
    by all go true e (inl same) = found_here p v w ws e (omega (arith, ap (λ (x : Written). length x.text) same))
    by all go true e (inr j) = found_here p v w ws e (leb-true (length w.text) (length v.text) (all_in (λ u. nat_le (length u.text) (length v.text)) ws w all j))
    by all go false e (inl same) = let no : true ≡ false = sym f ∙ ap p (sym same) ∙ e in absurd (cc)
    by all go false e (inr j) = found_there p v w ws e (go j)

-- no mark, for a place that is not there
none : Written
none = record { mark = marks.Percent; text = [] }

-- each mark stands among the spellings

at_mark : (m : Mark) → IsIn (written m) all_marks
at_mark marks.PlusMinus = in_at all_marks 0 none (lit< tt)
at_mark marks.Arrow = in_at all_marks 1 none (lit< tt)
at_mark marks.Power = in_at all_marks 2 none (lit< tt)
at_mark marks.LessEqual = in_at all_marks 3 none (lit< tt)
at_mark marks.GreaterEqual = in_at all_marks 4 none (lit< tt)
at_mark marks.Less = in_at all_marks 6 none (lit< tt)
at_mark marks.Greater = in_at all_marks 7 none (lit< tt)
at_mark marks.Equal = in_at all_marks 8 none (lit< tt)
at_mark marks.Tilde = in_at all_marks 9 none (lit< tt)
at_mark marks.Colon = in_at all_marks 10 none (lit< tt)
at_mark marks.Semicolon = in_at all_marks 11 none (lit< tt)
at_mark marks.Comma = in_at all_marks 12 none (lit< tt)
at_mark marks.Dot = in_at all_marks 13 none (lit< tt)
at_mark marks.LeftParenthesis = in_at all_marks 14 none (lit< tt)
at_mark marks.RightParenthesis = in_at all_marks 15 none (lit< tt)
at_mark marks.LeftBracket = in_at all_marks 16 none (lit< tt)
at_mark marks.RightBracket = in_at all_marks 17 none (lit< tt)
at_mark marks.Plus = in_at all_marks 18 none (lit< tt)
at_mark marks.Minus = in_at all_marks 19 none (lit< tt)
at_mark marks.Star = in_at all_marks 20 none (lit< tt)
at_mark marks.Slash = in_at all_marks 21 none (lit< tt)
at_mark marks.Bar = in_at all_marks 22 none (lit< tt)
at_mark marks.Percent = in_at all_marks 23 none (lit< tt)

all_descend : descends all_marks ≡ true
unfolding descends
all_descend = refl

-- a fact of each spelling of a list
data Each (P : Written → Type 0) : List Written → Type 0 where
  nothing : Each P []
  also : {w : Written} {ws : List Written} → P w → Each P ws → Each P (w ∷ ws)

of_each : (P : Written → Type 0) (ws : List Written) (w : Written) → Each P ws → IsIn w ws → P w
of_each P [] w e i = elim i [ ]
of_each P (v ∷ ws) w (also p e) here = p
of_each P (v ∷ ws) w (also p e) (there i) = of_each P ws w e i

-- the mark that a text spells
mark_of : List ℕ → Option Mark
mark_of text = option_map (λ (w : Written). w.mark) (find (λ w. bytes_eq w.text text) all_marks)

each_told : Each (λ w. mark_of w.text ≡ Some w.mark) all_marks
unfolding mark_of
each_told = also refl (also refl (also refl (also refl (also refl (also refl (also refl (also refl (also refl (also refl (also refl (also refl (also refl (also refl (also refl (also refl (also refl (also refl (also refl (also refl (also refl (also refl (also refl (also refl nothing)))))))))))))))))))))))

each_spelled : Each (λ w. Spells (pieces.mark w.mark) w.text) all_marks
each_spelled = also (mark marks.PlusMinus) (also (mark marks.Arrow) (also (mark marks.Power) (also (mark marks.LessEqual) (also (mark marks.GreaterEqual) (also plus_minus (also (mark marks.Less) (also (mark marks.Greater) (also (mark marks.Equal) (also (mark marks.Tilde) (also (mark marks.Colon) (also (mark marks.Semicolon) (also (mark marks.Comma) (also (mark marks.Dot) (also (mark marks.LeftParenthesis) (also (mark marks.RightParenthesis) (also (mark marks.LeftBracket) (also (mark marks.RightBracket) (also (mark marks.Plus) (also (mark marks.Minus) (also (mark marks.Star) (also (mark marks.Slash) (also (mark marks.Bar) (also (mark marks.Percent) nothing)))))))))))))))))))))))

-- the first character of a mark begins only marks
mark_front : (m : Mark) (after : List ℕ) → front_of (mark_text m ++ after) ≡ mark_or_bad (mark_text m ++ after) (front_mark (mark_text m ++ after))
unfolding front_piece unicode_ident
mark_front marks.PlusMinus after = refl
mark_front marks.Arrow after = refl
mark_front marks.Power after = refl
mark_front marks.LessEqual after = refl
mark_front marks.GreaterEqual after = refl
mark_front marks.Less after = refl
mark_front marks.Greater after = refl
mark_front marks.Equal after = refl
mark_front marks.Tilde after = refl
mark_front marks.Colon after = refl
mark_front marks.Semicolon after = refl
mark_front marks.Comma after = refl
mark_front marks.Dot after = refl
mark_front marks.LeftParenthesis after = refl
mark_front marks.RightParenthesis after = refl
mark_front marks.LeftBracket after = refl
mark_front marks.RightBracket after = refl
mark_front marks.Plus after = refl
mark_front marks.Minus after = refl
mark_front marks.Star after = refl
mark_front marks.Slash after = refl
mark_front marks.Bar after = refl
mark_front marks.Percent after = refl

sign_front : (after : List ℕ) → front_of (0xB1 ∷ after) ≡ mark_or_bad (0xB1 ∷ after) (front_mark (0xB1 ∷ after))
unfolding front_piece unicode_ident
sign_front after = refl

-- a text begins with the spelling that is found
front_text : (v : Written) (text : List ℕ) → begins v.text text ≡ true → take (length v.text) text ≡ v.text
front_text v text h = ap (take (length v.text)) (begins_is v.text text h) ∙ take-append_seam v.text (drop (length v.text) text)

reach_written : (w : Written) (after : List ℕ) → IsIn w all_marks → front_of (w.text ++ after) ≡ mark_or_bad (w.text ++ after) (front_mark (w.text ++ after)) → Reaches (pieces.mark w.mark) w.text (front_of (w.text ++ after))
reach_written w after i front =
    let r = found_first (λ v. begins v.text (w.text ++ after)) all_marks w all_descend i (begins_yes w.text after) in
    let is : front_of (w.text ++ after) ≡ piece (pieces.mark r.found.mark) (length r.found.text) (w.text ++ after) = front ∙ ap (mark_or_bad (w.text ++ after)) r.is in
    let text_is : take (length r.found.text) (w.text ++ after) ≡ r.found.text = front_text r.found (w.text ++ after) r.fits in
    subst (λ (p : Piece). Reaches (pieces.mark w.mark) w.text p) (sym is)
    (record { len = omega (arith, r.len, ap length text_is); same = λ e. same r.found r.within text_is e; good = refl })
  where
    same : (v : Written) → IsIn v all_marks → take (length v.text) (w.text ++ after) ≡ v.text → length (take (length v.text) (w.text ++ after)) ≡ length w.text → pieces.mark v.mark ≡ pieces.mark w.mark
    same v j e l =
        let size : length v.text ≡ length w.text = ap length (sym e) ∙ l in
        let text_same : v.text ≡ w.text = sym e ∙ ap (λ (n : ℕ). take n (w.text ++ after)) size ∙ take-append_seam w.text after in
        let a = of_each (λ w. mark_of w.text ≡ Some w.mark) all_marks v each_told j in
        let b = of_each (λ w. mark_of w.text ≡ Some w.mark) all_marks w each_told i in
        let c : Some v.mark ≡ Some w.mark = sym a ∙ ap mark_of text_same ∙ b in
        cc

pub reach_mark : (m : Mark) (after : List ℕ) → Reaches (pieces.mark m) (mark_text m) (front_of (mark_text m ++ after))
reach_mark m after = reach_written (written m) after (at_mark m) (mark_front m after)

pub reach_sign : (after : List ℕ) → Reaches (pieces.mark marks.PlusMinus) (0xB1 ∷ []) (front_of (0xB1 ∷ after))
reach_sign after = reach_written (record { mark = marks.PlusMinus; text = 0xB1 ∷ [] }) after (in_at all_marks 5 none (lit< tt)) (sign_front after)

-- what is found is a spelling in front of the text
record IsFoundIn (p : Written → Bool) (ws : List Written) (w : Written) : Type 0 where
  within : IsIn w ws
  fits : p w ≡ true

found_in : (p : Written → Bool) (ws : List Written) (w : Written) → find p ws ≡ Some w → IsFoundIn p ws w
found_in p [] w h = absurd (cc)
found_in p (v ∷ ws) w h = by (found_in p ws w) (p v) refl h
  where
    by : (find p ws ≡ Some w → IsFoundIn p ws w) → (b : Bool) → p v ≡ b → (if b then Some v else find p ws) ≡ Some w → IsFoundIn p (v ∷ ws) w
    by go true e g = let same : v ≡ w = cc in record { within = subst (λ (x : Written). IsIn x (v ∷ ws)) same here; fits = subst (λ (x : Written). p x ≡ true) same e }
    by go false e g = let r = go g in record { within = there r.within; fits = r.fits }

pub mark_spelled : (text : List ℕ) (o : Option Written) → front_mark text ≡ o → is_bad (mark_or_bad text o).kind ≡ false → Spells (mark_or_bad text o).kind (mark_or_bad text o).text
mark_spelled text None e h = absurd (cc)
mark_spelled text (Some w) e h =
    let r = found_in (λ w. begins w.text text) all_marks w e in
    subst (λ (xs : List ℕ). Spells (pieces.mark w.mark) xs) (sym (front_text w text r.fits)) (of_each (λ w. Spells (pieces.mark w.mark) w.text) all_marks w each_spelled r.within)
