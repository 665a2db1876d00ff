-- The pieces are the whole text.
use Rattle.std.proofs.Common.{◌≡◌, ◌<◌, ◌≤◌, ◌+◌, ◌-◌, ◌∷◌, ◌++◌, [], refl, sym, ap, ◌∙◌, subst, arith, ℕ, zero, suc, List, Bool, true, false, Option, Some, None, length, take, drop, if◌then◌else◌, ◌==◌, ◌||◌, ◌&&◌, nat_lt, length-drop}
use Rattle.std.specs.List.{list_all, find, flat_map}
use Rattle.std.specs.Char.{is_ascii_digit}
use Rattle.std.proofs.lemmas.List.{take-append-drop, length-append}
use Rattle.std.proofs.lemmas.Bool.{ltb-true}
use Rattle.unicode_ident.specs.Ident.{is_xid_continue}
use Rattle.ato_base.specs.Names.{starts_name}
use Rattle.ato_units.specs.LiteralReading.{past, before, past_number}
use Rattle.ato_units.proofs.Fronts.{cut_past, number_cut}
use Rattle.ato_lexer.specs.Fronts.{Written, begins, three, comment_len, before_quote, before_three, all_marks, front_mark}
use Rattle.ato_lexer.specs.Pieces.{Kind, Piece, piece, blank, comment, line_end, number, string_or_open, mark_or_bad, word_kind, front_piece, pieces_within, pieces_of, pieces}

-- a piece is some of the front of a text
record IsFront (text : List ℕ) (p : Piece) : Type 0 where
  len : ℕ
  some : 0 < len
  is : p.text ≡ take len text

choose : {text : List ℕ} (b : Bool) {x y : Piece} → (b ≡ true → IsFront text x) → (b ≡ false → IsFront text y) → IsFront text (if b then x else y)
choose true f g = f refl
choose false f g = g refl

taken : (kind : Kind) (n : ℕ) (text : List ℕ) → 0 < n → IsFront text (piece kind n text)
taken kind n text h = record { len = n; some = h; is = refl }

string_front : (quotes : ℕ) (text : List ℕ) (o : Option ℕ) → 0 < quotes → IsFront text (string_or_open quotes text o)
string_front quotes text None h = record { len = 1; some = omega arith; is = refl }
string_front quotes text (Some n) h = record { len = quotes + n + quotes; some = omega (arith, h); is = refl }

found_passes : (f g : Written → Bool) (xs : List Written) (w : Written) → find f xs ≡ Some w → list_all g xs ≡ true → g w ≡ true
found_passes f g [] w e h = absurd (cc)
found_passes f g (x ∷ xs) w e h = by (f x) refl (g x) refl (λ d i. found_passes f g xs w d i)
  where
    by : (a : Bool) → f x ≡ a → (b : Bool) → g x ≡ b → (find f xs ≡ Some w → list_all g xs ≡ true → g w ≡ true) → g w ≡ true
    by true p true q go = let same : Some x ≡ Some w = subst (λ (b : Bool). (if b then Some x else find f xs) ≡ Some w) p e in let s : x ≡ w = cc in subst (λ (v : Written). g v ≡ true) s q
    by false p true q go = go (subst (λ (b : Bool). (if b then Some x else find f xs) ≡ Some w) p e) (subst (λ (b : Bool). (b && list_all g xs) ≡ true) q h)
    by a p false q go = let n : (false && list_all g xs) ≡ true = subst (λ (b : Bool). (b && list_all g xs) ≡ true) q h in absurd (cc)

mark_front : (text : List ℕ) → IsFront text (mark_or_bad text (front_mark text))
mark_front text = by (front_mark text) refl
  where
    by : (o : Option Written) → front_mark text ≡ o → IsFront text (mark_or_bad text o)
    by None e = record { len = 1; some = omega arith; is = refl }
    by (Some w) e = record { len = length w.text; some = ltb-true 0 (length w.text) (found_passes (λ w. begins w.text text) (λ w. nat_lt 0 (length w.text)) all_marks w e refl); is = refl }

-- the front of a text before its end, where the end is shorter
ended : (kind : Kind) (text rest : List ℕ) → length rest < length text → IsFront text (record { kind = kind; text = before text rest })
ended kind text rest h = record { len = length text - length rest; some = omega (arith, h); is = refl }

-- a number has a digit
number_shorter : (c : ℕ) (cs : List ℕ) → is_ascii_digit c ≡ true → length (past_number (c ∷ cs)) < length (c ∷ cs)
number_shorter c cs h =
    let k = number_cut (c ∷ cs) h in
    omega (arith, ap length k.text_is, length-append k.front (past_number (c ∷ cs)), ap length k.is.text_is, length-append k.parts.whole (k.is.fraction_text ++ k.is.exponent_text), k.is.whole.some)

-- a word has a first character
word_shorter : (c : ℕ) (cs : List ℕ) → length (past is_xid_continue cs) < length (c ∷ cs)
word_shorter c cs = let k = cut_past is_xid_continue cs in omega (arith, ap length k.text_is, length-append k.front (past is_xid_continue cs))

front_is : (c : ℕ) (cs : List ℕ) → IsFront (c ∷ cs) (front_piece c cs)
unfolding front_piece
front_is c cs =
    choose ((c == 32) || (c == 9)) (λ h. taken blank 1 (c ∷ cs) (omega arith)) (λ h.
    choose (c == 10) (λ h. taken line_end 1 (c ∷ cs) (omega arith)) (λ h.
    choose (begins (13 ∷ 10 ∷ []) (c ∷ cs)) (λ h. taken line_end 2 (c ∷ cs) (omega arith)) (λ h.
    choose (c == 35) (λ h. taken comment (1 + comment_len cs) (c ∷ cs) (omega arith)) (λ h.
    choose ((c == 34) || (c == 39)) (λ h.
    choose (begins (three c) (c ∷ cs)) (λ h. string_front 3 (c ∷ cs) (before_three c (drop 3 (c ∷ cs))) (omega arith)) (λ h. string_front 1 (c ∷ cs) (before_quote c (drop 1 (c ∷ cs))) (omega arith))) (λ h.
    choose (is_ascii_digit c) (λ h. ended number (c ∷ cs) (past_number (c ∷ cs)) (number_shorter c cs h)) (λ h.
    choose (starts_name c) (λ h. ended (word_kind (before (c ∷ cs) (past is_xid_continue cs))) (c ∷ cs) (past is_xid_continue cs) (word_shorter c cs)) (λ h. mark_front (c ∷ cs))))))))

take_len : (n : ℕ) (xs : List ℕ) → take (length (take n xs)) xs ≡ take n xs
take_len zero xs = refl
take_len (suc n) [] = refl
take_len (suc n) (x ∷ xs) = ap (λ (ys : List ℕ). x ∷ ys) (take_len n xs)

take_some : (n c : ℕ) (cs : List ℕ) → 0 < n → 0 < length (take n (c ∷ cs))
take_some zero c cs h = absurd (omega (arith, h))
take_some (suc n) c cs h = omega arith

-- the first piece is the front of the text, and has a character
pub record IsTaken (c : ℕ) (cs : List ℕ) : Type 0 where
  pub some : 0 < length (front_piece c cs).text
  pub front : take (length (front_piece c cs).text) (c ∷ cs) ≡ (front_piece c cs).text

pub front_taken : (c : ℕ) (cs : List ℕ) → IsTaken c cs
front_taken c cs =
    let k = front_is c cs in
    record {
      some = subst (λ (xs : List ℕ). 0 < length xs) (sym k.is) (take_some k.len c cs k.some);
      front = ap (λ (xs : List ℕ). take (length xs) (c ∷ cs)) k.is ∙ (take_len k.len (c ∷ cs) ∙ sym k.is);
    }

cover_within : (n : ℕ) (text : List ℕ) → length text ≤ n → flat_map (λ (p : Piece). p.text) (pieces_within n text) ≡ text
unfolding pieces_within
cover_within zero [] h = refl
cover_within zero (c ∷ cs) h = absurd (omega (arith, h))
cover_within (suc n) [] h = refl
cover_within (suc n) (c ∷ cs) h =
    let size = length (front_piece c cs).text in
    let k = front_taken c cs in
    let rest = cover_within n (drop size (c ∷ cs)) (omega (arith, length-drop size (c ∷ cs), k.some, h)) in
    ap (λ (xs : List ℕ). (front_piece c cs).text ++ xs) rest ∙ (ap (λ (xs : List ℕ). xs ++ drop size (c ∷ cs)) (sym k.front) ∙ take-append-drop size (c ∷ cs))

pub covers : (text : List ℕ) → flat_map (λ (p : Piece). p.text) (pieces text) ≡ text
unfolding pieces
covers text = by (begins (0xFEFF ∷ []) text) refl
  where
    of_whole : (xs : List ℕ) → flat_map (λ (p : Piece). p.text) (pieces_of xs) ≡ xs
    of_whole xs = cover_within (length xs) xs (omega arith)

    by : (b : Bool) → begins (0xFEFF ∷ []) text ≡ b → flat_map (λ (p : Piece). p.text) (if b then piece blank 1 text ∷ pieces_of (drop 1 text) else pieces_of text) ≡ text
    by true e = ap (λ (xs : List ℕ). take 1 text ++ xs) (of_whole (drop 1 text)) ∙ take-append-drop 1 text
    by false e = of_whole text
