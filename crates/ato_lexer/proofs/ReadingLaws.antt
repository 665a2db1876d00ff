-- What is read in front of a text is its first piece.
use Rattle.std.proofs.Common.{◌≡◌, ◌<◌, ℕ, suc, ◌+◌, Bool, true, false, ◌||◌, ◌==◌, List, [], ◌∷◌, ◌++◌, length, drop, Option, Some, None, refl, sym, ap, subst, ◌∙◌, arith, if◌then◌else◌, option_map}
use Rattle.std.specs.Char.{is_ascii_digit}
use Rattle.std.specs.List.{prefix_len}
use Rattle.std.proofs.lemmas.Bool.{eqb-true, eqb-false}
use Rattle.std.proofs.lemmas.Bool.Decides.{Decides-eqb}
use Rattle.std.specs.Str.{chars, IsUtf8, encode_utf8_all}
use Rattle.std.proofs.Math.Seq.{drop-append_seam}
use Rattle.std.proofs.lemmas.Str.{length-le-encodes}
use Rattle.std.proofs.lemmas.List.{take-append-drop, drop-drop, length-append}
use Rattle.unicode_ident.specs.Ident.{is_xid_continue}
use Rattle.unicode_ident.proofs.Computing.{unicode_ident}
use Rattle.ato_base.specs.Names.{starts_name}
use Rattle.ato_base.specs.declared.keywords.Mark.{Mark}
use Rattle.ato_base.specs.declared.keywords.Mark.TheVariants as marks
use Rattle.ato_units.specs.LiteralReading.{past, before, past_number}
use Rattle.ato_units.specs.Spellings.{HasEnd}
use Rattle.ato_units.proofs.Cutting.{before_seam, ends_in_bytes, past_end, number_end}
use Rattle.ato_lexer.specs.Fronts.{begins, three, comment_len, before_quote, before_three, front_mark}
use Rattle.ato_lexer.specs.Pieces.{Kind, Piece, piece, word_kind, word_piece, string_or_open, string_piece, mark_or_bad, front_piece, front_of}
use Rattle.ato_lexer.specs.Pieces as pieces
use Rattle.ato_lexer.proofs.CoverLaws.{front_taken}
use Rattle.ato_lexer.specs.Reading.{GoesOn, past_char, past_two, past_three, is_in_line, after_quote, or_else, after_three, string_or_quote, read_quoted, read_mark, feed_or_bad, read_token, read_front}

-- a piece stands in front of what is read behind it
pub record IsRead (p : Piece) (text : List ℕ) (cut : Kind × List ℕ) : Type 0 where
  pub kind : cut.0 ≡ p.kind
  pub text_is : text ≡ p.text ++ cut.1

choose : (text : List ℕ) (b : Bool) (p q : Piece) (x y : Kind × List ℕ) → (b ≡ true → IsRead p text x) → (b ≡ false → IsRead q text y) → IsRead (if b then p else q) text (if b then x else y)
choose text true p q x y f g = f refl
choose text false p q x y f g = g refl

pub eq_turned : (a b : ℕ) → (a == b) ≡ (b == a)
eq_turned a b = by (a == b) refl (b == a) refl
  where
    by : (x : Bool) → (a == b) ≡ x → (y : Bool) → (b == a) ≡ y → x ≡ y
    by true e true f = refl
    by false e false f = refl
    by true e false f = absurd (eqb-false b a f (sym (eqb-true a b e)))
    by false e true f = absurd (eqb-false a b e (sym (eqb-true b a f)))

-- the first characters, and the others
taken : (kind : Kind) (n : ℕ) (text : List ℕ) → IsRead (piece kind n text) text (kind, drop n text)
taken kind n text = record { kind = refl; text_is = sym (take-append-drop n text) }

-- a comment
past_prefix : (t : ℕ → Bool) (xs : List ℕ) → drop (prefix_len t xs) xs ≡ past t xs
unfolding past
past_prefix t [] = refl
past_prefix t (x ∷ xs) = by (t x) (past_prefix t xs)
  where
    by : (b : Bool) → drop (prefix_len t xs) xs ≡ past t xs → drop (if b then 1 + prefix_len t xs else 0) (x ∷ xs) ≡ (if b then past t xs else x ∷ xs)
    by true e = let s : 1 + prefix_len t xs ≡ suc (prefix_len t xs) = omega arith in rw s e
    by false e = refl

comment_read : (c : ℕ) (cs : List ℕ) → IsRead (piece pieces.comment (1 + comment_len cs) (c ∷ cs)) (c ∷ cs) (pieces.comment, past is_in_line cs)
comment_read c cs =
    let s : 1 + comment_len cs ≡ suc (comment_len cs) = omega arith in
    let rest : drop (1 + comment_len cs) (c ∷ cs) ≡ past is_in_line cs = rw s (past_prefix is_in_line cs) in
    subst (λ (xs : List ℕ). IsRead (piece pieces.comment (1 + comment_len cs) (c ∷ cs)) (c ∷ cs) (pieces.comment, xs)) rest (taken pieces.comment (1 + comment_len cs) (c ∷ cs))

-- strings

after_quote_is : (q : ℕ) (xs : List ℕ) → after_quote q xs ≡ option_map (λ n. drop (suc n) xs) (before_quote q xs)
unfolding after_quote
after_quote_is q [] = refl
after_quote_is q (c ∷ cs) = by (c == q) (c == 10) (before_quote q cs) (after_quote_is q cs)
  where
    by : (a b : Bool) (o : Option ℕ) → after_quote q cs ≡ option_map (λ n. drop (suc n) cs) o
        → (if a then Some cs else (if b then None else after_quote q cs)) ≡ option_map (λ n. drop (suc n) (c ∷ cs)) (if a then Some 0 else (if b then None else option_map suc o))
    by true b o e = refl
    by false true o e = refl
    by false false None e = e
    by false false (Some n) e = e

past_three_is : (q : ℕ) (xs : List ℕ) → past_three q xs ≡ (if begins (three q) xs then Some (drop 3 xs) else None)
past_three_is q [] = refl
past_three_is q (a ∷ []) = by (q == a) refl
  where
    by : (x : Bool) → (q == a) ≡ x → past_three q (a ∷ []) ≡ (if begins (three q) (a ∷ []) then Some (drop 3 (a ∷ [])) else None)
    by true e = rw (eq_turned a q, e) refl
    by false e = rw (eq_turned a q, e) refl
past_three_is q (a ∷ b ∷ []) = by (q == a) refl (q == b) refl
  where
    by : (x : Bool) → (q == a) ≡ x → (y : Bool) → (q == b) ≡ y → past_three q (a ∷ b ∷ []) ≡ (if begins (three q) (a ∷ b ∷ []) then Some (drop 3 (a ∷ b ∷ [])) else None)
    by true e true f = rw (eq_turned a q, e, eq_turned b q, f) refl
    by true e false f = rw (eq_turned a q, e, eq_turned b q, f) refl
    by false e y f = rw (eq_turned a q, e) refl
past_three_is q (a ∷ b ∷ c ∷ cs) = by (q == a) refl (q == b) refl (q == c) refl
  where
    by : (x : Bool) → (q == a) ≡ x → (y : Bool) → (q == b) ≡ y → (z : Bool) → (q == c) ≡ z → past_three q (a ∷ b ∷ c ∷ cs) ≡ (if begins (three q) (a ∷ b ∷ c ∷ cs) then Some (drop 3 (a ∷ b ∷ c ∷ cs)) else None)
    by true e true f true g = rw (eq_turned a q, e, eq_turned b q, f, eq_turned c q, g) refl
    by true e true f false g = rw (eq_turned a q, e, eq_turned b q, f, eq_turned c q, g) refl
    by true e false f z g = rw (eq_turned a q, e, eq_turned b q, f) refl
    by false e y f z g = rw (eq_turned a q, e) refl

after_three_is : (q : ℕ) (xs : List ℕ) → after_three q xs ≡ option_map (λ n. drop (3 + n) xs) (before_three q xs)
unfolding after_three
after_three_is q [] = refl
after_three_is q (c ∷ cs) = rw (past_three_is q (c ∷ cs)) (by (begins (three q) (c ∷ cs)) (before_three q cs) (after_three_is q cs))
  where
    by : (b : Bool) (o : Option ℕ) → after_three q cs ≡ option_map (λ n. drop (3 + n) cs) o
        → or_else (if b then Some (drop 3 (c ∷ cs)) else None) (after_three q cs) ≡ option_map (λ n. drop (3 + n) (c ∷ cs)) (if b then Some 0 else option_map suc o)
    by true o e = refl
    by false None e = e
    by false (Some n) e = let s : 3 + suc n ≡ suc (3 + n) = omega arith in rw s e

-- a string with so many quotes at each end
string_read : (quotes q : ℕ) (cs : List ℕ) (o : Option ℕ) (r : Option (List ℕ)) → r ≡ option_map (λ n. drop (quotes + n + quotes) (q ∷ cs)) o → IsRead (string_or_open quotes (q ∷ cs) o) (q ∷ cs) (string_or_quote quotes cs r)
string_read quotes q cs None r e = rw e (record { kind = refl; text_is = refl })
string_read quotes q cs (Some n) r e = rw e (taken (pieces.string quotes) (quotes + n + quotes) (q ∷ cs))

one_quote : (q : ℕ) (cs : List ℕ) → after_quote q cs ≡ option_map (λ n. drop (1 + n + 1) (q ∷ cs)) (before_quote q cs)
one_quote q cs = after_quote_is q cs ∙ by (before_quote q cs)
  where
    by : (o : Option ℕ) → option_map (λ n. drop (suc n) cs) o ≡ option_map (λ n. drop (1 + n + 1) (q ∷ cs)) o
    by None = refl
    by (Some n) = let s : 1 + n + 1 ≡ suc (suc n) = omega arith in rw s refl

three_quotes : (q : ℕ) (cs inner : List ℕ) → drop 3 (q ∷ cs) ≡ inner → after_three q inner ≡ option_map (λ n. drop (3 + n + 3) (q ∷ cs)) (before_three q inner)
three_quotes q cs inner e = after_three_is q inner ∙ by (before_three q inner)
  where
    skip : (n : ℕ) → drop (3 + n) inner ≡ drop (3 + n + 3) (q ∷ cs)
    skip n = ap (λ (xs : List ℕ). drop (3 + n) xs) (sym e) ∙ drop-drop (3 + n) 3 (q ∷ cs) ∙ ap (λ (m : ℕ). drop m (q ∷ cs)) (omega arith)

    by : (o : Option ℕ) → option_map (λ n. drop (3 + n) inner) o ≡ option_map (λ n. drop (3 + n + 3) (q ∷ cs)) o
    by None = refl
    by (Some n) = ap Some (skip n)

equal : (q : ℕ) → (q == q) ≡ true
equal q = (Decides-eqb q q).1 refl

past_two_is : (q : ℕ) (cs : List ℕ) → past_two q cs ≡ (if begins (three q) (q ∷ cs) then Some (drop 3 (q ∷ cs)) else None)
past_two_is q cs = let e = past_three_is q (q ∷ cs) in rw (equal q) (rw (equal q) at e)

quoted_read : (q : ℕ) (cs : List ℕ) → IsRead (string_piece q (q ∷ cs)) (q ∷ cs) (read_quoted q cs (past_two q cs))
quoted_read q cs = by (begins (three q) (q ∷ cs)) (past_two q cs) (past_two_is q cs)
  where
    by : (b : Bool) (o : Option (List ℕ)) → o ≡ (if b then Some (drop 3 (q ∷ cs)) else None)
        → IsRead (if b then string_or_open 3 (q ∷ cs) (before_three q (drop 3 (q ∷ cs))) else string_or_open 1 (q ∷ cs) (before_quote q (drop 1 (q ∷ cs)))) (q ∷ cs) (read_quoted q cs o)
    by true o e = rw e (string_read 3 q cs (before_three q (drop 3 (q ∷ cs))) (after_three q (drop 3 (q ∷ cs))) (three_quotes q cs (drop 3 (q ∷ cs)) refl))
    by false o e = rw e (string_read 1 q cs (before_quote q cs) (after_quote q cs) (one_quote q cs))

-- numbers and words
ended_read : (kind : Kind) (text rest : List ℕ) → HasEnd text rest → IsRead (record { kind = kind; text = before text rest }) text (kind, rest)
ended_read kind text rest h = record { kind = refl; text_is = h.text_is ∙ ap (λ (xs : List ℕ). xs ++ rest) (sym (before_seam text h.front rest h.text_is)) }

behind : (c : ℕ) (cs rest : List ℕ) → HasEnd cs rest → HasEnd (c ∷ cs) rest
behind c cs rest h = record { front = c ∷ h.front; text_is = ap (λ (xs : List ℕ). c ∷ xs) h.text_is }

-- marks

IsMarkRead : ℕ → List ℕ → Type 0
IsMarkRead c cs = IsRead (mark_or_bad (c ∷ cs) (front_mark (c ∷ cs))) (c ∷ cs) (read_mark c cs)

arrow_read : (cs : List ℕ) → IsMarkRead 45 cs
unfolding read_mark IsMarkRead
arrow_read [] = taken (pieces.mark marks.Minus) 1 (45 ∷ [])
arrow_read (d ∷ ds) = by (62 == d) refl
  where
    by : (b : Bool) → (62 == d) ≡ b → IsMarkRead 45 (d ∷ ds)
    by true e = rw (eq_turned d 62, e) (taken (pieces.mark marks.Arrow) 2 (45 ∷ d ∷ ds))
    by false e = rw (eq_turned d 62, e) (taken (pieces.mark marks.Minus) 1 (45 ∷ d ∷ ds))

power_read : (cs : List ℕ) → IsMarkRead 42 cs
unfolding read_mark IsMarkRead
power_read [] = taken (pieces.mark marks.Star) 1 (42 ∷ [])
power_read (d ∷ ds) = by (42 == d) refl
  where
    by : (b : Bool) → (42 == d) ≡ b → IsMarkRead 42 (d ∷ ds)
    by true e = rw (eq_turned d 42, e) (taken (pieces.mark marks.Power) 2 (42 ∷ d ∷ ds))
    by false e = rw (eq_turned d 42, e) (taken (pieces.mark marks.Star) 1 (42 ∷ d ∷ ds))

lessequal_read : (cs : List ℕ) → IsMarkRead 60 cs
unfolding read_mark IsMarkRead
lessequal_read [] = taken (pieces.mark marks.Less) 1 (60 ∷ [])
lessequal_read (d ∷ ds) = by (61 == d) refl
  where
    by : (b : Bool) → (61 == d) ≡ b → IsMarkRead 60 (d ∷ ds)
    by true e = rw (eq_turned d 61, e) (taken (pieces.mark marks.LessEqual) 2 (60 ∷ d ∷ ds))
    by false e = rw (eq_turned d 61, e) (taken (pieces.mark marks.Less) 1 (60 ∷ d ∷ ds))

greaterequal_read : (cs : List ℕ) → IsMarkRead 62 cs
unfolding read_mark IsMarkRead
greaterequal_read [] = taken (pieces.mark marks.Greater) 1 (62 ∷ [])
greaterequal_read (d ∷ ds) = by (61 == d) refl
  where
    by : (b : Bool) → (61 == d) ≡ b → IsMarkRead 62 (d ∷ ds)
    by true e = rw (eq_turned d 61, e) (taken (pieces.mark marks.GreaterEqual) 2 (62 ∷ d ∷ ds))
    by false e = rw (eq_turned d 61, e) (taken (pieces.mark marks.Greater) 1 (62 ∷ d ∷ ds))

plus_read : (cs : List ℕ) → IsMarkRead 43 cs
unfolding read_mark IsMarkRead
plus_read [] = taken (pieces.mark marks.Plus) 1 (43 ∷ [])
plus_read (d ∷ []) = by (47 == d) refl
  where
    by : (b : Bool) → (47 == d) ≡ b → IsMarkRead 43 (d ∷ [])
    by true e = rw (eq_turned d 47, e) (taken (pieces.mark marks.Plus) 1 (43 ∷ d ∷ []))
    by false e = rw (eq_turned d 47, e) (taken (pieces.mark marks.Plus) 1 (43 ∷ d ∷ []))
plus_read (d ∷ f ∷ fs) = by (47 == d) refl (45 == f) refl
  where
    by : (b : Bool) → (47 == d) ≡ b → (x : Bool) → (45 == f) ≡ x → IsMarkRead 43 (d ∷ f ∷ fs)
    by true e true g = rw (eq_turned d 47, e, eq_turned f 45, g) (taken (pieces.mark marks.PlusMinus) 3 (43 ∷ d ∷ f ∷ fs))
    by true e false g = rw (eq_turned d 47, e, eq_turned f 45, g) (taken (pieces.mark marks.Plus) 1 (43 ∷ d ∷ f ∷ fs))
    by false e x g = rw (eq_turned d 47, e) (taken (pieces.mark marks.Plus) 1 (43 ∷ d ∷ f ∷ fs))

pick : {R : Type 0} (b : Bool) → (b ≡ true → R) → (b ≡ false → R) → R
pick true f g = f refl
pick false f g = g refl

at : (c n : ℕ) (cs : List ℕ) → (c == n) ≡ true → IsMarkRead n cs → IsMarkRead c cs
at c n cs e h = subst (λ (x : ℕ). IsMarkRead x cs) (sym (eqb-true c n e)) h

one_read : (cs : List ℕ) (n : ℕ) (m : Mark) → IsRead (piece (pieces.mark m) 1 (n ∷ cs)) (n ∷ cs) (pieces.mark m, cs)
one_read cs n m = taken (pieces.mark m) 1 (n ∷ cs)

none_read : (c : ℕ) (cs : List ℕ) → (c == 43) ≡ false → (c == 45) ≡ false → (c == 42) ≡ false → (c == 60) ≡ false → (c == 62) ≡ false → (c == 177) ≡ false → (c == 61) ≡ false → (c == 126) ≡ false → (c == 58) ≡ false → (c == 59) ≡ false → (c == 44) ≡ false → (c == 46) ≡ false → (c == 40) ≡ false → (c == 41) ≡ false → (c == 91) ≡ false → (c == 93) ≡ false → (c == 47) ≡ false → (c == 124) ≡ false → (c == 37) ≡ false → IsMarkRead c cs
unfolding read_mark IsMarkRead
none_read c cs h43 h45 h42 h60 h62 h177 h61 h126 h58 h59 h44 h46 h40 h41 h91 h93 h47 h124 h37 =
    rw (eq_turned 43 c, h43, eq_turned 45 c, h45, eq_turned 42 c, h42, eq_turned 60 c, h60, eq_turned 62 c, h62, eq_turned 177 c, h177, eq_turned 61 c, h61, eq_turned 126 c, h126, eq_turned 58 c, h58, eq_turned 59 c, h59, eq_turned 44 c, h44, eq_turned 46 c, h46, eq_turned 40 c, h40, eq_turned 41 c, h41, eq_turned 91 c, h91, eq_turned 93 c, h93, eq_turned 47 c, h47, eq_turned 124 c, h124, eq_turned 37 c, h37) (taken pieces.bad_char 1 (c ∷ cs))

mark_read : (c : ℕ) (cs : List ℕ) → IsMarkRead c cs
unfolding read_mark IsMarkRead
mark_read c cs =
    pick (c == 43) (λ e. at c 43 cs e (plus_read cs)) (λ h43.
    pick (c == 45) (λ e. at c 45 cs e (arrow_read cs)) (λ h45.
    pick (c == 42) (λ e. at c 42 cs e (power_read cs)) (λ h42.
    pick (c == 60) (λ e. at c 60 cs e (lessequal_read cs)) (λ h60.
    pick (c == 62) (λ e. at c 62 cs e (greaterequal_read cs)) (λ h62.
    pick (c == 177) (λ e. at c 177 cs e ((one_read cs 177 marks.PlusMinus))) (λ h177.
    pick (c == 61) (λ e. at c 61 cs e ((one_read cs 61 marks.Equal))) (λ h61.
    pick (c == 126) (λ e. at c 126 cs e ((one_read cs 126 marks.Tilde))) (λ h126.
    pick (c == 58) (λ e. at c 58 cs e ((one_read cs 58 marks.Colon))) (λ h58.
    pick (c == 59) (λ e. at c 59 cs e ((one_read cs 59 marks.Semicolon))) (λ h59.
    pick (c == 44) (λ e. at c 44 cs e ((one_read cs 44 marks.Comma))) (λ h44.
    pick (c == 46) (λ e. at c 46 cs e ((one_read cs 46 marks.Dot))) (λ h46.
    pick (c == 40) (λ e. at c 40 cs e ((one_read cs 40 marks.LeftParenthesis))) (λ h40.
    pick (c == 41) (λ e. at c 41 cs e ((one_read cs 41 marks.RightParenthesis))) (λ h41.
    pick (c == 91) (λ e. at c 91 cs e ((one_read cs 91 marks.LeftBracket))) (λ h91.
    pick (c == 93) (λ e. at c 93 cs e ((one_read cs 93 marks.RightBracket))) (λ h93.
    pick (c == 47) (λ e. at c 47 cs e ((one_read cs 47 marks.Slash))) (λ h47.
    pick (c == 124) (λ e. at c 124 cs e ((one_read cs 124 marks.Bar))) (λ h124.
    pick (c == 37) (λ e. at c 37 cs e ((one_read cs 37 marks.Percent))) (λ h37.
    none_read c cs h43 h45 h42 h60 h62 h177 h61 h126 h58 h59 h44 h46 h40 h41 h91 h93 h47 h124 h37)))))))))))))))))))

-- CR LF, or a CR alone
return_read : (cs : List ℕ) → IsRead (front_piece 13 cs) (13 ∷ cs) (feed_or_bad cs (past_char 10 cs))
unfolding front_piece unicode_ident
return_read [] = taken pieces.bad_char 1 (13 ∷ [])
return_read (d ∷ ds) = by (10 == d) refl
  where
    by : (b : Bool) → (10 == d) ≡ b → IsRead (front_piece 13 (d ∷ ds)) (13 ∷ d ∷ ds) (feed_or_bad (d ∷ ds) (past_char 10 (d ∷ ds)))
    by true e = rw (eq_turned d 10, e) (taken pieces.line_end 2 (13 ∷ d ∷ ds))
    by false e = rw (eq_turned d 10, e) (taken pieces.bad_char 1 (13 ∷ d ∷ ds))

not_return : (c : ℕ) (cs : List ℕ) → (c == 13) ≡ false → begins (13 ∷ 10 ∷ []) (c ∷ cs) ≡ false
not_return c cs h = rw (eq_turned 13 c, h) refl

-- the ways that are taken in both, one test after another
token_read : (c : ℕ) (cs : List ℕ) → IsRead (if is_ascii_digit c then record { kind = pieces.number; text = before (c ∷ cs) (past_number (c ∷ cs)) }
    else (if starts_name c then word_piece (before (c ∷ cs) (past is_xid_continue cs)) else mark_or_bad (c ∷ cs) (front_mark (c ∷ cs)))) (c ∷ cs) (read_token c cs)
unfolding IsMarkRead
token_read c cs =
    choose (c ∷ cs) (is_ascii_digit c) _ _ _ _ (λ h. ended_read pieces.number (c ∷ cs) (past_number (c ∷ cs)) (number_end (c ∷ cs))) (λ h.
    choose (c ∷ cs) (starts_name c) _ _ _ _ (λ h. ended_read (word_kind (before (c ∷ cs) (past is_xid_continue cs))) (c ∷ cs) (past is_xid_continue cs) (behind c cs (past is_xid_continue cs) (past_end is_xid_continue cs))) (λ h. mark_read c cs))

later_read : (c : ℕ) (cs : List ℕ) → IsRead (if c == 35 then piece pieces.comment (1 + comment_len cs) (c ∷ cs)
    else (if (c == 34) || (c == 39) then string_piece c (c ∷ cs)
    else (if is_ascii_digit c then record { kind = pieces.number; text = before (c ∷ cs) (past_number (c ∷ cs)) }
    else (if starts_name c then word_piece (before (c ∷ cs) (past is_xid_continue cs)) else mark_or_bad (c ∷ cs) (front_mark (c ∷ cs)))))) (c ∷ cs)
    (if c == 35 then (pieces.comment, past is_in_line cs) else (if (c == 34) || (c == 39) then read_quoted c cs (past_two c cs) else read_token c cs))
later_read c cs =
    choose (c ∷ cs) (c == 35) _ _ _ _ (λ h. comment_read c cs) (λ h.
    choose (c ∷ cs) ((c == 34) || (c == 39)) _ _ _ _ (λ h. quoted_read c cs) (λ h. token_read c cs))

return_case : (c : ℕ) (cs : List ℕ) → (c == 13) ≡ true → IsRead (front_piece c cs) (c ∷ cs) (read_front c cs)
unfolding read_front
return_case c cs h = subst (λ (x : ℕ). IsRead (front_piece x cs) (x ∷ cs) (read_front x cs)) (sym (eqb-true c 13 h)) (return_read cs)

other_case : (c : ℕ) (cs : List ℕ) → (c == 13) ≡ false → IsRead (front_piece c cs) (c ∷ cs) (read_front c cs)
unfolding front_piece read_front
other_case c cs h =
    rw (not_return c cs h, h)
    (choose (c ∷ cs) ((c == 32) || (c == 9)) _ _ _ _ (λ g. taken pieces.blank 1 (c ∷ cs)) (λ g.
    choose (c ∷ cs) (c == 10) _ _ _ _ (λ f. taken pieces.line_end 1 (c ∷ cs)) (λ f. later_read c cs)))

pub front_read : (c : ℕ) (cs : List ℕ) → IsRead (front_piece c cs) (c ∷ cs) (read_front c cs)
front_read c cs = pick (c == 13) (return_case c cs) (other_case c cs)

-- what follows the first piece is the text without it
pub front_cut : (text : List ℕ) (c : ℕ) (cs : List ℕ) (cut : Kind × List ℕ) → text ≡ c ∷ cs → cut ≡ read_front c cs → (cut.0 ≡ (front_of text).kind) × (cut.1 ≡ drop (length (front_of text).text) text)
front_cut text c cs cut e h =
    let r = front_read c cs in
    let rest : drop (length (front_piece c cs).text) (c ∷ cs) ≡ (read_front c cs).1 = ap (λ (xs : List ℕ). drop (length (front_piece c cs).text) xs) r.text_is ∙ drop-append_seam (front_piece c cs).text (read_front c cs).1 in
    rw (e, h) (r.kind, sym rest)

-- the text goes on there
pub front_goes_on : (text : List ℕ) (c : ℕ) (cs : List ℕ) (cut : Kind × List ℕ) → text ≡ c ∷ cs → cut ≡ read_front c cs → GoesOn text cut.1
front_goes_on text c cs cut e h =
    let r = front_read c cs in
    record { front = (front_piece c cs).text; some = (front_taken c cs).some; text_is = e ∙ r.text_is ∙ ap (λ (x : Kind × List ℕ). (front_piece c cs).text ++ x.1) (sym h) }

-- what a text goes on with has fewer bytes
pub fewer_bytes : (text rest : List ℕ) → IsUtf8 text → IsUtf8 rest → GoesOn (chars text) (chars rest) → length rest < length text
fewer_bytes text rest u v g =
    let bytes : text ≡ encode_utf8_all g.front ++ rest = ends_in_bytes text rest u v (record { front = g.front; text_is = g.text_is }) in
    let long = length-le-encodes g.front in
    let some = g.some in
    omega (arith, ap length bytes, length-append (encode_utf8_all g.front) rest, long, some)
