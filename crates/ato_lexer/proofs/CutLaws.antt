-- The pieces of a text without faults are the one cut of it into the longest spellings.
use Rattle.std.proofs.Common.{◌≡◌, ℕ, zero, suc, ◌+◌, ◌<◌, ◌≤◌, Bool, true, false, not, ◌||◌, ◌==◌, List, [], ◌∷◌, ◌++◌, length, take, drop, map, Option, Some, None, refl, sym, ap, subst, ◌∙◌, arith, if◌then◌else◌, length-drop}
use Rattle.std.specs.Char.{is_ascii_digit}
use Rattle.std.specs.List.{list_all, list_any, find, prefix_len}
use Rattle.std.specs.Str.{bytes_eq}
use Rattle.std.proofs.Math.Seq.{take-append_seam, drop-append_seam}
use Rattle.std.proofs.lemmas.Bool.{eqb-true}
use Rattle.std.proofs.lemmas.List.{length-append, length-take, append_assoc, append-nil, take-append-drop}
use Rattle.std.proofs.lemmas.Slice.Eq.{bytes_eq-Decides}
use Rattle.unicode_ident.specs.Ident.{is_xid_continue}
use Rattle.ato_base.specs.Keywords.{keyword_text, all_keywords}
use Rattle.ato_base.specs.Names.{starts_name, are_name_chars}
use Rattle.ato_base.specs.declared.keywords.Keyword.{Keyword}
use Rattle.ato_frac.proofs.Digits.{and_true}
use Rattle.ato_units.specs.LiteralReading.{past, before, past_number}
use Rattle.ato_units.proofs.Cutting.{before_seam}
use Rattle.ato_units.proofs.Fronts.{cut_past, number_cut}
use Rattle.ato_units.proofs.NextTokens.{goes_on}
use Rattle.ato_lexer.specs.Fronts.{Written, begins, three, comment_len, before_quote, before_three, front_mark}
use Rattle.ato_lexer.specs.Pieces.{Kind, Piece, is_bad, piece, keyword_or_name, word_kind, word_piece, string_or_open, string_piece, mark_or_bad, front_piece, front_of, pieces_within, pieces_of}
use Rattle.ato_lexer.specs.Pieces as pieces
use Rattle.ato_lexer.specs.Spellings.{is_quote, Spells, IsNext, IsCut}
use Rattle.ato_lexer.specs.Spellings as spellings
use Rattle.ato_lexer.proofs.CoverLaws.{front_taken}
use Rattle.ato_lexer.proofs.ReachLaws.{Reaches, word_good, reach_space, reach_tab, reach_feed, reach_return_feed, reach_comment, reach_name, reach_keyword, reach_number}
use Rattle.ato_lexer.proofs.StringReach.{begins_is, quote_front, reach_string, reach_triple, two_quotes, three_long, quote_cut, three_cut}
use Rattle.ato_lexer.proofs.MarkReach.{reach_mark, reach_sign, mark_spelled}

-- how far a spelling reaches: no further than the piece, or it is two quotes where three begin the text
data Bound (k : Kind) (s text : List ℕ) : Type 0 where
  reached : Reaches k s (front_of text) → Bound k s text
  quotes : (q : ℕ) → is_quote q ≡ true → k ≡ pieces.string 1 → length s ≡ 2 → begins (three q) text ≡ true → Bound k s text

string_bound : (q : ℕ) (body after : List ℕ) → is_quote q ≡ true → list_all (λ c. not ((c == q) || (c == 10))) body ≡ true → (b : Bool) → begins (three q) ((q ∷ (body ++ q ∷ [])) ++ after) ≡ b
    → Bound (pieces.string 1) (q ∷ (body ++ q ∷ [])) ((q ∷ (body ++ q ∷ [])) ++ after)
string_bound q body after h all true e = quotes q h refl (omega (arith, length-append body (q ∷ []), two_quotes q body after all e)) e
string_bound q body after h all false e = reached (reach_string q body after h all e)

bound : (k : Kind) (s after : List ℕ) → Spells k s → Bound k s (s ++ after)
bound k s after spellings.space = reached (reach_space after)
bound k s after spellings.tab = reached (reach_tab after)
bound k s after spellings.feed = reached (reach_feed after)
bound k s after spellings.return_feed = reached (reach_return_feed after)
bound k s after (spellings.comment cs h) = reached (reach_comment cs after h)
bound k s after (spellings.name h g) = reached (reach_name s after h g)
bound k s after (spellings.keyword w) = reached (reach_keyword w after)
bound k s after (spellings.number parts n) = reached (reach_number s after parts n)
bound k s after (spellings.string q body h all) = string_bound q body after h all (begins (three q) ((q ∷ (body ++ q ∷ [])) ++ after)) refl
bound k s after (spellings.triple q body h first) = reached (reach_triple q body after h first)
bound k s after (spellings.mark m) = reached (reach_mark m after)
bound k s after spellings.plus_minus = reached (reach_sign after)

-- a piece that is no fault is spelled so

abbrev IsSpelled : Piece → Type 0
IsSpelled p = is_bad p.kind ≡ false → Spells p.kind p.text

choose : (b : Bool) (x y : Piece) → (b ≡ true → IsSpelled x) → (b ≡ false → IsSpelled y) → IsSpelled (if b then x else y)
choose true x y f g = f refl
choose false x y f g = g refl

blank_spelled : (c : ℕ) → ((c == 32) || (c == 9)) ≡ true → Spells pieces.blank (c ∷ [])
blank_spelled c h = by (c == 32) refl (c == 9) refl h
  where
    by : (a : Bool) → (c == 32) ≡ a → (b : Bool) → (c == 9) ≡ b → (a || b) ≡ true → Spells pieces.blank (c ∷ [])
    by true e b f g = subst (λ (x : ℕ). Spells pieces.blank (x ∷ [])) (sym (eqb-true c 32 e)) spellings.space
    by false e true f g = subst (λ (x : ℕ). Spells pieces.blank (x ∷ [])) (sym (eqb-true c 9 f)) spellings.tab
    by false e false f g = absurd (cc)

prefix_passes : (p : ℕ → Bool) (xs : List ℕ) → list_all p (take (prefix_len p xs) xs) ≡ true
prefix_passes p [] = refl
prefix_passes p (x ∷ xs) = by (p x) refl (prefix_passes p xs)
  where
    by : (b : Bool) → p x ≡ b → list_all p (take (prefix_len p xs) xs) ≡ true → list_all p (take (if b then 1 + prefix_len p xs else 0) (x ∷ xs)) ≡ true
    by true e h = let s : 1 + prefix_len p xs ≡ suc (prefix_len p xs) = omega arith in rw (s, e) h
    by false e h = refl

comment_spelled : (c : ℕ) (cs : List ℕ) → (c == 35) ≡ true → Spells pieces.comment (take (1 + comment_len cs) (c ∷ cs))
comment_spelled c cs h =
    let s : 1 + comment_len cs ≡ suc (comment_len cs) = omega arith in
    rw (s, eqb-true c 35 h) (spellings.comment (take (comment_len cs) cs) (prefix_passes (λ x. not (x == 10)) cs))

take_three : (n : ℕ) (a b c : ℕ) (xs : List ℕ) → take (3 + n) (a ∷ b ∷ c ∷ xs) ≡ a ∷ b ∷ c ∷ take n xs
take_three n a b c xs = let e : 3 + n ≡ suc (suc (suc n)) = omega arith in rw e refl

triple_spelled : (q : ℕ) (cs : List ℕ) → is_quote q ≡ true → begins (three q) (q ∷ cs) ≡ true → (o : Option ℕ) → before_three q (drop 3 (q ∷ cs)) ≡ o → IsSpelled (string_or_open 3 (q ∷ cs) o)
triple_spelled q cs h b None e g = absurd (cc)
triple_spelled q cs h b (Some n) e g =
    let r = three_cut q (drop 3 (q ∷ cs)) n e in
    let text_is : q ∷ cs ≡ q ∷ q ∷ q ∷ ((r.body ++ three q) ++ r.after) = begins_is (three q) (q ∷ cs) b ∙ ap (λ (xs : List ℕ). q ∷ q ∷ q ∷ xs) r.text_is in
    let size : 3 + n + 3 ≡ length (q ∷ q ∷ q ∷ (r.body ++ three q)) = omega (arith, length-append r.body (three q), r.len) in
    let front : take (3 + n + 3) (q ∷ cs) ≡ q ∷ q ∷ q ∷ (r.body ++ three q) = ap (λ (xs : List ℕ). take (3 + n + 3) xs) text_is ∙ ap (λ (m : ℕ). take m (q ∷ q ∷ q ∷ ((r.body ++ three q) ++ r.after))) size ∙ take-append_seam (q ∷ q ∷ q ∷ (r.body ++ three q)) r.after in
    subst (λ (xs : List ℕ). Spells (pieces.string 3) xs) (sym front) (spellings.triple q r.body h (r.first ∙ ap Some (sym r.len)))

one_quote_spelled : (q : ℕ) (cs : List ℕ) → is_quote q ≡ true → (o : Option ℕ) → before_quote q cs ≡ o → IsSpelled (string_or_open 1 (q ∷ cs) o)
one_quote_spelled q cs h None e g = absurd (cc)
one_quote_spelled q cs h (Some n) e g =
    let r = quote_cut q cs n e in
    let text_is : q ∷ cs ≡ (q ∷ (r.body ++ q ∷ [])) ++ r.after = ap (λ (xs : List ℕ). q ∷ xs) (r.text_is ∙ sym (append_assoc r.body (q ∷ []) r.after)) in
    let size : 1 + n + 1 ≡ length (q ∷ (r.body ++ q ∷ [])) = omega (arith, length-append r.body (q ∷ []), r.len) in
    let front : take (1 + n + 1) (q ∷ cs) ≡ q ∷ (r.body ++ q ∷ []) = ap (λ (xs : List ℕ). take (1 + n + 1) xs) text_is ∙ ap (λ (m : ℕ). take m ((q ∷ (r.body ++ q ∷ [])) ++ r.after)) size ∙ take-append_seam (q ∷ (r.body ++ q ∷ [])) r.after in
    subst (λ (xs : List ℕ). Spells (pieces.string 1) xs) (sym front) (spellings.string q r.body h r.all)

number_spelled : (c : ℕ) (cs : List ℕ) → is_ascii_digit c ≡ true → Spells pieces.number (before (c ∷ cs) (past_number (c ∷ cs)))
number_spelled c cs h =
    let k = number_cut (c ∷ cs) h in
    subst (λ (xs : List ℕ). Spells pieces.number xs) (sym (before_seam (c ∷ cs) k.front (past_number (c ∷ cs)) k.text_is)) (spellings.number k.parts k.is)

-- a word is a name or a keyword

any_none : (text : List ℕ) (ks : List Keyword) → find (λ k. bytes_eq text (keyword_text k)) ks ≡ None → list_any (bytes_eq text) (map keyword_text ks) ≡ false
any_none text [] h = refl
any_none text (k ∷ ks) h = by (any_none text ks) (bytes_eq text (keyword_text k)) h
  where
    by : (find (λ k. bytes_eq text (keyword_text k)) ks ≡ None → list_any (bytes_eq text) (map keyword_text ks) ≡ false) → (b : Bool) → (if b then Some k else find (λ k. bytes_eq text (keyword_text k)) ks) ≡ None → (b || list_any (bytes_eq text) (map keyword_text ks)) ≡ false
    by more true g = absurd (cc)
    by more false g = more g

found_text : (text : List ℕ) (ks : List Keyword) (k : Keyword) → find (λ k. bytes_eq text (keyword_text k)) ks ≡ Some k → text ≡ keyword_text k
found_text text [] k h = absurd (cc)
found_text text (w ∷ ws) k h = by (found_text text ws k) (bytes_eq text (keyword_text w)) refl h
  where
    by : (find (λ k. bytes_eq text (keyword_text k)) ws ≡ Some k → text ≡ keyword_text k) → (b : Bool) → bytes_eq text (keyword_text w) ≡ b → (if b then Some w else find (λ k. bytes_eq text (keyword_text k)) ws) ≡ Some k → text ≡ keyword_text k
    by more true e g = let same : w ≡ k = cc in (bytes_eq-Decides text (keyword_text w)).0 e ∙ ap keyword_text same
    by more false e g = more g

word_spelled : (text : List ℕ) → are_name_chars text ≡ true → Spells (word_kind text) text
word_spelled text h = by (find (λ k. bytes_eq text (keyword_text k)) all_keywords) refl
  where
    by : (o : Option Keyword) → find (λ k. bytes_eq text (keyword_text k)) all_keywords ≡ o → Spells (keyword_or_name o) text
    by None e = spellings.name h (any_none text all_keywords e)
    by (Some k) e = subst (λ (xs : List ℕ). Spells (pieces.keyword k) xs) (sym (found_text text all_keywords k e)) (spellings.keyword k)

front_word_spelled : (c : ℕ) (cs : List ℕ) → starts_name c ≡ true → Spells (word_kind (before (c ∷ cs) (past is_xid_continue cs))) (before (c ∷ cs) (past is_xid_continue cs))
front_word_spelled c cs h =
    let k = cut_past is_xid_continue cs in
    let e = before_seam (c ∷ cs) (c ∷ k.front) (past is_xid_continue cs) (ap (λ (xs : List ℕ). c ∷ xs) k.text_is) in
    rw e (word_spelled (c ∷ k.front) (rw (h, k.all) refl))

front_spelled : (c : ℕ) (cs : List ℕ) → IsSpelled (front_piece c cs)
unfolding front_piece
front_spelled c cs =
    choose ((c == 32) || (c == 9)) _ _ (λ h g. blank_spelled c h) (λ h.
    choose (c == 10) _ _ (λ h g. rw (eqb-true c 10 h) spellings.feed) (λ h.
    choose (begins (13 ∷ 10 ∷ []) (c ∷ cs)) _ _ (λ h g. subst (λ (xs : List ℕ). Spells pieces.line_end (take 2 xs)) (sym (begins_is (13 ∷ 10 ∷ []) (c ∷ cs) h)) spellings.return_feed) (λ h.
    choose (c == 35) _ _ (λ h g. comment_spelled c cs h) (λ h.
    choose ((c == 34) || (c == 39)) _ _ (λ quote.
    choose (begins (three c) (c ∷ cs)) _ _ (λ h. triple_spelled c cs quote h (before_three c (drop 3 (c ∷ cs))) refl) (λ h. one_quote_spelled c cs quote (before_quote c cs) refl)) (λ h.
    choose (is_ascii_digit c) _ _ (λ h g. number_spelled c cs h) (λ h.
    choose (starts_name c) _ _ (λ h g. front_word_spelled c cs h) (λ h. mark_spelled (c ∷ cs) (front_mark (c ∷ cs)) refl)))))))

-- where three quotes begin the text, the piece is a triple string or a fault

record IsTriple (p : Piece) : Type 0 where
  kind : p.kind ≡ pieces.string 3
  len : 6 ≤ length p.text

triple_or_open : (q : ℕ) (text : List ℕ) (o : Option ℕ) → before_three q (drop 3 text) ≡ o → is_bad (string_or_open 3 text o).kind ≡ false → IsTriple (string_or_open 3 text o)
triple_or_open q text None e h = absurd (cc)
triple_or_open q text (Some n) e h =
    record { kind = refl; len = omega (arith, length-take (3 + n + 3) text, three_long q (drop 3 text) n e, length-drop 3 text) }

triple_front : (q c : ℕ) (cs : List ℕ) → is_quote q ≡ true → begins (three q) (c ∷ cs) ≡ true → is_bad (front_piece c cs).kind ≡ false → IsTriple (front_piece c cs)
triple_front q c cs h b good =
    let e = begins_is (three q) (c ∷ cs) b in
    let same : q ≡ c = cc in
    let quote : is_quote c ≡ true = subst (λ (x : ℕ). is_quote x ≡ true) same h in
    let three_c : begins (three c) (c ∷ cs) ≡ true = subst (λ (x : ℕ). begins (three x) (c ∷ cs) ≡ true) same b in
    let front : front_piece c cs ≡ string_or_open 3 (c ∷ cs) (before_three c (drop 3 (c ∷ cs))) = quote_front c cs quote ∙ rw three_c refl in
    let k : is_bad (string_or_open 3 (c ∷ cs) (before_three c (drop 3 (c ∷ cs)))).kind ≡ false = subst (λ (p : Piece). is_bad p.kind ≡ false) front good in
    subst (λ (p : Piece). IsTriple p) (sym front) (triple_or_open c (c ∷ cs) (before_three c (drop 3 (c ∷ cs))) refl k)

-- the first piece comes next

not_further : (c : ℕ) (cs : List ℕ) (other : Kind) (more after : List ℕ) → is_bad (front_piece c cs).kind ≡ false → c ∷ cs ≡ ((front_piece c cs).text ++ more) ++ after → 0 < length more
    → Spells other ((front_piece c cs).text ++ more) → ⊥
not_further c cs other more after good e l s = by (((front_piece c cs).text ++ more) ++ after) e (bound other ((front_piece c cs).text ++ more) after s)
  where
    by : (text : List ℕ) → c ∷ cs ≡ text → Bound other ((front_piece c cs).text ++ more) text → ⊥
    by text f (reached r) =
        let same : front_of text ≡ front_piece c cs = ap front_of (sym f) in
        omega (arith, r.len, ap (λ (p : Piece). length p.text) same, length-append (front_piece c cs).text more, l)
    by text f (quotes q h k len b) =
        let t = triple_front q c cs h (subst (λ (xs : List ℕ). begins (three q) xs ≡ true) (sym f) b) good in
        omega (arith, t.len, len, length-append (front_piece c cs).text more)

first_next : (c : ℕ) (cs rest : List ℕ) → is_bad (front_piece c cs).kind ≡ false → c ∷ cs ≡ (front_piece c cs).text ++ rest → IsNext (front_piece c cs) rest
first_next c cs rest good e =
    record {
      spelled = front_spelled c cs good;
      longest = λ other more after f l s. not_further c cs other more after good (e ∙ ap (λ (xs : List ℕ). (front_piece c cs).text ++ xs) f ∙ sym (append_assoc (front_piece c cs).text more after)) l s;
      triple = λ q h b. (triple_front q c cs h (subst (λ (xs : List ℕ). begins (three q) xs ≡ true) (sym e) b) good).kind;
    }

fine_good : (p : Piece) → not (is_bad p.kind) ≡ true → is_bad p.kind ≡ false
fine_good p h = by (is_bad p.kind) h
  where
    by : (b : Bool) → not b ≡ true → b ≡ false
    by true e = absurd (cc)
    by false e = refl

cut_within : (n : ℕ) (text : List ℕ) → length text ≤ n → list_all (λ (p : Piece). not (is_bad p.kind)) (pieces_within n text) ≡ true → IsCut text (pieces_within n text)
unfolding pieces_within
cut_within zero [] h good = spellings.over
cut_within zero (c ∷ cs) h good = absurd (omega (arith, h))
cut_within (suc n) [] h good = spellings.over
cut_within (suc n) (c ∷ cs) h good =
    let size = length (front_piece c cs).text in
    let rest = drop size (c ∷ cs) in
    let k = front_taken c cs in
    let text_is : c ∷ cs ≡ (front_piece c cs).text ++ rest = sym (take-append-drop size (c ∷ cs)) ∙ ap (λ (xs : List ℕ). xs ++ rest) k.front in
    let t = and_true (not (is_bad (front_piece c cs).kind)) (list_all (λ (p : Piece). not (is_bad p.kind)) (pieces_within n rest)) good in
    let more = cut_within n rest (omega (arith, length-drop size (c ∷ cs), k.some, h)) t.1 in
    subst (λ (xs : List ℕ). IsCut xs (front_piece c cs ∷ pieces_within n rest)) (sym text_is)
    (spellings.next (front_piece c cs) rest (pieces_within n rest) (first_next c cs rest (fine_good (front_piece c cs) t.0) text_is) more)

pub longest_cut : (text : List ℕ) → list_all (λ (p : Piece). not (is_bad p.kind)) (pieces_of text) ≡ true → IsCut text (pieces_of text)
longest_cut text good = cut_within (length text) text (omega arith) good

-- what comes next is the first piece

pub front_of_spelled : (text : List ℕ) → is_bad (front_of text).kind ≡ false → Spells (front_of text).kind (front_of text).text
front_of_spelled [] h = absurd (cc)
front_of_spelled (c ∷ cs) h = front_spelled c cs h

front_of_taken : (text : List ℕ) → is_bad (front_of text).kind ≡ false → text ≡ (front_of text).text ++ drop (length (front_of text).text) text
front_of_taken [] h = absurd (cc)
front_of_taken (c ∷ cs) h =
    let size = length (front_piece c cs).text in
    sym (take-append-drop size (c ∷ cs)) ∙ ap (λ (xs : List ℕ). xs ++ drop size (c ∷ cs)) (front_taken c cs).front

next_first : (p : Piece) (rest : List ℕ) → IsNext p rest → front_of (p.text ++ rest) ≡ p
next_first p rest n = by (bound p.kind p.text rest n.spelled)
  where
    no_more : (f : Piece) (more after : List ℕ) → f.text ≡ p.text ++ more → rest ≡ more ++ after → Spells f.kind f.text → (length f.text ≡ length p.text → f.kind ≡ p.kind) → f ≡ p
    no_more f [] after e g s same =
        let text_same : f.text ≡ p.text = e ∙ append-nil p.text in
        let kind_same : f.kind ≡ p.kind = same (ap length text_same) in
        λ i. record { kind = kind_same i; text = text_same i }
    no_more f (m ∷ ms) after e g s same = absurd (n.longest f.kind (m ∷ ms) after g (omega arith) (subst (λ (xs : List ℕ). Spells f.kind xs) e s))

    by : Bound p.kind p.text (p.text ++ rest) → front_of (p.text ++ rest) ≡ p
    by (quotes q h k len b) = let e : pieces.string 1 ≡ pieces.string 3 = sym k ∙ n.triple q h b in absurd (cc)
    by (reached r) =
        let f = front_of (p.text ++ rest) in
        let k = goes_on p.text rest f.text (drop (length f.text) (p.text ++ rest)) (front_of_taken (p.text ++ rest) r.good) r.len in
        no_more f k.more (drop (length f.text) (p.text ++ rest)) k.longer k.rest_is (front_of_spelled (p.text ++ rest) r.good) r.same

-- a spelling has a character
spelled_some : (k : Kind) (s : List ℕ) → Spells k s → 0 < length s
spelled_some k [] h = by (bound k [] [] h)
  where
    by : Bound k [] [] → 0 < 0
    by (reached r) = let bad : true ≡ false = r.good in absurd (cc)
    by (quotes q g e len b) = absurd (omega (arith, len))
spelled_some k (c ∷ cs) h = omega arith

one_step : (n : ℕ) (text : List ℕ) (p : Piece) (rest : List ℕ) → text ≡ p.text ++ rest → 0 < length p.text → front_of text ≡ p → pieces_within (suc n) text ≡ p ∷ pieces_within n rest
unfolding pieces_within
one_step n [] p rest e l f = absurd (omega (arith, l, ap length e, length-append p.text rest))
one_step n (c ∷ cs) p rest e l f =
    let d : drop (length (front_piece c cs).text) (c ∷ cs) ≡ rest = ap (λ (x : Piece). drop (length x.text) (c ∷ cs)) f ∙ ap (λ (xs : List ℕ). drop (length p.text) xs) e ∙ drop-append_seam p.text rest in
    λ i. f i ∷ pieces_within n (d i)

one_cut_within : (n : ℕ) (text : List ℕ) (ps : List Piece) → length text ≤ n → IsCut text ps → pieces_within n text ≡ ps
unfolding pieces_within
one_cut_within zero text ps h spellings.over = refl
one_cut_within (suc n) text ps h spellings.over = refl
one_cut_within zero text ps h (spellings.next p rest more n cut) = absurd (omega (arith, h, length-append p.text rest, spelled_some p.kind p.text n.spelled))
one_cut_within (suc m) text ps h (spellings.next p rest more n cut) =
    let some = spelled_some p.kind p.text n.spelled in
    one_step m (p.text ++ rest) p rest refl some (next_first p rest n) ∙ ap (λ (xs : List Piece). p ∷ xs) (one_cut_within m rest more (omega (arith, h, length-append p.text rest, some)) cut)

pub one_cut : (text : List ℕ) (ps : List Piece) → IsCut text ps → pieces_of text ≡ ps
one_cut text ps h = one_cut_within (length text) text ps (omega arith) h

-- where the piece in front is a fault

triple_kind : (text : List ℕ) (o : Option ℕ) → (string_or_open 3 text o).kind ≡ pieces.bad_char → ⊥
triple_kind text None h = cc
triple_kind text (Some n) h = cc

-- no spelling begins with a character that begins nothing
pub nothing_begins : (c : ℕ) (cs : List ℕ) (k : Kind) (s after : List ℕ) → (front_piece c cs).kind ≡ pieces.bad_char → c ∷ cs ≡ s ++ after → Spells k s → ⊥
nothing_begins c cs k s after h e spelled = by (s ++ after) e (bound k s after spelled)
  where
    by : (text : List ℕ) → c ∷ cs ≡ text → Bound k s text → ⊥
    by text f (reached r) =
        let kind : (front_of text).kind ≡ pieces.bad_char = ap (λ (xs : List ℕ). (front_of xs).kind) (sym f) ∙ h in
        let bad : true ≡ false = sym (ap is_bad kind) ∙ r.good in
        cc
    by text f (quotes q g i len b) =
        let three_q : begins (three q) (c ∷ cs) ≡ true = subst (λ (xs : List ℕ). begins (three q) xs ≡ true) (sym f) b in
        let same : q ≡ c = (let x = begins_is (three q) (c ∷ cs) three_q in cc) in
        let quote : is_quote c ≡ true = subst (λ (x : ℕ). is_quote x ≡ true) same g in
        let three_c : begins (three c) (c ∷ cs) ≡ true = subst (λ (x : ℕ). begins (three x) (c ∷ cs) ≡ true) same three_q in
        let front : front_piece c cs ≡ string_or_open 3 (c ∷ cs) (before_three c (drop 3 (c ∷ cs))) = quote_front c cs quote ∙ rw three_c refl in
        triple_kind (c ∷ cs) (before_three c (drop 3 (c ∷ cs))) (ap (λ (p : Piece). p.kind) (sym front) ∙ h)

-- the piece is an open string only where a quote begins it
abbrev IsQuoted : ℕ → Piece → Type 0
IsQuoted c p = p.kind ≡ pieces.open_string → is_quote c ≡ true

choose_quoted : (c : ℕ) (b : Bool) (x y : Piece) → (b ≡ true → IsQuoted c x) → (b ≡ false → IsQuoted c y) → IsQuoted c (if b then x else y)
choose_quoted c true x y f g = f refl
choose_quoted c false x y f g = g refl

good_quoted : (c : ℕ) (k : Kind) → is_bad k ≡ false → k ≡ pieces.open_string → is_quote c ≡ true
good_quoted c k h e = let bad : true ≡ false = sym (ap is_bad e) ∙ h in absurd (cc)

mark_quoted : (c : ℕ) (text : List ℕ) (o : Option Written) → IsQuoted c (mark_or_bad text o)
mark_quoted c text None e = absurd (cc)
mark_quoted c text (Some w) e = absurd (cc)

open_quoted : (c : ℕ) (cs : List ℕ) → IsQuoted c (front_piece c cs)
unfolding front_piece
open_quoted c cs =
    choose_quoted c ((c == 32) || (c == 9)) _ _ (λ h. good_quoted c pieces.blank refl) (λ h.
    choose_quoted c (c == 10) _ _ (λ h. good_quoted c pieces.line_end refl) (λ h.
    choose_quoted c (begins (13 ∷ 10 ∷ []) (c ∷ cs)) _ _ (λ h. good_quoted c pieces.line_end refl) (λ h.
    choose_quoted c (c == 35) _ _ (λ h. good_quoted c pieces.comment refl) (λ h.
    choose_quoted c ((c == 34) || (c == 39)) _ _ (λ quote e. quote) (λ h.
    choose_quoted c (is_ascii_digit c) _ _ (λ h. good_quoted c pieces.number refl) (λ h.
    choose_quoted c (starts_name c) _ _ (λ h. good_quoted c (word_kind (before (c ∷ cs) (past is_xid_continue cs))) (word_good (before (c ∷ cs) (past is_xid_continue cs)))) (λ h. mark_quoted c (c ∷ cs) (front_mark (c ∷ cs)))))))))

pub open_begins : (c : ℕ) (cs : List ℕ) → (front_piece c cs).kind ≡ pieces.open_string → is_quote c ≡ true
open_begins c cs h = open_quoted c cs h

-- nothing that the text of an open string begins with is a spelling, but two of three quotes
pub open_has_no_end : (c : ℕ) (cs : List ℕ) (k : Kind) (s after : List ℕ) → (front_piece c cs).kind ≡ pieces.open_string → c ∷ cs ≡ s ++ after → Spells k s → (length s ≡ 2) × (begins (three c) (c ∷ cs) ≡ true)
open_has_no_end c cs k s after h e spelled = by (s ++ after) e (bound k s after spelled)
  where
    by : (text : List ℕ) → c ∷ cs ≡ text → Bound k s text → (length s ≡ 2) × (begins (three c) (c ∷ cs) ≡ true)
    by text f (reached r) =
        let kind : (front_of text).kind ≡ pieces.open_string = ap (λ (xs : List ℕ). (front_of xs).kind) (sym f) ∙ h in
        let bad : true ≡ false = sym (ap is_bad kind) ∙ r.good in
        absurd (cc)
    by text f (quotes q g i len b) =
        let three_q : begins (three q) (c ∷ cs) ≡ true = subst (λ (xs : List ℕ). begins (three q) xs ≡ true) (sym f) b in
        let same : q ≡ c = (let x = begins_is (three q) (c ∷ cs) three_q in cc) in
        (len, subst (λ (x : ℕ). begins (three x) (c ∷ cs) ≡ true) same three_q)
