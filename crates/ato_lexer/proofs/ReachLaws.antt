-- No spelling at the front of a text reaches further than the piece that is cut there.
use Rattle.std.proofs.Common.{◌≡◌, ℕ, ◌+◌, ◌-◌, ◌<◌, ◌≤◌, Bool, true, false, not, ◌||◌, ◌==◌, List, [], ◌∷◌, ◌++◌, length, map, Option, Some, None, refl, sym, ap, subst, ◌∙◌, arith, if◌then◌else◌}
use Rattle.std.specs.Char.{is_ascii_digit}
use Rattle.std.specs.List.{list_all, list_any, find, prefix_len}
use Rattle.std.specs.Str.{bytes_eq}
use Rattle.std.proofs.lemmas.Bool.{eqb-true, lt-leb}
use Rattle.std.proofs.lemmas.List.{length-append, length-take, append_assoc, append-nil}
use Rattle.unicode_ident.specs.Ident.{is_xid_continue}
use Rattle.unicode_ident.proofs.IdentLemmas.{is_xid_start-ascii}
use Rattle.unicode_ident.proofs.Computing.{unicode_ident}
use Rattle.ato_base.specs.Keywords.{keyword_text, is_keyword, all_keywords}
use Rattle.ato_base.specs.Names.{starts_name, are_name_chars}
use Rattle.ato_base.specs.declared.keywords.Keyword.{Keyword}
use Rattle.ato_base.specs.declared.keywords.Keyword.TheVariants as words
use Rattle.ato_frac.specs.Numbers.{Parts, IsNumber, AreDigits}
use Rattle.ato_frac.proofs.Digits.{and_true, digit_range}
use Rattle.ato_units.specs.LiteralReading.{past, before, past_number}
use Rattle.ato_units.proofs.Cutting.{before_seam}
use Rattle.ato_units.proofs.Fronts.{cut_past, past_all, number_reach}
use Rattle.ato_lexer.specs.Fronts.{comment_len}
use Rattle.ato_lexer.specs.Pieces.{Kind, Piece, is_bad, piece, keyword_or_name, word_kind, word_piece, string_or_open, string_piece, mark_or_bad, front_piece, front_of}
use Rattle.ato_lexer.specs.Pieces as pieces

-- a piece is at least as long as a spelling, is of its kind where it is as long, and is no fault
pub record Reaches (k : Kind) (s : List ℕ) (p : Piece) : Type 0 where
  pub len : length s ≤ length p.text
  pub same : length p.text ≡ length s → p.kind ≡ k
  pub good : is_bad p.kind ≡ false

pub reach_take : (k : Kind) (n : ℕ) (s after : List ℕ) → length s ≤ n → is_bad k ≡ false → Reaches k s (piece k n (s ++ after))
reach_take k n s after h g = record { len = omega (arith, h, length-take n (s ++ after), length-append s after); same = λ e. refl; good = g }

-- blanks, line ends and comments

pub reach_space : (after : List ℕ) → Reaches pieces.blank (32 ∷ []) (front_of (32 ∷ after))
unfolding front_piece
reach_space after = reach_take pieces.blank 1 (32 ∷ []) after (omega arith) refl

pub reach_tab : (after : List ℕ) → Reaches pieces.blank (9 ∷ []) (front_of (9 ∷ after))
unfolding front_piece
reach_tab after = reach_take pieces.blank 1 (9 ∷ []) after (omega arith) refl

pub reach_feed : (after : List ℕ) → Reaches pieces.line_end (10 ∷ []) (front_of (10 ∷ after))
unfolding front_piece
reach_feed after = reach_take pieces.line_end 1 (10 ∷ []) after (omega arith) refl

pub reach_return_feed : (after : List ℕ) → Reaches pieces.line_end (13 ∷ 10 ∷ []) (front_of (13 ∷ 10 ∷ after))
unfolding front_piece
reach_return_feed after = reach_take pieces.line_end 2 (13 ∷ 10 ∷ []) after (omega arith) refl

prefix_reach : (p : ℕ → Bool) (xs ys : List ℕ) → list_all p xs ≡ true → length xs ≤ prefix_len p (xs ++ ys)
prefix_reach p [] ys h = omega arith
prefix_reach p (x ∷ xs) ys h =
    let t = and_true (p x) (list_all p xs) h in
    let k = prefix_reach p xs ys t.1 in
    rw t.0 (omega (arith, k))

pub reach_comment : (cs after : List ℕ) → list_all (λ c. not (c == 10)) cs ≡ true → Reaches pieces.comment (35 ∷ cs) (front_of (35 ∷ (cs ++ after)))
unfolding front_piece
reach_comment cs after h =
    let k = prefix_reach (λ c. not (c == 10)) cs after h in
    reach_take pieces.comment (1 + comment_len (cs ++ after)) (35 ∷ cs) after (omega (arith, k)) refl

-- words

no_letter : (c d : ℕ) → starts_name c ≡ true → starts_name d ≡ false → (c == d) ≡ false
no_letter c d h g = by (c == d) refl
  where
    by : (b : Bool) → (c == d) ≡ b → b ≡ false
    by false e = refl
    by true e = let f : starts_name d ≡ true = subst (λ (x : ℕ). starts_name x ≡ true) (eqb-true c d e) h in let k : true ≡ false = sym f ∙ g in absurd (cc)

no_letter_back : (c d : ℕ) → starts_name c ≡ true → starts_name d ≡ false → (d == c) ≡ false
no_letter_back c d h g = by (d == c) refl
  where
    by : (b : Bool) → (d == c) ≡ b → b ≡ false
    by false e = refl
    by true e = let f : starts_name d ≡ true = subst (λ (x : ℕ). starts_name x ≡ true) (sym (eqb-true d c e)) h in let k : true ≡ false = sym f ∙ g in absurd (cc)

pub digit_no_letter : (c : ℕ) → is_ascii_digit c ≡ true → starts_name c ≡ false
digit_no_letter c h =
    let r = digit_range c h in
    let small : c < 128 = omega (arith, r.0, r.1) in
    rw (is_xid_start-ascii c small, lt-leb 65 c (omega (arith, r.0, r.1)), lt-leb 97 c (omega (arith, r.0, r.1))) (by (c == 95) refl)
  where
    by : (b : Bool) → (c == 95) ≡ b → b ≡ false
    by false e = refl
    by true e = let r = digit_range c h in absurd (omega (arith, eqb-true c 95 e, r.0, r.1))

letter_no_digit : (c : ℕ) → starts_name c ≡ true → is_ascii_digit c ≡ false
letter_no_digit c h = by (is_ascii_digit c) refl
  where
    by : (b : Bool) → is_ascii_digit c ≡ b → b ≡ false
    by false e = refl
    by true e = let k : true ≡ false = sym h ∙ digit_no_letter c e in absurd (cc)

pub word_front : (c : ℕ) (cs : List ℕ) → starts_name c ≡ true → front_piece c cs ≡ word_piece (before (c ∷ cs) (past is_xid_continue cs))
unfolding front_piece unicode_ident
word_front c cs h =
    rw (no_letter c 32 h refl, no_letter c 9 h refl, no_letter c 10 h refl, no_letter_back c 13 h refl, no_letter c 35 h refl, no_letter c 34 h refl, no_letter c 39 h refl, letter_no_digit c h, h) refl

keyword_or_name_good : (o : Option Keyword) → is_bad (keyword_or_name o) ≡ false
keyword_or_name_good None = refl
keyword_or_name_good (Some k) = refl

pub word_good : (text : List ℕ) → is_bad (word_kind text) ≡ false
word_good text = keyword_or_name_good (find (λ k. bytes_eq text (keyword_text k)) all_keywords)

reach_word_at : (c : ℕ) (cs after : List ℕ) → starts_name c ≡ true → list_all is_xid_continue cs ≡ true → Reaches (word_kind (c ∷ cs)) (c ∷ cs) (front_piece c (cs ++ after))
reach_word_at c cs after h g =
    let k = cut_past is_xid_continue after in
    let rest : past is_xid_continue (cs ++ after) ≡ past is_xid_continue after = past_all is_xid_continue cs after g in
    let text_is : c ∷ (cs ++ after) ≡ (c ∷ (cs ++ k.front)) ++ past is_xid_continue after = ap (λ (xs : List ℕ). c ∷ (cs ++ xs)) k.text_is ∙ ap (λ (xs : List ℕ). c ∷ xs) (sym (append_assoc cs k.front (past is_xid_continue after))) in
    let word : before (c ∷ (cs ++ after)) (past is_xid_continue (cs ++ after)) ≡ c ∷ (cs ++ k.front) = ap (λ (xs : List ℕ). before (c ∷ (cs ++ after)) xs) rest ∙ before_seam (c ∷ (cs ++ after)) (c ∷ (cs ++ k.front)) (past is_xid_continue after) text_is in
    subst (λ (p : Piece). Reaches (word_kind (c ∷ cs)) (c ∷ cs) p) (sym (word_front c (cs ++ after) h ∙ ap word_piece word))
    (record { len = omega (arith, length-append cs k.front); same = same k.front; good = word_good (c ∷ (cs ++ k.front)) })
  where
    same : (front : List ℕ) → length (c ∷ (cs ++ front)) ≡ length (c ∷ cs) → word_kind (c ∷ (cs ++ front)) ≡ word_kind (c ∷ cs)
    same [] e = ap (λ (xs : List ℕ). word_kind (c ∷ xs)) (append-nil cs)
    same (x ∷ xs) e = absurd (omega (arith, e, length-append cs (x ∷ xs)))

reach_word : (s after : List ℕ) → are_name_chars s ≡ true → Reaches (word_kind s) s (front_of (s ++ after))
reach_word [] after h = absurd (cc)
reach_word (c ∷ cs) after h = let t = and_true (starts_name c) (list_all is_xid_continue cs) h in reach_word_at c cs after t.0 t.1

find_none : (text : List ℕ) (ks : List Keyword) → list_any (bytes_eq text) (map keyword_text ks) ≡ false → find (λ k. bytes_eq text (keyword_text k)) ks ≡ None
find_none text [] h = refl
find_none text (k ∷ ks) h = by (find_none text ks) (bytes_eq text (keyword_text k)) h
  where
    by : (list_any (bytes_eq text) (map keyword_text ks) ≡ false → find (λ k. bytes_eq text (keyword_text k)) ks ≡ None) → (b : Bool) → (b || list_any (bytes_eq text) (map keyword_text ks)) ≡ false → (if b then Some k else find (λ k. bytes_eq text (keyword_text k)) ks) ≡ None
    by more true g = absurd (cc)
    by more false g = more g

name_told : (text : List ℕ) → is_keyword text ≡ false → word_kind text ≡ pieces.name
name_told text h = ap keyword_or_name (find_none text all_keywords h)

keyword_told : (k : Keyword) → word_kind (keyword_text k) ≡ pieces.keyword k
keyword_told words.Module = refl
keyword_told words.Component = refl
keyword_told words.Interface = refl
keyword_told words.From = refl
keyword_told words.Import = refl
keyword_told words.New = refl
keyword_told words.Signal = refl
keyword_told words.Pin = refl
keyword_told words.Assert = refl
keyword_told words.Within = refl
keyword_told words.Is = refl
keyword_told words.To = refl
keyword_told words.Pass = refl
keyword_told words.For = refl
keyword_told words.In = refl
keyword_told words.True = refl
keyword_told words.False = refl

keyword_chars : (k : Keyword) → are_name_chars (keyword_text k) ≡ true
unfolding unicode_ident
keyword_chars words.Module = refl
keyword_chars words.Component = refl
keyword_chars words.Interface = refl
keyword_chars words.From = refl
keyword_chars words.Import = refl
keyword_chars words.New = refl
keyword_chars words.Signal = refl
keyword_chars words.Pin = refl
keyword_chars words.Assert = refl
keyword_chars words.Within = refl
keyword_chars words.Is = refl
keyword_chars words.To = refl
keyword_chars words.Pass = refl
keyword_chars words.For = refl
keyword_chars words.In = refl
keyword_chars words.True = refl
keyword_chars words.False = refl

pub reach_name : (s after : List ℕ) → are_name_chars s ≡ true → is_keyword s ≡ false → Reaches pieces.name s (front_of (s ++ after))
reach_name s after h g = subst (λ (k : Kind). Reaches k s (front_of (s ++ after))) (name_told s g) (reach_word s after h)

pub reach_keyword : (k : Keyword) (after : List ℕ) → Reaches (pieces.keyword k) (keyword_text k) (front_of (keyword_text k ++ after))
reach_keyword k after = subst (λ (kind : Kind). Reaches kind (keyword_text k) (front_of (keyword_text k ++ after))) (keyword_told k) (reach_word (keyword_text k) after (keyword_chars k))

-- numbers

no_digit : (c d : ℕ) → is_ascii_digit c ≡ true → is_ascii_digit d ≡ false → (c == d) ≡ false
no_digit c d h g = by (c == d) refl
  where
    by : (b : Bool) → (c == d) ≡ b → b ≡ false
    by false e = refl
    by true e = let f : is_ascii_digit d ≡ true = subst (λ (x : ℕ). is_ascii_digit x ≡ true) (eqb-true c d e) h in let k : true ≡ false = sym f ∙ g in absurd (cc)

no_digit_back : (c d : ℕ) → is_ascii_digit c ≡ true → is_ascii_digit d ≡ false → (d == c) ≡ false
no_digit_back c d h g = by (d == c) refl
  where
    by : (b : Bool) → (d == c) ≡ b → b ≡ false
    by false e = refl
    by true e = let f : is_ascii_digit d ≡ true = subst (λ (x : ℕ). is_ascii_digit x ≡ true) (sym (eqb-true d c e)) h in let k : true ≡ false = sym f ∙ g in absurd (cc)

pub number_front : (c : ℕ) (cs : List ℕ) → is_ascii_digit c ≡ true → front_piece c cs ≡ record { kind = pieces.number; text = before (c ∷ cs) (past_number (c ∷ cs)) }
unfolding front_piece
number_front c cs h =
    rw (no_digit c 32 h refl, no_digit c 9 h refl, no_digit c 10 h refl, no_digit_back c 13 h refl, no_digit c 35 h refl, no_digit c 34 h refl, no_digit c 39 h refl, h) refl

reach_number_at : (c : ℕ) (cs after : List ℕ) → is_ascii_digit c ≡ true → length (past_number (c ∷ (cs ++ after))) ≤ length after → Reaches pieces.number (c ∷ cs) (front_piece c (cs ++ after))
reach_number_at c cs after h l =
    subst (λ (p : Piece). Reaches pieces.number (c ∷ cs) p) (sym (number_front c (cs ++ after) h))
    (record {
      len = omega (arith, l, length-append cs after, length-take (length (c ∷ (cs ++ after)) - length (past_number (c ∷ (cs ++ after)))) (c ∷ (cs ++ after)));
      same = λ e. refl;
      good = refl;
    })

pub reach_number : (s after : List ℕ) (parts : Parts) → IsNumber s parts → Reaches pieces.number s (front_of (s ++ after))
reach_number s after parts n = by s parts.whole n.text_is n.whole (number_reach s after parts n)
  where
    by : (s whole : List ℕ) → s ≡ whole ++ (n.fraction_text ++ n.exponent_text) → AreDigits whole → length (past_number (s ++ after)) ≤ length after → Reaches pieces.number s (front_of (s ++ after))
    by s [] e d l = absurd (omega (arith, d.some))
    by [] (w ∷ ws) e d l = absurd (cc)
    by (c ∷ cs) (w ∷ ws) e d l =
        let same : c ≡ w = cc in
        let t = and_true (is_ascii_digit w) (list_all is_ascii_digit ws) d.all in
        reach_number_at c cs after (rw same t.0) l
