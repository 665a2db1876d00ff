-- A scan over the pieces of a text puts what stands before, in and behind its logical lines.
use Rattle.std.proofs.Common.{◌≡◌, ℕ, Bool, true, false, not, ◌==◌, ◌&&◌, cond, List, [], ◌∷◌, ◌++◌, map, length, refl, sym, ap, ◌∙◌, append_assoc}
use Rattle.std.specs.Prelude.{if◌then◌else◌}
use Rattle.std.specs.List.{filter, flat_map, fold, take_while, onto_first}
use Rattle.std.proofs.lemmas.List.Sums.{take_while-cons}
use Rattle.ato_lexer.specs.Pieces.{Kind, is_bad, blank, comment, line_end, name, keyword, number, string, mark, bad_char, open_string}
use Rattle.ato_lexer.specs.Lines.{Placed, Line, is_line_end, is_blank, is_token, open_after, parted, column_after, line_of, logical_lines}
use Rattle.ato_lexer.specs.Layout.{Item, newline, steps, opened, token_item, last_end, last_items, laid_out}
use Rattle.ato_lexer.specs.Tokens.{bad_kind, is_good, bad_item, bad_items, pieces_in, items}
use Rattle.ato_lexer.specs.declared.scanning.Standing.{Standing}
use Rattle.ato_lexer.specs.declared.scanning.Standing.TheVariants.{Between, Within}
use Rattle.ato_lexer.specs.Walks.{put, standing_after, levels_after, closing, scan}

-- ---- a walk over pieces of which none is a fault by its kind

-- what they put, and behind them the end of a text of so many bytes
walk : ℕ → List Item → List ℕ → Standing → List Placed → List Item
walk size bad levels (Between column) [] = last_items levels size bad
walk size bad levels (Within brackets last) [] = newline last ∷ last_items levels size bad
walk size bad levels (Between column) (p ∷ ps) =
    if is_line_end p.piece.kind then walk size bad levels (Between 0) ps
    else (if is_blank p.piece.kind then walk size bad levels (Between (fold column_after column p.piece.text)) ps
    else steps column p levels ++ (token_item p ∷ walk size bad (opened column levels) (Within (open_after p.piece.kind 0) p.end) ps))
walk size bad levels (Within brackets last) (p ∷ ps) =
    if is_line_end p.piece.kind && (brackets == 0) then newline last ∷ walk size bad levels (Between 0) ps
    else (if is_blank p.piece.kind then walk size bad levels (Within brackets last) ps
    else token_item p ∷ walk size bad levels (Within (open_after p.piece.kind brackets) p.end) ps)

-- ---- parts

-- the first of some parts, and the others
first_part : List (List Placed) → List Placed
first_part [] = []
first_part (part ∷ parts) = part

other_parts : List (List Placed) → List (List Placed)
other_parts [] = []
other_parts (part ∷ parts) = parts

first-onto : (p : Placed) (parts : List (List Placed)) → first_part (onto_first p parts) ≡ p ∷ first_part parts
unfolding first_part
first-onto p [] = refl
first-onto p (part ∷ parts) = refl

other-onto : (p : Placed) (parts : List (List Placed)) → other_parts (onto_first p parts) ≡ other_parts parts
unfolding other_parts
other-onto p [] = refl
other-onto p (part ∷ parts) = refl

-- the tokens among pieces
abbrev tokens_in : List Placed → List Placed
tokens_in ps = filter (λ p. is_token p.piece.kind) ps

-- the pieces in front that are blank
abbrev blanks_in : List Placed → List Placed
blanks_in ps = take_while (λ p. is_blank p.piece.kind) ps

abbrev chars_in : List Placed → List ℕ
chars_in ps = flat_map (λ p. p.piece.text) ps

-- the line that a part is, where its blanks in front begin at a column
abbrev line_at : ℕ → List Placed → List Line
line_at column part = line_of (fold column_after column (chars_in (blanks_in part))) (tokens_in part)

abbrev lines_in : List (List Placed) → List Line
lines_in parts = flat_map (line_at 0) parts

lines-first : (parts : List (List Placed)) → lines_in parts ≡ line_at 0 (first_part parts) ++ lines_in (other_parts parts)
unfolding first_part other_parts
lines-first [] = refl
lines-first (part ∷ parts) = refl

blank_opens : (k : Kind) (brackets : ℕ) → is_blank k ≡ true → open_after k brackets ≡ brackets
blank_opens blank brackets h = refl
blank_opens comment brackets h = refl
blank_opens line_end brackets h = refl
blank_opens name brackets h = refl
blank_opens (keyword k) brackets h = refl
blank_opens number brackets h = refl
blank_opens (string quotes) brackets h = refl
blank_opens (mark m) brackets h = let bad : ⊥ = cc in absurd bad
blank_opens bad_char brackets h = refl
blank_opens open_string brackets h = refl

and_true : (b : Bool) → (b && true) ≡ b
and_true true = refl
and_true false = refl

-- ---- a part with one more piece

fold-append : {A B : Type 0} (f : B → A → B) (b : B) (xs ys : List A) → fold f b (xs ++ ys) ≡ fold f (fold f b xs) ys
fold-append f b [] ys = refl
fold-append f b (x ∷ xs) ys = fold-append f (f b x) xs ys

tokens-blank : (p : Placed) (part : List Placed) → is_blank p.piece.kind ≡ true → tokens_in (p ∷ part) ≡ tokens_in part
tokens-blank p part h = ap (λ b. cond (not b) (p ∷ tokens_in part) (tokens_in part)) h

tokens-token : (p : Placed) (part : List Placed) → is_blank p.piece.kind ≡ false → tokens_in (p ∷ part) ≡ p ∷ tokens_in part
tokens-token p part h = ap (λ b. cond (not b) (p ∷ tokens_in part) (tokens_in part)) h

line_at-blank : (column : ℕ) (p : Placed) (part : List Placed) → is_blank p.piece.kind ≡ true → line_at column (p ∷ part) ≡ line_at (fold column_after column p.piece.text) part
line_at-blank column p part h =
    let front : blanks_in (p ∷ part) ≡ p ∷ blanks_in part = take_while-cons (λ q. is_blank q.piece.kind) p part ∙ ap (λ b. cond b (p ∷ blanks_in part) []) h in
    ap (λ f. line_of (fold column_after column (chars_in f)) (tokens_in (p ∷ part))) front
    ∙ ap (λ n. line_of n (tokens_in (p ∷ part))) (fold-append column_after column p.piece.text (chars_in (blanks_in part)))
    ∙ ap (line_of (fold column_after (fold column_after column p.piece.text) (chars_in (blanks_in part)))) (tokens-blank p part h)

line_at-token : (column : ℕ) (p : Placed) (part : List Placed) → is_blank p.piece.kind ≡ false → line_at column (p ∷ part) ≡ record { depth = column; first = p; others = tokens_in part } ∷ []
line_at-token column p part h =
    let front : blanks_in (p ∷ part) ≡ [] = take_while-cons (λ q. is_blank q.piece.kind) p part ∙ ap (λ b. cond b (p ∷ blanks_in part) []) h in
    ap (λ f. line_of (fold column_after column (chars_in f)) (tokens_in (p ∷ part))) front
    ∙ ap (line_of column) (tokens-token p part h)

module _ (size : ℕ) (bad : List Item) (levels : List ℕ) (p : Placed) (ps : List Placed) where
  walk-between_end : (column : ℕ) → is_line_end p.piece.kind ≡ true → walk size bad levels (Between column) (p ∷ ps) ≡ walk size bad levels (Between 0) ps
  unfolding walk
  walk-between_end column h =
      ap (λ e. if e then walk size bad levels (Between 0) ps
      else (if is_blank p.piece.kind then walk size bad levels (Between (fold column_after column p.piece.text)) ps
      else steps column p levels ++ (token_item p ∷ walk size bad (opened column levels) (Within (open_after p.piece.kind 0) p.end) ps))) h

  walk-between_blank : (column : ℕ) → is_line_end p.piece.kind ≡ false → is_blank p.piece.kind ≡ true
      → walk size bad levels (Between column) (p ∷ ps) ≡ walk size bad levels (Between (fold column_after column p.piece.text)) ps
  unfolding walk
  walk-between_blank column h k =
      ap (λ e. if e then walk size bad levels (Between 0) ps
      else (if is_blank p.piece.kind then walk size bad levels (Between (fold column_after column p.piece.text)) ps
      else steps column p levels ++ (token_item p ∷ walk size bad (opened column levels) (Within (open_after p.piece.kind 0) p.end) ps))) h
      ∙ ap (λ b. if b then walk size bad levels (Between (fold column_after column p.piece.text)) ps
      else steps column p levels ++ (token_item p ∷ walk size bad (opened column levels) (Within (open_after p.piece.kind 0) p.end) ps)) k

  walk-between_token : (column : ℕ) → is_line_end p.piece.kind ≡ false → is_blank p.piece.kind ≡ false
      → walk size bad levels (Between column) (p ∷ ps) ≡ steps column p levels ++ (token_item p ∷ walk size bad (opened column levels) (Within (open_after p.piece.kind 0) p.end) ps)
  unfolding walk
  walk-between_token column h k =
      ap (λ e. if e then walk size bad levels (Between 0) ps
      else (if is_blank p.piece.kind then walk size bad levels (Between (fold column_after column p.piece.text)) ps
      else steps column p levels ++ (token_item p ∷ walk size bad (opened column levels) (Within (open_after p.piece.kind 0) p.end) ps))) h
      ∙ ap (λ b. if b then walk size bad levels (Between (fold column_after column p.piece.text)) ps
      else steps column p levels ++ (token_item p ∷ walk size bad (opened column levels) (Within (open_after p.piece.kind 0) p.end) ps)) k

  walk-within_end : (brackets last : ℕ) → (is_line_end p.piece.kind && (brackets == 0)) ≡ true
      → walk size bad levels (Within brackets last) (p ∷ ps) ≡ newline last ∷ walk size bad levels (Between 0) ps
  unfolding walk
  walk-within_end brackets last h =
      ap (λ e. if e then newline last ∷ walk size bad levels (Between 0) ps
      else (if is_blank p.piece.kind then walk size bad levels (Within brackets last) ps
      else token_item p ∷ walk size bad levels (Within (open_after p.piece.kind brackets) p.end) ps)) h

  walk-within_blank : (brackets last : ℕ) → (is_line_end p.piece.kind && (brackets == 0)) ≡ false → is_blank p.piece.kind ≡ true
      → walk size bad levels (Within brackets last) (p ∷ ps) ≡ walk size bad levels (Within brackets last) ps
  unfolding walk
  walk-within_blank brackets last h k =
      ap (λ e. if e then newline last ∷ walk size bad levels (Between 0) ps
      else (if is_blank p.piece.kind then walk size bad levels (Within brackets last) ps
      else token_item p ∷ walk size bad levels (Within (open_after p.piece.kind brackets) p.end) ps)) h
      ∙ ap (λ b. if b then walk size bad levels (Within brackets last) ps
      else token_item p ∷ walk size bad levels (Within (open_after p.piece.kind brackets) p.end) ps) k

  walk-within_token : (brackets last : ℕ) → (is_line_end p.piece.kind && (brackets == 0)) ≡ false → is_blank p.piece.kind ≡ false
      → walk size bad levels (Within brackets last) (p ∷ ps) ≡ token_item p ∷ walk size bad levels (Within (open_after p.piece.kind brackets) p.end) ps
  unfolding walk
  walk-within_token brackets last h k =
      ap (λ e. if e then newline last ∷ walk size bad levels (Between 0) ps
      else (if is_blank p.piece.kind then walk size bad levels (Within brackets last) ps
      else token_item p ∷ walk size bad levels (Within (open_after p.piece.kind brackets) p.end) ps)) h
      ∙ ap (λ b. if b then walk size bad levels (Within brackets last) ps
      else token_item p ∷ walk size bad levels (Within (open_after p.piece.kind brackets) p.end) ps) k

parted-end : (brackets : ℕ) (p : Placed) (ps : List Placed) → (is_line_end p.piece.kind && (brackets == 0)) ≡ true → parted brackets (p ∷ ps) ≡ [] ∷ parted 0 ps
parted-end brackets p ps h = ap (λ e. if e then [] ∷ parted 0 ps else onto_first p (parted (open_after p.piece.kind brackets) ps)) h

parted-more : (brackets : ℕ) (p : Placed) (ps : List Placed) → (is_line_end p.piece.kind && (brackets == 0)) ≡ false
    → parted brackets (p ∷ ps) ≡ onto_first p (parted (open_after p.piece.kind brackets) ps)
parted-more brackets p ps h = ap (λ e. if e then [] ∷ parted 0 ps else onto_first p (parted (open_after p.piece.kind brackets) ps)) h

-- ---- the items of a line, and of those behind it

module _ (size : ℕ) (bad : List Item) (levels : List ℕ) where
  -- a line of these tokens behind one that ends here, and the lines of these parts
  abbrev tokens_then : ℕ → List Placed → List (List Placed) → List Item
  tokens_then last tokens parts = map token_item tokens ++ (newline (last_end last tokens) ∷ laid_out levels size bad (lines_in parts))

  -- what the first part has of a line, and the lines of the others
  abbrev rest_of_line : ℕ → List (List Placed) → List Item
  rest_of_line last parts = tokens_then last (tokens_in (first_part parts)) (other_parts parts)

  -- the lines of parts, where the blanks in front of the first begin at a column
  abbrev lines_from : ℕ → List (List Placed) → List Item
  lines_from column parts = laid_out levels size bad (line_at column (first_part parts) ++ lines_in (other_parts parts))

  lines-none : (column : ℕ) (parts : List (List Placed)) → lines_from column ([] ∷ parts) ≡ lines_from 0 parts
  unfolding first_part other_parts
  lines-none column parts = ap (laid_out levels size bad) (lines-first parts)

  lines-onto : (column : ℕ) (p : Placed) (parts : List (List Placed)) → lines_from column (onto_first p parts) ≡ laid_out levels size bad (line_at column (p ∷ first_part parts) ++ lines_in (other_parts parts))
  lines-onto column p parts =
      ap (λ f. laid_out levels size bad (line_at column f ++ lines_in (other_parts (onto_first p parts)))) (first-onto p parts)
      ∙ ap (λ o. laid_out levels size bad (line_at column (p ∷ first_part parts) ++ lines_in o)) (other-onto p parts)

  lines-blank : (column : ℕ) (p : Placed) (parts : List (List Placed)) → is_blank p.piece.kind ≡ true → lines_from column (onto_first p parts) ≡ lines_from (fold column_after column p.piece.text) parts
  lines-blank column p parts h =
      lines-onto column p parts ∙ ap (λ l. laid_out levels size bad (l ++ lines_in (other_parts parts))) (line_at-blank column p (first_part parts) h)

  rest-none : (last : ℕ) (parts : List (List Placed)) → rest_of_line last ([] ∷ parts) ≡ newline last ∷ lines_from 0 parts
  unfolding first_part other_parts
  rest-none last parts = ap (λ l. newline last ∷ laid_out levels size bad l) (lines-first parts)

  rest-onto : (last : ℕ) (p : Placed) (parts : List (List Placed)) → rest_of_line last (onto_first p parts) ≡ tokens_then last (tokens_in (p ∷ first_part parts)) (other_parts parts)
  rest-onto last p parts =
      ap (λ f. tokens_then last (tokens_in f) (other_parts (onto_first p parts))) (first-onto p parts)
      ∙ ap (tokens_then last (tokens_in (p ∷ first_part parts))) (other-onto p parts)

  rest-blank : (last : ℕ) (p : Placed) (parts : List (List Placed)) → is_blank p.piece.kind ≡ true → rest_of_line last (onto_first p parts) ≡ rest_of_line last parts
  rest-blank last p parts h = rest-onto last p parts ∙ ap (λ t. tokens_then last t (other_parts parts)) (tokens-blank p (first_part parts) h)

  rest-token : (last : ℕ) (p : Placed) (parts : List (List Placed)) → is_blank p.piece.kind ≡ false → rest_of_line last (onto_first p parts) ≡ token_item p ∷ rest_of_line p.end parts
  rest-token last p parts h = rest-onto last p parts ∙ ap (λ t. tokens_then last t (other_parts parts)) (tokens-token p (first_part parts) h)

-- a line that begins with a token
lines-token : (size : ℕ) (bad : List Item) (levels : List ℕ) (column : ℕ) (p : Placed) (parts : List (List Placed)) → is_blank p.piece.kind ≡ false
    → lines_from size bad levels column (onto_first p parts) ≡ steps column p levels ++ (token_item p ∷ rest_of_line size bad (opened column levels) p.end parts)
unfolding laid_out
lines-token size bad levels column p parts h =
    let tokens = tokens_in (first_part parts) in
    let more = laid_out (opened column levels) size bad (lines_in (other_parts parts)) in
    lines-onto size bad levels column p parts
    ∙ ap (λ l. laid_out levels size bad (l ++ lines_in (other_parts parts))) (line_at-token column p (first_part parts) h)
    ∙ append_assoc (steps column p levels) (map token_item (p ∷ tokens) ++ newline (last_end p.end tokens) ∷ []) more
    ∙ ap (λ l. steps column p levels ++ l) (append_assoc (map token_item (p ∷ tokens)) (newline (last_end p.end tokens) ∷ []) more)

-- ---- the walk

-- a walk puts what the lines of these pieces put, wherever it stands
record IsWalked (size : ℕ) (bad : List Item) (ps : List Placed) : Type 0 where
  between_is : (levels : List ℕ) (column : ℕ) → walk size bad levels (Between column) ps ≡ lines_from size bad levels column (parted 0 ps)
  within_is : (levels : List ℕ) (brackets last : ℕ) → walk size bad levels (Within brackets last) ps ≡ rest_of_line size bad levels last (parted brackets ps)

module _ (size : ℕ) (bad : List Item) (p : Placed) (ps : List Placed) (h : IsWalked size bad ps) where
  between_step : (levels : List ℕ) (column : ℕ) (e b : Bool) → is_line_end p.piece.kind ≡ e → is_blank p.piece.kind ≡ b
      → walk size bad levels (Between column) (p ∷ ps) ≡ lines_from size bad levels column (parted 0 (p ∷ ps))
  between_step levels column true b he hb =
      walk-between_end size bad levels p ps column he
      ∙ h.between_is levels 0
      ∙ sym (lines-none size bad levels column (parted 0 ps))
      ∙ ap (lines_from size bad levels column) (sym (parted-end 0 p ps (ap (λ x. x && true) he)))
  between_step levels column false true he hb =
      walk-between_blank size bad levels p ps column he hb
      ∙ h.between_is levels (fold column_after column p.piece.text)
      ∙ sym (lines-blank size bad levels column p (parted 0 ps) hb)
      ∙ ap (lines_from size bad levels column)
      (sym (parted-more 0 p ps (ap (λ x. x && true) he) ∙ ap (λ n. onto_first p (parted n ps)) (blank_opens p.piece.kind 0 hb)))
  between_step levels column false false he hb =
      walk-between_token size bad levels p ps column he hb
      ∙ ap (λ t. steps column p levels ++ (token_item p ∷ t)) (h.within_is (opened column levels) (open_after p.piece.kind 0) p.end)
      ∙ sym (lines-token size bad levels column p (parted (open_after p.piece.kind 0) ps) hb)
      ∙ ap (lines_from size bad levels column) (sym (parted-more 0 p ps (ap (λ x. x && true) he)))

  within_step : (levels : List ℕ) (brackets last : ℕ) (e b : Bool) → (is_line_end p.piece.kind && (brackets == 0)) ≡ e → is_blank p.piece.kind ≡ b
      → walk size bad levels (Within brackets last) (p ∷ ps) ≡ rest_of_line size bad levels last (parted brackets (p ∷ ps))
  within_step levels brackets last true b he hb =
      walk-within_end size bad levels p ps brackets last he
      ∙ ap (λ t. newline last ∷ t) (h.between_is levels 0)
      ∙ sym (rest-none size bad levels last (parted 0 ps))
      ∙ ap (rest_of_line size bad levels last) (sym (parted-end brackets p ps he))
  within_step levels brackets last false true he hb =
      walk-within_blank size bad levels p ps brackets last he hb
      ∙ h.within_is levels brackets last
      ∙ sym (rest-blank size bad levels last p (parted brackets ps) hb)
      ∙ ap (rest_of_line size bad levels last)
      (sym (parted-more brackets p ps he ∙ ap (λ n. onto_first p (parted n ps)) (blank_opens p.piece.kind brackets hb)))
  within_step levels brackets last false false he hb =
      walk-within_token size bad levels p ps brackets last he hb
      ∙ ap (λ t. token_item p ∷ t) (h.within_is levels (open_after p.piece.kind brackets) p.end)
      ∙ sym (rest-token size bad levels last p (parted (open_after p.piece.kind brackets) ps) hb)
      ∙ ap (rest_of_line size bad levels last) (sym (parted-more brackets p ps he))

  walked_more : IsWalked size bad (p ∷ ps)
  walked_more = record {
    between_is = λ levels column. between_step levels column (is_line_end p.piece.kind) (is_blank p.piece.kind) refl refl;
    within_is = λ levels brackets last. within_step levels brackets last (is_line_end p.piece.kind && (brackets == 0)) (is_blank p.piece.kind) refl refl;
  }

no_piece_walked : (size : ℕ) (bad : List Item) → IsWalked size bad []
unfolding walk laid_out first_part other_parts
no_piece_walked size bad = record { between_is = λ levels column. refl; within_is = λ levels brackets last. refl }

walked : (size : ℕ) (bad : List Item) (ps : List Placed) → IsWalked size bad ps
walked size bad [] = no_piece_walked size bad
walked size bad (p ∷ ps) = walked_more size bad p ps (walked size bad ps)

-- A walk from the start of a text puts what its logical lines put.
walk_is_lines : (size : ℕ) (bad : List Item) (levels : List ℕ) (ps : List Placed) → walk size bad levels (Between 0) ps ≡ laid_out levels size bad (logical_lines ps)
unfolding logical_lines
walk_is_lines size bad levels ps = (walked size bad ps).between_is levels 0 ∙ ap (laid_out levels size bad) (sym (lines-first (parted 0 ps)))

-- ---- the scan over all pieces

line_end_blank : (k : Kind) → is_line_end k ≡ true → is_blank k ≡ true
line_end_blank line_end h = refl
line_end_blank blank h = refl
line_end_blank comment h = refl
line_end_blank name h = let bad : ⊥ = cc in absurd bad
line_end_blank (keyword k) h = let bad : ⊥ = cc in absurd bad
line_end_blank number h = let bad : ⊥ = cc in absurd bad
line_end_blank (string quotes) h = let bad : ⊥ = cc in absurd bad
line_end_blank (mark m) h = let bad : ⊥ = cc in absurd bad
line_end_blank bad_char h = let bad : ⊥ = cc in absurd bad
line_end_blank open_string h = let bad : ⊥ = cc in absurd bad

module _ (size : ℕ) (bad : List Item) (levels : List ℕ) (p : Placed) (ps : List Placed) where
  between_put : (column : ℕ) (e b : Bool) → is_line_end p.piece.kind ≡ e → is_blank p.piece.kind ≡ b
      → walk size bad levels (Between column) (p ∷ ps) ≡ put levels (Between column) p ++ walk size bad (levels_after levels (Between column) p) (standing_after (Between column) p) ps
  between_put column true b he hb =
      let blank_too = line_end_blank p.piece.kind he in
      walk-between_end size bad levels p ps column he
      ∙ sym (rw he (rw blank_too refl))
  between_put column false true he hb = walk-between_blank size bad levels p ps column he hb ∙ sym (rw he (rw hb refl))
  between_put column false false he hb =
      walk-between_token size bad levels p ps column he hb
      ∙ sym (append_assoc (steps column p levels) (token_item p ∷ []) (walk size bad (opened column levels) (Within (open_after p.piece.kind 0) p.end) ps))
      ∙ sym (rw he (rw hb refl))

  within_put : (brackets last : ℕ) (e b : Bool) → (is_line_end p.piece.kind && (brackets == 0)) ≡ e → is_blank p.piece.kind ≡ b
      → walk size bad levels (Within brackets last) (p ∷ ps) ≡ put levels (Within brackets last) p ++ walk size bad levels (standing_after (Within brackets last) p) ps
  within_put brackets last true b he hb = walk-within_end size bad levels p ps brackets last he ∙ sym (rw he refl)
  within_put brackets last false true he hb = walk-within_blank size bad levels p ps brackets last he hb ∙ sym (rw he (rw hb refl))
  within_put brackets last false false he hb = walk-within_token size bad levels p ps brackets last he hb ∙ sym (rw he (rw hb refl))

  walk_put : (standing : Standing)
      → walk size bad levels standing (p ∷ ps) ≡ put levels standing p ++ walk size bad (levels_after levels standing p) (standing_after standing p) ps
  walk_put (Between column) = between_put column (is_line_end p.piece.kind) (is_blank p.piece.kind) refl refl
  walk_put (Within brackets last) = within_put brackets last (is_line_end p.piece.kind && (brackets == 0)) (is_blank p.piece.kind) refl refl

walk_none : (size : ℕ) (bad : List Item) (levels : List ℕ) (standing : Standing) → walk size bad levels standing [] ≡ closing standing ++ last_items levels size bad
unfolding walk
walk_none size bad levels (Between column) = refl
walk_none size bad levels (Within brackets last) = refl

-- a piece that is a fault by its kind is the one that ends a text
last-bad : (levels : List ℕ) (size : ℕ) (p : Placed) (ps : List Placed) (k : Kind) → is_bad k ≡ true → last_items levels size (bad_item p (bad_kind k) ++ bad_items ps) ≡ bad_item p (bad_kind k)
last-bad levels size p ps bad_char h = refl
last-bad levels size p ps open_string h = refl
last-bad levels size p ps blank h = let bad : ⊥ = cc in absurd bad
last-bad levels size p ps comment h = let bad : ⊥ = cc in absurd bad
last-bad levels size p ps line_end h = let bad : ⊥ = cc in absurd bad
last-bad levels size p ps name h = let bad : ⊥ = cc in absurd bad
last-bad levels size p ps (keyword k) h = let bad : ⊥ = cc in absurd bad
last-bad levels size p ps number h = let bad : ⊥ = cc in absurd bad
last-bad levels size p ps (string quotes) h = let bad : ⊥ = cc in absurd bad
last-bad levels size p ps (mark m) h = let bad : ⊥ = cc in absurd bad

good-item : (p : Placed) (k : Kind) → is_bad k ≡ false → bad_item p (bad_kind k) ≡ []
good-item p bad_char h = let bad : ⊥ = cc in absurd bad
good-item p open_string h = let bad : ⊥ = cc in absurd bad
good-item p blank h = refl
good-item p comment h = refl
good-item p line_end h = refl
good-item p name h = refl
good-item p (keyword k) h = refl
good-item p number h = refl
good-item p (string quotes) h = refl
good-item p (mark m) h = refl

-- the pieces before the first that is a fault by its kind
abbrev good_in : List Placed → List Placed
good_in ps = take_while is_good ps

scan_step : (size : ℕ) (levels : List ℕ) (standing : Standing) (p : Placed) (ps : List Placed) (b : Bool) → is_bad p.piece.kind ≡ b
    → ((after : List ℕ) (behind : Standing) → scan size after behind ps ≡ walk size (bad_items ps) after behind (good_in ps))
    → scan size levels standing (p ∷ ps) ≡ walk size (bad_items (p ∷ ps)) levels standing (good_in (p ∷ ps))
unfolding scan
scan_step size levels standing p ps true h more =
    let none : good_in (p ∷ ps) ≡ [] = take_while-cons is_good p ps ∙ ap (λ b. cond (not b) (p ∷ good_in ps) []) h in
    ap (λ b. if b then closing standing ++ bad_item p (bad_kind p.piece.kind) else put levels standing p ++ scan size (levels_after levels standing p) (standing_after standing p) ps) h
    ∙ ap (λ l. closing standing ++ l) (sym (last-bad levels size p ps p.piece.kind h))
    ∙ sym (walk_none size (bad_items (p ∷ ps)) levels standing)
    ∙ ap (walk size (bad_items (p ∷ ps)) levels standing) (sym none)
scan_step size levels standing p ps false h more =
    let front : good_in (p ∷ ps) ≡ p ∷ good_in ps = take_while-cons is_good p ps ∙ ap (λ b. cond (not b) (p ∷ good_in ps) []) h in
    let bads : bad_items (p ∷ ps) ≡ bad_items ps = ap (λ l. l ++ bad_items ps) (good-item p p.piece.kind h) in
    ap (λ b. if b then closing standing ++ bad_item p (bad_kind p.piece.kind) else put levels standing p ++ scan size (levels_after levels standing p) (standing_after standing p) ps) h
    ∙ ap (λ l. put levels standing p ++ l) (more (levels_after levels standing p) (standing_after standing p))
    ∙ sym (walk_put size (bad_items ps) levels p (good_in ps) standing)
    ∙ ap (λ l. walk size l levels standing (p ∷ good_in ps)) (sym bads)
    ∙ ap (walk size (bad_items (p ∷ ps)) levels standing) (sym front)

scan_walks : (size : ℕ) (levels : List ℕ) (standing : Standing) (ps : List Placed) → scan size levels standing ps ≡ walk size (bad_items ps) levels standing (good_in ps)
unfolding scan
scan_walks size levels standing [] = sym (walk_none size [] levels standing)
scan_walks size levels standing (p ∷ ps) = scan_step size levels standing p ps (is_bad p.piece.kind) refl (λ after behind. scan_walks size after behind ps)

-- A scan over the pieces of a file, from its start and without open levels, puts what stands in the file.
pub items_scanned : (bytes : List ℕ) → items bytes ≡ scan (length bytes) [] (Between 0) (pieces_in bytes)
unfolding items
items_scanned bytes =
    sym (walk_is_lines (length bytes) (bad_items (pieces_in bytes)) [] (good_in (pieces_in bytes)))
    ∙ sym (scan_walks (length bytes) [] (Between 0) (pieces_in bytes))
