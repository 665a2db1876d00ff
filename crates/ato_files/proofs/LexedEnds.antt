-- The lexer's tokens have END last, and no other one.
use Rattle.std.proofs.Common.{◌≡◌, ℕ, zero, suc, ◌+◌, Bool, true, false, List, [], ◌∷◌, ◌++◌, length, map, nat_lt, Option, Some, None, refl, sym, subst, if◌then◌else◌}
use Rattle.std.specs.List.{filter_map, take_while, repeat, cons_option}
use Rattle.std.specs.Str.{is_utf8}
use Rattle.std.specs.Str.Lossy.{utf8_valid_len}
use Rattle.std.proofs.lemmas.List.Elements.{filter_map-append}
use Rattle.ato_base.specs.declared.faults.FaultKind.{FaultKind}
use Rattle.ato_base.specs.declared.faults.FaultKind.TheVariants as faults
use Rattle.ato_base.specs.declared.places.FileId.{FileId}
use Rattle.ato_base.specs.declared.tokens.Token.{Token}
use Rattle.ato_lexer.specs.Pieces as kinds
use Rattle.ato_lexer.specs.Lines.{Placed, Line, logical_lines}
use Rattle.ato_lexer.specs.Layout.{Item, token, newline, indent, dedent, end, fault, is_open, top, left, opened, steps, is_wide_number, token_item, last_end, line_items, laid_out}
use Rattle.ato_lexer.specs.Tokens.{AreTokens, is_good, bad_items, pieces_in, items, kind_of, with_place, item_token, tokens_of, bad_item, bad_kind, first_of, first_fault, fault_at}
use Rattle.ato_parser.specs.Tokens.{Tokens, EndsOnce, is_end, just_end, before_end}

-- no token is END
data NoEnd : Tokens → Type 0 where
  none : NoEnd []
  more : {t : Token} {ts : Tokens} → is_end t.kind ≡ false → NoEnd ts → NoEnd (t ∷ ts)

then_ends : {ts us : Tokens} → NoEnd ts → EndsOnce us → EndsOnce (ts ++ us)
then_ends none ends = ends
then_ends (more other rest) ends = before_end other (then_ends rest ends)

both : {ts us : Tokens} → NoEnd ts → NoEnd us → NoEnd (ts ++ us)
both none b = b
both (more other rest) b = more other (both rest b)

-- ---- where there is no fault, no piece is one

-- no fault stands behind others
behind : (file : FileId) (is js : List Item) → first_of file (is ++ js) ≡ None → first_of file js ≡ None
behind file [] js h = h
behind file (token p ∷ is) js h = behind file is js h
behind file (newline at ∷ is) js h = behind file is js h
behind file (indent at ∷ is) js h = behind file is js h
behind file (dedent at ∷ is) js h = behind file is js h
behind file (end at ∷ is) js h = behind file is js h
behind file (fault k start stop ∷ is) js h = absurd (cc)

-- the first of some items, if there is one, is a fault
data BadFirst : List Item → Type 0 where
  no_bad : BadFirst []
  a_bad : (k : FaultKind) (start stop : ℕ) (is : List Item) → BadFirst (fault k start stop ∷ is)

bad_front : (p : Placed) (k : Option FaultKind) (is : List Item) → BadFirst is → BadFirst (bad_item p k ++ is)
bad_front p None is bad = bad
bad_front p (Some k) is bad = a_bad k p.start p.end is

bad_first : (ps : List Placed) → BadFirst (bad_items ps)
bad_first [] = no_bad
bad_first (p ∷ ps) = bad_front p (bad_kind p.piece.kind) (bad_items ps) (bad_first ps)

laid_bad : (file : FileId) (lines : List Line) (levels : List ℕ) (size : ℕ) (bad : List Item) → first_of file (laid_out levels size bad lines) ≡ None → BadFirst bad → bad ≡ []
unfolding laid_out
laid_bad file [] levels size _ h no_bad = refl
laid_bad file [] levels size _ h (a_bad k start stop is) = absurd (cc)
laid_bad file (line ∷ lines) levels size bad h b =
    laid_bad file lines (opened line.depth levels) size bad (behind file (line_items levels line) (laid_out (opened line.depth levels) size bad lines) h) b

-- no piece of a file without a fault is one
pub none_bad : (file : FileId) (bytes : List ℕ) → first_of file (items bytes) ≡ None → bad_items (pieces_in bytes) ≡ []
unfolding items
none_bad file bytes h = laid_bad file (logical_lines (take_while is_good (pieces_in bytes))) [] (length bytes) (bad_items (pieces_in bytes)) h (bad_first (pieces_in bytes))

-- ---- tokens

module _ (names : List (List ℕ)) (file : FileId) where
  abbrev tokens : List Item → Tokens
  tokens is = filter_map (item_token names file) is

  kinds_no_end : (p : Placed) (k : kinds.Kind) → NoEnd (cons_option (with_place file p (kind_of names file p k)) [])
  kinds_no_end p kinds.name = more refl none
  kinds_no_end p (kinds.keyword w) = more refl none
  kinds_no_end p kinds.number = more refl none
  kinds_no_end p (kinds.string quotes) = more refl none
  kinds_no_end p (kinds.mark m) = more refl none
  kinds_no_end p kinds.blank = none
  kinds_no_end p kinds.comment = none
  kinds_no_end p kinds.line_end = none
  kinds_no_end p kinds.bad_char = none
  kinds_no_end p kinds.open_string = none

  token_no_end : (p : Placed) → NoEnd (tokens (token_item p ∷ []))
  token_no_end p = by (is_wide_number p.piece.kind p.piece.text)
    where
      by : (b : Bool) → NoEnd (tokens ((if b then fault faults.WideNumber p.start p.end else token p) ∷ []))
      by true = none
      by false = kinds_no_end p p.piece.kind

  pieces_no_end : (ps : List Placed) → NoEnd (tokens (map token_item ps))
  pieces_no_end [] = none
  pieces_no_end (p ∷ ps) =
      subst NoEnd (sym (filter_map-append (item_token names file) (token_item p ∷ []) (map token_item ps))) (both (token_no_end p) (pieces_no_end ps))

  dedents_no_end : (n at : ℕ) → NoEnd (tokens (repeat n (dedent at ∷ [])))
  dedents_no_end zero at = none
  dedents_no_end (suc n) at = more refl (dedents_no_end n at)

  steps_no_end : (depth : ℕ) (first : Placed) (levels : List ℕ) → NoEnd (tokens (steps depth first levels))
  steps_no_end depth first levels = by (nat_lt (top levels) depth) (is_open depth levels)
    where
      by : (a b : Bool) → NoEnd (tokens (if a then indent first.start ∷ [] else (if b then repeat (left depth levels) (dedent first.start ∷ []) else fault faults.BadIndent first.start first.end ∷ [])))
      by true b = more refl none
      by false true = dedents_no_end (left depth levels) first.start
      by false false = none

  line_no_end : (levels : List ℕ) (line : Line) → NoEnd (tokens (line_items levels line))
  line_no_end levels line =
      let ts : List Item = map token_item (line.first ∷ line.others) in
      let last : List Item = newline (last_end line.first.end line.others) ∷ [] in
      subst NoEnd (sym (filter_map-append (item_token names file) (steps line.depth line.first levels) (ts ++ last)))
      (both (steps_no_end line.depth line.first levels)
      (subst NoEnd (sym (filter_map-append (item_token names file) ts last)) (both (pieces_no_end (line.first ∷ line.others)) (more refl none))))

  laid_ends : (lines : List Line) (levels : List ℕ) (size : ℕ) → EndsOnce (tokens (laid_out levels size [] lines))
  unfolding laid_out
  laid_ends [] levels size =
      subst EndsOnce (sym (filter_map-append (item_token names file) (repeat (length levels) (dedent size ∷ [])) (end size ∷ [])))
      (then_ends (dedents_no_end (length levels) size) (just_end (record { file = file; start = size; end = size })))
  laid_ends (line ∷ lines) levels size =
      subst EndsOnce (sym (filter_map-append (item_token names file) (line_items levels line) (laid_out (opened line.depth levels) size [] lines)))
      (then_ends (line_no_end levels line) (laid_ends lines (opened line.depth levels) size))

  items_end : (bytes : List ℕ) → first_of file (items bytes) ≡ None → EndsOnce (tokens_of names file bytes)
  unfolding items
  items_end bytes h =
      let lines : List Line = logical_lines (take_while is_good (pieces_in bytes)) in
      let good = none_bad file bytes h in
      subst (λ (bad : List Item). EndsOnce (tokens (laid_out [] (length bytes) bad lines))) (sym good) (laid_ends lines [] (length bytes))

  found_end : (bytes : List ℕ) → first_fault file bytes ≡ None → EndsOnce (tokens_of names file bytes)
  unfolding first_fault
  found_end bytes h = by (is_utf8 bytes) h
    where
      by : (b : Bool) → (if b then first_of file (items bytes) else Some (fault_at file faults.BadText (utf8_valid_len bytes) (utf8_valid_len bytes + 1))) ≡ None → EndsOnce (tokens_of names file bytes)
      by true g = items_end bytes g
      by false g = absurd (cc)

pub lexed_ends : (bytes : List ℕ) (file : FileId) (old new : List (List ℕ)) (tokens : Tokens) → AreTokens bytes file old new tokens → EndsOnce tokens
lexed_ends bytes file old new tokens are = subst EndsOnce (sym are.tokens_are) (found_end new file bytes are.no_fault)
