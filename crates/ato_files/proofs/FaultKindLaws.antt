-- No fault inside a file is that it is missing.
use Rattle.std.proofs.Common.{◌≡◌, ℕ, zero, suc, ◌+◌, Bool, true, false, ◌&&◌, not, nat_lt, List, [], ◌∷◌, ◌++◌, length, map, Some, refl, sym, ap, ◌∙◌, if◌then◌else◌}
use Rattle.std.specs.List.{list_all, take_while, repeat}
use Rattle.std.specs.Str.{is_utf8}
use Rattle.std.specs.Str.Lossy.{utf8_valid_len}
use Rattle.std.proofs.lemmas.List.Folds.{list_all-append}
use Rattle.ato_base.specs.declared.faults.Fault.{Fault}
use Rattle.ato_base.specs.declared.faults.FaultKind.{FaultKind}
use Rattle.ato_base.specs.declared.faults.FaultKind.TheVariants as faults
use Rattle.ato_base.specs.declared.places.FileId.{FileId}
use Rattle.ato_lexer.specs.Pieces.{Kind}
use Rattle.ato_lexer.specs.Pieces as kinds
use Rattle.ato_lexer.specs.Lines.{Placed, Line, logical_lines}
use Rattle.ato_lexer.specs.Layout.{Item, token, newline, indent, dedent, end, fault, is_open, top, left, opened, steps, is_wide_number, token_item, last_end, line_items, last_items, laid_out}
use Rattle.ato_lexer.specs.Tokens.{is_good, bad_items, bad_item, bad_kind, pieces_in, items, first_of, first_fault, fault_at}
use Rattle.ato_parser.specs.Tokens.{Tokens}
use Rattle.ato_parser.specs.Faults as parser
use Rattle.ato_files.specs.Walks.{no_tokens, no_tree, HasNoNext, has_none, has_many}

abbrev is_missing : FaultKind → Bool
is_missing faults.FileMissing = true
is_missing _ = false

-- an item is no such fault
abbrev is_fine : Item → Bool
is_fine (fault k start stop) = not (is_missing k)
is_fine _ = true

both : (is js : List Item) → list_all is_fine is ≡ true → list_all is_fine js ≡ true → list_all is_fine (is ++ js) ≡ true
both is js a b = list_all-append is_fine is js ∙ (rw (a, b) refl)

-- ---- what the lexer finds

bad_fine : (p : Placed) (k : Kind) → list_all is_fine (bad_item p (bad_kind k)) ≡ true
bad_fine p kinds.blank = refl
bad_fine p kinds.comment = refl
bad_fine p kinds.line_end = refl
bad_fine p kinds.name = refl
bad_fine p (kinds.keyword w) = refl
bad_fine p kinds.number = refl
bad_fine p (kinds.string n) = refl
bad_fine p (kinds.mark m) = refl
bad_fine p kinds.bad_char = refl
bad_fine p kinds.open_string = refl

bads_fine : (ps : List Placed) → list_all is_fine (bad_items ps) ≡ true
bads_fine [] = refl
bads_fine (p ∷ ps) = both (bad_item p (bad_kind p.piece.kind)) (bad_items ps) (bad_fine p p.piece.kind) (bads_fine ps)

dedents_fine : (n at : ℕ) → list_all is_fine (repeat n (dedent at ∷ [])) ≡ true
dedents_fine zero at = refl
dedents_fine (suc n) at = dedents_fine n at

steps_fine : (depth : ℕ) (first : Placed) (levels : List ℕ) → list_all is_fine (steps depth first levels) ≡ true
steps_fine depth first levels = by (nat_lt (top levels) depth) (is_open depth levels)
  where
    by : (a b : Bool) → list_all is_fine (if a then indent first.start ∷ [] else (if b then repeat (left depth levels) (dedent first.start ∷ []) else fault faults.BadIndent first.start first.end ∷ [])) ≡ true
    by true b = refl
    by false true = dedents_fine (left depth levels) first.start
    by false false = refl

token_fine : (p : Placed) → is_fine (token_item p) ≡ true
token_fine p = by (is_wide_number p.piece.kind p.piece.text)
  where
    by : (b : Bool) → is_fine (if b then fault faults.WideNumber p.start p.end else token p) ≡ true
    by true = refl
    by false = refl

tokens_fine : (ps : List Placed) → list_all is_fine (map token_item ps) ≡ true
tokens_fine [] = refl
tokens_fine (p ∷ ps) = rw (token_fine p, tokens_fine ps) refl

line_fine : (levels : List ℕ) (line : Line) → list_all is_fine (line_items levels line) ≡ true
line_fine levels line =
    let last : List Item = newline (last_end line.first.end line.others) ∷ [] in
    both (steps line.depth line.first levels) (map token_item (line.first ∷ line.others) ++ last) (steps_fine line.depth line.first levels)
    (both (map token_item (line.first ∷ line.others)) last (tokens_fine (line.first ∷ line.others)) refl)

and_first : (a b : Bool) → (a && b) ≡ true → a ≡ true
and_first true b h = refl
and_first false b h = absurd (cc)

last_fine : (levels : List ℕ) (size : ℕ) (bad : List Item) → list_all is_fine bad ≡ true → list_all is_fine (last_items levels size bad) ≡ true
last_fine levels size [] h = both (repeat (length levels) (dedent size ∷ [])) (end size ∷ []) (dedents_fine (length levels) size) refl
last_fine levels size (i ∷ is) h = rw (and_first (is_fine i) (list_all is_fine is) h) refl

laid_fine : (lines : List Line) (levels : List ℕ) (size : ℕ) (bad : List Item) → list_all is_fine bad ≡ true → list_all is_fine (laid_out levels size bad lines) ≡ true
unfolding laid_out
laid_fine [] levels size bad h = last_fine levels size bad h
laid_fine (line ∷ lines) levels size bad h =
    both (line_items levels line) (laid_out (opened line.depth levels) size bad lines) (line_fine levels line) (laid_fine lines (opened line.depth levels) size bad h)

items_fine : (bytes : List ℕ) → list_all is_fine (items bytes) ≡ true
unfolding items
items_fine bytes = laid_fine (logical_lines (take_while is_good (pieces_in bytes))) [] (length bytes) (bad_items (pieces_in bytes)) (bads_fine (pieces_in bytes))

not_missing : (k : FaultKind) → not (is_missing k) ≡ true → k ≡ faults.FileMissing → ⊥
not_missing k fine e = let no : false ≡ true = ap (λ j. not (is_missing j)) (sym e) ∙ fine in absurd (cc)

first_not : (file : FileId) (is : List Item) (f : Fault) → list_all is_fine is ≡ true → first_of file is ≡ Some f → f.kind ≡ faults.FileMissing → ⊥
first_not file [] f fine h e = absurd (cc)
first_not file (token p ∷ is) f fine h e = first_not file is f fine h e
first_not file (newline at ∷ is) f fine h e = first_not file is f fine h e
first_not file (indent at ∷ is) f fine h e = first_not file is f fine h e
first_not file (dedent at ∷ is) f fine h e = first_not file is f fine h e
first_not file (end at ∷ is) f fine h e = first_not file is f fine h e
first_not file (fault k start stop ∷ is) f fine h e =
    let same : fault_at file k start stop ≡ f = cc in
    not_missing k (and_first (not (is_missing k)) (list_all is_fine is) fine) (ap (λ (g : Fault). g.kind) same ∙ e)

lexed_not : (file : FileId) (bytes : List ℕ) (f : Fault) → first_fault file bytes ≡ Some f → f.kind ≡ faults.FileMissing → ⊥
unfolding first_fault
lexed_not file bytes f h e = by (is_utf8 bytes) h
  where
    by : (b : Bool) → (if b then first_of file (items bytes) else Some (fault_at file faults.BadText (utf8_valid_len bytes) (utf8_valid_len bytes + 1))) ≡ Some f → ⊥
    by true g = first_not file (items bytes) f (items_fine bytes) g e
    by false g = let same : fault_at file faults.BadText (utf8_valid_len bytes) (utf8_valid_len bytes + 1) ≡ f = cc in let no : faults.BadText ≡ faults.FileMissing = ap (λ (x : Fault). x.kind) same ∙ e in absurd (cc)

-- ---- what the parser finds, and all of a file

parsed_not : (ts : Tokens) (f : Fault) → parser.IsFault ts f → f.kind ≡ faults.FileMissing → ⊥
parsed_not ts _ (parser.a_syntax s) e = absurd (cc)
parsed_not ts _ (parser.a_depth s) e = absurd (cc)

pub inside_not : (bytes : List ℕ) (file : FileId) (old before : List (List ℕ)) (f : Fault) → HasNoNext bytes file old before f → f.kind ≡ faults.FileMissing → ⊥
inside_not bytes file old before f (has_none (no_tokens refused)) e = lexed_not file bytes f refused e
inside_not bytes file old before f (has_none (no_tree {tokens = ts} are refused)) e = parsed_not ts f refused e
inside_not bytes file old before _ (has_many has many) e = absurd (cc)
