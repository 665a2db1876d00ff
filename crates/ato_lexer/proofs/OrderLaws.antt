-- What stands in a file stands in the order of places.
use Rattle.std.proofs.Common.{◌≡◌, ℕ, zero, suc, ◌+◌, ◌≤◌, Bool, true, false, ◌&&◌, ◌==◌, nat_lt, List, [], ◌∷◌, ◌++◌, length, map, Option, Some, None, refl, sym, ap, subst, ◌∙◌, arith, if◌then◌else◌, le_refl}
use Rattle.std.specs.Char.{len_utf8}
use Rattle.std.specs.List.{filter, filter_map, flat_map, take_while, onto_first, repeat, cons_option, All, AllPairs}
use Rattle.std.specs.Str.{chars, is_utf8, encode_utf8_all}
use lib.Utf8.{encode}
use Rattle.std.proofs.lemmas.List.{length-append}
use Rattle.std.proofs.lemmas.List.Sums.{sum_by-append, take_while-cons}
use Rattle.std.proofs.lemmas.List.Elements.{All-cons, All-nil}
use Rattle.std.proofs.lemmas.List.Kept.{AllPairs-cons}
use Rattle.std.proofs.lemmas.Str.{IsUtf8-from_is_utf8, encodes-chars, length-encode}
use Rattle.ato_base.specs.declared.places.FileId.{FileId}
use Rattle.ato_base.specs.declared.tokens.Token.{Token}
use Rattle.ato_base.specs.declared.tokens.TokenKind.{TokenKind}
use Rattle.ato_base.specs.declared.faults.FaultKind.{FaultKind}
use Rattle.ato_base.specs.declared.faults.FaultKind.TheVariants as faults
use Rattle.ato_lexer.specs.Pieces.{Kind, Piece, is_bad, pieces}
use Rattle.ato_lexer.specs.Pieces as kinds
use Rattle.ato_lexer.specs.Lines.{Placed, Line, bytes_len, placed, is_line_end, is_token, open_after, parted, depth_of, line_of, logical_lines}
use Rattle.ato_lexer.specs.Layout.{Item, token, newline, indent, dedent, end, fault, start_of, stop_of, is_open, top, left, opened, steps, is_wide_number, token_item, last_end, line_items, last_items, laid_out}
use Rattle.ato_lexer.specs.Tokens.{bad_kind, is_good, bad_items, pieces_in, items, kind_of, with_place, item_token, tokens_of}
use Rattle.ato_lexer.proofs.CoverLaws.{covers}

-- pieces

-- each of some pieces begins where the one before it ends, or later; they stand between two places
abbrev Rises : ℕ → List Placed → ℕ → Type 0
Rises at [] stop = at ≤ stop
Rises at (p ∷ ps) stop = (at ≤ p.start) × (p.start ≤ p.end) × Rises p.end ps stop

rises_wider : (ps : List Placed) (at early stop late : ℕ) → early ≤ at → stop ≤ late → Rises at ps stop → Rises early ps late
rises_wider [] at early stop late h g r = omega (arith, h, g, r)
rises_wider (p ∷ ps) at early stop late h g r = (omega (arith, h, r.0), r.1, rises_wider ps p.end p.end stop late (le_refl p.end) g r.2)

placed_rises : (ps : List Piece) (at : ℕ) → Rises at (placed at ps) (at + bytes_len (flat_map (λ (p : Piece). p.text) ps))
placed_rises [] at = omega arith
placed_rises (p ∷ ps) at =
    let more = placed_rises ps (at + bytes_len p.text) in
    let e = sum_by-append len_utf8 p.text (flat_map (λ (p : Piece). p.text) ps) in
    let rest : List ℕ = flat_map (λ (q : Piece). q.text) ps in (
      le_refl at,
      omega arith,
      rises_wider (placed (at + bytes_len p.text) ps) (at + bytes_len p.text) (at + bytes_len p.text) (at + bytes_len p.text + bytes_len rest) (at + bytes_len (p.text ++ rest))
          (le_refl (at + bytes_len p.text)) (omega (arith, e)) more,
    )

filter_rises : (t : Placed → Bool) (ps : List Placed) (at stop : ℕ) → Rises at ps stop → Rises at (filter t ps) stop
filter_rises t [] at stop r = r
filter_rises t (p ∷ ps) at stop r = by (t p) (filter_rises t ps p.end stop r.2)
  where
    by : (b : Bool) → Rises p.end (filter t ps) stop → Rises at (if b then p ∷ filter t ps else filter t ps) stop
    by true more = (r.0, r.1, more)
    by false more = rises_wider (filter t ps) p.end at stop stop (omega (arith, r.0, r.1)) (le_refl stop) more

-- the first of some items begins here or later; if there is none, this place is not behind the last one
abbrev BeginsAfter : ℕ → List Item → ℕ → Type 0
BeginsAfter at [] stop = at ≤ stop
BeginsAfter at (i ∷ is) stop = (at ≤ start_of i) × (start_of i ≤ stop_of i)

-- pieces up to the first one that is a fault
record IsSplit (at : ℕ) (ps : List Placed) (stop : ℕ) : Type 0 where
  mid : ℕ
  good : Rises at (take_while is_good ps) mid
  bad : BeginsAfter mid (bad_items ps) stop

-- a kind is a fault or none
pub data Told : Kind → Type 0 where
  fine : {k : Kind} → is_bad k ≡ false → bad_kind k ≡ None → Told k
  wrong : {k : Kind} (f : FaultKind) → is_bad k ≡ true → bad_kind k ≡ Some f → Told k

pub told : (k : Kind) → Told k
told kinds.blank = fine refl refl
told kinds.comment = fine refl refl
told kinds.line_end = fine refl refl
told kinds.name = fine refl refl
told (kinds.keyword w) = fine refl refl
told kinds.number = fine refl refl
told (kinds.string n) = fine refl refl
told (kinds.mark m) = fine refl refl
told kinds.bad_char = wrong faults.BadChar refl refl
told kinds.open_string = wrong faults.OpenString refl refl

split : (ps : List Placed) (at stop : ℕ) → Rises at ps stop → IsSplit at ps stop
split [] at stop r = record { mid = at; good = le_refl at; bad = r }
split (p ∷ ps) at stop r = by (split ps p.end stop r.2) p.piece.kind refl (told p.piece.kind)
  where
    by : IsSplit p.end ps stop → (k : Kind) → p.piece.kind ≡ k → Told k → IsSplit at (p ∷ ps) stop
    by more k e (fine b n) =
        let whole : take_while is_good (p ∷ ps) ≡ p ∷ take_while is_good ps = take_while-cons is_good p ps ∙ rw (e, b) refl in
        let none : bad_items (p ∷ ps) ≡ bad_items ps = rw (e, n) refl in
        record { mid = more.mid; good = rw whole (r.0, r.1, more.good); bad = rw none more.bad }
    by more k e (wrong f b n) =
        let whole : take_while is_good (p ∷ ps) ≡ [] = take_while-cons is_good p ps ∙ rw (e, b) refl in
        let some : bad_items (p ∷ ps) ≡ fault f p.start p.end ∷ bad_items ps = rw (e, n) refl in
        record { mid = at; good = rw whole (le_refl at); bad = rw some (r.0, le_refl p.start) }

-- lines

abbrev PartsRise : ℕ → List (List Placed) → ℕ → Type 0
PartsRise at [] stop = at ≤ stop
PartsRise at (part ∷ parts) stop = (mid : ℕ) × Rises at part mid × PartsRise mid parts stop

onto_rises : (p : Placed) (parts : List (List Placed)) (at stop : ℕ) → at ≤ p.start → p.start ≤ p.end → PartsRise p.end parts stop → PartsRise at (onto_first p parts) stop
onto_rises p [] at stop h g r = (p.end, (h, g, le_refl p.end), r)
onto_rises p (part ∷ parts) at stop h g r = (r.0, (h, g, r.1), r.2)

parted_rises : (brackets : ℕ) (ps : List Placed) (at stop : ℕ) → Rises at ps stop → PartsRise at (parted brackets ps) stop
parted_rises brackets [] at stop r = (at, le_refl at, r)
parted_rises brackets (p ∷ ps) at stop r =
    by (is_line_end p.piece.kind && (brackets == 0)) (parted_rises 0 ps p.end stop r.2) (parted_rises (open_after p.piece.kind brackets) ps p.end stop r.2)
  where
    by : (b : Bool) → PartsRise p.end (parted 0 ps) stop → PartsRise p.end (parted (open_after p.piece.kind brackets) ps) stop
        → PartsRise at (if b then [] ∷ parted 0 ps else onto_first p (parted (open_after p.piece.kind brackets) ps)) stop
    by true x y = (p.end, omega (arith, r.0, r.1), x)
    by false x y = onto_rises p (parted (open_after p.piece.kind brackets) ps) at stop r.0 r.1 y

abbrev LinesRise : ℕ → List Line → ℕ → Type 0
LinesRise at [] stop = at ≤ stop
LinesRise at (line ∷ lines) stop = (mid : ℕ) × Rises at (line.first ∷ line.others) mid × LinesRise mid lines stop

lines_wider : (lines : List Line) (at early stop : ℕ) → early ≤ at → LinesRise at lines stop → LinesRise early lines stop
lines_wider [] at early stop h r = omega (arith, h, r)
lines_wider (line ∷ lines) at early stop h r = (r.0, (omega (arith, h, r.1.0), r.1.1, r.1.2), r.2)

rises_at_most : (ps : List Placed) (at stop : ℕ) → Rises at ps stop → at ≤ stop
rises_at_most [] at stop r = r
rises_at_most (p ∷ ps) at stop r = omega (arith, r.0, r.1, rises_at_most ps p.end stop r.2)

line_rises : (depth : ℕ) (ps : List Placed) (lines : List Line) (at mid stop : ℕ) → Rises at ps mid → LinesRise mid lines stop → LinesRise at (line_of depth ps ++ lines) stop
line_rises depth [] lines at mid stop r more = lines_wider lines mid at stop r more
line_rises depth (p ∷ ps) lines at mid stop r more = (mid, r, more)

lines_rise : (parts : List (List Placed)) (at stop : ℕ) → PartsRise at parts stop → LinesRise at (flat_map (λ part. line_of (depth_of part) (filter (λ p. is_token p.piece.kind) part)) parts) stop
lines_rise [] at stop r = r
lines_rise (part ∷ parts) at stop r =
    line_rises (depth_of part) (filter (λ p. is_token p.piece.kind) part) (flat_map (λ part. line_of (depth_of part) (filter (λ p. is_token p.piece.kind) part)) parts) at r.0 stop (filter_rises (λ p. is_token p.piece.kind) part at r.0 r.1) (lines_rise parts r.0 stop r.2)

logical_rises : (ps : List Placed) (at stop : ℕ) → Rises at ps stop → LinesRise at (logical_lines ps) stop
unfolding logical_lines
logical_rises ps at stop r = lines_rise (parted 0 ps) at stop (parted_rises 0 ps at stop r)

-- items

abbrev ItemsRise : ℕ → List Item → ℕ → Type 0
ItemsRise at [] stop = at ≤ stop
ItemsRise at (i ∷ is) stop = (at ≤ start_of i) × (start_of i ≤ stop_of i) × ItemsRise (stop_of i) is stop

items_wider : (is : List Item) (at early stop : ℕ) → early ≤ at → ItemsRise at is stop → ItemsRise early is stop
items_wider [] at early stop h r = omega (arith, h, r)
items_wider (i ∷ is) at early stop h r = (omega (arith, h, r.0), r.1, r.2)

items_append : (is js : List Item) (at mid stop : ℕ) → ItemsRise at is mid → ItemsRise mid js stop → ItemsRise at (is ++ js) stop
items_append [] js at mid stop r s = items_wider js mid at stop r s
items_append (i ∷ is) js at mid stop r s = (r.0, r.1, items_append is js (stop_of i) mid stop r.2 s)

token_rises : (p : Placed) (is : List Item) (at stop : ℕ) → at ≤ p.start → p.start ≤ p.end → ItemsRise p.end is stop → ItemsRise at (token_item p ∷ is) stop
token_rises p is at stop h g r = by (is_wide_number p.piece.kind p.piece.text)
  where
    by : (b : Bool) → ItemsRise at ((if b then fault faults.WideNumber p.start p.end else token p) ∷ is) stop
    by true = (h, le_refl p.start, items_wider is p.end p.start stop g r)
    by false = (h, g, r)

last_at_most : (ps : List Placed) (at stop : ℕ) → Rises at ps stop → last_end at ps ≤ stop
last_at_most [] at stop r = r
last_at_most (p ∷ ps) at stop r = last_at_most ps p.end stop r.2

tokens_rise : (ps : List Placed) (at stop : ℕ) → Rises at ps stop → ItemsRise at (map token_item ps) (last_end at ps)
tokens_rise [] at stop r = le_refl at
tokens_rise (p ∷ ps) at stop r = token_rises p (map token_item ps) at (last_end p.end ps) r.0 r.1 (tokens_rise ps p.end stop r.2)

dedents_rise : (n at start : ℕ) → at ≤ start → ItemsRise at (repeat n (dedent start ∷ [])) start
dedents_rise zero at start h = h
dedents_rise (suc n) at start h = (h, le_refl start, dedents_rise n start start (le_refl start))

steps_rise : (depth : ℕ) (first : Placed) (levels : List ℕ) (at : ℕ) → at ≤ first.start → ItemsRise at (steps depth first levels) first.start
steps_rise depth first levels at h = by (nat_lt (top levels) depth) (is_open depth levels)
  where
    by : (a b : Bool) → ItemsRise at (if a then indent first.start ∷ [] else (if b then repeat (left depth levels) (dedent first.start ∷ []) else fault faults.BadIndent first.start first.end ∷ [])) first.start
    by true b = (h, le_refl first.start, le_refl first.start)
    by false true = dedents_rise (left depth levels) at first.start h
    by false false = (h, le_refl first.start, le_refl first.start)

line_items_rise : (levels : List ℕ) (line : Line) (at stop : ℕ) → Rises at (line.first ∷ line.others) stop → ItemsRise at (line_items levels line) stop
line_items_rise levels line at stop r =
    let last : ℕ = last_end line.first.end line.others in
    let most : last ≤ stop = last_at_most line.others line.first.end stop r.2 in
    let whole : Rises line.first.start (line.first ∷ line.others) stop = (le_refl line.first.start, r.1, r.2) in
    items_append (steps line.depth line.first levels) (map token_item (line.first ∷ line.others) ++ newline last ∷ []) at line.first.start stop (steps_rise line.depth line.first levels at r.0)
    (items_append (map token_item (line.first ∷ line.others)) (newline last ∷ []) line.first.start last stop
    (tokens_rise (line.first ∷ line.others) line.first.start stop whole)
    (le_refl last, le_refl last, most))

-- some items rise from a place
record RiseFrom (at : ℕ) (is : List Item) : Type 0 where
  stop : ℕ
  rise : ItemsRise at is stop

last_items_rise : (levels : List ℕ) (size : ℕ) (bad : List Item) (at : ℕ) → BeginsAfter at bad size → RiseFrom at (last_items levels size bad)
last_items_rise levels size [] at h =
    record { stop = size; rise = items_append (repeat (length levels) (dedent size ∷ [])) (end size ∷ []) at size size (dedents_rise (length levels) at size h) (le_refl size, le_refl size, le_refl size) }
last_items_rise levels size (b ∷ more) at h = record { stop = stop_of b; rise = (h.0, h.1, le_refl (stop_of b)) }

laid_rise : (lines : List Line) (levels : List ℕ) (size : ℕ) (bad : List Item) (at mid : ℕ) → LinesRise at lines mid → BeginsAfter mid bad size → RiseFrom at (laid_out levels size bad lines)
unfolding laid_out
laid_rise [] levels size [] at mid r h = last_items_rise levels size [] at (omega (arith, r, h))
laid_rise [] levels size (b ∷ more) at mid r h = last_items_rise levels size (b ∷ more) at (omega (arith, r, h.0), h.1)
laid_rise (line ∷ lines) levels size bad at mid r h =
    let more = laid_rise lines (opened line.depth levels) size bad r.0 mid r.2 h in
    record { stop = more.stop; rise = items_append (line_items levels line) (laid_out (opened line.depth levels) size bad lines) at r.0 more.stop (line_items_rise levels line at r.0 r.1) more.rise }

-- a text has as many bytes as its characters take
pub bytes_of : (cs : List ℕ) → length (encode_utf8_all cs) ≡ bytes_len cs
bytes_of [] = refl
bytes_of (c ∷ cs) =
    let one : bytes_len (c ∷ []) ≡ 0 + len_utf8 c = refl in
    let more : bytes_len (c ∷ cs) ≡ bytes_len (c ∷ []) + bytes_len cs = sum_by-append len_utf8 (c ∷ []) cs in
    let h : length (encode c ++ encode_utf8_all cs) ≡ bytes_len (c ∷ cs) = omega (arith, length-append (encode c) (encode_utf8_all cs), length-encode c, bytes_of cs, one, more) in
    h

size_is : (bytes : List ℕ) → is_utf8 bytes ≡ true → bytes_len (chars bytes) ≡ length bytes
size_is bytes h = sym (bytes_of (chars bytes)) ∙ ap length (encodes-chars bytes (IsUtf8-from_is_utf8 bytes h))

items_rise : (bytes : List ℕ) → is_utf8 bytes ≡ true → RiseFrom 0 (items bytes)
unfolding items
items_rise bytes h =
    let size : bytes_len (flat_map (λ (p : Piece). p.text) (pieces (chars bytes))) ≡ length bytes = ap bytes_len (covers (chars bytes)) ∙ size_is bytes h in
    let text_is : 0 + bytes_len (flat_map (λ (p : Piece). p.text) (pieces (chars bytes))) ≡ length bytes = omega (arith, size) in
    let rise : Rises 0 (pieces_in bytes) (length bytes) = subst (λ (n : ℕ). Rises 0 (pieces_in bytes) n) text_is (placed_rises (pieces (chars bytes)) 0) in
    let s = split (pieces_in bytes) 0 (length bytes) rise in
    laid_rise (logical_lines (take_while is_good (pieces_in bytes))) [] (length bytes) (bad_items (pieces_in bytes)) 0 s.mid (logical_rises (take_while is_good (pieces_in bytes)) 0 s.mid s.good) s.bad

no_pairs : {X : Type 0} (R : X → X → Type 0) → AllPairs R []
no_pairs R i j d h g = absurd (omega (arith, h, g))

items_after : (is : List Item) (at stop : ℕ) → ItemsRise at is stop → All (λ (j : Item). at ≤ start_of j) is
items_after [] at stop r = All-nil (λ (j : Item). at ≤ start_of j)
items_after (i ∷ is) at stop r = All-cons (λ (j : Item). at ≤ start_of j) i is r.0 (items_after is at stop (items_wider is (stop_of i) at stop (omega (arith, r.0, r.1)) r.2))

pairs_rise : (is : List Item) (at stop : ℕ) → ItemsRise at is stop → AllPairs (λ (i j : Item). stop_of i ≤ start_of j) is
pairs_rise [] at stop r = no_pairs (λ (i j : Item). stop_of i ≤ start_of j)
pairs_rise (i ∷ is) at stop r = AllPairs-cons (λ (i j : Item). stop_of i ≤ start_of j) i is (items_after is (stop_of i) stop r.2) (pairs_rise is (stop_of i) stop r.2)

pub in_order : (bytes : List ℕ) → is_utf8 bytes ≡ true → AllPairs (λ (i j : Item). stop_of i ≤ start_of j) (items bytes)
in_order bytes h = let r = items_rise bytes h in pairs_rise (items bytes) 0 r.stop r.rise

-- tokens

abbrev TokensRise : ℕ → List Token → ℕ → Type 0
TokensRise at [] stop = at ≤ stop
TokensRise at (t ∷ ts) stop = (at ≤ t.at.start) × (t.at.start ≤ t.at.end) × TokensRise t.at.end ts stop

tokens_wider : (ts : List Token) (at early stop : ℕ) → early ≤ at → TokensRise at ts stop → TokensRise early ts stop
tokens_wider [] at early stop h r = omega (arith, h, r)
tokens_wider (t ∷ ts) at early stop h r = (omega (arith, h, r.0), r.1, r.2)

-- a token stands where its item does
IsThere : Item → Option Token → Type 0
IsThere i None = Unit {0}
IsThere i (Some t) = (t.at.start ≡ start_of i) × (t.at.end ≡ stop_of i)

piece_there : (file : FileId) (p : Placed) (o : Option TokenKind) → IsThere (token p) (with_place file p o)
unfolding IsThere
piece_there file p None = tt
piece_there file p (Some k) = (refl, refl)

item_there : (names : List (List ℕ)) (file : FileId) (i : Item) → IsThere i (item_token names file i)
unfolding IsThere
item_there names file (token p) = piece_there file p (kind_of names file p p.piece.kind)
item_there names file (newline at) = (refl, refl)
item_there names file (indent at) = (refl, refl)
item_there names file (dedent at) = (refl, refl)
item_there names file (end at) = (refl, refl)
item_there names file (fault k start stop) = tt

kept_rise : (names : List (List ℕ)) (file : FileId) (is : List Item) (at stop : ℕ) → ItemsRise at is stop → TokensRise at (filter_map (item_token names file) is) stop
unfolding IsThere
kept_rise names file [] at stop r = r
kept_rise names file (i ∷ is) at stop r = by (kept_rise names file is (stop_of i) stop r.2) (item_token names file i) (item_there names file i)
  where
    by : TokensRise (stop_of i) (filter_map (item_token names file) is) stop → (o : Option Token) → IsThere i o → TokensRise at (cons_option o (filter_map (item_token names file) is)) stop
    by more None e = tokens_wider (filter_map (item_token names file) is) (stop_of i) at stop (omega (arith, r.0, r.1)) more
    by more (Some t) e = (omega (arith, r.0, e.0), omega (arith, r.1, e.0, e.1), tokens_wider (filter_map (item_token names file) is) (stop_of i) t.at.end stop (omega (arith, e.1)) more)

tokens_after : (ts : List Token) (at stop : ℕ) → TokensRise at ts stop → All (λ (t : Token). at ≤ t.at.start) ts
tokens_after [] at stop r = All-nil (λ (t : Token). at ≤ t.at.start)
tokens_after (t ∷ ts) at stop r = All-cons (λ (t : Token). at ≤ t.at.start) t ts r.0 (tokens_after ts at stop (tokens_wider ts t.at.end at stop (omega (arith, r.0, r.1)) r.2))

token_pairs : (ts : List Token) (at stop : ℕ) → TokensRise at ts stop → AllPairs (λ (s t : Token). s.at.end ≤ t.at.start) ts
token_pairs [] at stop r = no_pairs (λ (s t : Token). s.at.end ≤ t.at.start)
token_pairs (t ∷ ts) at stop r = AllPairs-cons (λ (s t : Token). s.at.end ≤ t.at.start) t ts (tokens_after ts t.at.end stop r.2) (token_pairs ts t.at.end stop r.2)

pub tokens_in_order : (bytes : List ℕ) (file : FileId) (names : List (List ℕ)) → is_utf8 bytes ≡ true → AllPairs (λ (s t : Token). s.at.end ≤ t.at.start) (tokens_of names file bytes)
tokens_in_order bytes file names h = let r = items_rise bytes h in token_pairs (tokens_of names file bytes) 0 r.stop (kept_rise names file (items bytes) 0 r.stop r.rise)
