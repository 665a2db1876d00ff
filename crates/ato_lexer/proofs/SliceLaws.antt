-- Each piece of a file is the bytes between its places, and the pieces that are no blanks are the tokens.
use Rattle.std.proofs.Common.{◌≡◌, ℕ, zero, suc, ◌+◌, ◌-◌, Bool, true, false, ◌&&◌, ◌==◌, nat_lt, List, [], ◌∷◌, ◌++◌, length, map, take, drop, Some, None, refl, sym, ap, subst, ◌∙◌, arith, if◌then◌else◌}
use Rattle.std.specs.List.{list_all, filter, filter_map, flat_map, take_while, onto_first, repeat, cons_option, All}
use Rattle.std.specs.Str.{chars, is_utf8, encode_utf8_all}
use Rattle.std.specs.Str.Lossy.{utf8_valid_len}
use Rattle.std.proofs.Math.Seq.{take-append_seam, drop-append_seam}
use Rattle.std.proofs.lemmas.List.{length-append, append_assoc, append-nil}
use Rattle.std.proofs.lemmas.List.Sums.{take_while-cons}
use Rattle.std.proofs.lemmas.List.Concat.{flat_map-append}
use Rattle.std.proofs.lemmas.List.Elements.{All-cons, All-nil, filter_map-append}
use Rattle.std.proofs.lemmas.Str.{IsUtf8-from_is_utf8, encodes-chars, encodes-append}
use Rattle.ato_base.specs.declared.faults.FaultKind.TheVariants as faults
use Rattle.ato_base.specs.declared.places.FileId.{FileId}
use Rattle.ato_lexer.specs.Pieces.{Kind, Piece, is_bad, pieces}
use Rattle.ato_lexer.specs.Pieces as kinds
use Rattle.ato_lexer.specs.Lines.{Placed, Line, bytes_len, placed, is_line_end, is_token, open_after, parted, depth_of, line_of, logical_lines}
use Rattle.ato_lexer.specs.Layout.{Item, token, newline, indent, dedent, end, fault, is_open, top, left, opened, steps, is_wide_number, token_item, last_end, line_items, last_items, laid_out, item_piece}
use Rattle.ato_lexer.specs.Tokens.{is_good, bad_items, pieces_in, items, first_of, first_fault, fault_at}
use Rattle.ato_lexer.proofs.CoverLaws.{covers}
use Rattle.ato_lexer.proofs.OrderLaws.{bytes_of, Told, fine, wrong, told}

-- a piece is the bytes between its places
IsSlice : List ℕ → Placed → Type 0
IsSlice bytes p = take (p.end - p.start) (drop p.start bytes) ≡ encode_utf8_all p.piece.text

slice_at : (front text after bytes : List ℕ) (at : ℕ) (p : Piece) → bytes ≡ front ++ (encode_utf8_all text ++ after) → at ≡ length front → p.text ≡ text
    → take ((at + bytes_len p.text) - at) (drop at bytes) ≡ encode_utf8_all p.text
slice_at front text after bytes at p e h g =
    let size : (at + bytes_len p.text) - at ≡ length (encode_utf8_all text) = omega (arith, bytes_of text, ap bytes_len g) in
    let rest : drop at bytes ≡ encode_utf8_all text ++ after = ap (λ (n : ℕ). drop n bytes) h ∙ ap (λ (xs : List ℕ). drop (length front) xs) e ∙ drop-append_seam front (encode_utf8_all text ++ after) in
    ap (λ (n : ℕ). take n (drop at bytes)) size ∙ ap (λ (xs : List ℕ). take (length (encode_utf8_all text)) xs) rest ∙ take-append_seam (encode_utf8_all text) after ∙ ap encode_utf8_all (sym g)

slices_from : (ps : List Piece) (front bytes : List ℕ) (at : ℕ) → bytes ≡ front ++ encode_utf8_all (flat_map (λ (p : Piece). p.text) ps) → at ≡ length front → All (IsSlice bytes) (placed at ps)
unfolding IsSlice
slices_from [] front bytes at e h = All-nil (λ (p : Placed). take (p.end - p.start) (drop p.start bytes) ≡ encode_utf8_all p.piece.text)
slices_from (p ∷ ps) front bytes at e h =
    let rest : List ℕ = flat_map (λ (q : Piece). q.text) ps in
    let whole : bytes ≡ front ++ (encode_utf8_all p.text ++ encode_utf8_all rest) = e ∙ ap (λ (xs : List ℕ). front ++ xs) (encodes-append p.text rest) in
    let next : bytes ≡ (front ++ encode_utf8_all p.text) ++ encode_utf8_all rest = whole ∙ sym (append_assoc front (encode_utf8_all p.text) (encode_utf8_all rest)) in
    All-cons (λ (q : Placed). take (q.end - q.start) (drop q.start bytes) ≡ encode_utf8_all q.piece.text) (record { piece = p; start = at; end = at + bytes_len p.text }) (placed (at + bytes_len p.text) ps)
    (slice_at front p.text (encode_utf8_all rest) bytes at p whole h refl)
    (slices_from ps (front ++ encode_utf8_all p.text) bytes (at + bytes_len p.text) next (omega (arith, h, bytes_of p.text, length-append front (encode_utf8_all p.text))))

pub slices : (bytes : List ℕ) → is_utf8 bytes ≡ true → All (λ (p : Placed). take (p.end - p.start) (drop p.start bytes) ≡ encode_utf8_all p.piece.text) (pieces_in bytes)
unfolding IsSlice
slices bytes h =
    let e : bytes ≡ encode_utf8_all (flat_map (λ (p : Piece). p.text) (pieces (chars bytes))) = sym (ap encode_utf8_all (covers (chars bytes)) ∙ encodes-chars bytes (IsUtf8-from_is_utf8 bytes h)) in
    slices_from (pieces (chars bytes)) [] bytes 0 e refl

-- the tokens are the pieces that are no blanks

-- an item is no fault
unfoldable pub is_fine : Item → Bool
is_fine (token p) = true
is_fine (newline at) = true
is_fine (indent at) = true
is_fine (dedent at) = true
is_fine (end at) = true
is_fine (fault k start stop) = false

pub first_none : (file : FileId) (is : List Item) → first_of file is ≡ None → list_all is_fine is ≡ true
unfolding is_fine
first_none file [] h = refl
first_none file (token p ∷ is) h = first_none file is h
first_none file (newline at ∷ is) h = first_none file is h
first_none file (indent at ∷ is) h = first_none file is h
first_none file (dedent at ∷ is) h = first_none file is h
first_none file (end at ∷ is) h = first_none file is h
first_none file (fault k start stop ∷ is) h = absurd (cc)

pub and_parts : (a b : Bool) → (a && b) ≡ true → (a ≡ true) × (b ≡ true)
and_parts true b h = (refl, h)
and_parts false b h = absurd (cc)

pub all_append : (is js : List Item) → list_all is_fine (is ++ js) ≡ true → (list_all is_fine is ≡ true) × (list_all is_fine js ≡ true)
all_append [] js h = (refl, h)
all_append (i ∷ is) js h =
    let t = and_parts (is_fine i) (list_all is_fine (is ++ js)) h in
    let u = all_append is js t.1 in
    (rw (t.0, u.0) refl, u.1)

-- without the wide ones all pieces of a line are tokens
token_fine : (p : Placed) → is_fine (token_item p) ≡ true → token_item p ≡ token p
unfolding is_fine
token_fine p h = by (is_wide_number p.piece.kind p.piece.text) h
  where
    by : (b : Bool) → is_fine (if b then fault faults.WideNumber p.start p.end else token p) ≡ true → (if b then fault faults.WideNumber p.start p.end else token p) ≡ token p
    by true g = absurd (cc)
    by false g = refl

tokens_fine : (ps : List Placed) → list_all is_fine (map token_item ps) ≡ true → filter_map item_piece (map token_item ps) ≡ ps
tokens_fine [] h = refl
tokens_fine (p ∷ ps) h =
    let t = and_parts (is_fine (token_item p)) (list_all is_fine (map token_item ps)) h in
    ap (λ (i : Item). cons_option (item_piece i) (filter_map item_piece (map token_item ps))) (token_fine p t.0) ∙ ap (λ (qs : List Placed). p ∷ qs) (tokens_fine ps t.1)

no_dedents : (n at : ℕ) → filter_map item_piece (repeat n (dedent at ∷ [])) ≡ []
no_dedents zero at = refl
no_dedents (suc n) at = no_dedents n at

no_steps : (depth : ℕ) (first : Placed) (levels : List ℕ) → filter_map item_piece (steps depth first levels) ≡ []
no_steps depth first levels = by (nat_lt (top levels) depth) (is_open depth levels)
  where
    by : (a b : Bool) → filter_map item_piece (if a then indent first.start ∷ [] else (if b then repeat (left depth levels) (dedent first.start ∷ []) else fault faults.BadIndent first.start first.end ∷ [])) ≡ []
    by true b = refl
    by false true = no_dedents (left depth levels) first.start
    by false false = refl

line_pieces : (levels : List ℕ) (line : Line) → list_all is_fine (line_items levels line) ≡ true → filter_map item_piece (line_items levels line) ≡ line.first ∷ line.others
line_pieces levels line h =
    let ts : List Item = map token_item (line.first ∷ line.others) in
    let last : List Item = newline (last_end line.first.end line.others) ∷ [] in
    let a = all_append (steps line.depth line.first levels) (ts ++ last) h in
    let b = all_append ts last a.1 in
    filter_map-append item_piece (steps line.depth line.first levels) (ts ++ last)
    ∙ ap (λ (qs : List Placed). qs ++ filter_map item_piece (ts ++ last)) (no_steps line.depth line.first levels)
    ∙ (filter_map-append item_piece ts last ∙ (append-nil (filter_map item_piece ts) ∙ tokens_fine (line.first ∷ line.others) b.0))

last_pieces : (levels : List ℕ) (size : ℕ) (bad : List Item) → filter_map item_piece (last_items levels size []) ≡ []
last_pieces levels size bad =
    filter_map-append item_piece (repeat (length levels) (dedent size ∷ [])) (end size ∷ []) ∙ ap (λ (qs : List Placed). qs ++ []) (no_dedents (length levels) size)

laid_pieces : (lines : List Line) (levels : List ℕ) (size : ℕ) → list_all is_fine (laid_out levels size [] lines) ≡ true
    → filter_map item_piece (laid_out levels size [] lines) ≡ flat_map (λ (line : Line). line.first ∷ line.others) lines
unfolding laid_out
laid_pieces [] levels size h = last_pieces levels size []
laid_pieces (line ∷ lines) levels size h =
    let a = all_append (line_items levels line) (laid_out (opened line.depth levels) size [] lines) h in
    filter_map-append item_piece (line_items levels line) (laid_out (opened line.depth levels) size [] lines)
    ∙ ap (λ (qs : List Placed). qs ++ filter_map item_piece (laid_out (opened line.depth levels) size [] lines)) (line_pieces levels line a.0)
    ∙ ap (λ (qs : List Placed). (line.first ∷ line.others) ++ qs) (laid_pieces lines (opened line.depth levels) size a.1)

-- the pieces of the lines are those that are no blanks

abbrev is_kept : Placed → Bool
is_kept p = is_token p.piece.kind

line_kept : (depth : ℕ) (ps : List Placed) → flat_map (λ (line : Line). line.first ∷ line.others) (line_of depth ps) ≡ ps
line_kept depth [] = refl
line_kept depth (p ∷ ps) = append-nil (p ∷ ps)

onto_kept : (p : Placed) (parts : List (List Placed)) → flat_map (λ part. filter is_kept part) (onto_first p parts) ≡ filter is_kept (p ∷ []) ++ flat_map (λ part. filter is_kept part) parts
onto_kept p [] = refl
onto_kept p (part ∷ parts) = by (is_kept p)
  where
    by : (b : Bool) → (if b then p ∷ filter is_kept part else filter is_kept part) ++ flat_map (λ part. filter is_kept part) parts ≡ (if b then p ∷ [] else []) ++ (filter is_kept part ++ flat_map (λ part. filter is_kept part) parts)
    by true = refl
    by false = refl

filter_first : (p : Placed) (ps : List Placed) → filter is_kept (p ∷ ps) ≡ filter is_kept (p ∷ []) ++ filter is_kept ps
filter_first p ps = by (is_kept p)
  where
    by : (b : Bool) → (if b then p ∷ filter is_kept ps else filter is_kept ps) ≡ (if b then p ∷ [] else []) ++ filter is_kept ps
    by true = refl
    by false = refl

line_end_blank : (k : Kind) → is_line_end k ≡ true → is_token k ≡ false
line_end_blank kinds.line_end h = refl
line_end_blank kinds.blank h = refl
line_end_blank kinds.comment h = refl
line_end_blank kinds.name h = absurd (cc)
line_end_blank (kinds.keyword w) h = absurd (cc)
line_end_blank kinds.number h = absurd (cc)
line_end_blank (kinds.string n) h = absurd (cc)
line_end_blank (kinds.mark m) h = absurd (cc)
line_end_blank kinds.bad_char h = absurd (cc)
line_end_blank kinds.open_string h = absurd (cc)

parted_kept : (brackets : ℕ) (ps : List Placed) → flat_map (λ part. filter is_kept part) (parted brackets ps) ≡ filter is_kept ps
parted_kept brackets [] = refl
parted_kept brackets (p ∷ ps) = by (is_line_end p.piece.kind) refl (brackets == 0) (parted_kept 0 ps) (parted_kept (open_after p.piece.kind brackets) ps)
  where
    onto : flat_map (λ part. filter is_kept part) (parted (open_after p.piece.kind brackets) ps) ≡ filter is_kept ps → flat_map (λ part. filter is_kept part) (onto_first p (parted (open_after p.piece.kind brackets) ps)) ≡ filter is_kept (p ∷ ps)
    onto y = onto_kept p (parted (open_after p.piece.kind brackets) ps) ∙ (ap (λ (qs : List Placed). filter is_kept (p ∷ []) ++ qs) y ∙ sym (filter_first p ps))

    by : (a : Bool) → is_line_end p.piece.kind ≡ a → (b : Bool) → flat_map (λ part. filter is_kept part) (parted 0 ps) ≡ filter is_kept ps
        → flat_map (λ part. filter is_kept part) (parted (open_after p.piece.kind brackets) ps) ≡ filter is_kept ps
        → flat_map (λ part. filter is_kept part) (if a && b then [] ∷ parted 0 ps else onto_first p (parted (open_after p.piece.kind brackets) ps)) ≡ filter is_kept (p ∷ ps)
    by true e true x y = let k = line_end_blank p.piece.kind e in x ∙ sym (filter_first p ps ∙ (rw k refl))
    by true e false x y = onto y
    by false e b x y = onto y

lines_kept : (parts : List (List Placed)) → flat_map (λ (line : Line). line.first ∷ line.others) (flat_map (λ part. line_of (depth_of part) (filter (λ p. is_token p.piece.kind) part)) parts) ≡ flat_map (λ part. filter is_kept part) parts
lines_kept [] = refl
lines_kept (part ∷ parts) =
    let rest : List Line = flat_map (λ (part : List Placed). line_of (depth_of part) (filter (λ (p : Placed). is_token p.piece.kind) part)) parts in
    flat_map-append (λ (line : Line). line.first ∷ line.others) (line_of (depth_of part) (filter is_kept part)) rest
    ∙ (ap (λ (qs : List Placed). qs ++ flat_map (λ (line : Line). line.first ∷ line.others) rest) (line_kept (depth_of part) (filter is_kept part))
    ∙ ap (λ (qs : List Placed). filter is_kept part ++ qs) (lines_kept parts))

-- where there is no fault, no piece is one

good_while : (ps : List Placed) → bad_items ps ≡ [] → take_while is_good ps ≡ ps
good_while [] h = refl
good_while (p ∷ ps) h = by (good_while ps) p.piece.kind refl (told p.piece.kind)
  where
    by : (bad_items ps ≡ [] → take_while is_good ps ≡ ps) → (k : Kind) → p.piece.kind ≡ k → Told k → take_while is_good (p ∷ ps) ≡ p ∷ ps
    by more k e (fine b n) =
        let none : bad_items (p ∷ ps) ≡ bad_items ps = rw (e, n) refl in
        let whole : take_while is_good (p ∷ ps) ≡ p ∷ take_while is_good ps = take_while-cons is_good p ps ∙ rw (e, b) refl in
        whole ∙ ap (λ (qs : List Placed). p ∷ qs) (more (sym none ∙ h))
    by more k e (wrong f b n) =
        let some : bad_items (p ∷ ps) ≡ fault f p.start p.end ∷ bad_items ps = rw (e, n) refl in
        let no : fault f p.start p.end ∷ bad_items ps ≡ [] = sym some ∙ h in
        absurd (cc)

-- the first of some items, if there is one, is a fault
pub BadFirst : List Item → Type 0
BadFirst [] = Unit {0}
BadFirst (i ∷ is) = is_fine i ≡ false

pub bad_first : (ps : List Placed) → BadFirst (bad_items ps)
unfolding BadFirst is_fine
bad_first [] = tt
bad_first (p ∷ ps) = by (bad_first ps) p.piece.kind refl (told p.piece.kind)
  where
    by : BadFirst (bad_items ps) → (k : Kind) → p.piece.kind ≡ k → Told k → BadFirst (bad_items (p ∷ ps))
    by more k e (fine b n) = let none : bad_items (p ∷ ps) ≡ bad_items ps = rw (e, n) refl in subst (λ (is : List Item). BadFirst is) (sym none) more
    by more k e (wrong f b n) = let some : bad_items (p ∷ ps) ≡ fault f p.start p.end ∷ bad_items ps = rw (e, n) refl in subst (λ (is : List Item). BadFirst is) (sym some) refl

pub laid_bad : (lines : List Line) (levels : List ℕ) (size : ℕ) (bad : List Item) → list_all is_fine (laid_out levels size bad lines) ≡ true → BadFirst bad → bad ≡ []
unfolding laid_out BadFirst
laid_bad [] levels size [] h b = refl
laid_bad [] levels size (i ∷ is) h b = let t = and_parts (is_fine i) true h in let no : true ≡ false = sym t.0 ∙ b in absurd (cc)
laid_bad (line ∷ lines) levels size bad h b =
    laid_bad lines (opened line.depth levels) size bad (all_append (line_items levels line) (laid_out (opened line.depth levels) size bad lines) h).1 b

items_pieces : (ps : List Placed) (size : ℕ) → list_all is_fine (laid_out [] size (bad_items ps) (logical_lines (take_while is_good ps))) ≡ true
    → filter_map item_piece (laid_out [] size (bad_items ps) (logical_lines (take_while is_good ps))) ≡ filter is_kept ps
unfolding logical_lines
items_pieces ps size h =
    let none = laid_bad (logical_lines (take_while is_good ps)) [] size (bad_items ps) h (bad_first ps) in
    let e : laid_out [] size (bad_items ps) (logical_lines (take_while is_good ps)) ≡ laid_out [] size [] (logical_lines ps) = ap (λ (bad : List Item). laid_out [] size bad (logical_lines (take_while is_good ps))) none ∙ ap (λ (qs : List Placed). laid_out [] size [] (logical_lines qs)) (good_while ps none) in
    let all : list_all is_fine (laid_out [] size [] (logical_lines ps)) ≡ true = subst (λ (is : List Item). list_all is_fine is ≡ true) e h in
    ap (filter_map item_piece) e ∙ (laid_pieces (logical_lines ps) [] size all ∙ (lines_kept (parted 0 ps) ∙ parted_kept 0 ps))

pub tokens_are_pieces : (bytes : List ℕ) (file : FileId) → first_fault file bytes ≡ None → filter_map item_piece (items bytes) ≡ filter (λ (p : Placed). is_token p.piece.kind) (pieces_in bytes)
unfolding first_fault items
tokens_are_pieces bytes file h = by (is_utf8 bytes) h
  where
    by : (b : Bool) → (if b then first_of file (items bytes) else Some (fault_at file faults.BadText (utf8_valid_len bytes) (utf8_valid_len bytes + 1))) ≡ None → filter_map item_piece (items bytes) ≡ filter is_kept (pieces_in bytes)
    by true g = items_pieces (pieces_in bytes) (length bytes) (first_none file (items bytes) g)
    by false g = absurd (cc)
