-- What stands between the quotes of a file's strings is a text.
use Rattle.std.proofs.Common.{◌≡◌, ℕ, ◌+◌, ◌-◌, ◌<◌, Bool, true, false, ◌&&◌, not, List, [], ◌∷◌, ◌++◌, length, take, drop, None, refl, sym, ap, subst, ◌∙◌, arith, if◌then◌else◌}
use Rattle.std.specs.Prelude.{IsUtf8}
use Rattle.std.specs.List.{list_all, filter, filter_map, flat_map, All}
use Rattle.std.specs.Char.{len_utf8}
use Rattle.std.specs.Str.{chars, is_utf8, encode_utf8_all}
use lib.Utf8.{scalars, scalar, encode}
use Rattle.std.proofs.Math.Seq.{take-append_seam}
use Rattle.std.proofs.lemmas.List.{length-append, append_assoc, take-append-drop, drop-drop, drop_at}
use Rattle.std.proofs.lemmas.List.Sums.{sum_by-append}
use Rattle.std.proofs.lemmas.List.Elements.{All-cons, All-nil, All-head, All-tail}
use Rattle.std.proofs.lemmas.Bool.Decides.{nat_tests}
use Rattle.std.proofs.lemmas.Str.{IsUtf8-from_is_utf8, encodes-append, encode_ascii, length-encode, scalars-chars}
use Rattle.ato_base.specs.declared.places.FileId.{FileId}
use Rattle.ato_lexer.specs.Fronts.{begins, three}
use Rattle.ato_lexer.specs.Pieces.{Kind, Piece, is_bad, piece, pieces, pieces_of}
use Rattle.ato_lexer.specs.Pieces as kinds
use Rattle.ato_lexer.specs.Spellings.{is_quote, Spells, string, triple, IsCut, over, next}
use Rattle.ato_lexer.specs.Lines.{Placed, bytes_len, placed, is_token}
use Rattle.ato_lexer.specs.Layout.{Item, item_piece}
use Rattle.ato_lexer.specs.Tokens.{items, pieces_in, bad_items, bad_item, bad_kind, first_of, first_fault}
use Rattle.ato_lexer.proofs.CoverLaws.{covers}
use Rattle.ato_files.specs.Lists.{text_at, Among, here, there}
use Rattle.ato_files.proofs.LexedEnds.{none_bad}

-- ---- the middle of a slice

middle : (bytes front mid back : List ℕ) (start stop q : ℕ) → take (stop - start) (drop start bytes) ≡ front ++ (mid ++ back) → stop ≡ start + length (front ++ (mid ++ back)) → length front ≡ q → length back ≡ q
    → take ((stop - q) - (start + q)) (drop (start + q) bytes) ≡ mid
middle bytes front mid back start stop q slice size f b =
    let after : List ℕ = drop (stop - start) (drop start bytes) in
    let rest : drop start bytes ≡ front ++ (mid ++ (back ++ after)) =
    sym (take-append-drop (stop - start) (drop start bytes)) ∙ ap (λ xs. xs ++ after) slice ∙ append_assoc front (mid ++ back) after ∙ ap (λ xs. front ++ xs) (append_assoc mid back after) in
    let inside : drop (start + q) bytes ≡ mid ++ (back ++ after) = sym (drop-drop q start bytes) ∙ ap (drop q) rest ∙ drop_at front (mid ++ (back ++ after)) q f in
    let long : (stop - q) - (start + q) ≡ length mid = omega (arith, length-append front (mid ++ back), length-append mid back, size, f, b) in
    ap (λ n. take n (drop (start + q) bytes)) long ∙ ap (take (length mid)) inside ∙ take-append_seam mid (back ++ after)

-- ---- characters

bytes_of : (cs : List ℕ) → length (encode_utf8_all cs) ≡ bytes_len cs
bytes_of [] = refl
bytes_of (c ∷ cs) =
    let one : bytes_len (c ∷ []) ≡ 0 + len_utf8 c = refl in
    let more : bytes_len (c ∷ cs) ≡ bytes_len (c ∷ []) + bytes_len cs = sum_by-append len_utf8 (c ∷ []) cs in
    let h : length (encode c ++ encode_utf8_all cs) ≡ bytes_len (c ∷ cs) = omega (arith, length-append (encode c) (encode_utf8_all cs), length-encode c, bytes_of cs, one, more) in
    h

and_first : (a b : Bool) → (a && b) ≡ true → a ≡ true
and_first true b h = refl
and_first false b h = absurd (cc)

and_second : (a b : Bool) → (a && b) ≡ true → b ≡ true
and_second true b h = h
and_second false b h = absurd (cc)

scalars_left : (xs ys : List ℕ) → scalars (xs ++ ys) ≡ true → scalars xs ≡ true
scalars_left [] ys h = refl
scalars_left (x ∷ xs) ys h = rw (and_first (scalar x) (scalars (xs ++ ys)) h, scalars_left xs ys (and_second (scalar x) (scalars (xs ++ ys)) h)) refl

scalars_right : (xs ys : List ℕ) → scalars (xs ++ ys) ≡ true → scalars ys ≡ true
scalars_right [] ys h = h
scalars_right (x ∷ xs) ys h = scalars_right xs ys (and_second (scalar x) (scalars (xs ++ ys)) h)

-- ---- a string is a text between quotes

-- characters with a text between two of the same length, both in ASCII
record IsQuoted (text : List ℕ) (q : ℕ) : Type 0 where
  front : List ℕ
  body : List ℕ
  back : List ℕ
  is : text ≡ front ++ (body ++ back)
  starts : length (encode_utf8_all front) ≡ q
  ends : length (encode_utf8_all back) ≡ q

quote_size : (q : ℕ) → is_quote q ≡ true → q < 128
quote_size q is = grind (arith, nat_tests)

one_quote : (q : ℕ) → is_quote q ≡ true → length (encode_utf8_all (q ∷ [])) ≡ 1
one_quote q is = let e = encode_ascii q (quote_size q is) in rw e refl

three_quotes : (q : ℕ) → is_quote q ≡ true → length (encode_utf8_all (three q)) ≡ 3
three_quotes q is = let e = encode_ascii q (quote_size q is) in simp e

is_quoted : (quotes : ℕ) (text : List ℕ) → Spells (kinds.string quotes) text → IsQuoted text quotes
is_quoted quotes text (string q body is no_quote) = record { front = q ∷ []; body = body; back = q ∷ []; is = refl; starts = one_quote q is; ends = one_quote q is }
is_quoted quotes text (triple q body is first) = record { front = three q; body = body; back = three q; is = refl; starts = three_quotes q is; ends = three_quotes q is }

text_between : (bytes text : List ℕ) (start stop quotes : ℕ) → scalars text ≡ true → IsQuoted text quotes → take (stop - start) (drop start bytes) ≡ encode_utf8_all text → stop ≡ start + bytes_len text
    → IsUtf8 (take ((stop - quotes) - (start + quotes)) (drop (start + quotes) bytes))
text_between bytes text start stop quotes good q slice size =
    let parts : encode_utf8_all text ≡ encode_utf8_all q.front ++ (encode_utf8_all q.body ++ encode_utf8_all q.back) =
    ap encode_utf8_all q.is ∙ encodes-append q.front (q.body ++ q.back) ∙ ap (λ xs. encode_utf8_all q.front ++ xs) (encodes-append q.body q.back) in
    let body : scalars q.body ≡ true = scalars_left q.body q.back (scalars_right q.front (q.body ++ q.back) (subst (λ xs. scalars xs ≡ true) q.is good)) in
    let long : stop ≡ start + length (encode_utf8_all q.front ++ (encode_utf8_all q.body ++ encode_utf8_all q.back)) = size ∙ ap (λ n. start + n) (sym (bytes_of text) ∙ ap length parts) in
    (q.body, (body, sym (middle bytes (encode_utf8_all q.front) (encode_utf8_all q.body) (encode_utf8_all q.back) start stop quotes (slice ∙ parts) long q.starts q.ends)))

-- ---- the pieces of a file

-- what the laws of the lexer say of pieces
pub record PieceLaws : Type 0 where
  pub slices : (bytes : List ℕ) → is_utf8 bytes ≡ true → All (λ (p : Placed). take (p.end - p.start) (drop p.start bytes) ≡ encode_utf8_all p.piece.text) (pieces_in bytes)
  pub cut : (text : List ℕ) → list_all (λ (p : Piece). not (is_bad p.kind)) (pieces_of text) ≡ true → IsCut text (pieces_of text)
  pub tokens : (bytes : List ℕ) (file : FileId) → first_fault file bytes ≡ None → filter_map item_piece (items bytes) ≡ filter (λ (p : Placed). is_token p.piece.kind) (pieces_in bytes)

-- what holds of all holds of each
of_each : {X : Type 0} (P : X → Type 0) {x : X} (xs : List X) → All P xs → Among x xs → P x
of_each P [] all a = elim a [ ]
of_each P (x ∷ xs) all here = All-head P x xs all
of_each P (x ∷ xs) all (there a) = of_each P xs (All-tail P x xs all) a

pub each_of : {X : Type 0} (P : X → Type 0) (xs : List X) → ((x : X) → Among x xs → P x) → All P xs
each_of P [] f = All-nil P
each_of P (x ∷ xs) f = All-cons P x xs (f x here) (each_of P xs (λ y a. f y (there a)))

-- one of some kept items is one of all
kept_by : {X : Type 0} {x : X} (b : Bool) (y : X) (ys zs : List X) → Among x (if b then y ∷ zs else zs) → (Among x zs → Among x ys) → Among x (y ∷ ys)
kept_by true y ys zs here more = here
kept_by true y ys zs (there a) more = there (more a)
kept_by false y ys zs a more = there (more a)

pub of_kept : {X : Type 0} (t : X → Bool) {x : X} (xs : List X) → Among x (filter t xs) → Among x xs
of_kept t [] a = a
of_kept t (y ∷ ys) a = kept_by (t y) y ys (filter t ys) a (of_kept t ys)

-- a piece with its place is one of the pieces, and has the bytes of its characters
record IsPlaced (ps : List Piece) (p : Placed) : Type 0 where
  among : Among p.piece ps
  size : p.end ≡ p.start + bytes_len p.piece.text

is_placed : (ps : List Piece) (at : ℕ) {p : Placed} → Among p (placed at ps) → IsPlaced ps p
is_placed [] at a = elim a [ ]
is_placed (q ∷ ps) at here = record { among = here; size = refl }
is_placed (q ∷ ps) at (there a) = let more = is_placed ps (at + bytes_len q.text) a in record { among = there more.among; size = more.size }

-- the characters of a piece are some of the text's
piece_scalars : (ps : List Piece) {p : Piece} → scalars (flat_map (λ (q : Piece). q.text) ps) ≡ true → Among p ps → scalars p.text ≡ true
piece_scalars [] good a = elim a [ ]
piece_scalars (p ∷ ps) good here = scalars_left p.text (flat_map (λ (q : Piece). q.text) ps) good
piece_scalars (q ∷ ps) good (there a) = piece_scalars ps (scalars_right q.text (flat_map (λ (q : Piece). q.text) ps) good) a

-- without a fault among the items no piece is one
good_kind : (p : Placed) (k : Kind) (rest : List Item) → bad_item p (bad_kind k) ++ rest ≡ [] → (is_bad k ≡ false) × (rest ≡ [])
good_kind p kinds.blank rest h = (refl, h)
good_kind p kinds.comment rest h = (refl, h)
good_kind p kinds.line_end rest h = (refl, h)
good_kind p kinds.name rest h = (refl, h)
good_kind p (kinds.keyword w) rest h = (refl, h)
good_kind p kinds.number rest h = (refl, h)
good_kind p (kinds.string n) rest h = (refl, h)
good_kind p (kinds.mark m) rest h = (refl, h)
good_kind p kinds.bad_char rest h = absurd (cc)
good_kind p kinds.open_string rest h = absurd (cc)

abbrev are_good : List Piece → Bool
are_good ps = list_all (λ (p : Piece). not (is_bad p.kind)) ps

good_pieces : (ps : List Piece) (at : ℕ) → bad_items (placed at ps) ≡ [] → are_good ps ≡ true
good_pieces [] at h = refl
good_pieces (p ∷ ps) at h =
    let both = good_kind (record { piece = p; start = at; end = at + bytes_len p.text }) p.kind (bad_items (placed (at + bytes_len p.text) ps)) h in
    rw (both.0, good_pieces ps (at + bytes_len p.text) both.1) refl

spelled : {p : Piece} (text : List ℕ) (ps : List Piece) → IsCut text ps → Among p ps → Spells p.kind p.text
spelled _ _ over a = elim a [ ]
spelled _ _ (next p rest ps is more) here = is.spelled
spelled _ _ (next p rest ps is more) (there a) = spelled rest ps more a

module _ (laws : PieceLaws) where
  string_spelled : (text : List ℕ) (p : Piece) (quotes : ℕ) → are_good (pieces text) ≡ true → Among p (pieces text) → p.kind ≡ kinds.string quotes → Spells (kinds.string quotes) p.text
  unfolding pieces
  string_spelled text p quotes good a is = by (begins (0xFEFF ∷ []) text) good a
    where
      cut_at : (xs : List ℕ) → are_good (pieces_of xs) ≡ true → Among p (pieces_of xs) → Spells (kinds.string quotes) p.text
      cut_at xs good a = subst (λ k. Spells k p.text) is (spelled xs (pieces_of xs) (laws.cut xs good) a)

      in_front : (q : Piece) (ps : List Piece) → q.kind ≡ kinds.blank → Among p (q ∷ ps) → Among p ps
      in_front q ps k here = let no : kinds.blank ≡ kinds.string quotes = sym k ∙ is in absurd (cc)
      in_front q ps k (there a) = a

      by : (b : Bool) → are_good (if b then piece kinds.blank 1 text ∷ pieces_of (drop 1 text) else pieces_of text) ≡ true
          → Among p (if b then piece kinds.blank 1 text ∷ pieces_of (drop 1 text) else pieces_of text) → Spells (kinds.string quotes) p.text
      by true good a = cut_at (drop 1 text) good (in_front (piece kinds.blank 1 text) (pieces_of (drop 1 text)) refl a)
      by false good a = cut_at text good a

  pub string_text : (bytes : List ℕ) (file : FileId) (p : Placed) (quotes : ℕ) → is_utf8 bytes ≡ true → first_of file (items bytes) ≡ None → Among p (pieces_in bytes) → p.piece.kind ≡ kinds.string quotes
      → IsUtf8 (text_at bytes (record { file = file; start = p.start + quotes; end = p.end - quotes }))
  string_text bytes file p quotes utf8 sound a is =
      let placed = is_placed (pieces (chars bytes)) 0 a in
      let good = good_pieces (pieces (chars bytes)) 0 (none_bad file bytes sound) in
      let chars_good : scalars (flat_map (λ (q : Piece). q.text) (pieces (chars bytes))) ≡ true = ap scalars (covers (chars bytes)) ∙ scalars-chars bytes (IsUtf8-from_is_utf8 bytes utf8) in
      text_between bytes p.piece.text p.start p.end quotes (piece_scalars (pieces (chars bytes)) chars_good placed.among)
      (is_quoted quotes p.piece.text (string_spelled (chars bytes) p.piece quotes good placed.among is))
      (of_each (λ (q : Placed). take (q.end - q.start) (drop q.start bytes) ≡ encode_utf8_all q.piece.text) (pieces_in bytes) (laws.slices bytes utf8) a) placed.size
