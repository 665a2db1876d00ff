-- The piece in front of a text, and the pieces of what follows it.
use Rattle.std.proofs.Common.{◌≡◌, ℕ, zero, suc, ◌+◌, ◌<◌, ◌≤◌, List, [], ◌∷◌, ◌++◌, length, take, drop, refl, sym, ap, ◌∙◌, subst, length-append, length-drop, take-append-drop, arith}
use Rattle.std.specs.Prelude.{IsUtf8, Bool, true, false}
use Rattle.std.specs.Char.{len_utf8}
use Rattle.std.specs.Str.{chars}
use Rattle.std.proofs.lemmas.Str.{encodes-chars, len_utf8_bounds}
use Rattle.std.proofs.lemmas.List.Sums.{sum_by-append}
use Rattle.ato_units.specs.LiteralReading.{before}
use Rattle.ato_units.specs.Spellings.{HasEnd}
use Rattle.ato_units.proofs.Cutting.{before_seam}
use Rattle.ato_lexer.specs.Pieces.{Kind, Piece, front_piece, front_of, pieces_within, pieces_of, is_bad}
use Rattle.ato_lexer.specs.Pieces as pieces
use Rattle.ato_lexer.specs.Lines.{bytes_len}
use Rattle.ato_lexer.specs.Puts.{HasQuotes, IsFirst}
use Rattle.ato_lexer.specs.Shapes.{kind_of_shape}
use Rattle.ato_lexer.specs.Spellings.{Spells}
use Rattle.ato_lexer.specs.Spellings as spellings
use Rattle.ato_lexer.specs.declared.pieces.Shape.{Shape}
use Rattle.ato_lexer.specs.declared.pieces.Shape.TheVariants as shapes
use Rattle.ato_lexer.proofs.CoverLaws.{front_taken}
use Rattle.ato_lexer.proofs.CutLaws.{front_of_spelled}
use Rattle.ato_lexer.proofs.OrderLaws.{bytes_of}

-- pieces that are looked for far enough are the same
far_enough : (m n : ℕ) (text : List ℕ) → length text ≤ m → length text ≤ n → pieces_within m text ≡ pieces_within n text
unfolding pieces_within
far_enough zero zero text h k = refl
far_enough zero (suc n) [] h k = refl
far_enough (suc m) zero [] h k = refl
far_enough (suc m) (suc n) [] h k = refl
far_enough zero n (c ∷ cs) h k = absurd (omega (arith, h))
far_enough (suc m) zero (c ∷ cs) h k = absurd (omega (arith, k))
far_enough (suc m) (suc n) (c ∷ cs) h k =
    let size = length (front_piece c cs).text in
    let some = (front_taken c cs).some in
    ap (λ ps. front_piece c cs ∷ ps) (far_enough m n (drop size (c ∷ cs)) (omega (arith, length-drop size (c ∷ cs), some, h)) (omega (arith, length-drop size (c ∷ cs), some, k)))

first_and_more : (c : ℕ) (cs : List ℕ) → pieces_of (c ∷ cs) ≡ front_piece c cs ∷ pieces_of (drop (length (front_piece c cs).text) (c ∷ cs))
unfolding pieces_within
first_and_more c cs =
    let size = length (front_piece c cs).text in
    ap (λ ps. front_piece c cs ∷ ps) (far_enough (length cs) (length (drop size (c ∷ cs))) (drop size (c ∷ cs)) (omega (arith, length-drop size (c ∷ cs), (front_taken c cs).some)) (omega arith))

-- a text has as many bytes as its characters take
pub size_of : (text : List ℕ) → IsUtf8 text → bytes_len (chars text) ≡ length text
size_of text h = sym (bytes_of (chars text)) ∙ ap length (encodes-chars text h)

pub bytes_append : (xs ys : List ℕ) → bytes_len (xs ++ ys) ≡ bytes_len xs + bytes_len ys
bytes_append xs ys = sum_by-append len_utf8 xs ys

-- a string has room for its quotes
abbrev HasRoomFor : Kind → ℕ → Type 0
HasRoomFor (pieces.string quotes) size = quotes + quotes ≤ size
HasRoomFor kind size = Unit {0}

spelled_room : (kind : Kind) (text : List ℕ) → Spells kind text → HasRoomFor kind (length text)
spelled_room kind text spellings.space = tt
spelled_room kind text spellings.tab = tt
spelled_room kind text spellings.feed = tt
spelled_room kind text spellings.return_feed = tt
spelled_room kind text (spellings.comment cs h) = tt
spelled_room kind text (spellings.name h k) = tt
spelled_room kind text (spellings.keyword k) = tt
spelled_room kind text (spellings.number parts h) = tt
spelled_room kind text (spellings.string q body h k) = omega (arith, length-append body (q ∷ []))
spelled_room kind text (spellings.triple q body h k) = omega (arith, length-append body (q ∷ q ∷ q ∷ []))
spelled_room kind text (spellings.mark m) = tt
spelled_room kind text spellings.plus_minus = tt

-- a text has a byte for each character at least
chars_fit : (cs : List ℕ) → length cs ≤ bytes_len cs
chars_fit [] = omega arith
chars_fit (c ∷ cs) = omega (arith, bytes_append (c ∷ []) cs, one, len_utf8_bounds c, chars_fit cs)
  where
    one : bytes_len (c ∷ []) ≡ 0 + len_utf8 c
    one = refl

quotes_fit : (shape : Shape) (size bytes : ℕ) → size ≤ bytes → HasRoomFor (kind_of_shape shape) size → HasQuotes shape 0 bytes
quotes_fit shapes.Blank size bytes h k = tt
quotes_fit shapes.Comment size bytes h k = tt
quotes_fit shapes.LineEnd size bytes h k = tt
quotes_fit shapes.Name size bytes h k = tt
quotes_fit (shapes.Keyword word) size bytes h k = tt
quotes_fit shapes.Number size bytes h k = tt
quotes_fit (shapes.Str quotes) size bytes h k = omega (arith, h, k)
quotes_fit (shapes.Mark m) size bytes h k = tt
quotes_fit shapes.BadChar size bytes h k = tt
quotes_fit shapes.OpenString size bytes h k = tt

bad_room : (kind : Kind) (size : ℕ) → is_bad kind ≡ true → HasRoomFor kind size
bad_room pieces.blank size h = tt
bad_room pieces.comment size h = tt
bad_room pieces.line_end size h = tt
bad_room pieces.name size h = tt
bad_room (pieces.keyword k) size h = tt
bad_room pieces.number size h = tt
bad_room (pieces.string quotes) size h = let bad : ⊥ = cc in absurd bad
bad_room (pieces.mark m) size h = tt
bad_room pieces.bad_char size h = tt
bad_room pieces.open_string size h = tt

front_room : (c : ℕ) (cs : List ℕ) (b : Bool) → is_bad (front_piece c cs).kind ≡ b → HasRoomFor (front_piece c cs).kind (length (front_piece c cs).text)
front_room c cs true h = bad_room (front_piece c cs).kind _ h
front_room c cs false h = spelled_room _ _ (front_of_spelled (c ∷ cs) h)

-- what a piece in front is in bytes, where the characters are known
first_of_chars : (text front rest : List ℕ) (shape : Shape) (cs : List ℕ) → IsUtf8 text → IsUtf8 front → IsUtf8 rest → chars text ≡ cs
    → kind_of_shape shape ≡ (front_of cs).kind → chars rest ≡ drop (length (front_of cs).text) cs → chars front ≡ before cs (chars rest)
    → length rest < length text → IsFirst text shape front rest
first_of_chars text front rest shape [] utf8 front_utf8 rest_utf8 is kind behind cut shorter = absurd (omega (arith, shorter, sym (size_of text utf8) ∙ ap bytes_len is))
first_of_chars text front rest shape (c ∷ cs) utf8 front_utf8 rest_utf8 is kind behind cut shorter =
    let p = front_piece c cs in
    let whole : c ∷ cs ≡ p.text ++ chars rest =
    sym (take-append-drop (length p.text) (c ∷ cs)) ∙ ap (λ xs. xs ++ drop (length p.text) (c ∷ cs)) (front_taken c cs).front ∙ ap (λ xs. p.text ++ xs) (sym behind) in
    let front_is : chars front ≡ p.text = cut ∙ before_seam (c ∷ cs) p.text (chars rest) whole in
    let bytes : length front + length rest ≡ length text =
    omega (arith, size_of front front_utf8, size_of rest rest_utf8, sym (size_of text utf8) ∙ ap bytes_len (is ∙ whole), bytes_append p.text (chars rest), ap bytes_len front_is) in
    record {
      pieces = ap pieces_of is ∙ first_and_more c cs ∙ (λ i. record { kind = sym kind i; text = sym front_is i } ∷ pieces_of (sym behind i));
      size = size_of front front_utf8;
      bytes = bytes;
      some = omega (arith, bytes, shorter);
      utf8 = rest_utf8;
      quotes = quotes_fit shape (length p.text) (length front) (omega (arith, chars_fit p.text, size_of front front_utf8, ap bytes_len front_is))
          (subst (λ k. HasRoomFor k (length p.text)) (sym kind) (front_room c cs (is_bad p.kind) refl));
    }

pub first_piece : (text front rest : List ℕ) (shape : Shape) → IsUtf8 text → IsUtf8 front → IsUtf8 rest
    → kind_of_shape shape ≡ (front_of (chars text)).kind → chars rest ≡ drop (length (front_of (chars text)).text) (chars text) → chars front ≡ before (chars text) (chars rest)
    → length rest < length text → IsFirst text shape front rest
first_piece text front rest shape utf8 front_utf8 rest_utf8 = first_of_chars text front rest shape (chars text) utf8 front_utf8 rest_utf8 refl

-- what is left behind some characters ends a text
pub drop_end : (n : ℕ) (text rest : List ℕ) → rest ≡ drop n text → HasEnd text rest
drop_end n text rest h = record { front = take n text; text_is = sym (take-append-drop n text) ∙ ap (λ xs. take n text ++ xs) (sym h) }
