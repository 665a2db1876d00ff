-- What stands in a file, as the scan of its text puts it, and what follows for its tokens.
use Rattle.std.proofs.Common.{◌≡◌, ℕ, ◌+◌, List, [], ◌∷◌, length, eqb-true, refl, sym, ap, ◌∙◌, arith}
use Rattle.std.specs.Prelude.{Bool, true, false, Some, None, IsUtf8, if◌then◌else◌, ◌==◌, ◌&&◌}
use Rattle.std.specs.Str.{chars}
use Rattle.std.proofs.lemmas.Str.{is_utf8-from_IsUtf8}
use Rattle.ato_base.specs.declared.faults.Refusal.{Refusal}
use Rattle.ato_base.specs.declared.faults.Refusal.TheVariants as refusals
use Rattle.ato_base.specs.declared.places.FileId.{FileId}
use Rattle.ato_base.specs.declared.tokens.Token.{Token}
use Rattle.ato_lexer.specs.Fronts.{begins}
use Rattle.ato_lexer.specs.Lines.{placed, bytes_len}
use Rattle.ato_lexer.specs.Pieces.{Piece, piece, blank, pieces_of, pieces}
use Rattle.ato_lexer.specs.Puts.{Puts, StopsAt}
use Rattle.ato_lexer.specs.Reading.{past_char}
use Rattle.ato_lexer.specs.Scans.{scanned}
use Rattle.ato_lexer.specs.Tokens.{AreTokens, IsRefused, items, first_fault, first_of}
use Rattle.ato_lexer.specs.Walks.{scan}
use Rattle.ato_lexer.specs.declared.scanning.Standing.TheVariants.{Between}
use Rattle.ato_lexer.proofs.FirstPieces.{size_of, bytes_append}
use Rattle.ato_lexer.proofs.PutLaws.{table_same}
use Rattle.ato_lexer.proofs.ReadingLaws.{eq_turned}
use Rattle.ato_lexer.proofs.WalkLaws.{items_scanned}

-- ---- U+FEFF at the start

equal_turned : (a b : ℕ) (t : Bool) → (a == b) ≡ t → (b == a) ≡ t
equal_turned a b t h = eq_turned b a ∙ h

begins_not : (c : ℕ) (cs : List ℕ) → (c == 0xFEFF) ≡ false → begins (0xFEFF ∷ []) (c ∷ cs) ≡ false
begins_not c cs h = ap (λ b. b && true) (equal_turned c 0xFEFF false h)

begins_so : (c : ℕ) (cs : List ℕ) → (c == 0xFEFF) ≡ true → begins (0xFEFF ∷ []) (c ∷ cs) ≡ true
begins_so c cs h = ap (λ b. b && true) (equal_turned c 0xFEFF true h)

-- the pieces of a text that does not begin with it
no_mark_pieces : (text : List ℕ) → past_char 0xFEFF text ≡ None → pieces text ≡ pieces_of text
unfolding pieces
no_mark_pieces [] h = refl
no_mark_pieces (c ∷ cs) h = by (c == 0xFEFF) refl
  where
    by : (b : Bool) → (c == 0xFEFF) ≡ b → pieces (c ∷ cs) ≡ pieces_of (c ∷ cs)
    by true e = let bad : Some cs ≡ None = sym (ap (λ d. if d then Some cs else None) e) ∙ h in absurd (cc)
    by false e = ap (λ d. if d then piece blank 1 (c ∷ cs) ∷ pieces_of cs else pieces_of (c ∷ cs)) (begins_not c cs e)

-- the pieces of a text that does
mark_pieces : (text rest : List ℕ) → past_char 0xFEFF text ≡ Some rest → (text ≡ 0xFEFF ∷ rest) × (pieces text ≡ piece blank 1 (0xFEFF ∷ []) ∷ pieces_of rest)
unfolding pieces
mark_pieces [] rest h = let bad : ⊥ = cc in absurd bad
mark_pieces (c ∷ cs) rest h = by (c == 0xFEFF) refl
  where
    by : (b : Bool) → (c == 0xFEFF) ≡ b → (c ∷ cs ≡ 0xFEFF ∷ rest) × (pieces (c ∷ cs) ≡ piece blank 1 (0xFEFF ∷ []) ∷ pieces_of rest)
    by false e = let bad : None ≡ Some rest = sym (ap (λ d. if d then Some cs else None) e) ∙ h in absurd (cc)
    by true e =
        let same : Some cs ≡ Some rest = sym (ap (λ d. if d then Some cs else None) e) ∙ h in
        let more : cs ≡ rest = cc in
        let first : c ≡ 0xFEFF = eqb-true c 0xFEFF e in (
          (λ i. first i ∷ more i),
          ap (λ d. if d then piece blank 1 (c ∷ cs) ∷ pieces_of cs else pieces_of (c ∷ cs)) (begins_so c cs e) ∙ (λ i. record { kind = blank; text = first i ∷ [] } ∷ pieces_of (more i)),
        )

pub no_mark : (text : List ℕ) → past_char 0xFEFF (chars text) ≡ None → items text ≡ scanned 0 text
no_mark text h =
    let whole : length text ≡ 0 + length text = omega arith in
    items_scanned text ∙ ap (λ ps. scan (length text) [] (Between 0) (placed 0 ps)) (no_mark_pieces (chars text) h)
    ∙ ap (λ n. scan n [] (Between 0) (placed 0 (pieces_of (chars text)))) whole

-- it puts nothing, and takes no column
mark_put : (size : ℕ) (ps : List Piece) → scan size [] (Between 0) (placed 0 (piece blank 1 (0xFEFF ∷ []) ∷ ps)) ≡ scan size [] (Between 0) (placed 3 ps)
unfolding scan
mark_put size ps = refl

pub mark_size : (text rest : List ℕ) → IsUtf8 text → IsUtf8 rest → past_char 0xFEFF (chars text) ≡ Some (chars rest) → length text ≡ 3 + length rest
mark_size text rest utf8 rest_utf8 h =
    let is = (mark_pieces (chars text) (chars rest) h).0 in
    let one : bytes_len (0xFEFF ∷ []) ≡ 3 = refl in
    omega (arith, sym (size_of text utf8) ∙ ap bytes_len is, bytes_append (0xFEFF ∷ []) (chars rest), one, size_of rest rest_utf8)

pub a_mark : (text rest : List ℕ) → IsUtf8 text → IsUtf8 rest → past_char 0xFEFF (chars text) ≡ Some (chars rest) → items text ≡ scanned 3 rest
a_mark text rest utf8 rest_utf8 h =
    let whole = mark_size text rest utf8 rest_utf8 h in
    items_scanned text ∙ ap (λ ps. scan (length text) [] (Between 0) (placed 0 ps)) (mark_pieces (chars text) (chars rest) h).1
    ∙ mark_put (length text) (pieces_of (chars rest))
    ∙ ap (λ n. scan n [] (Between 0) (placed 3 (pieces_of (chars rest)))) whole

-- ---- tokens or a fault

text_fault : (file : FileId) (bytes : List ℕ) → IsUtf8 bytes → first_fault file bytes ≡ first_of file (items bytes)
unfolding first_fault
text_fault file bytes h = rw (is_utf8-from_IsUtf8 bytes h) refl

pub tokens_put : (file : FileId) (bytes : List ℕ) (old new : List (List ℕ)) (tokens : List Token) → IsUtf8 bytes → Puts file old new [] tokens (items bytes) → AreTokens bytes file old new tokens
tokens_put file bytes old new tokens utf8 h = record {
  no_fault = text_fault file bytes utf8 ∙ h.sound;
  names_are = h.names;
  tokens_are = h.tokens new (table_same new);
}

pub fault_put : (file : FileId) (bytes : List ℕ) (r : Refusal) → IsUtf8 bytes → StopsAt file (items bytes) r → IsRefused bytes file r
fault_put file bytes (refusals.Fault f) utf8 h = text_fault file bytes utf8 ∙ h
fault_put file bytes refusals.NoMemory utf8 h = tt
