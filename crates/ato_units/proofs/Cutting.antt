-- Cutting a text where one of its ends begins.
use Rattle.std.proofs.Common.{◌≡◌, ◌≤◌, ◌-◌, ℕ, Bool, true, false, List, [], ◌∷◌, ◌++◌, length, take, refl, sym, ap, ◌∙◌, arith, subst}
use Rattle.std.specs.Str.{chars, IsUtf8, IsCharBoundary, encode_utf8_all}
use Rattle.std.proofs.lemmas.Str.{encodes-chars, encodes-append, chars-append, IsCharBoundary-at_seam, IsUtf8-take}
use Rattle.std.proofs.lemmas.List.{length-append}
use Rattle.std.proofs.Math.Seq.{take-append_seam}
use Rattle.ato_units.specs.Spellings.{HasEnd}
use Rattle.ato_units.specs.LiteralReading.{before, past, begins_with_digit, past_fraction, past_sign, past_exponent, past_number}
use Rattle.std.specs.Char.{is_ascii_digit}
use Rattle.std.proofs.lemmas.List.{append_assoc}
use Rattle.std.specs.Prelude.{if◌then◌else◌, ◌||◌, ◌&&◌, ◌==◌}

-- what follows the characters that pass a test, one character at a time
pub past_goes : (t : ℕ → Bool) (text rest : List ℕ) (c : ℕ) → text ≡ c ∷ rest → t c ≡ true → past t text ≡ past t rest
unfolding past
past_goes t text rest c e h = rw (e, h) refl

pub past_stops : (t : ℕ → Bool) (text rest : List ℕ) (c : ℕ) → text ≡ c ∷ rest → t c ≡ false → past t text ≡ text
unfolding past
past_stops t text rest c e h = rw (e, h) refl

pub past_none : (t : ℕ → Bool) (text : List ℕ) → text ≡ [] → past t text ≡ text
unfolding past
past_none t text e = rw e refl

-- the bytes of a text end with those of its end
pub ends_in_bytes : (text rest : List ℕ) → IsUtf8 text → IsUtf8 rest → (h : HasEnd (chars text) (chars rest)) → text ≡ encode_utf8_all h.front ++ rest
ends_in_bytes text rest u v h =
    sym (encodes-chars text u) ∙ ap encode_utf8_all h.text_is ∙ encodes-append h.front (chars rest) ∙ ap (λ (xs : List ℕ). encode_utf8_all h.front ++ xs) (encodes-chars rest v)

pub end_at_most : (text rest : List ℕ) → IsUtf8 text → IsUtf8 rest → HasEnd (chars text) (chars rest) → length rest ≤ length text
end_at_most text rest u v h = omega (arith, ap length (ends_in_bytes text rest u v h), length-append (encode_utf8_all h.front) rest)

seam : (text front rest : List ℕ) → text ≡ front ++ rest → length text - length rest ≡ length front
seam text front rest e = omega (arith, ap length e, length-append front rest)

pub cut_at_end : (text rest : List ℕ) → IsUtf8 text → IsUtf8 rest → HasEnd (chars text) (chars rest) → IsCharBoundary text (length text - length rest)
cut_at_end text rest u v h =
    let e = ends_in_bytes text rest u v h in
    subst (λ (n : ℕ). IsCharBoundary text n) (sym (seam text (encode_utf8_all h.front) rest e)) (IsCharBoundary-at_seam text (encode_utf8_all h.front) rest e v)

pub before_seam : (text front rest : List ℕ) → text ≡ front ++ rest → before text rest ≡ front
before_seam text front rest e =
    ap (λ (n : ℕ). take n text) (seam text front rest e) ∙ ap (λ (xs : List ℕ). take (length front) xs) e ∙ take-append_seam front rest

-- the characters before the end of a text
pub chars_before : (text rest : List ℕ) → IsUtf8 text → IsUtf8 rest → HasEnd (chars text) (chars rest)
    → chars (before text rest) ≡ before (chars text) (chars rest)
chars_before text rest u v h =
    let e = ends_in_bytes text rest u v h in
    let f = before_seam text (encode_utf8_all h.front) rest e in
    let g : text ≡ before text rest ++ rest = e ∙ ap (λ (xs : List ℕ). xs ++ rest) (sym f) in
    let w = IsUtf8-take text (length text - length rest) u (cut_at_end text rest u v h) in
    sym (before_seam (chars text) (chars (before text rest)) (chars rest) (ap chars g ∙ chars-append (before text rest) rest w))

-- what ends a text
pub end_same : (text : List ℕ) → HasEnd text text
end_same text = record { front = []; text_is = refl }

pub end_cons : (text rest : List ℕ) (c : ℕ) → text ≡ c ∷ rest → HasEnd text rest
end_cons text rest c e = record { front = c ∷ []; text_is = e }

pub end_trans : (text mid rest : List ℕ) → HasEnd text mid → HasEnd mid rest → HasEnd text rest
end_trans text mid rest a b =
    record { front = a.front ++ b.front; text_is = a.text_is ∙ ap (λ (xs : List ℕ). a.front ++ xs) b.text_is ∙ sym (append_assoc a.front b.front rest) }

end_if : (b : Bool) (text rest other : List ℕ) → HasEnd text rest → HasEnd text other → HasEnd text (if b then rest else other)
end_if true text rest other h k = h
end_if false text rest other h k = k

behind : (c : ℕ) (cs rest : List ℕ) → HasEnd cs rest → HasEnd (c ∷ cs) rest
behind c cs rest h = record { front = c ∷ h.front; text_is = ap (λ (xs : List ℕ). c ∷ xs) h.text_is }

pub past_end : (t : ℕ → Bool) (text : List ℕ) → HasEnd text (past t text)
unfolding past
past_end t [] = end_same []
past_end t (c ∷ cs) = end_if (t c) (c ∷ cs) (past t cs) (c ∷ cs) (behind c cs (past t cs) (past_end t cs)) (end_same (c ∷ cs))

pub fraction_end : (text : List ℕ) → HasEnd text (past_fraction text)
fraction_end [] = end_same []
fraction_end (c ∷ cs) =
    end_if ((c == 46) && begins_with_digit cs) (c ∷ cs) (past is_ascii_digit cs) (c ∷ cs) (behind c cs (past is_ascii_digit cs) (past_end is_ascii_digit cs)) (end_same (c ∷ cs))

sign_end : (text : List ℕ) → HasEnd text (past_sign text)
sign_end [] = end_same []
sign_end (c ∷ cs) = end_if ((c == 43) || (c == 45)) (c ∷ cs) cs (c ∷ cs) (behind c cs cs (end_same cs)) (end_same (c ∷ cs))

pub exponent_end : (text : List ℕ) → HasEnd text (past_exponent text)
exponent_end [] = end_same []
exponent_end (c ∷ cs) =
    end_if (((c == 101) || (c == 69)) && begins_with_digit (past_sign cs)) (c ∷ cs) (past is_ascii_digit (past_sign cs)) (c ∷ cs)
    (behind c cs (past is_ascii_digit (past_sign cs)) (end_trans cs (past_sign cs) (past is_ascii_digit (past_sign cs)) (sign_end cs) (past_end is_ascii_digit (past_sign cs))))
    (end_same (c ∷ cs))

pub number_end : (text : List ℕ) → HasEnd text (past_number text)
unfolding past_number
number_end text =
    end_trans text _ _ (past_end is_ascii_digit text)
    (end_trans (past is_ascii_digit text) _ _ (fraction_end (past is_ascii_digit text)) (exponent_end (past_fraction (past is_ascii_digit text))))

pub end_at : (text rest given : List ℕ) → given ≡ rest → HasEnd text rest → HasEnd text given
end_at text rest given e h = subst (λ (xs : List ℕ). HasEnd text xs) (sym e) h
