-- Words compared by their bytes and by their characters.
use Rattle.std.proofs.Common.{◌≡◌, ℕ, Bool, true, false, List, [], ◌∷◌, refl, sym, ap, ◌∙◌, codes, if◌then◌else◌, map}
use lib.Utf8.{encode}
use Rattle.std.specs.List.{list_any}
use Rattle.std.specs.Str.{chars, IsUtf8, bytes_eq, encode_utf8_all}
use Rattle.std.proofs.lemmas.Str.{encodes-chars, encodes_same}
use Rattle.std.proofs.lemmas.Slice.Eq.{bytes_eq-Decides}
use Rattle.ato_base.specs.Keywords.{is_keyword, keyword_text, all_keywords}
use Rattle.ato_units.specs.Literals.{to, keyword, unit, word_token}

same_bool : (a b : Bool) → (a ≡ true → b ≡ true) → (b ≡ true → a ≡ true) → a ≡ b
same_bool true b f g = sym (f refl)
same_bool false true f g = g refl
same_bool false false f g = refl

-- a text of ASCII is its own bytes
pub ascii_same : (text k : List ℕ) → IsUtf8 text → encode_utf8_all k ≡ k → bytes_eq text k ≡ bytes_eq (chars text) k
ascii_same text k u e =
    same_bool (bytes_eq text k) (bytes_eq (chars text) k)
    (λ h. (bytes_eq-Decides (chars text) k).1 (encodes_same (chars text) k (encodes-chars text u ∙ (bytes_eq-Decides text k).0 h ∙ sym e)))
    (λ h. (bytes_eq-Decides text k).1 (sym (encodes-chars text u) ∙ ap encode_utf8_all ((bytes_eq-Decides (chars text) k).0 h) ∙ e))

AreAscii : List (List ℕ) → Type 0
AreAscii [] = Unit {0}
AreAscii (k ∷ ks) = (encode_utf8_all k ≡ k) × AreAscii ks

same_any : (text : List ℕ) (ks : List (List ℕ)) → IsUtf8 text → AreAscii ks → list_any (bytes_eq text) ks ≡ list_any (bytes_eq (chars text)) ks
unfolding AreAscii
same_any text [] u a = refl
same_any text (k ∷ ks) u a = rw (ascii_same text k u a.0, same_any text ks u a.1) refl

pub keyword_same : (text : List ℕ) → IsUtf8 text → is_keyword text ≡ is_keyword (chars text)
unfolding AreAscii encode
keyword_same text u = same_any text (map keyword_text all_keywords) u
    (refl, (refl, (refl, (refl, (refl, (refl, (refl, (refl, (refl, (refl, (refl, (refl, (refl, (refl, (refl, (refl, (refl, tt)))))))))))))))))

to_same : (text : List ℕ) → IsUtf8 text → bytes_eq text (codes "to") ≡ bytes_eq (chars text) (codes "to")
unfolding encode
to_same text u = ascii_same text (codes "to") u refl

-- the token of a word, by what its bytes equal
pub word_is : (text : List ℕ) (a b : Bool) → IsUtf8 text → bytes_eq text (codes "to") ≡ a → is_keyword text ≡ b
    → word_token (chars text) ≡ (if a then to else (if b then keyword else unit (chars text)))
word_is text a b u e h = by (sym (to_same text u) ∙ e) (sym (keyword_same text u) ∙ h)
  where
    by : bytes_eq (chars text) (codes "to") ≡ a → is_keyword (chars text) ≡ b → word_token (chars text) ≡ (if a then to else (if b then keyword else unit (chars text)))
    by f g = ap (λ (x : Bool). if x then to else (if is_keyword (chars text) then keyword else unit (chars text))) f
        ∙ ap (λ (x : Bool). if a then to else (if x then keyword else unit (chars text))) g
