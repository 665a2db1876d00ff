-- Keywords compared by their bytes and by their characters.
use Rattle.std.proofs.Common.{◌≡◌, ℕ, List, [], ◌∷◌, Option, refl, ap, ◌∙◌}
use lib.Utf8.{encode}
use Rattle.std.specs.List.{find}
use Rattle.std.specs.Str.{chars, IsUtf8, bytes_eq, encode_utf8_all}
use Rattle.ato_base.specs.Keywords.{keyword_text, all_keywords}
use Rattle.ato_base.specs.declared.keywords.Keyword.{Keyword}
use Rattle.ato_base.specs.declared.keywords.Keyword.TheVariants as words
use Rattle.ato_units.proofs.Words.{ascii_same}

-- a keyword is written in ASCII
ascii_keyword : (k : Keyword) → encode_utf8_all (keyword_text k) ≡ keyword_text k
unfolding encode
ascii_keyword words.Module = refl
ascii_keyword words.Component = refl
ascii_keyword words.Interface = refl
ascii_keyword words.From = refl
ascii_keyword words.Import = refl
ascii_keyword words.New = refl
ascii_keyword words.Signal = refl
ascii_keyword words.Pin = refl
ascii_keyword words.Assert = refl
ascii_keyword words.Within = refl
ascii_keyword words.Is = refl
ascii_keyword words.To = refl
ascii_keyword words.Pass = refl
ascii_keyword words.For = refl
ascii_keyword words.In = refl
ascii_keyword words.True = refl
ascii_keyword words.False = refl

same_find : (text : List ℕ) (ks : List Keyword) → IsUtf8 text → find (λ k. bytes_eq text (keyword_text k)) ks ≡ find (λ k. bytes_eq (chars text) (keyword_text k)) ks
same_find text [] u = refl
same_find text (k ∷ ks) u = rw (ascii_same text (keyword_text k) u (ascii_keyword k), same_find text ks u) refl

-- the keyword that the bytes of a text are is the one that its characters are
pub same_keyword : (text bytes : List ℕ) (o : Option Keyword) → IsUtf8 text → bytes ≡ text → o ≡ find (λ k. bytes_eq bytes (keyword_text k)) all_keywords → o ≡ find (λ k. bytes_eq (chars text) (keyword_text k)) all_keywords
same_keyword text bytes o u e h = h ∙ ap (λ (xs : List ℕ). find (λ k. bytes_eq xs (keyword_text k)) all_keywords) e ∙ same_find text all_keywords u
