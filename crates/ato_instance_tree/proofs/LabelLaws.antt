-- Labels that were seen.
use Rattle.std.proofs.Common.{◌≡◌, ℕ, Bool, true, false, ◌||◌, List, [], ◌∷◌, ◌++◌, refl, sym, ap, ◌∙◌, cond, Bor}
use Rattle.std.specs.List.{list_any}
use Rattle.std.specs.Str.{bytes_eq}
use Rattle.std.proofs.lemmas.List.Folds.{list_any-append}
use Rattle.std.proofs.lemmas.Slice.Eq.{bytes_eq-Decides}

is_text : List ℕ → Bor (List ℕ) → Bool
is_text text key = bytes_eq text key.now

swapped : (a b : Bool) → (a || (b || false)) ≡ (b || a)
swapped true true = refl
swapped true false = refl
swapped false true = refl
swapped false false = refl

kept_case : (same held : Bool) → (same ≡ true → held ≡ true) → held ≡ (same || held)
kept_case true held h = h refl
kept_case false held h = refl

-- the texts with one more, if it is new
pub with_text : (keys : List (Bor (List ℕ))) (k : Bor (List ℕ)) (other : List ℕ)
    → list_any (λ key. bytes_eq other key.now) (cond (list_any (λ key. bytes_eq k.now key.now) keys) keys (keys ++ k ∷ [])) ≡ (bytes_eq other k.now || list_any (λ key. bytes_eq other key.now) keys)
unfolding is_text
with_text keys k other = by (list_any (is_text k.now) keys) refl
  where
    same_texts : bytes_eq other k.now ≡ true → list_any (is_text other) keys ≡ list_any (is_text k.now) keys
    same_texts e = ap (λ text. list_any (is_text text) keys) ((bytes_eq-Decides other k.now).0 e)

    by : (b : Bool) → list_any (is_text k.now) keys ≡ b → list_any (is_text other) (cond b keys (keys ++ k ∷ [])) ≡ (bytes_eq other k.now || list_any (is_text other) keys)
    by true e = kept_case (bytes_eq other k.now) (list_any (is_text other) keys) (λ s. same_texts s ∙ e)
    by false e = list_any-append (is_text other) keys (k ∷ []) ∙ swapped (list_any (is_text other) keys) (bytes_eq other k.now)
