-- The numbers of names in a table that grows.
use Rattle.std.proofs.Common.{◌≡◌, ℕ, ◌+◌, Bool, true, false, ◌||◌, cond, not, List, [], ◌∷◌, ◌++◌, ap, sym, ◌∙◌, refl, if◌then◌else◌, append_assoc, append-nil}
use Rattle.std.specs.List.{list_any}
use Rattle.std.specs.Str.{bytes_eq}
use Rattle.std.proofs.lemmas.Slice.Eq.{bytes_eq-Decides}
use Rattle.std.proofs.lemmas.List.Folds.{list_any-append}
use Rattle.ato_base.specs.NameTable.{with_name, with_names, number_of, IsHeld, Extends}

same_text : (t : List ℕ) → bytes_eq t t ≡ true
same_text t = (bytes_eq-Decides t t).1 refl

held_step : (n : List ℕ) (names more : List (List ℕ)) (t : List ℕ) (b : Bool) → bytes_eq t n ≡ b → IsHeld (n ∷ names) t
    → (IsHeld names t → number_of (names ++ more) t ≡ number_of names t) → number_of ((n ∷ names) ++ more) t ≡ number_of (n ∷ names) t
held_step n names more t true here h rest = rw here refl
held_step n names more t false other h rest =
    ap (λ k. cond (not (bytes_eq t n)) (1 + k) 0) (rest (ap (λ b. b || list_any (bytes_eq t) names) (sym other) ∙ h))

-- A text that is held keeps its number.
pub held_number : (names more : List (List ℕ)) (t : List ℕ) → IsHeld names t → number_of (names ++ more) t ≡ number_of names t
held_number [] more t h = let bad : ⊥ = cc in absurd bad
held_number (n ∷ names) more t h = held_step n names more t (bytes_eq t n) refl h (held_number names more t)

-- A text that is put last is there, and its number is the one that it was to have.
last_number : (names : List (List ℕ)) (t : List ℕ) → number_of (names ++ t ∷ []) t ≡ number_of names t
last_number [] t = rw (same_text t) refl
last_number (n ∷ names) t = ap (λ k. cond (not (bytes_eq t n)) (1 + k) 0) (last_number names t)

pub new_number : (names : List (List ℕ)) (t : List ℕ) → number_of (with_name names t) t ≡ number_of names t
new_number names t = elim (list_any (bytes_eq t) names) as (λ b. number_of (if b then names else names ++ t ∷ []) t ≡ number_of names t) [ true ↦ refl | false ↦ last_number names t ]

pub held_more : (names more : List (List ℕ)) (t : List ℕ) → IsHeld names t → IsHeld (names ++ more) t
held_more names more t h = list_any-append (bytes_eq t) names more ∙ ap (λ b. b || list_any (bytes_eq t) more) h

or_self : (b : Bool) → (b || (true || false)) ≡ true
or_self true = refl
or_self false = refl

pub new_held : (names : List (List ℕ)) (t : List ℕ) → IsHeld (with_name names t) t
new_held names t = by (list_any (bytes_eq t) names) refl
  where
    by : (b : Bool) → list_any (bytes_eq t) names ≡ b → list_any (bytes_eq t) (if b then names else names ++ t ∷ []) ≡ true
    by true e = e
    by false e = list_any-append (bytes_eq t) names (t ∷ []) ∙ ap (λ b. list_any (bytes_eq t) names || (b || false)) (same_text t) ∙ or_self (list_any (bytes_eq t) names)

-- A table grows by what is mentioned.

pub extends_more : (a b c : List (List ℕ)) → Extends a b → Extends b c → Extends a c
extends_more a b c (x, p) (y, q) = (x ++ y, q ∙ ap (λ l. l ++ y) p ∙ append_assoc a x y)

-- a table after one more text, and after more of them
one_extends : (names : List (List ℕ)) (t : List ℕ) → Extends names (with_name names t)
one_extends names t = by (list_any (bytes_eq t) names)
  where
    by : (b : Bool) → Extends names (if b then names else names ++ t ∷ [])
    by true = ([], sym (append-nil names))
    by false = (t ∷ [], refl)

pub all_extend : (names texts : List (List ℕ)) → Extends names (with_names names texts)
all_extend names [] = ([], sym (append-nil names))
all_extend names (t ∷ texts) = extends_more names (with_name names t) (with_names names (t ∷ texts)) (one_extends names t) (all_extend (with_name names t) texts)

-- Texts may be mentioned in two runs.
pub with_names-append : (names xs ys : List (List ℕ)) → with_names names (xs ++ ys) ≡ with_names (with_names names xs) ys
with_names-append names [] ys = refl
with_names-append names (x ∷ xs) ys = with_names-append (with_name names x) xs ys

-- the same at a table that is equal to the grown one

pub number_after : (names new : List (List ℕ)) (t : List ℕ) (n : ℕ) → new ≡ with_name names t → n ≡ number_of names t → n ≡ number_of new t
number_after names new t n e p = p ∙ sym (new_number names t) ∙ ap (λ l. number_of l t) (sym e)

pub held_after : (names new : List (List ℕ)) (t : List ℕ) → new ≡ with_name names t → IsHeld new t
held_after names new t e = ap (list_any (bytes_eq t)) e ∙ new_held names t
