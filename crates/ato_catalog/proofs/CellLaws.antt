-- Laws over the cells of a row.
use Rattle.std.proofs.Common.{◌≡◌, ◌<◌, ◌≤◌, ◌+◌, ◌∷◌, [], ℕ, zero, suc, List, Bool, true, false, length, get_or, take, drop, arith, refl, add-one, drop-cons}
use Rattle.std.specs.Prelude.{◌&&◌}
use Rattle.std.specs.List.{list_all}
use Rattle.std.specs.Str.{chars, is_utf8}
use Rattle.std.proofs.lemmas.List.{drop_all}
use Rattle.std.proofs.lemmas.List.Folds.{list_all_more}

pub list_all_step : {X : Type 0} (p : X → Bool) (xs : List X) (i : ℕ) (d : X) → i < length xs → list_all p (take i xs) ≡ true → p (get_or xs i d) ≡ true → list_all p (take (i + 1) xs) ≡ true
list_all_step p xs i d inside so_far here = rw (list_all_more p xs i d inside, so_far, here) refl

and-false : (a : Bool) → (a && false) ≡ false
and-false true = refl
and-false false = refl

pub and-true : (a b : Bool) → (a && b) ≡ true → (a ≡ true) × (b ≡ true)
and-true true b e = (refl, e)
and-true false b e = cc e

pub list_all_fails : {X : Type 0} (p : X → Bool) (xs : List X) (i : ℕ) (d : X) → i < length xs → p (get_or xs i d) ≡ false → list_all p xs ≡ false
list_all_fails p [] i d inside here = absurd (omega arith)
list_all_fails p (x ∷ xs) zero d inside here = rw here refl
list_all_fails p (x ∷ xs) (suc i) d inside here = rw (list_all_fails p xs i d (omega arith) here) (and-false (p x))

pub list_all_drop_step : {X : Type 0} (p : X → Bool) (xs : List X) (i : ℕ) (d : X) → i < length xs → p (get_or xs i d) ≡ true → list_all p (drop i xs) ≡ list_all p (drop (i + 1) xs)
list_all_drop_step p xs i d inside here = rw (drop-cons xs i d, here, add-one) refl

pub list_all_drop_fails : {X : Type 0} (p : X → Bool) (xs : List X) (i : ℕ) (d : X) → i < length xs → p (get_or xs i d) ≡ false → list_all p (drop i xs) ≡ false
list_all_drop_fails p xs i d inside here = rw (drop-cons xs i d, here) refl

pub list_all_drop_end : {X : Type 0} (p : X → Bool) (xs : List X) (i : ℕ) → length xs ≤ i → list_all p (drop i xs) ≡ true
list_all_drop_end p xs i out = rw (drop_all i xs out) refl

-- what holds of each element and of the default holds of the element at any place
pub list_all_or : {X : Type 0} (p : X → Bool) (xs : List X) (i : ℕ) (d : X) → list_all p xs ≡ true → p d ≡ true → p (get_or xs i d) ≡ true
list_all_or p [] i d all past = past
list_all_or p (x ∷ xs) zero d all past = (and-true (p x) (list_all p xs) all).0
list_all_or p (x ∷ xs) (suc i) d all past = list_all_or p xs i d (and-true (p x) (list_all p xs) all).1 past

no_bytes : is_utf8 [] ≡ true
unfolding is_utf8 chars
no_bytes = refl

-- the cell at any place is text where all cells are
pub text_cell : (cells : List (List ℕ)) (i : ℕ) → list_all is_utf8 cells ≡ true → is_utf8 (get_or cells i []) ≡ true
text_cell cells i all = list_all_or is_utf8 cells i [] all no_bytes
