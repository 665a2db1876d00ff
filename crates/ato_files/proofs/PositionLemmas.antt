-- The first place that passes a test.
use Rattle.std.proofs.Common.{◌≡◌, ◌<◌, ℕ, zero, suc, ◌+◌, Bool, true, false, cond, nat_eq, List, [], ◌∷◌, ◌++◌, Option, Some, None, refl, sym, ap, ◌∙◌, length, nat_eq, arith}
use Rattle.std.specs.Prelude.{position, slice_get}
use Rattle.std.specs.List.{position_from}
use Rattle.std.specs.Option.{option_or, option_map}
use Rattle.std.proofs.lemmas.Bool.{eqb-true, eqb-false}
use Rattle.std.proofs.lemmas.Iterator.Adapters.{position_from-zero}

pub position_is : {X : Type 0} (p : X → Bool) (xs : List X) → position p xs ≡ position_from p 0 xs
position_is p xs = position_from-zero p xs

from_push : {X : Type 0} (p : X → Bool) (n : ℕ) (xs : List X) (y : X) → position_from p n (xs ++ y ∷ []) ≡ option_or (position_from p n xs) (cond (p y) (Some (n + length xs)) None)
from_push p n [] y = let e : n ≡ n + 0 = omega arith in ap (λ m. cond (p y) (Some m) None) e
from_push p n (x ∷ xs) y = by (p x) (let e : n + 1 + length xs ≡ n + suc (length xs) = omega arith in
    from_push p (n + 1) xs y ∙ ap (λ m. option_or (position_from p (n + 1) xs) (cond (p y) (Some m) None)) e)
  where
    by : (b : Bool) → position_from p (n + 1) (xs ++ y ∷ []) ≡ option_or (position_from p (n + 1) xs) (cond (p y) (Some (n + suc (length xs))) None)
        → cond b (Some n) (position_from p (n + 1) (xs ++ y ∷ [])) ≡ option_or (cond b (Some n) (position_from p (n + 1) xs)) (cond (p y) (Some (n + suc (length xs))) None)
    by true e = refl
    by false e = e

from_append : {X : Type 0} (p : X → Bool) (n : ℕ) (xs ys : List X) → position_from p n (xs ++ ys) ≡ option_or (position_from p n xs) (position_from p (n + length xs) ys)
from_append p n [] ys = let e : n ≡ n + 0 = omega arith in ap (λ (m : ℕ). position_from p m ys) e
from_append p n (x ∷ xs) ys = by (p x) (let e : n + 1 + length xs ≡ n + suc (length xs) = omega arith in
    from_append p (n + 1) xs ys ∙ ap (λ (m : ℕ). option_or (position_from p (n + 1) xs) (position_from p m ys)) e)
  where
    by : (b : Bool) → position_from p (n + 1) (xs ++ ys) ≡ option_or (position_from p (n + 1) xs) (position_from p (n + suc (length xs)) ys)
        → cond b (Some n) (position_from p (n + 1) (xs ++ ys)) ≡ option_or (cond b (Some n) (position_from p (n + 1) xs)) (position_from p (n + suc (length xs)) ys)
    by true e = refl
    by false e = e

-- a place that was found stays, whatever follows
pub position_stays : {X : Type 0} (p : X → Bool) (xs ys : List X) (n : ℕ) → position p xs ≡ Some n → position p (xs ++ ys) ≡ Some n
position_stays p xs ys n e = position_is p (xs ++ ys) ∙ from_append p 0 xs ys ∙ ap (λ o. option_or o (position_from p (0 + length xs) ys)) (sym (position_is p xs) ∙ e)

pub position_push : {X : Type 0} (p : X → Bool) (xs : List X) (y : X) → position p (xs ++ y ∷ []) ≡ option_or (position p xs) (cond (p y) (Some (length xs)) None)
position_push p xs y = let e : 0 + length xs ≡ length xs = omega arith in
    position_is p (xs ++ y ∷ []) ∙ from_push p 0 xs y ∙ ap (λ m. option_or (position_from p 0 xs) (cond (p y) (Some m) None)) e
    ∙ ap (λ o. option_or o (cond (p y) (Some (length xs)) None)) (sym (position_is p xs))

-- the same with a function after it
pub map_or : {A B : Type 0} (f : A → B) (o p : Option A) → option_map f (option_or o p) ≡ option_or (option_map f o) (option_map f p)
map_or f None p = refl
map_or f (Some x) p = refl

pub map_cond : {A B : Type 0} (f : A → B) (b : Bool) (x : A) → option_map f (cond b (Some x) None) ≡ cond b (Some (f x)) None
map_cond f true x = refl
map_cond f false x = refl

-- none passes before the first one
none_from : {X : Type 0} (p : X → Bool) (n : ℕ) (xs : List X) → ((i : ℕ) (x : X) → slice_get xs i ≡ Some x → p x ≡ false) → position_from p n xs ≡ None
none_from p n [] h = refl
none_from p n (x ∷ xs) h = ap (λ b. cond b (Some n) (position_from p (n + 1) xs)) (h 0 x refl) ∙ none_from p (n + 1) xs (λ i y e. h (suc i) y e)

pub position_none : {X : Type 0} (p : X → Bool) (xs : List X) → ((i : ℕ) (x : X) → slice_get xs i ≡ Some x → p x ≡ false) → position p xs ≡ None
position_none p xs h = position_is p xs ∙ none_from p 0 xs h

first_from : {X : Type 0} (p : X → Bool) (n : ℕ) (xs : List X) (i : ℕ) (x : X) → slice_get xs i ≡ Some x → p x ≡ true → ((k : ℕ) (y : X) → k < i → slice_get xs k ≡ Some y → p y ≡ false) → position_from p n xs ≡ Some (n + i)
first_from p n [] i x e t h = cc
first_from p n (y ∷ xs) zero x e t h = let same : y ≡ x = cc in let z : n ≡ n + zero = omega arith in ap (λ b. cond b (Some n) (position_from p (n + 1) xs)) (ap p same ∙ t) ∙ ap Some z
first_from p n (y ∷ xs) (suc i) x e t h = let s : n + 1 + i ≡ n + suc i = omega arith in
    ap (λ b. cond b (Some n) (position_from p (n + 1) xs)) (h 0 y (omega arith) refl) ∙ first_from p (n + 1) xs i x e t (λ k z l g. h (suc k) z (omega arith) g) ∙ ap Some s

pub position_first : {X : Type 0} (p : X → Bool) (xs : List X) (i : ℕ) (x : X) → slice_get xs i ≡ Some x → p x ≡ true → ((k : ℕ) (y : X) → k < i → slice_get xs k ≡ Some y → p y ≡ false) → position p xs ≡ Some i
position_first p xs i x e t h = let z : 0 + i ≡ i = omega arith in position_is p xs ∙ first_from p 0 xs i x e t h ∙ ap Some z

-- one more that does not pass
pub none_more : {X : Type 0} (p : X → Bool) (xs : List X) (i : ℕ) (x : X) → slice_get xs i ≡ Some x → p x ≡ false → ((k : ℕ) (y : X) → k < i → slice_get xs k ≡ Some y → p y ≡ false)
    → (k : ℕ) (y : X) → k < i + 1 → slice_get xs k ≡ Some y → p y ≡ false
none_more p xs i x at e h k y l f = by (nat_eq k i) refl
  where
    by : (b : Bool) → nat_eq k i ≡ b → p y ≡ false
    by true s = let here = eqb-true k i s in let both : Some y ≡ Some x = sym f ∙ ap (slice_get xs) here ∙ at in let same : y ≡ x = cc in ap p same ∙ e
    by false s = let other = eqb-false k i s in h k y (omega arith) f
