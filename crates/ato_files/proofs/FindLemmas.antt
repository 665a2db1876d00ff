-- The first that passes a test.
use Rattle.std.proofs.Common.{◌≡◌, ◌<◌, ◌+◌, ℕ, Bool, true, false, cond, List, [], ◌∷◌, ◌++◌, Some, None, refl, sym, ap, ◌∙◌, length, drop, get_or}
use Rattle.std.specs.Prelude.{find}
use Rattle.std.specs.List.{flat_map}
use Rattle.std.specs.Option.{option_or}
use Rattle.std.proofs.lemmas.List.{at_drop_more}

find-append : {X : Type 0} (p : X → Bool) (xs ys : List X) → find p (xs ++ ys) ≡ option_or (find p xs) (find p ys)
find-append p [] ys = refl
find-append p (x ∷ xs) ys = by (p x) (find-append p xs ys)
  where
    by : (b : Bool) → find p (xs ++ ys) ≡ option_or (find p xs) (find p ys) → cond b (Some x) (find p (xs ++ ys)) ≡ option_or (cond b (Some x) (find p xs)) (find p ys)
    by true e = refl
    by false e = e

module _ {X Y : Type 0} (p : Y → Bool) (f : X → List Y) (xs : List X) (i : ℕ) (x : X) (h : i < length xs) (read : x ≡ get_or xs i x)
    (was : find p (flat_map f xs) ≡ find p (flat_map f (drop i xs))) where
  next_found : find p (flat_map f xs) ≡ option_or (find p (f x)) (find p (flat_map f (drop (i + 1) xs)))
  next_found = was ∙ at_drop_more (λ ys. find p (flat_map f ys)) xs i x h ∙ find-append p (f (get_or xs i x)) (flat_map f (drop (i + 1) xs))
      ∙ ap (λ z. option_or (find p (f z)) (find p (flat_map f (drop (i + 1) xs)))) (sym read)

  pub found_here : (y : Y) → Some y ≡ find p (f x) → Some y ≡ find p (flat_map f xs)
  found_here y e = ap (λ o. option_or o (find p (flat_map f (drop (i + 1) xs)))) e ∙ sym next_found

  pub found_later : None ≡ find p (f x) → find p (flat_map f xs) ≡ find p (flat_map f (drop (i + 1) xs))
  found_later e = next_found ∙ sym (ap (λ o. option_or o (find p (flat_map f (drop (i + 1) xs)))) e)
