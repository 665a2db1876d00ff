-- What stands among the first items of lists, and passes a test.
use Rattle.std.proofs.Common.{◌≡◌, ◌<◌, ℕ, zero, suc, Bool, true, false, true≢false, List, [], ◌∷◌, take, Some, refl, sym, subst, ◌∙◌, inl, inr, arith}
use Rattle.std.specs.Prelude.{slice_get}
use Rattle.std.specs.List.{flat_map, list_any}
use Rattle.std.proofs.lemmas.Bool.{or_left, or_right, or_cases}
use Rattle.std.proofs.lemmas.Option.{none-some, same_Some}
use Rattle.ato_files.specs.Lists.{Among, here, there}
use Rattle.ato_files.proofs.FileLaws.{among_flat_map}
use Rattle.ato_instance_tree.proofs.NodesLaws.{into, out}
use Rattle.ato_instance_tree.proofs.SpotLaws.{in_flat_map}

pub in_taken : {X : Type 0} (n : ℕ) (xs : List X) (x : X) → Among x (take n xs) → Among x xs
in_taken zero [] x h = elim h [ ]
in_taken zero (y ∷ xs) x h = elim h [ ]
in_taken (suc n) [] x h = elim h [ ]
in_taken (suc n) (y ∷ xs) x here = here
in_taken (suc n) (y ∷ xs) x (there h) = there (in_taken n xs x h)

pub into_taken : {X : Type 0} (i n : ℕ) (xs : List X) (x : X) → i < n → slice_get xs i ≡ Some x → Among x (take n xs)
into_taken i n [] x l e = absurd (none-some x e)
into_taken zero zero (y ∷ xs) x l e = absurd (omega arith)
into_taken (suc i) zero (y ∷ xs) x l e = absurd (omega arith)
into_taken zero (suc n) (y ∷ xs) x l e = subst (λ z. Among x (z ∷ take n xs)) (sym (same_Some y x e)) here
into_taken (suc i) (suc n) (y ∷ xs) x l e = there (into_taken i n xs x (omega arith) e)

pub from_flat : {X Y : Type 0} (f : X → List Y) (xs : List X) (y : Y) → Among y (flat_map f xs) → (x : X) × Among x xs × Among y (f x)
from_flat f xs y h = let it = in_flat_map f y xs (into y (flat_map f xs) h) in (it.0, out it.0 xs it.1, out y (f it.0) it.2)

pub any_among : {X : Type 0} (test : X → Bool) (xs : List X) (x : X) → Among x xs → test x ≡ true → list_any test xs ≡ true
any_among test [] x m e = elim m [ ]
any_among test (y ∷ ys) x here e = or_left (test y) (list_any test ys) e
any_among test (y ∷ ys) x (there m) e = or_right (test y) (list_any test ys) (any_among test ys x m e)

pub among_any : {X : Type 0} (test : X → Bool) (xs : List X) → list_any test xs ≡ true → (x : X) × Among x xs × (test x ≡ true)
among_any test [] e = absurd (true≢false (sym e))
among_any test (x ∷ xs) e = elim (or_cases (test x) (list_any test xs) e) [
  | inl h ↦ (x, here, h)
  | inr h ↦ let it = among_any test xs h in (it.0, there it.1, it.2)
]

-- what holds of no item of the lists of the first ones holds of none of each
pub none_of : {X Y : Type 0} (test : Y → Bool) (f : X → List Y) (count i : ℕ) (xs : List X) (x : X) → list_any test (flat_map f (take count xs)) ≡ false
    → i < count → slice_get xs i ≡ Some x
    → list_any test (f x) ≡ false
none_of test f count i xs x none l e = by (list_any test (f x)) refl where
  by : (b : Bool) → list_any test (f x) ≡ b → b ≡ false
  by false g = refl
  by true g =
      let y = among_any test (f x) g in
      absurd (true≢false (sym (any_among test (flat_map f (take count xs)) y.0 (among_flat_map f (into_taken i count xs x l e) y.1) y.2) ∙ none))
