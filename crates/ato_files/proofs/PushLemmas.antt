-- Items of a list with one more.
use Rattle.std.proofs.Common.{◌≡◌, ◌<◌, ℕ, zero, suc, List, [], ◌∷◌, ◌++◌, Some, refl, length, arith}
use Rattle.std.specs.Prelude.{slice_get}

pub slice_get_push_first : {X : Type 0} (xs : List X) (y : X) (i : ℕ) → i < length xs → slice_get (xs ++ y ∷ []) i ≡ slice_get xs i
slice_get_push_first [] y i h = absurd (omega arith)
slice_get_push_first (x ∷ xs) y zero h = refl
slice_get_push_first (x ∷ xs) y (suc i) h = slice_get_push_first xs y i (omega arith)

pub slice_get_push_last : {X : Type 0} (xs : List X) (y : X) (i : ℕ) → length xs ≡ i → slice_get (xs ++ y ∷ []) i ≡ Some y
slice_get_push_last [] y zero e = refl
slice_get_push_last [] y (suc i) e = absurd (omega arith)
slice_get_push_last (x ∷ xs) y zero e = absurd (omega arith)
slice_get_push_last (x ∷ xs) y (suc i) e = slice_get_push_last xs y i (omega arith)
