-- The first place that passes a test, one item after another.
use Rattle.std.proofs.Common.{◌≡◌, ◌<◌, ◌≤◌, ℕ, ◌+◌, Bool, true, false, cond, List, [], ◌∷◌, ◌++◌, Option, Some, None, refl, sym, ap, ◌∙◌, length, take, drop, get_or, arith}
use Rattle.std.specs.Prelude.{position}
use Rattle.std.specs.Option.{option_or}
use Rattle.std.proofs.lemmas.List.{take_more, length-take-le, take-append-drop}
use Rattle.ato_files.proofs.PositionLemmas.{position_push, position_stays}

module _ {X : Type 0} (p : X → Bool) (xs : List X) (i : ℕ) (x : X) (within : i < length xs) (read : x ≡ get_or xs i x) (none : position p (take i xs) ≡ None) where
  step : position p (take (i + 1) xs) ≡ cond (p x) (Some i) None
  step = ap (position p) (take_more xs i x within ∙ ap (λ y. take i xs ++ y ∷ []) (sym read))
      ∙ position_push p (take i xs) x
      ∙ ap (λ o. option_or o (cond (p x) (Some (length (take i xs))) None)) none
      ∙ ap (λ n. cond (p x) (Some n) None) (length-take-le i xs (omega arith))

  pub passes : p x ≡ true → position p xs ≡ Some i
  passes e = ap (position p) (sym (take-append-drop (i + 1) xs))
      ∙ position_stays p (take (i + 1) xs) (drop (i + 1) xs) i (step ∙ ap (λ b. cond b (Some i) None) e)

  pub passes_not : p x ≡ false → position p (take (i + 1) xs) ≡ None
  passes_not e = step ∙ ap (λ b. cond b (Some i) None) e
