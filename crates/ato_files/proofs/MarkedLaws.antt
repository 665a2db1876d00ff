-- Items that are marked because of an earlier one, and their faults, one after another.
use Rattle.std.proofs.Common.{ap, refl, sym, ◌∙◌, ◌+◌, get_or, append_assoc, append-nil}
use Rattle.std.specs.Prelude.{◌≡◌, ℕ, ◌<◌, Bool, true, false, ◌||◌, cond, List, [], ◌∷◌, ◌++◌, map, Option, length, take}
use Rattle.std.specs.List.{list_any}
use Rattle.std.proofs.lemmas.List.{take_more, map-append}
use Rattle.ato_base.specs.declared.faults.Fault.{Fault}
use Rattle.ato_files.specs.Noted.{noted}
use Rattle.ato_files.proofs.NotedLaws.{noted_append}

or_swap : (a b c : Bool) → (a || (b || c)) ≡ (b || (a || c))
or_swap true true c = refl
or_swap true false c = refl
or_swap false true c = refl
or_swap false false c = refl

-- where an item stands does not matter
pub any_moved : {X : Type 0} (p : X → Bool) (xs : List X) (y : X) (ys : List X) → (p y || list_any p (xs ++ ys)) ≡ list_any p (xs ++ y ∷ ys)
any_moved p [] y ys = refl
any_moved p (x ∷ xs) y ys = or_swap (p y) (p x) (list_any p (xs ++ ys)) ∙ ap (λ v. p x || v) (any_moved p xs y ys)

-- an item, where it is marked
abbrev pub single : {X : Type 0} → Bool → X → List X
single v x = cond v (x ∷ []) []

-- Which items are marked is told by a test on the item and an earlier one.
module _ {X : Type 0} (test : X → X → Bool) where
  abbrev pub marked : List X → List X → List X
  marked seen [] = []
  marked seen (x ∷ more) = single (list_any (test x) seen) x ++ marked (x ∷ seen) more

  marked_push : (seen xs : List X) (x : X) → marked seen (xs ++ x ∷ []) ≡ marked seen xs ++ single (list_any (test x) (seen ++ xs)) x
  marked_push seen [] x = append-nil (single (list_any (test x) seen) x) ∙ ap (λ s. single (list_any (test x) s) x) (sym (append-nil seen))
  marked_push seen (y ∷ xs) x =
      let front = single (list_any (test y) seen) y in
      ap (λ z. front ++ z) (marked_push (y ∷ seen) xs x)
      ∙ sym (append_assoc front (marked (y ∷ seen) xs) (single (list_any (test x) ((y ∷ seen) ++ xs)) x))
      ∙ ap (λ v. (front ++ marked (y ∷ seen) xs) ++ single v x) (any_moved (test x) seen y xs)

  module _ (mark : X → Fault) where
    map_single : (v : Bool) (x : X) → map mark (single v x) ≡ single v (mark x)
    map_single true x = refl
    map_single false x = refl

    noted_push : (kept : Option Fault) (seen xs : List X) (x : X)
        → noted kept (map mark (marked seen (xs ++ x ∷ []))) ≡ noted (noted kept (map mark (marked seen xs))) (single (list_any (test x) (seen ++ xs)) (mark x))
    noted_push kept seen xs x =
        ap (λ z. noted kept (map mark z)) (marked_push seen xs x)
        ∙ ap (noted kept) (map-append mark (marked seen xs) (single (list_any (test x) (seen ++ xs)) x))
        ∙ noted_append kept (map mark (marked seen xs)) (map mark (single (list_any (test x) (seen ++ xs)) x))
        ∙ ap (noted (noted kept (map mark (marked seen xs)))) (map_single (list_any (test x) (seen ++ xs)) x)

    -- one item more
    pub noted_marked : (kept before now : Option Fault) (seen xs : List X) (i : ℕ) (d : X) (v : Bool) → i < length xs → before ≡ noted kept (map mark (marked seen (take i xs)))
        → v ≡ list_any (test (get_or xs i d)) (seen ++ take i xs) → now ≡ noted before (single v (mark (get_or xs i d)))
        → now ≡ noted kept (map mark (marked seen (take (i + 1) xs)))
    noted_marked kept before now seen xs i d v h was is e =
        e ∙ ap (λ z. noted z (single v (mark (get_or xs i d)))) was
        ∙ ap (λ w. noted (noted kept (map mark (marked seen (take i xs)))) (single w (mark (get_or xs i d)))) is
        ∙ sym (noted_push kept seen (take i xs) (get_or xs i d))
        ∙ ap (λ z. noted kept (map mark (marked seen z))) (sym (take_more xs i d h))
