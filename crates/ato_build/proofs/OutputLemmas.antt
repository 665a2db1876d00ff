-- Files that are put one after another.
use Rattle.std.proofs.Common.{◌≡◌, ℕ, suc, ◌<◌, ◌≤◌, ◌+◌, List, [], ◌∷◌, ◌++◌, length, take, drop, get_or, map, inl, inr, refl, ap, sym, ◌∙◌, subst, arith, take-append-drop, drop-cons, add-one}
use Rattle.std.specs.Prelude.{Option, Some, None, Ok, Err, ◌⊎◌}
use Rattle.std.proofs.lemmas.Bool.{cases_lt}
use Rattle.ato_outside.specs.Causes.{Counts}
use Rattle.ato_outside.specs.Files.{Files}
use Rattle.ato_outside.specs.Tray.{PutsWhereTold}
use Rattle.ato_outside.specs.declared.tray.TrayError.{TrayError}
use Rattle.ato_build.specs.Outputs.{PutsInOrder}
use Rattle.ato_build.specs.declared.outputs.Output.{Output}

-- one more file is put
more : (old mid new : Option Files) (outputs : List Output) (output : Output) → PutsInOrder old mid outputs None → PutsWhereTold mid new output.name output.bytes (Ok tt)
    → PutsInOrder old new (outputs ++ output ∷ []) None
more old mid new [] output h k = inl (new, subst (λ m. PutsWhereTold m new output.name output.bytes (Ok tt)) h k, refl)
more old mid new (o ∷ outputs) output (inl (m, put, rest)) k = inl (m, put, more m mid new outputs output rest k)
more old mid new (o ∷ outputs) output (inr (e, put, stop)) k = let bad : ⊥ = cc in absurd bad

pub puts_more : (old mid new : Option Files) (outputs : List Output) (output : Output) (name bytes : List ℕ) → name ≡ output.name → bytes ≡ output.bytes → PutsInOrder old mid outputs None
    → PutsWhereTold mid new name bytes (Ok tt) → PutsInOrder old new (outputs ++ output ∷ []) None
puts_more old mid new outputs output name bytes n b h k =
    more old mid new outputs output h (subst (λ x. PutsWhereTold mid new x output.bytes (Ok tt)) n (subst (λ y. PutsWhereTold mid new name y (Ok tt)) b k))

-- the tray stops at the next file
stop_at : (old mid new : Option Files) (outputs : List Output) (output : Output) (later : List Output) (error : TrayError) → PutsInOrder old mid outputs None → PutsWhereTold mid new output.name output.bytes (Err error)
    → PutsInOrder old new (outputs ++ output ∷ later) (Some (record { name = output.name; error = error }))
stop_at old mid new [] output later error h k = inr (error, subst (λ m. PutsWhereTold m new output.name output.bytes (Err error)) h k, refl)
stop_at old mid new (o ∷ outputs) output later error (inl (m, put, rest)) k = inl (m, put, stop_at m mid new outputs output later error rest k)
stop_at old mid new (o ∷ outputs) output later error (inr (e, put, stop)) k = let bad : ⊥ = cc in absurd bad

pub puts_stop : (old mid new : Option Files) (all outputs : List Output) (output : Output) (later : List Output) (error : TrayError) (name bytes : List ℕ) → name ≡ output.name → bytes ≡ output.bytes
    → all ≡ outputs ++ output ∷ later → PutsInOrder old mid outputs None → PutsWhereTold mid new name bytes (Err error) → PutsInOrder old new all (Some (record { name = output.name; error = error }))
puts_stop old mid new all outputs output later error name bytes n b is h k =
    subst (λ files. PutsInOrder old new files (Some (record { name = output.name; error = error }))) (sym is)
    (stop_at old mid new outputs output later error h (subst (λ x. PutsWhereTold mid new x output.bytes (Err error)) n (subst (λ y. PutsWhereTold mid new name y (Err error)) b k)))

-- the files are those before the next one, the next one and those after it
pub told_files : (all done : List Output) (output : Output) → map (λ o. o) done ≡ take (length done) all → (length done < length all) × (output ≡ get_or all (length done) output)
    → all ≡ done ++ output ∷ drop (length done + 1) all
told_files all done output so_far (within, is) =
    sym (take-append-drop (length done) all)
    ∙ ap (λ l. l ++ drop (length done) all) (sym so_far ∙ map-id done)
    ∙ ap (λ l. done ++ l) (drop-cons all (length done) output within ∙ ap (λ o. o ∷ drop (suc (length done)) all) (sym is) ∙ ap (λ n. output ∷ drop n all) (sym (add-one (length done))))
  where
    map-id : (xs : List Output) → map (λ o. o) xs ≡ xs
    map-id [] = refl
    map-id (x ∷ xs) = ap (λ l. x ∷ l) (map-id xs)

-- a count that only a failure raises stays where there is none
pub count_stays : (before now : ℕ) (P : Type 0) → Counts before now P → (P → ⊥) → now ≡ before
count_stays before now P counts none = elim (cases before now) [ inl rose ↦ absurd (none (counts.only rose)) | inr stays ↦ omega (arith, counts.later) ]
  where
    cases : (a b : ℕ) → (a < b) ⊎ (b ≤ a)
    cases a b = cases_lt a b
