-- Faults that are noted in turn leave the least.
use Rattle.std.proofs.Common.{true≢false, ap, sym, ◌∙◌, refl, ◌+◌, get_or, append-nil}
use Rattle.std.specs.Prelude.{◌≡◌, ℕ, ◌<◌, Bool, true, false, cond, List, [], ◌∷◌, ◌++◌, length, take, map, Option, Some, None}
use Rattle.std.specs.List.{flat_map}
use Rattle.std.proofs.lemmas.List.{take_more, map-append}
use Rattle.std.proofs.lemmas.List.Concat.{flat_map-append}
use Rattle.ato_base.specs.declared.faults.Fault.{Fault}
use Rattle.ato_files.specs.Faults.{is_before, sooner, least}
use Rattle.ato_files.specs.Noted.{with_fault, noted}
use Rattle.ato_files.proofs.FaultLaws.{before_trans, before_asym}

-- ---- the order of noting

before_through : (a b c : Fault) (v : Bool) → is_before c a ≡ v → is_before c b ≡ true → is_before b a ≡ true → v ≡ true
before_through a b c true e h i = refl
before_through a b c false e h i = absurd (true≢false (sym h ∙ before_trans c a b e (before_asym b a i)))

-- of three faults, whichever two are compared first
of_three : (a b c : Fault) (v w x : Bool) → is_before b a ≡ v → is_before c b ≡ w → is_before c a ≡ x → sooner (cond v b a) (Some c) ≡ sooner a (Some (cond w c b))
of_three a b c true true x e f g = ap (λ z. cond z c b) f ∙ sym (ap (λ z. cond z c a) (g ∙ before_through a b c x g f e))
of_three a b c true false x e f g = ap (λ z. cond z c b) f ∙ sym (ap (λ z. cond z b a) e)
of_three a b c false true x e f g = refl
of_three a b c false false x e f g = ap (λ z. cond z c a) (before_trans c b a f e) ∙ sym (ap (λ z. cond z b a) e)

with_more : (a b : Fault) (o : Option Fault) → sooner (sooner a (Some b)) o ≡ sooner a (Some (sooner b o))
with_more a b None = refl
with_more a b (Some c) = of_three a b c (is_before b a) (is_before c b) (is_before c a) refl refl refl

-- noting after a fault that was kept
after_kept : (a : Fault) (faults : List Fault) → noted (Some a) faults ≡ Some (sooner a (least faults))
after_kept a [] = refl
after_kept a (b ∷ more) = after_kept (sooner a (Some b)) more ∙ ap Some (with_more a b (least more))

pub noted_least : (faults : List Fault) → noted None faults ≡ least faults
noted_least [] = refl
noted_least (a ∷ more) = after_kept a more

-- ---- one after another

pub noted_append : (kept : Option Fault) (xs ys : List Fault) → noted kept (xs ++ ys) ≡ noted (noted kept xs) ys
noted_append kept [] ys = refl
noted_append kept (x ∷ xs) ys = noted_append (with_fault kept x) xs ys

-- one item more
pub noted_push : {X : Type 0} (f : X → List Fault) (kept : Option Fault) (xs : List X) (x : X)
    → noted kept (flat_map f (xs ++ x ∷ [])) ≡ noted (noted kept (flat_map f xs)) (f x)
noted_push f kept xs x = ap (noted kept) (flat_map-append f xs (x ∷ [])) ∙ noted_append kept (flat_map f xs) (f x ++ [])
    ∙ ap (noted (noted kept (flat_map f xs))) (append-nil (f x))

pub noted_more : {X : Type 0} (f : X → List Fault) (kept : Option Fault) (xs : List X) (i : ℕ) (d : X) → i < length xs
    → noted kept (flat_map f (take (i + 1) xs)) ≡ noted (noted kept (flat_map f (take i xs))) (f (get_or xs i d))
noted_more f kept xs i d h = ap (λ z. noted kept (flat_map f z)) (take_more xs i d h) ∙ noted_push f kept (take i xs) (get_or xs i d)

pub noted_step : {X : Type 0} (f : X → List Fault) (kept before now : Option Fault) (xs : List X) (i : ℕ) (d : X) → i < length xs → before ≡ noted kept (flat_map f (take i xs))
    → now ≡ noted before (f (get_or xs i d)) → now ≡ noted kept (flat_map f (take (i + 1) xs))
noted_step f kept before now xs i d h was e = e ∙ ap (λ z. noted z (f (get_or xs i d))) was ∙ sym (noted_more f kept xs i d h)

-- one fault of each item
pub noted_each : {X : Type 0} (f : X → Fault) (kept before now : Option Fault) (xs : List X) (i : ℕ) (d : X) → i < length xs → before ≡ noted kept (map f (take i xs))
    → now ≡ with_fault before (f (get_or xs i d)) → now ≡ noted kept (map f (take (i + 1) xs))
noted_each f kept before now xs i d h was e =
    e ∙ ap (λ z. with_fault z (f (get_or xs i d))) was
    ∙ sym (ap (λ z. noted kept (map f z)) (take_more xs i d h) ∙ ap (noted kept) (map-append f (take i xs) (get_or xs i d ∷ [])) ∙ noted_append kept (map f (take i xs)) (f (get_or xs i d) ∷ []))
