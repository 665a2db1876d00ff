-- The least fault is the first.
use Rattle.std.proofs.Common.{sym, ◌∙◌, refl, arith, subst, inl, inr}
use Rattle.std.specs.Prelude.{◌≡◌, ℕ, ◌<◌, ◌≤◌, Bool, true, false, nat_lt, cond, List, [], ◌∷◌, Option, Some, None, ◌⊎◌}
use Rattle.std.specs.List.{AllByRecursion}
use Rattle.std.proofs.lemmas.Option.{none-some, same_Some}
use Rattle.std.proofs.lemmas.Bool.{ltb-true}
use Rattle.std.proofs.lemmas.Bool.Decides.{eqb_tells}
use Rattle.ato_base.specs.declared.faults.Fault.{Fault}
use Rattle.ato_base.specs.Faults.{kind_number}
use Rattle.ato_files.specs.Lists.{here, there}
use Rattle.ato_files.specs.Faults.{in_order, is_before, sooner, least, IsLeast, file_of, start_of}

ltb_tells : (a b : ℕ) → (a < b) ⊎ (b ≤ a)
ltb_tells a b = by_test (nat_lt a b) refl where
  by_test : (v : Bool) → nat_lt a b ≡ v → (a < b) ⊎ (b ≤ a)
  by_test true e = inl (ltb-true a b e)
  by_test false e = inr (grind (arith))

-- What it says that the first three do not come before the second three.
data Later (a b c x y z : ℕ) : Type 0 where
  by_first : x < a → Later a b c x y z
  by_second : x ≡ a → y < b → Later a b c x y z
  by_third : x ≡ a → y ≡ b → z ≤ c → Later a b c x y z

later : (a b c x y z : ℕ) → in_order a b c x y z ≡ false → Later a b c x y z
later a b c x y z h = elim (ltb_tells x a) [
  | inl p ↦ by_first p
  | inr p ↦ elim (eqb_tells x a) [
    | inr q ↦ absurd (grind (arith))
    | inl q ↦ elim (ltb_tells y b) [
      | inl r ↦ by_second q.1 r
      | inr r ↦ elim (eqb_tells y b) [
        | inr s ↦ absurd (grind (arith))
        | inl s ↦ by_third q.1 s.1 (grind (arith))
      ]
    ]
  ]
]

not_before : (a b c x y z : ℕ) → Later a b c x y z → in_order a b c x y z ≡ false
not_before a b c x y z (by_first p) = grind (arith)
not_before a b c x y z (by_second p q) = grind (arith)
not_before a b c x y z (by_third p q r) = grind (arith)

later_trans : (a b c x y z k l m : ℕ) → Later a b c x y z → Later x y z k l m → Later a b c k l m
later_trans a b c x y z k l m (by_first p) (by_first q) = by_first (omega arith)
later_trans a b c x y z k l m (by_first p) (by_second q r) = by_first (omega arith)
later_trans a b c x y z k l m (by_first p) (by_third q r s) = by_first (omega arith)
later_trans a b c x y z k l m (by_second p r) (by_first q) = by_first (omega arith)
later_trans a b c x y z k l m (by_second p r) (by_second q s) = by_second (q ∙ p) (omega arith)
later_trans a b c x y z k l m (by_second p r) (by_third q s t) = by_second (q ∙ p) (omega arith)
later_trans a b c x y z k l m (by_third p r u) (by_first q) = by_first (omega arith)
later_trans a b c x y z k l m (by_third p r u) (by_second q s) = by_second (q ∙ p) (omega arith)
later_trans a b c x y z k l m (by_third p r u) (by_third q s t) = by_third (q ∙ p) (s ∙ r) (omega arith)

order_asym : (a b c x y z : ℕ) → in_order a b c x y z ≡ true → in_order x y z a b c ≡ false
order_asym a b c x y z h = grind (arith)

pub before_trans : (a b c : Fault) → is_before a b ≡ false → is_before b c ≡ false → is_before a c ≡ false
before_trans a b c h i = not_before _ _ _ _ _ _ (later_trans (file_of a.at) (start_of a.at) (kind_number a.kind) (file_of b.at) (start_of b.at) (kind_number b.kind)
    (file_of c.at) (start_of c.at) (kind_number c.kind) (later _ _ _ _ _ _ h) (later _ _ _ _ _ _ i))

all_map : {X : Type 0} (P Q : X → Type 0) (xs : List X) → ((x : X) → P x → Q x) → AllByRecursion P xs → AllByRecursion Q xs
all_map P Q [] f all = tt
all_map P Q (x ∷ xs) f all = (f x all.0, all_map P Q xs f all.1)

same_numbers : (a b c : ℕ) → in_order a b c a b c ≡ false
same_numbers a b c = not_before a b c a b c (by_third refl refl (omega arith))

not_itself : (a : Fault) → is_before a a ≡ false
not_itself a = same_numbers (file_of a.at) (start_of a.at) (kind_number a.kind)

pub before_asym : (a b : Fault) → is_before a b ≡ true → is_before b a ≡ false
before_asym a b h = order_asym (file_of a.at) (start_of a.at) (kind_number a.kind) (file_of b.at) (start_of b.at) (kind_number b.kind) h

-- the sooner of a fault and the least of the others
with_sooner : (a b : Fault) (more : List Fault) (v : Bool) → is_before b a ≡ v → IsLeast more b → IsLeast (a ∷ more) (cond v b a)
with_sooner a b more true h least = record { one = there least.one; first = (before_asym b a h, least.first) }
with_sooner a b more false h least = record {
  one = here;
  first = (
    not_itself a,
    all_map (λ o. is_before o b ≡ false) (λ o. is_before o a ≡ false) more (λ o k. before_trans o b a k h) least.first,
  );
}

least_of : (a : Fault) (more : List Fault) (o : Option Fault) → least more ≡ o → ((b : Fault) → o ≡ Some b → IsLeast more b) → (o ≡ None → more ≡ []) → IsLeast (a ∷ more) (sooner a o)
least_of a more None e some none = subst (λ m. IsLeast (a ∷ m) a) (sym (none refl)) (record { one = here; first = (not_itself a, tt) })
least_of a more (Some b) e some none = with_sooner a b more (is_before b a) refl (some b refl)

pub none_is_empty : (faults : List Fault) → least faults ≡ None → faults ≡ []
none_is_empty [] e = refl
none_is_empty (a ∷ more) e = absurd (none-some (sooner a (least more)) (sym e))

pub least_first : (faults : List Fault) (fault : Fault) → least faults ≡ Some fault → IsLeast faults fault
least_first [] fault e = absurd (none-some fault e)
least_first (a ∷ more) fault e = subst (IsLeast (a ∷ more)) (same_Some (sooner a (least more)) fault e)
    (least_of a more (least more) refl (λ b. least_first more b) (none_is_empty more))
