-- Maps that hold what was put in first.
use Rattle.std.proofs.Common.{◌≡◌, ℕ, Bool, true, false, ◌&&◌, cond, nat_eq, List, [], ◌∷◌, ◌++◌, Option, Some, None, refl, sym, ap, ◌∙◌, true≢false}
use Rattle.std.specs.Prelude.{is_some}
use Rattle.std.specs.Option.{option_or}
use Rattle.std.specs.Map.{lookup}
use Rattle.std.proofs.lemmas.Bool.{eqb-true}
use Rattle.std.specs.Cmp.{nat_eq_equiv}
use Rattle.ato_files.specs.NameMaps.{same_key}

pub lookup-append : {K V : Type 0} (test : K → Bool) (xs ys : List (K × V)) → lookup test (xs ++ ys) ≡ option_or (lookup test xs) (lookup test ys)
lookup-append test [] ys = refl
lookup-append test (x ∷ xs) ys = by (test x.0) (lookup-append test xs ys)
  where
    by : (b : Bool) → lookup test (xs ++ ys) ≡ option_or (lookup test xs) (lookup test ys) → cond b (Some x.1) (lookup test (xs ++ ys)) ≡ option_or (cond b (Some x.1) (lookup test xs)) (lookup test ys)
    by true e = refl
    by false e = e

and_true : (a b : Bool) → (a && b) ≡ true → (a ≡ true) × (b ≡ true)
and_true true b h = (refl, h)
and_true false b h = absurd (true≢false (sym h))

-- an equal key is the key
pub same_is : (x y : ℕ × ℕ) → same_key x y ≡ true → x ≡ y
same_is x y h = let both = and_true (nat_eq x.0 y.0) (nat_eq x.1 y.1) h in
    let first = eqb-true x.0 y.0 both.0 in let second = eqb-true x.1 y.1 both.1 in
    ap (λ (a : ℕ). (a, x.1)) first ∙ ap (λ (b : ℕ). (y.0, b)) second

same_turned : (x y : ℕ × ℕ) → same_key x y ≡ same_key y x
same_turned x y = ap (λ b. b && nat_eq x.1 y.1) (nat_eq_equiv.symm x.0 y.0) ∙ ap (λ b. nat_eq y.0 x.0 && b) (nat_eq_equiv.symm x.1 y.1)

module _ {V : Type 0} (f : ℕ × ℕ → Option V) (pairs : List ((ℕ × ℕ) × V)) (k : ℕ × ℕ) (v : V) (are : (q : ℕ × ℕ) → f q ≡ lookup (same_key q) pairs) where
  -- what is there stays
  pub first_kept : is_some (f k) ≡ true → (q : ℕ × ℕ) → f q ≡ lookup (same_key q) (pairs ++ (k, v) ∷ [])
  first_kept there q = by (lookup (same_key q) pairs) (same_key q k) refl refl ∙ sym (lookup-append (same_key q) pairs ((k, v) ∷ []))
    where
      by : (o : Option V) (b : Bool) → lookup (same_key q) pairs ≡ o → same_key q k ≡ b → f q ≡ option_or o (cond b (Some v) None)
      by (Some x) b e s = are q ∙ e
      by None false e s = are q ∙ e
      by None true e s = absurd (true≢false (sym there ∙ ap (λ z. is_some (f z)) (sym (same_is q k s)) ∙ ap is_some (are q ∙ e)))

  -- what is new goes behind
  pub first_put : (g : ℕ × ℕ → Option V) → is_some (f k) ≡ false → ((q : ℕ × ℕ) → g q ≡ cond (same_key k q) (Some v) (f q)) → (q : ℕ × ℕ) → g q ≡ lookup (same_key q) (pairs ++ (k, v) ∷ [])
  first_put g new updates q = by (lookup (same_key q) pairs) (same_key q k) refl refl ∙ sym (lookup-append (same_key q) pairs ((k, v) ∷ []))
    where
      by : (o : Option V) (b : Bool) → lookup (same_key q) pairs ≡ o → same_key q k ≡ b → g q ≡ option_or o (cond b (Some v) None)
      by (Some x) false e s = updates q ∙ ap (λ b. cond b (Some v) (f q)) (same_turned k q ∙ s) ∙ are q ∙ e
      by None false e s = updates q ∙ ap (λ b. cond b (Some v) (f q)) (same_turned k q ∙ s) ∙ are q ∙ e
      by None true e s = updates q ∙ ap (λ b. cond b (Some v) (f q)) (same_turned k q ∙ s)
      by (Some x) true e s = absurd (true≢false (ap is_some (sym e ∙ sym (are q)) ∙ ap (λ z. is_some (f z)) (same_is q k s) ∙ new))
