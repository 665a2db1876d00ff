-- A node has at most one value at a point, and where a relation holds each node below its sides has one.
use Rattle.std.proofs.Common.{◌≡◌, ℕ, zero, suc, ℤ, pos, negsuc, true, false, List, [], ◌∷◌, refl, sym, ◌∙◌, subst, inl, inr, ⊎_elim, arith, ◌≢◌}
use Rattle.std.specs.Prelude.{Contains}
use Rattle.std.proofs.lemmas.Option.{same_Some}
use Rattle.ato_base.proofs.ClassLaws.{cases, nowhere}
use Rattle.ato_rational.specs.Rational.{ℚ, ◌≈ℚ◌, IsNotZero, zero_ℚ}
use Rattle.ato_rational.proofs.Quotients.{nonzero, not_zero}
use Rattle.ato_rational.proofs.Order.{clash_ℚ, ≈ℚ-≤ℚ, ≈ℚ_sym}
use Rattle.std.proofs.lemmas.Int.{ints}
use Rattle.ato_expr.specs.declared.ops.Relation.{Relation}
use Rattle.ato_expr.specs.Tables.{Entry, IsBelow}
use Rattle.ato_expr.specs.Values.{is_zero, GivesValue, HasValue, HoldsAt, within, less, at_most, equal, there, roots_of}
use Rattle.ato_expr.proofs.LabelLaws.{label_once, label_below}

pub value_once : (table : List Entry) (point : ℕ → ℚ) {n : ℕ} {x y : ℚ} → HasValue table point n x → HasValue table point n y → x ≡ y
value_once table point v w = label_once (GivesValue point) table (λ op xs x y d e. same_Some x y (sym d ∙ e)) v w

pub one_root : (P : ℕ → Type 0) (n : ℕ) → P n → (k : ℕ) → Contains (n ∷ []) k → P k
one_root P n p k h = elim (cases n k [] h) [ inl e ↦ subst P (sym e) p | inr none ↦ absurd (nowhere k none) ]

pub two_roots : (P : ℕ → Type 0) (m n : ℕ) → P m → P n → (k : ℕ) → Contains (m ∷ n ∷ []) k → P k
two_roots P m n p q k h = elim (cases m k (n ∷ []) h) [ inl e ↦ subst P (sym e) p | inr more ↦ one_root P n q k more ]

module _ (table : List Entry) (point : ℕ → ℚ) where
  abbrev AtRoot : ℕ → Type 0
  AtRoot k = (x : ℚ) × HasValue table point k x

  roots_valued : {relation : Relation} → HoldsAt table point relation → (k : ℕ) → Contains (roots_of relation) k → AtRoot k
  roots_valued (within {n} x v inside) = one_root AtRoot n (x, v)
  roots_valued (less {m} {n} x y v w h) = two_roots AtRoot m n (x, v) (y, w)
  roots_valued (at_most {m} {n} x y v w h) = two_roots AtRoot m n (x, v) (y, w)
  roots_valued (equal {m} {n} x y v w h) = two_roots AtRoot m n (x, v) (y, w)
  roots_valued (there {n} x v) = one_root AtRoot n (x, v)

  pub valued_below : {relation : Relation} → HoldsAt table point relation → {k : ℕ} → IsBelow table (roots_of relation) k → (x : ℚ) × HasValue table point k x
  valued_below holds below = label_below (GivesValue point) table (roots_valued holds) below

by_num : (z : ℤ) → z ≢ pos 0 → is_zero z ≡ false
by_num (pos zero) h = absurd (h refl)
by_num (pos (suc n)) h = refl
by_num (negsuc n) h = refl

-- the test tells values that are not 0
pub not_zero_told : {y : ℚ} → IsNotZero y → is_zero y.num ≡ false
not_zero_told {y} h = by_num y.num (nonzero h)

zero_num : (z : ℤ) → (z ≢ pos 0 → ⊥) → is_zero z ≡ true
zero_num (pos zero) h = refl
zero_num (pos (suc n)) h = absurd (h (λ e. omega (arith, ints)))
zero_num (negsuc n) h = absurd (h (λ e. omega (arith, ints)))

-- and those that are
pub zero_told : {y : ℚ} → y ≈ℚ zero_ℚ → is_zero y.num ≡ true
zero_told {y} e = zero_num y.num (λ h. ⊎_elim (λ k. clash_ℚ k (≈ℚ-≤ℚ e)) (λ k. clash_ℚ k (≈ℚ-≤ℚ (≈ℚ_sym e))) (not_zero y h))
