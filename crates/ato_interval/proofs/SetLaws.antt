-- Sets of values made of intervals: what lies in them, and when they rise.
use Rattle.std.proofs.Common.{◌≡◌, ◌⊎◌, inl, inr, ⊎_elim, ◌+◌, ◌+ℤ◌, length, List, [], ◌∷◌, ◌++◌, arith}
use Rattle.ato_rational.specs.Rational.{ℚ, ◌≤ℚ◌, ◌<ℚ◌}
use Rattle.ato_rational.specs.Ranges.{IsWithin}
use Rattle.ato_rational.proofs.Ring as Ring
use Rattle.ato_rational.proofs.Ring.{int, nat, ◌⊕◌, ◌⊗◌}
use Rattle.ato_rational.proofs.Order.{≤ℚ_refl, ≤ℚ_trans, ≤ℚ_or_<ℚ, <ℚ-≤ℚ, <ℚ-≤ℚ_trans, clash_ℚ}
use Rattle.ato_interval.specs.Ends.{Ends, Holds, IsProper}
use Rattle.ato_interval.specs.Sets.{IsIn, AreRising}

-- between two values lies another: the sum of the numerators over that of the denominators
pub between : (a b : ℚ) → a <ℚ b → (x : ℚ) × (a <ℚ x) × (x <ℚ b)
between a b h =
    let x : ℚ = record { num = a.num +ℤ b.num; den = a.den + b.den; positive = omega (arith, a.positive) } in
    let own = Ring.from_below (int a.num ⊗ nat b.den) (int b.num ⊗ nat a.den) h.lt in (
      x,
      record { lt = Ring.below (int a.num ⊗ nat (a.den + b.den)) ((int a.num ⊕ int b.num) ⊗ nat a.den) (omega arith) },
      record { lt = Ring.below ((int a.num ⊕ int b.num) ⊗ nat b.den) (int b.num ⊗ nat (a.den + b.den)) (omega arith) },
    )

module _ {Q : Type 0} (value : Q → ℚ) where
  -- nothing lies in no parts
  pub IsIn-none : (ps : List (Ends Q)) (x : ℚ) → length ps ≡ 0 → ¬ IsIn value ps x
  IsIn-none [] x e m = m
  IsIn-none (p ∷ ps) x e m = omega arith

  -- what lies in two lists, one after the other
  pub IsIn-append : (ps qs : List (Ends Q)) (x : ℚ) → IsIn value (ps ++ qs) x → IsIn value ps x ⊎ IsIn value qs x
  IsIn-append [] qs x m = inr m
  IsIn-append (p ∷ ps) qs x (inl w) = inl (inl w)
  IsIn-append (p ∷ ps) qs x (inr m) = ⊎_elim (λ t. inl (inr t)) inr (IsIn-append ps qs x m)

  pub IsIn-front : (ps qs : List (Ends Q)) (x : ℚ) → IsIn value ps x → IsIn value (ps ++ qs) x
  IsIn-front [] qs x m = absurd m
  IsIn-front (p ∷ ps) qs x (inl w) = inl w
  IsIn-front (p ∷ ps) qs x (inr m) = inr (IsIn-front ps qs x m)

  pub IsIn-back : (ps qs : List (Ends Q)) (x : ℚ) → IsIn value qs x → IsIn value (ps ++ qs) x
  IsIn-back [] qs x m = m
  IsIn-back (p ∷ ps) qs x m = inr (IsIn-back ps qs x m)

  pub IsIn-pushed : (ps : List (Ends Q)) (p : Ends Q) (x : ℚ) → IsIn value (ps ++ p ∷ []) x → IsIn value ps x ⊎ Holds value p x
  IsIn-pushed ps p x m = ⊎_elim inl (⊎_elim inr (λ t. absurd t)) (IsIn-append ps (p ∷ []) x m)

  pub IsIn-push : (ps : List (Ends Q)) (p : Ends Q) (x : ℚ) → IsIn value ps x ⊎ Holds value p x → IsIn value (ps ++ p ∷ []) x
  IsIn-push ps p x (inl m) = IsIn-front ps (p ∷ []) x m
  IsIn-push ps p x (inr w) = IsIn-back ps (p ∷ []) x (inl w)

  -- equal values lie in the same parts
  pub IsIn-same : (ps : List (Ends Q)) (x y : ℚ) → x ≤ℚ y → y ≤ℚ x → IsIn value ps x → IsIn value ps y
  IsIn-same [] x y h k m = absurd m
  IsIn-same (p ∷ ps) x y h k (inl w) = inl (record { above = ≤ℚ_trans w.above h; below = ≤ℚ_trans k w.below })
  IsIn-same (p ∷ ps) x y h k (inr m) = inr (IsIn-same ps x y h k m)

  -- one more part above all others
  pub AreRising-push : (ps : List (Ends Q)) (p : Ends Q) → AreRising value ps → IsProper value p → ((x : ℚ) → IsIn value ps x → x <ℚ value p.low) → AreRising value (ps ++ p ∷ [])
  AreRising-push [] p r proper below = (proper, λ x m. absurd m, tt)
  AreRising-push (q ∷ qs) p r proper below = (
    r.0,
    λ x m.
        ⊎_elim (r.1 x)
        (λ w. <ℚ-≤ℚ_trans (below (value q.high) (inl (record { above = r.0; below = ≤ℚ_refl (value q.high) }))) w.above)
        (IsIn-pushed qs p x m),
    AreRising-push qs p r.2 proper (λ x m. below x (inr m)),
  )

  pub last_proper : (ps : List (Ends Q)) (z : Ends Q) → AreRising value (ps ++ z ∷ []) → IsProper value z
  last_proper [] z r = r.0
  last_proper (q ∷ qs) z r = last_proper qs z r.2

  -- every value is at least the first low end
  pub from_first : (p : Ends Q) (ps : List (Ends Q)) → AreRising value (p ∷ ps) → (x : ℚ) → IsIn value (p ∷ ps) x → value p.low ≤ℚ x
  from_first p ps r x (inl w) = w.above
  from_first p ps r x (inr m) = ≤ℚ_trans r.0 (<ℚ-≤ℚ (r.1 x m))

  -- above the first part is a value that lies in no part, at any height
  pub gap : (p : Ends Q) (ps : List (Ends Q)) (h : ℚ) → AreRising value (p ∷ ps) → value p.high <ℚ h → (x : ℚ) × (value p.high <ℚ x) × (x ≤ℚ h) × ¬ IsIn value (p ∷ ps) x
  gap p [] h r above = (h, above, ≤ℚ_refl h, ⊎_elim (λ w. clash_ℚ above w.below) (λ m. m))
  gap p (q ∷ qs) h r above =
      ⊎_elim
      (λ reached.
      let apart = r.1 (value q.low) (inl (record { above = ≤ℚ_refl (value q.low); below = r.2.0 })) in
      let mid = between (value p.high) (value q.low) apart in (
        mid.0,
        mid.1,
        ≤ℚ_trans (<ℚ-≤ℚ mid.2) reached,
        ⊎_elim (λ w. clash_ℚ mid.1 w.below) (λ m. clash_ℚ mid.2 (from_first q qs r.2 mid.0 m)),
      ))
      (λ short. (
        h,
        above,
        ≤ℚ_refl h,
        ⊎_elim (λ w. clash_ℚ above w.below) (λ m. clash_ℚ short (from_first q qs r.2 h m)),
      ))
      (≤ℚ_or_<ℚ (value q.low) h)

  -- no value is above the last part's high end
  pub up_to_last : (ps : List (Ends Q)) (z : Ends Q) → AreRising value (ps ++ z ∷ []) → (x : ℚ) → IsIn value (ps ++ z ∷ []) x → x ≤ℚ value z.high
  up_to_last [] z r x (inl w) = w.below
  up_to_last [] z r x (inr m) = absurd m
  up_to_last (q ∷ qs) z r x (inl w) =
      ≤ℚ_trans w.below (<ℚ-≤ℚ (r.1 (value z.high) (IsIn-push qs z (value z.high) (inr (record { above = last_proper qs z r.2; below = ≤ℚ_refl (value z.high) })))))
  up_to_last (q ∷ qs) z r x (inr m) = up_to_last qs z r.2 x m

  -- the first low end and the last high end are the ends of the whole
  module _ (ps : List (Ends Q)) (first : Ends Q) (rest front : List (Ends Q)) (last : Ends Q) (rising : AreRising value ps) (e : ps ≡ first ∷ rest) (d : ps ≡ front ++ last ∷ []) where
    pub last_in : IsIn value ps (value last.high)
    last_in =
        rw d (IsIn-push front last (value last.high) (inr (record { above = last_proper front last (rw d at rising); below = ≤ℚ_refl (value last.high) })))

    pub first_in : IsIn value ps (value first.low)
    first_in = let r = rw e at rising in rw e (inl (record { above = ≤ℚ_refl (value first.low); below = r.0 }))

    pub hull_proper : value first.low ≤ℚ value last.high
    hull_proper = from_first first rest (rw e at rising) (value last.high) (rw e at last_in)

    pub hull_holds : (x : ℚ) → IsIn value ps x → IsWithin (value first.low) (value last.high) x
    hull_holds x m = record {
      above = from_first first rest (rw e at rising) x (rw e at m);
      below = up_to_last front last (rw d at rising) x (rw d at m);
    }
