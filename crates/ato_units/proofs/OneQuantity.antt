-- Two parts give one answer at most.
use Rattle.std.proofs.Common.{◌≡◌, Bool, true, false, Option, Some, None, Result, Ok, Err, List, ℤ, refl, sym, ap, ◌∙◌, subst}
use Rattle.ato_frac.specs.declared.fraction.Frac.{Frac}
use Rattle.ato_frac.specs.Fractions.{value_of}
use Rattle.ato_frac.specs.OneNumber.{fraction_same}
use Rattle.ato_frac.proofs.Ranges.{in_range}
use Rattle.ato_rational.specs.Rational.{◌≤ℚ◌, ◌<ℚ◌}
use Rattle.ato_rational.proofs.Order.{≈ℚ_sym, ≈ℚ_trans, clash_ℚ}
use Rattle.ato_units.specs.declared.quantities.Form.{Form}
use Rattle.ato_units.specs.declared.quantities.Form.TheVariants as forms
use Rattle.ato_units.specs.declared.quantities.QuantityFault.TheVariants as faults
use Rattle.ato_units.specs.declared.quantities.Quantity.{Quantity}
use Rattle.ato_units.specs.Units.{Meaning}
use Rattle.ato_units.specs.Quantities.{Written, PartFault, is_relative, own_unit, units_of, IsValue, AreAround, AreEnds, Gives, unit_fault, first_wide, second_wide, ends_wide, empty, ends}

-- a part has one value at most
value_one : (number : Option Frac) (unit : Meaning) (v w : Option Frac) → IsValue number unit v → IsValue number unit w → v ≡ w
value_one None unit v w h k = h ∙ sym k
value_one (Some x) unit None None h k = refl
value_one (Some x) unit None (Some w) h k = absurd (h (in_range w _ k))
value_one (Some x) unit (Some v) None h k = absurd (k (in_range v _ h))
value_one (Some x) unit (Some v) (Some w) h k = ap Some (fraction_same v w (≈ℚ_trans h (≈ℚ_sym k)))

around_one : (n w l h k m : Frac) → AreAround n w l h → AreAround n w k m → (l ≡ k) × (h ≡ m)
around_one n w l h k m a b = (fraction_same l k (≈ℚ_trans a.low_is (≈ℚ_sym b.low_is)), fraction_same h m (≈ℚ_trans a.high_is (≈ℚ_sym b.high_is)))

-- two values have one pair of ends at most
ends_one : (form : Form) (r : Bool) (n t l h k m : Frac) → AreEnds form r n t l h → AreEnds form r n t k m → (l ≡ k) × (h ≡ m)
ends_one forms.One r n t l h k m a b = (a.0 ∙ sym b.0, a.1 ∙ sym b.1)
ends_one forms.To r n t l h k m a b = (a.0 ∙ sym b.0, a.1 ∙ sym b.1)
ends_one forms.About false n t l h k m a b = around_one n t l h k m a b
ends_one forms.About true n t l h k m a b =
    around_one n b.w l h k m (subst (λ (w : Frac). AreAround n w l h) (fraction_same a.w b.w (≈ℚ_trans a.size (≈ℚ_sym b.size))) a.around) b.around

-- what two values give
data Outcome (form : Form) (r : Bool) (m : Meaning) (n t : Frac) (answer : Result Quantity PartFault) : Type 0 where
  no_ends : ((low high : Frac) → ¬ AreEnds form r n t low high) → answer ≡ Err (faults.Wide, true) → Outcome form r m n t answer
  turned : (low high : Frac) → AreEnds form r n t low high → value_of high <ℚ value_of low → answer ≡ Err (faults.EmptyRange, true) → Outcome form r m n t answer
  range : (q : Quantity) → AreEnds form r n t q.low q.high → value_of q.low ≤ℚ value_of q.high → q.dim.0 ≡ m.dim → answer ≡ Ok q → Outcome form r m n t answer

same_quantity : (p q : Quantity) (d : List ℤ) → p.dim.0 ≡ d → q.dim.0 ≡ d → (p.low ≡ q.low) × (p.high ≡ q.high) → p ≡ q
same_quantity p q d e f h = let g = e ∙ sym f in λ i. record { dim = record { 0 = g i }; low = h.0 i; high = h.1 i }

clash_ends : (l h k m : Frac) → (l ≡ k) × (h ≡ m) → value_of h <ℚ value_of l → value_of k ≤ℚ value_of m → ⊥
clash_ends l h k m e f g = clash_ℚ (rw (e.0, e.1) at f) g

outcome_one : (form : Form) (r : Bool) (m : Meaning) (n t : Frac) (a b : Result Quantity PartFault) → Outcome form r m n t a → Outcome form r m n t b → a ≡ b
outcome_one form r m n t a b (no_ends h e) (no_ends k f) = e ∙ sym f
outcome_one form r m n t a b (no_ends h e) (turned l u g k f) = absurd (h l u g)
outcome_one form r m n t a b (no_ends h e) (range q g k d f) = absurd (h q.low q.high g)
outcome_one form r m n t a b (turned l u g k f) (no_ends h e) = absurd (h l u g)
outcome_one form r m n t a b (turned l u g k f) (turned l' u' g' k' f') = f ∙ sym f'
outcome_one form r m n t a b (turned l u g k f) (range q g' k' d f') = absurd (clash_ends l u q.low q.high (ends_one form r n t l u q.low q.high g g') k k')
outcome_one form r m n t a b (range q g k d f) (no_ends h e) = absurd (h q.low q.high g)
outcome_one form r m n t a b (range q g k d f) (turned l u g' k' f') = absurd (clash_ends l u q.low q.high (ends_one form r n t l u q.low q.high g' g) k' k)
outcome_one form r m n t a b (range q g k d f) (range q' g' k' d' f') =
    f ∙ ap Ok (same_quantity q q' m.dim d d' (ends_one form r n t q.low q.high q'.low q'.high g g')) ∙ sym f'

-- what two parts give, by stages: the units, the first value, the second value

abbrev Third : Form → Bool → Meaning × Meaning → Frac → Option Frac → Result Quantity PartFault → Type 0
Third form r u n None answer = answer ≡ Err (faults.Wide, true)
Third form r u n (Some t) answer = Outcome form r u.0 n t answer

abbrev Second : Form → Bool → Written → Meaning × Meaning → Option Frac → Result Quantity PartFault → Type 0
Second form r q u None answer = answer ≡ Err (faults.Wide, false)
Second form r q u (Some n) answer = (w : Option Frac) × IsValue q.number u.1 w × Third form r u n w answer

abbrev First : Form → Bool → Written → Written → Result (Meaning × Meaning) PartFault → Result Quantity PartFault → Type 0
First form r p q (Err e) answer = answer ≡ Err e
First form r p q (Ok u) answer = (v : Option Frac) × IsValue p.number u.0 v × Second form r q u v answer

third_one : (form : Form) (r : Bool) (u : Meaning × Meaning) (n : Frac) (w : Option Frac) (a b : Result Quantity PartFault) → Third form r u n w a → Third form r u n w b → a ≡ b
third_one form r u n None a b g h = g ∙ sym h
third_one form r u n (Some t) a b g h = outcome_one form r u.0 n t a b g h

second_one : (form : Form) (r : Bool) (q : Written) (u : Meaning × Meaning) (v : Option Frac) (a b : Result Quantity PartFault) → Second form r q u v a → Second form r q u v b → a ≡ b
second_one form r q u None a b g h = g ∙ sym h
second_one form r q u (Some n) a b g h =
    third_one form r u n h.0 a b (subst (λ (w : Option Frac). Third form r u n w a) (value_one q.number u.1 g.0 h.0 g.1 h.1) g.2) h.2

first_one : (form : Form) (r : Bool) (p q : Written) (units : Result (Meaning × Meaning) PartFault) (a b : Result Quantity PartFault) → First form r p q units a → First form r p q units b → a ≡ b
first_one form r p q (Err e) a b g h = g ∙ sym h
first_one form r p q (Ok u) a b g h =
    second_one form r q u h.0 a b (subst (λ (v : Option Frac). Second form r q u v a) (value_one p.number u.0 g.0 h.0 g.1 h.1) g.2) h.2

module _ (form : Form) (p q : Written) (answer : Result Quantity PartFault) where
  Of : Result (Meaning × Meaning) PartFault → Type 0
  Of units = First form (is_relative form q.unit) p q units answer

  by_stages : Gives form p q answer → First form (is_relative form q.unit) p q (units_of (is_relative form q.unit) (own_unit p.unit) (own_unit q.unit)) answer
  unfolding Of
  by_stages (unit_fault u a) = subst Of (sym u) a
  by_stages (first_wide u v a) = subst Of (sym u) (None, v, a)
  by_stages (second_wide n u v w a) = subst Of (sym u) (Some n, v, (None, w, a))
  by_stages (ends_wide n t u v w e a) = subst Of (sym u) (Some n, v, (Some t, w, no_ends e a))
  by_stages (empty n t low high u v w e l a) = subst Of (sym u) (Some n, v, (Some t, w, turned low high e l a))
  by_stages (ends n t quantity u v w e l d a) = subst Of (sym u) (Some n, v, (Some t, w, range quantity e l d a))

pub one_quantity : (form : Form) (p q : Written) (a b : Result Quantity PartFault) → Gives form p q a → Gives form p q b → a ≡ b
one_quantity form p q a b g h = first_one form (is_relative form q.unit) p q _ a b (by_stages form p q a g) (by_stages form p q b h)
