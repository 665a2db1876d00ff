-- How far a value moves when one variable moves by `step`.
use Rattle.std.proofs.Common.{◌⊎◌, arith}
use Rattle.ato_rational.specs.Rational.{ℚ, ◌≈ℚ◌, ◌≤ℚ◌, ◌+ℚ◌, ◌-ℚ◌, ◌<ℚ◌, ◌*ℚ◌, ◌/ℚ◌, inverse_ℚ, IsNotZero, zero_ℚ}
use Rattle.ato_rational.specs.Ranges.{IsWithin, AtEnds}
use Rattle.ato_rational.proofs.RationalRing.{rat, minus, ◌⊞◌, ◌⊠◌, same}
use Rattle.ato_rational.proofs.Order.{≤ℚ_trans, ≈ℚ-≤ℚ, ≈ℚ_sym, ≈ℚ_trans, ≈ℚ_refl, +ℚ_mono, +ℚ_same, neg_ℚ_anti, neg_ℚ_same, *ℚ_mono, IsWithin-same}
use Rattle.ato_rational.proofs.Products.{product_within}
use Rattle.ato_rational.proofs.Quotients.{quotient_within, quotient_times}
use Rattle.ato_rational.proofs.QuotientSets.{times_quotient}

-- every slope from x to y, over a step that is not negative, lies from l to h
abbrev pub IsSlope : ℚ → ℚ → ℚ → ℚ → ℚ → Type 0
IsSlope l h step x y = IsWithin (l *ℚ step) (h *ℚ step) (y -ℚ x)

product_rule : (x y x' y' : ℚ) → (y *ℚ (y' -ℚ x')) +ℚ (x' *ℚ (y -ℚ x)) ≈ℚ y *ℚ y' -ℚ x *ℚ x'
product_rule x y x' y' =
    same (rat y ⊠ (rat y' ⊞ minus (rat x')) ⊞ rat x' ⊠ (rat y ⊞ minus (rat x))) (rat y ⊠ rat y' ⊞ minus (rat x ⊠ rat x')) (omega arith)

-- a product that lies within, times a step that is not negative
stepped : (l h p q step : ℚ) → zero_ℚ ≤ℚ step → IsWithin l h (p *ℚ q) → IsWithin (l *ℚ step) (h *ℚ step) (p *ℚ (q *ℚ step))
stepped l h p q step s w =
    IsWithin-same (same (rat p ⊠ rat q ⊠ rat step) (rat p ⊠ (rat q ⊠ rat step)) (omega arith))
    (record { above = *ℚ_mono step s w.above; below = *ℚ_mono step s w.below })

-- a value from a to b times a change of slopes from c to d
moved : (l h a b c d step x y z : ℚ) → zero_ℚ ≤ℚ step → AtEnds (λ p q. IsWithin l h (p *ℚ q)) a b c d → IsWithin a b z → IsSlope c d step x y → IsWithin (l *ℚ step) (h *ℚ step) (z *ℚ (y -ℚ x))
moved l h a b c d step x y z s e v w =
    product_within _ _ a b (c *ℚ step) (d *ℚ step) z (y -ℚ x)
    (record {
      low_low = stepped l h a c step s e.low_low;
      low_high = stepped l h a d step s e.low_high;
      high_low = stepped l h b c step s e.high_low;
      high_high = stepped l h b d step s e.high_high;
    })
    v
    w

added : (l l' step : ℚ) → (l +ℚ l') *ℚ step ≈ℚ l *ℚ step +ℚ l' *ℚ step
added l l' step = same ((rat l ⊞ rat l') ⊠ rat step) (rat l ⊠ rat step ⊞ rat l' ⊠ rat step) (omega arith)

-- the slopes of a product: the values of each factor times the slopes of the other
pub product_slope : (l h l' h' a b c d a' b' c' d' step x y x' y' : ℚ) → zero_ℚ ≤ℚ step → AtEnds (λ p q. IsWithin l h (p *ℚ q)) a b c' d' → AtEnds (λ p q. IsWithin l' h' (p *ℚ q)) a' b' c d → IsWithin a b y → IsWithin a' b' x' → IsSlope c d step x y → IsSlope c' d' step x' y' → IsSlope (l +ℚ l') (h +ℚ h') step (x *ℚ x') (y *ℚ y')
product_slope l h l' h' a b c d a' b' c' d' step x y x' y' s e e' v v' w w' =
    let first = moved l h a b c' d' step x' y' y s e v w' in
    let second = moved l' h' a' b' c d step x y x' s e' v' w in
    IsWithin-same (product_rule x y x' y') (record {
      above = ≤ℚ_trans (≈ℚ-≤ℚ (added l l' step)) (+ℚ_mono first.above second.above);
      below = ≤ℚ_trans (+ℚ_mono first.below second.below) (≈ℚ-≤ℚ (≈ℚ_sym (added h h' step)));
    })

quotient_rule : (q m q' m' : ℚ) → q' *ℚ m' -ℚ q *ℚ m -ℚ q *ℚ (m' -ℚ m) ≈ℚ (q' -ℚ q) *ℚ m'
quotient_rule q m q' m' =
    same (rat q' ⊠ rat m' ⊞ minus (rat q ⊠ rat m) ⊞ minus (rat q ⊠ (rat m' ⊞ minus (rat m)))) ((rat q' ⊞ minus (rat q)) ⊠ rat m') (omega arith)

-- how far a quotient moves, times the divisor at the end
quotient_change : (n m n' m' : ℚ) → IsNotZero m → IsNotZero m' → (n' -ℚ n) -ℚ (n /ℚ m) *ℚ (m' -ℚ m) ≈ℚ (n' /ℚ m' -ℚ n /ℚ m) *ℚ m'
quotient_change n m n' m' z z' =
    ≈ℚ_trans (+ℚ_same (≈ℚ_sym (+ℚ_same (quotient_times n' m' z') (neg_ℚ_same (quotient_times n m z)))) (≈ℚ_refl _)) (quotient_rule (n /ℚ m) m (n' /ℚ m') m')

stepped_quotient : (l h p e step : ℚ) → zero_ℚ ≤ℚ step → IsWithin l h (p /ℚ e) → IsWithin (l *ℚ step) (h *ℚ step) ((p *ℚ step) /ℚ e)
stepped_quotient l h p e step s w =
    IsWithin-same (same (rat p ⊠ rat (inverse_ℚ e) ⊠ rat step) (rat p ⊠ rat step ⊠ rat (inverse_ℚ e)) (omega arith))
    (record { above = *ℚ_mono step s w.above; below = *ℚ_mono step s w.below })

less : (l h step : ℚ) → (l -ℚ h) *ℚ step ≈ℚ l *ℚ step -ℚ h *ℚ step
less l h step = same ((rat l ⊞ minus (rat h)) ⊠ rat step) (rat l ⊠ rat step ⊞ minus (rat h ⊠ rat step)) (omega arith)

-- the slopes of a quotient: those of the dividend, less the quotient's values times those of the divisor, by the divisor's values
pub quotient_slope : (l h k t a b c d c' d' u v step n m n' m' : ℚ) → zero_ℚ ≤ℚ step → AtEnds (λ p q. IsWithin l h (p *ℚ q)) a b c' d' → IsWithin a b (n /ℚ m) → IsSlope c d step n n' → IsSlope c' d' step m m' → (zero_ℚ <ℚ u) ⊎ (v <ℚ zero_ℚ) → IsWithin u v m' → IsNotZero m → IsNotZero m' → AtEnds (λ p e. IsWithin k t (p /ℚ e)) (c -ℚ h) (d -ℚ l) u v → IsSlope k t step (n /ℚ m) (n' /ℚ m')
quotient_slope l h k t a b c d c' d' u v step n m n' m' s e val w w' apart by z z' f =
    let back = moved l h a b c' d' step m m' (n /ℚ m) s e val w' in
    let change : IsWithin ((c -ℚ h) *ℚ step) ((d -ℚ l) *ℚ step) ((n' /ℚ m' -ℚ n /ℚ m) *ℚ m') =
    IsWithin-same (quotient_change n m n' m' z z') (record {
      above = ≤ℚ_trans (≈ℚ-≤ℚ (less c h step)) (+ℚ_mono w.above (neg_ℚ_anti back.below));
      below = ≤ℚ_trans (+ℚ_mono w.below (neg_ℚ_anti back.above)) (≈ℚ-≤ℚ (≈ℚ_sym (less d l step)));
    })
    in
    IsWithin-same (times_quotient (n' /ℚ m' -ℚ n /ℚ m) m' z')
    (quotient_within (k *ℚ step) (t *ℚ step) ((c -ℚ h) *ℚ step) ((d -ℚ l) *ℚ step) u v ((n' /ℚ m' -ℚ n /ℚ m) *ℚ m') m' apart
    (record {
      low_low = stepped_quotient k t (c -ℚ h) u step s f.low_low;
      low_high = stepped_quotient k t (c -ℚ h) v step s f.low_high;
      high_low = stepped_quotient k t (d -ℚ l) u step s f.high_low;
      high_high = stepped_quotient k t (d -ℚ l) v step s f.high_high;
    })
    change
    by)
