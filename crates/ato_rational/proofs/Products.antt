-- Where products of values in two intervals lie.
use Rattle.std.proofs.Common.{⊎_elim}
use Rattle.ato_rational.specs.Rational.{ℚ, ◌*ℚ◌, zero_ℚ}
use Rattle.ato_rational.specs.Ranges.{IsWithin, AtEnds}
use Rattle.ato_rational.proofs.Order.{≤ℚ_trans, ≤ℚ_total, *ℚ_mono, *ℚ_anti, *ℚ_mono_second, *ℚ_anti_second}

-- Between x ⋅ c and x ⋅ d lies x ⋅ y: it rises or falls with y, by the sign of x
along_second : (l h x c d y : ℚ) → IsWithin c d y → IsWithin l h (x *ℚ c) → IsWithin l h (x *ℚ d) → IsWithin l h (x *ℚ y)
along_second l h x c d y w p q =
    ⊎_elim
    (λ s. record {
      above = ≤ℚ_trans p.above (*ℚ_mono_second x s w.above);
      below = ≤ℚ_trans (*ℚ_mono_second x s w.below) q.below;
    })
    (λ s. record {
      above = ≤ℚ_trans q.above (*ℚ_anti_second x s w.below);
      below = ≤ℚ_trans (*ℚ_anti_second x s w.above) p.below;
    })
    (≤ℚ_total zero_ℚ x)

along_first : (l h a b x y : ℚ) → IsWithin a b x → IsWithin l h (a *ℚ y) → IsWithin l h (b *ℚ y) → IsWithin l h (x *ℚ y)
along_first l h a b x y w p q =
    ⊎_elim
    (λ s. record { above = ≤ℚ_trans p.above (*ℚ_mono y s w.above); below = ≤ℚ_trans (*ℚ_mono y s w.below) q.below })
    (λ s. record { above = ≤ℚ_trans q.above (*ℚ_anti y s w.below); below = ≤ℚ_trans (*ℚ_anti y s w.above) p.below })
    (≤ℚ_total zero_ℚ y)

-- what holds the four products of ends holds every product
pub product_within : (l h a b c d x y : ℚ) → AtEnds (λ p q. IsWithin l h (p *ℚ q)) a b c d → IsWithin a b x → IsWithin c d y → IsWithin l h (x *ℚ y)
product_within l h a b c d x y e v w =
    along_first l h a b x y v
    (along_second l h a c d y w e.low_low e.low_high)
    (along_second l h b c d y w e.high_low e.high_high)
