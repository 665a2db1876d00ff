-- Where sums, differences, opposites, the lesser, the greater and absolute values of values in ranges lie.
use Rattle.ato_rational.specs.Rational.{ℚ, ◌+ℚ◌, ◌-ℚ◌, neg_ℚ, min_ℚ, max_ℚ, abs_ℚ, zero_ℚ}
use Rattle.ato_rational.specs.Ranges.{IsWithin}
use Rattle.ato_rational.proofs.Extremes.{abs_ℚ_is, abs_ℚ_below, max_ℚ_greatest, min_ℚ_mono, max_ℚ_mono}
use Rattle.ato_rational.proofs.Order.{≤ℚ_trans, +ℚ_mono, neg_ℚ_anti}

pub sum_within : (a b c d x y : ℚ) → IsWithin a b x → IsWithin c d y → IsWithin (a +ℚ c) (b +ℚ d) (x +ℚ y)
sum_within a b c d x y v w = record { above = +ℚ_mono v.above w.above; below = +ℚ_mono v.below w.below }

pub neg_within : (a b x : ℚ) → IsWithin a b x → IsWithin (neg_ℚ b) (neg_ℚ a) (neg_ℚ x)
neg_within a b x v = record { above = neg_ℚ_anti v.below; below = neg_ℚ_anti v.above }

pub difference_within : (a b c d x y : ℚ) → IsWithin a b x → IsWithin c d y → IsWithin (a -ℚ d) (b -ℚ c) (x -ℚ y)
difference_within a b c d x y v w = sum_within a b (neg_ℚ d) (neg_ℚ c) x (neg_ℚ y) v (neg_within c d y w)

pub min_within : (a b c d x y : ℚ) → IsWithin a b x → IsWithin c d y → IsWithin (min_ℚ a c) (min_ℚ b d) (min_ℚ x y)
min_within a b c d x y v w =
    record { above = min_ℚ_mono a x c y v.above w.above; below = min_ℚ_mono x b y d v.below w.below }

pub max_within : (a b c d x y : ℚ) → IsWithin a b x → IsWithin c d y → IsWithin (max_ℚ a c) (max_ℚ b d) (max_ℚ x y)
max_within a b c d x y v w =
    record { above = max_ℚ_mono a x c y v.above w.above; below = max_ℚ_mono x b y d v.below w.below }

-- an absolute value lies from 0 to the greater of the ends' absolute values
pub abs_within : (a b x : ℚ) → IsWithin a b x → IsWithin zero_ℚ (max_ℚ (abs_ℚ a) (abs_ℚ b)) (abs_ℚ x)
abs_within a b x v =
    let own = max_ℚ_greatest (abs_ℚ a) (abs_ℚ b) in
    record {
      above = (abs_ℚ_is x).0;
      below = abs_ℚ_below x _
          (≤ℚ_trans v.below (≤ℚ_trans (max_ℚ_greatest b (neg_ℚ b)).0 own.1))
          (≤ℚ_trans (neg_ℚ_anti v.above) (≤ℚ_trans (max_ℚ_greatest a (neg_ℚ a)).1 own.0));
    }
