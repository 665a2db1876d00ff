-- Equations and orders of rationals that hold by multiplying out. A side is written as an `Expr`; its numerator and its
-- denominator are terms of `Ring`, so that `omega` compares the cross products.
use Rattle.std.proofs.Common.{◌≡◌, ℕ, ◌+◌, ◌*◌, ◌≤◌, ◌<◌, pos, ◌*ℤ◌, neg_ℤ, sym, refl, ap, ap₂, ◌∙◌}
use Rattle.ato_rational.specs.Rational.{ℚ, ◌≈ℚ◌, ◌≤ℚ◌, ◌<ℚ◌, ◌+ℚ◌, neg_ℚ, ◌*ℚ◌}
use Rattle.ato_rational.proofs.Ring as Ring
use Rattle.ato_rational.proofs.Ring.{Term, int, nat, opp, ◌⊕◌, ◌⊗◌, over, under, value_of}

infixl 6 ◌⊞◌
infixl 7 ◌⊠◌
pub data Expr : Type 0 where
  rat : ℚ → Expr
  minus : Expr → Expr
  ◌⊞◌ : Expr → Expr → Expr
  ◌⊠◌ : Expr → Expr → Expr

abbrev pub rational_of : Expr → ℚ
rational_of (rat x) = x
rational_of (minus s) = neg_ℚ (rational_of s)
rational_of (s ⊞ t) = rational_of s +ℚ rational_of t
rational_of (s ⊠ t) = rational_of s *ℚ rational_of t

abbrev pub den_of : Expr → ℕ
den_of (rat x) = x.den
den_of (minus s) = den_of s
den_of (s ⊞ t) = den_of s * den_of t
den_of (s ⊠ t) = den_of s * den_of t

abbrev pub num_of : Expr → Term
num_of (rat x) = int x.num
num_of (minus s) = opp (num_of s)
num_of (s ⊞ t) = num_of s ⊗ nat (den_of t) ⊕ num_of t ⊗ nat (den_of s)
num_of (s ⊠ t) = num_of s ⊗ num_of t

den_is : (s : Expr) → den_of s ≡ (rational_of s).den
den_is (rat x) = refl
den_is (minus s) = den_is s
den_is (s ⊞ t) = ap₂ ◌*◌ (den_is s) (den_is t)
den_is (s ⊠ t) = ap₂ ◌*◌ (den_is s) (den_is t)

num_is : (s : Expr) → value_of (num_of s) ≡ (rational_of s).num
num_is (rat x) = refl
num_is (minus s) = ap neg_ℤ (num_is s)
num_is (s ⊞ t) = rw (num_is s, num_is t, den_is s, den_is t)
num_is (s ⊠ t) = ap₂ ◌*ℤ◌ (num_is s) (num_is t)

-- the numerator of s over the denominator of t
abbrev pub cross : Expr → Expr → Term
cross s t = num_of s ⊗ nat (den_of t)

cross_is : (s t : Expr) → value_of (cross s t) ≡ (rational_of s).num *ℤ pos (rational_of t).den
cross_is s t = rw (num_is s, den_is t)

pub same : (s t : Expr) → over (cross s t) + under (cross t s) ≡ over (cross t s) + under (cross s t) → rational_of s ≈ℚ rational_of t
same s t e = record { same = sym (cross_is s t) ∙ Ring.same (cross s t) (cross t s) e ∙ cross_is t s }

pub at_most : (s t : Expr) → over (cross s t) + under (cross t s) ≤ over (cross t s) + under (cross s t) → rational_of s ≤ℚ rational_of t
at_most s t h = record { le = rw (← cross_is s t, ← cross_is t s) (Ring.at_most (cross s t) (cross t s) h) }

pub below : (s t : Expr) → over (cross s t) + under (cross t s) < over (cross t s) + under (cross s t) → rational_of s <ℚ rational_of t
below s t h = record { lt = rw (← cross_is s t, ← cross_is t s) (Ring.below (cross s t) (cross t s) h) }

pub from_same : (s t : Expr) → rational_of s ≈ℚ rational_of t → over (cross s t) + under (cross t s) ≡ over (cross t s) + under (cross s t)
from_same s t e = Ring.from_same (cross s t) (cross t s) (cross_is s t ∙ e.same ∙ sym (cross_is t s))

pub from_at_most : (s t : Expr) → rational_of s ≤ℚ rational_of t → over (cross s t) + under (cross t s) ≤ over (cross t s) + under (cross s t)
from_at_most s t h = Ring.from_at_most (cross s t) (cross t s) (rw (cross_is s t, cross_is t s) h.le)

pub from_below : (s t : Expr) → rational_of s <ℚ rational_of t → over (cross s t) + under (cross t s) < over (cross t s) + under (cross s t)
from_below s t h = Ring.from_below (cross s t) (cross t s) (rw (cross_is s t, cross_is t s) h.lt)
