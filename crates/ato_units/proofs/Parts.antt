-- The number of a part.
use Rattle.std.proofs.Common.{◌≡◌, ℕ, Bool, true, false, List, Some, subst}
use Rattle.ato_frac.specs.declared.fraction.Frac.{Frac}
use Rattle.ato_frac.specs.declared.faults.DecimalFault.{DecimalFault}
use Rattle.ato_frac.specs.declared.faults.DecimalFault.TheVariants as decimals
use Rattle.ato_frac.specs.Decimals.{Reads, RefusesText, IsReadable}
use Rattle.ato_frac.specs.Numbers.{Parts, number_value}
use Rattle.ato_frac.specs.Fractions.{value_of}
use Rattle.ato_frac.proofs.Grammar.{number_unique}
use Rattle.ato_rational.specs.Rational.{◌≈ℚ◌, neg_ℚ}
use Rattle.ato_rational.proofs.Order.{≈ℚ_refl}
use Rattle.ato_units.specs.Spellings.{HasNumber}

-- a text that is refused reads as no fraction
pub none_read : (text : List ℕ) (e : DecimalFault) → RefusesText text e → (f : Frac) → ¬ Reads text f
none_read text decimals.BadText h f r = h r.parts r.number
none_read text decimals.Wide h f r = h.2 (subst (λ (p : Parts). IsReadable (number_value p)) (number_unique text r.parts h.0 r.number h.1) r.readable)

pub has_opposite : (text : List ℕ) (negative : Bool) (size given : Frac) → Reads text size → negative ≡ true → value_of given ≈ℚ neg_ℚ (value_of size)
    → HasNumber negative text (Some given)
has_opposite text negative size given r h e = rw h (size, r, e)

pub has_size : (text : List ℕ) (negative : Bool) (size : Frac) → Reads text size → negative ≡ false → HasNumber negative text (Some size)
has_size text negative size r h = rw h (size, r, ≈ℚ_refl (value_of size))
