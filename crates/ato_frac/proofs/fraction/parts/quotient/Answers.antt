use Rattle.std.proofs.Common.{◌≡◌, ℕ, ℤ, pos, negsuc, ◌*ℤ◌, unsigned_abs, int_lt, true, Option, MatchOption, arith}
use Rattle.std.proofs.lemmas.Int.{to_z-of_z, ints}
use Rattle.ato_frac.specs.declared.fraction.Frac.{Frac}
use Rattle.ato_frac.specs.LowestTerms.{HasSmallTerms}
use Rattle.ato_frac.specs.Signed.{signed_of}
use Rattle.ato_frac.proofs.LowestTerms.{turned}
use Rattle.ato_frac.proofs.fraction.parts.quotient.Goals as goal

by_sign : (n d : ℤ) (s m : ℕ) (r : Option Frac) → int_lt d (pos 0) ≡ true → s ≡ unsigned_abs n → m ≡ unsigned_abs d → MatchOption r (¬ HasSmallTerms (signed_of (int_lt (pos 0) n) s) (pos m)) (λ f. f.numer *ℤ pos m ≡ signed_of (int_lt (pos 0) n) s *ℤ pos f.denom) → MatchOption r (¬ HasSmallTerms n d) (λ f. f.numer *ℤ d ≡ n *ℤ pos f.denom)
by_sign n (pos d) s m r below e g h = absurd (omega (arith, ints))
by_sign n (negsuc d) s m r below e g h = turned n d r (rw (e, g) at h)

pub returns-then-d-lt0 : goal.returns-then-d-lt0
returns-then-d-lt0 c =
    let fits_n = c.ranges.n in
    let fits_d = c.ranges.d in
    by_sign c.args.n c.args.d _ _ _
    (simp to_z-of_z at c.if-d-lt0.true)
    (simp to_z-of_z at c.unsigned_abs.ensures.value)
    (simp to_z-of_z at c.unsigned_abs-then-d-lt0.ensures.value)
    (simp to_z-of_z at c.reduced_if_small.ensures)
