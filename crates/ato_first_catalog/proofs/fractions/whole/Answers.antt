use Rattle.std.proofs.Common.{◌≡◌, ◌⊎◌, ◌^◌, ◌<◌, ◌≤◌, ℕ, ℤ, pos, inl, inr, arith, to_z, of_z}
use Rattle.std.proofs.lemmas.Int.{to_z_pos}
use Rattle.std.specs.Int.{w128}
use Rattle.ato_frac.specs.declared.fraction.Frac.{Frac}
use Rattle.ato_frac.specs.Fractions.{value_of}
use Rattle.ato_frac.specs.Range.{IsInRange}
use Rattle.ato_rational.specs.Rational.{◌≈ℚ◌, ◌/ℚ◌, whole}
use Rattle.ato_rational.proofs.Order.{≈ℚ_trans}
use Rattle.ato_first_catalog.proofs.WholeLaws.{over_one, whole_in_range}
use Rattle.ato_first_catalog.proofs.fractions.whole.Goals as goal

-- a whole number as the call of `new` writes it
passed : (n : ℕ) (z : ℤ) → z ≡ pos n → n < 2 ^ 64 → to_z w128 (of_z w128 z) ≡ pos n
passed n z same small =
    let room : 2 ^ 64 ≤ 2 ^ 127 = omega arith in
    rw same (to_z_pos w128 n (omega arith))

not_absent : (n : ℕ) (z : ℤ) → z ≡ pos n → n < 2 ^ 64 → (pos 1 ≡ pos 0) ⊎ ¬ (IsInRange (whole z /ℚ whole (pos 1))) → ⊥
not_absent n z same small (inl zero) = cc zero
not_absent n z same small (inr out) = out (rw same (whole_in_range n small))

is_whole : (n : ℕ) (z : ℤ) (f : Frac) → z ≡ pos n → value_of f ≈ℚ whole z /ℚ whole (pos 1) → value_of f ≈ℚ whole (pos n)
is_whole n z f same h = ≈ℚ_trans (rw same at h) (over_one n)

pub unreachable-requires : goal.unreachable-requires
unreachable-requires c =
    not_absent c.args.number (to_z w128 (of_z w128 c.from.result)) (passed c.args.number c.from.result c.from.ensures (omega arith)) (omega arith) c.in-None.ensures

pub returns : goal.returns
returns c =
    is_whole c.args.number (to_z w128 (of_z w128 c.from.result)) c.in-Some.fraction (passed c.args.number c.from.result c.from.ensures (omega arith)) c.in-Some.ensures.1
