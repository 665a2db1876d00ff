use Rattle.std.proofs.Common.{ℕ, ◌<◌, ◌≤◌, ◌^◌, arith, lit<}
use Rattle.std.proofs.Math.Nat.{pow-le-pow_right}
use Rattle.std.proofs.Math.Facts.{Fits-of_lt}
use Rattle.ato_first_catalog.proofs.ranges.number.Goals as goal

-- up to seventeen digits leave room for one more
has_room : (n i : ℕ) → n < 10 ^ i → i ≤ 17 → n < 10 ^ 17
has_room n i small few = let more : 10 ^ i ≤ 10 ^ 17 = pow-le-pow_right {n = 10} (lit< tt) few in omega arith

pub overflow_mul-value : goal.overflow_mul-value
overflow_mul-value c = Fits-of_lt (let room : c.loop-digit.value < 10 ^ 17 = has_room _ _ c.loop-digit.invariant.small (omega arith) in omega arith)

pub overflow_add-value : goal.overflow_add-value
overflow_add-value c = Fits-of_lt (let room : c.loop-digit.value < 10 ^ 17 = has_room _ _ c.loop-digit.invariant.small (omega arith) in omega (arith, c.from.ensures))
