-- The limits are small numbers.
use Rattle.std.proofs.Common.{ℕ, ◌+◌, ◌^◌, ◌<◌, ◌≤◌, arith, lit≤}
use Rattle.ato_catalog.specs.Limits.{most_rows}

pub most_few : most_rows ≤ 2 ^ 17
unfolding most_rows
most_few = lit≤ tt

-- the number of each row, and that of one too many, fits 32 bits
pub few_rows : (before : ℕ) → before ≤ most_rows → before + 1 < 2 ^ 32
few_rows before few = let small : most_rows ≤ 2 ^ 17 = most_few in let room : 2 ^ 17 + 1 < 2 ^ 32 = omega arith in omega arith
