use Rattle.std.specs.Prelude.{ℕ, ◌+◌, ◌-◌, ◌^◌, ◌<◌, ◌≤◌, min}

-- a count after one more, which stands still at the last value of a counter
abbrev pub next_count : ℕ → ℕ
next_count count = min (count + 1) (2 ^ 64 - 1)

-- A count rose: it is greater than before, or stands at the last value of a counter.
abbrev pub Rose : ℕ → ℕ → Type 0
Rose before now = next_count before ≤ now

-- A count never falls, it rose where P holds, and only P raises it.
pub record Counts (before now : ℕ) (P : Type 0) : Type 0 where
  pub later : before ≤ now
  pub rose : P → Rose before now
  pub only : before < now → P
