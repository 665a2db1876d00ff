-- What holds of rows that are divided in the middle.
use Rattle.std.proofs.Common.{◌≡◌, ℕ, ◌<◌, List, [], ◌∷◌, ◌++◌, length, ap, subst, ◌∙◌, length-append, arith}
use Rattle.std.specs.List.{All, AllByRecursion}
use Rattle.std.proofs.lemmas.List.Elements.{recursion_from_All, All-from_recursion}
use Rattle.ato_cert.specs.declared.problem.Row.{Row}
use Rattle.ato_cert.specs.Problems.{AreRising}
use Rattle.ato_cert.specs.Halves.{AreHalves}
use Rattle.ato_cert.proofs.RowLemmas.{rising_low, rising_high}

-- what holds of rows holds of their halves

pub low_rising : {rows low high : List Row} {number : ℕ} → AreHalves rows low number high → AreRising rows → AreRising low
low_rising {rows} {low} {high} h r = rising_low low high (subst AreRising h.together r)

pub high_rising : {rows low high : List Row} {number : ℕ} → AreHalves rows low number high → AreRising rows → AreRising high
high_rising {rows} {low} {high} h r = rising_high low high (subst AreRising h.together r)

all_parts : (P : Row → Type 0) (low high : List Row) → AllByRecursion P (low ++ high) → AllByRecursion P low × AllByRecursion P high
all_parts P [] high a = (tt, a)
all_parts P (row ∷ low) high a = let rest = all_parts P low high a.1 in ((a.0, rest.0), rest.1)

parts_of : (P : Row → Type 0) (rows low high : List Row) → rows ≡ low ++ high → All P rows → AllByRecursion P low × AllByRecursion P high
parts_of P rows low high e a = all_parts P low high (recursion_from_All P (low ++ high) (subst (λ (l : List Row). All P l) e a))

pub low_all : (P : Row → Type 0) {rows low high : List Row} {number : ℕ} → AreHalves rows low number high → All P rows → All P low
low_all P {rows} {low} {high} h a = All-from_recursion P low (parts_of P rows low high h.together a).0

pub high_all : (P : Row → Type 0) {rows low high : List Row} {number : ℕ} → AreHalves rows low number high → All P rows → All P high
high_all P {rows} {low} {high} h a = All-from_recursion P high (parts_of P rows low high h.together a).1

-- both halves have fewer rows

pub low_fewer : {rows low high : List Row} {number : ℕ} → AreHalves rows low number high → length low < length rows
low_fewer {rows} {low} {high} h = omega (arith, ap (λ (x : List Row). length x) h.together ∙ length-append low high, h.high_some)

pub high_fewer : {rows low high : List Row} {number : ℕ} → AreHalves rows low number high → length high < length rows
high_fewer {rows} {low} {high} h = omega (arith, ap (λ (x : List Row). length x) h.together ∙ length-append low high, h.low_some)
