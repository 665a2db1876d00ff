-- Whole numbers without the zeros at their end, digit by digit.
use Rattle.std.proofs.Common.{◌≡◌, ◌≢◌, inl, ℕ, suc, ◌+◌, ◌*◌, ◌-◌, ◌%◌, ◌^◌, ◌<◌, ◌≤◌, ⊎_elim, refl, ap, arith, mul-le-mul_left, mul-le-mul_right, eq-zero-or-pos}
use Rattle.std.proofs.Math.Nat.{pow-suc, add-mul-mod_self_right}
use Rattle.std.proofs.lemmas.Bool.{cases_lt}
use Rattle.std.proofs.lemmas.Nat.{pow-add}
use Rattle.ato_frac.specs.Trimmed.{IsTrimmed, IsTooLong}
use Rattle.ato_frac.specs.Numbers.{tens_positive}

-- a number times a power of 10 is at least that number
tens_at_least : (m zeros : ℕ) → m ≤ m * 10 ^ zeros
tens_at_least m zeros = let p = mul-le-mul_left m (tens_positive zeros) in omega arith

pub tens_rise : (i j : ℕ) → i ≤ j → 10 ^ i ≤ 10 ^ j
tens_rise i j h =
    let e : j ≡ i + (j - i) = omega arith in
    rw e (rw (pow-add 10 i (j - i)) (tens_at_least (10 ^ i) (j - i)))

-- the last digit of a number
pub last_digit : (n digit : ℕ) → digit < 10 → 0 < digit → (n * 10 + digit) % 10 ≢ 0
last_digit n digit h p e = omega (arith, add-mul-mod_self_right digit n 10)

-- a digit that is not 0
pub trimmed_digit : (n digit : ℕ) → digit < 10 → 0 < digit → IsTrimmed (n * 10 + digit) (n * 10 + digit) 0
trimmed_digit n digit h p = record { same = omega arith; no_multiple = inl (last_digit n digit h p) }

-- one more zero
pub trimmed_zero : (n m zeros : ℕ) → m ≢ 0 → IsTrimmed n m zeros → IsTrimmed (n * 10 + 0) m (zeros + 1)
trimmed_zero n m zeros k t =
    record {
      same = let e : zeros + 1 ≡ suc zeros = omega arith in rw (e, pow-suc 10 zeros) (omega (arith, ap (λ x. x * 10) t.same));
      no_multiple = ⊎_elim (λ h. inl h) (λ h. absurd (k h.0)) t.no_multiple;
    }

-- a number that is too long stays so
pub too_long_more : (n digit : ℕ) → digit < 10 → IsTooLong n → IsTooLong (n * 10 + digit)
too_long_more n digit h long =
    ⊎_elim
    (λ e.
    let k : long.m ≢ 0 = λ z. omega (arith, long.large) in
    rw e (record { m = long.m; zeros = long.zeros + 1; trimmed = trimmed_zero n long.m long.zeros k long.trimmed; large = long.large }))
    (λ p. record {
      m = n * 10 + digit;
      zeros = 0;
      trimmed = trimmed_digit n digit h p;
      large = omega (arith, long.trimmed.same, tens_at_least long.m long.zeros, long.large);
    })
    (eq-zero-or-pos digit)

-- only 0 has no zeros at its end and is a multiple of 10
significand_positive : (n m k : ℕ) → IsTrimmed n m k → 0 < k → 0 < m
significand_positive n m k t h =
    ⊎_elim (λ e. absurd (⊎_elim (λ other. other (rw e refl)) (λ none. omega (arith, none.1)) t.no_multiple)) (λ p. p) (eq-zero-or-pos m)

-- more zeros than a number below 2^127 has room for
pub large_shift : (n m zeros digit : ℕ) → IsTrimmed n m zeros → 37 < zeros → 2 ^ 127 ≤ m * 10 ^ zeros * 10 + digit
large_shift n m zeros digit t h =
    omega (arith, tens_rise 38 zeros (omega arith), mul-le-mul_right (10 ^ zeros) (significand_positive n m zeros t (omega arith)))

pub shifted : (m zeros shift : ℕ) → shift ≡ 10 ^ (zeros + 1) → m * shift ≡ m * 10 ^ zeros * 10
shifted m zeros shift e =
    let k : zeros + 1 ≡ suc zeros = omega arith in
    rw (e, k, pow-suc 10 zeros) (omega arith)

not_below : (a b : ℕ) → ¬ (a < b) → b ≤ a
not_below a b h = ⊎_elim (λ k. absurd (h k)) (λ k. k) (cases_lt a b)

-- a product that does not fit 128 bits
pub wide_product : (m zeros shift digit : ℕ) → shift ≡ 10 ^ (zeros + 1) → ¬ (m * shift < 2 ^ 128) → 2 ^ 127 ≤ m * 10 ^ zeros * 10 + digit
wide_product m zeros shift digit e h = omega (arith, not_below _ _ h, shifted m zeros shift e)

pub wide_sum : (m zeros shift product digit : ℕ) → shift ≡ 10 ^ (zeros + 1) → product ≡ m * shift → ¬ (product + digit < 2 ^ 128) → 2 ^ 127 ≤ m * 10 ^ zeros * 10 + digit
wide_sum m zeros shift product digit e g h = omega (arith, not_below _ _ h, shifted m zeros shift e)

pub next_is : (m zeros shift product digit sum : ℕ) → shift ≡ 10 ^ (zeros + 1) → product ≡ m * shift → sum ≡ product + digit → sum ≡ m * 10 ^ zeros * 10 + digit
next_is m zeros shift product digit sum e g h = omega (arith, shifted m zeros shift e)

pub too_long_digit : (n digit : ℕ) → digit < 10 → digit ≢ 0 → 2 ^ 127 ≤ n * 10 + digit → IsTooLong (n * 10 + digit)
too_long_digit n digit h k large =
    record { m = n * 10 + digit; zeros = 0; trimmed = trimmed_digit n digit h (omega arith); large = large }
