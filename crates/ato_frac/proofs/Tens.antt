-- Whole numbers times whole powers of 10.
use Rattle.std.proofs.Common.{◌≡◌, ◌≢◌, ℕ, zero, suc, ◌+◌, ◌*◌, ◌-◌, ◌%◌, ◌^◌, ◌≤◌, ℤ, pos, negsuc, ◌+ℤ◌, ◌*ℤ◌, neg_ℤ, ⊎_elim, refl, sym, ap, subst, ◌∙◌, arith}
use Rattle.std.proofs.Math.Nat.{pow-suc, pow-zero, mul-mod_left, eq_of_mul-eq-mul_right}
use Rattle.std.proofs.lemmas.Bool.{cases_lt}
use Rattle.std.proofs.lemmas.Nat.{pow-add}
use borrow.Author.Differences.{up, down}
use Rattle.ato_frac.specs.Numbers.{ten_to, tens_positive, IsScaled}
use Rattle.ato_rational.specs.Rational.{ℚ, ◌≈ℚ◌, ◌*ℚ◌, whole}
use Rattle.ato_rational.proofs.Order.{≈ℚ_sym, ≈ℚ_trans}
use Rattle.ato_rational.proofs.Ring.{int, nat, opp, ◌⊕◌, ◌⊗◌, same, from_same}

-- m · 10^u / 10^d
abbrev over_ten : ℕ → ℕ → ℕ → ℚ
over_ten m u d = record { num = pos (m * 10 ^ u); den = 10 ^ d; positive = tens_positive d }

tens_split : (a b c : ℕ) → a ≡ b + c → 10 ^ a ≡ 10 ^ b * 10 ^ c
tens_split a b c e = ap (λ x. 10 ^ x) e ∙ pow-add 10 b c

times_up : (m u d k : ℕ) → u ≡ k + d → whole (pos m) *ℚ ten_to (pos k) ≈ℚ over_ten m u d
times_up m u d k e =
    record {
      same = same (nat m ⊗ nat (10 ^ k) ⊗ nat (10 ^ d)) (nat (m * 10 ^ u) ⊗ nat (1 * 1)) (omega (arith, ap (λ x. m * x) (tens_split u k d e)));
    }

times_down : (m u d k : ℕ) → d ≡ u + suc k → whole (pos m) *ℚ ten_to (negsuc k) ≈ℚ over_ten m u d
times_down m u d k e =
    record {
      same = same (nat m ⊗ nat 1 ⊗ nat (10 ^ d)) (nat (m * 10 ^ u) ⊗ nat (1 * 10 ^ suc k)) (omega (arith, ap (λ x. m * x) (tens_split d u (suc k) e)));
    }

pub difference_up : (u d : ℕ) → d ≤ u → pos u +ℤ neg_ℤ (pos d) ≡ pos (u - d)
difference_up u d h = same (nat u ⊕ opp (nat d)) (nat (u - d)) (omega arith)

pub difference_down : (u d k : ℕ) → d ≡ u + suc k → pos u +ℤ neg_ℤ (pos d) ≡ negsuc k
difference_down u d k h = same (nat u ⊕ opp (nat d)) (opp (nat (suc k))) (omega arith)

value_over : (m u d : ℕ) → whole (pos m) *ℚ ten_to (pos u +ℤ neg_ℤ (pos d)) ≈ℚ over_ten m u d
value_over m u d =
    ⊎_elim
    (λ h.
    let e : d ≡ u + suc (d - suc u) = omega arith in
    subst (λ (z : ℤ). whole (pos m) *ℚ ten_to z ≈ℚ over_ten m u d) (sym (difference_down u d (d - suc u) e)) (times_down m u d (d - suc u) e))
    (λ h. subst (λ (z : ℤ). whole (pos m) *ℚ ten_to z ≈ℚ over_ten m u d) (sym (difference_up u d h)) (times_up m u d (u - d) (omega arith)))
    (cases_lt u d)

scaled_over : (m : ℕ) (e : ℤ) (u d : ℕ) → e ≡ pos u +ℤ neg_ℤ (pos d) → whole (pos m) *ℚ ten_to e ≈ℚ over_ten m u d
scaled_over m e u d h = subst (λ (z : ℤ). whole (pos m) *ℚ ten_to z ≈ℚ over_ten m u d) (sym h) (value_over m u d)

two_sides : (e : ℤ) → e ≡ pos (up e) +ℤ neg_ℤ (pos (down e))
two_sides e = same (int e) (nat (up e) ⊕ opp (nat (down e))) (omega arith)

-- zeros at the end of a whole number count in the power
pub times_zeros : (n m z : ℕ) (p : ℤ) → n ≡ m * 10 ^ z → whole (pos n) *ℚ ten_to p ≈ℚ whole (pos m) *ℚ ten_to (p +ℤ pos z)
times_zeros n m z p e =
    let shifted : p +ℤ pos z ≡ pos (z + up p) +ℤ neg_ℤ (pos (down p)) = same (int p ⊕ nat z) (nat (z + up p) ⊕ opp (nat (down p))) (omega arith) in
    let equal : n * 10 ^ up p ≡ m * 10 ^ (z + up p) = omega (arith, ap (λ x. x * 10 ^ up p) e, ap (λ x. m * x) (pow-add 10 z (up p))) in
    let middle : over_ten n (up p) (down p) ≈ℚ over_ten m (z + up p) (down p) = record { same = ap (λ x. pos x *ℤ pos (10 ^ down p)) equal } in
    ≈ℚ_trans (scaled_over n p (up p) (down p) (two_sides p))
    (≈ℚ_trans middle (≈ℚ_sym (scaled_over m (p +ℤ pos z) (z + up p) (down p) shifted)))

-- numbers that are no multiples of 10 are told by their powers of 10

multiple : (m n b : ℕ) → m ≡ n * 10 ^ suc b → m % 10 ≡ 0
multiple m n b e =
    let t : m ≡ n * 10 ^ b * 10 = omega (arith, e, ap (λ x. n * x) (pow-suc 10 b)) in
    ap (λ x. x % 10) t ∙ mul-mod_left (n * 10 ^ b) 10

stripped_same : (m n a b : ℕ) → m % 10 ≢ 0 → n % 10 ≢ 0 → m * 10 ^ a ≡ n * 10 ^ b → (m ≡ n) × (a ≡ b)
stripped_same m n zero zero h k e = (omega (arith, e, pow-zero 10), refl)
stripped_same m n zero (suc b) h k e = absurd (h (multiple m n b (omega (arith, e, pow-zero 10))))
stripped_same m n (suc a) zero h k e = absurd (k (multiple n m a (omega (arith, e, pow-zero 10))))
stripped_same m n (suc a) (suc b) h k e =
    let t : m * 10 ^ a * 10 ≡ n * 10 ^ b * 10 = omega (arith, e, ap (λ x. m * x) (pow-suc 10 a), ap (λ x. n * x) (pow-suc 10 b)) in
    let s = stripped_same m n a b h k (eq_of_mul-eq-mul_right 10 (omega arith) (m * 10 ^ a) (n * 10 ^ b) t) in
    (s.0, ap suc s.1)

sides_same : (x y : ℤ) → up x + down y ≡ up y + down x → x ≡ y
sides_same x y h = same (int x) (int y) (omega arith)

scaled_sides : (m n : ℕ) (x y : ℤ) → whole (pos m) *ℚ ten_to x ≈ℚ whole (pos n) *ℚ ten_to y → m * 10 ^ (up x + down y) ≡ n * 10 ^ (up y + down x)
scaled_sides m n x y h =
    let s = ≈ℚ_trans (≈ℚ_sym (scaled_over m x (up x) (down x) (two_sides x))) (≈ℚ_trans h (scaled_over n y (up y) (down y) (two_sides y))) in
    let p = from_same (nat (m * 10 ^ up x) ⊗ nat (10 ^ down y)) (nat (n * 10 ^ up y) ⊗ nat (10 ^ down x)) s.same in
    omega (arith, p, ap (λ z. m * z) (pow-add 10 (up x) (down y)), ap (λ z. n * z) (pow-add 10 (up y) (down x)))

tens_zero : (n k : ℕ) → n * 10 ^ k ≡ 0 → n % 10 ≡ 0
tens_zero n k e =
    let z : n ≡ 0 = eq_of_mul-eq-mul_right (10 ^ k) (tens_positive k) n 0 (omega (arith, e)) in
    ap (λ x. x % 10) z

-- a value has at most one such form
pub scaled_unique : (v : ℚ) (m n : ℕ) (x y : ℤ) → IsScaled v m x → IsScaled v n y → (m ≡ n) × (x ≡ y)
scaled_unique v m n x y s t =
    let e = scaled_sides m n x y (≈ℚ_trans (≈ℚ_sym s.same) t.same) in
    ⊎_elim
    (λ h.
    ⊎_elim
    (λ k. let r = stripped_same m n (up x + down y) (up y + down x) h k e in (r.0, sides_same x y r.1))
    (λ k. absurd (h (tens_zero m (up x + down y) (e ∙ ap (λ z. z * 10 ^ (up y + down x)) k.0 ∙ omega arith))))
    t.no_multiple)
    (λ h.
    ⊎_elim
    (λ k. absurd (k (tens_zero n (up y + down x) (sym e ∙ ap (λ z. z * 10 ^ (up x + down y)) h.0 ∙ omega arith))))
    (λ k. (h.0 ∙ sym k.0, h.1 ∙ sym k.1))
    t.no_multiple)
    s.no_multiple
