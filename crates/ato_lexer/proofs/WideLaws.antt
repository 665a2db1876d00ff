-- A text is wide exactly where a fraction's text is refused as one.
use Rattle.std.proofs.Common.{◌≡◌, ◌≢◌, ◌⊎◌, inl, inr, ℕ, zero, suc, ◌+◌, ◌-◌, ◌*◌, ◌/◌, ◌%◌, ◌^◌, ◌<◌, ◌≤◌, ℤ, pos, negsuc, neg_ℤ, ◌+ℤ◌, ◌≤ℤ◌, Bool, true, false, ◌&&◌, ◌||◌, List, ◌++◌, length, take, get_or, Option, Some, None, refl, sym, ap, subst, ◌∙◌, ⊎_elim, arith, if◌then◌else◌}
use Rattle.std.specs.Prelude.{◌==◌, nat_le}
use Rattle.std.specs.List.{list_all}
use Rattle.std.specs.Char.{is_ascii_digit}
use Rattle.std.specs.Int.{IsGcd}
use Rattle.std.proofs.Math.Nat.{pow-suc, pow-zero, one-dvd, div-le_self}
use Rattle.std.proofs.Math.Seq.{take-length}
use Rattle.std.proofs.lemmas.Bool.{leb-true, leb-false, le-leb, lt-leb, eqb-true, eqb-false, cases_lt}
use Rattle.std.proofs.lemmas.Bool.Decides.{eqb_tells}
use Rattle.std.proofs.lemmas.List.Folds.{list_all-append, list_all_at}
use Rattle.std.proofs.lemmas.List.Sums.{suffix_len-take_no, suffix_len-take_yes}
use Rattle.ato_frac.specs.Coprime.{scaled}
use Rattle.ato_frac.specs.Decimals.{IsReadable, RefusesText}
use Rattle.ato_frac.specs.declared.faults.DecimalFault.TheVariants.{Wide}
use Rattle.ato_frac.specs.Numbers.{Parts, IsNumber, IsScaled, digits_value, power_of, number_value, ten_to, tens_positive}
use Rattle.ato_frac.specs.Range.{IsInRange}
use Rattle.ato_frac.specs.Signed.{signed_of}
use Rattle.ato_frac.specs.Reading.{read_number}
use Rattle.ato_frac.proofs.Digits.{digit_range, digits_more}
use Rattle.ato_frac.proofs.Grammar.{read_sound, read_complete, fraction_digits}
use Rattle.ato_frac.proofs.LowestTerms.{in_range_lowest, quotient_positive, quotients_cross, quotients_coprime}
use Rattle.ato_frac.proofs.Ranges.{small_terms}
use Rattle.ato_frac.proofs.Scaled.{range_moved}
use Rattle.ato_frac.proofs.Tens.{times_zeros, scaled_unique, difference_up, difference_down}
use Rattle.ato_frac.proofs.Trimming.{last_digit, tens_rise}
use Rattle.ato_rational.specs.Rational.{◌≈ℚ◌, ◌*ℚ◌, whole}
use Rattle.ato_rational.proofs.Order.{≈ℚ_sym, ≈ℚ_trans}
use Rattle.ato_rational.proofs.RationalRing as Rational
use Rattle.ato_rational.proofs.RationalRing.{rat, ◌⊠◌}
use Rattle.ato_rational.proofs.Ring.{nat, opp, ◌⊕◌, ◌⊗◌, same, at_most, from_at_most}
use Rattle.ato_lexer.specs.WideNumbers.{end_zeros, significand, up, down, is_beyond, parts_wide, is_wide}

-- digits without the zeros at their end

abbrev is_zero : ℕ → Bool
is_zero c = c == 48

-- the first n digits are these without zeros, times a power of 10
record IsStripped (xs : List ℕ) (n : ℕ) : Type 0 where
  few : end_zeros (take n xs) ≤ n
  same : digits_value (take n xs) ≡ digits_value (take (n - end_zeros (take n xs)) xs) * 10 ^ end_zeros (take n xs)
  last : (digits_value (take (n - end_zeros (take n xs)) xs) % 10 ≢ 0) ⊎ (digits_value (take (n - end_zeros (take n xs)) xs) ≡ 0)

digit_at : (xs : List ℕ) (k : ℕ) → list_all is_ascii_digit xs ≡ true → k < length xs → is_ascii_digit (get_or xs k 0) ≡ true
digit_at xs k h l = by (is_ascii_digit (get_or xs k 0)) refl
  where
    by : (b : Bool) → is_ascii_digit (get_or xs k 0) ≡ b → b ≡ true
    by true e = refl
    by false e = let f = list_all_at is_ascii_digit xs k 0 l e in let g : true ≡ false = sym h ∙ f in absurd (cc)

one_more : (m : ℕ) → m + 1 ≡ suc m
one_more m = omega arith

one_less : (m : ℕ) → suc m - 1 ≡ m
one_less m = omega arith

-- another zero
zero_more : (xs : List ℕ) (m z z' v v' d : ℕ) → v ≡ digits_value (take (m - z) xs) * 10 ^ z → v' ≡ v * 10 + (d - 48) → d ≡ 48 → z' ≡ 1 + z → suc m - z' ≡ m - z
    → v' ≡ digits_value (take (suc m - z') xs) * 10 ^ z'
zero_more xs m z z' v v' d e f g h k =
    let w = digits_value (take (m - z) xs) in
    let p : z' ≡ suc z = omega (arith, h) in
    let q : d - 48 ≡ 0 = omega (arith, g) in
    let t : v' ≡ w * 10 ^ z * 10 = omega (arith, f, e, q) in
    rw (k, p, pow-suc 10 z) (omega (arith, t))

stripped : (xs : List ℕ) → list_all is_ascii_digit xs ≡ true → (n : ℕ) → n ≤ length xs → IsStripped xs n
stripped xs all zero h = record { few = omega arith; same = refl; last = inr refl }
stripped xs all (suc m) h = by (stripped xs all m (omega (arith, h))) (is_zero (get_or xs m 0)) refl
  where
    last_is : get_or xs (suc m - 1) 0 ≡ get_or xs m 0
    last_is = ap (λ k. get_or xs k 0) (one_less m)

    value_is : digits_value (take (suc m) xs) ≡ digits_value (take m xs) * 10 + (get_or xs m 0 - 48)
    value_is = rw (one_more m) at (digits_more 0 xs m (omega (arith, h)))

    by : IsStripped xs m → (b : Bool) → is_zero (get_or xs m 0) ≡ b → IsStripped xs (suc m)
    by before true e =
        let z : end_zeros (take (suc m) xs) ≡ 1 + end_zeros (take (suc m - 1) xs) = suffix_len-take_yes is_zero xs (suc m) 0 (omega arith) h (rw last_is e) in
        let y : end_zeros (take (suc m) xs) ≡ 1 + end_zeros (take m xs) = rw (one_less m) at z in
        let few = before.few in
        let k : suc m - end_zeros (take (suc m) xs) ≡ m - end_zeros (take m xs) = omega (arith, y, few) in
        record {
          few = omega (arith, y, few);
          same = zero_more xs m (end_zeros (take m xs)) _ (digits_value (take m xs)) _ (get_or xs m 0) before.same value_is (eqb-true (get_or xs m 0) 48 e) y k;
          last = rw k before.last;
        }
    by before false e =
        let z : end_zeros (take (suc m) xs) ≡ 0 = suffix_len-take_no is_zero xs (suc m) 0 (omega arith) h (rw last_is e) in
        let r = digit_range (get_or xs m 0) (digit_at xs m all (omega (arith, h))) in
        let some : get_or xs m 0 ≢ 48 = eqb-false (get_or xs m 0) 48 e in
        let k : suc m - end_zeros (take (suc m) xs) ≡ suc m = omega (arith, z) in
        record {
          few = omega (arith, z);
          same = rw (k, z, pow-zero 10) (omega arith);
          last = rw (k, value_is) (inl (last_digit (digits_value (take m xs)) (get_or xs m 0 - 48) r.1 (omega (arith, r.0, some))));
        }

-- the same of all digits
record IsSignificand (xs : List ℕ) : Type 0 where
  same : digits_value xs ≡ significand xs * 10 ^ end_zeros xs
  last : (significand xs % 10 ≢ 0) ⊎ (significand xs ≡ 0)

significand_is : (xs : List ℕ) → list_all is_ascii_digit xs ≡ true → IsSignificand xs
significand_is xs all =
    let s = stripped xs all (length xs) (omega arith) in
    record { same = rw take-length at s.same; last = rw take-length at s.last }

-- whole numbers in range

whole_lowest : (n : ℕ) → IsGcd n 1 1
whole_lowest n = (one-dvd n, one-dvd 1, λ d p q. q)

whole_in_range : (n : ℕ) → n < 2 ^ 127 → IsInRange (whole (pos n))
whole_in_range n h =
    record { terms = whole (pos n); same = record { same = refl }; small = record { lowest = whole_lowest n; num_small = h; den_small = omega arith } }

whole_small : (n : ℕ) → IsInRange (whole (pos n)) → n < 2 ^ 127
whole_small n r = (in_range_lowest false n 1 n 1 (whole_lowest n) (omega arith) (omega arith) refl (small_terms (whole (pos n)) r)).0

scaled_whole : (m k : ℕ) → whole (pos m) *ℚ ten_to (pos k) ≈ℚ whole (pos (m * 10 ^ k))
scaled_whole m k = record { same = same (nat m ⊗ nat (10 ^ k) ⊗ nat 1) (nat (m * 10 ^ k) ⊗ nat (1 * 1)) (omega arith) }

-- a whole number over a power of 10, both below 2^127
over_in_range : (m k : ℕ) → m < 2 ^ 127 → 10 ^ suc k < 2 ^ 127 → IsInRange (whole (pos m) *ℚ ten_to (negsuc k))
over_in_range m k h l =
    let d = 10 ^ suc k in
    let s = scaled m d 1 in
    let g = s.gcd in
    let positive = tens_positive (suc k) in
    let cross = quotients_cross m d g s.of_both positive in
    record {
      terms = record { num = pos (m / g); den = d / g; positive = quotient_positive m d g s.of_both positive };
      same = record { same = same (nat (m / g) ⊗ nat (1 * d)) (nat m ⊗ nat 1 ⊗ nat (d / g)) (omega (arith, cross)) };
      small = record { lowest = quotients_coprime m d g s.of_both positive; num_small = omega (arith, div-le_self m g, h); den_small = omega (arith, div-le_self d g, l) };
    }

-- the test, as facts

record HasRoom (m u d room : ℕ) : Type 0 where
  u_small : u ≤ d + 38
  d_small : d ≤ u + 38
  m_small : m < room
  n_small : m * 10 ^ (u - d) < room

abbrev beyond : ℕ → ℕ → ℕ → ℕ → Bool
beyond room m u d = if m == 0 then false else (if nat_le u (d + 38) && nat_le d (u + 38) then nat_le room m || nat_le room (m * 10 ^ (u - d)) else true)

not_zero : (m : ℕ) → m ≢ 0 → (m == 0) ≡ false
not_zero m h = ⊎_elim (λ e. absurd (h e.1)) (λ e. e.0) (eqb_tells m 0)

room_tested : (m u d room : ℕ) → m ≢ 0 → beyond room m u d ≡ false → HasRoom m u d room
room_tested m u d room h = rw (not_zero m h) (by (nat_le u (d + 38)) refl (nat_le d (u + 38)) refl (nat_le room m) refl (nat_le room (m * 10 ^ (u - d))) refl)
  where
    by : (a : Bool) → nat_le u (d + 38) ≡ a → (b : Bool) → nat_le d (u + 38) ≡ b → (p : Bool) → nat_le room m ≡ p → (q : Bool) → nat_le room (m * 10 ^ (u - d)) ≡ q
        → (if a && b then p || q else true) ≡ false → HasRoom m u d room
    by true e true f false g false i h = record { u_small = leb-true u (d + 38) e; d_small = leb-true d (u + 38) f; m_small = leb-false room m g; n_small = leb-false room (m * 10 ^ (u - d)) i }
    by true e true f true g q i h = absurd (cc)
    by true e true f false g true i h = absurd (cc)
    by true e false f p g q i h = absurd (cc)
    by false e b f p g q i h = absurd (cc)

room_passes : (m u d room : ℕ) → HasRoom m u d room → beyond room m u d ≡ false
room_passes m u d room r =
    rw (le-leb u (d + 38) r.u_small, le-leb d (u + 38) r.d_small, lt-leb room m r.m_small, lt-leb room (m * 10 ^ (u - d)) r.n_small) (by (m == 0))
  where
    by : (b : Bool) → (if b then false else false) ≡ false
    by true = refl
    by false = refl

zero_passes : (m u d room : ℕ) → m ≡ 0 → beyond room m u d ≡ false
zero_passes m u d room e = rw e refl

-- m times 10 to the power u - d

module _ (m u d : ℕ) (e : ℤ) (e_is : e ≡ pos u +ℤ neg_ℤ (pos d)) where
  low_in : d ≤ u + 38 → neg_ℤ (pos 38) ≤ℤ e
  low_in h = rw e_is (at_most (opp (nat 38)) (nat u ⊕ opp (nat d)) (omega arith))

  high_in : u ≤ d + 38 → e ≤ℤ pos 38
  high_in h = rw e_is (at_most (nat u ⊕ opp (nat d)) (nat 38) (omega arith))

  low_out : neg_ℤ (pos 38) ≤ℤ e → d ≤ u + 38
  low_out h = let t = from_at_most (opp (nat 38)) (nat u ⊕ opp (nat d)) (rw e_is at h) in omega (arith, t)

  high_out : e ≤ℤ pos 38 → u ≤ d + 38
  high_out h = let t = from_at_most (nat u ⊕ opp (nat d)) (nat 38) (rw e_is at h) in omega (arith, t)

  power_up : d ≤ u → e ≡ pos (u - d)
  power_up h = e_is ∙ difference_up u d h

  power_down : u < d → e ≡ negsuc (d - suc u)
  power_down h = e_is ∙ difference_down u d (d - suc u) (omega arith)

  room_in_range : HasRoom m u d (2 ^ 127) → IsInRange (whole (pos m) *ℚ ten_to e)
  room_in_range r = ⊎_elim below above (cases_lt u d)
    where
      above : d ≤ u → IsInRange (whole (pos m) *ℚ ten_to e)
      above h = rw (power_up h) (range_moved _ _ (≈ℚ_sym (scaled_whole m (u - d))) (whole_in_range (m * 10 ^ (u - d)) r.n_small))

      below : u < d → IsInRange (whole (pos m) *ℚ ten_to e)
      below h =
          let few : suc (d - suc u) ≤ 38 = omega (arith, r.d_small) in
          rw (power_down h) (over_in_range m (d - suc u) r.m_small (omega (arith, tens_rise (suc (d - suc u)) 38 few)))

  in_range_room : m < 2 ^ 127 → d ≤ u + 38 → u ≤ d + 38 → IsInRange (whole (pos m) *ℚ ten_to e) → HasRoom m u d (2 ^ 127)
  in_range_room small low high r = record { u_small = high; d_small = low; m_small = small; n_small = ⊎_elim below above (cases_lt u d) }
    where
      above : d ≤ u → m * 10 ^ (u - d) < 2 ^ 127
      above h = whole_small (m * 10 ^ (u - d)) (range_moved _ _ (scaled_whole m (u - d)) (rw (power_up h) at r))

      below : u < d → m * 10 ^ (u - d) < 2 ^ 127
      below h = let z : u - d ≡ 0 = omega arith in rw (z, pow-zero 10) (omega (arith, small))

-- a number with these parts

-- the power of 10 that goes with the digits without zeros
sides : (negative : Bool) (v places z : ℕ) → (signed_of negative v +ℤ neg_ℤ (pos places)) +ℤ pos z ≡ pos (z + (if negative then 0 else v)) +ℤ neg_ℤ (pos (places + (if negative then v else 0)))
sides false v places z = same (nat v ⊕ opp (nat places) ⊕ nat z) (nat (z + v) ⊕ opp (nat (places + 0))) (omega arith)
sides true v places z = same (opp (nat v) ⊕ opp (nat places) ⊕ nat z) (nat (z + 0) ⊕ opp (nat (places + v))) (omega arith)

module _ (parts : Parts) (digits : list_all is_ascii_digit (parts.whole ++ parts.fraction) ≡ true) where
  -- the power of 10 behind the digits without zeros
  power : ℤ
  power = power_of parts +ℤ pos (end_zeros (parts.whole ++ parts.fraction))

  value_is : number_value parts ≈ℚ whole (pos (significand (parts.whole ++ parts.fraction))) *ℚ ten_to power
  unfolding power
  value_is = times_zeros _ (significand (parts.whole ++ parts.fraction)) (end_zeros (parts.whole ++ parts.fraction)) (power_of parts) (significand_is (parts.whole ++ parts.fraction) digits).same

  power_is : power ≡ pos (up parts) +ℤ neg_ℤ (pos (down parts))
  unfolding power
  power_is = sides parts.negative (digits_value parts.exponent) (length parts.fraction) (end_zeros (parts.whole ++ parts.fraction))

  scaled_is : significand (parts.whole ++ parts.fraction) ≢ 0 → IsScaled (number_value parts) (significand (parts.whole ++ parts.fraction)) power
  scaled_is h = record { same = value_is; no_multiple = ⊎_elim inl (λ z. absurd (h z)) (significand_is (parts.whole ++ parts.fraction) digits).last }

  -- 0 has a fraction, whatever its exponent is
  zero_read : significand (parts.whole ++ parts.fraction) ≡ 0 → IsReadable (number_value parts)
  zero_read h =
      let value : number_value parts ≈ℚ whole (pos 0) *ℚ ten_to power = rw h at value_is in
      let none : whole (pos 0) *ℚ ten_to power ≈ℚ whole (pos 0) = Rational.same (rat (whole (pos 0)) ⊠ rat (ten_to power)) (rat (whole (pos 0))) (omega arith) in
      let plain : whole (pos 0) ≈ℚ whole (pos 0) *ℚ ten_to (pos 0) = Rational.same (rat (whole (pos 0))) (rat (whole (pos 0)) ⊠ rat (ten_to (pos 0))) (omega arith) in
      let zero_is = ≈ℚ_trans value none in
      record {
        m = 0;
        e = pos 0;
        scaled = record { same = ≈ℚ_trans zero_is plain; no_multiple = inr (refl, refl) };
        m_small = omega arith;
        e_low = omega arith;
        e_high = omega arith;
        in_range = range_moved _ _ (≈ℚ_sym zero_is) (whole_in_range 0 (omega arith));
      }

  room_read : significand (parts.whole ++ parts.fraction) ≢ 0 → HasRoom (significand (parts.whole ++ parts.fraction)) (up parts) (down parts) (2 ^ 127) → IsReadable (number_value parts)
  room_read h r =
      let m = significand (parts.whole ++ parts.fraction) in
      record {
        m = m;
        e = power;
        scaled = scaled_is h;
        m_small = r.m_small;
        e_low = low_in m (up parts) (down parts) power power_is r.d_small;
        e_high = high_in m (up parts) (down parts) power power_is r.u_small;
        in_range = range_moved _ _ (≈ℚ_sym value_is) (room_in_range m (up parts) (down parts) power power_is r);
      }

  read_room : significand (parts.whole ++ parts.fraction) ≢ 0 → IsReadable (number_value parts) → HasRoom (significand (parts.whole ++ parts.fraction)) (up parts) (down parts) (2 ^ 127)
  read_room h r =
      let m = significand (parts.whole ++ parts.fraction) in
      let s = scaled_unique _ m r.m power r.e (scaled_is h) r.scaled in
      let low : neg_ℤ (pos 38) ≤ℤ power = subst (λ (z : ℤ). neg_ℤ (pos 38) ≤ℤ z) (sym s.1) r.e_low in
      let high : power ≤ℤ pos 38 = subst (λ (z : ℤ). z ≤ℤ pos 38) (sym s.1) r.e_high in
      in_range_room m (up parts) (down parts) power power_is (subst (λ (n : ℕ). n < 2 ^ 127) (sym s.0) r.m_small)
      (low_out m (up parts) (down parts) power power_is low)
      (high_out m (up parts) (down parts) power power_is high)
      (range_moved _ _ value_is r.in_range)

  read_passes : IsReadable (number_value parts) → is_beyond (significand (parts.whole ++ parts.fraction)) (up parts) (down parts) ≡ false
  read_passes r =
      let m = significand (parts.whole ++ parts.fraction) in
      by (m == 0) refl
    where
      by : (b : Bool) → (significand (parts.whole ++ parts.fraction) == 0) ≡ b → is_beyond (significand (parts.whole ++ parts.fraction)) (up parts) (down parts) ≡ false
      by true e = zero_passes _ (up parts) (down parts) (2 ^ 127) (eqb-true _ 0 e)
      by false e = room_passes _ (up parts) (down parts) (2 ^ 127) (read_room (eqb-false _ 0 e) r)

  passing_read : is_beyond (significand (parts.whole ++ parts.fraction)) (up parts) (down parts) ≡ false → IsReadable (number_value parts)
  passing_read h = by (significand (parts.whole ++ parts.fraction) == 0) refl
    where
      by : (b : Bool) → (significand (parts.whole ++ parts.fraction) == 0) ≡ b → IsReadable (number_value parts)
      by true e = zero_read (eqb-true _ 0 e)
      by false e = room_read (eqb-false _ 0 e) (room_tested _ (up parts) (down parts) (2 ^ 127) (eqb-false _ 0 e) h)

number_digits : (text : List ℕ) (parts : Parts) → IsNumber text parts → list_all is_ascii_digit (parts.whole ++ parts.fraction) ≡ true
number_digits text parts n = rw (list_all-append, n.whole.all, fraction_digits n.fraction_text parts.fraction n.fraction) refl

pub wide_refused : (text : List ℕ) → is_wide text ≡ true → RefusesText text Wide
unfolding is_wide
wide_refused text h = by (read_number text) refl h
  where
    by : (o : Option Parts) → read_number text ≡ o → parts_wide o ≡ true → RefusesText text Wide
    by None e k = absurd (cc)
    by (Some parts) e k =
        let n = read_sound text parts e in
        (parts, n, λ r. let passes = read_passes parts (number_digits text parts n) r in let no : true ≡ false = sym k ∙ passes in absurd (cc))

pub refused_wide : (text : List ℕ) → RefusesText text Wide → is_wide text ≡ true
unfolding is_wide
refused_wide text (parts, n, h) = rw (read_complete text parts n) (by (is_beyond (significand (parts.whole ++ parts.fraction)) (up parts) (down parts)) refl)
  where
    by : (b : Bool) → is_beyond (significand (parts.whole ++ parts.fraction)) (up parts) (down parts) ≡ b → b ≡ true
    by true e = refl
    by false e = absurd (h (passing_read parts (number_digits text parts n) e))
