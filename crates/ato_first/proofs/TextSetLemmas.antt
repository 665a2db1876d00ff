use Rattle.std.proofs.Common.{◌≡◌, ℕ, ◌≤◌, Bool, true, false, cond, not, List, length, refl, nat_lt, Some, None, position, arith}
use Rattle.std.specs.List.{position_or_len}
use Rattle.std.proofs.lemmas.List.Sums.{prefix_len-le-length}

-- a found place is the first one
pub found_place : {A : Type 0} (p : A → Bool) (xs : List A) (n : ℕ) → Some n ≡ position p xs → n ≡ position_or_len p xs
found_place p xs n e = by (nat_lt (position_or_len p xs) (length xs)) e
  where
    by : (b : Bool) → Some n ≡ cond b (Some (position_or_len p xs)) None → n ≡ position_or_len p xs
    by true e = cc
    by false e = let bad : ⊥ = cc in absurd bad

-- where there is no place, no element passes before the end
pub no_place : {A : Type 0} (p : A → Bool) (xs : List A) → None ≡ position p xs → length xs ≡ position_or_len p xs
no_place p xs e = by (nat_lt (position_or_len p xs) (length xs)) refl e
  where
    by : (b : Bool) → nat_lt (position_or_len p xs) (length xs) ≡ b → None ≡ cond b (Some (position_or_len p xs)) None → length xs ≡ position_or_len p xs
    by true t e = let bad : ⊥ = cc in absurd bad
    by false t e = let h = prefix_len-le-length (λ x. not (p x)) xs in let past : length xs ≤ position_or_len p xs = grind arith in omega arith
