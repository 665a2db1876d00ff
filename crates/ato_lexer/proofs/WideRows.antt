-- Worked numbers: which of them are wide.
use Rattle.std.proofs.Common.{◌≡◌, codes, refl, true, false}
use Rattle.ato_lexer.specs.WideNumbers.{is_wide}

pub wide_past_range : is_wide (codes "170141183460469231731687303715884105728") ≡ true
unfolding is_wide
wide_past_range = refl

pub greatest : is_wide (codes "170141183460469231731687303715884105727") ≡ false
unfolding is_wide
greatest = refl

pub zero_far : is_wide (codes "0.0e999999999999999999") ≡ false
unfolding is_wide
zero_far = refl

pub least_tens : is_wide (codes "1e-38") ≡ false
unfolding is_wide
least_tens = refl

pub below_tens : is_wide (codes "1e-39") ≡ true
unfolding is_wide
below_tens = refl

pub zeros_count : is_wide (codes "10E-39") ≡ false
unfolding is_wide
zeros_count = refl

pub high : is_wide (codes "17e+37") ≡ false
unfolding is_wide
high = refl

pub higher : is_wide (codes "18e37") ≡ true
unfolding is_wide
higher = refl

pub fraction_high : is_wide (codes "1.5e39") ≡ true
unfolding is_wide
fraction_high = refl

pub fraction_low : is_wide (codes "1.5e38") ≡ false
unfolding is_wide
fraction_low = refl

pub no_number : is_wide (codes "1e") ≡ false
unfolding is_wide
no_number = refl
