-- One part more is counted.
use Rattle.std.proofs.Common.{◌≡◌, ℕ, ◌+◌, Bool, true, false, cond, nat_eq, List, Option, Some, refl, sym, ap, ◌∙◌}
use Rattle.std.specs.Prelude.{unwrap_or}
use Rattle.std.specs.Str.{bytes_eq}
use Rattle.std.proofs.lemmas.Bool.{eqb-true, eq-eqb}
use Rattle.std.proofs.lemmas.Slice.Eq.{bytes_eq-Decides}
use Rattle.ato_elab.proofs.AimLaws.{same_truth}

pub bytes_turned : (a b : List ℕ) → bytes_eq a b ≡ bytes_eq b a
bytes_turned a b = same_truth (bytes_eq a b) (bytes_eq b a)
    (λ e. (bytes_eq-Decides b a).1 (sym ((bytes_eq-Decides a b).0 e))) (λ e. (bytes_eq-Decides a b).1 (sym ((bytes_eq-Decides b a).0 e)))

pub number_turned : (a b : ℕ) → nat_eq a b ≡ nat_eq b a
number_turned a b = same_truth (nat_eq a b) (nat_eq b a) (λ e. eq-eqb b a (sym (eqb-true a b e))) (λ e. eq-eqb a b (sym (eqb-true b a e)))

pub counted_more : (f g : List ℕ → Option ℕ) (prefix : List ℕ) (number : ℕ) → ((q : List ℕ) → g q ≡ cond (bytes_eq prefix q) (Some number) (f q)) → number ≡ unwrap_or (f prefix) 0 + 1
    → (other : List ℕ) → unwrap_or (g other) 0 ≡ cond (bytes_eq other prefix) (unwrap_or (f other) 0 + 1) (unwrap_or (f other) 0)
counted_more f g prefix number updates is other =
    ap (λ (o : Option ℕ). unwrap_or o 0) (updates other) ∙ ap (λ (b : Bool). unwrap_or (cond b (Some number) (f other)) 0) (bytes_turned prefix other)
    ∙ by (bytes_eq other prefix) (λ e. (bytes_eq-Decides other prefix).0 e)
  where
    by : (b : Bool) → (b ≡ true → other ≡ prefix) → unwrap_or (cond b (Some number) (f other)) 0 ≡ cond b (unwrap_or (f other) 0 + 1) (unwrap_or (f other) 0)
    by true same = is ∙ ap (λ (p : List ℕ). unwrap_or (f p) 0 + 1) (sym (same refl))
    by false same = refl
