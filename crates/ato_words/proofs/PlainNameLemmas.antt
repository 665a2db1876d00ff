use Rattle.std.proofs.Common.{◌≡◌, ◌≢◌, ℕ, true, false, List, [], ◌∷◌, ◌++◌, refl, ◌==◌, arith}
use Rattle.std.specs.Str.{bytes_eq}
use Rattle.std.proofs.lemmas.Slice.Eq.{bytes_eq-Decides}

eq_self : (c : ℕ) → (c == c) ≡ true
eq_self c = grind arith

-- a common front does not matter
pub bytes_eq-front : (front a b : List ℕ) → bytes_eq (front ++ a) (front ++ b) ≡ bytes_eq a b
bytes_eq-front [] a b = refl
bytes_eq-front (x ∷ front) a b = rw (eq_self x) (bytes_eq-front front a b)

-- a text that does not begin so
pub no_front : (text front ending : List ℕ) → ((rest : List ℕ) → text ≢ front ++ rest) → bytes_eq text (front ++ ending) ≡ false
no_front text front ending none =
    elim (bytes_eq text (front ++ ending)) as (λ b. bytes_eq text (front ++ ending) ≡ b → b ≡ false)
    [ true ↦ (λ h. absurd (none ending ((bytes_eq-Decides text (front ++ ending)).0 h))) | false ↦ (λ h. refl) ] refl
