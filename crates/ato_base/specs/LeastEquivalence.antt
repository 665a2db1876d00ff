-- When a relation is the least equivalence that holds another.
use Rattle.std.specs.Prelude.{◌≡◌, Bool, true}

-- The relation E is an equivalence that holds D, and every equivalence that holds D holds E. A contract speaks of the
-- equivalences that are decided; proofs/JoinedLaws.antt has the law for all of them.
pub record IsLeastEquivalence {P : Type 0} (D E : P → P → Type 0) : Type 0 where
  pub self : (p : P) → E p p
  pub flip : (p q : P) → E p q → E q p
  pub chain : (p q r : P) → E p q → E q r → E p r
  pub holds : (p q : P) → D p q → E p q
  pub least : (other : P → P → Bool) → ((p : P) → other p p ≡ true) → ((p q : P) → other p q ≡ true → other q p ≡ true)
      → ((p q r : P) → other p q ≡ true → other q r ≡ true → other p r ≡ true) → ((p q : P) → D p q → other p q ≡ true)
      → (p q : P) → E p q → other p q ≡ true
