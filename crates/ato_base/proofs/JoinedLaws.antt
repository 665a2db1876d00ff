-- Being joined is an equivalence, and the least one that holds the direct joins.
use Rattle.std.proofs.Common.{◌≡◌, true}
use Rattle.ato_base.specs.Joined.{Joined, same, along, against}
use Rattle.ato_base.specs.LeastEquivalence.{IsLeastEquivalence}

module _ {P : Type 0} (D : P → P → Type 0) where
  pub joined_direct : {p q : P} → D p q → Joined D p q
  joined_direct d = along d same

  pub joined_trans : {p q r : P} → Joined D p q → Joined D q r → Joined D p r
  joined_trans same k = k
  joined_trans (along d h) k = along d (joined_trans h k)
  joined_trans (against d h) k = against d (joined_trans h k)

  pub joined_sym : {p q : P} → Joined D p q → Joined D q p
  joined_sym same = same
  joined_sym (along d h) = joined_trans (joined_sym h) (against d same)
  joined_sym (against d h) = joined_trans (joined_sym h) (along d same)

  -- an equivalence that holds the direct joins holds all joined points
  pub joined_least : (E : P → P → Type 0) → ((p : P) → E p p) → ((p q : P) → E p q → E q p) → ((p q r : P) → E p q → E q r → E p r) → ((p q : P) → D p q → E p q)
      → {p q : P} → Joined D p q → E p q
  joined_least E self flip chain holds same = self _
  joined_least E self flip chain holds (along d h) = chain _ _ _ (holds _ _ d) (joined_least E self flip chain holds h)
  joined_least E self flip chain holds (against d h) = chain _ _ _ (flip _ _ (holds _ _ d)) (joined_least E self flip chain holds h)

  -- the same, for the equivalences that are decided
  pub joined_is_least : IsLeastEquivalence D (Joined D)
  joined_is_least = record {
    self = λ p. same;
    flip = λ p q. joined_sym;
    chain = λ p q r. joined_trans;
    holds = λ p q. joined_direct;
    least = λ other self flip chain holds p q. joined_least (λ a b. other a b ≡ true) self flip chain holds;
  }

-- What joined points stand for is joined, where what directly joined points stand for is.
pub joined_map : {P Q : Type 0} (D : P → P → Type 0) (E : Q → Q → Type 0) (f : P → Q) → ((p q : P) → D p q → E (f p) (f q)) → {p q : P} → Joined D p q → Joined E (f p) (f q)
joined_map D E f holds same = same
joined_map D E f holds (along d h) = along (holds _ _ d) (joined_map D E f holds h)
joined_map D E f holds (against d h) = against (holds _ _ d) (joined_map D E f holds h)
