-- What class numbers tell: they are points, the number of a class is its own, and two points have the same one
-- exactly where they are joined.
use Rattle.std.proofs.Common.{◌≡◌, ℕ, ◌<◌, ◌≤◌, ◌↔◌, List, All, get_or, subst, sym, arith}
use Rattle.std.proofs.lemmas.List.Elements.{All-from_get_or}
use Rattle.ato_base.specs.Joined.{Joined, same}
use Rattle.ato_base.proofs.JoinedLaws.{joined_sym, joined_trans}
use Rattle.ato_nets.specs.ClassNumbers.{IsJoin, AreClassNumbers}

module _ {count : ℕ} {joins : List (ℕ × ℕ)} {of : List ℕ} (are : AreClassNumbers count joins of) where
  pub class_within : (p : ℕ) → p < count → get_or of p 0 < count
  class_within p hp = let low : get_or of p 0 ≤ p = are.least p p hp hp same in omega arith

  pub classes_within : All (λ n. n < count) of
  classes_within = All-from_get_or (λ n. n < count) of 0 (λ p h. class_within p (subst (λ n. p < n) are.size h))

  pub joined_same_class : (p q : ℕ) → p < count → q < count → Joined (IsJoin joins) p q → get_or of p 0 ≡ get_or of q 0
  joined_same_class p q hp hq h =
      let one : get_or of p 0 ≤ get_or of q 0 = are.least p (get_or of q 0) hp (class_within q hq) (joined_trans (IsJoin joins) h (are.joined q hq)) in
      let two : get_or of q 0 ≤ get_or of p 0 = are.least q (get_or of p 0) hq (class_within p hp) (joined_trans (IsJoin joins) (joined_sym (IsJoin joins) h) (are.joined p hp)) in
      omega arith

  pub same_class_joined : (p q : ℕ) → p < count → q < count → get_or of p 0 ≡ get_or of q 0 → Joined (IsJoin joins) p q
  same_class_joined p q hp hq e =
      joined_trans (IsJoin joins) (subst (λ v. Joined (IsJoin joins) p v) e (are.joined p hp)) (joined_sym (IsJoin joins) (are.joined q hq))

  pub same_class : (p q : ℕ) → p < count → q < count → (get_or of p 0 ≡ get_or of q 0) ↔ Joined (IsJoin joins) p q
  same_class p q hp hq = (same_class_joined p q hp hq, joined_same_class p q hp hq)

  pub class_of_class : (p : ℕ) → p < count → get_or of (get_or of p 0) 0 ≡ get_or of p 0
  class_of_class p hp = sym (joined_same_class p (get_or of p 0) hp (class_within p hp) (are.joined p hp))
