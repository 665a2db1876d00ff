-- When points are joined, whatever the points are.

module _ {P : Type 0} (D : P → P → Type 0) where
  -- The points are the same, or a chain of direct joins leads from the first to the second. A direct join may be
  -- walked in both directions.
  pub data Joined : P → P → Type 0 where
    same : {p : P} → Joined p p
    along : {p q r : P} → D p q → Joined q r → Joined p r
    against : {p q r : P} → D q p → Joined q r → Joined p r
