-- The classes of a list of points by a relation, such as that of joined points.
use Rattle.std.specs.Prelude.{◌≡◌, ℕ, ◌<◌, ◌≤◌, List, [], ◌∷◌, ◌++◌, All, Option, Some, None}

module _ {P : Type 0} (R : P → P → Type 0) where
  -- The points are told apart, each list in their order: those that are related to p, and the others.
  pub data Parts (p : P) : List P → List P → List P → Type 0 where
    no_point : Parts p [] [] []
    related : {x : P} {xs ins outs : List P} → R p x → Parts p xs ins outs → Parts p (x ∷ xs) (x ∷ ins) outs
    other : {x : P} {xs ins outs : List P} → (R p x → ⊥) → Parts p xs ins outs → Parts p (x ∷ xs) ins (x ∷ outs)

  -- The classes of points: the first is that of the first point, with all that are related to it, and then come the
  -- classes of the points that are left. So classes stand in the order of their first points.
  pub data Classes : List P → List (List P) → Type 0 where
    no_class : Classes [] []
    a_class : {p : P} {xs ins outs : List P} {classes : List (List P)} → Parts p xs ins outs → Classes outs classes → Classes (p ∷ xs) ((p ∷ ins) ∷ classes)
