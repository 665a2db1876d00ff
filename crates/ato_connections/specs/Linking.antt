-- What is joined so far. Only private functions have clauses in these words.
use Rattle.std.specs.Prelude.{◌≡◌, ◌⊎◌, ℕ, true, List, Contains}
use Rattle.ato_files.specs.Lists.{Among}
use Rattle.ato_connections.specs.declared.links.Links.{Links}
use Rattle.ato_connections.specs.NodeLinks.{NodeLink, join, clash}

-- The link is among what is joined.
abbrev pub Has : Links → NodeLink → Type 0
Has l (join p q) = Contains l.joins (p, q)
Has l clash = l.clash ≡ true

-- The link is among those of a pair of instances that was put off.
pub record IsBelow (deeper : ℕ → ℕ → List NodeLink) (below : List (ℕ × ℕ)) (link : NodeLink) : Type 0 where
  pub pair : ℕ × ℕ
  pub is : Contains below pair
  pub has : Among link (deeper pair.0 pair.1)

-- The link is among what is joined, or what is still to be.
abbrev pub Holds : (ℕ → ℕ → List NodeLink) → Links → List (ℕ × ℕ) → NodeLink → Type 0
Holds deeper l below link = Has l link ⊎ IsBelow deeper below link
