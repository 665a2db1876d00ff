-- The pins of a tree by the numbers of their nodes. Only private functions have clauses in these words.
use Rattle.std.specs.Prelude.{◌≡◌, ◌↔◌, ℕ, suc, ◌<◌, All, List, [], ◌∷◌, length, if◌then◌else◌}
use Rattle.std.specs.List.{slice_index}
use Rattle.ato_instance_tree.specs.declared.tree.Node.{Node}
use Rattle.ato_instance_tree.specs.Trees.{is_pin}

-- the numbers of those nodes that are pins, counted from this number on
abbrev pub pin_numbers : ℕ → List Node → List ℕ
pin_numbers n [] = []
pin_numbers n (x ∷ more) = if is_pin x.kind then n ∷ pin_numbers (suc n) more else pin_numbers (suc n) more

-- The pins at two places have one class.
abbrev pub AreOneClass : List ℕ → List ℕ → ℕ → ℕ → Type 0
AreOneClass of pins i j = slice_index of (slice_index pins i) ≡ slice_index of (slice_index pins j)

-- Each pin has the place of a pin, and two have one place exactly where they have one class.
pub record AreFirsts (of pins firsts : List ℕ) : Type 0 where
  pub size : length firsts ≡ length pins
  pub within : All (λ place. place < length firsts) firsts
  pub each : (i j : ℕ) → i < length pins → j < length pins → (slice_index firsts i ≡ slice_index firsts j) ↔ AreOneClass of pins i j
