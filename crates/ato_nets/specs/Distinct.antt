-- Texts without those that stand before.
use Rattle.std.specs.Prelude.{ℕ, not, List, [], ◌∷◌, filter}
use Rattle.std.specs.Str.{bytes_eq}

-- each text once, in the order of the first mentions
abbrev pub distinct : List (List ℕ) → List (List ℕ)
distinct [] = []
distinct (text ∷ texts) = text ∷ filter (λ other. not (bytes_eq text other)) (distinct texts)
