use Rattle.std.specs.Prelude.{◌≡◌, ℕ, Bool, true, false, List, ◌++◌, take, Option, Some, None}

-- The text was appended, where the bytes are told. They stay told or untold.
abbrev pub Appends : Option (List ℕ) → Option (List ℕ) → List ℕ → Type 0
Appends None None text = Unit {0}
Appends (Some before) (Some now) text = now ≡ before ++ text
Appends None (Some now) text = ⊥
Appends (Some before) None text = ⊥

-- A prefix of the text was appended, which may be all of it.
abbrev pub AppendsPrefix : Option (List ℕ) → Option (List ℕ) → List ℕ → Type 0
AppendsPrefix before now text = (n : ℕ) × Appends before now (take n text)

-- The whole text was appended where the print went through, and else a prefix.
abbrev pub Prints : Option (List ℕ) → Option (List ℕ) → List ℕ → Bool → Type 0
Prints before now text true = Appends before now text
Prints before now text false = AppendsPrefix before now text
