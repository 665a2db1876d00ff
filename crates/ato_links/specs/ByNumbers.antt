-- The nets of a project made from the numbers of its classes.
use Rattle.std.specs.Prelude.{ℕ, zero, suc, Bool, not, ◌==◌, nat_lt, List, [], ◌∷◌, ◌++◌, length, map, filter, fold, Option, Some, None, if◌then◌else◌}
use Rattle.std.specs.List.{slice_index}
use Rattle.ato_base.specs.declared.nets.Net.{Net}
use Rattle.ato_files.specs.declared.program.SourceFile.{SourceFile}
use Rattle.ato_instance_tree.specs.Order.{Spot, nodes}
use Rattle.ato_links.specs.Links.{Electrical}
use Rattle.ato_links.specs.Joins.{AreClasses}
use Rattle.ato_links.specs.Parts.{path_text}
use Rattle.ato_links.specs.Nets.{Pin, pins_of, signals_of, pin_text, net_pin, AreNets}

-- what each node has of something, with the numbers of the nodes, from this one on
abbrev pub numbered_by : {X : Type 0} → (Spot → List X) → ℕ → List Spot → List (ℕ × X)
numbered_by of n [] = []
numbered_by of n (s ∷ more) = map (λ x. (n, x)) (of s) ++ numbered_by of (suc n) more

-- items in groups, at most so many: each is the first item that is left and those that are the same
abbrev pub groups : {X : Type 0} → (X → X → Bool) → ℕ → List X → List (List X)
groups same zero xs = []
groups same (suc most) [] = []
groups same (suc most) (x ∷ xs) = (x ∷ filter (same x) xs) ∷ groups same most (filter (λ y. not (same x y)) xs)

-- the path with fewer names, the first where they have as many
abbrev pub shallower : Option (List ℕ) → List ℕ → Option (List ℕ)
shallower None other = Some other
shallower (Some path) other = if nat_lt (length other) (length path) then Some other else Some path

-- the path of the signal that names a net, or the first pin's own name
abbrev pub name_by : List (List ℕ) → Pin → Option (List ℕ) → List ℕ
name_by names p None = pin_text names p
name_by names p (Some path) = path_text names path

abbrev pub have_one_number : {X Y : Type 0} → List ℕ → ℕ × X → ℕ × Y → Bool
have_one_number of a b = slice_index of a.0 == slice_index of b.0

abbrev pub group_name : List SourceFile → ℕ → List (List ℕ) → List ℕ → List (ℕ × Pin) → List ℕ
group_name files entry names of [] = []
group_name files entry names of (p ∷ more) = name_by names p.1 (fold shallower None (map (λ s. s.1) (filter (have_one_number of p) (numbered_by signals_of 0 (nodes files entry)))))

abbrev pub group_net : List SourceFile → ℕ → List (List ℕ) → List ℕ → List (ℕ × Pin) → Net
group_net files entry names of group = record { name = group_name files entry names of group; pins = map (λ p. net_pin files entry names p.1) group }

-- the nets by these numbers
abbrev pub nets_by : List SourceFile → ℕ → List (List ℕ) → List ℕ → List Net
nets_by files entry names of = map (group_net files entry names of)
    (groups (have_one_number of) (length (numbered_by pins_of 0 (nodes files entry))) (numbered_by pins_of 0 (nodes files entry)))

-- The nets that the numbers of the classes make are those of the project.
abbrev pub NetsByNumbers : Type 0
NetsByNumbers = (files : List SourceFile) (entry : ℕ) (names : List (List ℕ)) (library : Electrical) (of : List ℕ) → AreClasses files entry library of
    → AreNets files entry names library (nets_by files entry names of)
