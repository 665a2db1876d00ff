-- The first fault of paths and links is the earlier of the first ones of both.
use Rattle.std.proofs.Common.{◌≡◌, ℕ, suc, ◌≤◌, List, [], ◌∷◌, ◌++◌, map, Option, Some, None, refl, ap, sym, arith}
use Rattle.std.specs.Prelude.{if◌then◌else◌}
use Rattle.std.proofs.lemmas.Bool.{lt-ltb, le-ltb}
use Rattle.ato_base.specs.declared.faults.Fault.{Fault}
use Rattle.ato_files.specs.Lists.{numbered, first_of_all}
use Rattle.ato_instance_tree.specs.Walk.{Occ}
use Rattle.ato_instance_tree.specs.Order.{occurrences}
use Rattle.ato_instance_tree.specs.PathFaults.{occ_faults}
use Rattle.ato_links.specs.LinkFaults.{faults_by, link_faults, earlier, FirstOfBoth}

-- The number of a first fault is none before the first occurrence's.
abbrev FromOn : ℕ → Option (ℕ × Fault) → Type 0
FromOn n None = Unit {0}
FromOn n (Some f) = n ≤ f.0

more_on : (n : ℕ) (o : Option (ℕ × Fault)) → FromOn (suc n) o → FromOn n o
more_on n None h = tt
more_on n (Some f) h = omega (arith, h)

first_from : (found : Occ → List Fault) (n : ℕ) (os : List Occ) → FromOn n (first_of_all (faults_by found (numbered n os)))
first_from found n [] = tt
first_from found n (o ∷ os) = here (found o) (faults_by found (numbered (suc n) os)) (first_from found (suc n) os)
  where
    here : (fs : List Fault) (rest : List (ℕ × Fault)) → FromOn (suc n) (first_of_all rest) → FromOn n (first_of_all (map (λ f. (n, f)) fs ++ rest))
    here [] rest h = more_on n (first_of_all rest) h
    here (f ∷ fs) rest h = omega arith

-- a number that is below another
below : (n : ℕ) (f : Fault) (o : Option (ℕ × Fault)) → FromOn (suc n) o → earlier (Some (n, f)) o ≡ Some (n, f)
below n f None h = refl
below n f (Some g) h = ap (λ b. if b then Some (n, f) else Some g) (lt-ltb n g.0 (omega (arith, h)))

-- a number that is not below itself
at_most : (n : ℕ) (f : Fault) (o : Option (ℕ × Fault)) → FromOn n o → earlier o (Some (n, f)) ≡ Some (n, f)
at_most n f None h = refl
at_most n f (Some g) h = ap (λ b. if b then Some g else Some (n, f)) (le-ltb g.0 n h)

both_of : (paths links : Occ → List Fault) (n : ℕ) (os : List Occ)
    → first_of_all (faults_by (λ o. paths o ++ links o) (numbered n os)) ≡ earlier (first_of_all (faults_by links (numbered n os))) (first_of_all (faults_by paths (numbered n os)))
both_of paths links n [] = refl
both_of paths links n (o ∷ os) = here (paths o) (links o) (faults_by (λ o. paths o ++ links o) (numbered (suc n) os)) (faults_by links (numbered (suc n) os))
    (faults_by paths (numbered (suc n) os)) (both_of paths links (suc n) os) (first_from links (suc n) os) (first_from paths (suc n) os)
  where
    here : (ps ls : List Fault) (all ups downs : List (ℕ × Fault)) → first_of_all all ≡ earlier (first_of_all ups) (first_of_all downs)
        → FromOn (suc n) (first_of_all ups) → FromOn (suc n) (first_of_all downs)
        → first_of_all (map (λ f. (n, f)) (ps ++ ls) ++ all) ≡ earlier (first_of_all (map (λ f. (n, f)) ls ++ ups)) (first_of_all (map (λ f. (n, f)) ps ++ downs))
    here [] [] all ups downs e h k = e
    here [] (l ∷ ls) all ups downs e h k = sym (below n l (first_of_all downs) k)
    here (p ∷ ps) [] all ups downs e h k = sym (at_most n p (first_of_all ups) (more_on n (first_of_all ups) h))
    here (p ∷ ps) (l ∷ ls) all ups downs e h k = sym (at_most n p (Some (n, l)) (omega arith))

pub first_of_both : FirstOfBoth
first_of_both files entry keys library = both_of (occ_faults files entry keys) (link_faults files entry library) 0 (occurrences files entry)
