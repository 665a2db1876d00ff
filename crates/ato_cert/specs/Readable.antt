-- Which certificates have the form of a text over a problem.
use Rattle.std.specs.Prelude.{◌≡◌, ℕ, suc, ◌<◌, ◌≤◌, ◌^◌, List, length, Option, Some, None}
use Rattle.std.specs.List.{All}
use Rattle.ato_frac.specs.declared.fraction.Frac.{Frac}
use Rattle.ato_cert.specs.declared.problem.Problem.{Problem}
use Rattle.ato_cert.specs.declared.cert.PickTree.{PickTree}
use Rattle.ato_cert.specs.declared.cert.PickTree.TheVariants as tree
use Rattle.ato_cert.specs.declared.cert.Verdict.TheVariants.{Refuted}
use Rattle.ato_cert.specs.declared.cert.Proof.{Proof}
use Rattle.ato_cert.specs.declared.cert.Proof.TheVariants.{Built, Tree}
use Rattle.ato_cert.specs.declared.cert.Cert.{Cert}

-- one where there is something, and else none
abbrev pub count_of : {A : Type 0} → Option A → ℕ
count_of None = 0
count_of (Some x) = 1

-- the slots of a problem; each has one check
abbrev pub slot_count : Problem → ℕ
slot_count problem = count_of problem.slot

-- a number from 1 on
pub record IsNumberUpTo (most n : ℕ) : Type 0 where
  pub some : 1 ≤ n
  pub within : n ≤ most

-- a tree whose slots and checks are there, with at most so many nodes above each line, and numbers below 2^32
pub data IsTreeOver (count : ℕ) : ℕ → PickTree → Type 0 where
  empty : {above : ℕ} (slot : ℕ) → IsNumberUpTo count slot → IsTreeOver count above (tree.Empty slot)
  by_row : {above : ℕ} {low high : PickTree} (slot row : ℕ) → IsNumberUpTo count slot → row < 2 ^ 32
      → IsTreeOver count above low → IsTreeOver count above high → IsTreeOver count (suc above) (tree.ByRow slot row low high)
  fails : {above : ℕ} (check : ℕ) (point : List Frac) → IsNumberUpTo count check → IsTreeOver count above (tree.Fails check point)

-- a proof of that form: one number below 2^32 for each slot and no more checks than there are, or a tree
abbrev pub IsReadableProof : ℕ → Proof → Type 0
IsReadableProof count (Built pick boxes) = (length pick ≡ count) × All (λ n. n < 2 ^ 32) pick × (length boxes ≤ count)
IsReadableProof count (Tree Refuted tree) = IsTreeOver count 10000 tree

-- a number of steps
pub record IsStepCount (steps : ℕ) : Type 0 where
  pub some : 1 ≤ steps
  pub most : steps ≤ 200000

-- a certificate of that form over so many slots and checks
pub record IsReadableOver (count : ℕ) (cert : Cert) : Type 0 where
  pub steps : IsStepCount cert.steps
  pub proof : IsReadableProof count cert.proof

-- a certificate of that form over a problem
abbrev pub IsReadable : Problem → Cert → Type 0
IsReadable problem cert = IsReadableOver (slot_count problem) cert
