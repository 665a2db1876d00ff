-- Which certificates are valid.
use Rattle.std.specs.Prelude.{◌≡◌, ℕ, ◌≤◌, List, [], ◌∷◌, Option, Some, None}
use Rattle.std.specs.List.{Contains}
use Rattle.ato_cert.specs.declared.problem.Row.{Row}
use Rattle.ato_cert.specs.declared.problem.Slot.{Slot}
use Rattle.ato_cert.specs.declared.problem.Problem.{Problem}
use Rattle.ato_cert.specs.declared.cert.BoxTree.{BoxTree}
use Rattle.ato_cert.specs.declared.cert.BoxTree.TheVariants.{Holds}
use Rattle.ato_cert.specs.declared.cert.Verdict.TheVariants.{Refuted}
use Rattle.ato_cert.specs.declared.cert.Proof.{Proof}
use Rattle.ato_cert.specs.declared.cert.Proof.TheVariants.{Built, Tree}
use Rattle.ato_cert.specs.declared.cert.Cert.{Cert}
use Rattle.ato_cert.specs.Justified.{LiesInTarget, Refutes}
use Rattle.ato_cert.specs.Nodes.{nodes}

-- the pick is a candidate's number, and its one check is listed with a justified `holds`
pub record ShowsPick (slot : Slot) (pick : List ℕ) (boxes : List BoxTree) : Type 0 where
  pub row : Row
  pub candidate : Contains slot.rows row
  pub pick_is : pick ≡ row.number ∷ []
  pub all_checks : boxes ≡ Holds ∷ []
  pub holds : LiesInTarget slot row

-- a proof that is right: without a slot, only the empty pick with no check is
abbrev pub IsProofOf : Option Slot → Proof → Type 0
IsProofOf None (Built pick boxes) = (pick ≡ []) × (boxes ≡ [])
IsProofOf None (Tree Refuted tree) = ⊥
IsProofOf (Some slot) (Built pick boxes) = ShowsPick slot pick boxes
IsProofOf (Some slot) (Tree Refuted tree) = Refutes slot slot.rows tree

-- every line is justified, and there are at most as many nodes as the steps say, which are 1 to 200,000
pub record IsValid (problem : Problem) (cert : Cert) : Type 0 where
  pub steps_some : 1 ≤ cert.steps
  pub steps_most : cert.steps ≤ 200000
  pub within_steps : nodes cert.proof ≤ cert.steps
  pub proof : IsProofOf problem.slot cert.proof
