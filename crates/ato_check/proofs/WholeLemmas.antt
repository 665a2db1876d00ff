-- The first bad line of a whole certificate.
use Rattle.std.proofs.Math.Nat.{min-le_left}
use Rattle.std.proofs.Common.{◌≡◌, ℕ, ◌+◌, ◌<◌, ◌≤◌, ◌^◌, List, length, Option, Some, None, subst, length-append, min, arith}
use Rattle.ato_cert.specs.declared.problem.Slot.{Slot}
use Rattle.ato_cert.specs.declared.problem.Problem.{Problem}
use Rattle.ato_cert.specs.declared.cert.PickTree.{PickTree}
use Rattle.ato_cert.specs.declared.cert.Verdict.{Verdict}
use Rattle.ato_cert.specs.declared.cert.Verdict.TheVariants.{Refuted}
use Rattle.ato_cert.specs.declared.cert.Proof.{Proof}
use Rattle.ato_cert.specs.declared.cert.Proof.TheVariants.{Built, Tree}
use Rattle.ato_cert.specs.declared.cert.Cert.{Cert}
use Rattle.ato_cert.specs.Nodes.{nodes, tree_nodes}
use Rattle.ato_cert.specs.Problems.{IsWellMadeOf, IsWellMade}
use Rattle.ato_cert.specs.Readable.{slot_count, IsReadableProof, IsReadable}
use Rattle.ato_cert.specs.Texts.{heading_text, tree_text, cert_text, proof_text, proof_word}
use Rattle.ato_cert.specs.Valid.{IsProofOf, IsValid}
use Rattle.ato_check.specs.FirstBad.{IsPicked, IsBadPick, IsBadTree, IsBadProof, IsFirstBad}
use Rattle.ato_check.specs.FirstBad as first
use Rattle.ato_check.proofs.PickLemmas.{bad_pick}
use Rattle.ato_check.proofs.TreeLines.{none_bad, nodes_have_lines}

-- a certificate with a bad line is not valid

pub bad_proof : (slot : Option Slot) (proof : Proof) (line : ℕ) → IsWellMadeOf slot → IsBadProof slot proof line → ¬ IsProofOf slot proof
bad_proof None proof line made b p = b
bad_proof (Some slot) (Built pick boxes) line made b p = bad_pick slot pick boxes made b p
bad_proof (Some slot) (Tree Refuted tree) line made b p = none_bad slot b.bad p

pub not_valid : (problem : Problem) (cert : Cert) (line : ℕ) → IsWellMade problem → IsFirstBad problem cert line → ¬ IsValid problem cert
not_valid problem cert line made (first.in_proof b) v = bad_proof problem.slot cert.proof line made b v.proof
not_valid problem cert line made (first.steps p lt) v = omega (arith, lt, v.within_steps)

-- more nodes than steps, where they are counted up to a number that the steps do not reach
pub too_many : (nodes most steps count : ℕ) → count ≡ min nodes most → steps < count → steps < nodes
too_many nodes most steps count e lt = omega (arith, e, lt, min-le_left nodes most)

-- the lines of a tree fit where the text of its certificate does

heading_long : (word : List ℕ) (steps : ℕ) → 4 ≤ length (heading_text word steps)
unfolding heading_text
heading_long word steps = omega arith

proof_long : (count : ℕ) (proof : Proof) (verdict : Verdict) (tree : PickTree) → IsReadableProof count proof → proof ≡ Tree verdict tree → tree_nodes tree ≤ length (proof_text proof)
proof_long count (Built pick boxes) verdict tree r e = absurd cc
proof_long count (Tree Refuted other) verdict tree r e =
    let same : other ≡ tree = cc in
    subst (λ (x : PickTree). tree_nodes x ≤ length (tree_text other)) same (nodes_have_lines r)

pub few_nodes : (problem : Problem) (cert : Cert) (verdict : Verdict) (tree : PickTree) → IsReadable problem cert → length (cert_text cert) < 2 ^ 32 → cert.proof ≡ Tree verdict tree
    → 4 + tree_nodes tree < 2 ^ 32
few_nodes problem cert verdict tree r few e =
    let heading = heading_text (proof_word cert.proof) cert.steps in
    let long : length (cert_text cert) ≡ length heading + length (proof_text cert.proof) = length-append heading (proof_text cert.proof) in
    omega (arith, few, long, heading_long (proof_word cert.proof) cert.steps, proof_long (slot_count problem) cert.proof verdict tree r.proof e)
