-- The variables of a table's nodes.
use Rattle.std.proofs.Common.{◌≡◌, ℕ, ◌+◌, ◌<◌, ◌≤◌, List, ap, ◌∙◌, subst, ⊎_elim, arith}
use Rattle.std.specs.Prelude.{slice_get, Some}
use Rattle.ato_expr.specs.declared.ops.Op.TheVariants as ops
use Rattle.ato_expr.specs.Tables.{Entry}
use Rattle.ato_expr.proofs.EvaluationLaws.{last_or_before}
use Rattle.ato_expr.proofs.LabelLaws.{same_entry}

-- the variables of one node more
pub variables_more : (table : List Entry) (node : ℕ) (entry : Entry) (a b : ℕ) → slice_get table node ≡ Some entry
    → ((k v : ℕ) (e : Entry) → k < node → slice_get table k ≡ Some e → e.op ≡ ops.Var v → v < a) → a ≤ b
    → ((v : ℕ) → entry.op ≡ ops.Var v → v < b) → (k v : ℕ) (e : Entry) → k < node + 1 → slice_get table k ≡ Some e → e.op ≡ ops.Var v → v < b
variables_more table node entry a b at before h own k v e l is var =
    ⊎_elim
    (λ g. let less : v < a = before k v e g is var in omega arith)
    (λ same. own v (ap (λ (x : Entry). x.op) (same_entry table node entry e at (subst (λ n. slice_get table n ≡ Some e) same is)) ∙ var))
    (last_or_before k node l)
