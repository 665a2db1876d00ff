-- What is worked out node by node: a label of a node follows from its operation and its children's labels, and an operation may
-- be refused. A node's labels are spoken of by themselves, however they are worked out: from the roots, or in one pass.
use Rattle.std.specs.Prelude.{◌≡◌, ℕ, ◌<◌, List, [], ◌∷◌, slice_get, Some}
use Rattle.ato_expr.specs.declared.ops.Op.{Op}
use Rattle.ato_expr.specs.Tables.{Entry, IsBelow}

-- a node has a label where its children have labels from which its operation gives it
mutual
  pub data HasLabel {L : Type 0} (Gives : Op → List L → L → Type 0) (table : List Entry) : ℕ → L → Type 0 where
    labelled : {n : ℕ} {l : L} (e : Entry) (ls : List L) → slice_get table n ≡ Some e → HaveLabels Gives table e.children ls → Gives e.op ls l → HasLabel Gives table n l

  pub data HaveLabels {L : Type 0} (Gives : Op → List L → L → Type 0) (table : List Entry) : List ℕ → List L → Type 0 where
    no_label : HaveLabels Gives table [] []
    a_label : {n : ℕ} {ns : List ℕ} {l : L} {ls : List L} → HasLabel Gives table n l → HaveLabels Gives table ns ls → HaveLabels Gives table (n ∷ ns) (l ∷ ls)

-- A node is refused for a reason: its children have labels, and its operation refuses them.
pub record IsRefused {L F : Type 0} (Gives : Op → List L → L → Type 0) (Refuses : Op → List L → F → Type 0) (table : List Entry) (node : ℕ) (reason : F) : Type 0 where
  pub entry : Entry
  pub labels : List L
  pub at : slice_get table node ≡ Some entry
  pub have : HaveLabels Gives table entry.children labels
  pub refused : Refuses entry.op labels reason

-- A node below the roots is refused for a reason, and every node below them with a lesser number has a label.
pub record StopsAt {L F : Type 0} (Gives : Op → List L → L → Type 0) (Refuses : Op → List L → F → Type 0) (table : List Entry) (roots : List ℕ) (node : ℕ) (reason : F) : Type 0 where
  pub below : IsBelow table roots node
  pub refused : IsRefused Gives Refuses table node reason
  pub earlier : (k : ℕ) → k < node → IsBelow table roots k → (l : L) × HasLabel Gives table k l

-- the first node below the roots, by number, that has no label is refused for this reason
abbrev pub StopsFor : {L F : Type 0} → (Op → List L → L → Type 0) → (Op → List L → F → Type 0) → List Entry → List ℕ → F → Type 0
StopsFor Gives Refuses table roots reason = (node : ℕ) × StopsAt Gives Refuses table roots node reason
