-- A table of operations, and what stands below its nodes.
use Rattle.std.specs.Prelude.{◌≡◌, ℕ, ◌+◌, ◌^◌, ◌<◌, ◌≤◌, List, Contains, length, slice_get, Some}
use Rattle.ato_expr.specs.declared.ops.Op.{Op}
use Rattle.ato_expr.specs.declared.ops.Op.TheVariants as ops

-- an operation and the numbers of the nodes that it is of
pub record Entry : Type 0 where
  pub op : Op
  pub children : List ℕ

-- so many children fit an operation, and the exponent of a power is from 1 to 16
abbrev pub Fits : Op → ℕ → Type 0
Fits (ops.Var v) n = n ≡ 0
Fits (ops.Const q) n = n ≡ 0
Fits ops.Sum n = 1 ≤ n
Fits ops.Neg n = n ≡ 1
Fits ops.Product n = n ≡ 2
Fits ops.Quotient n = n ≡ 2
Fits (ops.Power k) n = (1 ≤ k) × (k ≤ 16) × (n ≡ 1)
Fits ops.Min n = 1 ≤ n
Fits ops.Max n = 1 ≤ n
Fits ops.Abs n = n ≡ 1

-- the operation of each node fits its children, and these stand before it
pub record IsTable (table : List Entry) : Type 0 where
  pub fits : (n : ℕ) (e : Entry) → slice_get table n ≡ Some e → Fits e.op (length e.children)
  pub before : (n : ℕ) (e : Entry) → slice_get table n ≡ Some e → (c : ℕ) → Contains e.children c → c < n

-- the numbers are those of nodes
abbrev pub AreNodes : List Entry → List ℕ → Type 0
AreNodes table numbers = (n : ℕ) → Contains numbers n → n < length table

-- an operation over nodes can be put at the end
pub record CanPush (table : List Entry) (op : Op) (children : List ℕ) : Type 0 where
  pub nodes : AreNodes table children
  pub fits : Fits op (length children)
  pub room : length table + 1 < 2 ^ 32

-- a node is one of some roots, or a child of a node below these
pub data IsBelow (table : List Entry) (roots : List ℕ) : ℕ → Type 0 where
  root : {n : ℕ} → Contains roots n → IsBelow table roots n
  child : {n c : ℕ} (e : Entry) → IsBelow table roots n → slice_get table n ≡ Some e → Contains e.children c → IsBelow table roots c

-- each variable below some roots has an entry in a list
abbrev pub HasEntries : {A : Type 0} → List Entry → List ℕ → List A → Type 0
HasEntries table roots list =
    (n v : ℕ) (e : Entry) → IsBelow table roots n → slice_get table n ≡ Some e → e.op ≡ ops.Var v → v < length list

-- the variables of all nodes are below a number
abbrev pub AreVariablesBelow : List Entry → ℕ → Type 0
AreVariablesBelow table number = (n v : ℕ) (e : Entry) → slice_get table n ≡ Some e → e.op ≡ ops.Var v → v < number
