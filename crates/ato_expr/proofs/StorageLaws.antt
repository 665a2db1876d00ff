-- What stays of a table in memory when a node is put in.
use Rattle.std.proofs.Common.{◌≡◌, ℕ, zero, suc, ◌+◌, ◌-◌, ◌<◌, ◌≤◌, ◌^◌, List, [], ◌∷◌, ◌++◌, length, take, drop, refl, ap, ap₂, sym, ◌∙◌, subst, ◌⊎◌, inl, inr, arith, length-append, get_or}
use Rattle.std.specs.Prelude.{Contains, slice_get, slice_range, option_map, Some, None}
use Rattle.std.proofs.lemmas.Option.{none-some, same_Some, slice_get-map, slice_get-get_or}
use Rattle.std.proofs.lemmas.List.{take-append-le, drop-append-le, length-drop, length-map, map-append}
use Rattle.std.proofs.Math.Seq.{drop-append_seam, take-length}
use Rattle.ato_expr.specs.declared.table.Node.{Node}
use Rattle.ato_expr.specs.Storage.{entry_at, entries, AreWithin, IsStored}
use Rattle.ato_expr.specs.Tables.{Entry, Fits, IsTable, AreNodes}

pub within_more : (size more : ℕ) (nodes : List Node) → size ≤ more → AreWithin size nodes → AreWithin more nodes
within_more size more [] h w = tt
within_more size more (n ∷ ns) h w = (w.0, (let e : n.end ≤ size = w.1 in omega arith), within_more size more ns h w.2)

within_pushed : (size : ℕ) (nodes : List Node) (n : Node) → AreWithin size nodes → n.first ≤ n.end → n.end ≤ size → AreWithin size (nodes ++ n ∷ [])
within_pushed size [] n w h k = (h, k, tt)
within_pushed size (m ∷ ms) n w h k = (w.0, w.1, within_pushed size ms n w.2 h k)

-- a node's range is in order, and within the list
pub within_at : (size : ℕ) (nodes : List Node) (k : ℕ) (n : Node) → AreWithin size nodes → slice_get nodes k ≡ Some n → (n.first ≤ n.end) × (n.end ≤ size)
within_at size [] k n w e = absurd (none-some n e)
within_at size (m ∷ ms) zero n w e = subst (λ (x : Node). (x.first ≤ x.end) × (x.end ≤ size)) (same_Some m n e) (w.0, w.1)
within_at size (m ∷ ms) (suc k) n w e = within_at size ms k n w.2 e

range_kept : (cs more : List ℕ) (i j : ℕ) → i ≤ j → j ≤ length cs → slice_range (cs ++ more) i j ≡ slice_range cs i j
range_kept cs more i j h k =
    let front : i ≤ length cs = omega arith in
    let room : j - i ≤ length (drop i cs) = omega (arith, length-drop i cs) in
    ap (take (j - i)) (drop-append-le i cs more front) ∙ take-append-le (j - i) (drop i cs) more room

range_new : (cs new : List ℕ) (i j : ℕ) → i ≡ length cs → j ≡ length (cs ++ new) → slice_range (cs ++ new) i j ≡ new
range_new cs new i j h k =
    let count : j - i ≡ length new = omega (arith, length-append cs new) in
    ap₂ take count (ap (λ n. drop n (cs ++ new)) h ∙ drop-append_seam cs new) ∙ take-length new

entry_same : (cs ds : List ℕ) (n : Node) → slice_range cs n.first n.end ≡ ds → entry_at cs n ≡ record { op = n.op; children = ds }
entry_same cs ds n e = ap (λ (xs : List ℕ). record { op = n.op; children = xs }) e

entries_kept : (cs more : List ℕ) (nodes : List Node) → AreWithin (length cs) nodes → entries (cs ++ more) nodes ≡ entries cs nodes
entries_kept cs more [] w = refl
entries_kept cs more (n ∷ ns) w = ap₂ ◌∷◌ (entry_same (cs ++ more) (slice_range cs n.first n.end) n (range_kept cs more n.first n.end w.0 w.1)) (entries_kept cs more ns w.2)

-- the entries after one more
pub entries_pushed : (cs new : List ℕ) (nodes : List Node) (n : Node) → AreWithin (length cs) nodes → n.first ≡ length cs → n.end ≡ length (cs ++ new)
    → entries (cs ++ new) (nodes ++ n ∷ []) ≡ entries cs nodes ++ record { op = n.op; children = new } ∷ []
entries_pushed cs new nodes n w h k =
    map-append (entry_at (cs ++ new)) nodes (n ∷ [])
    ∙ ap₂ ◌++◌ (entries_kept cs new nodes w) (ap (λ (e : Entry). e ∷ []) (entry_same (cs ++ new) new n (range_new cs new n.first n.end h k)))

-- what stands at a place of a list with one more
pub snoc_cases : {A : Type 0} (xs : List A) (x y : A) (n : ℕ) → slice_get (xs ++ x ∷ []) n ≡ Some y → (slice_get xs n ≡ Some y) ⊎ ((n ≡ length xs) × (x ≡ y))
snoc_cases [] x y zero e = inr (refl, same_Some x y e)
snoc_cases [] x y (suc n) e = absurd (none-some y e)
snoc_cases (z ∷ zs) x y zero e = inl e
snoc_cases (z ∷ zs) x y (suc n) e =
    elim (snoc_cases zs x y n e) [ inl h ↦ inl h | inr h ↦ inr ((let k : n ≡ length zs = h.0 in omega arith), h.1) ]

-- a table stays one with an entry that fits
pub table_pushed : (table : List Entry) (e : Entry) → IsTable table → Fits e.op (length e.children) → AreNodes table e.children → IsTable (table ++ e ∷ [])
table_pushed table e t f a = record {
  fits = λ n x h. elim (snoc_cases table e x n h) [ inl g ↦ t.fits n x g | inr g ↦ subst (λ (y : Entry). Fits y.op (length y.children)) g.1 f ];
  before = λ n x h c k. elim (snoc_cases table e x n h) [
    | inl g ↦ t.before n x g c k
    | inr g ↦
        let below : c < length table = a c (subst (λ (y : Entry). Contains y.children c) (sym g.1) k) in
        subst (λ (m : ℕ). c < m) (sym g.0) below
  ];
}

pub stored_pushed : (cs cs' new : List ℕ) (nodes nodes' : List Node) (table : List Entry) (n : Node) → IsStored cs nodes → entries cs nodes ≡ table
    → cs' ≡ cs ++ new → nodes' ≡ nodes ++ n ∷ [] → n.first ≡ length cs → n.end ≡ length cs'
    → AreNodes table new → Fits n.op (length new) → length table + 1 < 2 ^ 32 → IsStored cs' nodes'
stored_pushed cs cs' new nodes nodes' table n s e d g h k a f few =
    let more : length cs' ≡ length cs + length new = ap length d ∙ length-append cs new in
    let one : length nodes' ≡ length nodes + 1 = ap length g ∙ length-append nodes (n ∷ []) in
    let count : length (entries cs nodes) ≡ length nodes = length-map nodes (entry_at cs) in
    let here : entries cs' nodes' ≡ table ++ record { op = n.op; children = new } ∷ [] =
    ap₂ entries d g ∙ entries_pushed cs new nodes n s.within h (k ∙ ap length d) ∙ ap (λ (es : List Entry). es ++ record { op = n.op; children = new } ∷ []) e
    in
    record {
      within = subst (AreWithin (length cs')) (sym g) (within_pushed (length cs') nodes n (within_more (length cs) (length cs') nodes (omega arith) s.within) (omega arith) (omega arith));
      few = (let same : length (entries cs nodes) ≡ length table = ap length e in omega arith);
      table = subst IsTable (sym here) (table_pushed table (record { op = n.op; children = new }) (subst IsTable e s.table) f a);
    }

-- the table after a node is put in
pub table_is : (cs cs' new : List ℕ) (nodes nodes' : List Node) (table : List Entry) (n : Node) → IsStored cs nodes → entries cs nodes ≡ table
    → cs' ≡ cs ++ new → nodes' ≡ nodes ++ n ∷ [] → n.first ≡ length cs → n.end ≡ length cs' → entries cs' nodes' ≡ table ++ record { op = n.op; children = new } ∷ []
table_is cs cs' new nodes nodes' table n s e d g h k =
    ap₂ entries d g ∙ entries_pushed cs new nodes n s.within h (k ∙ ap length d) ∙ ap (λ (es : List Entry). es ++ record { op = n.op; children = new } ∷ []) e

-- the entry of a node in memory
pub entry_found : (cs : List ℕ) (nodes : List Node) (table : List Entry) (k : ℕ) (n : Node) → entries cs nodes ≡ table → slice_get nodes k ≡ Some n → slice_get table k ≡ Some (entry_at cs n)
entry_found cs nodes table k n e h = ap (λ (es : List Entry). slice_get es k) (sym e) ∙ slice_get-map (entry_at cs) nodes k ∙ ap (option_map (entry_at cs)) h

pub no_entry : (cs : List ℕ) (nodes : List Node) (table : List Entry) (k : ℕ) → entries cs nodes ≡ table → slice_get nodes k ≡ None → slice_get table k ≡ None
no_entry cs nodes table k e h = ap (λ (es : List Entry). slice_get es k) (sym e) ∙ slice_get-map (entry_at cs) nodes k ∙ ap (option_map (entry_at cs)) h

-- a node that is read from its list
pub node_read : (cs : List ℕ) (nodes : List Node) (table : List Entry) (k : ℕ) (n : Node) → entries cs nodes ≡ table → k < length table → n ≡ get_or nodes k n → slice_get nodes k ≡ Some n
node_read cs nodes table k n e h r =
    let count : length (entries cs nodes) ≡ length nodes = length-map nodes (entry_at cs) in
    let same : length (entries cs nodes) ≡ length table = ap length e in
    slice_get-get_or nodes k n (omega arith) ∙ ap Some (sym r)
