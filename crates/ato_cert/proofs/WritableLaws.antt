-- Valid certificates have the form of a text, and their texts are short.
use Rattle.std.proofs.Common.{ℕ, zero, suc, ◌≡◌, ◌+◌, ◌*◌, ◌^◌, ◌<◌, ◌≤◌, ⊎_elim, ℤ, pos, negsuc, unsigned_abs, List, [], ◌∷◌, ◌++◌, length, Option, Some, None, refl, arith, lit<, lit≤, length-append}
use Rattle.std.specs.Prelude.{codes}
use Rattle.std.specs.List.{AllByRecursion}
use Rattle.std.specs.Fmt.{decimal, signed_decimal}
use Rattle.std.proofs.lemmas.Bool.{le-leb, lt-leb, lt-ltb, le-ltb, cases_lt}
use Rattle.std.proofs.lemmas.Fmt.{length-decimal-le_wide}
use Rattle.std.proofs.lemmas.List.Elements.{recursion_from_All, All-from_recursion, All-contains}
use Rattle.ato_frac.specs.declared.fraction.Frac.{Frac}
use Rattle.ato_cert.specs.declared.problem.Row.{Row}
use Rattle.ato_cert.specs.declared.problem.Slot.{Slot}
use Rattle.ato_cert.specs.declared.cert.PickTree.{PickTree}
use Rattle.ato_cert.specs.declared.cert.BoxTree.TheVariants.{Holds}
use Rattle.ato_cert.specs.declared.cert.Verdict.TheVariants.{Refuted}
use Rattle.ato_cert.specs.declared.cert.Proof.{Proof}
use Rattle.ato_cert.specs.declared.cert.Proof.TheVariants.{Built, Tree}
use Rattle.ato_cert.specs.Justified.{low_side, high_side, IsMiddle, Refutes, empty, by_row, fails}
use Rattle.ato_cert.specs.Laws.{IsWritable}
use Rattle.ato_cert.specs.Nodes.{nodes, tree_nodes}
use Rattle.ato_cert.specs.Problems.{HasAtMostOf, HasNumbersBelowOf}
use Rattle.ato_cert.specs.Readable.{count_of, IsTreeOver, IsReadableProof}
use Rattle.ato_cert.specs.Readable as readable
use Rattle.ato_cert.specs.Texts.{number_word, fraction_word, empty_line, row_line, fails_line, check_text, pick_line, boxes_text, heading_text, tree_text, proof_word, proof_text}
use Rattle.ato_cert.specs.Valid.{IsProofOf}
use Rattle.ato_cert.proofs.NumberLemmas.{short}
use Rattle.ato_cert.proofs.TreeLemmas.{nodes_empty, nodes_by_row, nodes_fails, text_empty, text_by_row, text_fails}

-- rows whose numbers are below 2^32
abbrev AreSmall : List Row → Type 0
AreSmall rows = AllByRecursion (λ row. row.number < 2 ^ 32) rows

-- both sides have the rows together
sides : (n : ℕ) (rows : List Row) → length (low_side n rows) + length (high_side n rows) ≡ length rows
sides n [] = refl
sides n (row ∷ rows) =
    let rest = sides n rows in
    ⊎_elim
    (λ above. rw (lt-leb row.number n above, lt-ltb n row.number above) (omega (arith, rest)))
    (λ up_to. rw (le-leb row.number n up_to, le-ltb n row.number up_to) (omega (arith, rest)))
    (cases_lt n row.number)

-- what holds of all rows holds of those of a side

low_small : (n : ℕ) (rows : List Row) → AreSmall rows → AreSmall (low_side n rows)
low_small n [] h = tt
low_small n (row ∷ rows) h =
    ⊎_elim
    (λ above. rw (lt-leb row.number n above) (low_small n rows h.1))
    (λ up_to. rw (le-leb row.number n up_to) (h.0, low_small n rows h.1))
    (cases_lt n row.number)

high_small : (n : ℕ) (rows : List Row) → AreSmall rows → AreSmall (high_side n rows)
high_small n [] h = tt
high_small n (row ∷ rows) h =
    ⊎_elim
    (λ above. rw (lt-ltb n row.number above) (h.0, high_small n rows h.1))
    (λ up_to. rw (le-ltb n row.number up_to) (high_small n rows h.1))
    (cases_lt n row.number)

-- the number of a `row` line is that of a row
middle_small : (rows : List Row) (number : ℕ) → IsMiddle rows number → AreSmall rows → number < 2 ^ 32
middle_small rows number middle h =
    rw (← middle.numbered) (All-contains (λ row. row.number < 2 ^ 32) rows middle.row (All-from_recursion (λ row. row.number < 2 ^ 32) rows h) middle.is_left)

-- a slot or check of a tree is number 1 of 1
the_one : readable.IsNumberUpTo 1 1
the_one = record { some = omega arith; within = omega arith }

-- a tree has fewer levels of `row` lines than rows
tree_over : (slot : Slot) {rows : List Row} {tree : PickTree} (above : ℕ) → Refutes slot rows tree → AreSmall rows → length rows ≤ suc above
    → IsTreeOver 1 above tree
tree_over slot above empty h few = readable.empty 1 the_one
tree_over slot zero (by_row {rows} {low} {high} number middle l r) h few =
    absurd (omega (arith, few, sides number rows, middle.low_some, middle.high_some))
tree_over slot (suc above) (by_row {rows} {low} {high} number middle l r) h few =
    readable.by_row 1 number the_one (middle_small rows number middle h)
    (tree_over slot above l (low_small number rows h) (omega (arith, few, sides number rows, middle.high_some)))
    (tree_over slot above r (high_small number rows h) (omega (arith, few, sides number rows, middle.low_some)))
tree_over slot above (fails {rows} t f) h few = readable.fails 1 (t ∷ []) the_one

-- how long the texts of numbers are

short_word : (n : ℕ) → n < 2 ^ 32 → length (decimal n) ≤ 10
short_word n h =
    let wide : 2 ^ 32 ≤ 10 ^ 10 = lit≤ tt in
    let wider : 2 ^ 32 ≤ 10 ^ 64 = lit≤ tt in
    length-decimal-le_wide 10 n (lit< tt) (omega (arith, h, wide)) (omega (arith, h, wider))

long_word : (n : ℕ) → n < 2 ^ 127 → length (decimal n) ≤ 39
long_word n h = let wide : 2 ^ 127 ≤ 10 ^ 39 = lit≤ tt in length-decimal-le_wide 39 n (lit< tt) (omega (arith, h, wide)) (short n h)

signed_word : (z : ℤ) → unsigned_abs z < 2 ^ 127 → length (signed_decimal z) ≤ 40
signed_word (pos n) h = let p = long_word n h in omega (arith, p)
signed_word (negsuc k) h = let p = long_word (suc k) h in omega (arith, p)

fraction_long : (f : Frac) → length (fraction_word f) ≤ 81
unfolding fraction_word
fraction_long f =
    let n = signed_word f.numer f.numer_small in
    let d = long_word f.denom f.denom_small in
    omega (arith, n, d, length-append (signed_decimal f.numer) (codes "/" ++ decimal f.denom))

-- how long the lines of a tree are

empty_long : (slot : ℕ) → slot < 2 ^ 32 → length (empty_line slot) ≤ 128
unfolding empty_line
empty_long slot h = let d = short_word slot h in omega (arith, d, length-append (decimal slot) (codes "\n"))

row_long : (slot row : ℕ) → slot < 2 ^ 32 → row < 2 ^ 32 → length (row_line slot row) ≤ 128
unfolding row_line
row_long slot row h k =
    let d = short_word slot h in
    let e = short_word row k in
    omega (arith, d, e, length-append (decimal slot) (codes " " ++ (decimal row ++ codes "\n")), length-append (decimal row) (codes "\n"))

fails_long : (check : ℕ) (t : Frac) → check < 2 ^ 32 → length (fails_line check (t ∷ [])) ≤ 128
unfolding fails_line number_word
fails_long check t h =
    let d = short_word check h in
    let f = fraction_long t in
    omega (arith, d, f, length-append (decimal check) ((fraction_word t ++ []) ++ codes "\n"), length-append (fraction_word t ++ []) (codes "\n"), length-append (fraction_word t) [])

-- a tree has at most 128 bytes for each line
tree_long : (slot : Slot) {rows : List Row} {tree : PickTree} → Refutes slot rows tree → AreSmall rows → length (tree_text tree) ≤ 128 * tree_nodes tree
tree_long slot empty h = let e = empty_long 1 (lit< tt) in rw (text_empty 1, nodes_empty 1) e
tree_long slot (by_row {rows} {low} {high} number middle l r) h =
    let line = row_long 1 number (lit< tt) (middle_small rows number middle h) in
    let a = tree_long slot l (low_small number rows h) in
    let b = tree_long slot r (high_small number rows h) in
    rw (text_by_row 1 number low high, nodes_by_row 1 number low high)
    (omega (arith, line, a, b, length-append (row_line 1 number) (tree_text low ++ tree_text high), length-append (tree_text low) (tree_text high)))
tree_long slot (fails {rows} t f) h = let e = fails_long 1 t (lit< tt) in rw (text_fails 1 (t ∷ []), nodes_fails 1 (t ∷ [])) e

-- how long the first three lines are
heading_long : (proof : Proof) (steps : ℕ) → steps < 2 ^ 32 → length (heading_text (proof_word proof) steps) ≤ 64
unfolding heading_text
heading_long (Built pick boxes) steps h = let d = short_word steps h in omega (arith, d, length-append (decimal steps) (codes "\n"))
heading_long (Tree Refuted tree) steps h = let d = short_word steps h in omega (arith, d, length-append (decimal steps) (codes "\n"))

-- how long the lines of a built one are

no_pick_long : length (pick_line [] ++ boxes_text []) ≤ 64
unfolding pick_line boxes_text
no_pick_long = lit≤ tt

pick_long : (n : ℕ) → n < 2 ^ 32 → length (pick_line (n ∷ []) ++ boxes_text (Holds ∷ [])) ≤ 64
unfolding pick_line number_word boxes_text check_text
pick_long n h =
    let d = short_word n h in
    let e = short_word 1 (lit< tt) in
    simp length-append (omega (arith, d, e))

-- a proof that is right for at most 10,000 rows with numbers below 2^32 has the form of a text, with at most 128 bytes for each node
-- and 64 more
proof_writable : (slot : Option Slot) (proof : Proof) → HasAtMostOf 10000 slot → HasNumbersBelowOf (2 ^ 32) slot → IsProofOf slot proof
    → IsReadableProof (count_of slot) proof × (length (proof_text proof) ≤ 64 + 128 * nodes proof)
proof_writable None (Built pick boxes) few small p =
    rw (p.0, p.1) ((refl, λ k d l. absurd (omega (arith, l)), omega arith), no_pick_long)
proof_writable None (Tree Refuted tree) few small p = absurd p
proof_writable (Some slot) (Built pick boxes) few small p =
    let below = All-contains (λ row. row.number < 2 ^ 32) slot.rows p.row small p.candidate in
    let long = pick_long p.row.number below in
    rw (p.pick_is, p.all_checks) ((refl, All-from_recursion (λ n. n < 2 ^ 32) (p.row.number ∷ []) (below, tt), omega arith), omega (arith, long))
proof_writable (Some slot) (Tree Refuted tree) few small p =
    let rows = recursion_from_All (λ row. row.number < 2 ^ 32) slot.rows small in
    let long = tree_long slot p rows in
    (tree_over slot 10000 p rows (omega (arith, few)), omega (arith, long))

-- a valid certificate has the form of a text, and its text is short
pub valid_writable : IsWritable
valid_writable problem cert few small valid =
    let written = proof_writable problem.slot cert.proof few small valid.proof in
    let heading = heading_long cert.proof cert.steps (omega (arith, valid.steps_most)) in (
      record { steps = record { some = valid.steps_some; most = valid.steps_most }; proof = written.0 },
      omega (arith, heading, written.1, valid.within_steps, valid.steps_most, length-append (heading_text (proof_word cert.proof) cert.steps) (proof_text cert.proof)),
    )
