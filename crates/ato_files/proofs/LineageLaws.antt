-- Lineages end exactly where so many steps do.
use Rattle.std.proofs.Common.{true≢false, ap, sym, ◌∙◌, refl, arith, subst, inl, inr}
use Rattle.std.specs.Prelude.{◌≡◌, ℕ, zero, suc, ◌+◌, ◌<◌, ◌≤◌, Bool, true, false, ◌||◌, nat_eq, List, [], ◌∷◌, ◌++◌, length, Option, Some, None, is_some}
use Rattle.std.specs.List.{list_any, IsDistinct}
use Rattle.std.specs.Option.{option_map, option_and_then}
use Rattle.std.proofs.lemmas.List.{length_push}
use Rattle.std.proofs.lemmas.List.Folds.{list_any-append}
use Rattle.std.proofs.lemmas.Map.Keys.{IsDistinct-push}
use Rattle.std.proofs.lemmas.Map.Steps.{length-le_from_distinct_below}
use Rattle.std.proofs.lemmas.Option.{slice_get_cases, none-some}
use Rattle.std.proofs.lemmas.Bool.{eqb-true}
use Rattle.std.specs.Cmp.{nat_eq_equiv}
use Rattle.ato_files.specs.declared.program.SourceFile.{SourceFile}
use Rattle.ato_files.specs.Blocks.{BlockAt, blocks_of, meaning}
use Rattle.ato_files.specs.Lineages.{parent, IsLineage, oldest, child, below, lineage_within, lineage, ancestor, never_ends, LineagesEnd}

not_empty : {files : List SourceFile} {block : ℕ} {found : List ℕ} → IsLineage files block found → 1 ≤ length found
not_empty (oldest e) = omega arith
not_empty (child {block = b} {lineage = l} e d) = let long = length_push l b in omega arith

-- enough steps give the lineage
within : {files : List SourceFile} {block : ℕ} {found : List ℕ} (n : ℕ) → IsLineage files block found → length found ≤ suc n → lineage_within files n block ≡ found
within zero (oldest e) short = refl
within {files = files} (suc n) (oldest {block = b} e) short = ap (λ p. below b (option_map (lineage_within files n) p)) e
within zero (child {block = b} {lineage = l} e d) short = let long = length_push l b in let some = not_empty d in absurd (omega arith)
within {files = files} (suc n) (child {block = b} {lineage = l} e d) short =
    let long = length_push l b in
    ap (λ p. below b (option_map (lineage_within files n) p)) e ∙ ap (λ above. above ++ b ∷ []) (within n d (omega arith))

-- so many steps up there is nothing
none_above : {files : List SourceFile} {block : ℕ} {found : List ℕ} (n : ℕ) → IsLineage files block found → length found ≤ n → ancestor files n block ≡ None
none_above zero d short = let some = not_empty d in absurd (omega arith)
none_above {files = files} (suc n) (oldest e) short = ap (option_and_then (ancestor files n)) e
none_above {files = files} (suc n) (child {block = b} {lineage = l} e d) short =
    let long = length_push l b in
    ap (option_and_then (ancestor files n)) e ∙ none_above n d (omega arith)

-- where there is nothing so many steps up, there is a lineage
lineage_under : (files : List SourceFile) (n block : ℕ) (above : Option ℕ) → parent files block ≡ above → option_and_then (ancestor files n) above ≡ None
    → ((b : ℕ) → ancestor files n b ≡ None → (found : List ℕ) × IsLineage files b found) → (found : List ℕ) × IsLineage files block found
lineage_under files n block None e nothing more = (block ∷ [], oldest e)
lineage_under files n block (Some b) e nothing more = let d = more b nothing in (d.0 ++ block ∷ [], child e d.1)

has_lineage : (files : List SourceFile) (n block : ℕ) → ancestor files n block ≡ None → (found : List ℕ) × IsLineage files block found
has_lineage files zero block nothing = absurd (none-some block (sym nothing))
has_lineage files (suc n) block nothing = lineage_under files n block (parent files block) refl nothing (has_lineage files n)

pub one_lineage : {files : List SourceFile} {block : ℕ} {xs ys : List ℕ} → IsLineage files block xs → IsLineage files block ys → xs ≡ ys
one_lineage {xs = xs} {ys = ys} d e = sym (within (length xs + length ys) d (omega arith)) ∙ within (length xs + length ys) e (omega arith)

-- ---- a lineage is no longer than there are blocks, and one

or_true : (a b : Bool) → (a || b) ≡ true → (P : Type 0) → (a ≡ true → P) → (b ≡ true → P) → P
or_true true b h P f g = f refl
or_true false b h P f g = g h

not_true : (v : Bool) → (v ≡ true → ⊥) → v ≡ false
not_true true h = absurd (h refl)
not_true false h = refl

same_one : (x b : ℕ) → (nat_eq x b || false) ≡ true → x ≡ b
same_one x b h = or_true (nat_eq x b) false h (x ≡ b) (eqb-true x b) (λ e. absurd (true≢false (sym e)))

own_one : (files : List SourceFile) (x b : ℕ) (found : List ℕ) → (nat_eq x b || false) ≡ true → IsLineage files b found
    → (own : List ℕ) × IsLineage files x own × (length own ≤ length found)
own_one files x b found h d = subst (λ z. (own : List ℕ) × IsLineage files z own × (length own ≤ length found)) (sym (same_one x b h)) (found, d, omega arith)

-- a block with a parent is a block
is_block : (files : List SourceFile) (b above : ℕ) → parent files b ≡ Some above → b < length (blocks_of files)
is_block files b above e = elim (slice_get_cases (blocks_of files) b).1 [
  | inl h ↦ h.1
  | inr h ↦ absurd (none-some above (sym (ap (option_and_then (λ (x : BlockAt). option_and_then (λ name. meaning files x.file name.name.0) x.block.parent)) h.1) ∙ e))
]

-- each block of a lineage has a lineage of its own, which is no longer
inner : {files : List SourceFile} {block : ℕ} {found : List ℕ} (x : ℕ) → IsLineage files block found → list_any (nat_eq x) found ≡ true
    → (own : List ℕ) × IsLineage files x own × (length own ≤ length found)
inner {files = files} x (oldest {block = b} e) holds = own_one files x b (b ∷ []) holds (oldest e)
inner {files = files} x (child {block = b} {lineage = l} e d) holds =
    or_true (list_any (nat_eq x) l) (nat_eq x b || false) (sym (list_any-append (nat_eq x) l (b ∷ [])) ∙ holds)
    ((own : List ℕ) × IsLineage files x own × (length own ≤ length (l ++ b ∷ [])))
    (λ h. let i = inner x d h in let long = length_push l b in let less : length i.0 ≤ length (l ++ b ∷ []) = (let le = i.2 in omega arith) in (i.0, i.1, less))
    (λ h. own_one files x b (l ++ b ∷ []) h (child e d))

-- The blocks after the oldest differ, and each has a parent.
record After (files : List SourceFile) (found : List ℕ) : Type 0 where
  oldest_one : ℕ
  younger : List ℕ
  cut : found ≡ oldest_one ∷ younger
  differ : IsDistinct nat_eq younger
  known : (q : ℕ) → list_any (nat_eq q) younger ≡ true → q < length (blocks_of files)

-- a block is none of its ancestors
apart : {files : List SourceFile} {above : ℕ} {l : List ℕ} (b : ℕ) → parent files b ≡ Some above → IsLineage files above l → list_any (nat_eq b) l ≡ false
apart {l = l} b e d = not_true (list_any (nat_eq b) l) (λ h. let i = inner b d h in
    let same = ap length (one_lineage (child e d) i.1) in let long = length_push l b in let le = i.2 in absurd (omega arith))

or_false : (a b : Bool) → (a || b) ≡ false → b ≡ false
or_false true b h = absurd (true≢false h)
or_false false b h = h

nothing_twice : IsDistinct nat_eq []
unfolding IsDistinct
nothing_twice = tt

after : {files : List SourceFile} {block : ℕ} {found : List ℕ} → IsLineage files block found → After files found
after (oldest {block = b} e) = record { oldest_one = b; younger = []; cut = refl; differ = nothing_twice; known = λ q h. absurd (true≢false (sym h)) }
after {files = files} (child {block = b} {above = p} {lineage = l} e d) = let a = after d in record {
  oldest_one = a.oldest_one;
  younger = a.younger ++ b ∷ [];
  cut = ap (λ z. z ++ b ∷ []) a.cut;
  differ = IsDistinct-push nat_eq_equiv a.younger b a.differ
      (or_false (nat_eq b a.oldest_one) (list_any (nat_eq b) a.younger) (sym (ap (list_any (nat_eq b)) a.cut) ∙ apart b e d));
  known = λ q h. or_true (list_any (nat_eq q) a.younger) (nat_eq q b || false) (sym (list_any-append (nat_eq q) a.younger (b ∷ [])) ∙ h)
      (q < length (blocks_of files)) (a.known q) (λ k. subst (λ z. z < length (blocks_of files)) (sym (same_one q b k)) (is_block files b p e));
}

short_lineage : {files : List SourceFile} {block : ℕ} {found : List ℕ} → IsLineage files block found → length found ≤ suc (length (blocks_of files))
short_lineage {files = files} d = let a = after d in let few = length-le_from_distinct_below a.younger (length (blocks_of files)) a.differ a.known in
    let long = ap length a.cut in omega arith

is_none_of : (o : Option ℕ) → is_some o ≡ false → o ≡ None
is_none_of None h = refl
is_none_of (Some x) h = absurd (true≢false h)

the_lineage : (files : List SourceFile) (block : ℕ) → never_ends files block ≡ false → IsLineage files block (lineage files block)
the_lineage files block h =
    let d = has_lineage files (suc (length (blocks_of files))) block (is_none_of (ancestor files (suc (length (blocks_of files))) block) h) in
    subst (IsLineage files block) (sym (within (length (blocks_of files)) d.1 (short_lineage d.1))) d.1

pub ends_exactly : (files : List SourceFile) (block : ℕ) → LineagesEnd files block
ends_exactly files block = record { ends = the_lineage files block; has_one = λ d. (ap is_some (none_above (suc (length (blocks_of files))) d (short_lineage d)), within (length (blocks_of files)) d (short_lineage d)) }
