-- Where names have no fault, each block has a lineage.
use Rattle.std.proofs.lemmas.List.{length-map}
use Rattle.std.proofs.Common.{inl, inr, ◌≤◌, ◌≡◌, ℕ, zero, suc, ◌+◌, List, [], ◌∷◌, ◌++◌, Bool, true, false, Option, Some, None, refl, sym, ap, ◌∙◌, subst, arith}
use Rattle.std.specs.Prelude.{map, length, slice_get, is_some, if◌then◌else◌}
use Rattle.std.specs.List.{flat_map}
use Rattle.std.specs.Option.{option_map, option_and_then}
use Rattle.std.proofs.lemmas.Option.{slice_get-map, slice_get_past, slice_get_cases}
use Rattle.ato_base.specs.declared.faults.Fault.{Fault}
use Rattle.ato_ast.specs.declared.names.Named.{Named}
use Rattle.ato_files.specs.declared.program.SourceFile.{SourceFile}
use Rattle.ato_files.specs.declared.program.BlockInfo.{BlockInfo}
use Rattle.ato_files.specs.Lists.{numbered}
use Rattle.ato_files.specs.Blocks.{BlockAt, blocks_of, block_of, meaning}
use Rattle.ato_files.specs.Lineages.{parent, IsLineage, lineage, ancestor, never_ends}
use Rattle.ato_files.specs.NameFaults.{file_faults, parent_faults, block_faults, name_faults, name_fault}
use Rattle.ato_files.specs.Programs.{IsBlockInfo, AreBlocks}
use Rattle.ato_files.proofs.FaultLaws.{none_is_empty}
use Rattle.ato_files.proofs.LineageLaws as lineages

-- ---- empty lists

left_empty : {X : Type 0} (xs ys : List X) → xs ++ ys ≡ [] → xs ≡ []
left_empty [] ys e = refl
left_empty (x ∷ xs) ys e = cc

right_empty : {X : Type 0} (xs ys : List X) → xs ++ ys ≡ [] → ys ≡ []
right_empty [] ys e = e
right_empty (x ∷ xs) ys e = cc

none_of : {X A : Type 0} (f : X → List A) (xs : List X) (i : ℕ) (x : X) → flat_map f xs ≡ [] → slice_get xs i ≡ Some x → f x ≡ []
none_of f [] i x e h = cc
none_of f (y ∷ xs) zero x e h = let same : y ≡ x = cc in subst (λ z. f z ≡ []) same (left_empty (f y) (flat_map f xs) e)
none_of f (y ∷ xs) (suc i) x e h = none_of f xs i x (right_empty (f y) (flat_map f xs) e) h

-- a numbered item is the item of its number
pub numbered_at : {X : Type 0} (n : ℕ) (xs : List X) (i : ℕ) (x : X) → slice_get xs i ≡ Some x → slice_get (numbered n xs) i ≡ Some (n + i, x)
numbered_at n [] i x e = cc
numbered_at n (y ∷ xs) zero x e = let same : y ≡ x = cc in let zero_more : n ≡ n + 0 = omega arith in ap (λ (p : ℕ). Some (p, y)) zero_more ∙ ap (λ z. Some (n + 0, z)) same
numbered_at n (y ∷ xs) (suc i) x e = let one_more : suc n + i ≡ n + suc i = omega arith in numbered_at (suc n) xs i x e ∙ ap (λ (p : ℕ). Some (p, x)) one_more

pub numbered_item : {X : Type 0} (xs : List X) (i : ℕ) (x : X) → slice_get xs i ≡ Some x → slice_get (numbered 0 xs) i ≡ Some (i, x)
numbered_item xs i x e = let same : 0 + i ≡ i = omega arith in numbered_at 0 xs i x e ∙ ap (λ (p : ℕ). Some (p, x)) same

length_numbered : {X : Type 0} (n : ℕ) (xs : List X) → length (numbered n xs) ≡ length xs
length_numbered n [] = refl
length_numbered n (x ∷ xs) = ap suc (length_numbered (suc n) xs)

-- ---- no loop of parents

module _ (files : List SourceFile) (sound : name_fault files ≡ None) where
  no_faults : (number : ℕ) (b : BlockAt) → block_of files number ≡ Some b → block_faults files number b ≡ []
  no_faults number b at =
      let none = right_empty (flat_map (file_faults files) files) (flat_map (λ (b : ℕ × BlockAt). block_faults files b.0 b.1) (numbered 0 (blocks_of files))) (none_is_empty (name_faults files) sound) in
      none_of (λ (b : ℕ × BlockAt). block_faults files b.0 b.1) (numbered 0 (blocks_of files)) number (number, b) none (numbered_item (blocks_of files) number b at)

  good_parent : (number : ℕ) (b : BlockAt) → block_of files number ≡ Some b → parent_faults files number b.file b.block b.block.parent (parent files number) ≡ []
  good_parent number b at = left_empty _ _ (left_empty _ _ (left_empty _ _ (left_empty _ _ (no_faults number b at))))

  not_looped : (v : Bool) (f : Fault) → (if v then f ∷ [] else []) ≡ [] → v ≡ false
  not_looped true f e = cc
  not_looped false f e = refl

  under_parent : (number above : ℕ) (b : BlockAt) (name : Option Named) → parent_faults files number b.file b.block name (Some above) ≡ [] → (name ≡ None → ⊥) → never_ends files number ≡ false
  under_parent number above b None e some = absurd (some refl)
  under_parent number above b (Some name) e some = not_looped (never_ends files number) _ (left_empty _ _ e)

  abbrev named_parent : BlockAt → Option Named → Option ℕ
  named_parent b name = option_and_then (λ (n : Named). meaning files b.file n.name.0) name

  abbrev parent_of : Option BlockAt → Option ℕ
  parent_of found = option_and_then (λ (b : BlockAt). named_parent b b.block.parent) found

  parent_is : (number : ℕ) (found : Option BlockAt) → block_of files number ≡ found → parent files number ≡ parent_of found
  parent_is number found e = ap parent_of e

  with_parent : (number above : ℕ) (found : Option BlockAt) → block_of files number ≡ found → parent files number ≡ Some above → never_ends files number ≡ false
  with_parent number above None at e = let both : None ≡ Some above = sym (parent_is number None at) ∙ e in cc
  with_parent number above (Some b) at e =
      under_parent number above b b.block.parent (subst (λ p. parent_faults files number b.file b.block b.block.parent p ≡ []) e (good_parent number b at))
      (λ none. let both : None ≡ Some above = sym (ap (named_parent b) none) ∙ sym (parent_is number (Some b) at) ∙ e in cc)

  pub no_loop : (number : ℕ) (above : Option ℕ) → parent files number ≡ above → never_ends files number ≡ false
  no_loop number None e = ap (λ (p : Option ℕ). is_some (option_and_then (ancestor files (length (blocks_of files))) p)) e
  no_loop number (Some above) e = with_parent number above (block_of files number) refl e

  pub has_lineage : (number : ℕ) → IsLineage files number (lineage files number)
  has_lineage number = (lineages.ends_exactly files number).ends (no_loop number (parent files number) refl)

  -- ---- what is kept of the blocks

  info : ℕ × BlockAt → BlockInfo
  info b = record { file = record { 0 = b.1.file }; item = b.1.item; lineage = lineage files b.0 }

  kept : List BlockInfo
  kept = map info (numbered 0 (blocks_of files))

  as_many : length kept ≡ length (blocks_of files)
  unfolding kept
  as_many = length-map (numbered 0 (blocks_of files)) info ∙ length_numbered 0 (blocks_of files)

  -- no block has more
  nothing_past : (number : ℕ) → length (blocks_of files) ≤ number → slice_get kept number ≡ None
  nothing_past number past = slice_get_past kept number (omega (arith, as_many))

  kept_at : (number : ℕ) (b : BlockAt) → block_of files number ≡ Some b → slice_get kept number ≡ Some (info (number, b))
  unfolding kept
  kept_at number b at = slice_get-map info (numbered 0 (blocks_of files)) number ∙ ap (option_map info) (numbered_item (blocks_of files) number b at)

  is_info : (number : ℕ) (b : BlockAt) → block_of files number ≡ Some b → IsBlockInfo files number (info (number, b))
  unfolding info
  is_info number b at = record { at = b; found = at; file = refl; item = refl; lineage = has_lineage number }

  each_kept : (number : ℕ) (i : BlockInfo) → slice_get kept number ≡ Some i → IsBlockInfo files number i
  each_kept number i e = elim (slice_get_cases (blocks_of files) number).1 [
    | inl h ↦ (let both : Some (info (number, h.0)) ≡ Some i = sym (kept_at number h.0 h.2) ∙ e in
        let same : info (number, h.0) ≡ i = cc in subst (IsBlockInfo files number) same (is_info number h.0 h.2))
    | inr h ↦ (let both : None ≡ Some i = sym (nothing_past number h.0) ∙ e in cc)
  ]

  pub has_blocks : (blocks : List BlockInfo) × AreBlocks files blocks
  has_blocks = (kept, record { count = as_many; each = each_kept })
