-- Own blocks, found among what is kept of blocks.
use Rattle.std.proofs.Common.{◌≡◌, ◌<◌, ◌-◌, ℕ, Bool, true, false, ◌&&◌, nat_eq, List, [], ◌∷◌, ◌++◌, Some, None, refl, sym, ap, ◌∙◌, arith, inl, inr, length}
use Rattle.std.specs.Prelude.{slice_get}
use Rattle.std.proofs.lemmas.List.{length_push}
use Rattle.std.proofs.lemmas.Option.{slice_get_cases, slice_get_within}
use Rattle.ato_files.specs.declared.program.SourceFile.{SourceFile}
use Rattle.ato_files.specs.declared.program.BlockInfo.{BlockInfo}
use Rattle.ato_files.specs.Blocks.{BlockAt, blocks_of, block_of, own}
use Rattle.ato_files.specs.BlockPlaces.{block_at}
use Rattle.std.specs.Option.{option_map}
use Rattle.ato_files.specs.Lineages.{IsLineage, oldest, child}
use Rattle.ato_files.specs.Finding.{has_name, is_named}
use Rattle.ato_files.specs.Programs.{AreBlocks}
use Rattle.ato_files.proofs.PushLemmas.{slice_get_push_last}
use Rattle.ato_files.proofs.PlaceLemmas.{stands_there}
use Rattle.ato_files.proofs.PositionLemmas.{position_none, position_first}

-- a lineage ends with the block
ends_with : (files : List SourceFile) (number : ℕ) (found : List ℕ) → IsLineage files number found → (before : List ℕ) × (found ≡ before ++ number ∷ [])
ends_with files number found (oldest e) = ([], refl)
ends_with files number found (child {lineage = l} e d) = (l, refl)

-- so its last number is the block's
pub last_number : (files : List SourceFile) (number : ℕ) (found : List ℕ) → IsLineage files number found → slice_get found (length found - 1) ≡ Some number
last_number files number found d = let e = ends_with files number found d in let long = ap length e.1 ∙ length_push e.0 number in
    ap (λ (xs : List ℕ). slice_get xs (length found - 1)) e.1 ∙ slice_get_push_last e.0 number (length found - 1) (omega arith)

module _ (files : List SourceFile) (blocks : List BlockInfo) (are : AreBlocks files blocks) (file name : ℕ) where
  is_own : BlockAt → Bool
  is_own b = nat_eq b.file file && nat_eq b.block.name.name.0 name

  by_info : (number : ℕ) (info : BlockInfo) (b : BlockAt) → block_of files number ≡ Some b → info.file.0 ≡ b.file → info.item ≡ b.item → is_named files file name info ≡ is_own b
  unfolding is_own
  by_info number info b at e f =
      ap (λ (x : ℕ). nat_eq x file && has_name name (block_at files (record { file = info.file.0; item = info.item }))) e
      ∙ ap (λ (x : ℕ). nat_eq b.file file && has_name name (block_at files (record { file = x; item = info.item }))) e
      ∙ ap (λ (x : ℕ). nat_eq b.file file && has_name name (block_at files (record { file = b.file; item = x }))) f
      ∙ ap (λ o. nat_eq b.file file && has_name name o) (stands_there files number b at)

  same_test : (number : ℕ) (info : BlockInfo) (b : BlockAt) → slice_get blocks number ≡ Some info → block_of files number ≡ Some b → is_named files file name info ≡ is_own b
  same_test number info b e at = let i = are.each number info e in
      let both : Some i.at ≡ Some b = sym i.found ∙ at in let same : i.at ≡ b = cc in
      by_info number info b at (i.file ∙ ap (λ (x : BlockAt). x.file) same) (i.item ∙ ap (λ (x : BlockAt). x.item) same)

  -- a block is kept
  kept : (P : Type 0) (number : ℕ) (b : BlockAt) → block_of files number ≡ Some b → ((info : BlockInfo) → slice_get blocks number ≡ Some info → P) → P
  kept P number b at f = elim (slice_get_cases blocks number).1 [
    | inl x ↦ f x.0 x.2
    | inr x ↦ (let past = x.0 in let n = are.count in let h = slice_get_within (blocks_of files) number b at in absurd (omega arith))
  ]

  pub own_first : (number : ℕ) (info : BlockInfo) → slice_get blocks number ≡ Some info → is_named files file name info ≡ true
      → ((k : ℕ) (i : BlockInfo) → k < number → slice_get blocks k ≡ Some i → is_named files file name i ≡ false) → own files file name ≡ Some number
  unfolding is_own
  own_first number info e t h = let i = are.each number info e in
      position_first is_own (blocks_of files) number i.at i.found (sym (same_test number info i.at e i.found) ∙ t)
      (λ k b l at. kept (is_own b ≡ false) k b at (λ j g. sym (same_test k j b g at) ∙ h k j l g))

  pub own_none : ((k : ℕ) (i : BlockInfo) → k < length blocks → slice_get blocks k ≡ Some i → is_named files file name i ≡ false) → own files file name ≡ None
  unfolding is_own
  own_none h = position_none is_own (blocks_of files)
      (λ k b at. kept (is_own b ≡ false) k b at (λ j g. sym (same_test k j b g at) ∙ h k j (slice_get_within blocks k j g) g))

-- at the place that is kept of a block stands the block
pub kept_block : (files : List SourceFile) (blocks : List BlockInfo) (number : ℕ) (info : BlockInfo) → AreBlocks files blocks → slice_get blocks number ≡ Some info
    → block_at files (record { file = info.file.0; item = info.item }) ≡ option_map (λ (b : BlockAt). b.block) (block_of files number)
kept_block files blocks number info are e = let i = are.each number info e in
    ap (λ (x : ℕ). block_at files (record { file = x; item = info.item })) i.file
    ∙ ap (λ (x : ℕ). block_at files (record { file = i.at.file; item = x })) i.item
    ∙ stands_there files number i.at i.found
    ∙ sym (ap (option_map (λ (b : BlockAt). b.block)) i.found)
