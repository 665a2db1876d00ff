-- Lists of parents.
use Rattle.std.proofs.Common.{◌≡◌, ◌<◌, ℕ, List, Option, Some, None, refl, sym, ap, ◌∙◌, subst, arith, inl, inr, length}
use Rattle.std.specs.Prelude.{map, slice_get}
use Rattle.std.specs.Option.{option_map, option_and_then}
use Rattle.std.proofs.lemmas.List.{length-map}
use Rattle.std.proofs.lemmas.Option.{slice_get-map, slice_get_cases}
use Rattle.ato_ast.specs.declared.names.Named.{Named}
use Rattle.ato_ast.specs.declared.blocks.Block.{Block}
use Rattle.ato_files.specs.declared.program.SourceFile.{SourceFile}
use Rattle.ato_files.specs.declared.block_places.BlockPlace.{BlockPlace}
use Rattle.ato_files.specs.declared.meanings.Meanings.{Meanings}
use Rattle.ato_files.specs.Blocks.{BlockAt, blocks_of, block_of, meaning}
use Rattle.ato_files.specs.BlockPlaces.{place_of, places_of}
use Rattle.ato_files.specs.Lineages.{parent}
use Rattle.ato_files.specs.Meant.{found, AreMeanings}
use Rattle.ato_files.specs.ParentLists.{parent_at, AreParents}
use Rattle.ato_files.proofs.PlaceLemmas.{length_places, place_at, stands_there}

module _ (files : List SourceFile) (m : Meanings) (are : AreMeanings files m) where
  same_meaning : (file : ℕ) (name : Option Named) → option_and_then (λ n. found m file n.name.0) name ≡ option_and_then (λ n. meaning files file n.name.0) name
  same_meaning file None = refl
  same_meaning file (Some n) = are.meant file n.name.0

  kept_parent : (b : BlockAt) (number : ℕ) → block_of files number ≡ Some b → parent_at files m (place_of b) ≡ parent files number
  kept_parent b number at =
      ap (option_and_then (λ (x : Block). option_and_then (λ name. found m b.file name.name.0) x.parent)) (stands_there files number b at)
      ∙ same_meaning b.file b.block.parent
      ∙ sym (ap (option_and_then (λ (x : BlockAt). option_and_then (λ name. meaning files x.file name.name.0) x.block.parent)) at)

  each_parent : (number : ℕ) → number < length (blocks_of files) → slice_get (map (parent_at files m) (places_of files)) number ≡ Some (parent files number)
  each_parent number h = elim (slice_get_cases (blocks_of files) number).1 [
    | inl x ↦ (
        slice_get-map (parent_at files m) (places_of files) number
        ∙ ap (option_map (parent_at files m)) (place_at files number ∙ ap (option_map place_of) x.2)
        ∙ ap Some (kept_parent x.0 number x.2))
    | inr x ↦ (let past = x.0 in absurd (omega arith))
  ]

  pub are_parents : (places : List BlockPlace) (parents : List (Option ℕ)) → places ≡ places_of files → parents ≡ map (parent_at files m) places → AreParents files parents
  are_parents places parents e f =
      subst (AreParents files) (sym (f ∙ ap (map (parent_at files m)) e)) (record { count = length-map (places_of files) (parent_at files m) ∙ length_places files; each = each_parent })
