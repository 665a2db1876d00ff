-- What is kept of blocks.
use Rattle.std.proofs.Common.{◌≡◌, ◌<◌, ℕ, ◌+◌, Bool, true, false, nat_eq, List, [], ◌∷◌, ◌++◌, Option, Some, None, refl, sym, ap, ◌∙◌, subst, arith, inl, inr, length, get_or, drop, reverse}
use Rattle.std.specs.Prelude.{slice_get, if◌then◌else◌}
use Rattle.std.specs.Option.{option_map}
use Rattle.std.proofs.lemmas.List.{drop_more, reverse-append, length_push, same_from_push}
use Rattle.std.proofs.lemmas.Option.{slice_get-get_or, slice_get_within, slice_get_cases}
use Rattle.std.proofs.lemmas.Bool.{eqb-true, eqb-false}
use Rattle.ato_files.specs.declared.program.SourceFile.{SourceFile}
use Rattle.ato_files.specs.declared.program.BlockInfo.{BlockInfo}
use Rattle.ato_files.specs.declared.block_places.BlockPlace.{BlockPlace}
use Rattle.ato_files.specs.Blocks.{BlockAt, blocks_of, block_of}
use Rattle.ato_files.specs.BlockPlaces.{place_of}
use Rattle.ato_files.specs.Lineages.{lineage}
use Rattle.ato_files.specs.ParentLists.{lineage_of}
use Rattle.ato_files.specs.Infos.{info_of, AreEnding}
use Rattle.ato_files.specs.Programs.{IsBlockInfo, AreBlocks}
use Rattle.ato_files.proofs.LineageLaws.{ends_exactly}
use Rattle.ato_files.proofs.PushLemmas.{slice_get_push_first, slice_get_push_last}
use Rattle.ato_files.proofs.PlaceLemmas.{place_at, length_places}

abbrev pub no_place : BlockPlace
no_place = record { file = 0; item = 0 }

-- So many blocks are kept, from their places and lineages.
pub record AreInfos (places : List BlockPlace) (lineages : List (Option (List ℕ))) (known : ℕ) (blocks : List BlockInfo) : Type 0 where
  pub count : length blocks ≡ known
  pub each : (number : ℕ) → number < known → slice_get blocks number ≡ Some (info_of (get_or places number no_place) (get_or lineages number None))

pub no_infos : (places : List BlockPlace) (lineages : List (Option (List ℕ))) → AreInfos places lineages 0 []
no_infos places lineages = record { count = refl; each = λ number h. absurd (omega arith) }

pub infos_more : (places : List BlockPlace) (lineages : List (Option (List ℕ))) (known : ℕ) (blocks : List BlockInfo) (info : BlockInfo) → AreInfos places lineages known blocks
    → info ≡ info_of (get_or places known no_place) (get_or lineages known None) → AreInfos places lineages (known + 1) (blocks ++ info ∷ [])
infos_more places lineages known blocks info are e = record {
  count = length_push blocks info ∙ ap (λ (n : ℕ). n + 1) are.count;
  each = λ number h. by number (nat_eq number known) refl h;
}
  where
    by : (number : ℕ) (b : Bool) → nat_eq number known ≡ b → number < known + 1 → slice_get (blocks ++ info ∷ []) number ≡ Some (info_of (get_or places number no_place) (get_or lineages number None))
    by number true same h = let here = eqb-true number known same in
        slice_get_push_last blocks info number (are.count ∙ sym here) ∙ ap Some (e ∙ ap (λ (n : ℕ). info_of (get_or places n no_place) (get_or lineages n None)) (sym here))
    by number false apart h = let other = eqb-false number known apart in let n = are.count in
        slice_get_push_first blocks info number (omega arith) ∙ are.each number (omega arith)

-- ---- what is taken from the end

pub turned_drop : {X : Type 0} (xs : List X) (i : ℕ) (d : X) → i < length xs → reverse (drop i xs) ≡ reverse (drop (i + 1) xs) ++ get_or xs i d ∷ []
turned_drop xs i d h = ap reverse (drop_more xs i d h) ∙ reverse-append (get_or xs i d ∷ []) (drop (i + 1) xs)

pub taken_last : {X : Type 0} (xs was now : List X) (i : ℕ) (x d : X) → i < length xs → was ≡ reverse (drop i xs) → was ≡ now ++ x ∷ []
    → (now ≡ reverse (drop (i + 1) xs)) × (x ≡ get_or xs i d)
taken_last xs was now i x d h e f = same_from_push now (reverse (drop (i + 1) xs)) x (get_or xs i d) (sym f ∙ e ∙ turned_drop xs i d h)

nothing_pushed : {X : Type 0} (xs : List X) (x : X) → [] ≡ xs ++ x ∷ [] → ⊥
nothing_pushed [] x e = cc
nothing_pushed (y ∷ xs) x e = cc

pub some_left : {X : Type 0} (xs was : List X) (i : ℕ) (d : X) → i < length xs → was ≡ reverse (drop i xs) → was ≡ [] → ⊥
some_left xs was i d h e f = nothing_pushed (reverse (drop (i + 1) xs)) (get_or xs i d) (sym f ∙ e ∙ turned_drop xs i d h)

-- ---- blocks

module _ (files : List SourceFile) (places : List BlockPlace) (lineages : List (Option (List ℕ))) (ending : AreEnding files places lineages) where
  place_here : (number : ℕ) (b : BlockAt) → block_of files number ≡ Some b → number < length places → get_or places number no_place ≡ place_of b
  place_here number b at h =
      let both : Some (get_or places number no_place) ≡ Some (place_of b) =
      sym (slice_get-get_or places number no_place h) ∙ ap (λ ps. slice_get ps number) ending.stand ∙ place_at files number ∙ ap (option_map place_of) at in
      cc

  lineage_here : (number : ℕ) → number < length (blocks_of files) → get_or lineages number None ≡ Some (lineage files number)
  lineage_here number h =
      let long : number < length lineages = (let n = ending.have.count in omega arith) in
      let both : Some (get_or lineages number None) ≡ Some (lineage_of files number) = sym (slice_get-get_or lineages number None long) ∙ ending.have.each number h in
      let same : get_or lineages number None ≡ lineage_of files number = cc in
      same ∙ ap (λ (b : Bool). if b then None else Some (lineage files number)) (ending.end number h)

  is_info : (number : ℕ) (b : BlockAt) (info : BlockInfo) → block_of files number ≡ Some b → number < length (blocks_of files)
      → info ≡ info_of (get_or places number no_place) (get_or lineages number None) → IsBlockInfo files number info
  is_info number b info at h e =
      let long : number < length places = (let n = ap length ending.stand ∙ length_places files in omega arith) in
      subst (IsBlockInfo files number)
      (sym (e ∙ ap (λ (p : BlockPlace). info_of p (get_or lineages number None)) (place_here number b at long) ∙ ap (info_of (place_of b)) (lineage_here number h)))
      (record { at = b; found = at; file = refl; item = refl; lineage = (ends_exactly files number).ends (ending.end number h) })

  each_info : (blocks : List BlockInfo) → AreInfos places lineages (length places) blocks → (number : ℕ) (info : BlockInfo) → slice_get blocks number ≡ Some info → IsBlockInfo files number info
  each_info blocks are number info e =
      let within = slice_get_within blocks number info e in
      let n = are.count in
      let m = ap length ending.stand ∙ length_places files in
      let inside : number < length (blocks_of files) = omega arith in
      let both : Some info ≡ Some (info_of (get_or places number no_place) (get_or lineages number None)) = sym e ∙ are.each number (omega arith) in
      let same : info ≡ info_of (get_or places number no_place) (get_or lineages number None) = cc in
      elim (slice_get_cases (blocks_of files) number).1 [
        | inl x ↦ is_info number x.0 info x.2 inside same
        | inr x ↦ (let past = x.0 in absurd (omega arith))
      ]

  pub are_blocks : (blocks : List BlockInfo) → AreInfos places lineages (length places) blocks → AreBlocks files blocks
  are_blocks blocks are = record { count = are.count ∙ ap length ending.stand ∙ length_places files; each = each_info blocks are }
