-- Places of blocks.
use Rattle.std.proofs.Common.{◌≡◌, ◌<◌, ℕ, zero, suc, ◌+◌, List, [], ◌∷◌, ◌++◌, Some, refl, sym, ap, ◌∙◌, subst, arith, inl, inr, length, get_or}
use Rattle.std.specs.Prelude.{map, slice_get}
use Rattle.std.specs.List.{flat_map, AllByRecursion}
use Rattle.std.specs.Option.{option_map, option_and_then}
use Rattle.std.proofs.lemmas.List.{map-append, length-map, get_or_default}
use Rattle.std.proofs.lemmas.Option.{slice_get-map, slice_get_cases, slice_get_read, get_or_from_slice_get}
use Rattle.ato_ast.specs.declared.blocks.Item.{Item}
use Rattle.ato_ast.specs.declared.blocks.Item.TheVariants as item
use Rattle.ato_files.specs.declared.program.SourceFile.{SourceFile}
use Rattle.ato_files.specs.declared.block_places.BlockPlace.{BlockPlace}
use Rattle.ato_files.specs.Lists.{numbered}
use Rattle.ato_files.specs.Blocks.{BlockAt, item_block, blocks_of, block_of}
use Rattle.ato_files.specs.BlockPlaces.{place_of, file_places, places_of, block_at, block_in}
use Rattle.ato_files.proofs.NumberedLemmas.{flat_map_map}

-- the places of files with their numbers are those of their blocks
file_places_are : (files : List (ℕ × SourceFile)) → file_places files ≡ map place_of (flat_map (λ f. flat_map (λ i. item_block f.0 i.0 i.1) (numbered 0 f.1.tree.items)) files)
file_places_are [] = refl
file_places_are (f ∷ files) =
    ap (λ ys. ys ++ file_places files) (flat_map_map place_of (λ (i : ℕ × Item). item_block f.0 i.0 i.1) (numbered 0 f.1.tree.items))
    ∙ ap (λ ys. map place_of (flat_map (λ (i : ℕ × Item). item_block f.0 i.0 i.1) (numbered 0 f.1.tree.items)) ++ ys) (file_places_are files)
    ∙ sym (map-append place_of _ _)

pub all_places : (files : List SourceFile) → file_places (numbered 0 files) ≡ places_of files
all_places files = file_places_are (numbered 0 files)

pub length_places : (files : List SourceFile) → length (places_of files) ≡ length (blocks_of files)
length_places files = length-map (blocks_of files) place_of

pub place_at : (files : List SourceFile) (number : ℕ) → slice_get (places_of files) number ≡ option_map place_of (block_of files number)
place_at files number = slice_get-map place_of (blocks_of files) number

-- ---- at the place of a block stands the block

pub all_append : {A : Type 0} (P : A → Type 0) (xs ys : List A) → AllByRecursion P xs → AllByRecursion P ys → AllByRecursion P (xs ++ ys)
all_append P [] ys a b = b
all_append P (x ∷ xs) ys a b = (a.0, all_append P xs ys a.1 b)

pub all_flat : {X A : Type 0} (P : A → Type 0) (Q : X → Type 0) (f : X → List A) → ((x : X) → Q x → AllByRecursion P (f x)) → (xs : List X) → AllByRecursion Q xs → AllByRecursion P (flat_map f xs)
all_flat P Q f step [] h = tt
all_flat P Q f step (x ∷ xs) h = all_append P (f x) (flat_map f xs) (step x h.0) (all_flat P Q f step xs h.1)

pub all_at : {A : Type 0} (P : A → Type 0) (xs : List A) (i : ℕ) (x : A) → AllByRecursion P xs → slice_get xs i ≡ Some x → P x
all_at P [] i x h e = cc
all_at P (y ∷ xs) zero x h e = let same : y ≡ x = cc in subst P same h.0
all_at P (y ∷ xs) (suc i) x h e = all_at P xs i x h.1 e

-- each item has its own number
numbered_each : {X : Type 0} (all : List X) (n : ℕ) (xs : List X) → ((i : ℕ) → slice_get all (n + i) ≡ slice_get xs i) → AllByRecursion (λ (p : ℕ × X). slice_get all p.0 ≡ Some p.1) (numbered n xs)
numbered_each all n [] same = tt
numbered_each all n (x ∷ xs) same = (
  (let e : n + 0 ≡ n = omega arith in subst (λ m. slice_get all m ≡ Some x) e (same 0)),
  numbered_each all (suc n) xs (λ i. let e : n + suc i ≡ suc n + i = omega arith in subst (λ m. slice_get all m ≡ slice_get xs i) e (same (suc i))),
)

pub own_numbers : {X : Type 0} (xs : List X) → AllByRecursion (λ (p : ℕ × X). slice_get xs p.0 ≡ Some p.1) (numbered 0 xs)
own_numbers xs = numbered_each xs 0 xs (λ i. let e : 0 + i ≡ i = omega arith in ap (slice_get xs) e)

module _ (files : List SourceFile) where
  IsThere : BlockAt → Type 0
  IsThere b = block_at files (place_of b) ≡ Some b.block

  there_item : (n : ℕ) (file : SourceFile) → slice_get files n ≡ Some file → (i : ℕ) (x : Item) → slice_get file.tree.items i ≡ Some x → AllByRecursion IsThere (item_block n i x)
  unfolding IsThere
  there_item n file e i (item.Heads line) h = tt
  there_item n file e i (item.Block block) h = (
    ap (option_and_then (λ (f : SourceFile). option_and_then block_in (slice_get f.tree.items i))) e ∙ ap (option_and_then block_in) h,
    tt,
  )

  there : AllByRecursion IsThere (blocks_of files)
  there = all_flat IsThere (λ (f : ℕ × SourceFile). slice_get files f.0 ≡ Some f.1) (λ (f : ℕ × SourceFile). flat_map (λ i. item_block f.0 i.0 i.1) (numbered 0 f.1.tree.items))
      (λ f e. all_flat IsThere (λ (i : ℕ × Item). slice_get f.1.tree.items i.0 ≡ Some i.1) (λ (i : ℕ × Item). item_block f.0 i.0 i.1) (λ i h. there_item f.0 f.1 e i.0 i.1 h)
      (numbered 0 f.1.tree.items) (own_numbers f.1.tree.items))
      (numbered 0 files) (own_numbers files)

  pub stands_there : (number : ℕ) (b : BlockAt) → block_of files number ≡ Some b → block_at files (place_of b) ≡ Some b.block
  unfolding IsThere
  stands_there number b e = all_at IsThere (blocks_of files) number b there e

-- The block of a number, at a place that was read.
pub record Here (files : List SourceFile) (number : ℕ) (place : BlockPlace) : Type 0 where
  pub b : BlockAt
  pub at : block_of files number ≡ Some b
  pub same : place ≡ place_of b
  pub there : block_at files place ≡ Some b.block
  pub within : number < length (blocks_of files)
  pub read : (d : BlockAt) → get_or (blocks_of files) number d ≡ b

pub here : (files : List SourceFile) (places : List BlockPlace) (number : ℕ) (place : BlockPlace) → places ≡ places_of files → number < length places → place ≡ get_or places number place
    → Here files number place
here files places number place are h read = elim (slice_get_cases (blocks_of files) number).1 [
  | inl x ↦ (
      let at_place : slice_get places number ≡ Some place = slice_get_read places (length places) number place refl h read in
      let both : Some place ≡ Some (place_of x.0) = sym at_place ∙ ap (λ ps. slice_get ps number) are ∙ place_at files number ∙ ap (option_map place_of) x.2 in
      let same : place ≡ place_of x.0 = cc in
      record {
        b = x.0;
        at = x.2;
        same = same;
        there = ap (block_at files) same ∙ stands_there files number x.0 x.2;
        within = x.1;
        read = λ d. get_or_from_slice_get (blocks_of files) number x.0 d x.2;
      })
  | inr x ↦ (let long = ap length are ∙ length_places files in let past = x.0 in absurd (omega (arith, long, past, h)))
]

pub here_read : (files : List SourceFile) (places : List BlockPlace) (number : ℕ) (d : BlockPlace) → places ≡ places_of files → number < length places → Here files number (get_or places number d)
here_read files places number d are h = here files places number (get_or places number d) are h (get_or_default places number d (get_or places number d) h)
