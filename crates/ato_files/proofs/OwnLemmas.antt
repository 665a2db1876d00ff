-- Own blocks, and what imports take.
use Rattle.std.proofs.Common.{◌≡◌, ◌<◌, ◌≤◌, ℕ, suc, ◌+◌, Bool, true, false, ◌&&◌, cond, nat_eq, List, [], ◌∷◌, ◌++◌, Option, Some, refl, sym, ap, ◌∙◌, add-one, length, take, get_or}
use Rattle.std.specs.Prelude.{map, position}
use Rattle.std.specs.List.{position_from}
use Rattle.std.specs.Map.{lookup}
use Rattle.std.specs.Cmp.{nat_eq_equiv}
use Rattle.std.proofs.lemmas.List.{map-append, take_all}
use Rattle.ato_ast.specs.declared.blocks.Block.{Block}
use Rattle.ato_files.specs.declared.program.SourceFile.{SourceFile}
use Rattle.ato_files.specs.declared.block_places.BlockPlace.{BlockPlace}
use Rattle.ato_files.specs.Lists.{numbered}
use Rattle.ato_files.specs.Blocks.{BlockAt, blocks_of, own}
use Rattle.ato_files.specs.BlockPlaces.{block_at}
use Rattle.ato_files.specs.NameMaps.{same_key}
use Rattle.ato_files.specs.Meant.{joined, own_pair, own_pairs}
use Rattle.ato_files.proofs.NumberedLemmas.{numbered_more}
use Rattle.ato_files.proofs.PositionLemmas.{position_is}
use Rattle.ato_files.proofs.PlaceLemmas.{Here}

-- the first pair of a key has the place of the first item of this key
module _ {X K : Type 0} (key : X → K) (test : K → Bool) (p : X → Bool) (same : (x : X) → test (key x) ≡ p x) where
  keyed : ℕ × X → K × Option ℕ
  keyed b = (key b.1, Some b.0)

  first_keyed : (k : ℕ) (xs : List X) → joined (lookup test (map keyed (numbered k xs))) ≡ position_from p k xs
  unfolding keyed
  first_keyed k [] = refl
  first_keyed k (x ∷ xs) = by (test (key x)) (p x) (same x) (first_keyed (suc k) xs ∙ ap (λ m. position_from p m xs) (sym (add-one k)))
    where
      by : (a b : Bool) → a ≡ b → joined (lookup test (map keyed (numbered (suc k) xs))) ≡ position_from p (k + 1) xs
          → joined (cond a (Some (Some k)) (lookup test (map keyed (numbered (suc k) xs)))) ≡ cond b (Some k) (position_from p (k + 1) xs)
      by true true e h = refl
      by false false e h = h
      by true false e h = cc
      by false true e h = cc

  pub first_is : (xs : List X) → joined (lookup test (map (λ (b : ℕ × X). (key b.1, Some b.0)) (numbered 0 xs))) ≡ position p xs
  unfolding keyed
  first_is xs = first_keyed 0 xs ∙ sym (position_is p xs)

-- what the first pair of a name holds is the file's own block
pub own_found : (files : List SourceFile) (file name : ℕ) → joined (lookup (same_key (file, name)) (own_pairs files)) ≡ own files file name
own_found files file name = first_is (λ (b : BlockAt). (b.file, b.block.name.name.0)) (same_key (file, name)) (λ (b : BlockAt). nat_eq b.file file && nat_eq b.block.name.name.0 name)
    (λ b. ap (λ v. v && nat_eq name b.block.name.name.0) (nat_eq_equiv.symm file b.file) ∙ ap (λ v. nat_eq b.file file && v) (nat_eq_equiv.symm name b.block.name.name.0))
    (blocks_of files)

-- ---- one block more

abbrev pub first_pairs : List SourceFile → ℕ → List ((ℕ × ℕ) × Option ℕ)
first_pairs files i = map own_pair (numbered 0 (take i (blocks_of files)))

one_pair : (files : List SourceFile) (i : ℕ) (b : BlockAt) → i < length (blocks_of files) → get_or (blocks_of files) i b ≡ b
    → first_pairs files (i + 1) ≡ first_pairs files i ++ ((b.file, b.block.name.name.0), Some i) ∷ []
one_pair files i b h read =
    ap (map own_pair) (numbered_more (blocks_of files) i b h)
    ∙ map-append own_pair (numbered 0 (take i (blocks_of files))) ((i, get_or (blocks_of files) i b) ∷ [])
    ∙ ap (λ (x : BlockAt). first_pairs files i ++ own_pair (i, x) ∷ []) read

named_pair : ℕ → BlockPlace → Block → (ℕ × ℕ) × Option ℕ
named_pair i place block = ((place.file, block.name.name.0), Some i)

pub pairs_more : (files : List SourceFile) (i : ℕ) (place : BlockPlace) (block : Block) → Here files i place → block_at files place ≡ Some block
    → first_pairs files (i + 1) ≡ first_pairs files i ++ ((place.file, block.name.name.0), Some i) ∷ []
unfolding named_pair
pairs_more files i place block h there =
    let both : Some block ≡ Some h.b.block = sym there ∙ h.there in
    let same : block ≡ h.b.block = cc in
    one_pair files i h.b h.within (h.read h.b)
    ∙ ap (λ (p : BlockPlace). first_pairs files i ++ named_pair i p h.b.block ∷ []) (sym h.same)
    ∙ ap (λ (b : Block). first_pairs files i ++ named_pair i place b ∷ []) (sym same)

pub all_pairs : (files : List SourceFile) (i : ℕ) → length (blocks_of files) ≤ i → first_pairs files i ≡ own_pairs files
all_pairs files i h = ap (λ bs. map own_pair (numbered 0 bs)) (take_all i (blocks_of files) h)
