-- What the statements of a type make and replace, statement by statement.
use Rattle.std.proofs.Common.{◌≡◌, ◌<◌, ◌≤◌, ℕ, suc, ◌+◌, Bool, true, false, List, [], ◌∷◌, ◌++◌, map, Option, Some, None, refl, sym, ap, ◌∙◌, subst, length, append_assoc, append-nil, arith, inl, inr, get_or, take}
use Rattle.std.specs.Prelude.{slice_get, option_to_list, if◌then◌else◌, ◌==◌, ◌⊎◌, is_none}
use Rattle.std.specs.List.{flat_map}
use Rattle.std.specs.Option.{option_and_then, option_or}
use Rattle.std.proofs.lemmas.Option.{slice_get_cases, slice_get_past, none-some}
use Rattle.std.proofs.lemmas.Grind.{flat_map-append}
use Rattle.std.proofs.lemmas.List.{map-append, take_more}
use Rattle.ato_base.specs.declared.places.Span.{Span}
use Rattle.ato_ast.specs.declared.names.Named.{Named}
use Rattle.ato_ast.specs.declared.paths.Path.{Path}
use Rattle.ato_files.specs.declared.program.SourceFile.{SourceFile}
use Rattle.ato_files.specs.declared.program.BlockInfo.{BlockInfo}
use Rattle.ato_files.specs.Blocks.{BlockAt, blocks_of, block_of, meaning, meaning_in}
use Rattle.ato_files.specs.Lists.{first_of_all}
use Rattle.ato_files.specs.Programs.{AreBlocks}
use Rattle.ato_instance_tree.specs.Types.{Located, meant}
use Rattle.ato_instance_tree.specs.Walk as walk
use Rattle.ato_elab.specs.declared.changes.Change.{Change}
use Rattle.ato_elab.specs.declared.changes.Changes.{Changes}
use Rattle.ato_elab.specs.declared.news.News.{News}
use Rattle.ato_elab.specs.Waiting.{Waits, waits_in, waits_of}
use Rattle.ato_elab.specs.Changes.{seen, AreChanges}
use Rattle.ato_elab.specs.Ways.{AreNews, kept}
use Rattle.ato_elab.proofs.SettleLemmas.{no_block}

-- ---- meanings

pub meant_at : (files : List SourceFile) (blocks : List BlockInfo) (block name : ℕ) (info : BlockInfo) → AreBlocks files blocks → slice_get blocks block ≡ Some info → meaning files info.file.0 name ≡ meaning_in files block name
meant_at files blocks block name info are e = let i = are.each block info e in
    ap (λ (x : ℕ). meaning files x name) i.file ∙ sym (ap (option_and_then (λ (b : BlockAt). meaning files b.file name)) i.found)

pub meant_past : (files : List SourceFile) (blocks : List BlockInfo) (block name : ℕ) → AreBlocks files blocks → slice_get blocks block ≡ None → None ≡ meaning_in files block name
meant_past files blocks block name are e = sym (ap (option_and_then (λ (b : BlockAt). meaning files b.file name)) (no_block files blocks block are e))

-- ---- items one by one

pub map_take : {X Y : Type 0} (f : X → Y) (ys : List Y) (xs : List X) (i : ℕ) (x : X) → i < length xs → x ≡ get_or xs i x → (ys ++ map f (take i xs)) ++ f x ∷ [] ≡ ys ++ map f (take (i + 1) xs)
map_take f ys xs i x h e =
    append_assoc ys (map f (take i xs)) (f x ∷ [])
    ∙ ap (λ z. ys ++ z) (sym (map-append f (take i xs) (x ∷ [])) ∙ ap (map f) (ap (λ z. take i xs ++ z ∷ []) e ∙ sym (take_more xs i x h)))

pub flat_take : {X Y Z : Type 0} (g : Y → List Z) (f : X → Y) (zs : List Z) (xs : List X) (i : ℕ) (x : X) → i < length xs → x ≡ get_or xs i x
    → (zs ++ flat_map g (map f (take i xs))) ++ g (f x) ≡ zs ++ flat_map g (map f (take (i + 1) xs))
flat_take g f zs xs i x h e =
    append_assoc zs (flat_map g (map f (take i xs))) (g (f x))
    ∙ ap (λ z. zs ++ (flat_map g (map f (take i xs)) ++ z)) (sym (append-nil (g (f x))))
    ∙ ap (λ z. zs ++ z) (sym (flat_map-append g (map f (take i xs)) (f x ∷ [])) ∙ ap (flat_map g) (map_take f [] xs i x h e))

pub map_at : {X Y : Type 0} (f : X → Y) (ys : List Y) (xs : List X) (i : ℕ) (d : X) → i < length xs → (ys ++ map f (take i xs)) ++ f (get_or xs i d) ∷ [] ≡ ys ++ map f (take (i + 1) xs)
map_at f ys xs i d h =
    append_assoc ys (map f (take i xs)) (f (get_or xs i d) ∷ [])
    ∙ ap (λ z. ys ++ z) (sym (map-append f (take i xs) (get_or xs i d ∷ [])) ∙ ap (map f) (sym (take_more xs i d h)))
