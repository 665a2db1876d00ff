-- What is kept of imports and of meanings.
use Rattle.std.proofs.Common.{◌≡◌, ◌<◌, ℕ, zero, suc, ◌+◌, Bool, true, false, ◌&&◌, cond, nat_eq, List, [], ◌∷◌, ◌++◌, Option, Some, None, refl, sym, ap, ◌∙◌, subst, arith, length, take, get_or}
use Rattle.std.specs.Prelude.{map, find, slice_get, is_some, option_to_list, ◌||◌}
use Rattle.std.specs.List.{flat_map, list_any}
use Rattle.std.specs.Option.{option_or, option_map, option_and_then}
use Rattle.std.specs.Map.{lookup}
use Rattle.std.specs.Cmp.{nat_eq_equiv}
use Rattle.std.proofs.lemmas.Bool.{eqb-true}
use Rattle.std.proofs.lemmas.List.{map_more, append_assoc}
use Rattle.std.proofs.lemmas.Option.{slice_get-map}
use Rattle.ato_ast.specs.declared.names.Named.{Named}
use Rattle.ato_ast.specs.declared.names.Quoted.{Quoted}
use Rattle.ato_files.specs.declared.program.SourceFile.{SourceFile}
use Rattle.ato_files.specs.declared.meanings.Meanings.{Meanings}
use Rattle.ato_files.specs.declared.name_map.NameMap.{NameMap}
use Rattle.ato_files.specs.Lists.{numbered}
use Rattle.ato_files.specs.Blocks.{BlockAt, blocks_of, imports_of, imported, is_known, own, meaning}
use Rattle.ato_files.specs.NameMaps.{same_key, held, AreFirst}
use Rattle.ato_files.specs.Meant.{joined, own_pairs, import_pair, file_pairs, import_pairs, targets_in, target, found, taken, known, own_pair, AreMeanings}
use Rattle.ato_files.proofs.NameMapLemmas.{lookup-append}
use Rattle.ato_files.proofs.OwnLemmas.{own_found}

joined_map : {X : Type 0} (f : X → Option ℕ) (o : Option X) → joined (option_map f o) ≡ option_and_then f o
joined_map f None = refl
joined_map f (Some x) = refl

or_none : {X : Type 0} (o : Option X) → option_or o None ≡ o
or_none None = refl
or_none (Some x) = refl

not_same : (x y : ℕ) → (x ≡ y → ⊥) → nat_eq x y ≡ false
not_same x y h = by (nat_eq x y) refl
  where
    by : (b : Bool) → nat_eq x y ≡ b → b ≡ false
    by true e = absurd (h (eqb-true x y e))
    by false e = refl

-- ---- the first import of a name

abbrev named : ℕ → Named × Option Quoted → Bool
named name import = nat_eq import.0.name.0 name

module _ (files : List SourceFile) where
  in_file : (file number name : ℕ) (x : SourceFile) (imports : List (Named × Option Quoted)) → nat_eq file number ≡ true
      → lookup (same_key (file, name)) (map (import_pair files number x) imports) ≡ option_map (imported files x) (find (named name) imports)
  in_file file number name x [] e = refl
  in_file file number name x (i ∷ imports) e =
      ap (λ b. cond (b && nat_eq name i.0.name.0) (Some (imported files x i)) (lookup (same_key (file, name)) (map (import_pair files number x) imports))) e
      ∙ ap (λ b. cond b (Some (imported files x i)) (lookup (same_key (file, name)) (map (import_pair files number x) imports))) (nat_eq_equiv.symm name i.0.name.0)
      ∙ by (named name i) (in_file file number name x imports e)
    where
      by : (b : Bool) → lookup (same_key (file, name)) (map (import_pair files number x) imports) ≡ option_map (imported files x) (find (named name) imports)
          → cond b (Some (imported files x i)) (lookup (same_key (file, name)) (map (import_pair files number x) imports)) ≡ option_map (imported files x) (cond b (Some i) (find (named name) imports))
      by true h = refl
      by false h = h

  elsewhere : (file number name : ℕ) (x : SourceFile) (imports : List (Named × Option Quoted)) → nat_eq file number ≡ false
      → lookup (same_key (file, name)) (map (import_pair files number x) imports) ≡ None
  elsewhere file number name x [] e = refl
  elsewhere file number name x (i ∷ imports) e =
      ap (λ b. cond (b && nat_eq name i.0.name.0) (Some (imported files x i)) (lookup (same_key (file, name)) (map (import_pair files number x) imports))) e
      ∙ elsewhere file number name x imports e

  none_before : (file name k : ℕ) (xs : List SourceFile) → file < k → lookup (same_key (file, name)) (flat_map (file_pairs files) (numbered k xs)) ≡ None
  none_before file name k [] h = refl
  none_before file name k (x ∷ xs) h =
      lookup-append (same_key (file, name)) (file_pairs files (k, x)) (flat_map (file_pairs files) (numbered (suc k) xs))
      ∙ ap (λ o. option_or o (lookup (same_key (file, name)) (flat_map (file_pairs files) (numbered (suc k) xs)))) (elsewhere file k name x (imports_of x) (not_same file k (λ e. omega arith)))
      ∙ none_before file name (suc k) xs (omega arith)

  abbrev import_in : ℕ → SourceFile → Option (Option ℕ)
  import_in name x = option_map (imported files x) (find (named name) (imports_of x))

  at_file : (file name k j : ℕ) (xs : List SourceFile) → file ≡ k + j → lookup (same_key (file, name)) (flat_map (file_pairs files) (numbered k xs)) ≡ option_and_then (import_in name) (slice_get xs j)
  at_file file name k j [] e = refl
  at_file file name k zero (x ∷ xs) e =
      lookup-append (same_key (file, name)) (file_pairs files (k, x)) (flat_map (file_pairs files) (numbered (suc k) xs))
      ∙ ap (option_or (lookup (same_key (file, name)) (file_pairs files (k, x)))) (none_before file name (suc k) xs (omega arith))
      ∙ or_none (lookup (same_key (file, name)) (file_pairs files (k, x)))
      ∙ in_file file k name x (imports_of x) (let same : k ≡ file = omega arith in ap (nat_eq file) same ∙ nat_eq_equiv.refl file)
  at_file file name k (suc j) (x ∷ xs) e =
      lookup-append (same_key (file, name)) (file_pairs files (k, x)) (flat_map (file_pairs files) (numbered (suc k) xs))
      ∙ ap (λ o. option_or o (lookup (same_key (file, name)) (flat_map (file_pairs files) (numbered (suc k) xs)))) (elsewhere file k name x (imports_of x) (not_same file k (λ same. omega arith)))
      ∙ at_file file name (suc k) j xs (omega arith)

  join_in : (name : ℕ) (o : Option SourceFile) → joined (option_and_then (import_in name) o) ≡ option_and_then (λ f. option_and_then (imported files f) (find (named name) (imports_of f))) o
  join_in name None = refl
  join_in name (Some x) = joined_map (imported files x) (find (named name) (imports_of x))

  -- what is kept is the meaning
  pub meaning_found : (m : Meanings) → AreFirst (own_pairs files) m.own → AreFirst (import_pairs files) m.imported → (file name : ℕ) → found m file name ≡ meaning files file name
  meaning_found m first second file name =
      ap (λ o. option_or (joined o) (joined (held m.imported file name))) (first file name)
      ∙ ap (λ o. option_or o (joined (held m.imported file name))) (own_found files file name)
      ∙ ap (λ o. option_or (own files file name) (joined o)) (second file name ∙ at_file file name 0 file files (omega arith))
      ∙ ap (option_or (own files file name)) (join_in name (slice_get files file))

  -- ---- which names a file has

  some_found : (f : Named × Option Quoted → Option ℕ) (p : Named × Option Quoted → Bool) (imports : List (Named × Option Quoted)) → is_some (option_map f (find p imports)) ≡ list_any p imports
  some_found f p [] = refl
  some_found f p (i ∷ imports) = by (p i) (some_found f p imports)
    where
      by : (b : Bool) → is_some (option_map f (find p imports)) ≡ list_any p imports → is_some (option_map f (cond b (Some i) (find p imports))) ≡ (b || list_any p imports)
      by true e = refl
      by false e = e

  some_in : (name : ℕ) (o : Option SourceFile) → is_some (option_and_then (import_in name) o) ≡ list_any (λ f. list_any (named name) (imports_of f)) (option_to_list o)
  some_in name None = refl
  some_in name (Some x) = some_found (imported files x) (named name) (imports_of x) ∙ or_nothing (list_any (named name) (imports_of x))
    where
      or_nothing : (b : Bool) → b ≡ (b || false)
      or_nothing true = refl
      or_nothing false = refl

  some_own : (file name : ℕ) (o : Option (Option ℕ)) → joined o ≡ own files file name → (o ≡ Some None → ⊥) → is_some o ≡ is_some (own files file name)
  some_own file name None e h = ap is_some e
  some_own file name (Some None) e h = absurd (h refl)
  some_own file name (Some (Some b)) e h = ap is_some e

  -- no own block is held as nothing
  never_nothing : (key : ℕ × ℕ) (bs : List (ℕ × BlockAt)) → lookup (same_key key) (map own_pair bs) ≡ Some None → ⊥
  never_nothing key [] e = cc
  never_nothing key (b ∷ bs) e = by (same_key key (own_pair b).0) (λ f. never_nothing key bs f) e
    where
      by : (v : Bool) → (lookup (same_key key) (map own_pair bs) ≡ Some None → ⊥) → cond v (Some (Some b.0)) (lookup (same_key key) (map own_pair bs)) ≡ Some None → ⊥
      by true more e = cc
      by false more e = more e

  -- what is kept of a name is whether the file has it
  pub name_known : (m : Meanings) → AreFirst (own_pairs files) m.own → AreFirst (import_pairs files) m.imported → (file name : ℕ) → known m file name ≡ is_known files file name
  name_known m first second file name =
      ap (λ b. b || is_some (held m.imported file name))
      (some_own file name (held m.own file name) (ap joined (first file name) ∙ own_found files file name) (λ e. never_nothing (file, name) (numbered 0 (blocks_of files)) (sym (first file name) ∙ e)))
      ∙ ap (λ o. is_some (own files file name) || is_some o) (second file name ∙ at_file file name 0 file files (omega arith))
      ∙ ap (λ b. is_some (own files file name) || b) (some_in name (slice_get files file))

  -- ---- what imports take

  taken_in : (import : ℕ) (x : SourceFile) → joined (slice_get (targets_in files x) import) ≡ option_and_then (imported files x) (slice_get (imports_of x) import)
  taken_in import x = ap joined (slice_get-map (imported files x) (imports_of x) import) ∙ joined_map (imported files x) (slice_get (imports_of x) import)

  taken_of : (import : ℕ) (o : Option SourceFile)
      → option_and_then (λ ts. joined (slice_get ts import)) (option_map (targets_in files) o) ≡ option_and_then (λ f. option_and_then (imported files f) (slice_get (imports_of f) import)) o
  taken_of import None = refl
  taken_of import (Some x) = taken_in import x

  pub target_taken : (m : Meanings) → m.targets ≡ map (targets_in files) files → (file import : ℕ) → taken m file import ≡ target files file import
  target_taken m e file import =
      ap (λ ts. option_and_then (λ ts. joined (slice_get ts import)) (slice_get ts file)) e
      ∙ ap (option_and_then (λ ts. joined (slice_get ts import))) (slice_get-map (targets_in files) files file)
      ∙ taken_of import (slice_get files file)

  pub are_meanings : (m : Meanings) → AreFirst (own_pairs files) m.own → AreFirst (import_pairs files) m.imported → m.targets ≡ map (targets_in files) files → AreMeanings files m
  are_meanings m first second e = record { names = name_known m first second; meant = meaning_found m first second; targets = target_taken m e }

-- one more behind
pub mapped_more : {X Y : Type 0} (f : X → Y) (start : List Y) (xs : List X) (i : ℕ) (d : X) → i < length xs → start ++ map f (take (i + 1) xs) ≡ (start ++ map f (take i xs)) ++ f (get_or xs i d) ∷ []
mapped_more f start xs i d h = ap (λ ys. start ++ ys) (map_more f xs i d h) ∙ sym (append_assoc start (map f (take i xs)) (f (get_or xs i d) ∷ []))

-- the same for an item that was read
pub mapped_read : {X Y : Type 0} (f : X → Y) (xs : List X) (i : ℕ) (x : X) (before after : List Y) → i < length xs → x ≡ get_or xs i x
    → before ≡ map f (take i xs) → after ≡ before ++ f x ∷ [] → after ≡ map f (take (i + 1) xs)
mapped_read f xs i x before after h read was now =
    now ∙ ap (λ ys. ys ++ f x ∷ []) was ∙ ap (λ y. map f (take i xs) ++ f y ∷ []) read ∙ sym (map_more f xs i x h)

-- ---- one import more

abbrev pub no_import : Named × Option Quoted
no_import = (record { name = record { 0 = 0 }; at = record { file = record { 0 = 0 }; start = 0; end = 0 } }, None)

module _ (files : List SourceFile) (file : SourceFile) (imports : List (Named × Option Quoted)) (i : ℕ) (d : Named × Option Quoted) (t : Option ℕ)
    (h : i < length imports) (is : t ≡ imported files file (get_or imports i d)) where
  pub targets_more : (before after : List (Option ℕ)) → before ≡ map (imported files file) (take i imports) → after ≡ before ++ t ∷ [] → after ≡ map (imported files file) (take (i + 1) imports)
  targets_more before after was now =
      now ∙ ap (λ ys. ys ++ t ∷ []) was ∙ ap (λ y. map (imported files file) (take i imports) ++ y ∷ []) is ∙ sym (map_more (imported files file) imports i d h)

  pub imports_more : (number : ℕ) (pairs : List ((ℕ × ℕ) × Option ℕ)) (m : NameMap)
      → AreFirst ((pairs ++ map (import_pair files number file) (take i imports)) ++ ((number, (get_or imports i d).0.name.0), t) ∷ []) m
      → AreFirst (pairs ++ map (import_pair files number file) (take (i + 1) imports)) m
  imports_more number pairs m are =
      subst (λ ps. AreFirst ps m) (sym (mapped_more (import_pair files number file) pairs imports i d h))
      (subst (λ (o : Option ℕ). AreFirst ((pairs ++ map (import_pair files number file) (take i imports)) ++ ((number, (get_or imports i d).0.name.0), o) ∷ []) m) is are)
