-- The entry block is the one that its name means in the entry file, where it stands in this file.
use Rattle.std.proofs.Common.{◌≡◌, ◌<◌, ℕ, Bool, true, false, ◌&&◌, cond, nat_eq, List, [], ◌∷◌, Option, Some, None, refl, sym, ap, ◌∙◌, true≢false, zero, suc, arith}
use Rattle.std.specs.Prelude.{slice_get, position, find, length, get_or}
use Rattle.std.specs.Option.{option_and_then, option_or}
use Rattle.std.specs.Str.{bytes_eq}
use Rattle.std.proofs.lemmas.Bool.{eqb-true}
use Rattle.std.proofs.lemmas.List.Quantifiers.{position-Some}
use Rattle.ato_ast.specs.declared.names.Named.{Named}
use Rattle.ato_ast.specs.declared.names.Quoted.{Quoted}
use Rattle.ato_files.specs.declared.program.SourceFile.{SourceFile}
use Rattle.ato_files.specs.declared.program.BlockInfo.{BlockInfo}
use Rattle.ato_files.specs.declared.program.Program.{Program}
use Rattle.ato_files.specs.Blocks.{BlockAt, blocks_of, block_of, own, imports_of, import_file, imported, meaning}
use Rattle.ato_files.specs.Programs.{AreBlocks, found_block}
use Rattle.ato_files.proofs.AncestorLemmas.{meaning_within}
use Rattle.ato_instance_tree.specs.Elaborated.{entry_of}
use Rattle.ato_instance_tree.proofs.ParentLaws.{item_there}

-- ---- lists

position_holds : {X : Type 0} (p : X → Bool) (xs : List X) (n : ℕ) (x : X) → position p xs ≡ Some n → slice_get xs n ≡ Some x → p x ≡ true
position_holds p xs n x e at = let h = position-Some p xs n x e in sym (ap p (got xs n x at)) ∙ h.1
  where
    got : {X : Type 0} (xs : List X) (n : ℕ) (x : X) → slice_get xs n ≡ Some x → get_or xs n x ≡ x
    got [] n x at = cc
    got (y ∷ ys) zero x at = cc
    got (y ∷ ys) (suc n) x at = got ys n x at

find_holds : {X : Type 0} (p : X → Bool) (xs : List X) (x : X) → find p xs ≡ Some x → p x ≡ true
find_holds p [] x e = absurd (cc)
find_holds p (y ∷ xs) x e = by (p y) refl e (find_holds p xs x)
  where
    by : (b : Bool) → p y ≡ b → cond b (Some y) (find p xs) ≡ Some x → (find p xs ≡ Some x → p x ≡ true) → p x ≡ true
    by true t f more = let same : y ≡ x = cc in sym (ap p same) ∙ t
    by false t f more = more f

both_hold : (a b : Bool) → (a && b) ≡ true → a ≡ true
both_hold true b e = refl
both_hold false b e = e

-- ---- where blocks stand

own_file : (files : List SourceFile) (file name block : ℕ) (at : BlockAt) → own files file name ≡ Some block → block_of files block ≡ Some at → at.file ≡ file
own_file files file name block at e there = eqb-true at.file file (both_hold (nat_eq at.file file) (nat_eq at.block.name.name.0 name)
    (position_holds (λ (b : BlockAt). nat_eq b.file file && nat_eq b.block.name.name.0 name) (blocks_of files) block at e there))

-- what an import of a name takes from a file that has no block of the name is in another file
module _ (files : List SourceFile) (name block : ℕ) (at : BlockAt) (there : block_of files block ≡ Some at) (none : own files 1 name ≡ None) where
  from_file : (n : ℕ) → n ≡ name → (from : Option ℕ) → option_and_then (λ from. own files from n) from ≡ Some block → nat_eq at.file 1 ≡ false
  from_file n same None e = cc
  from_file n same (Some from) e = by (nat_eq at.file 1) refl
    where
      by : (b : Bool) → nat_eq at.file 1 ≡ b → b ≡ false
      by false t = refl
      by true t = let f : from ≡ 1 = sym (own_file files from n block at e there) ∙ eqb-true at.file 1 t in
          absurd (true≢false (ap some_to_bool (sym (ap (λ (k : ℕ). own files k n) (sym f) ∙ e) ∙ ap (own files 1) same ∙ none)))
        where
          some_to_bool : Option ℕ → Bool
          some_to_bool None = false
          some_to_bool (Some x) = true

  imported_file : (file : SourceFile) (found : Option (Named × Option Quoted)) → ((import : Named × Option Quoted) → found ≡ Some import → import.0.name.0 ≡ name)
      → option_and_then (imported files file) found ≡ Some block → nat_eq at.file 1 ≡ false
  imported_file file None named e = cc
  imported_file file (Some import) named e = from_file import.0.name.0 (named import refl) (import_file files file import.1) e

  in_file : (file : Option SourceFile) → option_and_then (λ f. option_and_then (imported files f) (find (λ import. nat_eq import.0.name.0 name) (imports_of f))) file ≡ Some block → nat_eq at.file 1 ≡ false
  in_file None e = cc
  in_file (Some f) e = imported_file f (find (λ import. nat_eq import.0.name.0 name) (imports_of f))
      (λ import found. eqb-true import.0.name.0 name (find_holds (λ (i : Named × Option Quoted). nat_eq i.0.name.0 name) (imports_of f) import found)) e

-- ---- the entry block

-- what an import of the entry file takes for a name
abbrev taken : List SourceFile → ℕ → Option ℕ
taken files name = option_and_then (λ f. option_and_then (imported files f) (find (λ import. nat_eq import.0.name.0 name) (imports_of f))) (slice_get files 1)

own_none : (o p : Option ℕ) → option_or o p ≡ None → o ≡ None
own_none None p e = refl
own_none (Some b) p e = cc

-- the block that a name means is the file's own where it stands in the file
own_where : (files : List SourceFile) (name block : ℕ) (at : BlockAt) → meaning files 1 name ≡ Some block → block_of files block ≡ Some at
    → own files 1 name ≡ cond (nat_eq at.file 1) (Some block) None
own_where files name block at e there = by (own files 1 name) refl
  where
    by : (o : Option ℕ) → own files 1 name ≡ o → own files 1 name ≡ cond (nat_eq at.file 1) (Some block) None
    by (Some b) f = let same : own files 1 name ≡ Some block = f ∙ sym (ap (λ (o : Option ℕ). option_or o (taken files name)) f) ∙ e in
        same ∙ sym (ap (λ (k : ℕ). cond (nat_eq k 1) (Some block) None) (own_file files 1 name block at same there))
    by None f = f ∙ sym (ap (λ (b : Bool). cond b (Some block) None) (in_file files name block at there f (slice_get files 1)
        (sym (ap (λ (o : Option ℕ). option_or o (taken files name)) f) ∙ e)))

entry_by : (files : List SourceFile) (n : Option ℕ) → option_and_then (meaning files 1) n ≡ None → option_and_then (own files 1) n ≡ None
entry_by files None e = refl
entry_by files (Some name) e = own_none (own files 1 name) (taken files name) e

entry_where : (files : List SourceFile) (n : Option ℕ) (block : ℕ) (at : BlockAt) → option_and_then (meaning files 1) n ≡ Some block → block_of files block ≡ Some at
    → option_and_then (own files 1) n ≡ cond (nat_eq at.file 1) (Some block) None
entry_where files None block at e there = cc
entry_where files (Some name) block at e there = own_where files name block at e there

found_within : (files : List SourceFile) (n : Option ℕ) (block : ℕ) → option_and_then (meaning files 1) n ≡ Some block → block < length (blocks_of files)
found_within files None block e = absurd (cc)
found_within files (Some name) block e = meaning_within files 1 name block e

apart : (a b : ℕ) → (a ≡ b → ⊥) → nat_eq a b ≡ false
apart a b h = by (nat_eq a b) refl
  where
    by : (t : Bool) → nat_eq a b ≡ t → t ≡ false
    by false e = refl
    by true e = absurd (h (eqb-true a b e))

module _ (program : Program) (text : List ℕ) where
  pub unknown : found_block program 1 text ≡ None → entry_of program text ≡ None
  unknown e = entry_by program.files (position (bytes_eq text) program.names) e

  known : AreBlocks program.files program.blocks → (block : ℕ) (info : BlockInfo) → found_block program 1 text ≡ Some block → slice_get program.blocks block ≡ Some info
      → entry_of program text ≡ cond (nat_eq info.file.0 1) (Some block) None
  known blocks block info e there = let is = blocks.each block info there in
      entry_where program.files (position (bytes_eq text) program.names) block is.at e is.found ∙ ap (λ (k : ℕ). cond (nat_eq k 1) (Some block) None) (sym is.file)

  pub here : AreBlocks program.files program.blocks → (block : ℕ) (info : BlockInfo) → found_block program 1 text ≡ Some block → slice_get program.blocks block ≡ Some info
      → info.file.0 ≡ 1 → Some block ≡ entry_of program text
  here blocks block info e there file = sym (known blocks block info e there ∙ ap (λ (k : ℕ). cond (nat_eq k 1) (Some block) None) file)

  pub away : AreBlocks program.files program.blocks → (block : ℕ) (info : BlockInfo) → found_block program 1 text ≡ Some block → slice_get program.blocks block ≡ Some info
      → (info.file.0 ≡ 1 → ⊥) → None ≡ entry_of program text
  away blocks block info e there file = sym (known blocks block info e there ∙ ap (λ (b : Bool). cond b (Some block) None) (apart info.file.0 1 file))

  pub listed : AreBlocks program.files program.blocks → (block : ℕ) → found_block program 1 text ≡ Some block → slice_get program.blocks block ≡ None → ⊥
  listed blocks block e none = let within = found_within program.files (position (bytes_eq text) program.names) block e in
      let same = blocks.count in
      let one = item_there program.blocks block (omega arith) in cc

or_first : (o p : Option ℕ) (block : ℕ) → o ≡ Some block → option_or o p ≡ Some block
or_first None p block e = cc
or_first (Some b) p block e = e

own_is_meant : (files : List SourceFile) (n : Option ℕ) (block : ℕ) → option_and_then (own files 1) n ≡ Some block → option_and_then (meaning files 1) n ≡ Some block
own_is_meant files None block e = cc
own_is_meant files (Some name) block e = or_first (own files 1 name) (taken files name) block e

pub entry_within : (program : Program) (text : List ℕ) (block : ℕ) → entry_of program text ≡ Some block → block < length (blocks_of program.files)
entry_within program text block e = let n = position (bytes_eq text) program.names in found_within program.files n block (own_is_meant program.files n block e)
