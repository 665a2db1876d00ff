-- The block that a name means in a file is the file's own, where it stands in this file.
use Rattle.std.proofs.Common.{◌≡◌, ◌<◌, ℕ, Bool, true, false, ◌&&◌, cond, nat_eq, List, [], ◌∷◌, Option, Some, None, refl, sym, ap, ◌∙◌, true≢false, zero, suc}
use Rattle.std.specs.Prelude.{is_some, slice_get, position, find, get_or, length}
use Rattle.std.specs.Option.{option_and_then, option_or}
use Rattle.std.specs.Str.{bytes_eq}
use Rattle.std.proofs.lemmas.Bool.{eq-eqb, eqb-true}
use Rattle.std.proofs.lemmas.Option.{slice_get_read}
use Rattle.std.proofs.lemmas.List.Quantifiers.{position-Some}
use Rattle.ato_ast.specs.declared.names.Named.{Named}
use Rattle.ato_ast.specs.declared.names.Quoted.{Quoted}
use Rattle.ato_files.specs.declared.program.SourceFile.{SourceFile}
use Rattle.ato_files.specs.declared.program.BlockInfo.{BlockInfo}
use Rattle.ato_files.specs.declared.program.Program.{Program}
use Rattle.ato_files.specs.Blocks.{BlockAt, blocks_of, block_of, own, imports_of, import_file, imported, meaning}
use Rattle.ato_files.specs.Programs.{AreBlocks, found_block}

-- ---- lists

position_holds : {X : Type 0} (p : X → Bool) (xs : List X) (n : ℕ) (x : X) → position p xs ≡ Some n → slice_get xs n ≡ Some x → p x ≡ true
position_holds p xs n x e at = let h = position-Some p xs n x e in sym (ap p (got xs n x at)) ∙ h.1
  where
    got : {X : Type 0} (xs : List X) (n : ℕ) (x : X) → slice_get xs n ≡ Some x → get_or xs n x ≡ x
    got [] n x at = cc
    got (y ∷ ys) zero x at = cc
    got (y ∷ ys) (suc n) x at = got ys n x at

find_holds : {X : Type 0} (p : X → Bool) (xs : List X) (x : X) → find p xs ≡ Some x → p x ≡ true
find_holds p [] x e = absurd (cc)
find_holds p (y ∷ xs) x e = by (p y) refl e (find_holds p xs x)
  where
    by : (b : Bool) → p y ≡ b → cond b (Some y) (find p xs) ≡ Some x → (find p xs ≡ Some x → p x ≡ true) → p x ≡ true
    by true t f more = let same : y ≡ x = cc in sym (ap p same) ∙ t
    by false t f more = more f

both_hold : (a b : Bool) → (a && b) ≡ true → a ≡ true
both_hold true b e = refl
both_hold false b e = e

-- ---- where blocks stand

own_file : (files : List SourceFile) (file name block : ℕ) (at : BlockAt) → own files file name ≡ Some block → block_of files block ≡ Some at → at.file ≡ file
own_file files file name block at e there = eqb-true at.file file (both_hold (nat_eq at.file file) (nat_eq at.block.name.name.0 name)
    (position_holds (λ (b : BlockAt). nat_eq b.file file && nat_eq b.block.name.name.0 name) (blocks_of files) block at e there))

-- what an import of a name takes from a file that has no block of the name is in another file
module _ (files : List SourceFile) (here name block : ℕ) (at : BlockAt) (there : block_of files block ≡ Some at) (none : own files here name ≡ None) where
  from_file : (n : ℕ) → n ≡ name → (from : Option ℕ) → option_and_then (λ from. own files from n) from ≡ Some block → nat_eq at.file here ≡ false
  from_file n same None e = cc
  from_file n same (Some from) e = by (nat_eq at.file here) refl
    where
      by : (b : Bool) → nat_eq at.file here ≡ b → b ≡ false
      by false t = refl
      by true t = let f : from ≡ here = sym (own_file files from n block at e there) ∙ eqb-true at.file here t in
          absurd (true≢false (ap is_some (sym (ap (λ (k : ℕ). own files k n) (sym f) ∙ e) ∙ ap (own files here) same ∙ none)))

  imported_file : (file : SourceFile) (found : Option (Named × Option Quoted)) → ((import : Named × Option Quoted) → found ≡ Some import
      → import.0.name.0 ≡ name)
      → option_and_then (imported files file) found ≡ Some block → nat_eq at.file here ≡ false
  imported_file file None named e = cc
  imported_file file (Some import) named e = from_file import.0.name.0 (named import refl) (import_file files file import.1) e

  in_file : (file : Option SourceFile) → option_and_then (λ f. option_and_then (imported files f)
      (find (λ import. nat_eq import.0.name.0 name) (imports_of f))) file ≡ Some block → nat_eq at.file here ≡ false
  in_file None e = cc
  in_file (Some f) e = imported_file f (find (λ import. nat_eq import.0.name.0 name) (imports_of f))
      (λ import found. eqb-true import.0.name.0 name (find_holds (λ (i : Named × Option Quoted). nat_eq i.0.name.0 name) (imports_of f) import found)) e

-- ---- the own block

-- what an import of a file takes for a name
abbrev taken : List SourceFile → ℕ → ℕ → Option ℕ
taken files here name = option_and_then (λ f. option_and_then (imported files f) (find (λ import. nat_eq import.0.name.0 name) (imports_of f)))
    (slice_get files here)

own_where : (files : List SourceFile) (here name block : ℕ) (at : BlockAt) → meaning files here name ≡ Some block → block_of files block ≡ Some at
    → own files here name ≡ cond (nat_eq at.file here) (Some block) None
own_where files here name block at e there = by (own files here name) refl
  where
    by : (o : Option ℕ) → own files here name ≡ o → own files here name ≡ cond (nat_eq at.file here) (Some block) None
    by (Some b) f = let same : own files here name ≡ Some block = f ∙ sym (ap (λ (o : Option ℕ). option_or o (taken files here name)) f) ∙ e in
        same ∙ sym (ap (λ (b : Bool). cond b (Some block) None) (eq-eqb at.file here (own_file files here name block at same there)))
    by None f = f ∙ sym (ap (λ (b : Bool). cond b (Some block) None) (in_file files here name block at there f (slice_get files here)
        (sym (ap (λ (o : Option ℕ). option_or o (taken files here name)) f) ∙ e)))

where_by : (files : List SourceFile) (here : ℕ) (n : Option ℕ) (block : ℕ) (at : BlockAt) → option_and_then (meaning files here) n ≡ Some block
    → block_of files block ≡ Some at
    → option_and_then (own files here) n ≡ cond (nat_eq at.file here) (Some block) None
where_by files here None block at e there = cc
where_by files here (Some name) block at e there = own_where files here name block at e there

apart : (a b : ℕ) → (a ≡ b → ⊥) → nat_eq a b ≡ false
apart a b h = by (nat_eq a b) refl
  where
    by : (t : Bool) → nat_eq a b ≡ t → t ≡ false
    by false e = refl
    by true e = absurd (h (eqb-true a b e))

-- what is kept of a block that was read from a slice
pub kept_at : (blocks slice : List BlockInfo) (block : ℕ) (info : BlockInfo) → slice ≡ blocks
    → (block < length slice) × ((d : BlockInfo) → info ≡ get_or slice block d) → slice_get blocks block ≡ Some info
kept_at blocks slice block info same read = ap (λ (bs : List BlockInfo). slice_get bs block) (sym same)
    ∙ slice_get_read slice (length slice) block info refl read.0 (read.1 info)

-- the own block of a file whose name has this text
abbrev pub own_called : Program → ℕ → List ℕ → Option ℕ
own_called program here text = option_and_then (own program.files here) (position (bytes_eq text) program.names)

module _ (program : Program) (here : ℕ) (text : List ℕ) where
  known : AreBlocks program.files program.blocks → (block : ℕ) (info : BlockInfo) → found_block program here text ≡ Some block
      → slice_get program.blocks block ≡ Some info
      → own_called program here text ≡ cond (nat_eq info.file.0 here) (Some block) None
  known blocks block info e there = let is = blocks.each block info there in
      where_by program.files here (position (bytes_eq text) program.names) block is.at e is.found
      ∙ ap (λ (k : ℕ). cond (nat_eq k here) (Some block) None) (sym is.file)

  pub here_is : AreBlocks program.files program.blocks → (block : ℕ) (info : BlockInfo) → found_block program here text ≡ Some block
      → slice_get program.blocks block ≡ Some info
      → info.file.0 ≡ here → Some block ≡ own_called program here text
  here_is blocks block info e there file = sym (known blocks block info e there ∙ ap (λ (b : Bool). cond b (Some block) None) (eq-eqb info.file.0 here file))

  pub away : AreBlocks program.files program.blocks → (block : ℕ) (info : BlockInfo) → found_block program here text ≡ Some block
      → slice_get program.blocks block ≡ Some info
      → (info.file.0 ≡ here → ⊥) → None ≡ own_called program here text
  away blocks block info e there file = sym (known blocks block info e there ∙ ap (λ (b : Bool). cond b (Some block) None) (apart info.file.0 here file))
