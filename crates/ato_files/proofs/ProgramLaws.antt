-- A project has one program at most.
use Rattle.std.proofs.Common.{◌≡◌, ℕ, suc, List, [], ◌∷◌, Some, refl, sym, ap, ◌∙◌, subst}
use Rattle.std.specs.Prelude.{length, slice_get}
use Rattle.ato_base.specs.declared.places.FileId.{FileId}
use Rattle.ato_files.specs.declared.program.SourceFile.{SourceFile}
use Rattle.ato_files.specs.declared.program.BlockInfo.{BlockInfo}
use Rattle.ato_files.specs.declared.program.Program.{Program}
use Rattle.ato_files.specs.Blocks.{BlockAt}
use Rattle.ato_files.specs.Loading.{Held}
use Rattle.ato_files.specs.Programs.{IsBlockInfo, AreBlocks, IsProgram}
use Rattle.ato_files.proofs.LineageLaws.{one_lineage}
use Rattle.ato_files.proofs.StageLaws.{same_names, same_files}

-- ---- blocks

file_of : ℕ → FileId
file_of n = record { 0 = n }

same_id : (f g : FileId) → f.0 ≡ g.0 → f ≡ g
unfolding file_of
same_id f g e = ap file_of e

info : FileId → ℕ → List ℕ → BlockInfo
info file item lineage = record { file = file; item = item; lineage = lineage }

same_info : (a b : BlockInfo) → a.file ≡ b.file → a.item ≡ b.item → a.lineage ≡ b.lineage → a ≡ b
unfolding info
same_info a b e f g = ap (λ x. info x a.item a.lineage) e ∙ ap (λ x. info b.file x a.lineage) f ∙ ap (info b.file b.item) g

one_info : (files : List SourceFile) (number : ℕ) (a b : BlockInfo) → IsBlockInfo files number a → IsBlockInfo files number b → a ≡ b
one_info files number a b x y =
    let both : Some x.at ≡ Some y.at = sym x.found ∙ y.found in
    let same : x.at ≡ y.at = cc in
    same_info a b
    (same_id a.file b.file (x.file ∙ ap (λ (at : BlockAt). at.file) same ∙ sym y.file))
    (x.item ∙ ap (λ (at : BlockAt). at.item) same ∙ sym y.item)
    (one_lineage x.lineage y.lineage)

same_items : {X : Type 0} (xs ys : List X) → length xs ≡ length ys
    → ((i : ℕ) (x y : X) → slice_get xs i ≡ Some x → slice_get ys i ≡ Some y → x ≡ y) → xs ≡ ys
same_items [] [] long same = refl
same_items [] (y ∷ ys) long same = cc
same_items (x ∷ xs) [] long same = cc
same_items (x ∷ xs) (y ∷ ys) long same =
    let first : x ≡ y = same 0 x y refl refl in
    let more : xs ≡ ys = same_items xs ys (cc) (λ i a b e h. same (suc i) a b e h) in cc

one_blocks : (files : List SourceFile) (a b : List BlockInfo) → AreBlocks files a → AreBlocks files b → a ≡ b
one_blocks files a b x y = same_items a b (x.count ∙ sym y.count) (λ i c d e h. one_info files i c d (x.each i c e) (y.each i d h))

-- ---- programs

program : List (List ℕ) → List SourceFile → List BlockInfo → Program
program names files blocks = record { names = names; files = files; blocks = blocks }

same_program : (p q : Program) → p.names ≡ q.names → p.files ≡ q.files → p.blocks ≡ q.blocks → p ≡ q
unfolding program
same_program p q e f g = ap (λ x. program x p.files p.blocks) e ∙ ap (λ x. program q.names x p.blocks) f ∙ ap (program q.names q.files) g

pub one_program : (held : Held) (entry : List ℕ) (p q : Program) → IsProgram held entry p → IsProgram held entry q → p ≡ q
one_program held entry p q a b =
    let files = same_files held entry p q a b in
    same_program p q (same_names held entry p q a b) files (one_blocks p.files p.blocks q.blocks a.blocks (subst (λ fs. AreBlocks fs q.blocks) (sym files) b.blocks))
