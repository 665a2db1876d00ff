-- The block that an entry gives, and the first fault in its lines.
use Rattle.std.specs.Str.{bytes_eq}
use Rattle.std.proofs.lemmas.Slice.Eq.{bytes_eq-Decides}
use Rattle.std.proofs.Common.{◌≡◌, ℕ, Bool, true, false, not, List, sym, ◌∙◌, subst, inr, refl}
use Rattle.std.specs.Prelude.{Option, Some, None, MatchOption}
use Rattle.ato_base.specs.declared.faults.Fault.{Fault}
use Rattle.ato_first.specs.FirstForm.{IsFile}
use Rattle.ato_first.specs.declared.first_form.Block.{Block}
use Rattle.ato_first.specs.FirstParts.{HasRanges}
use Rattle.ato_first.specs.FirstPoints.{AreKnown}
use Rattle.ato_build.specs.Found.{Whole}
use Rattle.ato_build.specs.Entry.{IsLineFault, GivesBlock, StandsInEntry}
use Rattle.ato_build.specs.declared.project.Project.{Project}

-- texts that do not differ
same_text : (a b x y : List ℕ) (differ : Bool) → a ≡ x → b ≡ y → differ ≡ not (bytes_eq a b) → differ ≡ false → x ≡ y
same_text a b x y differ p q is equal = sym p ∙ (bytes_eq-Decides a b).0 (by (bytes_eq a b) (sym is ∙ equal)) ∙ q
  where
    by : (e : Bool) → not e ≡ false → e ≡ true
    by true h = refl
    by false h = let bad : ⊥ = cc in absurd bad

module _ (project : Project) (source : List ℕ) (file : Option Block) (block : Block) (is : IsFile source file) (same : file ≡ Some block)
    (a b : List ℕ) (differ : Bool) (name : a ≡ block.name) (wanted : b ≡ project.block) (tested : differ ≡ not (bytes_eq a b)) (equal : differ ≡ false) where
  -- a block of the name without a fault in its lines is given
  pub block_given : (found : Option Fault) → found ≡ None → MatchOption found (AreKnown block × HasRanges block) (IsLineFault block) → GivesBlock project (Whole source) block
  block_given found none h =
      let fine : AreKnown block × HasRanges block = subst (λ f. MatchOption f (AreKnown block × HasRanges block) (IsLineFault block)) none h in
      (subst (IsFile source) same is, same_text a b block.name project.block differ name wanted tested equal, fine.0, fine.1)

  -- the first fault in its lines stands
  pub line_stands : (f : Fault) (found : Option Fault) → found ≡ Some f → MatchOption found (AreKnown block × HasRanges block) (IsLineFault block) → StandsInEntry project (Whole source) f
  line_stands f found some h =
      inr (inr (block, subst (IsFile source) same is, same_text a b block.name project.block differ name wanted tested equal, subst (λ r. MatchOption r (AreKnown block × HasRanges block) (IsLineFault block)) some h))
