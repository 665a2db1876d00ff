-- Ancestors by lists of parents.
use Rattle.std.proofs.Common.{◌≡◌, ◌<◌, ◌≤◌, ℕ, zero, suc, ◌+◌, ◌*◌, Bool, true, false, nat_lt, List, Option, Some, None, refl, sym, ap, ◌∙◌, subst, arith, inl, inr, length}
use Rattle.std.specs.Prelude.{slice_get, is_some}
use Rattle.std.specs.List.{position_or_len}
use Rattle.std.specs.Option.{option_or, option_and_then}
use Rattle.std.proofs.lemmas.Option.{slice_get_cases, slice_get_past, option_and_then_some, cond_some, none-some}
use Rattle.std.proofs.lemmas.Bool.{ltb-true}
use Rattle.ato_ast.specs.declared.names.Named.{Named}
use Rattle.ato_ast.specs.declared.names.Quoted.{Quoted}
use Rattle.ato_files.specs.declared.program.SourceFile.{SourceFile}
use Rattle.ato_files.specs.Blocks.{BlockAt, blocks_of, block_of, own, import_file, imported, meaning}
use Rattle.ato_files.specs.Lineages.{parent, IsLineage, oldest, child, ancestor, never_ends}
use Rattle.ato_files.specs.Meant.{joined}
use Rattle.ato_files.specs.ParentLists.{AreParents, AreMade, parent_in, ancestor_in, endless}
use Rattle.ato_files.proofs.LineageLaws.{ends_exactly}

-- ---- what a name means is a block

or_some : {X P : Type 0} (o p : Option X) (x : X) → option_or o p ≡ Some x → (o ≡ Some x → P) → (p ≡ Some x → P) → P
or_some None p x e f g = g e
or_some (Some y) p x e f g = f e

own_within : (files : List SourceFile) (file name block : ℕ) → own files file name ≡ Some block → block < length (blocks_of files)
own_within files file name block e = let both = cond_some (nat_lt (position_or_len _ (blocks_of files)) (length (blocks_of files))) _ block e in
    let first = ltb-true _ _ both.0 in let same = both.1 in subst (λ n. n < length (blocks_of files)) same first

imported_within : (files : List SourceFile) (f : SourceFile) (i : Named × Option Quoted) (block : ℕ) → imported files f i ≡ Some block → block < length (blocks_of files)
imported_within files f i block e = option_and_then_some (λ (from : ℕ). own files from i.0.name.0) (import_file files f i.1) block e (λ from _ h. own_within files from i.0.name.0 block h)

pub meaning_within : (files : List SourceFile) (file name block : ℕ) → meaning files file name ≡ Some block → block < length (blocks_of files)
meaning_within files file name block e = or_some (own files file name) _ block e (own_within files file name block)
    (λ h. option_and_then_some _ (slice_get files file) block h (λ f _ k. option_and_then_some (imported files f) _ block k (λ i _ m. imported_within files f i block m)))

pub parent_within : (files : List SourceFile) (number above : ℕ) → parent files number ≡ Some above → above < length (blocks_of files)
parent_within files number above e = option_and_then_some _ (block_of files number) above e (λ b _ h. option_and_then_some (λ (name : Named). meaning files b.file name.name.0) b.block.parent above h
    (λ name _ k. meaning_within files b.file name.name.0 above k))

-- ---- parents in a list

no_block : (files : List SourceFile) (number : ℕ) → length (blocks_of files) ≤ number → parent files number ≡ None
no_block files number h = ap (option_and_then (λ (x : BlockAt). option_and_then (λ name. meaning files x.file name.name.0) x.block.parent)) (slice_get_past (blocks_of files) number h)

module _ (files : List SourceFile) (parents : List (Option ℕ)) (are : AreParents files parents) where
  pub parent_is : (number : ℕ) → parent_in parents number ≡ parent files number
  parent_is number = elim (slice_get_cases (blocks_of files) number).1 [
    | inl x ↦ ap joined (are.each number x.1)
    | inr x ↦ (let past : length parents ≤ number = (let h = x.0 in let n = are.count in omega arith) in ap joined (slice_get_past parents number past) ∙ sym (no_block files number x.0))
  ]

  pub ancestor_is : (n number : ℕ) → ancestor_in parents n number ≡ ancestor files n number
  ancestor_is zero number = refl
  ancestor_is (suc n) number = ap (option_and_then (ancestor_in parents n)) (parent_is number) ∙ by (parent files number) (ancestor_is n)
    where
      by : (o : Option ℕ) → ((above : ℕ) → ancestor_in parents n above ≡ ancestor files n above) → option_and_then (ancestor_in parents n) o ≡ option_and_then (ancestor files n) o
      by None h = refl
      by (Some above) h = h above

  pub endless_is : (number : ℕ) → endless parents number ≡ never_ends files number
  endless_is number = ap is_some (ap (λ (n : ℕ). ancestor_in parents (suc n) number) are.count ∙ ancestor_is (suc (length (blocks_of files))) number)

-- ---- a block and its parent

has_parent : {files : List SourceFile} {number above : ℕ} {found : List ℕ} → parent files number ≡ Some above → IsLineage files number found → (l : List ℕ) × IsLineage files above l
has_parent e (oldest f) = let both : None ≡ Some _ = sym f ∙ e in absurd (none-some _ both)
has_parent {files = files} e (child {above = a} {lineage = l} f d) = (l, let both : Some a ≡ Some _ = sym f ∙ e in let same : a ≡ _ = cc in subst (λ z. IsLineage files z l) same d)

same_ends : (a b : Bool) → (a ≡ false → b ≡ false) → (b ≡ false → a ≡ false) → a ≡ b
same_ends true true f g = refl
same_ends false false f g = refl
same_ends true false f g = g refl
same_ends false true f g = sym (f refl)

pub never_ends_up : (files : List SourceFile) (number above : ℕ) → parent files number ≡ Some above → never_ends files number ≡ never_ends files above
never_ends_up files number above e = same_ends (never_ends files number) (never_ends files above)
    (λ h. let up = has_parent e ((ends_exactly files number).ends h) in ((ends_exactly files above).has_one up.1).0)
    (λ h. ((ends_exactly files number).has_one (child e ((ends_exactly files above).ends h))).0)

module _ (parents : List (Option ℕ)) (made : AreMade parents) where
  pub endless_up : (number above : ℕ) → parent_in parents number ≡ Some above → endless parents number ≡ endless parents above
  endless_up number above e =
      endless_is made.files parents made.are number
      ∙ never_ends_up made.files number above (sym (parent_is made.files parents made.are number) ∙ e)
      ∙ sym (endless_is made.files parents made.are above)

  pub above_within : (number above : ℕ) → parent_in parents number ≡ Some above → above < length parents
  above_within number above e =
      let within = parent_within made.files number above (sym (parent_is made.files parents made.are number) ∙ e) in let n = made.are.count in omega arith

  -- a block and its ancestors
  pub endless_above : (n number above : ℕ) → ancestor_in parents n number ≡ Some above → endless parents number ≡ endless parents above
  endless_above zero number above e = let same : number ≡ above = cc in ap (endless parents) same
  endless_above (suc n) number above e = by (parent_in parents number) refl e (endless_above n)
    where
      by : (o : Option ℕ) → parent_in parents number ≡ o → option_and_then (ancestor_in parents n) o ≡ Some above
          → ((b a : ℕ) → ancestor_in parents n b ≡ Some a → endless parents b ≡ endless parents a) → endless parents number ≡ endless parents above
      by None p h more = absurd (none-some above h)
      by (Some b) p h more = endless_up number b p ∙ more b above h

pub no_parent_ends : (parents : List (Option ℕ)) (number : ℕ) → parent_in parents number ≡ None → endless parents number ≡ false
no_parent_ends parents number e = ap (λ o. is_some (option_and_then (ancestor_in parents (length parents)) o)) e

-- ---- one more step up

module _ (parents : List (Option ℕ)) where
  pub ancestor_add : (n m number : ℕ) → ancestor_in parents (n + m) number ≡ option_and_then (ancestor_in parents m) (ancestor_in parents n number)
  ancestor_add zero m number = let e : zero + m ≡ m = omega arith in ap (λ (k : ℕ). ancestor_in parents k number) e
  ancestor_add (suc n) m number = let e : suc n + m ≡ suc (n + m) = omega arith in
      ap (λ (k : ℕ). ancestor_in parents k number) e ∙ by (parent_in parents number) (ancestor_add n m)
    where
      by : (o : Option ℕ) → ((b : ℕ) → ancestor_in parents (n + m) b ≡ option_and_then (ancestor_in parents m) (ancestor_in parents n b))
          → option_and_then (ancestor_in parents (n + m)) o ≡ option_and_then (ancestor_in parents m) (option_and_then (ancestor_in parents n) o)
      by None h = refl
      by (Some b) h = h b

  one_up : (number : ℕ) → ancestor_in parents 1 number ≡ parent_in parents number
  one_up number = by (parent_in parents number)
    where
      by : (o : Option ℕ) → option_and_then (ancestor_in parents zero) o ≡ o
      by None = refl
      by (Some b) = refl

  pub ancestor_more : (n number above next : ℕ) → ancestor_in parents n number ≡ Some above → parent_in parents above ≡ Some next → ancestor_in parents (n + 1) number ≡ Some next
  ancestor_more n number above next e p = ancestor_add n 1 number ∙ ap (option_and_then (ancestor_in parents 1)) e ∙ one_up above ∙ p

  pub ancestor_one : (number above : ℕ) → parent_in parents number ≡ Some above → ancestor_in parents (suc 0) number ≡ Some above
  ancestor_one number above p = one_up number ∙ p

  -- a block that is its own ancestor has no end of them
  round : (k number : ℕ) → ancestor_in parents k number ≡ Some number → (m : ℕ) → ancestor_in parents (m * k) number ≡ Some number
  round k number e zero = let z : zero * k ≡ zero = omega arith in ap (λ (n : ℕ). ancestor_in parents n number) z
  round k number e (suc m) = let s : suc m * k ≡ k + m * k = omega arith in
      ap (λ (n : ℕ). ancestor_in parents n number) s ∙ ancestor_add k (m * k) number ∙ ap (option_and_then (ancestor_in parents (m * k))) e ∙ round k number e m

  pub round_endless : (k number : ℕ) → ancestor_in parents (suc k) number ≡ Some number → endless parents number ≡ true
  round_endless k number e = by (ancestor_in parents (suc (length parents)) number) refl
    where
      by : (o : Option ℕ) → ancestor_in parents (suc (length parents)) number ≡ o → is_some o ≡ true
      by (Some a) h = refl
      by None h = let n : suc (length parents) * suc k ≡ suc (length parents) + suc (length parents) * k = omega arith in
          absurd (none-some number (sym (ap (λ (m : ℕ). ancestor_in parents m number) n ∙ ancestor_add (suc (length parents)) (suc (length parents) * k) number
          ∙ ap (option_and_then (ancestor_in parents (suc (length parents) * k))) h) ∙ round (suc k) number e (suc (length parents))))
