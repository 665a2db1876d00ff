-- Walking up from a block to its ancestors.
use Rattle.std.proofs.Common.{true≢false, ◌-◌, ap, refl, sym, subst, ◌∙◌, ◌+◌, ◌≤◌, arith, inl, inr}
use Rattle.std.specs.Prelude.{◌≡◌, ◌⊎◌, ℕ, zero, suc, Bool, true, false, ◌||◌, List, [], ◌∷◌, ◌++◌, Option, Some, None, nat_eq, option_to_list}
use Rattle.std.specs.Option.{option_map, option_and_then}
use Rattle.std.proofs.lemmas.Bool.{eqb-true}
use Rattle.std.proofs.lemmas.List.{append_assoc}
use Rattle.ato_files.specs.declared.program.SourceFile.{SourceFile}
use Rattle.ato_files.specs.Lineages.{parent, ancestor, lineage_within, below}
use Rattle.ato_files.specs.NumberSet.{has}
use Rattle.ato_files.specs.Ancestors.{AreWithin}

module _ (files : List SourceFile) where
  -- ---- one ancestor more

  one_more : (n block : ℕ) (above : Option ℕ) → parent files block ≡ above → ((b : ℕ) → lineage_within files (suc n) b ≡ option_to_list (ancestor files (suc n) b) ++ lineage_within files n b)
      → below block (option_map (lineage_within files (suc n)) above) ≡ option_to_list (option_and_then (ancestor files (suc n)) above) ++ below block (option_map (lineage_within files n) above)
  one_more n block None e more = refl
  one_more n block (Some a) e more = ap (λ z. z ++ block ∷ []) (more a) ∙ append_assoc (option_to_list (ancestor files (suc n) a)) (lineage_within files n a) (block ∷ [])

  first_more : (block : ℕ) (above : Option ℕ) → below block (option_map (lineage_within files zero) above) ≡ option_to_list (option_and_then (ancestor files zero) above) ++ block ∷ []
  first_more block None = refl
  first_more block (Some a) = refl

  lineage_more : (n block : ℕ) → lineage_within files (suc n) block ≡ option_to_list (ancestor files (suc n) block) ++ lineage_within files n block
  lineage_more zero block = first_more block (parent files block)
  lineage_more (suc n) block = subst (λ p. below block (option_map (lineage_within files (suc n)) p)
      ≡ option_to_list (option_and_then (ancestor files (suc n)) p) ++ below block (option_map (lineage_within files n) p)) refl
      (one_more n block (parent files block) refl (lineage_more n))

  next_of : (n : ℕ) (above : Option ℕ) → ((b : ℕ) → ancestor files (suc n) b ≡ option_and_then (parent files) (ancestor files n b))
      → option_and_then (ancestor files (suc n)) above ≡ option_and_then (parent files) (option_and_then (ancestor files n) above)
  next_of n None more = refl
  next_of n (Some a) more = more a

  first_of : (above : Option ℕ) → option_and_then (ancestor files zero) above ≡ above
  first_of None = refl
  first_of (Some a) = refl

  ancestor_next : (n block : ℕ) → ancestor files (suc n) block ≡ option_and_then (parent files) (ancestor files n block)
  ancestor_next zero block = first_of (parent files block)
  ancestor_next (suc n) block = next_of n (parent files block) (ancestor_next n)

  -- ---- no more ancestors

  module _ (block : ℕ) where
    abbrev more : ℕ → ℕ → ℕ
    more zero k = k
    more (suc m) k = suc (more m k)

    more_is : (m k : ℕ) → more m k ≡ m + k
    more_is zero k = omega arith
    more_is (suc m) k = let e = more_is m k in omega arith

    none_more : (k m : ℕ) → ancestor files (suc k) block ≡ None → ancestor files (suc (more m k)) block ≡ None
    none_more k zero e = e
    none_more k (suc m) e = ancestor_next (suc (more m k)) block ∙ ap (option_and_then (parent files)) (none_more k m e)

    same_lineage : (k m : ℕ) → ancestor files (suc k) block ≡ None → lineage_within files (more m k) block ≡ lineage_within files k block
    same_lineage k zero e = refl
    same_lineage k (suc m) e = lineage_more (more m k) block ∙ ap (λ a. option_to_list a ++ lineage_within files (more m k) block) (none_more k m e) ∙ same_lineage k m e

    -- ---- ancestors that come again

    abbrev In : ℕ → ℕ → Type 0
    In k x = has (lineage_within files k block) x ≡ true

    or_right : (a b : Bool) → b ≡ true → (a || b) ≡ true
    or_right true b e = refl
    or_right false b e = e

    itself : (x : ℕ) → nat_eq x x ≡ true
    itself x = grind arith

    has_later : (k x : ℕ) (a : Option ℕ) → In k x → has (option_to_list a ++ lineage_within files k block) x ≡ true
    has_later k x None i = i
    has_later k x (Some a) i = or_right (nat_eq x a) (has (lineage_within files k block) x) i

    later : (k x : ℕ) → In k x → In (suc k) x
    later k x i = ap (λ l. has l x) (lineage_more k block) ∙ has_later k x (ancestor files (suc k) block) i

    here_of : (k x : ℕ) (a : Option ℕ) → a ≡ Some x → has (option_to_list a ++ lineage_within files k block) x ≡ true
    here_of k x None e = cc
    here_of k x (Some a) e = let same : a ≡ x = cc in ap (λ y. nat_eq x y || has (lineage_within files k block) x) same ∙ ap (λ v. v || has (lineage_within files k block) x) (itself x)

    -- the last one that was reached
    reached : (k x : ℕ) → ancestor files k block ≡ Some x → In k x
    reached zero x e = let same : block ≡ x = cc in ap (λ y. nat_eq x y || false) same ∙ ap (λ v. v || false) (itself x)
    reached (suc k) x e = ap (λ l. has l x) (lineage_more k block) ∙ here_of k x (ancestor files (suc k) block) e

    -- the parent of one of them is one too, or the next one
    abbrev Leads : ℕ → ℕ → Type 0
    Leads k y = In k y ⊎ (ancestor files (suc k) block ≡ Some y)

    one_of : (a b : Bool) → (a || b) ≡ true → (P : Type 0) → (a ≡ true → P) → (b ≡ true → P) → P
    one_of true b h P f g = f refl
    one_of false b h P f g = g h

    step_of : (k x : ℕ) (z : Option ℕ) → ancestor files k block ≡ z → z ≡ Some x → (y : ℕ) → parent files x ≡ Some y → ancestor files (suc k) block ≡ Some y
    step_of k x z e same y p = ancestor_next k block ∙ ap (option_and_then (parent files)) (e ∙ same) ∙ p

    lead_later : (k y : ℕ) → Leads k y → In (suc k) y
    lead_later k y h = elim h [ inl i ↦ later k y i | inr e ↦ reached (suc k) y e ]

    lead_of : (k x y : ℕ) (a : Option ℕ) → ancestor files (suc k) block ≡ a → has (option_to_list a ++ lineage_within files k block) x ≡ true → parent files x ≡ Some y
        → (In k x → Leads k y) → Leads (suc k) y
    lead_of k x y None e i p more = inl (lead_later k y (more i))
    lead_of k x y (Some z) e i p more = one_of (nat_eq x z) (has (lineage_within files k block) x) i (Leads (suc k) y)
        (λ q. inr (step_of (suc k) x (Some z) e (ap Some (sym (eqb-true x z q))) y p))
        (λ q. inl (lead_later k y (more q)))

    leads : (k x y : ℕ) → In k x → parent files x ≡ Some y → Leads k y
    leads zero x y i p = one_of (nat_eq x block) false i (Leads zero y) (λ q. inr (step_of zero x (Some block) refl (ap Some (sym (eqb-true x block q))) y p)) (λ q. absurd (true≢false (sym q)))
    leads (suc k) x y i p = lead_of k x y (ancestor files (suc k) block) refl (ap (λ l. has l x) (sym (lineage_more k block)) ∙ i) p (λ q. leads k x y q p)

    module _ (k again : ℕ) (next : ancestor files (suc k) block ≡ Some again) (is_in : In k again) where
      closed : (x y : ℕ) → In k x → parent files x ≡ Some y → In k y
      closed x y i p = elim (leads k x y i p) [ inl q ↦ q | inr e ↦ (let both : Some again ≡ Some y = sym next ∙ e in let same : again ≡ y = cc in subst (In k) same is_in) ]

      from_last : (x : ℕ) (z : Option ℕ) → option_and_then (parent files) z ≡ Some x → ((w : ℕ) → z ≡ Some w → In k w) → In k x
      from_last x None e last = cc
      from_last x (Some w) e last = closed w x (last w refl) e

      all_in : (m x : ℕ) → ancestor files (more m k) block ≡ Some x → In k x
      all_in zero x e = reached k x e
      all_in (suc m) x e = from_last x (ancestor files (more m k) block) (sym (ancestor_next (more m k) block) ∙ e) (λ w. all_in m w)

      absorbed : (x z : ℕ) (v : Bool) → nat_eq x z ≡ v → In k z → (v || has (lineage_within files k block) x) ≡ has (lineage_within files k block) x
      absorbed x z true e i = sym (ap (λ y. has (lineage_within files k block) y) (eqb-true x z e) ∙ i)
      absorbed x z false e i = refl

      same_with : (x : ℕ) (a : Option ℕ) → ((z : ℕ) → a ≡ Some z → In k z) → (l : List ℕ) → has l x ≡ has (lineage_within files k block) x
          → has (option_to_list a ++ l) x ≡ has (lineage_within files k block) x
      same_with x None is l e = e
      same_with x (Some z) is l e = ap (λ v. nat_eq x z || v) e ∙ absorbed x z (nat_eq x z) refl (is z refl)

      same_members : (m x : ℕ) → has (lineage_within files (more m k) block) x ≡ has (lineage_within files k block) x
      same_members zero x = refl
      same_members (suc m) x = ap (λ l. has l x) (lineage_more (more m k) block)
          ∙ same_with x (ancestor files (suc (more m k)) block) (all_in (suc m)) (lineage_within files (more m k) block) (same_members m x)

-- ---- the walk

-- The numbers are those of a block and of so many ancestors, and the last of these was reached.
pub record IsWalked (files : List SourceFile) (block n at : ℕ) (numbers : List ℕ) : Type 0 where
  pub members : AreWithin files n block numbers
  pub last : ancestor files n block ≡ Some at

abbrev Adds : List ℕ → List ℕ → ℕ → Type 0
Adds old new number = (b : ℕ) → has new b ≡ (nat_eq b number || has old b)

pub walk_start : (files : List SourceFile) (block : ℕ) (numbers : List ℕ) → Adds [] numbers block → IsWalked files block 0 block numbers
walk_start files block numbers added = record { members = added; last = refl }

-- the next ancestor
next_is : (files : List SourceFile) (block n at : ℕ) (above : Option ℕ) → ancestor files n block ≡ Some at → parent files at ≡ above → ancestor files (suc n) block ≡ above
next_is files block n at above last p = ancestor_next files n block ∙ ap (option_and_then (parent files)) last ∙ p

pub walk_more : (files : List SourceFile) (block n m at above : ℕ) (old new : List ℕ) → m ≡ suc n → IsWalked files block n at old → parent files at ≡ Some above → Adds old new above
    → IsWalked files block m above new
walk_more files block n m at above old new e w p added =
    let next = next_is files block n at (Some above) w.last p in
    subst (λ k. IsWalked files block k above new) (sym e) (record {
      members = λ b. added b ∙ ap (λ v. nat_eq b above || v) (w.members b) ∙ sym (ap (λ l. has l b) (lineage_more files n block) ∙ ap (λ a. has (option_to_list a ++ lineage_within files n block) b) next);
      last = next;
    })

far : (files : List SourceFile) (block n k : ℕ) (P : ℕ → Type 0) → k ≤ n → ((m : ℕ) → P (more files block m k)) → P n
far files block n k P h each = subst P (more_is files block (n - k) k ∙ omega arith) (each (n - k))

-- there is no more
pub walk_end : (files : List SourceFile) (block n k at : ℕ) (numbers : List ℕ) → k ≤ n → IsWalked files block k at numbers → parent files at ≡ None → AreWithin files n block numbers
walk_end files block n k at numbers h w p =
    far files block n k (λ l. AreWithin files l block numbers) h
    (λ m b. w.members b ∙ ap (λ l. has l b) (sym (same_lineage files block k m (next_is files block k at None w.last p))))

-- one of them comes again
pub walk_again : (files : List SourceFile) (block n k at above : ℕ) (old new : List ℕ) → k ≤ n → IsWalked files block k at old → parent files at ≡ Some above → has old above ≡ true → Adds old new above
    → AreWithin files n block new
walk_again files block n k at above old new h w p is_in added =
    let next = next_is files block k at (Some above) w.last p in
    let is : has (lineage_within files k block) above ≡ true = sym (w.members above) ∙ is_in in
    far files block n k (λ l. AreWithin files l block new) h
    (λ m b. added b ∙ ap (λ v. nat_eq b above || v) (w.members b) ∙ absorbed files block k above next is b above (nat_eq b above) refl is ∙ sym (same_members files block k above next is m b))
