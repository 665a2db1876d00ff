-- The assignments that are held are those that count.
use Rattle.std.proofs.Common.{◌≡◌, ℕ, zero, suc, ◌+◌, Bool, true, false, nat_eq, true≢false, List, [], ◌∷◌, Option, Some, None, refl, ap, sym, subst, ◌∙◌, arith}
use Rattle.std.specs.Prelude.{⊤, map, filter, slice_get, if◌then◌else◌}
use Rattle.std.specs.List.{flat_map, AllByRecursion}
use Rattle.std.specs.Option.{option_map}
use Rattle.std.specs.Str.{bytes_eq}
use Rattle.std.proofs.lemmas.Bool.{eqb-true, eq-eqb}
use Rattle.std.proofs.lemmas.Option.{none-some, same_Some, slice_get-map}
use Rattle.std.proofs.lemmas.Slice.Eq.{bytes_eq-Decides}
use Rattle.ato_ast.specs.declared.stmts.Stmt.{Stmt}
use Rattle.ato_files.specs.declared.program.SourceFile.{SourceFile}
use Rattle.ato_instance_tree.specs.declared.tree.Occurrence.{Occurrence}
use Rattle.ato_instance_tree.specs.Walk.{Occ, occs, walk, last, assigns, type_at, effective}
use Rattle.ato_instance_tree.specs.Order.{Spot, leaf, made_at, nodes, instances, occs_at, occurrences}
use Rattle.ato_instance_tree.proofs.SpotLaws.{Under, under_more}
use Rattle.ato_elab.specs.declared.assigned.Assigned.{Assigned}
use Rattle.ato_elab.specs.declared.built.Built.{Built}
use Rattle.ato_elab.specs.Built.{same_key, put_under, instance_spot}
use Rattle.ato_elab.specs.Assigned.{held_by, assigned_to, target_in, chosen_of, chosen_for, noted_entry, noted, picked}
use Rattle.ato_elab.specs.Standing.{IsAt, IsReady}
use Rattle.ato_elab.specs.Landing.{IsChosen, AreAssigned}
use Rattle.ato_elab.specs.Holding.{AssignmentsCount}
use Rattle.ato_elab.proofs.AroundLaws.{instances_ordered, around_in}
use Rattle.ato_elab.proofs.AimLaws.{and_true, IsThere, target_there, same_truth, same_path_at, at_same, hits, takes, target_law, takes_under, assigns_takes}
use Rattle.ato_elab.proofs.KeepLaws.{one_of, keep, kept, tested, chosen, kept_all, around, walked, all_around, tested_takes, same_filter, walk_under}

chosen_hits : (instance name : ℕ) (new : ℕ × ℕ) (t old : Option (ℕ × ℕ)) → chosen_for instance name new t old ≡ (if hits instance name t then Some (chosen_of old new) else old)
chosen_hits instance name new None old = refl
chosen_hits instance name new (Some key) old = refl

-- The occurrence of a number that is held, with its instance, is the statement that is kept.
IsHeld : List SourceFile → ℕ → Option (ℕ × ℕ) → Option Occ → Type 0
IsHeld files entry None None = ⊤
IsHeld files entry None (Some o) = ⊥
IsHeld files entry (Some h) None = ⊥
IsHeld files entry (Some h) (Some o) = (slice_get (occurrences files entry) h.0 ≡ Some o) × IsAt files entry h.1 o.path

held_chosen : (files : List SourceFile) (entry : ℕ) (h : Option (ℕ × ℕ)) (o : Option Occ) → IsHeld files entry h o → IsChosen (occurrences files entry) o (option_map (λ p. p.0) h)
unfolding IsHeld
held_chosen files entry None None is = tt
held_chosen files entry None (Some o) is = absurd is
held_chosen files entry (Some h) None is = absurd is
held_chosen files entry (Some h) (Some o) is = is.0

-- the entry of an occurrence, and its instance
record HasEntry (files : List SourceFile) (entry : ℕ) (built : Built) (i : ℕ) (o : Occ) : Type 0 where
  e : Occurrence
  is : slice_get built.occurrences i ≡ Some e
  at : IsAt files entry e.node o.path

module _ (files : List SourceFile) (names : List (List ℕ)) (entry : ℕ) (built : Built) (ready : IsReady files names entry built) where
  has_entry : (i : ℕ) (o : Occ) → slice_get (occurrences files entry) i ≡ Some o → HasEntry files entry built i o
  has_entry i o there = by (slice_get built.occurrences i) refl
      (sym (slice_get-map (put_under (nodes files entry)) built.occurrences i) ∙ ap (λ (l : List (Option Spot)). slice_get l i) ready.is.under
      ∙ slice_get-map instance_spot (occurrences files entry) i ∙ ap (option_map instance_spot) there)
    where
      by : (t : Option Occurrence) → slice_get built.occurrences i ≡ t → option_map (put_under (nodes files entry)) t ≡ Some (Some (made_at o.path)) → HasEntry files entry built i o
      by None f g = absurd (none-some (Some (made_at o.path)) g)
      by (Some e) f g = record { e = e; is = f; at = record { is = same_Some (slice_get (nodes files entry) e.node) (Some (made_at o.path)) g } }

  module _ (number name : ℕ) (path : List ℕ) (at : IsAt files entry number path) where
    of_two : (i node : ℕ) (o : Occ) (old : Option (ℕ × ℕ)) (acc : Option Occ) → IsHeld files entry old acc → slice_get (occurrences files entry) i ≡ Some o → IsAt files entry node o.path
        → IsHeld files entry (Some (chosen_of old (i, node))) (Some (one_of acc o))
    unfolding IsHeld
    of_two i node o None None is there here = (there, here)
    of_two i node o None (Some a) is there here = absurd is
    of_two i node o (Some h) None is there here = absurd is
    of_two i node o (Some h) (Some a) is there here = by (nat_eq h.1 node) (bytes_eq a.path o.path)
        (same_truth (nat_eq h.1 node) (bytes_eq a.path o.path)
        (λ e. (bytes_eq-Decides a.path o.path).1 (same_path_at node a.path o.path (at_same h.1 node a.path (eqb-true h.1 node e) is.1) here))
        (λ e. eq-eqb h.1 node (ready.whole.once h.1 node o.path (subst (IsAt files entry h.1) ((bytes_eq-Decides a.path o.path).0 e) is.1) here)))
      where
        by : (b c : Bool) → b ≡ c → IsHeld files entry (Some (if b then (i, node) else h)) (Some (if c then o else a))
        by true true e = (there, here)
        by false false e = is
        by true false e = absurd (true≢false e)
        by false true e = absurd (true≢false (sym e))

    keeps : (i node : ℕ) (o : Occ) (old : Option (ℕ × ℕ)) (acc : Option Occ) → IsHeld files entry old acc → slice_get (occurrences files entry) i ≡ Some o → IsAt files entry node o.path
        → (b : Bool) → IsHeld files entry (if b then Some (chosen_of old (i, node)) else old) (if b then Some (one_of acc o) else acc)
    keeps i node o old acc is there here true = of_two i node o old acc is there here
    keeps i node o old acc is there here false = is

    noted_is : (i : ℕ) (o : Occ) (old : Option (ℕ × ℕ)) (h : HasEntry files entry built i o)
        → noted built number name i o.at.stmt old ≡ (if takes (name ∷ path) o then Some (chosen_of old (i, h.e.node)) else old)
    unfolding noted
    noted_is i o old h =
        ap (noted_entry built number name i o.at.stmt old) h.is
        ∙ chosen_hits number name (i, h.e.node) (target_in built h.e.node o.at.stmt) old
        ∙ ap (λ (b : Bool). if b then Some (chosen_of old (i, h.e.node)) else old) (target_law files names entry built ready number name path at o h.e.node h.at)

    step : (i : ℕ) (o : Occ) (old : Option (ℕ × ℕ)) (acc : Option Occ) → IsHeld files entry old acc → slice_get (occurrences files entry) i ≡ Some o
        → IsHeld files entry (noted built number name i o.at.stmt old) (keep (takes (name ∷ path)) acc o)
    step i o old acc is there =
        let h = has_entry i o there in
        subst (λ (x : Option (ℕ × ℕ)). IsHeld files entry x (keep (takes (name ∷ path)) acc o)) (sym (noted_is i o old h)) (keeps i h.e.node o old acc is there h.at (takes (name ∷ path) o))

    -- what is held behind occurrences from a number on is what is kept of them
    folded : (i : ℕ) (os : List Occ) (old : Option (ℕ × ℕ)) (acc : Option Occ) → ((j : ℕ) (o : Occ) → slice_get os j ≡ Some o → slice_get (occurrences files entry) (i + j) ≡ Some o) → IsHeld files entry old acc
        → IsHeld files entry (picked built number name i (map (λ o. o.at.stmt) os) old) (kept (takes (name ∷ path)) acc os)
    unfolding picked
    folded i [] old acc there is = is
    folded i (o ∷ os) old acc there is =
        folded (suc i) os (noted built number name i o.at.stmt old) (keep (takes (name ∷ path)) acc o)
        (λ j p e. let same : suc i + j ≡ i + suc j = omega arith in ap (slice_get (occurrences files entry)) same ∙ there (suc j) p e)
        (step i o old acc is (let same : i ≡ i + 0 = omega arith in ap (slice_get (occurrences files entry)) same ∙ there 0 o refl))

    kept_effective : kept (takes (name ∷ path)) None (occurrences files entry) ≡ effective files entry name path
    kept_effective =
        kept_all (takes (name ∷ path)) files entry (instances files entry) (instances_ordered files entry)
        ∙ all_around (takes (name ∷ path)) files entry path (λ p a e. tested_takes (takes (name ∷ path)) files entry path (takes_under name path) p a e)
        (instances files entry) (instances_ordered files entry) (λ q u. around_in files entry ready.whole number path q at u)
        ∙ sym (walked (takes (name ∷ path)) files entry path)
        ∙ ap last (sym (same_filter (assigns (name ∷ path)) (takes (name ∷ path)) (λ o. Under o.path path) (assigns_takes name path) (walk files entry path).stmts
        (walk_under files entry path path ([], refl))))

    counts_law : IsChosen (occurrences files entry) (effective files entry name path) (option_map (λ p. p.0) (picked built number name 0 (map (λ o. o.at.stmt) (occurrences files entry)) None))
    unfolding IsHeld
    counts_law = subst (λ (o : Option Occ). IsChosen (occurrences files entry) o (option_map (λ p. p.0) (picked built number name 0 (map (λ o. o.at.stmt) (occurrences files entry)) None))) kept_effective
        (held_chosen files entry (picked built number name 0 (map (λ o. o.at.stmt) (occurrences files entry)) None) (kept (takes (name ∷ path)) None (occurrences files entry))
        (folded 0 (occurrences files entry) None None (λ j o e. let same : 0 + j ≡ j = omega arith in ap (slice_get (occurrences files entry)) same ∙ e) tt))

  -- ---- what is held is of instances

  module _ (number name : ℕ) where
    -- where something is held the number is that of an instance
    abbrev Sound : Option (ℕ × ℕ) → Type 0
    Sound None = ⊤
    Sound (Some h) = IsThere files entry number

    chosen_sound : (new : ℕ × ℕ) (t old : Option (ℕ × ℕ)) → ((key : ℕ × ℕ) → t ≡ Some key → IsThere files entry key.0) → Sound old → Sound (chosen_for number name new t old)
    chosen_sound new None old there is = is
    chosen_sound new (Some key) old there is = by (same_key key (number, name)) refl
      where
        by : (b : Bool) → same_key key (number, name) ≡ b → Sound (if b then Some (chosen_of old new) else old)
        by true e = subst (IsThere files entry) (eqb-true key.0 number (and_true (nat_eq key.0 number) (nat_eq key.1 name) e).0) (there key refl)
        by false e = is

    noted_sound : (i : ℕ) (o : Occ) (old : Option (ℕ × ℕ)) → slice_get (occurrences files entry) i ≡ Some o → Sound old → Sound (noted built number name i o.at.stmt old)
    unfolding noted
    noted_sound i o old at is =
        let h = has_entry i o at in
        subst Sound (sym (ap (noted_entry built number name i o.at.stmt old) h.is))
        (chosen_sound (i, h.e.node) (target_in built h.e.node o.at.stmt) old (λ key e. target_there files names entry built ready o.path h.e.node h.at key o.at.stmt e) is)

    picked_sound : (i : ℕ) (os : List Occ) (old : Option (ℕ × ℕ)) → ((j : ℕ) (o : Occ) → slice_get os j ≡ Some o → slice_get (occurrences files entry) (i + j) ≡ Some o) → Sound old
        → Sound (picked built number name i (map (λ o. o.at.stmt) os) old)
    unfolding picked
    picked_sound i [] old there is = is
    picked_sound i (o ∷ os) old there is =
        picked_sound (suc i) os (noted built number name i o.at.stmt old)
        (λ j p e. let same : suc i + j ≡ i + suc j = omega arith in ap (slice_get (occurrences files entry)) same ∙ there (suc j) p e)
        (noted_sound i o old (let same : i ≡ i + 0 = omega arith in ap (slice_get (occurrences files entry)) same ∙ there 0 o refl) is)

    pub held_there : (ss : List Stmt) (h : ℕ × ℕ) → ss ≡ map (λ o. o.at.stmt) (occurrences files entry) → picked built number name 0 ss None ≡ Some h → IsThere files entry number
    held_there ss h is e = subst Sound (ap (λ (l : List Stmt). picked built number name 0 l None) (sym is) ∙ e)
        (picked_sound 0 (occurrences files entry) None (λ j o e. let same : 0 + j ≡ j = omega arith in ap (slice_get (occurrences files entry)) same ∙ e) tt)

pub assignments_count : AssignmentsCount
assignments_count files names entry built ss a ready is held = record {
  each = λ number name path at. subst (IsChosen (occurrences files entry) (effective files entry name path))
      (sym (ap (option_map (λ p. p.0)) (held number name ∙ ap (λ (l : List Stmt). picked built number name 0 l None) is)))
      (counts_law files names entry built ready number name path at);
}
