-- The fault of the tree that stands is the first one, in tree order.
use Rattle.std.proofs.Common.{◌≡◌, ℕ, zero, suc, List, [], ◌∷◌, ◌++◌, take, Some, ◌↔◌, refl, ap, sym, ◌∙◌, append_assoc, append-nil}
use Rattle.std.specs.Prelude.{slice_get}
use Rattle.std.proofs.lemmas.Option.{none-some, same_Some}
use Rattle.ato_base.specs.declared.faults.Fault.{Fault}
use Rattle.ato_files.specs.declared.program.SourceFile.{SourceFile}
use Rattle.ato_files.specs.declared.program.Program.{Program}
use Rattle.ato_files.specs.Lists.{first_of_all}
use Rattle.ato_instance_tree.specs.declared.tree.Tree.{Tree}
use Rattle.ato_instance_tree.specs.Order.{instances}
use Rattle.ato_instance_tree.specs.TreeFaults.{Limits, instance_faults, faults_from, tree_fault}
use Rattle.ato_instance_tree.specs.Elaborated.{IsElaborated, stands}
use Rattle.ato_instance_tree.specs.Laws.{IsFirstFault}
use Rattle.ato_instance_tree.proofs.PushLaws.{faults_append}
use Rattle.ato_instance_tree.proofs.DepthLaws.{nil_left, nil_right}

module _ (files : List SourceFile) (entry : ℕ) (most : Limits) where
  -- each instance without a fault, and all of them
  each_sound : (before xs : List (List ℕ)) → faults_from files entry most before xs ≡ [] → (i : ℕ) (p : List ℕ) → slice_get xs i ≡ Some p → instance_faults files entry most (before ++ take i xs) p ≡ []
  each_sound before [] none i p e = absurd (none-some p e)
  each_sound before (x ∷ xs) none zero p e =
      ap (λ b. instance_faults files entry most b p) (append-nil before) ∙ ap (instance_faults files entry most before) (sym (same_Some x p e)) ∙ nil_left (instance_faults files entry most before x) _ none
  each_sound before (x ∷ xs) none (suc i) p e =
      ap (λ b. instance_faults files entry most b p) (sym (append_assoc before (x ∷ []) (take i xs)))
      ∙ each_sound (before ++ x ∷ []) xs (nil_right (instance_faults files entry most before x) _ none) i p e

  none_both : (xs ys : List Fault) → xs ≡ [] → ys ≡ [] → xs ++ ys ≡ []
  none_both xs ys e f = ap (λ z. z ++ ys) e ∙ f

  all_sound : (before xs : List (List ℕ)) → ((i : ℕ) (p : List ℕ) → slice_get xs i ≡ Some p → instance_faults files entry most (before ++ take i xs) p ≡ []) → faults_from files entry most before xs ≡ []
  all_sound before [] each = refl
  all_sound before (x ∷ xs) each = none_both (instance_faults files entry most before x) (faults_from files entry most (before ++ x ∷ []) xs)
      (ap (λ b. instance_faults files entry most b x) (sym (append-nil before)) ∙ each zero x refl)
      (all_sound (before ++ x ∷ []) xs (λ i p e. ap (λ b. instance_faults files entry most b p) (append_assoc before (x ∷ []) (take i xs)) ∙ each (suc i) p e))

  -- Where the first fault is.
  record IsAt (before xs : List (List ℕ)) (f : Fault) : Type 0 where
    front : List (List ℕ)
    path : List ℕ
    after : List (List ℕ)
    is : xs ≡ front ++ path ∷ after
    none : faults_from files entry most before front ≡ []
    has : first_of_all (instance_faults files entry most (before ++ front) path) ≡ Some f

  -- the first one's fault, or else that of the others
  split : (before : List (List ℕ)) (x : List ℕ) (xs : List (List ℕ)) (f : Fault) (here : List Fault) → instance_faults files entry most before x ≡ here
      → (first_of_all (faults_from files entry most (before ++ x ∷ []) xs) ≡ Some f → IsAt (before ++ x ∷ []) xs f)
      → first_of_all (here ++ faults_from files entry most (before ++ x ∷ []) xs) ≡ Some f → IsAt before (x ∷ xs) f
  split before x xs f [] e more first = let at = more first in record {
    front = x ∷ at.front;
    path = at.path;
    after = at.after;
    is = ap (λ l. x ∷ l) at.is;
    none = none_both (instance_faults files entry most before x) _ e at.none;
    has = ap (λ b. first_of_all (instance_faults files entry most b at.path)) (sym (append_assoc before (x ∷ []) at.front)) ∙ at.has;
  }
  split before x xs f (g ∷ gs) e more first = record {
    front = [];
    path = x;
    after = xs;
    is = refl;
    none = refl;
    has = ap (λ b. first_of_all (instance_faults files entry most b x)) (append-nil before) ∙ ap first_of_all e ∙ first;
  }

  found_at : (before xs : List (List ℕ)) (f : Fault) → first_of_all (faults_from files entry most before xs) ≡ Some f → IsAt before xs f
  found_at before [] f e = absurd (none-some f e)
  found_at before (x ∷ xs) f e = split before x xs f (instance_faults files entry most before x) refl (found_at (before ++ x ∷ []) xs f) e

  first_append : (xs ys : List Fault) (f : Fault) → first_of_all xs ≡ Some f → first_of_all (xs ++ ys) ≡ Some f
  first_append [] ys f e = absurd (none-some f e)
  first_append (x ∷ xs) ys f e = e

  pub first_stands : (f : Fault) → (tree_fault files most (Some entry) ≡ Some f) ↔ IsFirstFault files entry most f
  first_stands f = (
    (λ e. let at = found_at [] (instances files entry) f e in
        record { before = at.front; path = at.path; after = at.after; is = at.is; sound = each_sound [] at.front at.none; has = at.has }),
    (λ first. ap (λ l. first_of_all (faults_from files entry most [] l)) first.is
        ∙ ap first_of_all (faults_append files entry most [] first.before (first.path ∷ first.after)
        ∙ ap (λ l. l ++ faults_from files entry most first.before (first.path ∷ first.after)) (all_sound [] first.before first.sound))
        ∙ first_append (instance_faults files entry most first.before first.path) _ f first.has),
  )

pub one_fault : (most : Limits) (program : Program) (name : List ℕ) (tree : Tree) (f : Fault) → IsElaborated most program name tree → stands most program name ≡ Some f → ⊥
one_fault most program name tree f is e = none-some f (sym is.sound ∙ e)
