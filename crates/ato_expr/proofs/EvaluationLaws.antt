-- A pass over the marked nodes, from the first to the last.
use Rattle.std.proofs.Common.{◌≡◌, ◌⊎◌, inl, inr, ⊎_elim, ℕ, zero, suc, ◌+◌, ◌<◌, ◌≤◌, Bool, true, false, List, [], ◌∷◌, length, get_or, set, refl, ap, sym, ◌∙◌, subst, arith}
use Rattle.std.specs.Prelude.{Contains, ◌↔◌, slice_get, Some}
use Rattle.std.proofs.lemmas.Bool.{cases_order}
use Rattle.ato_frac.specs.declared.faults.NumFault.{NumFault}
use Rattle.ato_frac.specs.declared.fraction.Frac.{Frac}
use Rattle.ato_expr.specs.declared.scratch.Stretch.{Stretch}
use Rattle.ato_expr.specs.AtPoint.{GivesFraction, RefusesFraction}
use Rattle.ato_expr.specs.Held.{IsHeld}
use Rattle.ato_expr.specs.Labels.{HasLabel, IsRefused, StopsFor}
use Rattle.ato_expr.specs.Scratches.{IsMarked}
use Rattle.ato_expr.specs.Tables.{Entry, IsTable, IsBelow, child}

-- what is written, and what stands before it
pub written : {A : Type 0} (xs : List A) (i : ℕ) (x : A) → i < length xs → slice_get (set xs i x) i ≡ Some x
written [] i x h = absurd (omega arith)
written (y ∷ ys) zero x h = refl
written (y ∷ ys) (suc i) x h = written ys i x (omega arith)

pub before_written : {A : Type 0} (xs : List A) (i j : ℕ) (x : A) → j < i → slice_get (set xs i x) j ≡ slice_get xs j
before_written [] i j x h = refl
before_written (y ∷ ys) zero j x h = absurd (omega arith)
before_written (y ∷ ys) (suc i) zero x h = refl
before_written (y ∷ ys) (suc i) (suc j) x h = before_written ys i j x (omega arith)

-- the last one, or one before
pub last_or_before : (k node : ℕ) → k < node + 1 → (k < node) ⊎ (k ≡ node)
last_or_before k node h = ⊎_elim (λ e. inr e) (λ d. ⊎_elim (λ g. inl g) (λ g. absurd (omega arith)) d) (cases_order k node)

module _ (table : List Entry) (roots : List ℕ) (world : List Frac) (stretch : Stretch) (old now : List Bool)
    (marks : (k : ℕ) → IsMarked stretch old k ↔ IsBelow table roots k) (same : now ≡ old) where
  pub node_below : (node : ℕ) → stretch.first ≤ node → node < stretch.end → get_or now node false ≡ true → IsBelow table roots node
  node_below node from below set = (marks node).0 (record { from = from; below = below; set = subst (λ (ms : List Bool). get_or ms node false ≡ true) same set })

  -- a node that is not marked is not below the roots
  pub held_still : (ends : List (Frac × Frac)) (node : ℕ) → get_or now node false ≡ false
      → ((k : ℕ) → k < node → IsBelow table roots k → IsHeld table world ends k) → (k : ℕ) → k < node + 1 → IsBelow table roots k → IsHeld table world ends k
  held_still ends node unset held k h b =
      ⊎_elim
      (λ g. held k g b)
      (λ (e : k ≡ node).
      let m = (marks k).1 b in
      let clash : false ≡ true = sym unset ∙ ap (λ (ms : List Bool). get_or ms node false) same ∙ ap (λ n. get_or old n false) (sym e) ∙ m.set in
      absurd (let c : false ≡ true = clash in cc))
      (last_or_before k node h)

  -- after the last, all are held
  pub all_held : (ends : List (Frac × Frac)) (node : ℕ) → stretch.end ≤ node
      → ((k : ℕ) → k < node → IsBelow table roots k → IsHeld table world ends k) → (k : ℕ) → IsBelow table roots k → IsHeld table world ends k
  all_held ends node h held k b = held k (let m = (marks k).1 b in let l : k < stretch.end = m.below in omega arith) b

module _ (table : List Entry) (roots : List ℕ) (world : List Frac) where
  -- one fraction more
  pub held_more : (ends : List (Frac × Frac)) (node : ℕ) (x : Frac) → node < length ends → HasLabel (GivesFraction world) table node x
      → ((k : ℕ) → k < node → IsBelow table roots k → IsHeld table world ends k)
      → (k : ℕ) → k < node + 1 → IsBelow table roots k → IsHeld table world (set ends node (x, x)) k
  held_more ends node x there has held k h b =
      ⊎_elim
      (λ g. let i = held k g b in record { label = i.label; other = i.other; at = before_written ends node k (x, x) g ∙ i.at; has = i.has })
      (λ (e : k ≡ node). record {
        label = x;
        other = x;
        at = ap (slice_get (set ends node (x, x))) e ∙ written ends node (x, x) there;
        has = subst (λ n. HasLabel (GivesFraction world) table n x) (sym e) has;
      })
      (last_or_before k node h)

  -- the children of a node below the roots are held, where all before it are
  pub children_held : (ends : List (Frac × Frac)) (node : ℕ) → IsTable table → IsBelow table roots node
      → ((k : ℕ) → k < node → IsBelow table roots k → IsHeld table world ends k)
      → (c : ℕ) (e : Entry) → slice_get table node ≡ Some e → Contains e.children c → IsHeld table world ends c
  children_held ends node t below held c e at is = held c (t.before node e at c is) (child e below at is)

  -- the first one that is refused
  pub stops_here : (ends : List (Frac × Frac)) (node : ℕ) (f : NumFault) → IsBelow table roots node → IsRefused (GivesFraction world) RefusesFraction table node f
      → ((k : ℕ) → k < node → IsBelow table roots k → IsHeld table world ends k) → StopsFor (GivesFraction world) RefusesFraction table roots f
  stops_here ends node f below refused held =
      (node, record { below = below; refused = refused; earlier = λ k h b. let i = held k h b in (i.label, i.has) })
