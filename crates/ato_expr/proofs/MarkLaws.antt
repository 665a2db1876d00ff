-- Marks of nodes, and how they change.
use Rattle.std.proofs.Common.{◌≡◌, ◌⊎◌, inl, inr, ⊎_elim, ℕ, zero, suc, ◌+◌, ◌<◌, ◌≤◌, Bool, true, false, List, [], ◌∷◌, ◌++◌, length, get_or, take, refl, sym, ◌∙◌, ap, subst, arith, add-one}
use Rattle.std.specs.Prelude.{Contains, ◌↔◌, slice_get, Some}
use Rattle.std.proofs.lemmas.Bool.{cases_order}
use Rattle.std.proofs.lemmas.List.Elements.{Contains-append_left, Contains-append_right, Contains-append_cases}
use Rattle.std.proofs.Math.Seq.{take-suc, take-length}
use Rattle.ato_base.proofs.ClassLaws.{first, only}
use Rattle.ato_expr.specs.Scratches.{IsSet, IsMarked}
use Rattle.ato_expr.specs.declared.scratch.Stretch.{Stretch}
use Rattle.ato_expr.specs.Tables.{Entry, IsTable, IsBelow, root, child}
use Rattle.ato_expr.proofs.LabelLaws.{same_entry}

-- an order is decided
pub before_or_from : (k n : ℕ) → (k < n) ⊎ (n ≤ k)
before_or_from k n = ⊎_elim (λ e. inr (omega arith)) (λ d. ⊎_elim (λ h. inl h) (λ h. inr (omega arith)) d) (cases_order k n)

false_true : {P : Type 0} {b : Bool} → b ≡ false → b ≡ true → P
false_true e d = absurd (let clash : false ≡ true = sym e ∙ d in cc)

-- the elements of a front that is longer by one
pub front_cases : (xs : List ℕ) (i x k : ℕ) → i < length xs → x ≡ get_or xs i 0 → Contains (take (i + 1) xs) k → Contains (take i xs) k ⊎ (k ≡ x)
front_cases xs i x k h e c =
    let longer : take (i + 1) xs ≡ take i xs ++ (get_or xs i 0 ∷ []) = ap (λ n. take n xs) (add-one i) ∙ take-suc xs i 0 h in
    elim (Contains-append_cases (take i xs) (get_or xs i 0 ∷ []) k (subst (λ ys. Contains ys k) longer c)) [ inl a ↦ inl a | inr a ↦ inr (only (get_or xs i 0) k a ∙ sym e) ]

pub front_in : (xs : List ℕ) (i x k : ℕ) → i < length xs → x ≡ get_or xs i 0 → Contains (take i xs) k ⊎ (k ≡ x) → Contains (take (i + 1) xs) k
front_in xs i x k h e c =
    let longer : take (i + 1) xs ≡ take i xs ++ (get_or xs i 0 ∷ []) = ap (λ n. take n xs) (add-one i) ∙ take-suc xs i 0 h in
    subst (λ ys. Contains ys k) (sym longer)
    (⊎_elim
    (λ a. Contains-append_left (take i xs) (get_or xs i 0 ∷ []) k a)
    (λ d. Contains-append_right (take i xs) (get_or xs i 0 ∷ []) k (subst (λ n. Contains (get_or xs i 0 ∷ []) n) (sym (d ∙ e)) (first (get_or xs i 0) [])))
    c)

-- a front that is all
pub whole : (xs : List ℕ) (i : ℕ) → i ≤ length xs → length xs ≤ i → take i xs ≡ xs
whole xs i h g = ap (λ n. take n xs) (let e : i ≡ length xs = omega arith in e) ∙ take-length xs

pub contains_at : (xs : List ℕ) (i : ℕ) → i < length xs → Contains xs (get_or xs i 0)
contains_at xs i h = (i, h, get_or_any xs i h)
  where
    get_or_any : (ys : List ℕ) (n : ℕ) → n < length ys → get_or ys n (get_or ys n 0) ≡ get_or ys n 0
    get_or_any [] n g = absurd (omega arith)
    get_or_any (y ∷ ys) zero g = refl
    get_or_any (y ∷ ys) (suc n) g = get_or_any ys n (omega arith)

-- an end that is above one more
pub above_more : (xs : List ℕ) (i end new : ℕ) → i < length xs → ((r : ℕ) → Contains (take i xs) r → r < end) → end ≤ new → get_or xs i 0 < new
    → (r : ℕ) → Contains (take (i + 1) xs) r → r < new
above_more xs i end new h above more own r c =
    ⊎_elim (λ a. let less : r < end = above r a in omega arith) (λ (e : r ≡ get_or xs i 0). omega arith) (front_cases xs i (get_or xs i 0) r h refl c)

-- nodes of a front and one more
pub front_marked : (old now new : List Bool) (from a b : ℕ) (xs : List ℕ) (i x : ℕ) → i < length xs → x ≡ get_or xs i 0
    → ((k : ℕ) → IsSet a now k ↔ (IsSet from old k ⊎ Contains (take i xs) k))
    → ((k : ℕ) → IsSet b new k ↔ (IsSet a now k ⊎ (k ≡ x)))
    → (k : ℕ) → IsSet b new k ↔ (IsSet from old k ⊎ Contains (take (i + 1) xs) k)
front_marked old now new from a b xs i x h e before step k = (
  λ s. ⊎_elim
      (λ t. ⊎_elim (λ u. inl u) (λ u. inr (front_in xs i x k h e (inl u))) ((before k).0 t))
      (λ d. inr (front_in xs i x k h e (inr d)))
      ((step k).0 s),
  λ s. (step k).1
      (⊎_elim
      (λ u. inl ((before k).1 (inl u)))
      (λ c. ⊎_elim (λ u. inl ((before k).1 (inr u))) (λ d. inr d) (front_cases xs i x k h e c))
      s),
)

-- ---- the nodes below roots

module _ (table : List Entry) (roots : List ℕ) where
  pub record Closed (first : ℕ) (marks : List Bool) (node end : ℕ) : Type 0 where
    pub below : (k : ℕ) → k < end → IsSet first marks k → IsBelow table roots k
    pub roots_set : (k : ℕ) → Contains roots k → IsSet first marks k
    pub closed : (k : ℕ) (e : Entry) (c : ℕ) → node ≤ k → k < end → IsSet first marks k → slice_get table k ≡ Some e → Contains e.children c → IsSet first marks c

  -- where the roots alone are marked
  pub roots_closed : (marks : List Bool) (first end : ℕ) → ((k : ℕ) → Contains roots k → k < end) → ((k : ℕ) → k < end → IsSet first marks k ↔ Contains roots k)
      → Closed first marks end end
  roots_closed marks first end above same = record {
    below = λ k h s. root ((same k h).0 s);
    roots_set = λ k c. (same k (above k c)).1 c;
    closed = λ k e c from h s at is. absurd (omega arith);
  }

  -- the children of a marked node are marked
  pub children_marked : (old new : List Bool) (a b next node end : ℕ) (e : Entry) → IsTable table → node + 1 ≡ next → next ≤ end
      → Closed a old next end → IsSet a old node → slice_get table node ≡ Some e
      → ((k : ℕ) → IsSet b new k ↔ (IsSet a old k ⊎ Contains e.children k)) → Closed b new node end
  children_marked old new a b next node end e t n h inv here at step = record {
    below = λ k within s. ⊎_elim (λ u. inv.below k within u) (λ c. child e (inv.below node (omega arith) here) at c) ((step k).0 s);
    roots_set = λ k c. (step k).1 (inl (inv.roots_set k c));
    closed = λ k d c from within s at' is.
        let was : IsSet a old k = ⊎_elim (λ u. u) (λ g. absurd (let less : k < node = t.before node e at k g in omega arith)) ((step k).0 s) in
        ⊎_elim
        (λ more. (step c).1 (inl (inv.closed k d c more within was at' is)))
        (λ same. (step c).1 (inr (subst (λ (y : Entry). Contains y.children c) (same_entry table k d e at' (subst (λ m. slice_get table m ≡ Some e) (sym same) at)) is)))
        (at_or_after k node next n from);
  }
    where
      at_or_after : (k m p : ℕ) → m + 1 ≡ p → m ≤ k → (p ≤ k) ⊎ (k ≡ m)
      at_or_after k m p e g = ⊎_elim (λ l. inr (omega arith)) (λ l. inl l) (before_or_from k p)

  -- a node that is not marked changes nothing
  pub not_marked : (marks : List Bool) (a next node end : ℕ) → node + 1 ≡ next → Closed a marks next end → get_or marks node false ≡ false → Closed a marks node end
  not_marked marks a next node end n inv e = record {
    below = inv.below;
    roots_set = inv.roots_set;
    closed = λ k d c from within s at is.
        ⊎_elim
        (λ l. false_true (ap (λ m. get_or marks m false) (let same : k ≡ node = omega arith in same) ∙ e) s.set)
        (λ l. inv.closed k d c l within s at is)
        (before_or_from k next);
  }

  -- once no node is left, the marked nodes are those below the roots
  pub all_below : (marks : List Bool) (first node end : ℕ) → IsTable table → node ≤ first → ((k : ℕ) → Contains roots k → k < end) → Closed first marks node end
      → (k : ℕ) → ((k < end) × IsSet first marks k) ↔ IsBelow table roots k
  all_below marks first node end t h above inv k = (λ s. inv.below k s.0 s.1, set_below)
    where
      set_below : {n : ℕ} → IsBelow table roots n → (n < end) × IsSet first marks n
      set_below (root {n} c) = (above n c, inv.roots_set n c)
      set_below (child {n} {c} e below at is) =
          let own = set_below below in
          let within : n < end = own.0 in
          let less : c < n = t.before n e at c is in
          (omega arith, inv.closed n e c (let f : first ≤ n = own.1.from in omega arith) within own.1 at is)

-- marks of a stretch
pub stretch_marked : (table : List Entry) (roots : List ℕ) (stretch : Stretch) (marks : List Bool)
    → ((k : ℕ) → ((k < stretch.end) × IsSet stretch.first marks k) ↔ IsBelow table roots k)
    → (k : ℕ) → IsMarked stretch marks k ↔ IsBelow table roots k
stretch_marked table roots stretch marks same k = (
  λ m. (same k).0 (m.below, record { from = m.from; set = m.set }),
  λ b. let s = (same k).1 b in record { from = s.1.from; below = s.0; set = s.1.set },
)
