-- The numbers of parts, by their nodes and by their paths.
use Rattle.std.proofs.Common.{◌≡◌, ◌≢◌, ℕ, zero, suc, ◌+◌, ◌<◌, ◌≤◌, Bool, true, false, List, [], ◌∷◌, length, get_or, set, inl, inr, refl, ap, sym, ◌∙◌, subst, arith, get_or-set_same, get_or-set_other}
use Rattle.std.specs.Prelude.{◌⊎◌, ◌==◌, cond, slice_get}
use Rattle.std.specs.List.{AllZip, position_or_len}
use Rattle.std.specs.Str.{bytes_eq}
use Rattle.std.proofs.Math.ListN.{length-set}
use Rattle.std.proofs.lemmas.Bool.{eqb-true, eq-eqb, false_from_ne_true}
use Rattle.std.proofs.lemmas.List.Recursion.{is_position_or_len}
use Rattle.std.proofs.lemmas.List.Sums.{position_or_len_is}
use Rattle.std.proofs.lemmas.Option.{same_Some}
use Rattle.std.proofs.lemmas.Slice.Eq.{bytes_eq-Decides}
use Rattle.ato_files.specs.declared.program.Program.{Program}
use Rattle.ato_instance_tree.specs.Laws.{at_names}
use Rattle.ato_instance_tree.specs.Order.{made_at, nodes}
use Rattle.ato_instance_tree.proofs.SpotLaws.{no_node_twice}
use Rattle.ato_links.specs.Parts.{parts}
use Rattle.ato_netlists.specs.declared.parts.Part.{Part}
use Rattle.ato_netlists.specs.Boards.{AreNumbers}
use Rattle.ato_netlists.specs.Known.{IsAt}
use Rattle.ato_netlists.specs.Parts.{IsPart, AreParts}

-- ---- by nodes

-- A node has the place of the first of so many parts that is its, or the number of all.
pub record IsNumber (ps : List Part) (n node number : ℕ) : Type 0 where
  pub is : (number ≡ length ps) ⊎ ((number < n) × ((d : Part) → (get_or ps number d).node ≡ node))
  pub before : (j : ℕ) (d : Part) → j < n → j < number → (get_or ps j d).node ≢ node

pub record AreNumbered (count : ℕ) (ps : List Part) (numbers : List ℕ) (n : ℕ) : Type 0 where
  pub size : length numbers ≡ count
  pub each : (node : ℕ) → node < count → IsNumber ps n node (get_or numbers node 0)

pub none_numbered : (count : ℕ) (ps : List Part) (numbers : List ℕ) → length numbers ≡ count → ((node : ℕ) → node < count → get_or numbers node 0 ≡ length ps) → AreNumbered count ps numbers 0
none_numbered count ps numbers size free = record {
  size = size;
  each = λ node h. record { is = inl (free node h); before = λ j d l m. absurd (omega (arith, l)) };
}

module _ (count : ℕ) (ps : List Part) (numbers : List ℕ) (n : ℕ) (p : Part) (old : AreNumbered count ps numbers n) (here : n < length ps) (is : (d : Part) → p ≡ get_or ps n d) where
  -- the parts up to the last one are none of the node's
  up_to : (node number : ℕ) → ((j : ℕ) (d : Part) → j < n → j < number → (get_or ps j d).node ≢ node) → (n < number → p.node ≢ node)
      → (j : ℕ) (d : Part) → j < suc n → j < number → (get_or ps j d).node ≢ node
  up_to node number earlier other j d l m = elim (last_or n j l) [
    | inl e ↦ (λ same. other (omega (arith, e, m)) (ap (λ (q : Part). q.node) (is d ∙ ap (λ k. get_or ps k d) (sym e)) ∙ same))
    | inr k ↦ earlier j d k m
  ] where
    last_or : (a b : ℕ) → b < suc a → (b ≡ a) ⊎ (b < a)
    last_or zero zero h = inl refl
    last_or zero (suc b) h = absurd (omega (arith, h))
    last_or (suc a) zero h = inr (omega arith)
    last_or (suc a) (suc b) h = elim (last_or a b (omega (arith, h))) [ inl e ↦ inl (ap suc e) | inr k ↦ inr (omega (arith, k)) ]

  later : (node number : ℕ) → (number ≡ length ps) ⊎ ((number < n) × ((d : Part) → (get_or ps number d).node ≡ node))
      → (number ≡ length ps) ⊎ ((number < suc n) × ((d : Part) → (get_or ps number d).node ≡ node))
  later node number (inl e) = inl e
  later node number (inr h) = inr (omega (arith, h.0), h.1)

  -- the part is no node's, or not the first of its node
  pub left : (p.node < count → get_or numbers p.node 0 ≢ length ps) → AreNumbered count ps numbers (suc n)
  left has = record {
    size = old.size;
    each = λ node h.
        let was = old.each node h in
        record {
          is = later node (get_or numbers node 0) was.is;
          before = up_to node (get_or numbers node 0) was.before (λ l same. earlier node (get_or numbers node 0) l was.is
              (λ e. has (subst (λ k. k < count) (sym same) h) (ap (λ k. get_or numbers k 0) same ∙ e)));
        };
  } where
    earlier : (node number : ℕ) → n < number → (number ≡ length ps) ⊎ ((number < n) × ((d : Part) → (get_or ps number d).node ≡ node)) → (number ≡ length ps → ⊥) → ⊥
    earlier node number l (inl e) free = free e
    earlier node number l (inr h) free = omega (arith, l, h.0)

  -- the part is the first of its node
  pub put : (now : List ℕ) → p.node < count → get_or numbers p.node 0 ≡ length ps → now ≡ set numbers p.node n → AreNumbered count ps now (suc n)
  put now inside free e = record {
    size = ap length e ∙ length-set numbers p.node n ∙ old.size;
    each = λ node h. by_node node h (same_or node p.node);
  } where
    same_or : (a b : ℕ) → (a ≡ b) ⊎ (a ≢ b)
    same_or zero zero = inl refl
    same_or zero (suc b) = inr (λ f. omega (arith, f))
    same_or (suc a) zero = inr (λ f. omega (arith, f))
    same_or (suc a) (suc b) = elim (same_or a b) [ inl f ↦ inl (ap suc f) | inr g ↦ inr (λ f. g (omega (arith, f))) ]

    there : get_or now p.node 0 ≡ n
    there = ap (λ l. get_or l p.node 0) e ∙ get_or-set_same numbers p.node n 0 (omega (arith, inside, old.size))

    first : IsNumber ps (suc n) p.node n
    first = record {
      is = inr (omega arith, λ d. ap (λ (q : Part). q.node) (sym (is d)));
      before = λ j d l m. (old.each p.node inside).before j d m (omega (arith, m, here, free));
    }

    by_node : (node : ℕ) → node < count → (node ≡ p.node) ⊎ (node ≢ p.node) → IsNumber ps (suc n) node (get_or now node 0)
    by_node node h (inl same) = subst (λ k. IsNumber ps (suc n) k (get_or now k 0)) (sym same) (subst (IsNumber ps (suc n) p.node) (sym there) first)
    by_node node h (inr other) =
        let was = old.each node h in
        let kept : get_or now node 0 ≡ get_or numbers node 0 = ap (λ l. get_or l node 0) e ∙ get_or-set_other numbers p.node node n 0 other in
        subst (IsNumber ps (suc n) node) (sym kept) (record {
          is = later node (get_or numbers node 0) was.is;
          before = up_to node (get_or numbers node 0) was.before (λ l same. other (sym same));
        })

pub all_numbered : (count : ℕ) (ps : List Part) (numbers : List ℕ) (n : ℕ) → n ≡ length ps → AreNumbered count ps numbers n → AreNumbers count ps numbers
all_numbered count ps numbers n all are = record {
  size = are.size;
  each = λ node h.
      let it = are.each node h in
      let d : Part = record { node = 0; slot = false } in
      sym (position_or_len_is (λ (p : Part). p.node == node) ps (get_or numbers node 0) d (most node (get_or numbers node 0) it.is)
      (λ k l. false_from_ne_true ((get_or ps k d).node == node) (λ t. it.before k d (omega (arith, l, most node (get_or numbers node 0) it.is, all)) l (eqb-true (get_or ps k d).node node t)))
      (λ l. passes node (get_or numbers node 0) d l it.is));
} where
  most : (node number : ℕ) → (number ≡ length ps) ⊎ ((number < n) × ((d : Part) → (get_or ps number d).node ≡ node)) → number ≤ length ps
  most node number (inl e) = omega (arith, e)
  most node number (inr h) = omega (arith, h.0, all)

  passes : (node number : ℕ) (d : Part) → number < length ps → (number ≡ length ps) ⊎ ((number < n) × ((d : Part) → (get_or ps number d).node ≡ node)) → ((get_or ps number d).node == node) ≡ true
  passes node number d l (inl e) = absurd (omega (arith, l, e))
  passes node number d l (inr h) = eq-eqb (get_or ps number d).node node (h.1 d)

-- ---- by paths

-- the place of the first item that passes
first_place : {X : Type 0} → (X → Bool) → List X → ℕ
first_place p [] = 0
first_place p (x ∷ xs) = cond (p x) 0 (1 + first_place p xs)

same_flag : (a b : Bool) → (a ≡ true → b ≡ true) → (b ≡ true → a ≡ true) → a ≡ b
same_flag true b f g = sym (f refl)
same_flag false true f g = g refl
same_flag false false f g = refl

module _ (program : Program) (entry number : ℕ) (path : List ℕ) (at : IsAt program entry number path) where
  same_test : (other : List ℕ) (p : Part) → IsPart program entry other p → (p.node == number) ≡ bytes_eq path other
  same_test other p part = same_flag (p.node == number) (bytes_eq path other)
      (λ t.
      let same : made_at path ≡ made_at other = same_Some (made_at path) (made_at other) (sym at.is ∙ ap (slice_get (nodes program.files entry)) (sym (eqb-true p.node number t)) ∙ part.at.is) in
      let paths : path ≡ other = cc in
      (bytes_eq-Decides path other).1 paths)
      (λ t. eq-eqb p.node number (no_node_twice program.files entry p.node number (made_at other) (made_at path) part.at.is at.is (ap at_names (sym ((bytes_eq-Decides path other).0 t)))))

  same_place : (paths : List (List ℕ)) (ps : List Part) → AllZip (IsPart program entry) paths ps → first_place (λ (p : Part). p.node == number) ps ≡ first_place (bytes_eq path) paths
  unfolding first_place
  same_place [] [] z = refl
  same_place [] (p ∷ ps) z = absurd z
  same_place (other ∷ paths) [] z = absurd z
  same_place (other ∷ paths) (p ∷ ps) z =
      ap (λ b. cond b 0 (1 + first_place (λ (q : Part). q.node == number) ps)) (same_test other p z.0)
      ∙ ap (λ k. cond (bytes_eq path other) 0 (1 + k)) (same_place paths ps z.1)

  -- the number of a part by its path
  pub by_path : (ps : List Part) → AreParts program entry ps → position_or_len (λ (p : Part). p.node == number) ps ≡ position_or_len (bytes_eq path) (parts program.files entry program.names)
  unfolding first_place
  by_path ps are =
      sym (is_position_or_len (first_place (λ (p : Part). p.node == number)) (λ (p : Part). p.node == number) refl (λ x xs. refl) ps)
      ∙ same_place (parts program.files entry program.names) ps are
      ∙ is_position_or_len (first_place (bytes_eq path)) (bytes_eq path) refl (λ x xs. refl) (parts program.files entry program.names)
