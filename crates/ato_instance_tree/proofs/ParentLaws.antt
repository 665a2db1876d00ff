-- The tests of a node's parent, and the path of a node behind those of the nodes before it.
use Rattle.std.proofs.Common.{◌≡◌, ◌<◌, ℕ, zero, suc, ◌+◌, Bool, true, false, true≢false, ◌&&◌, ◌||◌, nat_eq, List, [], ◌∷◌, ◌++◌, fold, length, Option, Some, None, refl, ap, sym, subst, ◌∙◌, append_assoc, length-append, arith}
use Rattle.std.specs.Prelude.{slice_get, option_to_list}
use Rattle.std.specs.Bool.{beq}
use Rattle.std.specs.List.{list_any}
use Rattle.std.proofs.lemmas.Bool.{eqb-true, eq-eqb}
use Rattle.std.proofs.lemmas.Option.{none-some, same_Some}
use Rattle.ato_instance_tree.specs.declared.tree.Node.{Node}
use Rattle.ato_instance_tree.specs.Trees.{Where, where_at, below, with_path}
use Rattle.ato_instance_tree.proofs.TreeLaws.{grown}

-- ---- tests

pub and_parts : (a b : Bool) → (a && b) ≡ true → (a ≡ true) × (b ≡ true)
and_parts true b e = (refl, e)
and_parts false b e = absurd (true≢false (sym e))

pub both : (a b : Bool) → a ≡ true → b ≡ true → (a && b) ≡ true
both a b e f = ap (λ x. x && b) e ∙ f

pub same_flag : (a b : Bool) → beq a b ≡ true → a ≡ b
same_flag true true e = refl
same_flag true false e = absurd (true≢false (sym e))
same_flag false true e = absurd (true≢false (sym e))
same_flag false false e = refl

pub flag_same : (a : Bool) → beq a a ≡ true
flag_same true = refl
flag_same false = refl

pub parent_is : (a : ℕ) (o : Option ℕ) → list_any (nat_eq a) (option_to_list o) ≡ true → o ≡ Some a
parent_is a None e = absurd (true≢false (sym e))
parent_is a (Some b) e = ap Some (sym (eqb-true a b (or_no_more (nat_eq a b) e))) where
  or_no_more : (x : Bool) → (x || false) ≡ true → x ≡ true
  or_no_more true k = refl
  or_no_more false k = k

pub is_parent : (a : ℕ) → list_any (nat_eq a) (option_to_list (Some a)) ≡ true
is_parent a = ap (λ x. x || false) (eq-eqb a a refl)

-- ---- nodes and their paths

pub item_there : {X : Type 0} (xs : List X) (i : ℕ) → i < length xs → (x : X) × (slice_get xs i ≡ Some x)
item_there [] i h = absurd (omega arith)
item_there (x ∷ xs) zero h = (x, refl)
item_there (x ∷ xs) (suc i) h = item_there xs i (omega arith)

pub where_mid : (front : List Where) (w : Where) (rest : List Where) (i : ℕ) → length front ≡ i → where_at (front ++ w ∷ rest) i ≡ w
where_mid [] w rest zero e = refl
where_mid [] w rest (suc i) e = absurd (omega arith)
where_mid (v ∷ front) w rest zero e = absurd (omega arith)
where_mid (v ∷ front) w rest (suc i) e = where_mid front w rest i (omega arith)

-- The path of a node stands behind those of the nodes before it.
pub record IsMid (ws : List Where) (n : Node) (j : ℕ) : Type 0 where
  pub front : List Where
  pub rest : List Where
  pub is : ws ≡ front ++ below front n n.parent ∷ rest
  pub long : length front ≡ j

pub mid_of : (ws : List Where) (ns : List Node) (j : ℕ) (n : Node) → slice_get ns j ≡ Some n → IsMid (fold with_path ws ns) n (length ws + j)
mid_of ws [] j n e = absurd (none-some n e)
mid_of ws (m ∷ ns) zero n e =
    let more = grown (with_path ws m) ns in
    subst (λ x. IsMid (fold with_path (with_path ws m) ns) x (length ws + 0)) (same_Some m n e)
    (record { front = ws; rest = more.0; is = more.1 ∙ append_assoc ws (below ws m m.parent ∷ []) more.0; long = omega arith })
mid_of ws (m ∷ ns) (suc j) n e =
    let long = length-append ws (below ws m m.parent ∷ []) in
    subst (IsMid (fold with_path (with_path ws m) ns) n) (omega arith) (mid_of (with_path ws m) ns j n e)
