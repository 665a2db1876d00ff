-- One statement more that may assign.
use Rattle.std.proofs.Common.{◌≡◌, ℕ, suc, ◌+◌, ◌<◌, ◌≤◌, Bool, true, false, cond, ◌&&◌, nat_eq, List, [], ◌∷◌, Option, Some, None, length, get_or, drop, refl, sym, ap, ◌∙◌, Bor, add-one, true≢false}
use Rattle.std.specs.Prelude.{map, if◌then◌else◌}
use Rattle.std.proofs.lemmas.Bool.{eqb-true}
use Rattle.std.proofs.lemmas.List.{drop_all}
use Rattle.ato_ast.specs.declared.stmts.Stmt.{Stmt}
use Rattle.ato_elab.specs.declared.built.Built.{Built}
use Rattle.ato_elab.specs.Built.{same_key}
use Rattle.ato_elab.specs.Assigned.{chosen_of, noted, picked}
use Rattle.ato_elab.proofs.ParamLemmas.{drop_read}

and_true : (a b : Bool) → (a && b) ≡ true → (a ≡ true) × (b ≡ true)
and_true true b h = (refl, h)
and_true false b h = absurd (true≢false (sym h))

same_is : (x y : ℕ × ℕ) → same_key x y ≡ true → x ≡ y
same_is x y h = let both = and_true (nat_eq x.0 y.0) (nat_eq x.1 y.1) h in
    let first = eqb-true x.0 y.0 both.0 in let second = eqb-true x.1 y.1 both.1 in
    ap (λ (a : ℕ). (a, x.1)) first ∙ ap (λ (b : ℕ). (y.0, b)) second

pub put_law : (f g : ℕ × ℕ → Option (ℕ × ℕ)) (key new counts : ℕ × ℕ) → ((q : ℕ × ℕ) → g q ≡ cond (same_key key q) (Some counts) (f q)) → counts ≡ chosen_of (f key) new
    → (q : ℕ × ℕ) → g q ≡ (if same_key key q then Some (chosen_of (f q) new) else f q)
put_law f g key new counts updates e q = updates q ∙ by (same_key key q) refl
  where
    by : (b : Bool) → same_key key q ≡ b → cond b (Some counts) (f q) ≡ (if b then Some (chosen_of (f q) new) else f q)
    by true s = ap Some (e ∙ ap (λ (k : ℕ × ℕ). chosen_of (f k) new) (same_is key q s))
    by false s = refl

picked_cons : (built : Built) (instance name i : ℕ) (s : Stmt) (ss : List Stmt) (old : Option (ℕ × ℕ)) → picked built instance name i (s ∷ ss) old ≡ picked built instance name (i + 1) ss (noted built instance name i s old)
unfolding picked
picked_cons built instance name i s ss old = ap (λ (k : ℕ). picked built instance name k ss (noted built instance name i s old)) (sym (add-one i))

picked_nil : (built : Built) (instance name i : ℕ) (old : Option (ℕ × ℕ)) → picked built instance name i [] old ≡ old
unfolding picked
picked_nil built instance name i old = refl

pub picked_step : (built : Built) (instance name : ℕ) (ss : List (Bor Stmt)) (i : ℕ) (s : Bor Stmt) (old new : Option (ℕ × ℕ)) → i < length ss → s ≡ get_or ss i s → new ≡ noted built instance name i s.now old
    → picked built instance name i (map (λ s. s.now) (drop i ss)) old ≡ picked built instance name (i + 1) (map (λ s. s.now) (drop (i + 1) ss)) new
picked_step built instance name ss i s old new h e is =
    ap (λ (xs : List (Bor Stmt)). picked built instance name i (map (λ s. s.now) xs) old) (drop_read ss i s h e)
    ∙ picked_cons built instance name i s.now (map (λ s. s.now) (drop (i + 1) ss)) old
    ∙ ap (picked built instance name (i + 1) (map (λ s. s.now) (drop (i + 1) ss))) (sym is)

pub picked_end : (built : Built) (instance name : ℕ) (ss : List (Bor Stmt)) (i : ℕ) (old : Option (ℕ × ℕ)) → length ss ≤ i → picked built instance name i (map (λ s. s.now) (drop i ss)) old ≡ old
picked_end built instance name ss i old h = ap (λ (xs : List (Bor Stmt)). picked built instance name i (map (λ s. s.now) xs) old) (drop_all i ss h) ∙ picked_nil built instance name i old
