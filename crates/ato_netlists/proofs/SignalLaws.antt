-- The signal with the fewest names of each class is kept.
use Rattle.std.proofs.Common.{◌≡◌, ◌≢◌, ℕ, suc, ◌<◌, ◌≤◌, Bool, true, false, true≢false, List, ◌∷◌, length, get_or, drop, set, Option, Some, None, refl, ap, sym, ◌∙◌, subst, arith, get_or-set_same, get_or-set_other}
use Rattle.std.specs.Prelude.{◌&&◌, IfSome, ◌==◌, nat_lt, if◌then◌else◌}
use Rattle.std.proofs.Math.ListN.{length-set}
use Rattle.std.proofs.Math.Seq.{drop-cons}
use Rattle.std.proofs.lemmas.Bool.{eqb-true, eq-eqb}
use Rattle.std.proofs.lemmas.Option.{none-some, same_Some}
use Rattle.std.proofs.lemmas.List.{drop_all, get_or_default}
use Rattle.ato_instance_tree.specs.declared.tree.Node.{Node}
use Rattle.ato_netlists.specs.Signals.{is_signal, shallower_of, signal_from, AreSignals, depths_of}

-- The signals of the nodes before a number are kept.
pub record AreKept (ns : List Node) (depths of : List ℕ) (found : List (Option ℕ)) (n : ℕ) : Type 0 where
  pub size : length found ≡ length ns
  pub within : (class signal : ℕ) → class < length ns → get_or found class None ≡ Some signal → signal < n
  pub each : (class : ℕ) → class < length ns → signal_from depths of class n (get_or found class None) (drop n ns) ≡ signal_from depths of class 0 None ns

pub none_kept : (ns : List Node) (depths of : List ℕ) (found : List (Option ℕ)) → length found ≡ length ns → ((class : ℕ) → class < length ns → get_or found class None ≡ None)
    → AreKept ns depths of found 0
none_kept ns depths of found size free = record {
  size = size;
  within = λ class signal h e. absurd (none-some signal (sym (free class h) ∙ e));
  each = λ class h. ap (λ best. signal_from depths of class 0 best ns) (free class h);
}

-- one of the two is taken
pub one_of : (depths : List ℕ) (best : Option ℕ) (other signal n : ℕ) → ((s : ℕ) → best ≡ Some s → s < n) → other < n → shallower_of depths best other ≡ Some signal → signal < n
one_of depths None other signal n h l e = subst (λ s. s < n) (same_Some other signal e) l
one_of depths (Some s) other signal n h l e = by (nat_lt (get_or depths other 0) (get_or depths s 0)) e where
  by : (b : Bool) → (if b then Some other else Some s) ≡ Some signal → signal < n
  by true f = subst (λ x. x < n) (same_Some other signal f) l
  by false f = h signal f

-- what is kept is a node
pub within_kept : (ns : List Node) (depths of : List ℕ) (found : List (Option ℕ)) (n most class : ℕ) (o : Option ℕ) → AreKept ns depths of found n → class < length ns → o ≡ get_or found class o → n ≤ most
    → IfSome o (λ signal. signal < most)
within_kept ns depths of found n most class None are h e l = tt
within_kept ns depths of found n most class (Some signal) are h e l =
    omega (arith, l, are.within class signal h (get_or_default found class None (Some signal) (omega (arith, h, are.size)) ∙ sym e))

module _ (ns : List Node) (depths of : List ℕ) (found : List (Option ℕ)) (n : ℕ) (x d : Node) (old : AreKept ns depths of found n) (here : n < length ns) (is : x ≡ get_or ns n d) where
  step : (class : ℕ) (best : Option ℕ) → signal_from depths of class n best (drop n ns)
      ≡ signal_from depths of class (suc n) (if is_signal x.kind && (class == get_or of n 0) then shallower_of depths best n else best) (drop (suc n) ns)
  step class best = ap (signal_from depths of class n best) (drop-cons ns n d here ∙ ap (λ y. y ∷ drop (suc n) ns) (sym is))

  -- a node that is no signal
  pub no_signal : is_signal x.kind ≡ false → AreKept ns depths of found (suc n)
  no_signal f = record {
    size = old.size;
    within = λ class signal h e. omega (arith, old.within class signal h e);
    each = λ class h. ap (λ b. signal_from depths of class (suc n) (if b && (class == get_or of n 0) then shallower_of depths (get_or found class None) n else get_or found class None) (drop (suc n) ns)) (sym f)
        ∙ sym (step class (get_or found class None)) ∙ old.each class h;
  }

  -- a signal
  pub one_signal : (now : List (Option ℕ)) → is_signal x.kind ≡ true → get_or of n 0 < length ns → now ≡ set found (get_or of n 0) (shallower_of depths (get_or found (get_or of n 0) None) n)
      → AreKept ns depths of now (suc n)
  one_signal now t inside put = record {
    size = ap length put ∙ length-set found (get_or of n 0) (shallower_of depths (get_or found (get_or of n 0) None) n) ∙ old.size;
    within = λ class signal h e. least class signal h (class == get_or of n 0) refl e;
    each = λ class h. ap (λ best. signal_from depths of class (suc n) best (drop (suc n) ns)) (kept class (class == get_or of n 0) refl ∙ as_signal class)
        ∙ sym (step class (get_or found class None)) ∙ old.each class h;
  } where
    there : get_or now (get_or of n 0) None ≡ shallower_of depths (get_or found (get_or of n 0) None) n
    there = ap (λ l. get_or l (get_or of n 0) None) put ∙ get_or-set_same found (get_or of n 0) (shallower_of depths (get_or found (get_or of n 0) None) n) None (omega (arith, inside, old.size))

    kept : (class : ℕ) (b : Bool) → (class == get_or of n 0) ≡ b → get_or now class None ≡ (if b then shallower_of depths (get_or found class None) n else get_or found class None)
    kept class true e = subst (λ c. get_or now c None ≡ shallower_of depths (get_or found c None) n) (sym (eqb-true class (get_or of n 0) e)) there
    kept class false e =
        let other : class ≢ get_or of n 0 = λ same. absurd (true≢false (sym (eq-eqb class (get_or of n 0) same) ∙ e)) in
        ap (λ l. get_or l class None) put ∙ get_or-set_other found (get_or of n 0) class (shallower_of depths (get_or found (get_or of n 0) None) n) None other

    as_signal : (class : ℕ) → (if class == get_or of n 0 then shallower_of depths (get_or found class None) n else get_or found class None)
        ≡ (if is_signal x.kind && (class == get_or of n 0) then shallower_of depths (get_or found class None) n else get_or found class None)
    as_signal class = ap (λ b. if b && (class == get_or of n 0) then shallower_of depths (get_or found class None) n else get_or found class None) (sym t)

    least : (class signal : ℕ) → class < length ns → (b : Bool) → (class == get_or of n 0) ≡ b → get_or now class None ≡ Some signal → signal < suc n
    least class signal h true f e = one_of depths (get_or found class None) n signal (suc n) (λ s k. omega (arith, old.within class s h k)) (omega arith) (sym (kept class true f) ∙ e)
    least class signal h false f e = omega (arith, old.within class signal h (sym (kept class false f) ∙ e))

pub all_kept : (ns : List Node) (depths of : List ℕ) (found : List (Option ℕ)) (n : ℕ) → n ≡ length ns → depths ≡ depths_of ns → AreKept ns depths of found n → AreSignals ns of found
all_kept ns depths of found n all deep are = record {
  size = are.size;
  within = λ class signal h e. omega (arith, are.within class signal h e, all);
  each = λ class h. ap (signal_from depths of class n (get_or found class None)) (sym (drop_all n ns (omega (arith, all)))) ∙ are.each class h ∙ ap (λ ds. signal_from ds of class 0 None ns) deep;
}
