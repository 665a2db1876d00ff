-- An operation over fractions gives one at most, or is refused for one fault; so a node comes to one thing at most.
use Rattle.std.proofs.Common.{◌≡◌, ℕ, List, [], ◌∷◌, refl, ap, sym, ◌∙◌, subst, ⊎_elim}
use Rattle.std.specs.Prelude.{Contains}
use Rattle.std.proofs.lemmas.Option.{same_Some}
use Rattle.ato_rational.specs.Rational.{ℚ, ◌≈ℚ◌, IsNotZero, zero_ℚ, min_ℚ, max_ℚ}
use Rattle.ato_rational.proofs.Order.{≈ℚ_sym, ≈ℚ_trans, ≈ℚ-≤ℚ, clash_ℚ}
use Rattle.ato_frac.specs.declared.faults.NumFault.{NumFault}
use Rattle.ato_frac.specs.declared.faults.NumFault.TheVariants as faults
use Rattle.ato_frac.specs.declared.fraction.Frac.{Frac}
use Rattle.ato_frac.specs.Faults.{RefusesQuotient}
use Rattle.ato_frac.specs.Fractions.{value_of, CanAdd, CanMultiply, CanDivide}
use Rattle.ato_frac.specs.OneNumber.{fraction_same}
use Rattle.ato_frac.specs.Powers.{CanRaise, CannotRaise}
use Rattle.ato_expr.specs.declared.ops.Op.{Op}
use Rattle.ato_expr.specs.declared.ops.Op.TheVariants as ops
use Rattle.ato_expr.specs.declared.point.Point.{Point}
use Rattle.ato_expr.specs.declared.point.Point.TheVariants as points
use Rattle.ato_expr.specs.AtPoint.{IsResult, IsSum, GivesFraction, RefusesFraction, refused_point, ComesTo}
use Rattle.ato_expr.specs.Chains.{Chains, ChainStops}
use Rattle.ato_expr.specs.Labels.{HasLabel, StopsFor}
use Rattle.ato_expr.specs.Tables.{Entry}
use Rattle.ato_expr.proofs.LabelLaws.{label_once, stopped_unlabelled, stop_once}
use Rattle.ato_expr.proofs.ValueLaws.{one_root}

-- fractions of one value are one
pub one_fraction : {x : ℚ} (r s : Frac) → value_of r ≈ℚ x → value_of s ≈ℚ x → r ≡ s
one_fraction r s h g = fraction_same r s (≈ℚ_trans h (≈ℚ_sym g))

module _ {L : Type 0} (Step : L → L → L → Type 0) (once : (a b r s : L) → Step a b r → Step a b s → r ≡ s) where
  pub chains_once : (a : L) (bs : List L) (r s : L) → Chains Step a bs r → Chains Step a bs s → r ≡ s
  chains_once a [] r s c d = sym c ∙ d
  chains_once a (b ∷ bs) r s c d =
      let e : d.0 ≡ c.0 = once a b d.0 c.0 d.1 c.1 in
      chains_once c.0 bs r s c.2 (subst (λ k. Chains Step k bs s) e d.2)

  pub no_stop : (Refused : L → L → Type 0) → ((a b r : L) → Step a b r → Refused a b → ⊥) → (a : L) (bs : List L) (r : L) → Chains Step a bs r → ChainStops Step Refused a bs → ⊥
  no_stop Refused clash a [] r c s = s
  no_stop Refused clash a (b ∷ bs) r c s =
      ⊎_elim
      (λ k. clash a b c.0 c.1 k)
      (λ t. let e : t.0 ≡ c.0 = once a b t.0 c.0 t.1 c.1 in no_stop Refused clash c.0 bs r c.2 (subst (λ k. ChainStops Step Refused k bs) e t.2))
      s

sums_once : (a b r s : Frac) → IsSum a b r → IsSum a b s → r ≡ s
sums_once a b r s h g = one_fraction r s h.1 g.1

results_once : (f : ℚ → ℚ → ℚ) (a b r s : Frac) → IsResult f a b r → IsResult f a b s → r ≡ s
results_once f a b r s h g = one_fraction r s h g

pub gives_once : (world : List Frac) (op : Op) (ls : List Frac) (k l : Frac) → GivesFraction world op ls k → GivesFraction world op ls l → k ≡ l
gives_once world (ops.Var v) [] k l g h = same_Some k l (sym g ∙ h)
gives_once world (ops.Var v) (x ∷ xs) k l g h = absurd g
gives_once world (ops.Const q) [] k l g h = g ∙ sym h
gives_once world (ops.Const q) (x ∷ xs) k l g h = absurd g
gives_once world ops.Sum [] k l g h = absurd g
gives_once world ops.Sum (x ∷ xs) k l g h = chains_once IsSum sums_once x xs k l g h
gives_once world ops.Neg [] k l g h = absurd g
gives_once world ops.Neg (x ∷ []) k l g h = one_fraction k l g h
gives_once world ops.Neg (x ∷ y ∷ xs) k l g h = absurd g
gives_once world ops.Product [] k l g h = absurd g
gives_once world ops.Product (x ∷ []) k l g h = absurd g
gives_once world ops.Product (x ∷ y ∷ []) k l g h = one_fraction k l g.1 h.1
gives_once world ops.Product (x ∷ y ∷ z ∷ xs) k l g h = absurd g
gives_once world ops.Quotient [] k l g h = absurd g
gives_once world ops.Quotient (x ∷ []) k l g h = absurd g
gives_once world ops.Quotient (x ∷ y ∷ []) k l g h = one_fraction k l g.2 h.2
gives_once world ops.Quotient (x ∷ y ∷ z ∷ xs) k l g h = absurd g
gives_once world (ops.Power n) [] k l g h = absurd g
gives_once world (ops.Power n) (x ∷ []) k l g h = one_fraction k l g.1 h.1
gives_once world (ops.Power n) (x ∷ y ∷ xs) k l g h = absurd g
gives_once world ops.Min [] k l g h = absurd g
gives_once world ops.Min (x ∷ xs) k l g h = chains_once (IsResult min_ℚ) (results_once min_ℚ) x xs k l g h
gives_once world ops.Max [] k l g h = absurd g
gives_once world ops.Max (x ∷ xs) k l g h = chains_once (IsResult max_ℚ) (results_once max_ℚ) x xs k l g h
gives_once world ops.Abs [] k l g h = absurd g
gives_once world ops.Abs (x ∷ []) k l g h = one_fraction k l g.1 h.1
gives_once world ops.Abs (x ∷ y ∷ xs) k l g h = absurd g

-- what is not 0 is not 0
not_both : {y : ℚ} → IsNotZero y → y ≈ℚ zero_ℚ → ⊥
not_both h e = ⊎_elim (λ g. clash_ℚ g (≈ℚ-≤ℚ e)) (λ g. clash_ℚ g (≈ℚ-≤ℚ (≈ℚ_sym e))) h

power_clash : (x : Frac) (k : ℕ) → CanRaise value_of CanMultiply x k → CannotRaise value_of CanMultiply x k → ⊥
power_clash x k r u =
    let p = r u.exponent u.from_one u.below in
    u.refused.holds (subst (λ q. CanMultiply q x) (one_fraction p.power u.refused.power p.is_power u.refused.is_power) p.holds)

pub never_both : (world : List Frac) (op : Op) (ls : List Frac) (l : Frac) (f : NumFault) → GivesFraction world op ls l → RefusesFraction op ls f → ⊥
never_both world (ops.Var v) ls l f g r = absurd r
never_both world (ops.Const q) ls l f g r = absurd r
never_both world ops.Sum [] l f g r = absurd g
never_both world ops.Sum (x ∷ xs) l faults.Wide g r = no_stop IsSum sums_once (λ y z. ¬ CanAdd y z) (λ a b k s n. n s.0) x xs l g r
never_both world ops.Sum (x ∷ xs) l faults.ByZero g r = absurd r
never_both world ops.Neg ls l f g r = absurd r
never_both world ops.Product [] l f g r = absurd g
never_both world ops.Product (x ∷ []) l f g r = absurd g
never_both world ops.Product (x ∷ y ∷ []) l faults.Wide g r = r g.0
never_both world ops.Product (x ∷ y ∷ []) l faults.ByZero g r = absurd r
never_both world ops.Product (x ∷ y ∷ z ∷ xs) l f g r = absurd g
never_both world ops.Quotient [] l f g r = absurd g
never_both world ops.Quotient (x ∷ []) l f g r = absurd g
never_both world ops.Quotient (x ∷ y ∷ []) l faults.Wide g r = r.1 g.1
never_both world ops.Quotient (x ∷ y ∷ []) l faults.ByZero g r = not_both g.0 r
never_both world ops.Quotient (x ∷ y ∷ z ∷ xs) l f g r = absurd g
never_both world (ops.Power k) [] l f g r = absurd g
never_both world (ops.Power k) (x ∷ []) l faults.Wide g r = power_clash x k g.0 r
never_both world (ops.Power k) (x ∷ []) l faults.ByZero g r = absurd r
never_both world (ops.Power k) (x ∷ y ∷ xs) l f g r = absurd g
never_both world ops.Min ls l f g r = absurd r
never_both world ops.Max ls l f g r = absurd r
never_both world ops.Abs [] l f g r = absurd g
never_both world ops.Abs (x ∷ []) l faults.Wide g r = r g.0
never_both world ops.Abs (x ∷ []) l faults.ByZero g r = absurd r
never_both world ops.Abs (x ∷ y ∷ xs) l f g r = absurd g

-- all but a quotient are refused for one fault alone
quotient_once : (y : ℚ) (W : Type 0) (f g : NumFault) → RefusesQuotient y W f → RefusesQuotient y W g → f ≡ g
quotient_once y W faults.Wide faults.Wide r s = refl
quotient_once y W faults.Wide faults.ByZero r s = absurd (not_both r.0 s)
quotient_once y W faults.ByZero faults.Wide r s = absurd (not_both s.0 r)
quotient_once y W faults.ByZero faults.ByZero r s = refl

pub refuses_once : (op : Op) (ls : List Frac) (f g : NumFault) → RefusesFraction op ls f → RefusesFraction op ls g → f ≡ g
refuses_once (ops.Var v) ls f g r s = absurd r
refuses_once (ops.Const q) ls f g r s = absurd r
refuses_once ops.Sum [] f g r s = absurd r
refuses_once ops.Sum (x ∷ xs) faults.ByZero g r s = absurd r
refuses_once ops.Sum (x ∷ xs) faults.Wide faults.ByZero r s = absurd s
refuses_once ops.Sum (x ∷ xs) faults.Wide faults.Wide r s = refl
refuses_once ops.Neg ls f g r s = absurd r
refuses_once ops.Product [] f g r s = absurd r
refuses_once ops.Product (x ∷ []) f g r s = absurd r
refuses_once ops.Product (x ∷ y ∷ []) faults.ByZero g r s = absurd r
refuses_once ops.Product (x ∷ y ∷ []) faults.Wide faults.ByZero r s = absurd s
refuses_once ops.Product (x ∷ y ∷ []) faults.Wide faults.Wide r s = refl
refuses_once ops.Product (x ∷ y ∷ z ∷ xs) f g r s = absurd r
refuses_once ops.Quotient [] f g r s = absurd r
refuses_once ops.Quotient (x ∷ []) f g r s = absurd r
refuses_once ops.Quotient (x ∷ y ∷ []) f g r s = quotient_once (value_of y) (¬ CanDivide x y) f g r s
refuses_once ops.Quotient (x ∷ y ∷ z ∷ xs) f g r s = absurd r
refuses_once (ops.Power k) [] f g r s = absurd r
refuses_once (ops.Power k) (x ∷ []) faults.ByZero g r s = absurd r
refuses_once (ops.Power k) (x ∷ []) faults.Wide faults.ByZero r s = absurd s
refuses_once (ops.Power k) (x ∷ []) faults.Wide faults.Wide r s = refl
refuses_once (ops.Power k) (x ∷ y ∷ xs) f g r s = absurd r
refuses_once ops.Min ls f g r s = absurd r
refuses_once ops.Max ls f g r s = absurd r
refuses_once ops.Abs [] f g r s = absurd r
refuses_once ops.Abs (x ∷ []) faults.ByZero g r s = absurd r
refuses_once ops.Abs (x ∷ []) faults.Wide faults.ByZero r s = absurd s
refuses_once ops.Abs (x ∷ []) faults.Wide faults.Wide r s = refl
refuses_once ops.Abs (x ∷ y ∷ xs) f g r s = absurd r

module _ (table : List Entry) (world : List Frac) (root : ℕ) where
  labelled_stop : (x : Frac) (f : NumFault) → HasLabel (GivesFraction world) table root x → StopsFor (GivesFraction world) RefusesFraction table (root ∷ []) f → ⊥
  labelled_stop x f h s =
      let only : (k : ℕ) → Contains (root ∷ []) k → (y : Frac) × HasLabel (GivesFraction world) table k y = one_root (λ k. (y : Frac) × HasLabel (GivesFraction world) table k y) root (x, h) in
      stopped_unlabelled (GivesFraction world) RefusesFraction table (gives_once world) (never_both world) refuses_once s only

  stops_once : (f g : NumFault) → StopsFor (GivesFraction world) RefusesFraction table (root ∷ []) f → StopsFor (GivesFraction world) RefusesFraction table (root ∷ []) g → f ≡ g
  stops_once f g s t = stop_once (GivesFraction world) RefusesFraction table (gives_once world) (never_both world) refuses_once s t

  -- a node comes to one thing at most
  pub comes_once : (p q : Point) → ComesTo table world root p → ComesTo table world root q → p ≡ q
  comes_once (points.Value x) (points.Value y) h g = ap points.Value (label_once (GivesFraction world) table (gives_once world) h g)
  comes_once (points.Value x) points.Undefined h g = absurd (labelled_stop x faults.ByZero h g)
  comes_once (points.Value x) points.Wide h g = absurd (labelled_stop x faults.Wide h g)
  comes_once points.Undefined (points.Value y) h g = absurd (labelled_stop y faults.ByZero g h)
  comes_once points.Undefined points.Undefined h g = refl
  comes_once points.Undefined points.Wide h g = absurd (let e : faults.ByZero ≡ faults.Wide = stops_once faults.ByZero faults.Wide h g in cc)
  comes_once points.Wide (points.Value y) h g = absurd (labelled_stop y faults.Wide g h)
  comes_once points.Wide points.Undefined h g = absurd (let e : faults.Wide ≡ faults.ByZero = stops_once faults.Wide faults.ByZero h g in cc)
  comes_once points.Wide points.Wide h g = refl

  -- where the first one without a value is refused
  pub stop_comes : (f : NumFault) → StopsFor (GivesFraction world) RefusesFraction table (root ∷ []) f → ComesTo table world root (refused_point f)
  stop_comes faults.Wide s = s
  stop_comes faults.ByZero s = s
