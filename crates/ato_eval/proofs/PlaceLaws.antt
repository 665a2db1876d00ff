-- A value rests on the variables below its node alone, so that points may be put together by them.
use Rattle.std.proofs.Common.{◌≡◌, ℕ, Bool, true, false, List, [], ◌∷◌, ◌++◌, refl, ap, sym, ◌∙◌, subst, inl, inr, ⊎_elim}
use Rattle.std.specs.Prelude.{Contains, Some, cond}
use Rattle.std.proofs.lemmas.Bool.Decides.{eqb_tells}
use Rattle.std.proofs.lemmas.List.Elements.{Contains-append_left, Contains-append_right}
use Rattle.std.proofs.Math.Dec.{eqb}
use Rattle.ato_base.proofs.ClassLaws.{cases, first, later, nowhere}
use Rattle.ato_rational.specs.Rational.{ℚ}
use Rattle.ato_expr.specs.declared.ops.Op.{Op}
use Rattle.ato_expr.specs.declared.ops.Op.TheVariants as ops
use Rattle.ato_expr.specs.Tables.{Entry}
use Rattle.ato_expr.specs.Labels.{HasLabel, HaveLabels, labelled, no_label, a_label}
use Rattle.ato_expr.specs.Values.{op_value, GivesValue, HasValue}
use Rattle.ato_expr.proofs.LabelLaws.{rests, same_entry, taken, none_only}
use Rattle.ato_eval.specs.Plain.{flat, GivesPlaces, IsOnce}

-- ---- membership as a test

abbrev pub has : List ℕ → ℕ → Bool
has [] v = false
has (w ∷ ws) v = cond (eqb w v) true (has ws v)

pub has_it : (ws : List ℕ) (v : ℕ) → Contains ws v → has ws v ≡ true
has_it [] v h = absurd (nowhere v h)
has_it (w ∷ ws) v h =
    ⊎_elim
    (λ t. ap (λ b. cond b true (has ws v)) t.0)
    (λ t. ap (λ b. cond b true (has ws v)) t.0 ∙ elim (cases w v ws h) [ inl e ↦ absurd (t.1 (sym e)) | inr k ↦ has_it ws v k ])
    (eqb_tells w v)

pub has_not : (ws : List ℕ) (v : ℕ) → ¬ Contains ws v → has ws v ≡ false
has_not [] v h = refl
has_not (w ∷ ws) v h =
    ⊎_elim
    (λ t. absurd (h (subst (Contains (w ∷ ws)) t.1 (first w ws))))
    (λ t. ap (λ b. cond b true (has ws v)) t.0 ∙ has_not ws v (λ k. h (later w v ws k)))
    (eqb_tells w v)

-- one choice at some numbers, and another elsewhere
abbrev pub merged : List ℕ → (ℕ → Bool) → (ℕ → Bool) → ℕ → Bool
merged ws p q v = cond (has ws v) (p v) (q v)

pub merged_in : (ws : List ℕ) (p q : ℕ → Bool) (v : ℕ) → Contains ws v → merged ws p q v ≡ p v
merged_in ws p q v h = ap (λ b. cond b (p v) (q v)) (has_it ws v h)

pub merged_out : (ws : List ℕ) (p q : ℕ → Bool) (v : ℕ) → ¬ Contains ws v → merged ws p q v ≡ q v
merged_out ws p q v h = ap (λ b. cond b (p v) (q v)) (has_not ws v h)

-- ---- places

pub once_left : (l m : List ℕ) → IsOnce (l ++ m) → IsOnce l
once_left [] m h = tt
once_left (v ∷ l) m h = (λ k. h.0 (Contains-append_left l m v k), once_left l m h.1)

pub once_right : (l m : List ℕ) → IsOnce (l ++ m) → IsOnce m
once_right [] m h = h
once_right (v ∷ l) m h = once_right l m h.1

pub once_apart : (l m : List ℕ) → IsOnce (l ++ m) → (v : ℕ) → Contains l v → ¬ Contains m v
once_apart [] m h v k n = absurd (nowhere v k)
once_apart (w ∷ l) m h v k n =
    elim (cases w v l k) [ inl e ↦ h.0 (subst (Contains (l ++ m)) e (Contains-append_right l m v n)) | inr more ↦ once_apart l m h.1 v more n ]

pub places_in : (op : Op) (ls : List (List ℕ)) (l : List ℕ) → GivesPlaces op ls l → (v : ℕ) → Contains (flat ls) v → Contains l v
places_in (ops.Var w) ls l g v h = subst (λ m. Contains m v) (sym g) (later w v (flat ls) h)
places_in (ops.Const q) ls l g v h = subst (λ m. Contains m v) (sym g) h
places_in ops.Sum ls l g v h = subst (λ m. Contains m v) (sym g) h
places_in ops.Neg ls l g v h = subst (λ m. Contains m v) (sym g) h
places_in ops.Product ls l g v h = subst (λ m. Contains m v) (sym g) h
places_in ops.Quotient ls l g v h = subst (λ m. Contains m v) (sym g) h
places_in (ops.Power k) ls l g v h = subst (λ m. Contains m v) (sym g) h
places_in ops.Min ls l g v h = subst (λ m. Contains m v) (sym g) h
places_in ops.Max ls l g v h = subst (λ m. Contains m v) (sym g) h
places_in ops.Abs ls l g v h = subst (λ m. Contains m v) (sym g) h

pub places_once : (op : Op) (ls : List (List ℕ)) (l : List ℕ) → GivesPlaces op ls l → IsOnce l → IsOnce (flat ls)
places_once (ops.Var w) ls l g h = (subst IsOnce g h).1
places_once (ops.Const q) ls l g h = subst IsOnce g h
places_once ops.Sum ls l g h = subst IsOnce g h
places_once ops.Neg ls l g h = subst IsOnce g h
places_once ops.Product ls l g h = subst IsOnce g h
places_once ops.Quotient ls l g h = subst IsOnce g h
places_once (ops.Power k) ls l g h = subst IsOnce g h
places_once ops.Min ls l g h = subst IsOnce g h
places_once ops.Max ls l g h = subst IsOnce g h
places_once ops.Abs ls l g h = subst IsOnce g h

-- ---- values at points that agree

module _ (p q : ℕ → ℚ) where
  value_moves : (op : Op) (ls : List (List ℕ)) (l : List ℕ) (xs : List ℚ) (x : ℚ) → GivesPlaces op ls l → ((v : ℕ) → Contains l v → p v ≡ q v)
      → op_value p op xs ≡ Some x → op_value q op xs ≡ Some x
  value_moves (ops.Var w) ls l [] x g same e =
      ap Some (sym (same w (subst (λ m. Contains m w) (sym g) (first w (flat ls))))) ∙ e
  value_moves (ops.Var w) ls l (y ∷ ys) x g same e = e
  value_moves (ops.Const c) ls l [] x g same e = e
  value_moves (ops.Const c) ls l (y ∷ ys) x g same e = e
  value_moves ops.Sum ls l [] x g same e = e
  value_moves ops.Sum ls l (y ∷ ys) x g same e = e
  value_moves ops.Neg ls l [] x g same e = e
  value_moves ops.Neg ls l (y ∷ []) x g same e = e
  value_moves ops.Neg ls l (y ∷ z ∷ ys) x g same e = e
  value_moves ops.Product ls l [] x g same e = e
  value_moves ops.Product ls l (y ∷ []) x g same e = e
  value_moves ops.Product ls l (y ∷ z ∷ []) x g same e = e
  value_moves ops.Product ls l (y ∷ z ∷ w ∷ ys) x g same e = e
  value_moves ops.Quotient ls l [] x g same e = e
  value_moves ops.Quotient ls l (y ∷ []) x g same e = e
  value_moves ops.Quotient ls l (y ∷ z ∷ []) x g same e = e
  value_moves ops.Quotient ls l (y ∷ z ∷ w ∷ ys) x g same e = e
  value_moves (ops.Power k) ls l [] x g same e = e
  value_moves (ops.Power k) ls l (y ∷ []) x g same e = e
  value_moves (ops.Power k) ls l (y ∷ z ∷ ys) x g same e = e
  value_moves ops.Min ls l [] x g same e = e
  value_moves ops.Min ls l (y ∷ ys) x g same e = e
  value_moves ops.Max ls l [] x g same e = e
  value_moves ops.Max ls l (y ∷ ys) x g same e = e
  value_moves ops.Abs ls l [] x g same e = e
  value_moves ops.Abs ls l (y ∷ []) x g same e = e
  value_moves ops.Abs ls l (y ∷ z ∷ ys) x g same e = e

  module _ (table : List Entry) where
    mutual
      pub agree : {n : ℕ} {l : List ℕ} {x : ℚ} → HasLabel GivesPlaces table n l → ((v : ℕ) → Contains l v → p v ≡ q v) → HasValue table p n x → HasValue table q n x
      agree {n} {l} {x} (labelled e ls at have g) same v =
          let own = rests (GivesValue p) table v in
          let entry = same_entry table n own.entry e own.at at in
          labelled e own.labels at
          (agree_all have (λ w h. same w (places_in e.op ls l g w h)) (subst (λ d. HaveLabels (GivesValue p) table d.children own.labels) entry own.have))
          (value_moves e.op ls l own.labels x g same (subst (λ d. op_value p d.op own.labels ≡ Some x) entry own.gives))

      pub agree_all : {ns : List ℕ} {ls : List (List ℕ)} {xs : List ℚ} → HaveLabels GivesPlaces table ns ls → ((v : ℕ) → Contains (flat ls) v → p v ≡ q v)
          → HaveLabels (GivesValue p) table ns xs → HaveLabels (GivesValue q) table ns xs
      agree_all no_label same vs = subst (HaveLabels (GivesValue q) table []) (sym (none_only (GivesValue p) table vs)) no_label
      agree_all (a_label {n = n} {ns = ns} {l = l} {ls = ls} one more) same vs =
          let t = taken (GivesValue p) table vs in
          subst (HaveLabels (GivesValue q) table (n ∷ ns)) (sym t.2)
          (a_label
          (agree one (λ w h. same w (Contains-append_left l (flat ls) w h)) t.3)
          (agree_all more (λ w h. same w (Contains-append_right l (flat ls) w h)) t.4))
