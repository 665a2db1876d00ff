-- An interval against ranges in any order: it lies in them where it begins in one, and where one ends inside it another goes on.
use Rattle.std.proofs.Common.{◌≡◌, ◌⊎◌, inl, inr, ⊎_elim, ◌↔◌, List, [], ◌∷◌, Bool, true, false, length, refl, sym, subst, arith}
use Rattle.std.specs.Prelude.{MatchBool, MatchOption, Option, Some, None, is_some}
use Rattle.ato_rational.specs.Rational.{ℚ, ◌≤ℚ◌, ◌<ℚ◌}
use Rattle.ato_rational.specs.Ranges.{IsWithin}
use Rattle.ato_rational.proofs.Order.{≤ℚ_refl, ≤ℚ_trans, ≤ℚ_or_<ℚ, <ℚ-≤ℚ, <ℚ-≤ℚ_trans, ≤ℚ-<ℚ_trans, clash_ℚ}
use Rattle.ato_interval.specs.Ends.{Ends, Holds, IsProper}
use Rattle.ato_interval.specs.Sets.{IsIn, AreRising}
use Rattle.ato_interval.specs.Targets.{IsInOne, GoesOn, EndsIn, IsInPart}
use Rattle.ato_interval.proofs.SetLaws.{between, gap}

-- a pass has come so far: what is asked of all is what is asked of those that are left
pub record IsLeft (Left All : Type 0) : Type 0 where
  pub within : Left → All
  pub kept : All → Left

pub all_left : (All : Type 0) → IsLeft All All
all_left All = record { within = λ m. m; kept = λ m. m }

pub one_passed : {First Later All : Type 0} → IsLeft (First ⊎ Later) All → ¬ First → IsLeft Later All
one_passed left none = record { within = λ m. left.within (inr m); kept = λ m. ⊎_elim (λ f. absurd (none f)) (λ k. k) (left.kept m) }

module _ {Q : Type 0} (value : Q → ℚ) where
  -- the common interval of two has a value that is in both
  pub meets_told : (a b : Ends Q) (common : Option (Ends Q)) → MatchOption common ((x : ℚ) → Holds value a x → ¬ Holds value b x) (λ r. IsProper value r × ((x : ℚ) → Holds value r x ↔ (Holds value a x × Holds value b x)))
      → MatchBool (is_some common) ((x : ℚ) × Holds value a x × Holds value b x) ((x : ℚ) → Holds value a x → ¬ Holds value b x)
  meets_told a b None none = none
  meets_told a b (Some r) t = let both = (t.1 (value r.low)).0 (record { above = ≤ℚ_refl _; below = t.0 }) in (value r.low, both.0, both.1)

  -- ---- whether a value lies in a range

  inside : (ranges : List (Q × Q)) (x : ℚ) → IsInOne value ranges x ⊎ ¬ IsInOne value ranges x
  inside [] x = inr (λ m. m)
  inside (r ∷ rs) x =
      ⊎_elim
      (λ above.
      ⊎_elim
      (λ below. inl (inl (record { above = above; below = below })))
      (λ past. by rs (λ w. clash_ℚ past w.below) (inside rs x))
      (≤ℚ_or_<ℚ x (value r.1)))
      (λ before. by rs (λ w. clash_ℚ before w.above) (inside rs x))
      (≤ℚ_or_<ℚ (value r.0) x)
    where
      by : (rs : List (Q × Q)) → ¬ IsWithin (value r.0) (value r.1) x → IsInOne value rs x ⊎ ¬ IsInOne value rs x → IsInOne value (r ∷ rs) x ⊎ ¬ IsInOne value (r ∷ rs) x
      by rs none (inl m) = inl (inr m)
      by rs none (inr m) = inr (⊎_elim none m)

  -- ---- ends of ranges in an interval

  -- e is the end of a range that ends from low on below high
  abbrev pub OneEnds : ℚ → ℚ → List (Q × Q) → ℚ → Type 0
  OneEnds low high [] e = ⊥
  OneEnds low high (r ∷ rs) e = (EndsIn value low high r × (e ≡ value r.1)) ⊎ OneEnds low high rs e

  ends_within : (low high : ℚ) (rs : List (Q × Q)) (e : ℚ) → OneEnds low high rs e → (low ≤ℚ e) × (e <ℚ high)
  ends_within low high [] e m = absurd m
  ends_within low high (r ∷ rs) e (inl m) = subst (λ t. (low ≤ℚ t) × (t <ℚ high)) (sym m.1) (m.0.1, m.0.2)
  ends_within low high (r ∷ rs) e (inr m) = ends_within low high rs e m

  ends_wider : (low x high : ℚ) → x ≤ℚ high → (rs : List (Q × Q)) (e : ℚ) → OneEnds low x rs e → OneEnds low high rs e
  ends_wider low x high h [] e m = absurd m
  ends_wider low x high h (r ∷ rs) e (inl m) = inl ((m.0.0, m.0.1, <ℚ-≤ℚ_trans m.0.2 h), m.1)
  ends_wider low x high h (r ∷ rs) e (inr m) = inr (ends_wider low x high h rs e m)

  -- a range with low in it and x not in it ends between them
  in_ends : (low x : ℚ) → low ≤ℚ x → (rs : List (Q × Q)) → IsInOne value rs low → ¬ IsInOne value rs x → (e : ℚ) × OneEnds low x rs e
  in_ends low x h [] m none = absurd m
  in_ends low x h (r ∷ rs) (inl w) none =
      ⊎_elim
      (λ reached. absurd (none (inl (record { above = ≤ℚ_trans w.above h; below = reached }))))
      (λ short. (value r.1, inl ((≤ℚ_trans w.above w.below, w.below, short), refl)))
      (≤ℚ_or_<ℚ x (value r.1))
  in_ends low x h (r ∷ rs) (inr m) none = let t = in_ends low x h rs m (λ k. none (inr k)) in (t.0, inr t.1)

  -- a range that goes on above e and has not x in it ends between them
  on_ends : (low x e : ℚ) → low ≤ℚ e → e <ℚ x → (rs : List (Q × Q)) → GoesOn value rs e → ¬ IsInOne value rs x → (f : ℚ) × OneEnds low x rs f × (e <ℚ f)
  on_ends low x e h k [] m none = absurd m
  on_ends low x e h k (r ∷ rs) (inl m) none =
      ⊎_elim
      (λ reached. absurd (none (inl (record { above = ≤ℚ_trans m.0 (<ℚ-≤ℚ k); below = reached }))))
      (λ short. (value r.1, inl ((≤ℚ_trans m.0 (<ℚ-≤ℚ m.1), ≤ℚ_trans h (<ℚ-≤ℚ m.1), short), refl), m.1))
      (≤ℚ_or_<ℚ x (value r.1))
  on_ends low x e h k (r ∷ rs) (inr m) none = let t = on_ends low x e h k rs m (λ n. none (inr n)) in (t.0, inr t.1, t.2)

  -- the greatest of these ends, if there is one
  abbrev IsGreatest : ℚ → ℚ → List (Q × Q) → Type 0
  IsGreatest low x rs = ((e : ℚ) → ¬ OneEnds low x rs e) ⊎ ((e : ℚ) × OneEnds low x rs e × ((f : ℚ) → OneEnds low x rs f → f ≤ℚ e))

  greatest : (low x : ℚ) (rs : List (Q × Q)) → IsGreatest low x rs
  greatest low x [] = inl (λ e m. m)
  greatest low x (r ∷ rs) =
      ⊎_elim
      (λ proper.
      ⊎_elim
      (λ above.
      ⊎_elim
      (λ past. without (λ t. clash_ℚ t.2 past) (greatest low x rs))
      (λ below. beside (proper, above, below) (greatest low x rs))
      (≤ℚ_or_<ℚ x (value r.1)))
      (λ before. without (λ t. clash_ℚ before t.1) (greatest low x rs))
      (≤ℚ_or_<ℚ low (value r.1)))
      (λ none. without (λ t. clash_ℚ none t.0) (greatest low x rs))
      (≤ℚ_or_<ℚ (value r.0) (value r.1))
    where
      without : ¬ EndsIn value low x r → IsGreatest low x rs → IsGreatest low x (r ∷ rs)
      without not (inl none) = inl (λ e. ⊎_elim (λ m. not m.0) (none e))
      without not (inr t) = inr (t.0, inr t.1, λ f. ⊎_elim (λ m. absurd (not m.0)) (t.2 f))

      beside : EndsIn value low x r → IsGreatest low x rs → IsGreatest low x (r ∷ rs)
      beside ends (inl none) = inr (value r.1, inl (ends, refl), λ f. ⊎_elim (λ m. subst (λ t. t ≤ℚ value r.1) (sym m.1) (≤ℚ_refl _)) (λ m. absurd (none f m)))
      beside ends (inr t) =
          ⊎_elim
          (λ (h : value r.1 ≤ℚ t.0). inr (t.0, inr t.1, λ f. ⊎_elim (λ m. subst (λ k. k ≤ℚ t.0) (sym m.1) h) (t.2 f)))
          (λ (h : t.0 <ℚ value r.1). inr (value r.1, inl (ends, refl), λ f. ⊎_elim (λ m. subst (λ k. k ≤ℚ value r.1) (sym m.1) (≤ℚ_refl _)) (λ m. ≤ℚ_trans (t.2 f m) (<ℚ-≤ℚ h))))
          (≤ℚ_or_<ℚ (value r.1) t.0)

  -- ---- an interval that begins in a range, and inside of which each range that ends is followed by one that goes on

  pub covered : (low high : ℚ) (all : List (Q × Q)) → IsInOne value all low → ((e : ℚ) → OneEnds low high all e → GoesOn value all e) → (x : ℚ) → IsWithin low high x → IsInOne value all x
  covered low high all begins goes x w = ⊎_elim (λ m. m) (λ none. absurd (⊎_elim (λ no_end. let t = in_ends low x w.above all begins none in no_end t.0 t.1) (λ t. last none t) (greatest low x all))) (inside all x)
    where
      last : ¬ IsInOne value all x → (e : ℚ) × OneEnds low x all e × ((f : ℚ) → OneEnds low x all f → f ≤ℚ e) → ⊥
      last none t =
          let bounds = ends_within low x all t.0 t.1 in
          let more = on_ends low x t.0 bounds.0 bounds.1 all (goes t.0 (ends_wider low x high w.below all t.0 t.1)) none in
          clash_ℚ more.2 (t.2 more.0 more.1)

  -- above an end at which none goes on lie values in no range
  abbrev pub IsFree : ℚ → ℚ → List (Q × Q) → Type 0
  IsFree e high rs = (y : ℚ) × (e <ℚ y) × (y ≤ℚ high) × ((z : ℚ) → e <ℚ z → z ≤ℚ y → ¬ IsInOne value rs z)

  pub escape : (e high : ℚ) → e <ℚ high → (rs : List (Q × Q)) → ¬ GoesOn value rs e → IsFree e high rs
  escape e high h [] none = (high, h, ≤ℚ_refl high, λ z a b m. m)
  escape e high h (r ∷ rs) none =
      let t = escape e high h rs (λ m. none (inr m)) in
      ⊎_elim
      (λ (ended : value r.1 ≤ℚ e). (t.0, t.1, t.2, λ z a b. ⊎_elim (λ w. clash_ℚ (≤ℚ-<ℚ_trans ended a) w.below) (t.3 z a b)))
      (λ (past : e <ℚ value r.1).
      ⊎_elim
      (λ (begun : value r.0 ≤ℚ e). absurd (none (inl (begun, past))))
      (λ (later : e <ℚ value r.0). before t later)
      (≤ℚ_or_<ℚ (value r.0) e))
      (≤ℚ_or_<ℚ (value r.1) e)
    where
      before : IsFree e high rs → e <ℚ value r.0 → IsFree e high (r ∷ rs)
      before t later =
          let mid = between e (value r.0) later in
          ⊎_elim
          (λ (h : t.0 ≤ℚ mid.0). (t.0, t.1, t.2, λ z a b. ⊎_elim (λ w. clash_ℚ mid.2 (≤ℚ_trans w.above (≤ℚ_trans b h))) (t.3 z a b)))
          (λ (h : mid.0 <ℚ t.0). (mid.0, mid.1, ≤ℚ_trans (<ℚ-≤ℚ h) t.2, λ z a b. ⊎_elim (λ w. clash_ℚ mid.2 (≤ℚ_trans w.above b)) (t.3 z a (≤ℚ_trans b (<ℚ-≤ℚ h)))))
          (≤ℚ_or_<ℚ t.0 mid.0)

  pub uncovered : (low high e : ℚ) (all : List (Q × Q)) → low ≤ℚ e → e <ℚ high → ¬ GoesOn value all e → (x : ℚ) × IsWithin low high x × ¬ IsInOne value all x
  uncovered low high e all h k none =
      let t = escape e high k all none in
      (t.0, record { above = ≤ℚ_trans h (<ℚ-≤ℚ t.1); below = t.2 }, t.3 t.0 t.1 (≤ℚ_refl _))

  -- ---- the pass over the ranges that end inside

  pub record IsPassing (low high : ℚ) (rest all : List (Q × Q)) : Type 0 where
    pub within : (e : ℚ) → OneEnds low high rest e → OneEnds low high all e
    pub kept : (e : ℚ) → OneEnds low high all e → GoesOn value all e ⊎ OneEnds low high rest e

  pub passing_starts : (low high : ℚ) (all : List (Q × Q)) → IsPassing low high all all
  passing_starts low high all = record { within = λ e m. m; kept = λ e m. inr m }

  pub passes_on : (low high : ℚ) (r : Q × Q) (rest all : List (Q × Q)) → IsPassing low high (r ∷ rest) all → (EndsIn value low high r → GoesOn value all (value r.1)) → IsPassing low high rest all
  passes_on low high r rest all p goes = record {
    within = λ e m. p.within e (inr m);
    kept = λ e m. ⊎_elim inl (⊎_elim (λ k. inl (subst (λ t. GoesOn value all t) (sym k.1) (goes k.0))) inr) (p.kept e m);
  }

  pub passes_stop : (low high : ℚ) (r : Q × Q) (rest all : List (Q × Q)) → IsPassing low high (r ∷ rest) all → EndsIn value low high r → ¬ GoesOn value all (value r.1) → (x : ℚ) × IsWithin low high x × ¬ IsInOne value all x
  passes_stop low high r rest all p ends none = uncovered low high (value r.1) all ends.1 ends.2 none

  -- at its end only the beginning is left to tell
  pub passes_told : (b : Bool) (low high : ℚ) (rest all : List (Q × Q)) → length rest ≡ 0 → IsPassing low high rest all → low ≤ℚ high
      → MatchBool b (IsInOne value all low) (¬ IsInOne value all low)
      → MatchBool b ((x : ℚ) → IsWithin low high x → IsInOne value all x) ((x : ℚ) × IsWithin low high x × ¬ IsInOne value all x)
  passes_told true low high [] all none p proper begins = covered low high all begins (λ e m. ⊎_elim (λ k. k) (λ no. absurd no) (p.kept e m))
  passes_told false low high [] all none p proper out = (low, record { above = ≤ℚ_refl _; below = proper }, out)
  passes_told b low high (r ∷ rest) all none p proper h = absurd (omega (arith, none))

  -- ---- some value of an interval lies in a range

  abbrev pub MeetsOne : Ends Q → List (Q × Q) → Type 0
  MeetsOne a ranges = (x : ℚ) × Holds value a x × IsInOne value ranges x

  pub met_here : (a : Ends Q) (r : Q × Q) (rest all : List (Q × Q)) → IsLeft (MeetsOne a (r ∷ rest)) (MeetsOne a all) → (x : ℚ) × Holds value a x × IsWithin (value r.0) (value r.1) x → MeetsOne a all
  met_here a r rest all left m = left.within (m.0, m.1, inl m.2)

  pub met_later : (a : Ends Q) (r : Q × Q) (rest all : List (Q × Q)) → IsLeft (MeetsOne a (r ∷ rest)) (MeetsOne a all) → ((x : ℚ) → Holds value a x → ¬ IsWithin (value r.0) (value r.1) x) → IsLeft (MeetsOne a rest) (MeetsOne a all)
  met_later a r rest all left none = record {
    within = λ m. left.within (m.0, m.1, inr m.2);
    kept = λ m. let k = left.kept m in ⊎_elim (λ w. absurd (none k.0 k.1 w)) (λ t. (k.0, k.1, t)) k.2;
  }

  pub met_nowhere : (a : Ends Q) (rest all : List (Q × Q)) → length rest ≡ 0 → IsLeft (MeetsOne a rest) (MeetsOne a all) → (x : ℚ) → Holds value a x → ¬ IsInOne value all x
  met_nowhere a [] all none left x w m = (left.kept (x, w, m)).2
  met_nowhere a (r ∷ rest) all none left x w m = absurd (omega (arith, none))

  -- an interval of given ends meets what the range between them does
  pub range_told : (b : Bool) (a o : Ends Q) (low high : Q) → o.low ≡ low → o.high ≡ high
      → MatchBool b ((x : ℚ) × Holds value a x × Holds value o x) ((x : ℚ) → Holds value a x → ¬ Holds value o x)
      → MatchBool b ((x : ℚ) × Holds value a x × IsWithin (value low) (value high) x) ((x : ℚ) → Holds value a x → ¬ IsWithin (value low) (value high) x)
  range_told b a o low high d e m = rw (← d, ← e) m

  -- ---- inside the ranges is inside one part, after touching ones are joined

  -- values above the first part lie in later ones
  in_later : (a p : Ends Q) (ps : List (Ends Q)) → value p.high <ℚ value a.low → ((x : ℚ) → Holds value a x → IsIn value (p ∷ ps) x) → (x : ℚ) → Holds value a x → IsIn value ps x
  in_later a p ps above all x w = ⊎_elim (λ v. absurd (clash_ℚ above (≤ℚ_trans w.above v.below))) (λ m. m) (all x w)

  in_part : (a : Ends Q) → IsProper value a → (parts : List (Ends Q)) → AreRising value parts → ((x : ℚ) → Holds value a x → IsIn value parts x) → IsInPart value parts a
  in_part a proper [] rising all = absurd (all (value a.low) (record { above = ≤ℚ_refl _; below = proper }))
  in_part a proper (p ∷ ps) rising all =
      let begins = all (value a.low) (record { above = ≤ℚ_refl _; below = proper }) in
      ⊎_elim
      (λ v.
      ⊎_elim
      (λ (ends : value a.high ≤ℚ value p.high). inl (λ x w. record { above = ≤ℚ_trans v.above w.above; below = ≤ℚ_trans w.below ends }))
      (λ (past : value p.high <ℚ value a.high). let t = gap value p ps (value a.high) rising past in absurd (t.3 (all t.0 (record { above = ≤ℚ_trans v.below (<ℚ-≤ℚ t.1); below = t.2 }))))
      (≤ℚ_or_<ℚ (value a.high) (value p.high)))
      (λ m. inr (in_part a proper ps rising.2 (in_later a p ps (rising.1 (value a.low) m) all)))
      begins

  part_in : (a : Ends Q) (parts : List (Ends Q)) → IsInPart value parts a → (x : ℚ) → Holds value a x → IsIn value parts x
  part_in a [] m x w = absurd m
  part_in a (p ∷ ps) (inl h) x w = inl (h x w)
  part_in a (p ∷ ps) (inr m) x w = inr (part_in a ps m x w)

  pub in_one_part : (a : Ends Q) (ranges : List (Q × Q)) (parts : List (Ends Q)) → IsProper value a → AreRising value parts → ((x : ℚ) → IsIn value parts x ↔ IsInOne value ranges x)
      → ((x : ℚ) → Holds value a x → IsInOne value ranges x) ↔ IsInPart value parts a
  in_one_part a ranges parts proper rising same = (
    λ all. in_part a proper parts rising (λ x w. (same x).1 (all x w)),
    λ m x w. (same x).0 (part_in a parts m x w),
  )
