-- One pass over the parts of two sets: the steps of joining, of meeting and of comparing.
use Rattle.std.proofs.Common.{◌≡◌, ◌⊎◌, inl, inr, ⊎_elim, ◌↔◌, List, [], ◌∷◌, ◌++◌, Bool, true, false, arith}
use Rattle.std.specs.Prelude.{MatchBool}
use Rattle.ato_rational.specs.Rational.{ℚ, ◌≤ℚ◌, ◌<ℚ◌}
use Rattle.ato_rational.proofs.Order.{≤ℚ_refl, ≤ℚ_trans, <ℚ-≤ℚ, <ℚ-≤ℚ_trans, ≤ℚ-<ℚ_trans, clash_ℚ}
use Rattle.ato_interval.specs.Ends.{Ends, Holds, IsProper}
use Rattle.ato_interval.specs.Passes.{TakesLowest}
use Rattle.ato_interval.specs.Sets.{IsIn, AreRising}
use Rattle.ato_interval.proofs.SetLaws.{IsIn-push, IsIn-pushed, AreRising-push, from_first, gap}

-- joining has come so far: the parts that are done, the current one, which later parts may widen, and the parts to come
pub record IsJoining {Q : Type 0} (value : Q → ℚ) (parts : List (Ends Q)) (current : Ends Q) (left right all_left all_right : List (Ends Q)) : Type 0 where
  pub parts_rising : AreRising value parts
  pub current_proper : IsProper value current
  pub parts_below : (x : ℚ) → IsIn value parts x → x <ℚ value current.low
  pub left_rising : AreRising value left
  pub right_rising : AreRising value right
  pub to_come : (x : ℚ) → IsIn value left x ⊎ IsIn value right x → value current.low ≤ℚ x
  pub kept : (x : ℚ) → IsIn value all_left x ⊎ IsIn value all_right x → (IsIn value parts x ⊎ Holds value current x) ⊎ (IsIn value left x ⊎ IsIn value right x)
  pub within : (x : ℚ) → (IsIn value parts x ⊎ Holds value current x) ⊎ (IsIn value left x ⊎ IsIn value right x) → IsIn value all_left x ⊎ IsIn value all_right x

-- meeting has come so far: the common parts, and the parts to come. No common value is above all that is to come in both
pub record IsMeeting {Q : Type 0} (value : Q → ℚ) (parts left right all_left all_right : List (Ends Q)) : Type 0 where
  pub parts_rising : AreRising value parts
  pub left_rising : AreRising value left
  pub right_rising : AreRising value right
  pub parts_below : (x y z : ℚ) → IsIn value parts x → IsIn value left y → IsIn value right z → (x <ℚ y) ⊎ (x <ℚ z)
  pub kept : (x : ℚ) → IsIn value all_left x → IsIn value all_right x → IsIn value parts x ⊎ (IsIn value left x × IsIn value right x)
  pub within : (x : ℚ) → IsIn value parts x ⊎ (IsIn value left x × IsIn value right x) → IsIn value all_left x × IsIn value all_right x

-- skipping has come so far: what is passed over lies below the height
pub record IsSkipping {Q : Type 0} (value : Q → ℚ) (height : ℚ) (parts all : List (Ends Q)) : Type 0 where
  pub rising : AreRising value parts
  pub within : (x : ℚ) → IsIn value parts x → IsIn value all x
  pub kept : (x : ℚ) → height ≤ℚ x → IsIn value all x → IsIn value parts x

-- comparing has come so far: what is passed over on the left is in the right set, and on the right all is left that can hold what is to come
pub record IsComparing {Q : Type 0} (value : Q → ℚ) (left right all_left all_right : List (Ends Q)) : Type 0 where
  pub left_rising : AreRising value left
  pub right_rising : AreRising value right
  pub left_in : (x : ℚ) → IsIn value left x → IsIn value all_left x
  pub covered : (x : ℚ) → IsIn value all_left x → IsIn value all_right x ⊎ IsIn value left x
  pub kept : (x : ℚ) → IsIn value left x → IsIn value all_right x → IsIn value right x
  pub within : (x : ℚ) → IsIn value right x → IsIn value all_right x

module _ {Q : Type 0} (value : Q → ℚ) where
  -- the first of the left list, or of the right list, is the lowest
  pub takes_left : (p : Ends Q) (left right : List (Ends Q)) → AreRising value (p ∷ left) → AreRising value right → ((x : ℚ) → IsIn value right x → value p.low ≤ℚ x) → TakesLowest value (p ∷ left) right p left right
  takes_left p left right r s above = record {
    proper = r.0;
    values = λ x. (⊎_elim (⊎_elim inl (λ m. inr (inl m))) (λ m. inr (inr m)), ⊎_elim (λ w. inl (inl w)) (⊎_elim (λ m. inl (inr m)) inr));
    lowest = λ x. ⊎_elim (λ m. from_first value p left r x (inr m)) (above x);
    left_rising = r.2;
    right_rising = s;
    one_less = omega arith;
  }

  pub takes_right : (q : Ends Q) (left right : List (Ends Q)) → AreRising value left → AreRising value (q ∷ right) → ((x : ℚ) → IsIn value left x → value q.low ≤ℚ x) → TakesLowest value left (q ∷ right) q left right
  takes_right q left right r s above = record {
    proper = s.0;
    values = λ x. (⊎_elim (λ m. inr (inl m)) (⊎_elim inl (λ m. inr (inr m))), ⊎_elim (λ w. inr (inl w)) (⊎_elim inl (λ m. inr (inr m))));
    lowest = λ x. ⊎_elim (above x) (λ m. from_first value q right s x (inr m));
    left_rising = r;
    right_rising = s.2;
    one_less = omega arith;
  }

  -- joining
  pub joining_starts : (first : Ends Q) (left right all_left all_right : List (Ends Q)) → TakesLowest value all_left all_right first left right → IsJoining value [] first left right all_left all_right
  joining_starts first left right all_left all_right t = record {
    parts_rising = tt;
    current_proper = t.proper;
    parts_below = λ x m. absurd m;
    left_rising = t.left_rising;
    right_rising = t.right_rising;
    to_come = t.lowest;
    kept = λ x m. ⊎_elim (λ w. inl (inr w)) inr ((t.values x).0 m);
    within = λ x. ⊎_elim (⊎_elim (λ m. absurd m) (λ w. (t.values x).1 (inl w))) (λ m. (t.values x).1 (inr m));
  }

  module _ (parts : List (Ends Q)) (current part : Ends Q) (left right left' right' all_left all_right : List (Ends Q)) (j : IsJoining value parts current left right all_left all_right) (t : TakesLowest value left right part left' right') where
    pub widens : (wide : Ends Q) → wide.low ≡ current.low → IsProper value wide → ((x : ℚ) → Holds value wide x ↔ (Holds value current x ⊎ Holds value part x)) → IsJoining value parts wide left' right' all_left all_right
    widens wide e proper values = record {
      parts_rising = j.parts_rising;
      current_proper = proper;
      parts_below = rw e j.parts_below;
      left_rising = t.left_rising;
      right_rising = t.right_rising;
      to_come = rw e (λ x m. j.to_come x ((t.values x).1 (inr m)));
      kept = λ x m.
          ⊎_elim
          (⊎_elim (λ a. inl (inl a)) (λ w. inl (inr ((values x).1 (inl w)))))
          (λ n. ⊎_elim (λ w. inl (inr ((values x).1 (inr w)))) inr ((t.values x).0 n))
          (j.kept x m);
      within = λ x.
          ⊎_elim
          (⊎_elim (λ a. j.within x (inl (inl a))) (λ w. ⊎_elim (λ v. j.within x (inl (inr v))) (λ v. j.within x (inr ((t.values x).1 (inl v)))) ((values x).0 w)))
          (λ n. j.within x (inr ((t.values x).1 (inr n))));
    }

    pub closes : value current.high <ℚ value part.low → IsJoining value (parts ++ current ∷ []) part left' right' all_left all_right
    closes apart = record {
      parts_rising = AreRising-push value parts current j.parts_rising j.current_proper j.parts_below;
      current_proper = t.proper;
      parts_below = λ x m.
          ⊎_elim
          (λ a. <ℚ-≤ℚ_trans (j.parts_below x a) (≤ℚ_trans j.current_proper (<ℚ-≤ℚ apart)))
          (λ w. ≤ℚ-<ℚ_trans w.below apart)
          (IsIn-pushed value parts current x m);
      left_rising = t.left_rising;
      right_rising = t.right_rising;
      to_come = t.lowest;
      kept = λ x m.
          ⊎_elim
          (λ d. inl (inl (IsIn-push value parts current x d)))
          (λ n. ⊎_elim (λ w. inl (inr w)) inr ((t.values x).0 n))
          (j.kept x m);
      within = λ x.
          ⊎_elim
          (⊎_elim (λ m. j.within x (inl (IsIn-pushed value parts current x m))) (λ w. j.within x (inr ((t.values x).1 (inl w)))))
          (λ n. j.within x (inr ((t.values x).1 (inr n))));
    }

  pub joined_values : (parts : List (Ends Q)) (current : Ends Q) (left right all_left all_right : List (Ends Q)) → IsJoining value parts current left right all_left all_right → (left ≡ []) × (right ≡ []) → (x : ℚ) → IsIn value (parts ++ current ∷ []) x ↔ (IsIn value all_left x ⊎ IsIn value all_right x)
  joined_values parts current left right all_left all_right j e x =
      let kept = rw (e.0, e.1) at j.kept x in (
        λ m. j.within x (inl (IsIn-pushed value parts current x m)),
        λ m. ⊎_elim (IsIn-push value parts current x) (⊎_elim (λ n. absurd n) (λ n. absurd n)) (kept m),
      )

  pub joined_rising : (parts : List (Ends Q)) (current : Ends Q) (left right all_left all_right : List (Ends Q)) → IsJoining value parts current left right all_left all_right → AreRising value (parts ++ current ∷ [])
  joined_rising parts current left right all_left all_right j =
      AreRising-push value parts current j.parts_rising j.current_proper j.parts_below

  -- meeting
  pub meeting_starts : (left right : List (Ends Q)) → AreRising value left → AreRising value right → IsMeeting value [] left right left right
  meeting_starts left right r s = record {
    parts_rising = tt;
    left_rising = r;
    right_rising = s;
    parts_below = λ x y z m. absurd m;
    kept = λ x m n. inr (m, n);
    within = λ x. ⊎_elim (λ m. absurd m) (λ m. m);
  }

  turned : (parts left right all_left all_right : List (Ends Q)) → IsMeeting value parts left right all_left all_right → IsMeeting value parts right left all_right all_left
  turned parts left right all_left all_right m = record {
    parts_rising = m.parts_rising;
    left_rising = m.right_rising;
    right_rising = m.left_rising;
    parts_below = λ x y z a b c. ⊎_elim inr inl (m.parts_below x z y a c b);
    kept = λ x b c. ⊎_elim inl (λ d. inr (d.1, d.0)) (m.kept x c b);
    within = λ x a. let b = m.within x (⊎_elim inl (λ d. inr (d.1, d.0)) a) in (b.1, b.0);
  }

  -- the common values of the first two parts are put behind the others
  pub common_below : (parts : List (Ends Q)) (p q : Ends Q) (left right all_left all_right : List (Ends Q)) → IsMeeting value parts (p ∷ left) (q ∷ right) all_left all_right → (x y : ℚ) → IsIn value parts x → Holds value p y → Holds value q y → x <ℚ y
  common_below parts p q left right all_left all_right m x y a w v = ⊎_elim (λ h. h) (λ h. h) (m.parts_below x y y a (inl w) (inl v))

  pub drops_left : (parts parts' : List (Ends Q)) (p q : Ends Q) (left right all_left all_right : List (Ends Q)) → IsMeeting value parts (p ∷ left) (q ∷ right) all_left all_right → AreRising value parts' → ((x : ℚ) → IsIn value parts' x ↔ (IsIn value parts x ⊎ (Holds value p x × Holds value q x))) → value p.high ≤ℚ value q.high → IsMeeting value parts' left (q ∷ right) all_left all_right
  drops_left parts parts' p q left right all_left all_right m rising values h = record {
    parts_rising = rising;
    left_rising = m.left_rising.2;
    right_rising = m.right_rising;
    parts_below = λ x y z a b c.
        ⊎_elim
        (λ old. m.parts_below x y z old (inr b) c)
        (λ both. inl (≤ℚ-<ℚ_trans both.0.below (m.left_rising.1 y b)))
        ((values x).0 a);
    kept = λ x b c.
        ⊎_elim
        (λ old. inl ((values x).1 (inl old)))
        (λ both.
        ⊎_elim
        (λ w.
        ⊎_elim
        (λ v. inl ((values x).1 (inr (w, v))))
        (λ n. absurd (clash_ℚ (m.right_rising.1 x n) (≤ℚ_trans w.below h)))
        both.1)
        (λ n. inr (n, both.1))
        both.0)
        (m.kept x b c);
    within = λ x.
        ⊎_elim
        (λ a. m.within x (⊎_elim inl (λ both. inr (inl both.0, inl both.1)) ((values x).0 a)))
        (λ both. m.within x (inr (inr both.0, both.1)));
  }

  pub drops_right : (parts parts' : List (Ends Q)) (p q : Ends Q) (left right all_left all_right : List (Ends Q)) → IsMeeting value parts (p ∷ left) (q ∷ right) all_left all_right → AreRising value parts' → ((x : ℚ) → IsIn value parts' x ↔ (IsIn value parts x ⊎ (Holds value p x × Holds value q x))) → value q.high ≤ℚ value p.high → IsMeeting value parts' (p ∷ left) right all_left all_right
  drops_right parts parts' p q left right all_left all_right m rising values h =
      let turn : (x : ℚ) → IsIn value parts' x ↔ (IsIn value parts x ⊎ (Holds value q x × Holds value p x)) = λ x. (
        λ a. ⊎_elim inl (λ both. inr (both.1, both.0)) ((values x).0 a),
        λ a. (values x).1 (⊎_elim inl (λ both. inr (both.1, both.0)) a),
      ) in
      turned parts' right (p ∷ left) all_right all_left
      (drops_left parts parts' q p right left all_right all_left (turned parts (p ∷ left) (q ∷ right) all_left all_right m) rising turn h)

  pub met_values : (parts left right all_left all_right : List (Ends Q)) → IsMeeting value parts left right all_left all_right → (left ≡ []) ⊎ (right ≡ []) → (x : ℚ) → IsIn value parts x ↔ (IsIn value all_left x × IsIn value all_right x)
  met_values parts left right all_left all_right m (inl e) x =
      let kept = rw e at m.kept x in (
        λ a. m.within x (inl a),
        λ b. ⊎_elim (λ a. a) (λ both. absurd both.0) (kept b.0 b.1),
      )
  met_values parts left right all_left all_right m (inr e) x =
      let kept = rw e at m.kept x in (
        λ a. m.within x (inl a),
        λ b. ⊎_elim (λ a. a) (λ both. absurd both.1) (kept b.0 b.1),
      )

  -- skipping
  pub skips : (height : ℚ) (part : Ends Q) (later all : List (Ends Q)) → IsSkipping value height (part ∷ later) all → value part.high <ℚ height → IsSkipping value height later all
  skips height part later all s h = record {
    rising = s.rising.2;
    within = λ x m. s.within x (inr m);
    kept = λ x n m. ⊎_elim (λ w. absurd (clash_ℚ h (≤ℚ_trans n w.below))) (λ k. k) (s.kept x n m);
  }

  -- comparing
  module _ (part : Ends Q) (later right right' all_left all_right : List (Ends Q)) (c : IsComparing value (part ∷ later) right all_left all_right) (rising : AreRising value right') (within : (x : ℚ) → IsIn value right' x → IsIn value right x) (kept : (x : ℚ) → value part.low ≤ℚ x → IsIn value right x → IsIn value right' x) where
    pub compares : ((x : ℚ) → Holds value part x → IsIn value right' x) → IsComparing value later right' all_left all_right
    compares covered = record {
      left_rising = c.left_rising.2;
      right_rising = rising;
      left_in = λ x m. c.left_in x (inr m);
      covered = λ x m. ⊎_elim inl (⊎_elim (λ w. inl (c.within x (within x (covered x w)))) inr) (c.covered x m);
      kept = λ x m n. kept x (from_first value part later c.left_rising x (inr m)) (c.kept x (inr m) n);
      within = λ x m. c.within x (within x m);
    }

    pub escapes : (x : ℚ) × Holds value part x × ¬ IsIn value right' x → (x : ℚ) × IsIn value all_left x × ¬ IsIn value all_right x
    escapes out = (out.0, c.left_in out.0 (inl out.1), λ n. out.2 (kept out.0 out.1.above (c.kept out.0 (inl out.1) n)))

  -- the first part holds an interval that begins no higher than it ends, or a value of the interval is in no part
  pub holds_all : (first part : Ends Q) (later : List (Ends Q)) → value first.low ≤ℚ value part.low → value part.high ≤ℚ value first.high → (x : ℚ) → Holds value part x → IsIn value (first ∷ later) x
  holds_all first part later h k x w = inl (record { above = ≤ℚ_trans h w.above; below = ≤ℚ_trans w.below k })

  pub begins_below : (first part : Ends Q) (later : List (Ends Q)) → AreRising value (first ∷ later) → IsProper value part → value part.low <ℚ value first.low → (x : ℚ) × Holds value part x × ¬ IsIn value (first ∷ later) x
  begins_below first part later r proper h = (
    value part.low,
    record { above = ≤ℚ_refl (value part.low); below = proper },
    λ m. clash_ℚ h (from_first value first later r (value part.low) m),
  )

  pub ends_above : (first part : Ends Q) (later : List (Ends Q)) → AreRising value (first ∷ later) → value part.low ≤ℚ value first.high → value first.high <ℚ value part.high → (x : ℚ) × Holds value part x × ¬ IsIn value (first ∷ later) x
  ends_above first part later r reaches h =
      let out = gap value first later (value part.high) r h in
      (out.0, record { above = ≤ℚ_trans reaches (<ℚ-≤ℚ out.1); below = out.2 }, out.3)

  pub covers_told : (b : Bool) (first part : Ends Q) (later : List (Ends Q)) → AreRising value (first ∷ later) → value part.low ≤ℚ value first.high → value first.low ≤ℚ value part.low → MatchBool b (value part.high ≤ℚ value first.high) (value first.high <ℚ value part.high) → MatchBool b ((x : ℚ) → Holds value part x → IsIn value (first ∷ later) x) ((x : ℚ) × Holds value part x × ¬ IsIn value (first ∷ later) x)
  covers_told true first part later r reaches h k = holds_all first part later h k
  covers_told false first part later r reaches h k = ends_above first part later r reaches k

  -- a value below the first part's high end is in the set where it is not below its low end
  pub finds : (b : Bool) (v : ℚ) (part : Ends Q) (later all : List (Ends Q)) → AreRising value (part ∷ later) → v ≤ℚ value part.high → ((x : ℚ) → IsIn value (part ∷ later) x → IsIn value all x) → ((x : ℚ) → v ≤ℚ x → IsIn value all x → IsIn value (part ∷ later) x) → MatchBool b (value part.low ≤ℚ v) (v <ℚ value part.low) → MatchBool b (IsIn value all v) (¬ IsIn value all v)
  finds true v part later all r reaches within kept h = within v (inl (record { above = h; below = reaches }))
  finds false v part later all r reaches within kept h = λ m. clash_ℚ h (from_first value part later r v (kept v (≤ℚ_refl v) m))
