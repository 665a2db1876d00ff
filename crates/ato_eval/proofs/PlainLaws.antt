-- A plain relation whose nodes have intervals holds over all of the ranges, or fails at a corner of them.
use Rattle.std.proofs.Common.{◌≡◌, ◌≢◌, ℕ, suc, Bool, true, false, List, [], ◌∷◌, ◌++◌, refl, ap, sym, ◌∙◌, subst, ◌⊎◌, inl, inr, ⊎_elim}
use Rattle.std.specs.Prelude.{Contains, slice_get, Some}
use Rattle.ato_base.proofs.ClassLaws.{first, later}
use Rattle.ato_rational.specs.Rational.{ℚ, ◌≈ℚ◌, ◌≤ℚ◌, ◌<ℚ◌}
use Rattle.ato_rational.proofs.Order.{≤ℚ_refl, ≤ℚ_trans, ≤ℚ_antisymm, ≤ℚ_or_<ℚ, <ℚ-≤ℚ_trans, ≤ℚ-<ℚ_trans, ≈ℚ_refl, ≈ℚ-≤ℚ, ≈ℚ_sym, clash_ℚ}
use Rattle.ato_frac.specs.declared.fraction.Frac.{Frac}
use Rattle.ato_frac.specs.Fractions.{value_of}
use Rattle.ato_interval.specs.Ends.{Ends, Holds}
use Rattle.ato_expr.specs.declared.ops.Op.{Op}
use Rattle.ato_expr.specs.declared.ops.Op.TheVariants as ops
use Rattle.ato_expr.specs.declared.ops.Relation.{Relation}
use Rattle.ato_expr.specs.declared.ops.Relation.TheVariants as relations
use Rattle.ato_expr.specs.Tables.{Entry, IsBelow, root, child}
use Rattle.ato_expr.specs.Labels.{HasLabel, HaveLabels, labelled, no_label, a_label}
use Rattle.ato_expr.specs.Values.{op_value, GivesValue, HasValue, LiesIn, within, less, at_most, equal, roots_of}
use Rattle.ato_expr.proofs.LabelLaws.{AreRelated, all_carried, rests, same_entry, taken}
use Rattle.ato_expr.proofs.ValueLaws.{value_once}
use Rattle.std.proofs.lemmas.Bool.{true≢false}
use Rattle.ato_eval.specs.declared.judgement.Judgement.{Judgement}
use Rattle.ato_eval.specs.declared.judgement.Judgement.TheVariants as judgements
use Rattle.ato_eval.specs.declared.reason.Reason.{Reason}
use Rattle.ato_eval.specs.declared.reason.Reason.TheVariants.{TooWide, ByZero, ZeroInside}
use Rattle.ato_eval.specs.Intervals.{GivesInterval, RefusesInterval}
use Rattle.ato_eval.specs.Judgements.{IsInside, HasInterval, IsSure, AllHave, Judges}
use Rattle.ato_eval.specs.Plain.{AreRanges, flat, GivesPlaces, IsOnce, IsPlainStep, IsPlain, end_of, corner, FailsAtCorner}
use Rattle.ato_eval.proofs.EnclosureLaws.{IsHeld, step, judged_false}
use Rattle.ato_eval.proofs.JudgementLaws.{is_quotient, wide_alone, apart_clash, only_held}
use Rattle.ato_eval.proofs.LiesLaws.{lies_told, lies_same}
use Rattle.ato_eval.proofs.EndLaws.{at, AreEnds, AreProper, IsAtVariable, Choice, choose, pair}
use Rattle.ato_eval.proofs.PlaceLaws.{merged, merged_in, merged_out, once_left, once_right, once_apart, places_once, agree, agree_all}

no_nodes : {L : Type 0} (Gives : Op → List L → L → Type 0) (table : List Entry) {ns : List ℕ} → HaveLabels Gives table ns [] → ns ≡ []
no_nodes Gives table no_label = refl

held_proper : (cs : List (Ends Frac)) (xs : List ℚ) → AreRelated IsHeld cs xs → AreProper cs
held_proper [] xs r = tt
held_proper (c ∷ cs) [] r = absurd r
held_proper (c ∷ cs) (x ∷ xs) r = (≤ℚ_trans r.0.above r.0.below, held_proper cs xs r.1)

-- every node with an interval has places
placed : (ranges : List (Ends Frac)) (op : Op) (cs : List (Ends Frac)) (r : Ends Frac) (ls : List (List ℕ)) → GivesInterval ranges op cs r → AreRelated (λ (c : Ends Frac) (l : List ℕ). Unit {0}) cs ls
    → (l : List ℕ) × GivesPlaces op ls l × Unit {0}
placed ranges (ops.Var v) cs r ls g rel = (v ∷ flat ls, refl, tt)
placed ranges (ops.Const q) cs r ls g rel = (flat ls, refl, tt)
placed ranges ops.Sum cs r ls g rel = (flat ls, refl, tt)
placed ranges ops.Neg cs r ls g rel = (flat ls, refl, tt)
placed ranges ops.Product cs r ls g rel = (flat ls, refl, tt)
placed ranges ops.Quotient cs r ls g rel = (flat ls, refl, tt)
placed ranges (ops.Power k) cs r ls g rel = (flat ls, refl, tt)
placed ranges ops.Min cs r ls g rel = (flat ls, refl, tt)
placed ranges ops.Max cs r ls g rel = (flat ls, refl, tt)
placed ranges ops.Abs cs r ls g rel = (flat ls, refl, tt)

module _ (table : List Entry) (ranges : List (Ends Frac)) (proper : AreRanges ranges) where
  low_inside : IsInside ranges (corner ranges (λ v. false))
  low_inside v range e =
      subst (λ o. Holds value_of range (end_of o false)) (sym e) (record { above = ≤ℚ_refl (value_of range.low); below = proper v range e })

  proper_all : {ns : List ℕ} {cs : List (Ends Frac)} → HaveLabels (GivesInterval ranges) table ns cs → AreProper cs
  proper_all {ns} {cs} have =
      let t = all_carried IsHeld (GivesInterval ranges) (GivesValue (corner ranges (λ v. false))) table (step ranges (corner ranges (λ v. false)) low_inside) have in
      held_proper cs t.0 t.2

  pub record Reached (n : ℕ) (r : Ends Frac) (b : Bool) : Type 0 where
    pub high : ℕ → Bool
    pub x : ℚ
    pub has : HasValue table (corner ranges high) n x
    pub same : x ≈ℚ at r b

  pub record AllReached (ns : List ℕ) (cs : List (Ends Frac)) (pick : ℕ → Bool) : Type 0 where
    pub high : ℕ → Bool
    pub xs : List ℚ
    pub have : HaveLabels (GivesValue (corner ranges high)) table ns xs
    pub ends : AreEnds cs pick xs

  -- an operation at the ends that its children reach
  record Assembled (op : Op) (ns : List ℕ) (e : ℚ) : Type 0 where
    pub high : ℕ → Bool
    pub xs : List ℚ
    pub x : ℚ
    pub have : HaveLabels (GivesValue (corner ranges high)) table ns xs
    pub gives : op_value (corner ranges high) op xs ≡ Some x
    pub same : x ≈ℚ e

  over : (op : Op) {ns : List ℕ} {cs : List (Ends Frac)} (e : ℚ) (choice : Choice op cs e) → ((point : ℕ → ℚ) → IsAtVariable op point e) → AllReached ns cs choice.pick → Assembled op ns e
  over op e choice any t =
      let own = choice.works (corner ranges t.high) t.xs t.ends (any (corner ranges t.high)) in
      record { high = t.high; xs = t.xs; x = own.0; have = t.have; gives = own.1; same = own.2 }

  at_variable : (v : ℕ) {ns : List ℕ} (cs : List (Ends Frac)) (r : Ends Frac) → GivesInterval ranges (ops.Var v) cs r → HaveLabels (GivesInterval ranges) table ns cs → (b : Bool) → Assembled (ops.Var v) ns (at r b)
  at_variable v {ns} [] r g have b = record {
    high = λ w. b;
    xs = [];
    x = end_of (slice_get ranges v) b;
    have = subst (λ ms. HaveLabels (GivesValue (corner ranges (λ w. b))) table ms []) (sym (no_nodes (GivesInterval ranges) table have)) no_label;
    gives = refl;
    same = subst (λ o. end_of o b ≈ℚ at r b) (sym g) (is_end b);
  }
    where
      is_end : (c : Bool) → end_of (Some r) c ≈ℚ at r c
      is_end true = ≈ℚ_refl _
      is_end false = ≈ℚ_refl _
  at_variable v (c ∷ cs) r g have b = absurd g

  assemble : (op : Op) {ns : List ℕ} (cs : List (Ends Frac)) (r : Ends Frac) → GivesInterval ranges op cs r → HaveLabels (GivesInterval ranges) table ns cs → (b : Bool)
      → (choice : Choice op cs (at r b)) → AllReached ns cs choice.pick → Assembled op ns (at r b)
  assemble (ops.Var v) cs r g have b choice t = at_variable v cs r g have b
  assemble (ops.Const q) cs r g have b choice t = over (ops.Const q) (at r b) choice (λ p. tt) t
  assemble ops.Sum cs r g have b choice t = over ops.Sum (at r b) choice (λ p. tt) t
  assemble ops.Neg cs r g have b choice t = over ops.Neg (at r b) choice (λ p. tt) t
  assemble ops.Product cs r g have b choice t = over ops.Product (at r b) choice (λ p. tt) t
  assemble ops.Quotient cs r g have b choice t = over ops.Quotient (at r b) choice (λ p. tt) t
  assemble (ops.Power k) cs r g have b choice t = over (ops.Power k) (at r b) choice (λ p. tt) t
  assemble ops.Min cs r g have b choice t = over ops.Min (at r b) choice (λ p. tt) t
  assemble ops.Max cs r g have b choice t = over ops.Max (at r b) choice (λ p. tt) t
  assemble ops.Abs cs r g have b choice t = over ops.Abs (at r b) choice (λ p. tt) t

  module _ (roots : List ℕ) (steps : (n : ℕ) (e : Entry) (cs : List (Ends Frac)) → IsBelow table roots n → slice_get table n ≡ Some e
      → HaveLabels (GivesInterval ranges) table e.children cs → IsPlainStep e.op cs) where
    mutual
      pub end_reached : {n : ℕ} {r : Ends Frac} {l : List ℕ} → HasInterval table ranges n r → HasLabel GivesPlaces table n l → IsOnce l → IsBelow table roots n → (b : Bool) → Reached n r b
      end_reached {n} {r} {l} (labelled e cs is have g) places once below b =
          let p = rests GivesPlaces table places in
          let entry = same_entry table n p.entry e p.at is in
          let gives = subst (λ d. GivesPlaces d.op p.labels l) entry p.gives in
          let choice = choose ranges e.op cs r g (proper_all have) (steps n e cs below is have) b in
          let t = ends_reached have (subst (λ d. HaveLabels GivesPlaces table d.children p.labels) entry p.have) (places_once e.op p.labels l gives once)
          (λ c h. child e below is h) choice.pick
          in
          let done = assemble e.op cs r g have b choice t in
          record { high = done.high; x = done.x; has = labelled e done.xs is done.have done.gives; same = done.same }

      pub ends_reached : {ns : List ℕ} {cs : List (Ends Frac)} {ls : List (List ℕ)} → HaveLabels (GivesInterval ranges) table ns cs → HaveLabels GivesPlaces table ns ls → IsOnce (flat ls)
          → ((c : ℕ) → Contains ns c → IsBelow table roots c) → (pick : ℕ → Bool) → AllReached ns cs pick
      ends_reached no_label places once below pick = record { high = λ v. false; xs = []; have = no_label; ends = tt }
      ends_reached (a_label {n = n} {ns = ns} one more) places once below pick =
          let t = taken GivesPlaces table places in
          let apart : IsOnce (t.0 ++ flat t.1) = subst (λ m. IsOnce (flat m)) t.2 once in
          let own = end_reached one t.3 (once_left t.0 (flat t.1) apart) (below n (first n ns)) (pick 0) in
          let others = ends_reached more t.4 (once_right t.0 (flat t.1) apart) (λ c h. below c (later n c ns h)) (λ i. pick (suc i)) in
          let both = merged t.0 own.high others.high in
          record {
            high = both;
            xs = own.x ∷ others.xs;
            have = a_label
                (agree (corner ranges own.high) (corner ranges both) table t.3 (λ v h. ap (end_of (slice_get ranges v)) (sym (merged_in t.0 own.high others.high v h))) own.has)
                (agree_all (corner ranges others.high) (corner ranges both) table t.4
                (λ v h. ap (end_of (slice_get ranges v)) (sym (merged_out t.0 own.high others.high v (λ k. once_apart t.0 (flat t.1) apart v k h))))
                others.have);
            ends = (own.same, others.ends);
          }

-- ---- sides and relations

module _ (table : List Entry) (ranges : List (Ends Frac)) (proper : AreRanges ranges) where
  places_of : {ns : List ℕ} {cs : List (Ends Frac)} → HaveLabels (GivesInterval ranges) table ns cs → (ls : List (List ℕ)) × HaveLabels GivesPlaces table ns ls
  places_of have = let t = all_carried (λ (c : Ends Frac) (l : List ℕ). Unit {0}) (GivesInterval ranges) GivesPlaces table (placed ranges) have in (t.0, t.1)

  record AtOne (n : ℕ) (e : ℚ) : Type 0 where
    pub high : ℕ → Bool
    pub x : ℚ
    pub has : HasValue table (corner ranges high) n x
    pub same : x ≈ℚ e

  record AtTwo (m n : ℕ) (d e : ℚ) : Type 0 where
    pub high : ℕ → Bool
    pub x : ℚ
    pub y : ℚ
    pub left : HasValue table (corner ranges high) m x
    pub right : HasValue table (corner ranges high) n y
    pub left_same : x ≈ℚ d
    pub right_same : y ≈ℚ e

  module _ (relation : Relation) (plain : IsPlain table ranges relation) where
    reach_all : {cs : List (Ends Frac)} → HaveLabels (GivesInterval ranges) table (roots_of relation) cs → (pick : ℕ → Bool) → AllReached table ranges proper (roots_of relation) cs pick
    reach_all have pick =
        let p = places_of have in
        ends_reached table ranges proper (roots_of relation) plain.steps have p.1 (plain.places p.0 p.1) (λ c h. root h) pick

  at_two : (m n : ℕ) (a b : Ends Frac) (pick : ℕ → Bool) → AllReached table ranges proper (m ∷ n ∷ []) (a ∷ b ∷ []) pick → AtTwo m n (at a (pick 0)) (at b (pick 1))
  at_two m n a b pick t =
      let one = taken (GivesValue (corner ranges t.high)) table t.have in
      let two = taken (GivesValue (corner ranges t.high)) table one.4 in
      let ends : AreEnds (a ∷ b ∷ []) pick (one.0 ∷ two.0 ∷ two.1) = subst (AreEnds (a ∷ b ∷ []) pick) (one.2 ∙ ap (λ l. one.0 ∷ l) two.2) t.ends in
      record { high = t.high; x = one.0; y = two.0; left = one.3; right = two.3; left_same = ends.0; right_same = ends.1.0 }

  at_one : (n : ℕ) (a : Ends Frac) (pick : ℕ → Bool) → AllReached table ranges proper (n ∷ []) (a ∷ []) pick → AtOne n (at a (pick 0))
  at_one n a pick t =
      let one = taken (GivesValue (corner ranges t.high)) table t.have in
      let ends : AreEnds (a ∷ []) pick (one.0 ∷ one.1) = subst (AreEnds (a ∷ []) pick) one.2 t.ends in
      record { high = t.high; x = one.0; has = one.3; same = ends.0 }

  -- what the sides come to at the corner decides
  at_corner : (high : ℕ → Bool) {n : ℕ} {x y : ℚ} → HasValue table (corner ranges high) n x → HasValue table (corner ranges high) n y → x ≡ y
  at_corner high v w = value_once table (corner ranges high) v w

  fails_less : {m n : ℕ} {d e : ℚ} (t : AtTwo m n d e) → e ≤ℚ d → FailsAtCorner table ranges (relations.Less m n) t.high
  fails_less t h (less x y v w k) =
      clash_ℚ
      (subst (λ z. z <ℚ t.y) (at_corner t.high v t.left) (subst (λ z. x <ℚ z) (at_corner t.high w t.right) k))
      (≤ℚ_trans (≈ℚ-≤ℚ t.right_same) (≤ℚ_trans h (≈ℚ-≤ℚ (≈ℚ_sym t.left_same))))

  fails_at_most : {m n : ℕ} {d e : ℚ} (t : AtTwo m n d e) → e <ℚ d → FailsAtCorner table ranges (relations.LessEq m n) t.high
  fails_at_most t h (at_most x y v w k) =
      clash_ℚ
      (≤ℚ-<ℚ_trans (≈ℚ-≤ℚ t.right_same) (<ℚ-≤ℚ_trans h (≈ℚ-≤ℚ (≈ℚ_sym t.left_same))))
      (subst (λ z. z ≤ℚ t.y) (at_corner t.high v t.left) (subst (λ z. x ≤ℚ z) (at_corner t.high w t.right) k))

  fails_equal : {m n : ℕ} {d e : ℚ} (t : AtTwo m n d e) → (e <ℚ d) ⊎ (d <ℚ e) → FailsAtCorner table ranges (relations.Equal m n) t.high
  fails_equal t h (equal x y v w k) =
      let own = subst (λ z. z ≈ℚ t.y) (at_corner t.high v t.left) (subst (λ z. x ≈ℚ z) (at_corner t.high w t.right) k) in
      ⊎_elim
      (λ l. clash_ℚ l (≤ℚ_trans (≈ℚ-≤ℚ (≈ℚ_sym t.left_same)) (≤ℚ_trans (≈ℚ-≤ℚ own) (≈ℚ-≤ℚ t.right_same))))
      (λ l. clash_ℚ l (≤ℚ_trans (≈ℚ-≤ℚ (≈ℚ_sym t.right_same)) (≤ℚ_trans (≈ℚ-≤ℚ (≈ℚ_sym own)) (≈ℚ-≤ℚ t.left_same))))
      h

  fails_within : {n : ℕ} {e : ℚ} (target : List (Frac × Frac)) (t : AtOne n e) → ¬ LiesIn target e → FailsAtCorner table ranges (relations.Within n target) t.high
  fails_within target t h (within x v k) = h (lies_same target t.same (subst (LiesIn target) (at_corner t.high v t.has) k))

  -- a plain relation that is not sure fails at a corner
  pub fails_at_corner : (relation : Relation) → IsPlain table ranges relation → AllHave table ranges relation → ¬ IsSure table ranges relation
      → (high : ℕ → Bool) × FailsAtCorner table ranges relation high
  fails_at_corner (relations.Within n target) plain have unsure =
      let a = have n (first n []) in
      let side = a_label a.1 no_label in
      ⊎_elim
      (λ low. ⊎_elim
      (λ high. absurd (unsure (a.0, a.1, λ x w. plain.target (value_of a.0.low) x (value_of a.0.high) low high w.above w.below)))
      (λ none. let t = at_one n a.0 (λ i. true) (reach_all (relations.Within n target) plain side (λ i. true)) in (t.high, fails_within target t none))
      (lies_told target (value_of a.0.high)))
      (λ none. let t = at_one n a.0 (λ i. false) (reach_all (relations.Within n target) plain side (λ i. false)) in (t.high, fails_within target t none))
      (lies_told target (value_of a.0.low))
  fails_at_corner (relations.Less m n) plain have unsure =
      let a = have m (first m (n ∷ [])) in
      let b = have n (later m n (n ∷ []) (first n [])) in
      let t = at_two m n a.0 b.0 (pair true false) (reach_all (relations.Less m n) plain (a_label a.1 (a_label b.1 no_label)) (pair true false)) in
      ⊎_elim
      (λ h. (t.high, fails_less t h))
      (λ h. absurd (unsure (a.0, b.0, a.1, b.1, h)))
      (≤ℚ_or_<ℚ (value_of b.0.low) (value_of a.0.high))
  fails_at_corner (relations.LessEq m n) plain have unsure =
      let a = have m (first m (n ∷ [])) in
      let b = have n (later m n (n ∷ []) (first n [])) in
      let t = at_two m n a.0 b.0 (pair true false) (reach_all (relations.LessEq m n) plain (a_label a.1 (a_label b.1 no_label)) (pair true false)) in
      ⊎_elim
      (λ h. absurd (unsure (a.0, b.0, a.1, b.1, h)))
      (λ h. (t.high, fails_at_most t h))
      (≤ℚ_or_<ℚ (value_of a.0.high) (value_of b.0.low))
  fails_at_corner (relations.Equal m n) plain have unsure =
      let a = have m (first m (n ∷ [])) in
      let b = have n (later m n (n ∷ []) (first n [])) in
      let sides = a_label a.1 (a_label b.1 no_label) in
      let p = proper_all table ranges proper sides in
      let t = at_two m n a.0 b.0 (pair true false) (reach_all (relations.Equal m n) plain sides (pair true false)) in
      let u = at_two m n a.0 b.0 (pair false true) (reach_all (relations.Equal m n) plain sides (pair false true)) in
      ⊎_elim
      (λ h. ⊎_elim
      (λ k. absurd (unsure (
        a.0,
        b.0,
        a.1,
        b.1,
        (
          ≤ℚ_antisymm p.0 (≤ℚ_trans h (≤ℚ_trans p.1.0 k)),
          ≤ℚ_antisymm h (≤ℚ_trans p.1.0 (≤ℚ_trans k p.0)),
          ≤ℚ_antisymm p.1.0 (≤ℚ_trans k (≤ℚ_trans p.0 h)),
        ),
      )))
      (λ k. (u.high, fails_equal u (inr k)))
      (≤ℚ_or_<ℚ (value_of b.0.high) (value_of a.0.low)))
      (λ h. (t.high, fails_equal t (inl h)))
      (≤ℚ_or_<ℚ (value_of a.0.high) (value_of b.0.low))
  fails_at_corner (relations.Defined n) plain have unsure =
      let a = have n (first n []) in
      absurd (unsure (a.0, a.1, tt))

-- ---- what is judged of a plain relation

quotient_stop : (cs : List (Ends Frac)) (p : Reason) → RefusesInterval ops.Quotient cs p → IsPlainStep ops.Quotient cs → p ≡ TooWide
quotient_stop [] p h plain = absurd h
quotient_stop (a ∷ []) p h plain = absurd h
quotient_stop (a ∷ b ∷ []) TooWide h plain = refl
quotient_stop (a ∷ b ∷ []) ByZero h plain = absurd (apart_clash plain (only_held b h))
quotient_stop (a ∷ b ∷ []) ZeroInside h plain = absurd (apart_clash plain h.0)
quotient_stop (a ∷ b ∷ c ∷ cs) p h plain = absurd h

plain_stop : (op : Op) (cs : List (Ends Frac)) (p : Reason) → RefusesInterval op cs p → IsPlainStep op cs → p ≡ TooWide
plain_stop op cs p h plain = by (is_quotient op) refl
  where
    quotient : (o : Op) → is_quotient o ≡ true → RefusesInterval o cs p → IsPlainStep o cs → p ≡ TooWide
    quotient ops.Quotient e r s = quotient_stop cs p r s
    quotient o e r s = absurd (true≢false (sym e))

    by : (b : Bool) → is_quotient op ≡ b → p ≡ TooWide
    by true e = quotient op e h plain
    by false e = wide_alone op cs p e h

abbrev is_zero_inside : Reason → Bool
is_zero_inside ZeroInside = true
is_zero_inside p = false

-- a plain relation that is judged neither True nor Wide fails at a corner
pub corner_decides : (table : List Entry) (ranges : List (Ends Frac)) → AreRanges ranges → (relation : Relation) → IsPlain table ranges relation → (j : Judgement) → Judges table ranges relation j
    → j ≢ judgements.True → j ≢ judgements.Wide → (high : ℕ → Bool) × FailsAtCorner table ranges relation high
corner_decides table ranges proper relation plain judgements.True h unsure narrow = absurd (unsure refl)
corner_decides table ranges proper relation plain judgements.False h unsure narrow =
    (λ v. false, λ holds. judged_false ranges (corner ranges (λ v. false)) (low_inside table ranges proper) table relation h holds)
corner_decides table ranges proper relation plain judgements.Unknown h unsure narrow =
    ⊎_elim
    (λ u. fails_at_corner table ranges proper relation plain u.0 u.1)
    (λ s.
    let r = s.1.refused in
    absurd (true≢false (ap is_zero_inside (plain_stop r.entry.op r.labels ZeroInside r.refused (plain.steps s.0 r.entry r.labels s.1.below r.at r.have)))))
    h
corner_decides table ranges proper relation plain judgements.Wide h unsure narrow = absurd (narrow refl)
