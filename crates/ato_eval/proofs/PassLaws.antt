-- A pass over the marked nodes, from the first to the last.
use Rattle.std.proofs.Common.{◌≡◌, ◌⊎◌, inl, inr, ⊎_elim, ℕ, ◌+◌, ◌<◌, ◌≤◌, Bool, true, false, List, [], ◌∷◌, length, get_or, set, ap, ap₂, sym, ◌∙◌, subst, arith}
use Rattle.std.specs.Prelude.{Contains, ◌↔◌, slice_get, Some, Result, Ok, Err, MatchResult}
use Rattle.ato_base.proofs.ClassLaws.{first, later}
use Rattle.ato_frac.specs.declared.fraction.Frac.{Frac}
use Rattle.ato_frac.specs.Fractions.{value_of}
use Rattle.ato_interval.specs.Ends.{Ends, IsProper}
use Rattle.ato_expr.specs.declared.ops.Op.{Op}
use Rattle.ato_expr.specs.declared.scratch.Stretch.{Stretch}
use Rattle.ato_expr.specs.Labels.{HaveLabels, labelled, no_label, a_label, IsRefused, StopsFor}
use Rattle.ato_expr.specs.Scratches.{IsMarked}
use Rattle.ato_expr.specs.Tables.{Entry, IsTable, IsBelow, child}
use Rattle.std.proofs.lemmas.Bool.{cases_order}
use Rattle.ato_expr.proofs.EvaluationLaws.{written, before_written}
use Rattle.ato_eval.specs.declared.reason.Reason.{Reason}
use Rattle.ato_eval.specs.Intervals.{GivesInterval, RefusesInterval}
use Rattle.ato_eval.specs.Judgements.{HasInterval}
use Rattle.ato_eval.specs.Kept.{AreAt, AllKept, GivesAt, RefusesAt, IsKept}

-- the last one, or one before
last_or_before : (k node : ℕ) → k < node + 1 → (k < node) ⊎ (k ≡ node)
last_or_before k node h = ⊎_elim (λ e. inr e) (λ d. ⊎_elim (λ g. inl g) (λ g. absurd (omega arith)) d) (cases_order k node)

module _ (table : List Entry) (roots : List ℕ) (ranges : List (Ends Frac)) (stretch : Stretch) (old now : List Bool)
    (marks : (k : ℕ) → IsMarked stretch old k ↔ IsBelow table roots k) (same : now ≡ old) where
  pub node_below : (node : ℕ) → stretch.first ≤ node → node < stretch.end → get_or now node false ≡ true → IsBelow table roots node
  node_below node from below set = (marks node).0 (record { from = from; below = below; set = subst (λ (ms : List Bool). get_or ms node false ≡ true) same set })

  -- a node that is not marked is not below the roots
  pub held_still : (ends : List (Frac × Frac)) (node : ℕ) → get_or now node false ≡ false
      → ((k : ℕ) → k < node → IsBelow table roots k → IsKept table ranges ends k) → (k : ℕ) → k < node + 1 → IsBelow table roots k → IsKept table ranges ends k
  held_still ends node unset held k h b =
      ⊎_elim
      (λ g. held k g b)
      (λ (e : k ≡ node).
      let m = (marks k).1 b in
      let clash : false ≡ true = sym unset ∙ ap (λ (ms : List Bool). get_or ms node false) same ∙ ap (λ n. get_or old n false) (sym e) ∙ m.set in
      absurd (let c : false ≡ true = clash in cc))
      (last_or_before k node h)

  -- after the last, all are held
  pub all_held : (ends : List (Frac × Frac)) (node : ℕ) → stretch.end ≤ node
      → ((k : ℕ) → k < node → IsBelow table roots k → IsKept table ranges ends k) → (k : ℕ) → IsBelow table roots k → IsKept table ranges ends k
  all_held ends node h held k b = held k (let m = (marks k).1 b in let l : k < stretch.end = m.below in omega arith) b

module _ (table : List Entry) (roots : List ℕ) (ranges : List (Ends Frac)) where
  -- one interval more
  pub held_more : (ends : List (Frac × Frac)) (node : ℕ) (x : Ends Frac) (low high : Frac) → node < length ends → HasInterval table ranges node x → IsProper value_of x → low ≡ x.low → high ≡ x.high
      → ((k : ℕ) → k < node → IsBelow table roots k → IsKept table ranges ends k)
      → (k : ℕ) → k < node + 1 → IsBelow table roots k → IsKept table ranges (set ends node (low, high)) k
  held_more ends node x low high there has proper d e held k h b =
      ⊎_elim
      (λ g. let i = held k g b in record { interval = i.interval; at = record { kept = before_written ends node k (low, high) g ∙ i.at.kept; proper = i.at.proper }; has = i.has })
      (λ (same : k ≡ node). record {
        interval = x;
        at = record {
          kept = ap (slice_get (set ends node (low, high))) same ∙ written ends node (low, high) there ∙ ap₂ (λ (l t : Frac). Some (l, t)) d e;
          proper = proper;
        };
        has = subst (λ n. HasInterval table ranges n x) (sym same) has;
      })
      (last_or_before k node h)

  -- the children of a node below the roots are held, where all before it are
  pub children_held : (ends : List (Frac × Frac)) (node : ℕ) → IsTable table → IsBelow table roots node
      → ((k : ℕ) → k < node → IsBelow table roots k → IsKept table ranges ends k)
      → (c : ℕ) (e : Entry) → slice_get table node ≡ Some e → Contains e.children c → IsKept table ranges ends c
  children_held ends node t below held c e at is = held c (t.before node e at c is) (child e below at is)

  -- the first one that is refused
  pub stops_here : (ends : List (Frac × Frac)) (node : ℕ) (f : Reason) → IsBelow table roots node → IsRefused (GivesInterval ranges) RefusesInterval table node f
      → ((k : ℕ) → k < node → IsBelow table roots k → IsKept table ranges ends k) → StopsFor (GivesInterval ranges) RefusesInterval table roots f
  stops_here ends node f below refused held =
      (node, record { below = below; refused = refused; earlier = λ k h b. let i = held k h b in (i.interval, i.has) })

  -- ---- one node

  pub record Gathered (ends : List (Frac × Frac)) (ns : List ℕ) : Type 0 where
    pub intervals : List (Ends Frac)
    pub at : AreAt ends ns intervals
    pub have : HaveLabels (GivesInterval ranges) table ns intervals

  pub gathered : (ends : List (Frac × Frac)) (ns : List ℕ) → ((c : ℕ) → Contains ns c → IsKept table ranges ends c) → Gathered ends ns
  gathered ends [] h = record { intervals = []; at = tt; have = no_label }
  gathered ends (n ∷ ns) h =
      let own = h n (first n ns) in
      let rest = gathered ends ns (λ c m. h c (later n c ns m)) in
      record { intervals = own.interval ∷ rest.intervals; at = (own.at, rest.at); have = a_label own.has rest.have }

  pub all_kept : (ends : List (Frac × Frac)) (ns : List ℕ) → ((c : ℕ) → Contains ns c → IsKept table ranges ends c) → AllKept ends ns
  all_kept ends ns h = let g = gathered ends ns h in (g.intervals, g.at)

  pub answered : (ends : List (Frac × Frac)) (node : ℕ) (op : Op) (ns : List ℕ) (result : Result (Ends Frac) Reason) → slice_get table node ≡ Some (record { op = op; children = ns })
      → ((c : ℕ) → Contains ns c → IsKept table ranges ends c) → MatchResult result (GivesAt ranges op ends ns) (RefusesAt op ends ns)
      → MatchResult result (HasInterval table ranges node) (IsRefused (GivesInterval ranges) RefusesInterval table node)
  answered ends node op ns (Ok r) e h g =
      let all = gathered ends ns h in
      labelled (record { op = op; children = ns }) all.intervals e all.have (g all.intervals all.at)
  answered ends node op ns (Err f) e h g =
      let all = gathered ends ns h in
      record { entry = record { op = op; children = ns }; labels = all.intervals; at = e; have = all.have; refused = g all.intervals all.at }
