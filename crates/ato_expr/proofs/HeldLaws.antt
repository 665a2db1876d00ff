-- The fractions that are held for nodes, and operations over them.
use Rattle.std.proofs.Common.{◌≡◌, inl, inr, ⊎_elim, ℕ, zero, suc, ◌+◌, ◌-◌, ◌<◌, ◌≤◌, List, [], ◌∷◌, ◌++◌, length, get_or, take, drop, refl, ap, sym, ◌∙◌, subst, arith, add-one, drop-cons}
use Rattle.std.specs.Prelude.{Contains, slice_get, Some, Result, Ok, Err, MatchResult}
use Rattle.std.proofs.lemmas.Option.{slice_get-get_or, same_Some}
use Rattle.std.proofs.lemmas.List.{take-append-drop}
use Rattle.std.proofs.lemmas.List.Elements.{Contains-append_right}
use Rattle.std.proofs.Math.Seq.{take-suc, take-length}
use Rattle.ato_base.proofs.ClassLaws.{first, later}
use Rattle.ato_frac.specs.declared.faults.NumFault.{NumFault}
use Rattle.ato_frac.specs.declared.faults.NumFault.TheVariants as faults
use Rattle.ato_frac.specs.declared.fraction.Frac.{Frac}
use Rattle.ato_expr.specs.declared.ops.Op.{Op}
use Rattle.ato_expr.specs.declared.ops.Op.TheVariants as ops
use Rattle.ato_expr.specs.declared.operations.Chain.{Chain}
use Rattle.ato_expr.specs.declared.operations.Chain.TheVariants as chains
use Rattle.ato_expr.specs.AtPoint.{GivesFraction, RefusesFraction}
use Rattle.ato_expr.specs.Chains.{Chains, ChainStops}
use Rattle.ato_expr.specs.Held.{IsAt, AreAt, none_at, one_at, GivesAt, RefusesAt, Steps, RefusesStep, ChainGives, ChainRefuses, IsHeld}
use Rattle.ato_expr.specs.Labels.{HasLabel, HaveLabels, labelled, no_label, a_label, IsRefused}
use Rattle.ato_expr.specs.Tables.{Entry, Fits}

-- a fraction that is read
pub at_place : (ends : List (Frac × Frac)) (n : ℕ) (d : Frac × Frac) → n < length ends → IsAt ends n (get_or ends n d).0
at_place ends n d h = ((get_or ends n d).1, slice_get-get_or ends n d h)

-- lists of one and of two
pub only_one : (ns : List ℕ) → length ns ≡ 1 → ns ≡ get_or ns 0 0 ∷ []
only_one [] h = absurd (omega arith)
only_one (n ∷ []) h = refl
only_one (n ∷ m ∷ ns) h = absurd (omega arith)

pub only_two : (ns : List ℕ) → length ns ≡ 2 → ns ≡ get_or ns 0 0 ∷ get_or ns 1 0 ∷ []
only_two [] h = absurd (omega arith)
only_two (n ∷ []) h = absurd (omega arith)
only_two (n ∷ m ∷ []) h = refl
only_two (n ∷ m ∷ k ∷ ns) h = absurd (omega arith)

pub first_of : (ns : List ℕ) → 1 ≤ length ns → Contains ns (get_or ns 0 0)
first_of [] h = absurd (omega arith)
first_of (n ∷ ns) h = first n ns

pub second_of : (ns : List ℕ) → 2 ≤ length ns → Contains ns (get_or ns 1 0)
second_of [] h = absurd (omega arith)
second_of (n ∷ []) h = absurd (omega arith)
second_of (n ∷ m ∷ ns) h = later n m (m ∷ ns) (first m ns)

-- a list of one or more, as its first and the others
pub rest_is : (ns : List ℕ) → 1 ≤ length ns → get_or ns 0 0 ∷ take (length ns - 1) (drop 1 ns) ≡ ns
rest_is [] h = absurd (omega arith)
rest_is (n ∷ ns) h = ap (λ (ms : List ℕ). n ∷ ms) (ap (λ k. take k ns) (let e : length (n ∷ ns) - 1 ≡ length ns = omega arith in e) ∙ take-length ns)

pub rest_of : (ns : List ℕ) → 1 ≤ length ns → (k : ℕ) → Contains (take (length ns - 1) (drop 1 ns)) k → Contains ns k
rest_of ns h k c = subst (λ ms. Contains ms k) (rest_is ns h) (later (get_or ns 0 0) k (take (length ns - 1) (drop 1 ns)) c)

module _ (ends : List (Frac × Frac)) where
  pub one_here : (n : ℕ) (x : Frac) → IsAt ends n x → AreAt ends (n ∷ []) (x ∷ [])
  one_here n x h = one_at h.0 h.1 none_at

  pub are_one : (ns : List ℕ) (x : Frac) → length ns ≡ 1 → IsAt ends (get_or ns 0 0) x → AreAt ends ns (x ∷ [])
  are_one ns x h a = subst (λ ms. AreAt ends ms (x ∷ [])) (sym (only_one ns h)) (one_here _ x a)

  pub are_two : (ns : List ℕ) (x y : Frac) → length ns ≡ 2 → IsAt ends (get_or ns 0 0) x → IsAt ends (get_or ns 1 0) y → AreAt ends ns (x ∷ y ∷ [])
  are_two ns x y h a b = subst (λ ms. AreAt ends ms (x ∷ y ∷ [])) (sym (only_two ns h)) (one_at a.0 a.1 (one_here _ y b))

  pub at_both : {ns ms : List ℕ} {xs ys : List Frac} → AreAt ends ns xs → AreAt ends ms ys → AreAt ends (ns ++ ms) (xs ++ ys)
  at_both none_at b = b
  at_both (one_at y e rest) b = one_at y e (at_both rest b)

  -- nodes that have room have fractions
  pub at_all : (ns : List ℕ) → ((n : ℕ) → Contains ns n → n < length ends) → (xs : List Frac) × AreAt ends ns xs
  at_all [] h = ([], none_at)
  at_all (n ∷ ns) h =
      let own = there ends n (h n (first n ns)) in
      let rest = at_all ns (λ m c. h m (later n m ns c)) in
      (own.0.0 ∷ rest.0, one_at own.0.1 own.1 rest.1)
    where
      there : (es : List (Frac × Frac)) (k : ℕ) → k < length es → (e : Frac × Frac) × (slice_get es k ≡ Some e)
      there [] k g = absurd (omega arith)
      there (e ∷ es) zero g = (e, refl)
      there (e ∷ es) (suc k) g = there es k (omega arith)

-- ---- operations from left to right

module _ {L : Type 0} (Step : L → L → L → Type 0) (Refused : L → L → Type 0) where
  pub chains_more : (x : L) (ys : List L) (k z r : L) → Chains Step x ys k → Step k z r → Chains Step x (ys ++ z ∷ []) r
  chains_more x [] k z r c s = (r, subst (λ l. Step l z r) (sym c) s, refl)
  chains_more x (y ∷ ys) k z r c s = (c.0, c.1, chains_more c.0 ys k z r c.2 s)

  pub chains_stop : (x : L) (ys : List L) (k z : L) (zs : List L) → Chains Step x ys k → Refused k z → ChainStops Step Refused x (ys ++ z ∷ zs)
  chains_stop x [] k z zs c r = inl (subst (λ l. Refused l z) (sym c) r)
  chains_stop x (y ∷ ys) k z zs c r = inr (c.0, c.1, chains_stop c.0 ys k z zs c.2 r)

-- what is never refused does not stop
pub never_stops : {L : Type 0} (Step : L → L → L → Type 0) (x : L) (ys : List L) → ChainStops Step (λ a b. ⊥) x ys → ⊥
never_stops Step x [] s = s
never_stops Step x (y ∷ ys) s = ⊎_elim (λ r. r) (λ t. never_stops Step t.0 ys t.2) s

module _ (chain : Chain) (ends : List (Frac × Frac)) where
  pub chain_begins : (n : ℕ) (x : Frac) → IsAt ends n x → ChainGives chain ends (n ∷ []) x
  chain_begins n x a = record { label = x; labels = []; at = one_here ends n x a; steps = refl }

  pub chain_goes_on : (n : ℕ) (ns : List ℕ) (i : ℕ) (x y r : Frac) → i < length ns → ChainGives chain ends (n ∷ take i ns) x → IsAt ends (get_or ns i 0) y
      → Steps chain x y r → ChainGives chain ends (n ∷ take (i + 1) ns) r
  chain_goes_on n ns i x y r h g a s =
      let longer : take (i + 1) ns ≡ take i ns ++ (get_or ns i 0 ∷ []) = ap (λ k. take k ns) (add-one i) ∙ take-suc ns i 0 h in
      record {
        label = g.label;
        labels = g.labels ++ y ∷ [];
        at = subst (λ ms. AreAt ends (n ∷ ms) (g.label ∷ (g.labels ++ y ∷ []))) (sym longer) (at_both ends g.at (one_here ends (get_or ns i 0) y a));
        steps = chains_more (Steps chain) (RefusesStep chain) g.label g.labels x y r g.steps s;
      }

  pub chain_refused : (n : ℕ) (ns : List ℕ) (i : ℕ) (x y : Frac) (fault : NumFault) → i < length ns → ((k : ℕ) → Contains ns k → k < length ends)
      → ChainGives chain ends (n ∷ take i ns) x → IsAt ends (get_or ns i 0) y → (fault ≡ faults.Wide) × RefusesStep chain x y → ChainRefuses chain ends (n ∷ ns) fault
  chain_refused n ns i x y fault h room g a r =
      let whole : take i ns ++ (get_or ns i 0 ∷ drop (suc i) ns) ≡ ns = ap (λ ms. take i ns ++ ms) (sym (drop-cons ns i 0 h)) ∙ take-append-drop i ns in
      let rest = at_all ends (drop (suc i) ns) (λ k c. room k (subst (λ ms. Contains ms k) (take-append-drop (suc i) ns) (Contains-append_right (take (suc i) ns) (drop (suc i) ns) k c))) in
      record {
        label = g.label;
        labels = g.labels ++ y ∷ rest.0;
        at = subst (λ ms. AreAt ends (n ∷ ms) (g.label ∷ (g.labels ++ y ∷ rest.0))) whole (at_both ends g.at (one_at a.0 a.1 rest.1));
        stops = chains_stop (Steps chain) (RefusesStep chain) g.label g.labels x y rest.0 g.steps r.1;
        wide = r.0;
      }

module _ (ends : List (Frac × Frac)) (ns : List ℕ) where
  pub sum_given : (world : List Frac) (r : Frac) → ChainGives chains.Sum ends ns r → GivesAt world ops.Sum ends ns r
  sum_given world r g = record { labels = g.label ∷ g.labels; at = g.at; gives = g.steps }

  pub least_given : (world : List Frac) (r : Frac) → ChainGives chains.Least ends ns r → GivesAt world ops.Min ends ns r
  least_given world r g = record { labels = g.label ∷ g.labels; at = g.at; gives = g.steps }

  pub greatest_given : (world : List Frac) (r : Frac) → ChainGives chains.Greatest ends ns r → GivesAt world ops.Max ends ns r
  greatest_given world r g = record { labels = g.label ∷ g.labels; at = g.at; gives = g.steps }

  pub sum_refused : (fault : NumFault) → ChainRefuses chains.Sum ends ns fault → RefusesAt ops.Sum ends ns fault
  sum_refused fault g = subst (λ f. RefusesAt ops.Sum ends ns f) (sym g.wide) (record { labels = g.label ∷ g.labels; at = g.at; refused = g.stops })

  pub least_refused : (fault : NumFault) → ChainRefuses chains.Least ends ns fault → RefusesAt ops.Min ends ns fault
  least_refused fault g = absurd (never_stops (Steps chains.Least) g.label g.labels g.stops)

  pub greatest_refused : (fault : NumFault) → ChainRefuses chains.Greatest ends ns fault → RefusesAt ops.Max ends ns fault
  greatest_refused fault g = absurd (never_stops (Steps chains.Greatest) g.label g.labels g.stops)

  pub least_answers : (world : List Frac) (op : Op) (r : Result Frac NumFault) → op ≡ ops.Min
      → MatchResult r (ChainGives chains.Least ends ns) (ChainRefuses chains.Least ends ns) → MatchResult r (GivesAt world op ends ns) (RefusesAt op ends ns)
  least_answers world op (Ok x) e g = subst (λ o. GivesAt world o ends ns x) (sym e) (least_given world x g)
  least_answers world op (Err f) e g = subst (λ o. RefusesAt o ends ns f) (sym e) (least_refused f g)

  pub greatest_answers : (world : List Frac) (op : Op) (r : Result Frac NumFault) → op ≡ ops.Max
      → MatchResult r (ChainGives chains.Greatest ends ns) (ChainRefuses chains.Greatest ends ns) → MatchResult r (GivesAt world op ends ns) (RefusesAt op ends ns)
  greatest_answers world op (Ok x) e g = subst (λ o. GivesAt world o ends ns x) (sym e) (greatest_given world x g)
  greatest_answers world op (Err f) e g = subst (λ o. RefusesAt o ends ns f) (sym e) (greatest_refused f g)

  -- what has no children
  none_here : length ns ≡ 0 → AreAt ends ns []
  none_here h = subst (λ ms. AreAt ends ms []) (sym (none_are ns h)) none_at
    where
      none_are : (ms : List ℕ) → length ms ≡ 0 → ms ≡ []
      none_are [] g = refl
      none_are (m ∷ ms) g = absurd (omega arith)

  pub var_given : (world : List Frac) (op : Op) (v : ℕ) (r : Frac) → op ≡ ops.Var v → Fits op (length ns) → v < length world → r ≡ get_or world v r → GivesAt world op ends ns r
  var_given world op v r e f h g =
      subst (λ o. GivesAt world o ends ns r) (sym e)
      (record { labels = []; at = none_here (subst (λ o. Fits o (length ns)) e f); gives = slice_get-get_or world v r h ∙ ap Some (sym g) })

  pub const_given : (world : List Frac) (op : Op) (r : Frac) → op ≡ ops.Const r → Fits op (length ns) → GivesAt world op ends ns r
  const_given world op r e f =
      subst (λ o. GivesAt world o ends ns r) (sym e) (record { labels = []; at = none_here (subst (λ o. Fits o (length ns)) e f); gives = refl })

-- ---- labels

module _ (table : List Entry) (world : List Frac) where
  -- what is read of a node that is held is its label
  pub label_read : (ends : List (Frac × Frac)) (n : ℕ) (p : Frac × Frac) → IsHeld table world ends n → slice_get ends n ≡ Some p → HasLabel (GivesFraction world) table n p.0
  label_read ends n p h at =
      let left : h.label ≡ p.0 = ap (λ (q : Frac × Frac). q.0) (same_Some (h.label, h.other) p (sym h.at ∙ at)) in
      subst (λ l. HasLabel (GivesFraction world) table n l) left h.has

  -- fractions that are held for nodes are their labels
  pub held_labels : (ends : List (Frac × Frac)) {ns : List ℕ} {xs : List Frac} → AreAt ends ns xs → ((c : ℕ) → Contains ns c → IsHeld table world ends c)
      → HaveLabels (GivesFraction world) table ns xs
  held_labels ends none_at held = no_label
  held_labels ends (one_at {n} {ns} {x} {xs} y e rest) held =
      a_label (label_read ends n (x, y) (held n (first n ns)) e) (held_labels ends rest (λ c h. held c (later n c ns h)))

  -- what one node comes to
  pub answered : (ends : List (Frac × Frac)) (node : ℕ) (op : Op) (children : List ℕ) (r : Result Frac NumFault)
      → slice_get table node ≡ Some (record { op = op; children = children }) → ((c : ℕ) → Contains children c → IsHeld table world ends c)
      → MatchResult r (GivesAt world op ends children) (RefusesAt op ends children)
      → MatchResult r (HasLabel (GivesFraction world) table node) (IsRefused (GivesFraction world) RefusesFraction table node)
  answered ends node op children (Ok x) at held g = labelled (record { op = op; children = children }) g.labels at (held_labels ends g.at held) g.gives
  answered ends node op children (Err f) at held g = record {
    entry = record { op = op; children = children };
    labels = g.labels;
    at = at;
    have = held_labels ends g.at held;
    refused = g.refused;
  }
