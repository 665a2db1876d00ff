-- What is kept for nodes is there once, and chains over it go on interval by interval.
use Rattle.std.proofs.Common.{◌≡◌, ℕ, zero, suc, Bool, ◌<◌, List, [], ◌∷◌, length, refl, ap, ap₂, sym, ◌∙◌, subst, inl, inr, arith}
use Rattle.std.specs.Prelude.{slice_get, Some, None, Result, Ok, Err, MatchResult, cond}
use Rattle.std.proofs.lemmas.Option.{same_Some, none-some, slice_get_within}
use Rattle.ato_rational.specs.Rational.{◌≤ℚ◌}
use Rattle.ato_frac.specs.declared.fraction.Frac.{Frac}
use Rattle.ato_frac.specs.Fractions.{value_of}
use Rattle.ato_interval.specs.Ends.{Ends, IsProper}
use Rattle.ato_interval.specs.Points.{point}
use Rattle.ato_expr.specs.declared.ops.Op.{Op}
use Rattle.ato_expr.specs.declared.ops.Op.TheVariants as ops
use Rattle.ato_expr.specs.Chains.{Chains, ChainStops}
use Rattle.ato_expr.specs.Tables.{Entry}
use Rattle.ato_eval.specs.declared.kept.Chain.{Chain}
use Rattle.ato_eval.specs.declared.kept.Chain.TheVariants.{Sum, Least, Greatest}
use Rattle.ato_eval.specs.declared.reason.Reason.{Reason}
use Rattle.ato_eval.specs.declared.reason.Reason.TheVariants.{TooWide}
use Rattle.ato_eval.specs.Corners.{narrowed}
use Rattle.ato_eval.specs.Intervals.{GivesInterval, RefusesInterval}
use Rattle.ato_eval.specs.Judgements.{HasInterval}
use Rattle.ato_eval.specs.Kept.{IsAt, AreAt, AllKept, IsKept, GivesAt, RefusesAt, ChainAt, ChainStopsAt, Steps, RefusesStep, op_of}

-- one interval of two ends
of_pair : Frac × Frac → Ends Frac
of_pair p = record { low = p.0; high = p.1 }

pub same_at : {ends : List (Frac × Frac)} {n : ℕ} {a b : Ends Frac} → IsAt ends n a → IsAt ends n b → a ≡ b
unfolding of_pair
same_at {a = a} {b = b} h k = ap of_pair (same_Some (a.low, a.high) (b.low, b.high) (sym h.kept ∙ k.kept))

pub same_all : (ends : List (Frac × Frac)) (ns : List ℕ) (cs ds : List (Ends Frac)) → AreAt ends ns cs → AreAt ends ns ds → cs ≡ ds
same_all ends [] [] [] h k = refl
same_all ends [] [] (d ∷ ds) h k = absurd k
same_all ends [] (c ∷ cs) ds h k = absurd h
same_all ends (n ∷ ns) [] ds h k = absurd h
same_all ends (n ∷ ns) (c ∷ cs) [] h k = absurd k
same_all ends (n ∷ ns) (c ∷ cs) (d ∷ ds) h k = ap₂ (λ x xs. x ∷ xs) (same_at h.0 k.0) (same_all ends ns cs ds h.1 k.1)

-- ends that are those of a kept interval are in order
pub in_order : (ends : List (Frac × Frac)) (n : ℕ) (low high : Frac) → slice_get ends n ≡ Some (low, high) → (i : Ends Frac) × IsAt ends n i → value_of low ≤ℚ value_of high
in_order ends n low high e k =
    let same = same_Some (k.0.low, k.0.high) (low, high) (sym k.1.kept ∙ e) in
    subst (λ (p : Frac × Frac). value_of p.0 ≤ℚ value_of p.1) same k.1.proper

pub kept_within : {ends : List (Frac × Frac)} {n : ℕ} → (i : Ends Frac) × IsAt ends n i → n < length ends
kept_within {ends} {n} k = slice_get_within ends n (k.0.low, k.0.high) k.1.kept

pub first_kept : (ends : List (Frac × Frac)) (n : ℕ) (ns : List ℕ) → AllKept ends (n ∷ ns) → (i : Ends Frac) × IsAt ends n i
first_kept ends n ns k = by k.0 k.1
  where
    by : (cs : List (Ends Frac)) → AreAt ends (n ∷ ns) cs → (i : Ends Frac) × IsAt ends n i
    by [] h = absurd h
    by (c ∷ cs) h = (c, h.0)

pub later_kept : (ends : List (Frac × Frac)) (n : ℕ) (ns : List ℕ) → AllKept ends (n ∷ ns) → AllKept ends ns
later_kept ends n ns k = by k.0 k.1
  where
    by : (cs : List (Ends Frac)) → AreAt ends (n ∷ ns) cs → AllKept ends ns
    by [] h = absurd h
    by (c ∷ cs) h = (cs, h.1)

pub kept_told : (ends : List (Frac × Frac)) (n : ℕ) (low high : Frac) (r : Ends Frac) → slice_get ends n ≡ Some (low, high) → IsProper value_of r → r.low ≡ low → r.high ≡ high → IsAt ends n r
kept_told ends n low high r e proper d h = record { kept = e ∙ sym (ap₂ (λ (x y : Frac). Some (x, y)) d h); proper = proper }

-- ---- the first of some nodes, and those after it

abbrev pub IsFirst : List (Frac × Frac) → List ℕ → List ℕ → Ends Frac → Type 0
IsFirst ends nodes later r = (node : ℕ) × (nodes ≡ node ∷ later) × IsAt ends node r

pub one_told : (ends : List (Frac × Frac)) (nodes later : List ℕ) (r : Ends Frac) → IsFirst ends nodes later r → length nodes ≡ 1 → AreAt ends nodes (r ∷ [])
one_told ends nodes [] r t e = subst (λ ns. AreAt ends ns (r ∷ [])) (sym t.1) (t.2, tt)
one_told ends nodes (n ∷ later) r t e = absurd (omega (arith, e, ap length t.1))

pub later_count : (ends : List (Frac × Frac)) (nodes later : List ℕ) (r : Ends Frac) → IsFirst ends nodes later r → length nodes ≡ 2 → length later ≡ 1
later_count ends nodes later r t e = let d = ap length t.1 in omega (arith, e, d)

pub rest_kept : (ends : List (Frac × Frac)) (nodes later : List ℕ) (r : Ends Frac) → IsFirst ends nodes later r → AllKept ends nodes → AllKept ends later
rest_kept ends nodes later r t k = later_kept ends t.0 later (subst (AllKept ends) t.1 k)

pub two_told : (ends : List (Frac × Frac)) (nodes later : List ℕ) (r s : Ends Frac) → IsFirst ends nodes later r → AreAt ends later (s ∷ []) → AreAt ends nodes (r ∷ s ∷ [])
two_told ends nodes later r s t h = subst (λ ns. AreAt ends ns (r ∷ s ∷ [])) (sym t.1) (t.2, h)

-- ---- an operation over the intervals that are kept, which are there once

pub op_told : (op : Op) (ranges : List (Ends Frac)) (ends : List (Frac × Frac)) (nodes : List ℕ) (own : List (Ends Frac)) (result : Result (Ends Frac) Reason) → AreAt ends nodes own
    → MatchResult result (GivesInterval ranges op own) (RefusesInterval op own) → MatchResult result (GivesAt ranges op ends nodes) (RefusesAt op ends nodes)
op_told op ranges ends nodes own (Ok r) h m = λ cs at. subst (λ ds. GivesInterval ranges op ds r) (same_all ends nodes own cs h at) m
op_told op ranges ends nodes own (Err e) h m = λ cs at. subst (λ ds. RefusesInterval op ds e) (same_all ends nodes own cs h at) m

pub gives_told : (op : Op) (ranges : List (Ends Frac)) (ends : List (Frac × Frac)) (nodes : List ℕ) (own : List (Ends Frac)) (r : Ends Frac) → AreAt ends nodes own → GivesInterval ranges op own r → GivesAt ranges op ends nodes r
gives_told op ranges ends nodes own r h m = op_told op ranges ends nodes own (Ok r) h m

pub no_nodes : (ends : List (Frac × Frac)) (nodes : List ℕ) → length nodes ≡ 0 → AreAt ends nodes []
no_nodes ends [] e = tt
no_nodes ends (n ∷ ns) e = absurd (omega (arith, e))

pub variable_told : (ranges : List (Ends Frac)) (v : ℕ) (ends : List (Frac × Frac)) (nodes : List ℕ) (r : Ends Frac) → length nodes ≡ 0 → slice_get ranges v ≡ Some r → GivesAt ranges (ops.Var v) ends nodes r
variable_told ranges v ends nodes r none e = gives_told (ops.Var v) ranges ends nodes [] r (no_nodes ends nodes none) e

pub constant_told : (ranges : List (Ends Frac)) (q : Frac) (ends : List (Frac × Frac)) (nodes : List ℕ) (r : Ends Frac) → length nodes ≡ 0 → r ≡ point q → GivesAt ranges (ops.Const q) ends nodes r
constant_told ranges q ends nodes r none e = gives_told (ops.Const q) ranges ends nodes [] r (no_nodes ends nodes none) (ap (λ (i : Ends Frac). i.low) e, ap (λ (i : Ends Frac). i.high) e)

-- ---- chains

-- a chain has come so far: what it comes to from here is what the whole comes to
pub record IsChaining (chain : Chain) (ends : List (Frac × Frac)) (total : Ends Frac) (rest : List ℕ) (first : Ends Frac) (all : List ℕ) : Type 0 where
  pub kept : AllKept ends rest
  pub gives : (r : Ends Frac) → ChainAt chain ends total rest r → ChainAt chain ends first all r
  pub stops : ChainStopsAt chain ends total rest → ChainStopsAt chain ends first all

pub chain_starts : (chain : Chain) (ends : List (Frac × Frac)) (first : Ends Frac) (all : List ℕ) → AllKept ends all → IsChaining chain ends first all first all
chain_starts chain ends first all k = record { kept = k; gives = λ r h. h; stops = λ h. h }

pub chain_on : (chain : Chain) (ends : List (Frac × Frac)) (total next sum : Ends Frac) (n : ℕ) (rest : List ℕ) (first : Ends Frac) (all : List ℕ)
    → IsChaining chain ends total (n ∷ rest) first all → IsAt ends n next → Steps chain total next sum → IsChaining chain ends sum rest first all
chain_on chain ends total next sum n rest first all c at s = record {
  kept = later_kept ends n rest c.kept;
  gives = λ r h. c.gives r (λ cs k. given r h cs k);
  stops = λ h. c.stops (λ cs k. stopped h cs k);
}
  where
    given : (r : Ends Frac) → ChainAt chain ends sum rest r → (cs : List (Ends Frac)) → AreAt ends (n ∷ rest) cs → Chains (Steps chain) total cs r
    given r h [] k = absurd k
    given r h (d ∷ ds) k = (sum, subst (λ i. Steps chain total i sum) (same_at at k.0) s, h ds k.1)

    stopped : ChainStopsAt chain ends sum rest → (cs : List (Ends Frac)) → AreAt ends (n ∷ rest) cs → ChainStops (Steps chain) (RefusesStep chain) total cs
    stopped h [] k = absurd k
    stopped h (d ∷ ds) k = inr (sum, subst (λ i. Steps chain total i sum) (same_at at k.0) s, h ds k.1)

pub chain_stops : (chain : Chain) (ends : List (Frac × Frac)) (total next : Ends Frac) (n : ℕ) (rest : List ℕ) (first : Ends Frac) (all : List ℕ)
    → IsChaining chain ends total (n ∷ rest) first all → IsAt ends n next → RefusesStep chain total next → ChainStopsAt chain ends first all
chain_stops chain ends total next n rest first all c at s = c.stops (λ cs k. stopped cs k)
  where
    stopped : (cs : List (Ends Frac)) → AreAt ends (n ∷ rest) cs → ChainStops (Steps chain) (RefusesStep chain) total cs
    stopped [] k = absurd k
    stopped (d ∷ ds) k = inl (subst (λ i. RefusesStep chain total i) (same_at at k.0) s)

pub chain_ends : (chain : Chain) (ends : List (Frac × Frac)) (total : Ends Frac) (rest : List ℕ) (first : Ends Frac) (all : List ℕ) → length rest ≡ 0
    → IsChaining chain ends total rest first all → ChainAt chain ends first all total
chain_ends chain ends total [] first all e c = c.gives total (λ cs k. ended cs k)
  where
    ended : (cs : List (Ends Frac)) → AreAt ends [] cs → Chains (Steps chain) total cs total
    ended [] k = refl
    ended (d ∷ ds) k = absurd k
chain_ends chain ends total (n ∷ rest) first all e c = absurd (omega (arith, e))

never_stops : (Step : Ends Frac → Ends Frac → Ends Frac → Type 0) (l : Ends Frac) (cs : List (Ends Frac)) → ChainStops Step (λ a b. ⊥) l cs → ⊥
never_stops Step l [] h = h
never_stops Step l (c ∷ cs) (inl h) = h
never_stops Step l (c ∷ cs) (inr h) = never_stops Step h.0 cs h.2

gives_chain : (chain : Chain) (ranges : List (Ends Frac)) (d : Ends Frac) (ds : List (Ends Frac)) (r : Ends Frac) → Chains (Steps chain) d ds r → GivesInterval ranges (op_of chain) (d ∷ ds) r
gives_chain Sum ranges d ds r h = h
gives_chain Least ranges d ds r h = h
gives_chain Greatest ranges d ds r h = h

refuses_chain : (chain : Chain) (d : Ends Frac) (ds : List (Ends Frac)) (e : Reason) → e ≡ TooWide → ChainStops (Steps chain) (RefusesStep chain) d ds → RefusesInterval (op_of chain) (d ∷ ds) e
refuses_chain Sum d ds e k h = subst (λ x. RefusesInterval ops.Sum (d ∷ ds) x) (sym k) h
refuses_chain Least d ds e k h = absurd (never_stops _ d ds h)
refuses_chain Greatest d ds e k h = absurd (never_stops _ d ds h)

pub combined_told : (chain : Chain) (ranges : List (Ends Frac)) (ends : List (Frac × Frac)) (nodes later : List ℕ) (first : Ends Frac) (result : Result (Ends Frac) Reason) → IsFirst ends nodes later first
    → MatchResult result (ChainAt chain ends first later) (λ e. (e ≡ TooWide) × ChainStopsAt chain ends first later)
    → MatchResult result (GivesAt ranges (op_of chain) ends nodes) (RefusesAt (op_of chain) ends nodes)
combined_told chain ranges ends nodes later first (Ok r) t m = λ cs at. given cs (subst (λ ns. AreAt ends ns cs) t.1 at)
  where
    given : (cs : List (Ends Frac)) → AreAt ends (t.0 ∷ later) cs → GivesInterval ranges (op_of chain) cs r
    given [] k = absurd k
    given (d ∷ ds) k = gives_chain chain ranges d ds r (subst (λ i. Chains (Steps chain) i ds r) (same_at t.2 k.0) (m ds k.1))
combined_told chain ranges ends nodes later first (Err e) t m = λ cs at. refused cs (subst (λ ns. AreAt ends ns cs) t.1 at)
  where
    refused : (cs : List (Ends Frac)) → AreAt ends (t.0 ∷ later) cs → RefusesInterval (op_of chain) cs e
    refused [] k = absurd k
    refused (d ∷ ds) k = refuses_chain chain d ds e m.0 (subst (λ i. ChainStops (Steps chain) (RefusesStep chain) i ds) (same_at t.2 k.0) (m.1 ds k.1))

-- ---- ranges of which some are narrowed to an end

pub narrowed_none : (ranges : List (Ends Frac)) (high : List Bool) (v : ℕ) (r : Ends Frac) → slice_get ranges v ≡ Some r → slice_get high v ≡ None → slice_get (narrowed ranges high) v ≡ Some r
narrowed_none [] high v r e n = e
narrowed_none (i ∷ ranges) [] v r e n = e
narrowed_none (i ∷ ranges) (h ∷ high) zero r e n = absurd (none-some h (sym n))
narrowed_none (i ∷ ranges) (h ∷ high) (suc v) r e n = narrowed_none ranges high v r e n

pub narrowed_some : (ranges : List (Ends Frac)) (high : List Bool) (v : ℕ) (r : Ends Frac) (b : Bool) → slice_get ranges v ≡ Some r → slice_get high v ≡ Some b → slice_get (narrowed ranges high) v ≡ Some (point (cond b r.high r.low))
narrowed_some [] high v r b e n = absurd (none-some r e)
narrowed_some (i ∷ ranges) [] v r b e n = absurd (none-some b n)
narrowed_some (i ∷ ranges) (h ∷ high) zero r b e n = ap₂ (λ (c : Bool) (k : Ends Frac). Some (point (cond c k.high k.low))) (same_Some h b n) (same_Some i r e)
narrowed_some (i ∷ ranges) (h ∷ high) (suc v) r b e n = narrowed_some ranges high v r b e n

-- no end is named
pub narrowed_nowhere : (ranges : List (Ends Frac)) → narrowed ranges [] ≡ ranges
narrowed_nowhere [] = refl
narrowed_nowhere (r ∷ rs) = refl

-- ---- what is kept for a node is its interval

pub interval_kept : {table : List Entry} {ranges : List (Ends Frac)} {ends : List (Frac × Frac)} {n : ℕ} → IsKept table ranges ends n → (i : Ends Frac) × IsAt ends n i
interval_kept k = (k.interval, k.at)

pub kept_has : (table : List Entry) (ranges : List (Ends Frac)) (ends : List (Frac × Frac)) (n : ℕ) (i : Ends Frac) → IsKept table ranges ends n → IsAt ends n i → HasInterval table ranges n i
kept_has table ranges ends n i k at = subst (λ (j : Ends Frac). HasInterval table ranges n j) (same_at k.at at) k.has
