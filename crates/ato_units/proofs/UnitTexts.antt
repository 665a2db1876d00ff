-- What a text means in lists of units.
use Rattle.std.proofs.Common.{◌≡◌, ◌≢◌, ℕ, Bool, true, false, List, [], ◌∷◌, ◌++◌, map, Option, Some, None, refl, sym, ap, ◌∙◌, drop, length, ◌<◌, ◌+◌, suc, get_or, add-one, drop-cons, if◌then◌else◌}
use Rattle.ato_units.specs.declared.table.Prefix as declared
use Rattle.ato_units.specs.Tables.{listed_prefix, listed_prefixes}
use Rattle.std.specs.Prelude.{option_map}
use Rattle.std.specs.Option.{option_or}
use Rattle.std.specs.Str.{bytes_eq}
use Rattle.std.proofs.lemmas.Bool.{eq-eqb}
use Rattle.std.proofs.lemmas.Slice.Eq.{bytes_eq-Decides}
use Rattle.ato_units.specs.Units.{Meaning, Named, Prefix, prefixed, scaled_by, with_prefixes, meaning_in, prefixable, whole_only, prefixes, names, all_units, unit_of}

-- one list behind the other
pub meaning_in-append : (xs ys : List Named) (text : List ℕ) → meaning_in (xs ++ ys) text ≡ option_or (meaning_in xs text) (meaning_in ys text)
meaning_in-append [] ys text = refl
meaning_in-append (x ∷ xs) ys text = by (meaning_in-append xs ys text) (bytes_eq x.text text)
  where
    by : meaning_in (xs ++ ys) text ≡ option_or (meaning_in xs text) (meaning_in ys text) → (b : Bool) → (if b then Some x.meaning else meaning_in (xs ++ ys) text) ≡ option_or (if b then Some x.meaning else meaning_in xs text) (meaning_in ys text)
    by h true = refl
    by h false = h

-- the same front is left out
front_same : (front xs ys : List ℕ) → bytes_eq (front ++ xs) (front ++ ys) ≡ bytes_eq xs ys
front_same [] xs ys = refl
front_same (c ∷ cs) xs ys = rw (eq-eqb c c refl) (front_same cs xs ys)

pub behind_prefix : (p : Prefix) (us : List Named) (rest : List ℕ) → meaning_in (map (prefixed p) us) (p.text ++ rest) ≡ option_map (scaled_by p.tens) (meaning_in us rest)
behind_prefix p [] rest = refl
behind_prefix p (u ∷ us) rest = rw (front_same p.text u.text rest) (by (behind_prefix p us rest) (bytes_eq u.text rest))
  where
    by : meaning_in (map (prefixed p) us) (p.text ++ rest) ≡ option_map (scaled_by p.tens) (meaning_in us rest) → (b : Bool) → (if b then Some (scaled_by p.tens u.meaning) else meaning_in (map (prefixed p) us) (p.text ++ rest)) ≡ option_map (scaled_by p.tens) (if b then Some u.meaning else meaning_in us rest)
    by h true = refl
    by h false = h

pub not_behind_prefix : (p : Prefix) (us : List Named) (text : List ℕ) → ((rest : List ℕ) → text ≢ p.text ++ rest) → meaning_in (map (prefixed p) us) text ≡ None
not_behind_prefix p [] text h = refl
not_behind_prefix p (u ∷ us) text h = by (not_behind_prefix p us text h) (bytes_eq (p.text ++ u.text) text) refl
  where
    by : meaning_in (map (prefixed p) us) text ≡ None → (b : Bool) → bytes_eq (p.text ++ u.text) text ≡ b → (if b then Some (scaled_by p.tens u.meaning) else meaning_in (map (prefixed p) us) text) ≡ None
    by g true e = absurd (h u.text (sym ((bytes_eq-Decides (p.text ++ u.text) text).0 e)))
    by g false e = g

pub behind_found : (p : Prefix) (us : List Named) (text front rest : List ℕ) (r : Option Meaning) → text ≡ front ++ rest → front ≡ p.text → r ≡ option_map (scaled_by p.tens) (meaning_in us rest) → r ≡ meaning_in (map (prefixed p) us) text
behind_found p us text front rest r e f h = h ∙ sym (behind_prefix p us rest) ∙ ap (meaning_in (map (prefixed p) us)) (sym (e ∙ ap (λ x. x ++ rest) f))

-- one more prefix
pub more_prefixes : (ps : List declared.Prefix) (us : List Named) (text : List ℕ) (i : ℕ) (d : declared.Prefix) → i < length ps → meaning_in (with_prefixes (listed_prefixes (drop i ps)) us) text ≡ option_or (meaning_in (map (prefixed (listed_prefix (get_or ps i d))) us) text) (meaning_in (with_prefixes (listed_prefixes (drop (i + 1) ps)) us) text)
more_prefixes ps us text i d h =
    rw (add-one, drop-cons ps i d h) (meaning_in-append (map (prefixed (listed_prefix (get_or ps i d))) us) (with_prefixes (listed_prefixes (drop (suc i) ps)) us) text)

pub found_now : (ps : List declared.Prefix) (us : List Named) (text : List ℕ) (i : ℕ) (d : declared.Prefix) {all : Option Meaning} {m : Meaning} → i < length ps → all ≡ meaning_in (with_prefixes (listed_prefixes (drop i ps)) us) text → Some m ≡ meaning_in (map (prefixed (listed_prefix (get_or ps i d))) us) text → Some m ≡ all
found_now ps us text i d {all} {m} l e h = sym (e ∙ more_prefixes ps us text i d l ∙ ap (λ o. option_or o (meaning_in (with_prefixes (listed_prefixes (drop (i + 1) ps)) us) text)) (sym h))

pub found_later : (ps : List declared.Prefix) (us : List Named) (text : List ℕ) (i : ℕ) (d : declared.Prefix) {all : Option Meaning} → i < length ps → all ≡ meaning_in (with_prefixes (listed_prefixes (drop i ps)) us) text → None ≡ meaning_in (map (prefixed (listed_prefix (get_or ps i d))) us) text → all ≡ meaning_in (with_prefixes (listed_prefixes (drop (i + 1) ps)) us) text
found_later ps us text i d {all} l e h = e ∙ more_prefixes ps us text i d l ∙ ap (λ o. option_or o (meaning_in (with_prefixes (listed_prefixes (drop (i + 1) ps)) us) text)) (sym h)

-- the unit of a text, by the three parts of the list
unit_of_parts : (text : List ℕ) → unit_of text ≡ option_or (option_or (meaning_in prefixable text) (meaning_in whole_only text)) (meaning_in (with_prefixes prefixes prefixable) text)
unfolding unit_of all_units names
unit_of_parts text =
    meaning_in-append (prefixable ++ whole_only) (with_prefixes prefixes prefixable) text
    ∙ ap (λ o. option_or o (meaning_in (with_prefixes prefixes prefixable) text)) (meaning_in-append prefixable whole_only text)

module _ (text : List ℕ) {P W : List Named} (p : P ≡ prefixable) (w : W ≡ whole_only) where
  pub named_first : {m : Meaning} → Some m ≡ meaning_in P text → Some m ≡ unit_of text
  named_first {m} h = sym (unit_of_parts text ∙ rw (sym p, sym h) refl)

  pub named_second : {m : Meaning} → None ≡ meaning_in P text → Some m ≡ meaning_in W text → Some m ≡ unit_of text
  named_second {m} g h = sym (unit_of_parts text ∙ rw (sym p, sym w, sym g, sym h) refl)

  pub named_behind : {Q : List Prefix} {r : Option Meaning} → Q ≡ prefixes → None ≡ meaning_in P text → None ≡ meaning_in W text → r ≡ meaning_in (with_prefixes Q P) text → r ≡ unit_of text
  named_behind {Q} {r} q g k h = h ∙ sym (unit_of_parts text ∙ rw (sym p, sym w, sym q, sym g, sym k) refl)
