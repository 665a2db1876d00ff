-- No text of a unit has two readings.
use Rattle.std.proofs.Common.{◌≡◌, ℕ, Bool, true, false, not, ◌&&◌, ◌||◌, List, [], ◌∷◌, map, Some, refl, sym, ap, ◌∙◌, subst, ℤ, pos, neg_ℤ, if◌then◌else◌}
use Rattle.std.specs.Prelude.{◌↔◌, IsTrue}
use Rattle.std.specs.List.{list_any}
use Rattle.std.specs.Str.{bytes_eq}
use Rattle.std.proofs.lemmas.Bool.{and_parts}
use Rattle.std.proofs.lemmas.Option.{same_Some}
use lib.Dec.{T}
use Rattle.std.specs.Prelude.{int_le}
use Rattle.std.specs.List.{list_all}
use Rattle.ato_units.specs.Fractions.{IsSmallPower}
use Rattle.std.proofs.lemmas.Slice.Eq.{bytes_eq-Decides}
use Rattle.ato_units.specs.Tables.{are_one_reading}
use Rattle.ato_units.specs.Units.{Meaning, Named, meaning_in, prefixable, whole_only, prefixes, names, all_units, unit_of, all_differ, IsListed, here, later}

abbrev texts : List Named → List (List ℕ)
texts us = map (λ (u : Named). u.text) us

-- a text that is listed is among the texts
among : (x text : List ℕ) (m : Meaning) (us : List Named) → IsListed text m us → x ≡ text → list_any (bytes_eq x) (texts us) ≡ true
among x text m [] h g = elim h [ ]
among x text m (u ∷ us) (here e f) g = rw ((bytes_eq-Decides x u.text).1 (g ∙ sym e)) refl
among x text m (u ∷ us) (later h) g = or_right (bytes_eq x u.text) (among x text m us h g)
  where
    or_right : (b : Bool) {c : Bool} → c ≡ true → (b || c) ≡ true
    or_right true e = refl
    or_right false e = e

only_reading : (us : List Named) → all_differ (texts us) ≡ true → (text : List ℕ) (m : Meaning) → IsListed text m us → meaning_in us text ≡ Some m
only_reading [] d text m h = elim h [ ]
only_reading (u ∷ us) d text m (here e f) = rw ((bytes_eq-Decides u.text text).1 e) (ap Some f)
only_reading (u ∷ us) d text m (later h) =
    let p = and_parts (not (list_any (bytes_eq u.text) (texts us))) (all_differ (texts us)) d in
    by (bytes_eq u.text text) refl
    (λ e. clash (list_any (bytes_eq u.text) (texts us)) p.0 (among u.text text m us h ((bytes_eq-Decides u.text text).0 e)))
    (only_reading us p.1 text m h)
  where
    clash : (b : Bool) → not b ≡ true → b ≡ true → ⊥
    clash true n e = absurd (cc)
    clash false n e = absurd (cc)

    by : (b : Bool) → bytes_eq u.text text ≡ b → (bytes_eq u.text text ≡ true → ⊥) → meaning_in us text ≡ Some m → (if b then Some u.meaning else meaning_in us text) ≡ Some m
    by true e n g = absurd (n e)
    by false e n g = g

read_listed : (us : List Named) (text : List ℕ) (m : Meaning) → meaning_in us text ≡ Some m → IsListed text m us
read_listed [] text m h = absurd (cc)
read_listed (u ∷ us) text m h = by (bytes_eq u.text text) refl h (read_listed us text m)
  where
    by : (b : Bool) → bytes_eq u.text text ≡ b → (if b then Some u.meaning else meaning_in us text) ≡ Some m → (meaning_in us text ≡ Some m → IsListed text m us) → IsListed text m (u ∷ us)
    by true e g k = here ((bytes_eq-Decides u.text text).0 e) (same_Some u.meaning m g)
    by false e g k = later (k g)

-- where the texts of the table differ, a text has one reading
pub one_reading : IsTrue (are_one_reading prefixable whole_only) → (text : List ℕ) (m : Meaning) → (IsListed text m all_units ↔ (unit_of text ≡ Some m))
unfolding unit_of all_units names are_one_reading
one_reading differ text m = (only_reading all_units differ text m, read_listed all_units text m)

-- each unit is a power of ten from -18 to 18

are_small : List Named → Bool
are_small us = list_all (λ u. int_le (neg_ℤ (pos 18)) u.meaning.tens && int_le u.meaning.tens (pos 18)) us

bounds : (z : ℤ) → int_le (neg_ℤ (pos 18)) z ≡ true → int_le z (pos 18) ≡ true → IsSmallPower z
bounds z e f = record { low = record { le = subst T (sym e) tt }; high = record { le = subst T (sym f) tt } }

small_here : (z w : ℤ) (b : Bool) → w ≡ z → ((int_le (neg_ℤ (pos 18)) w && int_le w (pos 18)) && b) ≡ true → IsSmallPower z
small_here z w b e h =
    let p = and_parts (int_le (neg_ℤ (pos 18)) w && int_le w (pos 18)) b h in
    let q = and_parts (int_le (neg_ℤ (pos 18)) w) (int_le w (pos 18)) p.0 in
    rw (sym e) (bounds w q.0 q.1)

listed_small : (us : List Named) (text : List ℕ) (m : Meaning) → are_small us ≡ true → IsListed text m us → IsSmallPower m.tens
unfolding are_small
listed_small [] text m d h = elim h [ ]
listed_small (u ∷ us) text m d (here e f) = small_here m.tens u.meaning.tens (are_small us) (ap (λ (x : Meaning). x.tens) f) d
listed_small (u ∷ us) text m d (later h) =
    listed_small us text m (and_parts (int_le (neg_ℤ (pos 18)) u.meaning.tens && int_le u.meaning.tens (pos 18)) (are_small us) d).1 h

units_small : are_small all_units ≡ true
unfolding are_small all_units names prefixable whole_only prefixes
units_small = refl

pub unit_small : (text : List ℕ) (m : Meaning) → unit_of text ≡ Some m → IsSmallPower m.tens
unfolding unit_of
unit_small text m h = listed_small all_units text m units_small (read_listed all_units text m h)
