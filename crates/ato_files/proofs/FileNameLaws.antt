-- The names of a file, and which of them are repeated.
use Rattle.std.proofs.Common.{ap, refl, sym, subst, ◌∙◌, ◌+◌, get_or}
use Rattle.std.specs.Prelude.{◌≡◌, ℕ, ◌<◌, Bool, true, false, ◌||◌, ◌==◌, List, [], ◌∷◌, ◌++◌, map, Option, nat_eq, length, take}
use Rattle.std.proofs.Math.Bool.{or_comm}
use Rattle.std.proofs.lemmas.List.{take_more}
use Rattle.std.proofs.lemmas.List.Folds.{list_any-append}
use Rattle.std.specs.Cmp.{nat_eq_equiv}
use Rattle.ato_base.specs.declared.faults.Fault.{Fault}
use Rattle.ato_ast.specs.declared.names.Named.{Named}
use Rattle.ato_ast.specs.declared.names.Quoted.{Quoted}
use Rattle.ato_files.specs.NameFaults.{repeated}
use Rattle.ato_files.specs.NumberSet.{has, is_named, AreSeen, twice}
use Rattle.ato_files.specs.Noted.{noted}
use Rattle.ato_files.proofs.MarkedLaws.{marked, single, noted_marked}

-- the names of imports that all take from one file
pub from_names : (from : Option Quoted) (names : List Named) → map (λ (i : Named × Option Quoted). i.0) (map (λ (name : Named). (name, from)) names) ≡ names
from_names from [] = refl
from_names from (n ∷ more) = ap (λ z. n ∷ z) (from_names from more)

-- ---- one name more

abbrev same_name : Named → Named → Bool
same_name n m = m.name.0 == n.name.0

pub repeated_is : (seen xs : List Named) → repeated seen xs ≡ marked same_name seen xs
repeated_is seen [] = refl
repeated_is seen (x ∷ xs) = ap (λ z. single (is_named seen x.name.0) x ++ z) (repeated_is (x ∷ seen) xs)

or_nothing : (b : Bool) → (b || false) ≡ b
or_nothing true = refl
or_nothing false = refl

seen_push : (old new : List ℕ) (xs : List Named) (x : Named) → AreSeen old xs → ((n : ℕ) → has new n ≡ (nat_eq n x.name.0 || has old n)) → AreSeen new (xs ++ x ∷ [])
seen_push old new xs x before added = λ n.
    added n ∙ or_comm (nat_eq n x.name.0) (has old n) ∙ ap (λ v. v || nat_eq n x.name.0) (before n)
    ∙ ap (λ v. is_named xs n || v) (nat_eq_equiv.symm n x.name.0 ∙ sym (or_nothing (nat_eq x.name.0 n)))
    ∙ sym (list_any-append (λ (m : Named). nat_eq m.name.0 n) xs (x ∷ []))

-- the names were seen, and those that are repeated were noted
pub record Noting (kept : Option Fault) (numbers : List ℕ) (now : Option Fault) (xs : List Named) : Type 0 where
  pub seen : AreSeen numbers xs
  pub least : now ≡ noted kept (map twice (repeated [] xs))

pub noting_more : (kept : Option Fault) (old new : List ℕ) (before now : Option Fault) (xs : List Named) (i : ℕ) (d : Named) (v : Bool) → i < length xs → Noting kept old before (take i xs)
    → (let x = get_or xs i d in v ≡ has old x.name.0 → now ≡ noted before (single v (twice x))
    → ((n : ℕ) → has new n ≡ (nat_eq n x.name.0 || has old n)) → Noting kept new now (take (i + 1) xs))
noting_more kept old new before now xs i d v h l is e added =
    let x = get_or xs i d in record {
      seen = subst (AreSeen new) (sym (take_more xs i d h)) (seen_push old new (take i xs) x l.seen added);
      least = noted_marked same_name twice kept before now [] xs i d v h (l.least ∙ ap (λ z. noted kept (map twice z)) (repeated_is [] (take i xs))) (is ∙ l.seen x.name.0) e
          ∙ ap (λ z. noted kept (map twice z)) (sym (repeated_is [] (take (i + 1) xs)));
    }
