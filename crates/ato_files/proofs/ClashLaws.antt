-- Which declarations clash with earlier ones, one after another.
use Rattle.std.proofs.Common.{ap, refl, sym, subst, ◌∙◌, ◌+◌, get_or, append_assoc}
use Rattle.std.specs.Prelude.{◌≡◌, ℕ, ◌<◌, Bool, true, false, ◌||◌, ◌&&◌, ◌==◌, not, List, [], ◌∷◌, ◌++◌, map, Option, length, take}
use Rattle.std.specs.List.{list_any}
use Rattle.std.proofs.lemmas.List.{append-nil, map-append, take_more}
use Rattle.ato_base.specs.declared.faults.Fault.{Fault}
use Rattle.ato_files.specs.declared.members.Declared.{Declared}
use Rattle.ato_files.specs.declared.clashes.Clashes.{Clashes}
use Rattle.ato_files.specs.Clashes.{agrees, clash_of, clashing_of, clashes_with, AreDeclared, declared_twice}
use Rattle.ato_base.specs.declared.faults.FaultKind.TheVariants as kinds
use Rattle.ato_files.specs.Faults.{fault}
use Rattle.ato_files.specs.Members.{Kind, signal, instance, param, Decl}
use Rattle.ato_files.specs.MemberLists.{declared_of, sort_of}
use Rattle.ato_files.specs.NameFaults.{agree, clash, clashing}
use Rattle.ato_files.specs.Noted.{noted}
use Rattle.ato_files.proofs.MarkedLaws.{marked, single, noted_marked, any_moved}

abbrev fault_of : Decl → Fault
fault_of d = fault kinds.NameTwice d.name.at

pub clashing_is : (seen xs : List Declared) → clashing_of seen xs ≡ marked clash_of seen xs
clashing_is seen [] = refl
clashing_is seen (x ∷ xs) = ap (λ z. single (list_any (clash_of x) seen) x ++ z) (clashing_is (x ∷ seen) xs)

abbrev Adds : Clashes → Clashes → Declared → Type 0
Adds old new x = (e : Declared) → clashes_with new e ≡ (clash_of e x || clashes_with old e)

declared_push : (old new : Clashes) (xs : List Declared) (x : Declared) → AreDeclared old xs → Adds old new x → AreDeclared new (xs ++ x ∷ [])
declared_push old new xs x before added = λ e.
    added e ∙ ap (λ v. clash_of e x || v) (before e ∙ ap (list_any (clash_of e)) (sym (append-nil xs))) ∙ any_moved (clash_of e) xs x []

pub declared_more : (old new : Clashes) (seen xs : List Declared) (i : ℕ) (d : Declared) → i < length xs → AreDeclared old (seen ++ take i xs) → Adds old new (get_or xs i d)
    → AreDeclared new (seen ++ take (i + 1) xs)
declared_more old new seen xs i d h before added =
    subst (AreDeclared new) (append_assoc seen (take i xs) (get_or xs i d ∷ []) ∙ ap (λ z. seen ++ z) (sym (take_more xs i d h)))
    (declared_push old new (seen ++ take i xs) (get_or xs i d) before added)

-- the declarations were put in, and those that clash were noted
pub record Clashing (kept : Option Fault) (seen : List Declared) (c : Clashes) (now : Option Fault) (xs : List Declared) : Type 0 where
  pub declared : AreDeclared c (seen ++ xs)
  pub least : now ≡ noted kept (map declared_twice (clashing_of seen xs))

pub clashing_more : (kept : Option Fault) (seen : List Declared) (old new : Clashes) (before now : Option Fault) (xs : List Declared) (i : ℕ) (d : Declared) (v : Bool) → i < length xs
    → Clashing kept seen old before (take i xs) → v ≡ clashes_with old (get_or xs i d) → now ≡ noted before (single v (declared_twice (get_or xs i d))) → Adds old new (get_or xs i d)
    → Clashing kept seen new now (take (i + 1) xs)
clashing_more kept seen old new before now xs i d v h l is e added = record {
  declared = declared_more old new seen xs i d h l.declared added;
  least = noted_marked clash_of declared_twice kept before now seen xs i d v h (l.least ∙ ap (λ z. noted kept (map declared_twice z)) (clashing_is seen (take i xs)))
      (is ∙ l.declared (get_or xs i d)) e
      ∙ ap (λ z. noted kept (map declared_twice z)) (sym (clashing_is seen (take (i + 1) xs)));
}

-- ---- declarations as they are listed

agrees_same : (a b : Kind) → agrees (sort_of a) (sort_of b) ≡ agree a b
agrees_same signal signal = refl
agrees_same signal (instance t) = refl
agrees_same signal param = refl
agrees_same (instance s) signal = refl
agrees_same (instance s) (instance t) = refl
agrees_same (instance s) param = refl
agrees_same param signal = refl
agrees_same param (instance t) = refl
agrees_same param param = refl

any_same : (d : Decl) (seen : List Decl) → list_any (clash_of (declared_of d)) (map declared_of seen) ≡ list_any (clash d) seen
any_same d [] = refl
any_same d (s ∷ seen) = ap (λ v. ((d.name.name.0 == s.name.name.0) && not v) || list_any (clash_of (declared_of d)) (map declared_of seen)) (agrees_same d.kind s.kind)
    ∙ ap (λ v. clash d s || v) (any_same d seen)

twice_of : (v : Bool) (d : Decl) (rest : List Decl) → map declared_twice (single v (declared_of d)) ++ map fault_of rest ≡ map fault_of (single v d ++ rest)
twice_of true d rest = refl
twice_of false d rest = refl

pub clashes_same : (seen xs : List Decl) → map declared_twice (clashing_of (map declared_of seen) (map declared_of xs)) ≡ map fault_of (clashing seen xs)
clashes_same seen [] = refl
clashes_same seen (x ∷ xs) =
    map-append declared_twice (single (list_any (clash_of (declared_of x)) (map declared_of seen)) (declared_of x)) (clashing_of (map declared_of (x ∷ seen)) (map declared_of xs))
    ∙ ap (λ v. map declared_twice (single v (declared_of x)) ++ map declared_twice (clashing_of (map declared_of (x ∷ seen)) (map declared_of xs))) (any_same x seen)
    ∙ ap (λ l. map declared_twice (single (list_any (clash x) seen) (declared_of x)) ++ l) (clashes_same (x ∷ seen) xs)
    ∙ twice_of (list_any (clash x) seen) x (clashing (x ∷ seen) xs)
