-- Two pins share a net exactly where they are joined.
use Rattle.std.proofs.Common.{◌≡◌, ℕ, zero, suc, List, [], ◌∷◌, map, refl, ap, sym, ◌∙◌, subst, inl, inr}
use Rattle.std.specs.Prelude.{Contains, Some, slice_get}
use Rattle.std.specs.List.{AllZip}
use Rattle.std.proofs.lemmas.Option.{none-some, same_Some, slice_get_within, get_or_from_slice_get, slice_get-get_or}
use Rattle.ato_base.specs.Joined.{same}
use Rattle.ato_base.proofs.JoinedLaws.{joined_sym, joined_trans}
use Rattle.ato_base.proofs.ClassLaws.{cases, first, later, nowhere, class_points, class_related, class_shared, class_once}
use Rattle.ato_base.specs.declared.nets.Net.{Net}
use Rattle.ato_files.specs.declared.program.SourceFile.{SourceFile}
use Rattle.ato_links.specs.Links.{Electrical}
use Rattle.ato_links.specs.Joins.{IsDirect}
use Rattle.ato_links.specs.Nets.{Pin, pins, net_pin, IsNet, ArePins, AreNets, StandsIn, SharesExactly, PinsDiffer, NetsShare}
use Rattle.ato_links.proofs.NetLaws.{map_had}
use Rattle.ato_links.proofs.PinLaws.{no_pin_twice}

map_has : {X Y : Type 0} (f : X → Y) (xs : List X) (x : X) → Contains xs x → Contains (map f xs) (f x)
map_has f [] x m = absurd (nowhere x m)
map_has f (a ∷ xs) x m = elim (cases a x xs m) [
  | inl e ↦ subst (λ y. Contains (map f (a ∷ xs)) (f y)) (sym e) (first (f a) (map f xs))
  | inr k ↦ later (f a) (f x) (map f xs) (map_has f xs x k)
]

zip_back : {A B : Type 0} (R : A → B → Type 0) (xs : List A) (ys : List B) → AllZip R xs ys → (i : ℕ) (y : B) → slice_get ys i ≡ Some y
    → (x : A) × (slice_get xs i ≡ Some x) × R x y
zip_back R [] [] z i y e = absurd (none-some y e)
zip_back R [] (b ∷ ys) z i y e = absurd z
zip_back R (a ∷ xs) [] z i y e = absurd z
zip_back R (a ∷ xs) (b ∷ ys) z zero y e = (a, refl, subst (R a) (same_Some b y e) z.0)
zip_back R (a ∷ xs) (b ∷ ys) z (suc i) y e = zip_back R xs ys z.1 i y e

zip_on : {A B : Type 0} (R : A → B → Type 0) (xs : List A) (ys : List B) → AllZip R xs ys → (i : ℕ) (x : A) → slice_get xs i ≡ Some x
    → (y : B) × (slice_get ys i ≡ Some y) × R x y
zip_on R [] ys z i x e = absurd (none-some x e)
zip_on R (a ∷ xs) [] z i x e = absurd z
zip_on R (a ∷ xs) (b ∷ ys) z zero x e = (b, refl, subst (λ d. R d b) (same_Some a x e) z.0)
zip_on R (a ∷ xs) (b ∷ ys) z (suc i) x e = zip_on R xs ys z.1 i x e

module _ (files : List SourceFile) (entry : ℕ) (names : List (List ℕ)) (library : Electrical) (nets : List Net)
    (differ : PinsDiffer files entry names) (are : AreNets files entry names library nets) where
  its_pins : (class : List Pin) (net : Net) → IsNet files entry names library class net → net.pins ≡ map (net_pin files entry names) class
  its_pins [] net is = absurd is
  its_pins (p ∷ more) net is = is.1

  among : (i : ℕ) (class : List Pin) → slice_get are.classes i ≡ Some class → Contains are.classes class
  among i class e = (i, slice_get_within are.classes i class e, get_or_from_slice_get are.classes i class class e)

  -- a pin stands in the class of its net
  in_class : (p : Pin) (number : ℕ) → Contains (pins files entry) p → StandsIn nets (net_pin files entry names p) number
      → (class : List Pin) × (slice_get are.classes number ≡ Some class) × Contains class p
  in_class p number m stands =
      let at = zip_back (IsNet files entry names library) are.classes nets are.each number stands.0 stands.1 in
      let had = map_had (net_pin files entry names) at.0 (net_pin files entry names p) (subst (λ l. Contains l (net_pin files entry names p)) (its_pins at.0 stands.0 at.2) stands.2) in
      let inside = class_points (ArePins files entry library) are.are_classes at.0 had.0 (among number at.0 at.1) had.1 in
      (at.0, at.1, subst (Contains at.0) (differ had.0 p inside m had.2) had.1)

  -- a pin of a class stands in its net
  in_net : (p : Pin) (number : ℕ) (class : List Pin) → slice_get are.classes number ≡ Some class → Contains class p → StandsIn nets (net_pin files entry names p) number
  in_net p number class e m =
      let at = zip_on (IsNet files entry names library) are.classes nets are.each number class e in
      (at.0, at.1, subst (λ l. Contains l (net_pin files entry names p)) (sym (its_pins class at.0 at.2)) (map_has (net_pin files entry names) class p m))

  self : (p : Pin) → ArePins files entry library p p
  self p = same

  flip : (p q : Pin) → ArePins files entry library p q → ArePins files entry library q p
  flip p q j = joined_sym (IsDirect files entry library) j

  chain : (p q r : Pin) → ArePins files entry library p q → ArePins files entry library q r → ArePins files entry library p r
  chain p q r j k = joined_trans (IsDirect files entry library) j k

  pub share : SharesExactly files entry names library nets
  share = record {
    joined = λ p q number m n a b.
        let one = in_class p number m a in
        let two = in_class q number n b in
        class_related (ArePins files entry library) self flip chain are.are_classes one.0 p q (among number one.0 one.1) one.2
        (subst (λ c. Contains c q) (same_Some two.0 one.0 (sym two.1 ∙ one.1)) two.2);
    shared = λ p q m n j.
        let it = class_shared (ArePins files entry library) self flip chain are.are_classes p q m n j in
        let e = slice_get-get_or are.classes it.1.0 it.0 it.1.1 ∙ ap Some it.1.2 in
        (it.1.0, in_net p it.1.0 it.0 e it.2, in_net q it.1.0 it.0 e it.3);
    once = λ p number other m a b.
        let one = in_class p number m a in
        let two = in_class p other m b in
        class_once (ArePins files entry library) self are.are_classes number other p (slice_get_within are.classes number one.0 one.1) (slice_get_within are.classes other two.0 two.1)
        (subst (λ c. Contains c p) (sym (get_or_from_slice_get are.classes number one.0 [] one.1)) one.2)
        (subst (λ c. Contains c p) (sym (get_or_from_slice_get are.classes other two.0 [] two.1)) two.2);
  }

pub nets_share : NetsShare
nets_share program entry library nets loaded are = share program.files entry program.names library nets (no_pin_twice program entry loaded) are
