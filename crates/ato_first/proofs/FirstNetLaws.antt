-- Two pins share a net exactly where they are joined.
use Rattle.std.proofs.Common.{◌≡◌, ℕ, zero, suc, ◌<◌, List, [], ◌∷◌, map, length, get_or, ap, sym, ◌∙◌, refl, subst, inl, inr, arith}
use Rattle.std.specs.Prelude.{Contains, Some}
use Rattle.std.specs.List.{AllZip, slice_get}
use Rattle.std.proofs.lemmas.List.{get_or_default}
use Rattle.ato_base.specs.Joined.{same}
use Rattle.ato_base.specs.declared.nets.Net.{Net}
use Rattle.ato_base.specs.declared.nets.NetList.{NetList}
use Rattle.ato_base.proofs.ClassLaws.{cases, first, later, nowhere, in_range, class_related, class_shared, class_once}
use Rattle.ato_base.proofs.JoinedLaws.{joined_sym, joined_trans, joined_is_least}
use Rattle.ato_base.specs.LeastEquivalence.{IsLeastEquivalence}
use Rattle.ato_first.specs.declared.first_form.Point.TheVariants.{Pin}
use Rattle.ato_first.specs.declared.first_form.Block.{Block}
use Rattle.ato_first.specs.FirstNets.{net_pin, IsNet, IsNetList, StandsIn, SharesExactly}
use Rattle.ato_first.specs.FirstPoints.{AreJoined, IsJoinedByLine}

-- an element and what it is mapped to
in_map : {A B : Type 0} (f : A → B) (xs : List A) (x : A) → Contains xs x → Contains (map f xs) (f x)
in_map f [] x h = absurd (nowhere x h)
in_map f (y ∷ ys) x h = elim (cases y x ys h) [ inl e ↦ subst (λ z. Contains (f y ∷ map f ys) (f z)) (sym e) (first (f y) (map f ys)) | inr m ↦ later (f y) (f x) (map f ys) (in_map f ys x m) ]

pin_of : (labels : List (List ℕ)) (label : List ℕ) → Contains (map net_pin labels) (net_pin label) → Contains labels label
pin_of [] label h = absurd (nowhere (net_pin label) h)
pin_of (l ∷ ls) label h = elim (cases (net_pin l) (net_pin label) (map net_pin ls) h) [
  | inl e ↦ subst (Contains (l ∷ ls)) (sym (ap (λ pin. pin.label) e)) (first l ls)
  | inr m ↦ later l label ls (pin_of ls label m)
]

-- the pins of a net
net_labels : (block : Block) (class : List (List ℕ)) (net : Net) → IsNet block class net → net.pins ≡ map net_pin class
net_labels block [] net h = absurd h
net_labels block (label ∷ labels) net h = h.1

-- the class of a net at a place, and the net of a class
zip_class : (block : Block) (classes : List (List (List ℕ))) (nets : List Net) → AllZip (IsNet block) classes nets → (k : ℕ) (net : Net) → slice_get nets k ≡ Some net → (k < length classes) × IsNet block (get_or classes k []) net
zip_class block [] [] z k net e = let bad : ⊥ = cc in absurd bad
zip_class block [] (n ∷ ns) z k net e = absurd z
zip_class block (c ∷ cs) [] z k net e = absurd z
zip_class block (c ∷ cs) (n ∷ ns) z zero net e = let same : n ≡ net = cc in (omega arith, subst (IsNet block c) same z.0)
zip_class block (c ∷ cs) (n ∷ ns) z (suc k) net e = let more = zip_class block cs ns z.1 k net e in (omega (arith, more.0), more.1)

zip_net : (block : Block) (classes : List (List (List ℕ))) (nets : List Net) → AllZip (IsNet block) classes nets → (k : ℕ) → k < length classes → (net : Net) × (slice_get nets k ≡ Some net) × IsNet block (get_or classes k []) net
zip_net block [] nets z k h = absurd (omega arith)
zip_net block (c ∷ cs) [] z k h = absurd z
zip_net block (c ∷ cs) (n ∷ ns) z zero h = (n, refl, z.0)
zip_net block (c ∷ cs) (n ∷ ns) z (suc k) h = zip_net block cs ns z.1 k (omega arith)

module _ (block : Block) (value : List ℕ) (list : NetList) (is : IsNetList block value list) where
  -- a pin that stands in a net stands in the class at its place
  in_class : (label : List ℕ) (place : ℕ) → StandsIn list label place → (place < length is.classes) × Contains (get_or is.classes place []) label
  in_class label place (net, at, pin) =
      let class = zip_class block is.classes list.nets is.nets place net at in
      (class.0, pin_of (get_or is.classes place []) label (subst (λ pins. Contains pins (net_pin label)) (net_labels block (get_or is.classes place []) net class.1) pin))

  -- Two pins share a net exactly where they are joined, and each pin stands in exactly one net.
  pub shares_exactly : SharesExactly block list
  shares_exactly = record {
    joined = λ a b place h k.
        let left = in_class a place h in
        class_related (λ p q. AreJoined block (Pin p) (Pin q)) (λ p. same) (λ p q j. joined_sym (IsJoinedByLine block) j) (λ p q r j l. joined_trans (IsJoinedByLine block) j l)
        is.are_classes (get_or is.classes place []) a b (place, left.0, in_range is.classes place left.0) left.1 (in_class b place k).1;
    shared = λ a b h k j.
        let found = class_shared (λ p q. AreJoined block (Pin p) (Pin q)) (λ p. same) (λ p q i. joined_sym (IsJoinedByLine block) i) (λ p q r i l. joined_trans (IsJoinedByLine block) i l) is.are_classes a b h k j in
        let net = zip_net block is.classes list.nets is.nets found.1.0 found.1.1 in
        let class : get_or is.classes found.1.0 [] ≡ found.0 = get_or_default is.classes found.1.0 [] found.0 found.1.1 ∙ found.1.2 in
        let pins : net.0.pins ≡ map net_pin found.0 = net_labels block (get_or is.classes found.1.0 []) net.0 net.2 ∙ ap (map net_pin) class in (
          found.1.0,
          (net.0, net.1, subst (λ ps. Contains ps (net_pin a)) (sym pins) (in_map net_pin found.0 a found.2)),
          (net.0, net.1, subst (λ ps. Contains ps (net_pin b)) (sym pins) (in_map net_pin found.0 b found.3)),
        );
    once = λ a place other h k.
        let left = in_class a place h in let right = in_class a other k in
        class_once (λ p q. AreJoined block (Pin p) (Pin q)) (λ p. same) is.are_classes place other a left.0 right.0 left.1 right.1;
  }

-- being joined is the least equivalence that holds the joins of the lines
pub joined_by_lines : (block : Block) → IsLeastEquivalence (IsJoinedByLine block) (AreJoined block)
joined_by_lines block = joined_is_least (IsJoinedByLine block)
