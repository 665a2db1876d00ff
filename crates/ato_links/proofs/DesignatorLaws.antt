-- No two parts have one designator: no prefix ends in a digit.
use Rattle.std.proofs.Common.{◌≡◌, ℕ, zero, suc, ◌+◌, ◌^◌, ◌%◌, ◌<◌, ◌≤◌, Bool, true, false, true≢false, List, [], ◌∷◌, ◌++◌, length, map, Some, refl, ap, sym, ◌∙◌, subst, arith, inl, inr}
use Rattle.std.specs.Prelude.{◌&&◌, nat_le, nat_lt, cond, Contains, filter_map, count_by, decimal, slice_get, if◌then◌else◌}
use Rattle.std.specs.List.{list_all}
use Rattle.std.specs.Str.{bytes_eq}
use Rattle.std.proofs.lemmas.Bool.{and_parts, and_left, or_from, lt-leb, cases_order}
use Rattle.std.proofs.lemmas.List.{length-map}
use Rattle.std.proofs.lemmas.List.Recursion.{is_count_by}
use Rattle.std.proofs.lemmas.Fmt.{decimal_by_steps, decimal_injective}
use Rattle.std.proofs.lemmas.Option.{none-some, same_Some, slice_get_within}
use Rattle.std.proofs.lemmas.Slice.Eq.{bytes_eq-Decides}
use Rattle.ato_base.proofs.ClassLaws.{first, later}
use Rattle.ato_instance_tree.specs.Trees.{tree_said, spot_said}
use Rattle.ato_instance_tree.specs.Order.{Spot, leaf, made_at, nodes, instance_of, instances}
use Rattle.ato_instance_tree.specs.TreeFaults.{most_in_tree}
use Rattle.ato_instance_tree.specs.PathFaults.{is_letter, is_prefix}
use Rattle.ato_instance_tree.proofs.PushLaws.{said_long}
use Rattle.ato_instance_tree.proofs.LimitLaws.{kept}
use Rattle.ato_links.specs.Parts.{is_part, parts, prefix_of, designators_after, DesignatorsDiffer}
use Rattle.ato_links.proofs.NetLaws.{map_had, filter_had, shorter}
use Rattle.ato_links.proofs.PrefixLaws.{each_prefix}

-- ---- letters before digits

abbrev FirstIsNone : List ℕ → Type 0
FirstIsNone ds = (x : ℕ) × (xs : List ℕ) × (ds ≡ x ∷ xs) × (is_letter x ≡ false)

digit_is_none : (n : ℕ) → n < 10 → is_letter (48 + n) ≡ false
digit_is_none n l = or_from (nat_le 65 (48 + n) && nat_le (48 + n) 90) (nat_le 97 (48 + n) && nat_le (48 + n) 122)
    (and_left (nat_le 65 (48 + n)) (nat_le (48 + n) 90) (lt-leb 65 (48 + n) (omega (arith, l))))
    (and_left (nat_le 97 (48 + n)) (nat_le (48 + n) 122) (lt-leb 97 (48 + n) (omega (arith, l))))

decimal_first : (n : ℕ) → n < 2 ^ 64 → FirstIsNone (decimal n)
decimal_first = decimal_by_steps (λ n ds. FirstIsNone ds) (λ n l. (48 + n, [], refl, digit_is_none n l))
    (λ n ds l it. (it.0, it.1 ++ ((48 + n % 10) ∷ []), ap (λ xs. xs ++ ((48 + n % 10) ∷ [])) it.2, it.3))

nil_cons : {X : Type 0} (x : X) (xs : List X) → [] ≡ x ∷ xs → ⊥
nil_cons x xs e = absurd (cc)

heads : (a b : ℕ) (xs ys : List ℕ) → a ∷ xs ≡ b ∷ ys → (a ≡ b) × (xs ≡ ys)
heads a b xs ys e = (same_Some a b (ap (λ l. slice_get l 0) e), ap (λ l. rest l) e) where
  rest : List ℕ → List ℕ
  rest [] = []
  rest (z ∷ zs) = zs

split : (p q ds es : List ℕ) → list_all is_letter p ≡ true → list_all is_letter q ≡ true → FirstIsNone ds → FirstIsNone es → p ++ ds ≡ q ++ es
    → (p ≡ q) × (ds ≡ es)
split [] [] ds es a b f g e = (refl, e)
split [] (y ∷ q) ds es a b f g e =
    let h = heads f.0 y f.1 (q ++ es) (sym f.2 ∙ e) in
    absurd (true≢false (sym (and_parts (is_letter y) (list_all is_letter q) b).0 ∙ (ap is_letter (sym h.0) ∙ f.3)))
split (x ∷ p) [] ds es a b f g e =
    let h = heads x g.0 (p ++ ds) g.1 (e ∙ g.2) in
    absurd (true≢false (sym (and_parts (is_letter x) (list_all is_letter p) a).0 ∙ (ap is_letter h.0 ∙ g.3)))
split (x ∷ p) (y ∷ q) ds es a b f g e =
    let h = heads x y (p ++ ds) (q ++ es) e in
    let it = split p q ds es (and_parts (is_letter x) (list_all is_letter p) a).1 (and_parts (is_letter y) (list_all is_letter q) b).1 f g h.1 in
    (ap (λ z. z ∷ p) h.0 ∙ ap (λ l. y ∷ l) it.0, it.1)

letters_of : (p : List ℕ) → is_prefix p ≡ true → list_all is_letter p ≡ true
letters_of p e = (and_parts (nat_lt 0 (length p) && nat_le (length p) 8) (list_all is_letter p) e).1

-- ---- how often a prefix stands before

abbrev one_if : Bool → ℕ
one_if b = if b then 1 else 0

abbrev times : List ℕ → List (List ℕ) → ℕ → ℕ
times p ps zero = 0
times p [] (suc i) = 0
times p (q ∷ ps) (suc i) = one_if (bytes_eq p q) + times p ps i

abbrev counted : List ℕ → List (List ℕ) → ℕ
counted p [] = 0
counted p (q ∷ qs) = cond (bytes_eq p q) (1 + counted p qs) (counted p qs)

count_more : (p q : List ℕ) (before : List (List ℕ)) → count_by (bytes_eq p) (q ∷ before) ≡ one_if (bytes_eq p q) + count_by (bytes_eq p) before
count_more p q before = sym (same (q ∷ before)) ∙ (by_test (bytes_eq p q) ∙ ap (λ n. one_if (bytes_eq p q) + n) (same before)) where
  same : (xs : List (List ℕ)) → counted p xs ≡ count_by (bytes_eq p) xs
  same xs = is_count_by (counted p) (bytes_eq p) refl (λ x xs. refl) xs

  by_test : (b : Bool) → cond b (1 + counted p before) (counted p before) ≡ one_if b + counted p before
  by_test true = omega arith
  by_test false = omega arith

-- the designator of a number
data IsEntry (before ps : List (List ℕ)) (i : ℕ) (d : List ℕ) : Type 0 where
  entry : (p : List ℕ) → slice_get ps i ≡ Some p → d ≡ p ++ decimal ((count_by (bytes_eq p) before + times p ps i) + 1) → IsEntry before ps i d

entry_at : (before ps : List (List ℕ)) (i : ℕ) (d : List ℕ) → slice_get (designators_after before ps) i ≡ Some d → IsEntry before ps i d
entry_at before [] i d e = absurd (none-some d e)
entry_at before (q ∷ ps) zero d e = entry q refl
    (sym (same_Some (q ++ decimal (count_by (bytes_eq q) before + 1)) d e) ∙ ap (λ n. q ++ decimal n) (omega arith))
entry_at before (q ∷ ps) (suc i) d e = deeper (entry_at (q ∷ before) ps i d e) where
  deeper : IsEntry (q ∷ before) ps i d → IsEntry before (q ∷ ps) (suc i) d
  deeper (entry p f g) = entry p f (g ∙ ap (λ n. p ++ decimal n) (omega (arith, count_more p q before)))

at_most : (p : List ℕ) (ps : List (List ℕ)) (i : ℕ) → times p ps i ≤ i
at_most p ps zero = omega arith
at_most p [] (suc i) = omega arith
at_most p (q ∷ ps) (suc i) = by_test (bytes_eq p q) (at_most p ps i) where
  by_test : (b : Bool) → times p ps i ≤ i → one_if b + times p ps i ≤ suc i
  by_test true h = omega (arith, h)
  by_test false h = omega (arith, h)

rises : (p : List ℕ) (ps : List (List ℕ)) (i j : ℕ) → i < j → slice_get ps i ≡ Some p → times p ps i < times p ps j
rises p ps i zero l e = absurd (omega (arith, l))
rises p [] i (suc j) l e = absurd (none-some p e)
rises p (q ∷ ps) zero (suc j) l e = subst (λ b. 0 < one_if b + times p ps j) (sym ((bytes_eq-Decides p q).1 (sym (same_Some q p e)))) (omega arith)
rises p (q ∷ ps) (suc i) (suc j) l e = let h = rises p ps i j (omega (arith, l)) e in omega (arith, h)

contains : {X : Type 0} (xs : List X) (i : ℕ) (x : X) → slice_get xs i ≡ Some x → Contains xs x
contains [] i x e = absurd (none-some x e)
contains (y ∷ ys) zero x e = subst (Contains (y ∷ ys)) (same_Some y x e) (first y ys)
contains (y ∷ ys) (suc i) x e = later y x ys (contains ys i x e)

module _ (ps : List (List ℕ)) (small : length ps < 2 ^ 32) (good : (p : List ℕ) → Contains ps p → is_prefix p ≡ true) where
  below : (p : List ℕ) (i : ℕ) → slice_get ps i ≡ Some p → (q : List ℕ) → (0 + times q ps i) + 1 < 2 ^ 64
  below p i e q = omega (arith, small, slice_get_within ps i p e, at_most q ps i)

  apart : (i j : ℕ) (d : List ℕ) → i < j → IsEntry [] ps i d → IsEntry [] ps j d → ⊥
  apart i j d l (entry p f g) (entry q h k) =
      let m = below p i f p in
      let n = below q j h q in
      let it = split p q (decimal ((0 + times p ps i) + 1)) (decimal ((0 + times q ps j) + 1)) (letters_of p (good p (contains ps i p f)))
      (letters_of q (good q (contains ps j q h)))
      (decimal_first ((0 + times p ps i) + 1) m) (decimal_first ((0 + times q ps j) + 1) n) (sym g ∙ k) in
      let same = decimal_injective ((0 + times p ps i) + 1) ((0 + times q ps j) + 1) m n it.1 in
      let more = subst (λ x. times p ps i < times x ps j) it.0 (rises p ps i j l f) in
      absurd (omega (arith, same, more))

  differ : (i j : ℕ) (d : List ℕ) → slice_get (designators_after [] ps) i ≡ Some d → slice_get (designators_after [] ps) j ≡ Some d → i ≡ j
  differ i j d e f = elim (cases_order i j) [
    | inl same ↦ same
    | inr other ↦ elim other [
      | inl l ↦ absurd (apart i j d l (entry_at [] ps i d e) (entry_at [] ps j d f))
      | inr l ↦ absurd (apart j i d l (entry_at [] ps j d f) (entry_at [] ps i d e))
    ]
  ]

-- ---- projects

instances_within : (ss : List Spot) → length (filter_map instance_of ss) ≤ length ss
instances_within [] = omega arith
instances_within (leaf path m ∷ ss) = omega (arith, instances_within ss)
instances_within (made_at path ∷ ss) = omega (arith, instances_within ss)

few : (n : ℕ) → n ≤ 262144 → n < 2 ^ 32
few n l = omega (arith, l)

pub designators_differ : DesignatorsDiffer
designators_differ program name tree loaded is none =
    let paths = parts program.files is.entry program.names in
    let prefix = prefix_of program.files is.entry program.names in
    let long : length (map prefix paths) ≡ length paths = length-map paths prefix in
    let kept_parts = shorter (is_part program.files is.entry program.names) (instances program.files is.entry) in
    let kept_instances = instances_within (nodes program.files is.entry) in
    let told : length (tree_said tree.nodes) ≡ length (nodes program.files is.entry) =
    ap length is.is.told ∙ length-map (nodes program.files is.entry) (spot_said program.files is.entry program.names) in
    let said = said_long tree.nodes in
    let limit : length tree.nodes ≤ 262144 = (kept most_in_tree program name tree loaded is).nodes in
    differ (map prefix paths) (few (length (map prefix paths)) (omega arith))
    (λ p m. let it = map_had prefix paths p m in ap is_prefix (sym it.2)
    ∙ each_prefix most_in_tree program name tree is it.0 none
    (filter_had (is_part program.files is.entry program.names) (instances program.files is.entry) it.0 it.1).0)
