-- The nets that are made by numbers.
use Rattle.std.proofs.Common.{◌≡◌, ℕ, zero, suc, ◌+◌, ◌<◌, ◌≤◌, Bool, true, false, true≢false, List, [], ◌∷◌, ◌++◌, length, map, Option, Some, None, refl, ap, sym, ◌∙◌, subst, arith, inl, inr}
use Rattle.std.specs.Prelude.{◌⊎◌, not, nat_lt, cond, Contains, filter, fold, slice_get, if◌then◌else◌}
use Rattle.std.specs.List.{flat_map, AllZip, slice_index}
use Rattle.std.specs.Option.{option_map}
use Rattle.std.proofs.lemmas.Bool.{eqb-true, eq-eqb, ltb-true, ltb-false}
use Rattle.std.proofs.lemmas.Option.{none-some, same_Some, slice_get-map, slice_get_within}
use Rattle.std.proofs.lemmas.List.Elements.{Contains-append_cases}
use Rattle.ato_base.specs.Classes.{Parts, no_point, related, other, Classes, no_class, a_class}
use Rattle.ato_base.proofs.ClassLaws.{cases, first, later, nowhere, only, classes_same, classes_map}
use Rattle.ato_files.specs.declared.program.SourceFile.{SourceFile}
use Rattle.ato_files.specs.Members.{signal, instance, param}
use Rattle.ato_instance_tree.specs.Members.{pin, named}
use Rattle.ato_instance_tree.specs.Order.{Spot, leaf, made_at, nodes}
use Rattle.ato_instance_tree.specs.Laws.{SpotPlace, at_names, place_of}
use Rattle.ato_instance_tree.proofs.DepthLaws.{mapped}
use Rattle.ato_links.specs.Links.{Electrical}
use Rattle.ato_links.specs.Joins.{AreJoined, AreClasses}
use Rattle.ato_links.specs.Nets.{Pin, pin_place, pins_of, signals_of, signals, net_pin, ComesFirst, IsNetName, by_signal, by_pin, IsNet, ArePins, AreNets}
use Rattle.ato_links.specs.ByNumbers.{numbered_by, groups, shallower, name_by, have_one_number, group_net, nets_by, NetsByNumbers}
use Rattle.ato_links.proofs.ClassLaws.{alike, meet}

-- ---- lists

map_append : {X Y : Type 0} (f : X → Y) (xs ys : List X) → map f (xs ++ ys) ≡ map f xs ++ map f ys
map_append f [] ys = refl
map_append f (x ∷ xs) ys = ap (λ l. f x ∷ l) (map_append f xs ys)

pub map_had : {X Y : Type 0} (f : X → Y) (xs : List X) (y : Y) → Contains (map f xs) y → (x : X) × Contains xs x × (f x ≡ y)
map_had f [] y m = absurd (nowhere y m)
map_had f (a ∷ xs) y m = elim (cases (f a) y (map f xs) m) [ inl e ↦ (a, first a xs, sym e) | inr k ↦ let it = map_had f xs y k in (it.0, later a it.0 xs it.1, it.2) ]

pub filter_had : {X : Type 0} (test : X → Bool) (xs : List X) (x : X) → Contains (filter test xs) x → Contains xs x × (test x ≡ true)
filter_had test [] x m = absurd (nowhere x m)
filter_had test (y ∷ ys) x m = split (test y) refl m (filter_had test ys x) where
  split : (b : Bool) → test y ≡ b → Contains (cond b (y ∷ filter test ys) (filter test ys)) x → (Contains (filter test ys) x → Contains ys x × (test x ≡ true))
      → Contains (y ∷ ys) x × (test x ≡ true)
  split true e h rest = elim (cases y x (filter test ys) h) [
    | inl s ↦ (subst (Contains (y ∷ ys)) (sym s) (first y ys), ap test s ∙ e)
    | inr k ↦ let more = rest k in (later y x ys more.0, more.1)
  ]
  split false e h rest = let more = rest h in (later y x ys more.0, more.1)

at_contains : {X : Type 0} (xs : List X) (i : ℕ) (x : X) → slice_get xs i ≡ Some x → Contains xs x
at_contains [] i x e = absurd (none-some x e)
at_contains (y ∷ ys) zero x e = subst (Contains (y ∷ ys)) (same_Some y x e) (first y ys)
at_contains (y ∷ ys) (suc i) x e = later y x ys (at_contains ys i x e)

pub shorter : {X : Type 0} (test : X → Bool) (xs : List X) → length (filter test xs) ≤ length xs
shorter test [] = omega arith
shorter test (y ∷ ys) = by_test (test y) (shorter test ys) where
  by_test : (b : Bool) → length (filter test ys) ≤ length ys → length (cond b (y ∷ filter test ys) (filter test ys)) ≤ length (y ∷ ys)
  by_test true l = omega (arith, l)
  by_test false l = omega (arith, l)

-- ---- groups are classes

module _ {X : Type 0} (same : X → X → Bool) where
  split : (x : X) (xs : List X) → Parts (λ a b. same a b ≡ true) x xs (filter (same x) xs) (filter (λ y. not (same x y)) xs)
  split x [] = no_point
  split x (y ∷ ys) = by_test (same x y) refl (split x ys) where
    by_test : (b : Bool) → same x y ≡ b → Parts (λ a c. same a c ≡ true) x ys (filter (same x) ys) (filter (λ z. not (same x z)) ys)
        → Parts (λ a c. same a c ≡ true) x (y ∷ ys) (cond b (y ∷ filter (same x) ys) (filter (same x) ys)) (cond (not b) (y ∷ filter (λ z. not (same x z)) ys) (filter (λ z. not (same x z)) ys))
    by_test true e rest = related e rest
    by_test false e rest = other (λ t. absurd (cc)) rest

  pub groups_are : (most : ℕ) (xs : List X) → length xs ≤ most → Classes (λ a b. same a b ≡ true) xs (groups same most xs)
  groups_are zero [] l = no_class
  groups_are zero (x ∷ xs) l = absurd (omega arith)
  groups_are (suc most) [] l = no_class
  groups_are (suc most) (x ∷ xs) l = a_class (split x xs) (groups_are most (filter (λ y. not (same x y)) xs) (omega (arith, shorter (λ y. not (same x y)) xs)))

  group_some : (all : List X) (most : ℕ) (xs : List X) → ((p : X) → Contains xs p → Contains all p) → (group : List X) → Contains (groups same most xs) group
      → (p : X) × (more : List X) × (group ≡ p ∷ more) × Contains all p
  group_some all zero xs inside group m = absurd (nowhere group m)
  group_some all (suc most) [] inside group m = absurd (nowhere group m)
  group_some all (suc most) (x ∷ xs) inside group m = elim (cases (x ∷ filter (same x) xs) group (groups same most (filter (λ y. not (same x y)) xs)) m) [
    | inl e ↦ (x, filter (same x) xs, e, inside x (first x xs))
    | inr k ↦ group_some all most (filter (λ y. not (same x y)) xs) (λ p h. inside p (later x p xs (filter_had (λ y. not (same x y)) xs p h).0)) group k
  ]

-- ---- what nodes have, with their numbers

values : {X : Type 0} (of : Spot → List X) (n : ℕ) (spots : List Spot) → map (λ a. a.1) (numbered_by of n spots) ≡ flat_map of spots
values of n [] = refl
values of n (s ∷ more) =
    map_append (λ a. a.1) (map (λ x. (n, x)) (of s)) (numbered_by of (suc n) more) ∙ (ap (λ l. l ++ map (λ a. a.1) (numbered_by of (suc n) more)) (back (of s)) ∙ ap (λ l. of s ++ l) (values of (suc n) more))
  where
    back : {X : Type 0} (xs : List X) → map (λ (a : ℕ × X). a.1) (map (λ x. (n, x)) xs) ≡ xs
    back [] = refl
    back (x ∷ xs) = ap (λ l. x ∷ l) (back xs)

middle : {X : Type 0} (front : List X) (x : X) (rest : List X) (n : ℕ) → length front ≡ n → slice_get (front ++ x ∷ rest) n ≡ Some x
middle [] x rest zero e = refl
middle [] x rest (suc n) e = absurd (omega (arith, e))
middle (y ∷ ys) x rest zero e = absurd (omega (arith, e))
middle (y ∷ ys) x rest (suc n) e = middle ys x rest n (omega (arith, e))

pushed : {X : Type 0} (front : List X) (x : X) (rest : List X) → (front ++ x ∷ []) ++ rest ≡ front ++ x ∷ rest
pushed [] x rest = refl
pushed (y ∷ ys) x rest = ap (λ l. y ∷ l) (pushed ys x rest)

longer : {X : Type 0} (front : List X) (x : X) (n : ℕ) → length front ≡ n → length (front ++ x ∷ []) ≡ suc n
longer [] x n e = omega (arith, e)
longer (y ∷ ys) x zero e = absurd (omega (arith, e))
longer (y ∷ ys) x (suc n) e = ap suc (longer ys x n (omega (arith, e)))

pub at_node : {X : Type 0} (of : Spot → List X) (n : ℕ) (front spots : List Spot) (a : ℕ × X) → length front ≡ n → Contains (numbered_by of n spots) a
    → (s : Spot) × (slice_get (front ++ spots) a.0 ≡ Some s) × Contains (of s) a.1
at_node of n front [] a e m = absurd (nowhere a m)
at_node of n front (s ∷ more) a e m = elim (Contains-append_cases (map (λ x. (n, x)) (of s)) (numbered_by of (suc n) more) a m) [
  | inl h ↦
      let it = map_had (λ x. (n, x)) (of s) a h in
      (s, subst (λ k. slice_get (front ++ s ∷ more) k ≡ Some s) (ap (λ k. k.0) it.2) (middle front s more n e), subst (Contains (of s)) (ap (λ k. k.1) it.2) it.1)
  | inr h ↦
      let it = at_node of (suc n) (front ++ s ∷ []) more a (longer front s n e) h in
      (it.0, subst (λ l. slice_get l a.0 ≡ Some it.0) (pushed front s more) it.1, it.2)
]

pin_spot : (s : Spot) (p : Pin) → Contains (pins_of s) p → place_of s ≡ pin_place p
pin_spot (leaf path (pin text)) p m = ap pin_place (sym (only (record { path = path; label = text }) p m))
pin_spot (leaf path (named n k)) p m = absurd (nowhere p m)
pin_spot (made_at path) p m = absurd (nowhere p m)

signal_spot : (s : Spot) (path : List ℕ) → Contains (signals_of s) path → place_of s ≡ at_names path
signal_spot (leaf up (named n signal)) path m = ap at_names (sym (only (n.name.0 ∷ up) path m))
signal_spot (leaf up (named n param)) path m = absurd (nowhere path m)
signal_spot (leaf up (named n (instance type))) path m = absurd (nowhere path m)
signal_spot (leaf up (pin text)) path m = absurd (nowhere path m)
signal_spot (made_at up) path m = absurd (nowhere path m)

-- ---- the signal that comes first

first_chain : (i j k : ℕ) (p q r : List ℕ) → ComesFirst i p j q → ComesFirst j q k r → ComesFirst i p k r
first_chain i j k p q r (inl a) (inl b) = inl (omega (arith, a, b))
first_chain i j k p q r (inl a) (inr b) = inl (omega (arith, a, b.0))
first_chain i j k p q r (inr a) (inl b) = inl (omega (arith, a.0, b))
first_chain i j k p q r (inr a) (inr b) = inr (a.0 ∙ b.0, omega (arith, a.1, b.1))

first_self : (i : ℕ) (p : List ℕ) → ComesFirst i p i p
first_self i p = inr (refl, omega arith)

no_longer : (i k : ℕ) (p q : List ℕ) → i ≤ k → length p ≤ length q → ComesFirst i p k q
no_longer i k p q l h = by_order (length p) (length q) h where
  by_order : (a b : ℕ) → a ≤ b → (a < b) ⊎ ((a ≡ b) × (i ≤ k))
  by_order zero zero h = inr (refl, l)
  by_order zero (suc b) h = inl (omega arith)
  by_order (suc a) zero h = absurd (omega arith)
  by_order (suc a) (suc b) h = elim (by_order a b (omega arith)) [ inl m ↦ inl (omega arith) | inr m ↦ inr (ap suc m.0, m.1) ]

-- The signal of a number is kept of one before and those that pass, from a number on.
record IsKept {X : Type 0} (test : X × List ℕ → Bool) (i : ℕ) (p : List ℕ) (k : ℕ) (ss : List (X × List ℕ)) (best : Option (List ℕ)) : Type 0 where
  at : ℕ
  path : List ℕ
  is : best ≡ Some path
  from : ((at ≡ i) × (path ≡ p)) ⊎ ((m : ℕ) × (b : X × List ℕ) × (at ≡ k + m) × (slice_get ss m ≡ Some b) × (test b ≡ true) × (b.1 ≡ path))
  before : ComesFirst at path i p
  all : (j : ℕ) (o : X × List ℕ) → slice_get ss j ≡ Some o → test o ≡ true → ComesFirst at path (k + j) o.1

module _ {X : Type 0} (test : X × List ℕ → Bool) where
  abbrev paths : List (X × List ℕ) → List (List ℕ)
  paths ss = map (λ s. s.1) (filter test ss)

  -- a signal that does not pass
  skip : (i : ℕ) (p : List ℕ) (k : ℕ) (x : X × List ℕ) (ss : List (X × List ℕ)) (best : Option (List ℕ)) → test x ≡ false → IsKept test i p (suc k) ss best → IsKept test i p k (x ∷ ss) best
  skip i p k x ss best e kept = record {
    at = kept.at;
    path = kept.path;
    is = kept.is;
    from = elim kept.from [ inl h ↦ inl h | inr h ↦ inr (suc h.0, h.1, omega (arith, h.2), h.3, h.4, h.5) ];
    before = kept.before;
    all = others kept.at kept.path kept.all;
  } where
    others : (at : ℕ) (path : List ℕ) → ((j : ℕ) (o : X × List ℕ) → slice_get ss j ≡ Some o → test o ≡ true → ComesFirst at path (suc k + j) o.1)
        → (j : ℕ) (o : X × List ℕ) → slice_get (x ∷ ss) j ≡ Some o → test o ≡ true → ComesFirst at path (k + j) o.1
    others at path all zero o f t = absurd (true≢false (sym t ∙ (ap test (sym (same_Some x o f)) ∙ e)))
    others at path all (suc j) o f t = subst (λ n. ComesFirst at path n o.1) (omega arith) (all j o f t)

  -- one that passes and is kept, and one that passes and is not
  take_it : (i : ℕ) (p : List ℕ) (k : ℕ) (x : X × List ℕ) (ss : List (X × List ℕ)) (best : Option (List ℕ)) → test x ≡ true → length x.1 < length p
      → IsKept test k x.1 (suc k) ss best → IsKept test i p k (x ∷ ss) best
  take_it i p k x ss best e l kept = record {
    at = kept.at;
    path = kept.path;
    is = kept.is;
    from = elim kept.from [ inl h ↦ inr (zero, x, omega (arith, h.0), refl, e, sym h.1) | inr h ↦ inr (suc h.0, h.1, omega (arith, h.2), h.3, h.4, h.5) ];
    before = first_chain kept.at k i kept.path x.1 p kept.before (inl l);
    all = others kept.at kept.path kept.before kept.all;
  } where
    others : (at : ℕ) (path : List ℕ) → ComesFirst at path k x.1 → ((j : ℕ) (o : X × List ℕ) → slice_get ss j ≡ Some o → test o ≡ true → ComesFirst at path (suc k + j) o.1)
        → (j : ℕ) (o : X × List ℕ) → slice_get (x ∷ ss) j ≡ Some o → test o ≡ true → ComesFirst at path (k + j) o.1
    others at path one all zero o f t = subst (λ n. ComesFirst at path n o.1) (omega arith) (subst (λ y. ComesFirst at path k y.1) (same_Some x o f) one)
    others at path one all (suc j) o f t = subst (λ n. ComesFirst at path n o.1) (omega arith) (all j o f t)

  leave_it : (i : ℕ) (p : List ℕ) (k : ℕ) (x : X × List ℕ) (ss : List (X × List ℕ)) (best : Option (List ℕ)) → i ≤ k → length p ≤ length x.1
      → IsKept test i p (suc k) ss best → IsKept test i p k (x ∷ ss) best
  leave_it i p k x ss best low l kept = record {
    at = kept.at;
    path = kept.path;
    is = kept.is;
    from = elim kept.from [ inl h ↦ inl h | inr h ↦ inr (suc h.0, h.1, omega (arith, h.2), h.3, h.4, h.5) ];
    before = kept.before;
    all = others kept.at kept.path (first_chain kept.at i k kept.path p x.1 kept.before (no_longer i k p x.1 low l)) kept.all;
  } where
    others : (at : ℕ) (path : List ℕ) → ComesFirst at path k x.1 → ((j : ℕ) (o : X × List ℕ) → slice_get ss j ≡ Some o → test o ≡ true → ComesFirst at path (suc k + j) o.1)
        → (j : ℕ) (o : X × List ℕ) → slice_get (x ∷ ss) j ≡ Some o → test o ≡ true → ComesFirst at path (k + j) o.1
    others at path one all zero o f t = subst (λ n. ComesFirst at path n o.1) (omega arith) (subst (λ y. ComesFirst at path k y.1) (same_Some x o f) one)
    others at path one all (suc j) o f t = subst (λ n. ComesFirst at path n o.1) (omega arith) (all j o f t)

  kept_of : (i : ℕ) (p : List ℕ) (k : ℕ) (ss : List (X × List ℕ)) → i ≤ k → IsKept test i p k ss (fold shallower (Some p) (paths ss))
  kept_of i p k [] l = record { at = i; path = p; is = refl; from = inl (refl, refl); before = first_self i p; all = λ j o f t. absurd (none-some o f) }
  kept_of i p k (x ∷ ss) l = by_test (test x) refl (kept_of i p (suc k) ss (omega (arith, l))) (kept_of k x.1 (suc k) ss (omega arith)) where
    by_length : (b : Bool) → nat_lt (length x.1) (length p) ≡ b → test x ≡ true → IsKept test i p (suc k) ss (fold shallower (Some p) (paths ss))
        → IsKept test k x.1 (suc k) ss (fold shallower (Some x.1) (paths ss)) → IsKept test i p k (x ∷ ss) (fold shallower (if b then Some x.1 else Some p) (paths ss))
    by_length true f t old new = take_it i p k x ss (fold shallower (Some x.1) (paths ss)) t (ltb-true (length x.1) (length p) f) new
    by_length false f t old new = leave_it i p k x ss (fold shallower (Some p) (paths ss)) l (ltb-false (length x.1) (length p) f) old

    by_test : (b : Bool) → test x ≡ b → IsKept test i p (suc k) ss (fold shallower (Some p) (paths ss)) → IsKept test k x.1 (suc k) ss (fold shallower (Some x.1) (paths ss))
        → IsKept test i p k (x ∷ ss) (fold shallower (Some p) (map (λ s. s.1) (cond b (x ∷ filter test ss) (filter test ss))))
    by_test true t old new = by_length (nat_lt (length x.1) (length p)) refl t old new
    by_test false t old new = skip i p k x ss (fold shallower (Some p) (paths ss)) t old

-- None passes, or one is the first of those that do.
data IsFirst {X : Type 0} (test : X × List ℕ → Bool) (k : ℕ) (ss : List (X × List ℕ)) : Option (List ℕ) → Type 0 where
  no_first : ((j : ℕ) (o : X × List ℕ) → slice_get ss j ≡ Some o → test o ≡ true → ⊥) → IsFirst test k ss None
  is_first : (m : ℕ) (b : X × List ℕ) → slice_get ss m ≡ Some b → test b ≡ true
      → ((j : ℕ) (o : X × List ℕ) → slice_get ss j ≡ Some o → test o ≡ true → ComesFirst (k + m) b.1 (k + j) o.1) → IsFirst test k ss (Some b.1)

module _ {X : Type 0} (test : X × List ℕ → Bool) where
  -- the signal that passes before others that are looked at
  from_kept : (k : ℕ) (x : X × List ℕ) (ss : List (X × List ℕ)) (best : Option (List ℕ)) → test x ≡ true → IsKept test k x.1 (suc k) ss best → IsFirst test k (x ∷ ss) best
  from_kept k x ss best t kept = elim kept.from [
    | inl h ↦ subst (IsFirst test k (x ∷ ss)) (sym (kept.is ∙ ap Some h.1)) (is_first zero x refl t
        (λ j o f u. subst (λ n. ComesFirst n x.1 (k + j) o.1) (omega arith) (subst (λ n. ComesFirst n x.1 (k + j) o.1) h.0 (subst (λ q. ComesFirst kept.at q (k + j) o.1) h.1 (others j o f u)))))
    | inr h ↦ subst (IsFirst test k (x ∷ ss)) (sym (kept.is ∙ ap Some (sym h.5))) (is_first (suc h.0) h.1 h.3 h.4
        (λ j o f u. subst (λ n. ComesFirst n h.1.1 (k + j) o.1) (omega (arith, h.2)) (subst (λ q. ComesFirst kept.at q (k + j) o.1) (sym h.5) (others j o f u))))
  ] where
    others : (j : ℕ) (o : X × List ℕ) → slice_get (x ∷ ss) j ≡ Some o → test o ≡ true → ComesFirst kept.at kept.path (k + j) o.1
    others zero o f u = subst (λ n. ComesFirst kept.at kept.path n o.1) (omega arith) (subst (λ y. ComesFirst kept.at kept.path k y.1) (same_Some x o f) kept.before)
    others (suc j) o f u = subst (λ n. ComesFirst kept.at kept.path n o.1) (omega arith) (kept.all j o f u)

  -- one that does not pass
  pass_by : (k : ℕ) (x : X × List ℕ) (ss : List (X × List ℕ)) (best : Option (List ℕ)) → test x ≡ false → IsFirst test (suc k) ss best → IsFirst test k (x ∷ ss) best
  pass_by k x ss None e (no_first none) = no_first others where
    others : (j : ℕ) (o : X × List ℕ) → slice_get (x ∷ ss) j ≡ Some o → test o ≡ true → ⊥
    others zero o f u = true≢false (sym u ∙ (ap test (sym (same_Some x o f)) ∙ e))
    others (suc j) o f u = none j o f u
  pass_by k x ss (Some path) e (is_first m b g t all) = is_first (suc m) b g t others where
    others : (j : ℕ) (o : X × List ℕ) → slice_get (x ∷ ss) j ≡ Some o → test o ≡ true → ComesFirst (k + suc m) b.1 (k + j) o.1
    others zero o f u = absurd (true≢false (sym u ∙ (ap test (sym (same_Some x o f)) ∙ e)))
    others (suc j) o f u = subst (λ n. ComesFirst n b.1 (k + suc j) o.1) (omega arith) (subst (λ n. ComesFirst (suc k + m) b.1 n o.1) (omega arith) (all j o f u))

  first_of : (k : ℕ) (ss : List (X × List ℕ)) → IsFirst test k ss (fold shallower None (paths test ss))
  first_of k [] = no_first (λ j o f u. none-some o f)
  first_of k (x ∷ ss) = by_test (test x) refl (kept_of test k x.1 (suc k) ss (omega arith)) (first_of (suc k) ss) where
    by_test : (b : Bool) → test x ≡ b → IsKept test k x.1 (suc k) ss (fold shallower (Some x.1) (paths test ss)) → IsFirst test (suc k) ss (fold shallower None (paths test ss))
        → IsFirst test k (x ∷ ss) (fold shallower None (map (λ s. s.1) (cond b (x ∷ filter test ss) (filter test ss))))
    by_test true t kept rest = from_kept k x ss (fold shallower (Some x.1) (paths test ss)) t kept
    by_test false t kept rest = pass_by k x ss (fold shallower None (paths test ss)) t rest

-- ---- names

maps : {X Y Z : Type 0} (f : Y → Z) (g : X → Y) (xs : List X) → map (λ x. f (g x)) xs ≡ map f (map g xs)
maps f g [] = refl
maps f g (x ∷ xs) = ap (λ l. f (g x) ∷ l) (maps f g xs)

module _ (files : List SourceFile) (entry : ℕ) (names : List (List ℕ)) (library : Electrical) (of : List ℕ) (are : AreClasses files entry library of) where
  abbrev the_signals : List (ℕ × List ℕ)
  the_signals = numbered_by signals_of 0 (nodes files entry)

  abbrev the_pins : List (ℕ × Pin)
  the_pins = numbered_by pins_of 0 (nodes files entry)

  -- Nodes at two places have one number exactly where the places are joined.
  one_number : (i j : ℕ) (s t : Spot) (a b : SpotPlace) → slice_get (nodes files entry) i ≡ Some s → slice_get (nodes files entry) j ≡ Some t → place_of s ≡ a → place_of t ≡ b
      → AreJoined files entry library a b → slice_index of i ≡ slice_index of j
  one_number i j s t a b e f g h joined =
      alike files entry library of are i j (slice_get_within (nodes files entry) i s e) (slice_get_within (nodes files entry) j t f)
      (record { one = s; other = t; is_one = e; is_other = f; joined = subst (λ x. AreJoined files entry library x (place_of t)) (sym g) (subst (AreJoined files entry library a) (sym h) joined) })

  are_joined : (i j : ℕ) (s t : Spot) (a b : SpotPlace) → slice_get (nodes files entry) i ≡ Some s → slice_get (nodes files entry) j ≡ Some t → place_of s ≡ a → place_of t ≡ b
      → slice_index of i ≡ slice_index of j → AreJoined files entry library a b
  are_joined i j s t a b e f g h same =
      let it = meet files entry library of are i j (slice_get_within (nodes files entry) i s e) (slice_get_within (nodes files entry) j t f) same in
      subst (λ x. AreJoined files entry library x b) (ap place_of (same_Some it.one s (sym it.is_one ∙ e)) ∙ g)
      (subst (AreJoined files entry library (place_of it.one)) (ap place_of (same_Some it.other t (sym it.is_other ∙ f)) ∙ h) it.joined)

  -- the same for a pin and a signal, and for two pins
  signal_number : (p : ℕ × Pin) (b : ℕ × List ℕ) → Contains the_pins p → Contains the_signals b → AreJoined files entry library (at_names b.1) (pin_place p.1)
      → have_one_number of p b ≡ true
  signal_number p b m n joined =
      let s = at_node signals_of 0 [] (nodes files entry) b refl n in
      let t = at_node pins_of 0 [] (nodes files entry) p refl m in
      eq-eqb (slice_index of p.0) (slice_index of b.0)
      (sym (one_number b.0 p.0 s.0 t.0 (at_names b.1) (pin_place p.1) s.1 t.1 (signal_spot s.0 b.1 s.2) (pin_spot t.0 p.1 t.2) joined))

  signal_joined : (p : ℕ × Pin) (b : ℕ × List ℕ) → Contains the_pins p → Contains the_signals b → have_one_number of p b ≡ true
      → AreJoined files entry library (at_names b.1) (pin_place p.1)
  signal_joined p b m n e =
      let s = at_node signals_of 0 [] (nodes files entry) b refl n in
      let t = at_node pins_of 0 [] (nodes files entry) p refl m in
      are_joined b.0 p.0 s.0 t.0 (at_names b.1) (pin_place p.1) s.1 t.1 (signal_spot s.0 b.1 s.2) (pin_spot t.0 p.1 t.2) (sym (eqb-true (slice_index of p.0) (slice_index of b.0) e))

  pins_agree : (p q : ℕ × Pin) → Contains the_pins p → Contains the_pins q
      → (have_one_number of p q ≡ true → ArePins files entry library p.1 q.1) × (ArePins files entry library p.1 q.1 → have_one_number of p q ≡ true)
  pins_agree p q m n =
      let s = at_node pins_of 0 [] (nodes files entry) p refl m in
      let t = at_node pins_of 0 [] (nodes files entry) q refl n in (
        λ e. are_joined p.0 q.0 s.0 t.0 (pin_place p.1) (pin_place q.1) s.1 t.1 (pin_spot s.0 p.1 s.2) (pin_spot t.0 q.1 t.2) (eqb-true (slice_index of p.0) (slice_index of q.0) e),
        λ joined. eq-eqb (slice_index of p.0) (slice_index of q.0) (one_number p.0 q.0 s.0 t.0 (pin_place p.1) (pin_place q.1) s.1 t.1 (pin_spot s.0 p.1 s.2) (pin_spot t.0 q.1 t.2) joined),
      )

  -- the signals in both lists
  signal_at : (i : ℕ) (path : List ℕ) → slice_get (signals files entry) i ≡ Some path → (b : ℕ × List ℕ) × (slice_get the_signals i ≡ Some b) × (b.1 ≡ path)
  signal_at i path e = mapped (λ (b : ℕ × List ℕ). b.1) (slice_get the_signals i) path
      (sym (slice_get-map (λ (b : ℕ × List ℕ). b.1) the_signals i) ∙ subst (λ l. slice_get l i ≡ Some path) (sym (values signals_of 0 (nodes files entry))) e)

  at_signal : (i : ℕ) (b : ℕ × List ℕ) → slice_get the_signals i ≡ Some b → slice_get (signals files entry) i ≡ Some b.1
  at_signal i b e = subst (λ l. slice_get l i ≡ Some b.1) (values signals_of 0 (nodes files entry))
      (slice_get-map (λ (b : ℕ × List ℕ). b.1) the_signals i ∙ ap (option_map (λ (b : ℕ × List ℕ). b.1)) e)

  named_by : (p : ℕ × Pin) → Contains the_pins p → (best : Option (List ℕ)) → IsFirst (have_one_number of p) 0 the_signals best
      → IsNetName files entry names library p.1 (name_by names p.1 best)
  named_by p m None (no_first none) = by_pin (λ i path on.
      let it = signal_at i path on.is in
      none i it.0 it.1 (signal_number p it.0 m (at_contains the_signals i it.0 it.1) (subst (λ q. AreJoined files entry library (at_names q) (pin_place p.1)) (sym it.2) on.joined)))
  named_by p m (Some path) (is_first i b e t all) = by_signal i b.1
      (record { is = at_signal i b e; joined = signal_joined p b m (at_contains the_signals i b e) t })
      (λ j other on.
      let it = signal_at j other on.is in
      let test = signal_number p it.0 m (at_contains the_signals j it.0 it.1) (subst (λ q. AreJoined files entry library (at_names q) (pin_place p.1)) (sym it.2) on.joined) in
      subst (ComesFirst i b.1 j) it.2 (subst (λ n. ComesFirst n b.1 j it.0.1) (from_zero i) (subst (λ n. ComesFirst (0 + i) b.1 n it.0.1) (from_zero j) (all j it.0 it.1 test))))
    where
      from_zero : (n : ℕ) → 0 + n ≡ n
      from_zero n = omega arith

  -- ---- nets

  net_of : (group : List (ℕ × Pin)) → (p : ℕ × Pin) × (more : List (ℕ × Pin)) × (group ≡ p ∷ more) × Contains the_pins p
      → IsNet files entry names library (map (λ q. q.1) group) (group_net files entry names of group)
  net_of group it = subst (λ g. IsNet files entry names library (map (λ q. q.1) g) (group_net files entry names of g)) (sym it.2) (
    named_by it.0 it.3 (fold shallower None (paths (have_one_number of it.0) the_signals)) (first_of (have_one_number of it.0) 0 the_signals),
    maps (net_pin files entry names) (λ q. q.1) (it.0 ∷ it.1),
  )

  each_net : (gs : List (List (ℕ × Pin))) → ((group : List (ℕ × Pin)) → Contains gs group → (p : ℕ × Pin) × (more : List (ℕ × Pin)) × (group ≡ p ∷ more) × Contains the_pins p)
      → AllZip (IsNet files entry names library) (map (map (λ q. q.1)) gs) (map (group_net files entry names of) gs)
  each_net [] some = tt
  each_net (group ∷ more) some = (net_of group (some group (first group more)), each_net more (λ g m. some g (later group g more m)))

  nets_are : AreNets files entry names library (nets_by files entry names of)
  nets_are =
      let gs = groups (have_one_number of) (length the_pins) the_pins in
      record {
        classes = map (map (λ q. q.1)) gs;
        are_classes = subst (λ l. Classes (ArePins files entry library) l (map (map (λ q. q.1)) gs)) (values pins_of 0 (nodes files entry))
            (classes_map (λ (q : ℕ × Pin). q.1) (ArePins files entry library) (classes_same (λ (a b : ℕ × Pin). have_one_number of a b ≡ true)
            (λ (a b : ℕ × Pin). ArePins files entry library a.1 b.1) (groups_are (have_one_number of) (length the_pins) the_pins (omega arith)) pins_agree));
        each = each_net gs (group_some (have_one_number of) the_pins (length the_pins) the_pins (λ p m. m));
      }

pub nets_by_numbers : NetsByNumbers
nets_by_numbers = nets_are
