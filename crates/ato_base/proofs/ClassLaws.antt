-- What the classes of points by an equivalence are, and how they grow with one more point.
use Rattle.std.proofs.Common.{◌≡◌, ℕ, zero, suc, ◌<◌, List, [], ◌∷◌, ◌++◌, length, get_or, set, map, ap, sym, ◌∙◌, refl, arith, subst, inl, inr}
use Rattle.std.specs.Prelude.{Contains, ◌⊎◌}
use Rattle.std.proofs.lemmas.List.Elements.{Contains-append_left, Contains-append_right, Contains-append_cases}
use Rattle.ato_base.specs.Classes.{Parts, no_point, related, other, Classes, no_class, a_class}

-- ---- elements

pub only : {P : Type 0} (p a : P) → Contains (p ∷ []) a → a ≡ p
only p a (zero, h, e) = sym e
only p a (suc k, h, e) = absurd (omega arith)

pub first : {P : Type 0} (p : P) (xs : List P) → Contains (p ∷ xs) p
first p xs = (0, omega arith, refl)

pub later : {P : Type 0} (p a : P) (xs : List P) → Contains xs a → Contains (p ∷ xs) a
later p a xs h = Contains-append_right (p ∷ []) xs a h

-- an element is the first one or a later one
pub cases : {P : Type 0} (p a : P) (xs : List P) → Contains (p ∷ xs) a → (a ≡ p) ⊎ Contains xs a
cases p a xs h = elim (Contains-append_cases (p ∷ []) xs a h) [ inl k ↦ inl (only p a k) | inr k ↦ inr k ]

pub nowhere : {P : Type 0} (a : P) → Contains [] a → ⊥
nowhere a (k, h, e) = absurd (omega arith)

-- the class at a place
pub in_range : {P : Type 0} (classes : List (List P)) (n : ℕ) → n < length classes → get_or classes n (get_or classes n []) ≡ get_or classes n []
in_range [] n h = absurd (omega arith)
in_range (c ∷ cs) zero h = refl
in_range (c ∷ cs) (suc n) h = in_range cs n (omega arith)

module _ {P : Type 0} (R : P → P → Type 0) where
  -- ---- the parts of a list

  pub parts_ins : {p : P} {xs ins outs : List P} → Parts R p xs ins outs → (a : P) → Contains ins a → R p a × Contains xs a
  parts_ins no_point a h = absurd (nowhere a h)
  parts_ins {p} (related {x} {xs} {ins} {outs} r rest) a h = elim (cases x a ins h) [ inl e ↦ (subst (R p) (sym e) r, subst (Contains (x ∷ xs)) (sym e) (first x xs)) | inr k ↦ let more = parts_ins rest a k in (more.0, later x a xs more.1) ]
  parts_ins (other {x} {xs} {ins} {outs} n rest) a h = let more = parts_ins rest a h in (more.0, later x a xs more.1)

  pub parts_outs : {p : P} {xs ins outs : List P} → Parts R p xs ins outs → (a : P) → Contains outs a → (R p a → ⊥) × Contains xs a
  parts_outs no_point a h = absurd (nowhere a h)
  parts_outs (related {x} {xs} {ins} {outs} r rest) a h = let more = parts_outs rest a h in (more.0, later x a xs more.1)
  parts_outs {p} (other {x} {xs} {ins} {outs} n rest) a h = elim (cases x a outs h) [ inl e ↦ (λ r. n (subst (R p) e r), subst (Contains (x ∷ xs)) (sym e) (first x xs)) | inr k ↦ let more = parts_outs rest a k in (more.0, later x a xs more.1) ]

  pub parts_all : {p : P} {xs ins outs : List P} → Parts R p xs ins outs → (a : P) → Contains xs a → Contains ins a ⊎ Contains outs a
  parts_all no_point a h = absurd (nowhere a h)
  parts_all (related {x} {xs} {ins} {outs} r rest) a h = elim (cases x a xs h) [
    | inl e ↦ inl (subst (Contains (x ∷ ins)) (sym e) (first x ins))
    | inr k ↦ elim (parts_all rest a k) [ inl m ↦ inl (later x a ins m) | inr m ↦ inr m ]
  ]
  parts_all (other {x} {xs} {ins} {outs} n rest) a h = elim (cases x a xs h) [
    | inl e ↦ inr (subst (Contains (x ∷ outs)) (sym e) (first x outs))
    | inr k ↦ elim (parts_all rest a k) [ inl m ↦ inl m | inr m ↦ inr (later x a outs m) ]
  ]

  -- the points of the first class are related to its first point
  head_related : ((p : P) → R p p) → {p : P} {xs ins outs : List P} → Parts R p xs ins outs → (x : P) → Contains (p ∷ ins) x → R p x
  head_related self {p} {xs} {ins} parts x m = elim (cases p x ins m) [ inl same ↦ subst (R p) (sym same) (self p) | inr i ↦ (parts_ins parts x i).0 ]

  -- one more point
  pub parts_related : {p : P} {xs ins outs : List P} → Parts R p xs ins outs → (y : P) → R p y → Parts R p (xs ++ y ∷ []) (ins ++ y ∷ []) outs
  parts_related no_point y h = related h no_point
  parts_related (related r rest) y h = related r (parts_related rest y h)
  parts_related (other n rest) y h = other n (parts_related rest y h)

  pub parts_other : {p : P} {xs ins outs : List P} → Parts R p xs ins outs → (y : P) → (R p y → ⊥) → Parts R p (xs ++ y ∷ []) ins (outs ++ y ∷ [])
  parts_other no_point y h = other h no_point
  parts_other (related r rest) y h = related r (parts_other rest y h)
  parts_other (other n rest) y h = other n (parts_other rest y h)

  -- ---- the classes

  -- the points of a class are among the points
  pub class_points : {xs : List P} {classes : List (List P)} → Classes R xs classes → (c : List P) (a : P) → Contains classes c → Contains c a → Contains xs a
  class_points no_class c a h k = absurd (nowhere c h)
  class_points (a_class {p} {xs} {ins} {outs} {classes} parts rest) c a h k = elim (cases (p ∷ ins) c classes h) [
    | inl e ↦ elim (cases p a ins (subst (λ l. Contains l a) e k)) [ inl same ↦ subst (Contains (p ∷ xs)) (sym same) (first p xs) | inr m ↦ later p a xs (parts_ins parts a m).1 ]
    | inr m ↦ later p a xs (parts_outs parts a (class_points rest c a m k)).1
  ]

  -- Two points of a class are related.
  pub class_related : ((p : P) → R p p) → ((p q : P) → R p q → R q p) → ((p q r : P) → R p q → R q r → R p r)
      → {xs : List P} {classes : List (List P)} → Classes R xs classes → (c : List P) (a b : P) → Contains classes c → Contains c a → Contains c b → R a b
  class_related self flip chain no_class c a b h j k = absurd (nowhere c h)
  class_related self flip chain (a_class {p} {xs} {ins} {outs} {classes} parts rest) c a b h j k = elim (cases (p ∷ ins) c classes h) [
    | inl e ↦ chain a p b (flip p a (head_related self parts a (subst (λ l. Contains l a) e j))) (head_related self parts b (subst (λ l. Contains l b) e k))
    | inr m ↦ class_related self flip chain rest c a b m j k
  ]

  -- Two points that are related share a class.
  pub class_shared : ((p : P) → R p p) → ((p q : P) → R p q → R q p) → ((p q r : P) → R p q → R q r → R p r)
      → {xs : List P} {classes : List (List P)} → Classes R xs classes → (a b : P) → Contains xs a → Contains xs b → R a b → (c : List P) × Contains classes c × Contains c a × Contains c b
  class_shared self flip chain no_class a b h k r = absurd (nowhere a h)
  class_shared self flip chain (a_class {p} {xs} {ins} {outs} {classes} parts rest) a b h k r = elim (place a h) [
    | inl i ↦ elim (place b k) [
      | inl j ↦ (p ∷ ins, first (p ∷ ins) classes, i.0, j.0)
      | inr j ↦ absurd (j.0 (chain p a b i.1 r))
    ]
    | inr i ↦ elim (place b k) [
      | inl j ↦ absurd (i.0 (chain p b a j.1 (flip a b r)))
      | inr j ↦ let found = class_shared self flip chain rest a b i.1 j.1 r in (found.0, later (p ∷ ins) found.0 classes found.1, found.2, found.3)
    ]
  ]
    where
      place : (x : P) → Contains (p ∷ xs) x → (Contains (p ∷ ins) x × R p x) ⊎ ((R p x → ⊥) × Contains outs x)
      place x m = elim (cases p x xs m) [
        | inl same ↦ inl (subst (Contains (p ∷ ins)) (sym same) (first p ins), subst (R p) (sym same) (self p))
        | inr n ↦ elim (parts_all parts x n) [ inl i ↦ inl (later p x ins i, (parts_ins parts x i).0) | inr o ↦ inr ((parts_outs parts x o).0, o) ]
      ]

  -- A point stands in one class only.
  pub class_once : ((p : P) → R p p) → {xs : List P} {classes : List (List P)} → Classes R xs classes → (j k : ℕ) (a : P) → j < length classes → k < length classes
      → Contains (get_or classes j []) a → Contains (get_or classes k []) a → j ≡ k
  class_once self no_class j k a l m h i = absurd (omega arith)
  class_once self (a_class parts rest) zero zero a l m h i = refl
  class_once self (a_class {p} {xs} {ins} {outs} {classes} parts rest) zero (suc k) a l m h i =
      absurd ((parts_outs parts a (class_points rest (get_or classes k []) a (k, omega arith, in_range classes k (omega arith)) i)).0 (head_related self parts a h))
  class_once self (a_class {p} {xs} {ins} {outs} {classes} parts rest) (suc j) zero a l m h i =
      absurd ((parts_outs parts a (class_points rest (get_or classes j []) a (j, omega arith, in_range classes j (omega arith)) h)).0 (head_related self parts a i))
  class_once self (a_class parts rest) (suc j) (suc k) a l m h i = ap suc (class_once self rest j k a (omega arith) (omega arith) h i)

  -- ---- one more point, behind the others

  -- A point that is related to none before it is a class of its own.
  pub classes_new : {xs : List P} {classes : List (List P)} → Classes R xs classes → (y : P) → ((x : P) → Contains xs x → R x y → ⊥) → Classes R (xs ++ y ∷ []) (classes ++ (y ∷ []) ∷ [])
  classes_new no_class y none = a_class no_point no_class
  classes_new (a_class {p} {xs} {ins} {outs} parts rest) y none =
      a_class (parts_other parts y (none p (first p xs))) (classes_new rest y (λ x m r. none x (later p x xs (parts_outs parts x m).1) r))

  -- A point that is related to one of a class joins this class.
  pub classes_more : ((p : P) → R p p) → ((p q : P) → R p q → R q p) → ((p q r : P) → R p q → R q r → R p r)
      → {xs : List P} {classes : List (List P)} → Classes R xs classes → (k : ℕ) (x y : P) → k < length classes → Contains (get_or classes k []) x → R x y
      → Classes R (xs ++ y ∷ []) (set classes k (get_or classes k [] ++ y ∷ []))
  classes_more self flip chain no_class k x y h m r = absurd (omega arith)
  classes_more self flip chain (a_class {p} {xs} {ins} {outs} parts rest) zero x y h m r = a_class (parts_related parts y (chain p x y (head_related self parts x m) r)) rest
  classes_more self flip chain (a_class {p} {xs} {ins} {outs} {classes} parts rest) (suc k) x y h m r =
      let out : Contains outs x = class_points rest (get_or classes k []) x (k, omega arith, in_range classes k (omega arith)) m in
      a_class (parts_other parts y (λ s. (parts_outs parts x out).0 (chain p y x s (flip x y r)))) (classes_more self flip chain rest k x y (omega arith) m r)

-- ---- other points, another relation

module _ {P : Type 0} (R S : P → P → Type 0) where
  parts_same : {p : P} {xs ins outs : List P} → Parts R p xs ins outs → ((x : P) → Contains xs x → (R p x → S p x) × (S p x → R p x)) → Parts S p xs ins outs
  parts_same no_point same = no_point
  parts_same (related {x} {xs} r rest) same = related ((same x (first x xs)).0 r) (parts_same rest (λ y m. same y (later x y xs m)))
  parts_same (other {x} {xs} n rest) same = other (λ s. n ((same x (first x xs)).1 s)) (parts_same rest (λ y m. same y (later x y xs m)))

  -- The classes by a relation that is the same on the points are the same.
  pub classes_same : {xs : List P} {classes : List (List P)} → Classes R xs classes → ((x y : P) → Contains xs x → Contains xs y → (R x y → S x y) × (S x y → R x y)) → Classes S xs classes
  classes_same no_class same = no_class
  classes_same (a_class {p} {xs} {ins} {outs} parts rest) same =
      a_class (parts_same parts (λ x m. same p x (first p xs) (later p x xs m)))
      (classes_same rest (λ x y m n. same x y (later p x xs (parts_outs R parts x m).1) (later p y xs (parts_outs R parts y n).1)))

module _ {P Q : Type 0} (f : P → Q) (R : Q → Q → Type 0) where
  parts_map : {p : P} {xs ins outs : List P} → Parts (λ a b. R (f a) (f b)) p xs ins outs → Parts R (f p) (map f xs) (map f ins) (map f outs)
  parts_map no_point = no_point
  parts_map (related r rest) = related r (parts_map rest)
  parts_map (other n rest) = other n (parts_map rest)

  -- The classes of what points stand for.
  pub classes_map : {xs : List P} {classes : List (List P)} → Classes (λ a b. R (f a) (f b)) xs classes → Classes R (map f xs) (map (map f) classes)
  classes_map no_class = no_class
  classes_map (a_class parts rest) = a_class (parts_map parts) (classes_map rest)
