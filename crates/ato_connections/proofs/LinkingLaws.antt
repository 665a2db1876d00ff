-- How what is joined grows, step by step.
use Rattle.std.proofs.Common.{Bool, true, false, Result, Ok, Err, OnOk, ◌≤◌, ◌+◌, ◌-◌, add-one, arith, ◌≡◌, ℕ, ◌<◌, zero, suc, List, [], ◌∷◌, ◌++◌, length, map, get_or, take, Some, None, refl, ap, sym, ◌∙◌, subst, inl, inr}
use Rattle.std.specs.Prelude.{◌↔◌, ◌⊎◌, if◌then◌else◌, Contains, slice_get}
use Rattle.std.specs.Option.{option_and_then, option_map}
use Rattle.std.specs.List.{flat_map}
use Rattle.std.proofs.lemmas.List.{append-nil, take_all}
use Rattle.std.proofs.lemmas.Option.{none-some, option_and_then_some, slice_get-get_or, slice_get-map, slice_get_within}
use Rattle.std.proofs.lemmas.List.Elements.{Contains-append_left, Contains-push, Contains-push_cases}
use Rattle.std.proofs.lemmas.Grind.{flat_map-append}
use Rattle.ato_base.proofs.ClassLaws.{nowhere}
use Rattle.ato_files.specs.Lists.{Among, here, there}
use Rattle.ato_files.proofs.FileLaws.{among_left, among_right}
use Rattle.ato_files.specs.declared.program.SourceFile.{SourceFile}
use Rattle.ato_instance_tree.specs.declared.tree.Node.{Node}
use Rattle.ato_files.specs.Blocks.{blocks_of}
use Rattle.ato_files.specs.Lineages.{descends}
use Rattle.ato_links.specs.Links.{Electrical}
use Rattle.ato_connections.specs.declared.links.Links.{Links}
use Rattle.ato_connections.specs.NodeLinks.{NodeLink, join, clash, beside, elder, elder_links, elder_of, end_links, interface_at, member_side, members_links, names_in, pair_links, side_links}
use Rattle.ato_connections.specs.declared.sides.Side.{Side}
use Rattle.ato_connections.specs.declared.sides.Side.TheVariants as side
use Rattle.ato_connections.specs.Linking.{Has, Holds, IsBelow}

-- ---- lists

pub among_either : {X : Type 0} {x : X} (xs : List X) {ys : List X} → Among x (xs ++ ys) → Among x xs ⊎ Among x ys
among_either [] a = inr a
among_either (y ∷ xs) here = inl here
among_either (y ∷ xs) (there a) = elim (among_either xs a) [ inl b ↦ inl (there b) | inr b ↦ inr b ]

-- ---- one step behind others

pub both_ways : {P Q R : Type 0} → P ↔ Q → Q ↔ R → P ↔ R
both_ways e f = (λ p. f.0 (e.0 p), λ r. e.1 (f.1 r))

pub no_more : {P : Type 0} {X : Type 0} {x : X} → P ↔ (P ⊎ Among x [])
no_more = (λ p. inl p, λ s. elim s [ inl p ↦ p | inr a ↦ elim a [ ] ])

pub more : {P Q R : Type 0} {X : Type 0} {x : X} (xs ys : List X) → Q ↔ (P ⊎ Among x xs) → R ↔ (Q ⊎ Among x ys) → R ↔ (P ⊎ Among x (xs ++ ys))
more xs ys e f = (
  λ r. elim (f.0 r) [ inl q ↦ elim (e.0 q) [ inl p ↦ inl p | inr a ↦ inr (among_left ys a) ] | inr b ↦ inr (among_right xs b) ],
  λ s. elim s [ inl p ↦ f.1 (inl (e.1 (inl p))) | inr a ↦ elim (among_either xs a) [ inl b ↦ f.1 (inl (e.1 (inr b))) | inr b ↦ f.1 (inr b) ] ],
)

-- The same where what is below grows.
pub more_below : {G Q R B C A : Type 0} → Q ↔ (G ⊎ B) → R ↔ (Q ⊎ A) → C ↔ (B ⊎ A) → R ↔ (G ⊎ C)
more_below e f g = (
  λ r. elim (f.0 r) [ inl q ↦ elim (e.0 q) [ inl h ↦ inl h | inr b ↦ inr (g.1 (inl b)) ] | inr a ↦ inr (g.1 (inr a)) ],
  λ s. elim s [ inl h ↦ f.1 (inl (e.1 (inl h))) | inr c ↦ elim (g.0 c) [ inl b ↦ f.1 (inl (e.1 (inr b))) | inr a ↦ f.1 (inr a) ] ],
)

-- What is added to what is joined is added to what is held.
more_joined : {G H B A : Type 0} → H ↔ (G ⊎ A) → (H ⊎ B) ↔ ((G ⊎ B) ⊎ A)
more_joined e = (
  λ s. elim s [ inl h ↦ elim (e.0 h) [ inl g ↦ inl (inl g) | inr a ↦ inr a ] | inr b ↦ inl (inr b) ],
  λ s. elim s [ inl t ↦ elim t [ inl g ↦ inl (e.1 (inl g)) | inr b ↦ inr b ] | inr a ↦ inl (e.1 (inr a)) ],
)

-- The same for what is below.
more_put_off : {G B C A : Type 0} → C ↔ (B ⊎ A) → (G ⊎ C) ↔ ((G ⊎ B) ⊎ A)
more_put_off e = (
  λ s. elim s [ inl g ↦ inl (inl g) | inr c ↦ elim (e.0 c) [ inl b ↦ inl (inr b) | inr a ↦ inr a ] ],
  λ s. elim s [ inl t ↦ elim t [ inl g ↦ inl g | inr b ↦ inr (e.1 (inl b)) ] | inr a ↦ inr (e.1 (inr a)) ],
)

-- ---- what two sides add

only_join : {x y p q : ℕ} → Among (join x y) (join p q ∷ []) → ◌≡◌ {A = ℕ × ℕ} (p, q) (x, y)
only_join here = refl
only_join (there a) = elim a [ ]

no_clash : {p q : ℕ} → Among clash (join p q ∷ []) → ⊥
no_clash (there a) = elim a [ ]

no_join : {p q : ℕ} → Among (join p q) (clash ∷ []) → ⊥
no_join (there a) = elim a [ ]

has_pushed : (l m : Links) (p q : ℕ) (link : NodeLink) → m.joins ≡ l.joins ++ (p, q) ∷ [] → m.clash ≡ l.clash
    → Has m link ↔ (Has l link ⊎ Among link (join p q ∷ []))
has_pushed l m p q (join x y) e f = (
  λ h. elim (Contains-push_cases l.joins (p, q) (x, y) (subst (λ js. Contains js (x, y)) e h)) [
    | inl k ↦ inl k
    | inr same ↦ inr (subst (λ (z : ℕ × ℕ). Among (join x y) (join z.0 z.1 ∷ [])) (sym same) here)
  ],
  λ s. subst (λ js. Contains js (x, y)) (sym e) (elim s [
    | inl k ↦ Contains-append_left l.joins ((p, q) ∷ []) (x, y) k
    | inr a ↦ subst (λ z. Contains (l.joins ++ (p, q) ∷ []) z) (only_join a) (Contains-push l.joins (p, q))
  ]),
)
has_pushed l m p q clash e f = (λ h. inl (sym f ∙ h), λ s. elim s [ inl h ↦ f ∙ h | inr a ↦ absurd (no_clash a) ])

has_clash : (l m : Links) (link : NodeLink) → m.joins ≡ l.joins → m.clash ≡ true → Has m link ↔ (Has l link ⊎ Among link (clash ∷ []))
has_clash l m (join x y) e f = (
  λ h. inl (subst (λ js. Contains js (x, y)) e h),
  λ s. elim s [ inl k ↦ subst (λ js. Contains js (x, y)) (sym e) k | inr a ↦ absurd (no_join a) ],
)
has_clash l m clash e f = (λ h. inr here, λ s. f)

below_pushed : (deeper : ℕ → ℕ → List NodeLink) (below : List (ℕ × ℕ)) (p q : ℕ) (link : NodeLink)
    → IsBelow deeper (below ++ (p, q) ∷ []) link ↔ (IsBelow deeper below link ⊎ Among link (deeper p q))
below_pushed deeper below p q link = (
  λ b. elim (Contains-push_cases below (p, q) b.pair b.is) [
    | inl k ↦ inl (record { pair = b.pair; is = k; has = b.has })
    | inr same ↦ inr (subst (λ (z : ℕ × ℕ). Among link (deeper z.0 z.1)) (sym same) b.has)
  ],
  λ s. elim s [
    | inl b ↦ record { pair = b.pair; is = Contains-append_left below ((p, q) ∷ []) b.pair b.is; has = b.has }
    | inr a ↦ record { pair = (p, q); is = Contains-push below (p, q); has = a }
  ],
)

-- Two points, or two parameters.
pub pushed : (deeper : ℕ → ℕ → List NodeLink) (l m : Links) (below : List (ℕ × ℕ)) (p q : ℕ) (link : NodeLink)
    → m.joins ≡ l.joins ++ (p, q) ∷ [] → m.clash ≡ l.clash
    → Holds deeper m below link ↔ (Holds deeper l below link ⊎ Among link (join p q ∷ []))
pushed deeper l m below p q link e f = more_joined (has_pushed l m p q link e f)

-- Two sides that cannot be joined.
pub clashed : (deeper : ℕ → ℕ → List NodeLink) (l m : Links) (below : List (ℕ × ℕ)) (link : NodeLink) → m.joins ≡ l.joins → m.clash ≡ true
    → Holds deeper m below link ↔ (Holds deeper l below link ⊎ Among link (clash ∷ []))
clashed deeper l m below link e f = more_joined (has_clash l m link e f)

-- Two instances.
pub put_off : (deeper : ℕ → ℕ → List NodeLink) (l : Links) (below more : List (ℕ × ℕ)) (p q : ℕ) (link : NodeLink) → more ≡ below ++ (p, q) ∷ []
    → Holds deeper l more link ↔ (Holds deeper l below link ⊎ Among link (deeper p q))
put_off deeper l below more p q link e = subst (λ xs. Holds deeper l xs link ↔ (Holds deeper l below link ⊎ Among link (deeper p q))) (sym e)
    (more_put_off (below_pushed deeper below p q link))

-- ---- sides

as_links : {H G : Type 0} {link : NodeLink} {xs ys : List NodeLink} → ys ≡ xs → H ↔ (G ⊎ Among link xs) → H ↔ (G ⊎ Among link ys)
as_links {H} {G} {link} e f = subst (λ zs. H ↔ (G ⊎ Among link zs)) (sym e) f

sides_are : (deeper : ℕ → ℕ → List NodeLink) (one other a b : Side) → one ≡ a → other ≡ b → side_links deeper one other ≡ side_links deeper a b
sides_are deeper one other a b e f = cc

abbrev pub Adds : Links → Links → List (ℕ × ℕ) → List (ℕ × ℕ) → Side → Side → Type 0
Adds l m below more one other = (deeper : ℕ → ℕ → List NodeLink) (link : NodeLink)
    → Holds deeper m more link ↔ (Holds deeper l below link ⊎ Among link (side_links deeper one other))

pub two_points : (l m : Links) (below : List (ℕ × ℕ)) (one other : Side) (p q : ℕ) → one ≡ side.Point p → other ≡ side.Point q
    → m.joins ≡ l.joins ++ (p, q) ∷ [] → m.clash ≡ l.clash → Adds l m below below one other
two_points l m below one other p q is_one is_other e f deeper link =
    as_links (sides_are deeper one other (side.Point p) (side.Point q) is_one is_other) (pushed deeper l m below p q link e f)

pub two_quantities : (l m : Links) (below : List (ℕ × ℕ)) (one other : Side) (p q : ℕ) → one ≡ side.Quantity p → other ≡ side.Quantity q
    → m.joins ≡ l.joins ++ (p, q) ∷ [] → m.clash ≡ l.clash → Adds l m below below one other
two_quantities l m below one other p q is_one is_other e f deeper link =
    as_links (sides_are deeper one other (side.Quantity p) (side.Quantity q) is_one is_other) (pushed deeper l m below p q link e f)

pub two_instances : (l : Links) (below more : List (ℕ × ℕ)) (one other : Side) (p q : ℕ) → one ≡ side.Inside p → other ≡ side.Inside q
    → more ≡ below ++ (p, q) ∷ [] → Adds l l below more one other
two_instances l below more one other p q is_one is_other e deeper link =
    as_links (sides_are deeper one other (side.Inside p) (side.Inside q) is_one is_other) (put_off deeper l below more p q link e)

-- The two sides are of no one kind.
abbrev pub AreApart : Side → Side → Type 0
AreApart one other = (deeper : ℕ → ℕ → List NodeLink) → side_links deeper one other ≡ clash ∷ []

pub two_apart : (l m : Links) (below : List (ℕ × ℕ)) (one other : Side) → AreApart one other
    → m.joins ≡ l.joins → m.clash ≡ true → Adds l m below below one other
two_apart l m below one other apart e f deeper link = as_links (apart deeper) (clashed deeper l m below link e f)

beside_point : (p : ℕ) (other : Side) → ((q : ℕ) → other ≡ side.Point q → ⊥) → AreApart (side.Point p) other
beside_point p (side.Point q) n deeper = absurd (n q refl)
beside_point p (side.Quantity q) n deeper = refl
beside_point p (side.Inside q) n deeper = refl
beside_point p side.Nothing n deeper = refl

beside_quantity : (p : ℕ) (other : Side) → ((q : ℕ) → other ≡ side.Quantity q → ⊥) → AreApart (side.Quantity p) other
beside_quantity p (side.Point q) n deeper = refl
beside_quantity p (side.Quantity q) n deeper = absurd (n q refl)
beside_quantity p (side.Inside q) n deeper = refl
beside_quantity p side.Nothing n deeper = refl

beside_inside : (p : ℕ) (other : Side) → ((q : ℕ) → other ≡ side.Inside q → ⊥) → AreApart (side.Inside p) other
beside_inside p (side.Point q) n deeper = refl
beside_inside p (side.Quantity q) n deeper = refl
beside_inside p (side.Inside q) n deeper = absurd (n q refl)
beside_inside p side.Nothing n deeper = refl

pub apart_point : (one other : Side) (p : ℕ) → one ≡ side.Point p → ((q : ℕ) → other ≡ side.Point q → ⊥) → AreApart one other
apart_point one other p e n = subst (λ x. AreApart x other) (sym e) (beside_point p other n)

pub apart_quantity : (one other : Side) (p : ℕ) → one ≡ side.Quantity p → ((q : ℕ) → other ≡ side.Quantity q → ⊥) → AreApart one other
apart_quantity one other p e n = subst (λ x. AreApart x other) (sym e) (beside_quantity p other n)

pub apart_inside : (one other : Side) (p : ℕ) → one ≡ side.Inside p → ((q : ℕ) → other ≡ side.Inside q → ⊥) → AreApart one other
apart_inside one other p e n = subst (λ x. AreApart x other) (sym e) (beside_inside p other n)

pub apart_nothing : (one other : Side) → one ≡ side.Nothing → AreApart one other
apart_nothing one other e = subst (λ x. AreApart x other) (sym e) (λ deeper. refl)

pub where_ok : {E P Q : Type 0} (r : Result (Unit {0}) E) → (P → Q) → OnOk r P → OnOk r Q
where_ok (Ok x) f p = f p
where_ok (Err e) f p = tt

pub where_both : {E P Q R : Type 0} (r : Result (Unit {0}) E) → (P → Q → R) → OnOk r P → OnOk r Q → OnOk r R
where_both (Ok x) f p q = f p q
where_both (Err e) f p q = tt

-- ---- items so far

some_same : {X : Type 0} (x y : X) → Some x ≡ Some y → x ≡ y
some_same x y e = cc

pub take_next : {X : Type 0} (xs : List X) (n : ℕ) (x : X) → slice_get xs n ≡ Some x → take (suc n) xs ≡ take n xs ++ x ∷ []
take_next [] n x e = absurd (none-some x e)
take_next (y ∷ xs) zero x e = ap (λ z. z ∷ []) (some_same y x e)
take_next (y ∷ xs) (suc n) x e = ap (λ z. y ∷ z) (take_next xs n x e)

-- What the first items give, and what the next one does.
pub flat_map_next : {X A : Type 0} (f : X → List A) (xs : List X) (n : ℕ) (x : X) → slice_get xs n ≡ Some x
    → flat_map f (take (suc n) xs) ≡ flat_map f (take n xs) ++ f x
flat_map_next f xs n x e = ap (flat_map f) (take_next xs n x e)
    ∙ flat_map-append f (take n xs) (x ∷ []) ∙ ap (λ ys. flat_map f (take n xs) ++ ys) (append-nil (f x))

-- ---- members

one_of : (b d : Bool) (p q one : ℕ) → (if b then Some p else (if d then Some q else None)) ≡ Some one → (one ≡ p) ⊎ (one ≡ q)
one_of true d p q one e = inl (some_same one p (sym e))
one_of false true p q one e = inr (some_same one q (sym e))
one_of false false p q one e = absurd (none-some one e)

typed_within : (ns : List Node) (number type : ℕ) → interface_at ns number ≡ Some type → number < length ns
typed_within ns number type e = option_and_then_some _ (slice_get ns number) type e (λ n is _. slice_get_within ns number n is)

-- The elder one of two instances is a node.
pub elder_within : (files : List SourceFile) (ns : List Node) (p q one : ℕ) → Some one ≡ elder files ns p q → one < length ns
elder_within files ns p q one e = option_and_then_some
    (λ a. option_and_then (elder_of files p q a) (interface_at ns q)) (interface_at ns p) one (sym e) (λ a is_a f.
    option_and_then_some (elder_of files p q a) (interface_at ns q) one f (λ b is_b g.
    elim (one_of (descends files b a) (descends files a b) p q one g) [
      | inl k ↦ subst (λ x. x < length ns) (sym k) (typed_within ns p a is_a)
      | inr k ↦ subst (λ x. x < length ns) (sym k) (typed_within ns q b is_b)
    ]))

pub none_elder : (files : List SourceFile) (ns : List Node) (deeper : ℕ → ℕ → List NodeLink) (l m : Links) (below : List (ℕ × ℕ)) (p q : ℕ) (link : NodeLink)
    → None ≡ elder files ns p q → m.joins ≡ l.joins → m.clash ≡ true
    → Holds deeper m below link ↔ (Holds deeper l below link ⊎ Among link (members_links files ns deeper p q))
none_elder files ns deeper l m below p q link e f g = as_links (ap (elder_links ns deeper p q) (sym e)) (clashed deeper l m below link f g)

abbrev pub text_links : List Node → (ℕ → ℕ → List NodeLink) → ℕ → ℕ → List ℕ → List NodeLink
text_links ns deeper p q text = side_links deeper (member_side ns p text) (member_side ns q text)

-- One more member.
pub member_next : {P Q R : Type 0} (ns : List Node) (deeper : ℕ → ℕ → List NodeLink) (p q : ℕ)
    (texts : List (List ℕ)) (n : ℕ) (text : List ℕ) (one other : Side)
    (link : NodeLink) → slice_get texts n ≡ Some text → one ≡ member_side ns p text → other ≡ member_side ns q text
    → Q ↔ (P ⊎ Among link (flat_map (text_links ns deeper p q) (take n texts))) → R ↔ (Q ⊎ Among link (side_links deeper one other))
    → R ↔ (P ⊎ Among link (flat_map (text_links ns deeper p q) (take (n + 1) texts)))
member_next ns deeper p q texts n text one other link is e f g h = as_links
    (ap (λ k. flat_map (text_links ns deeper p q) (take k texts)) (add-one n) ∙ flat_map_next (text_links ns deeper p q) texts n text is)
    (more (flat_map (text_links ns deeper p q) (take n texts)) (text_links ns deeper p q text) g
    (as_links (sym (sides_are deeper one other (member_side ns p text) (member_side ns q text) e f)) h))

-- All members.
pub members_end : {P R : Type 0} (files : List SourceFile) (ns : List Node) (deeper : ℕ → ℕ → List NodeLink) (p q one : ℕ) (texts : List (List ℕ)) (n : ℕ)
    (link : NodeLink) → Some one ≡ elder files ns p q → texts ≡ names_in ns one → length texts ≤ n
    → R ↔ (P ⊎ Among link (flat_map (text_links ns deeper p q) (take n texts))) → R ↔ (P ⊎ Among link (members_links files ns deeper p q))
members_end files ns deeper p q one texts n link e f le h = as_links
    (ap (elder_links ns deeper p q) (sym e) ∙ ap (flat_map (text_links ns deeper p q)) (sym f ∙ sym (take_all n texts le))) h

-- An item of a list in other words.
pub item_at : {X Y : Type 0} (f : X → Y) (xs : List X) (i : ℕ) (d : X) → i < length xs → slice_get (map f xs) i ≡ Some (f (get_or xs i d))
item_at f xs i d lt = slice_get-map f xs i ∙ ap (option_map f) (slice_get-get_or xs i d lt)

-- ---- levels

-- One more pair of a level.
pub level_next : {G Q R : Type 0} (deeper : ℕ → ℕ → List NodeLink) (pairs : List (ℕ × ℕ)) (n p q : ℕ) (link : NodeLink) → slice_get pairs n ≡ Some (p, q)
    → Q ↔ (G ⊎ IsBelow deeper (take n pairs) link) → R ↔ (Q ⊎ Among link (deeper p q)) → R ↔ (G ⊎ IsBelow deeper (take (n + 1) pairs) link)
level_next deeper pairs n p q link is e f = more_below e f
    (subst (λ xs. IsBelow deeper xs link ↔ (IsBelow deeper (take n pairs) link ⊎ Among link (deeper p q)))
    (sym (ap (λ k. take k pairs) (add-one n) ∙ take_next pairs n (p, q) is))
    (below_pushed deeper (take n pairs) p q link))

-- All pairs of a level.
pub level_end : {G R : Type 0} (deeper : ℕ → ℕ → List NodeLink) (pairs : List (ℕ × ℕ)) (n : ℕ) (link : NodeLink) → length pairs ≤ n
    → R ↔ (G ⊎ IsBelow deeper (take n pairs) link) → R ↔ (G ⊎ IsBelow deeper pairs link)
level_end {G} {R} deeper pairs n link le e = subst (λ xs. R ↔ (G ⊎ IsBelow deeper xs link)) (take_all n pairs le) e

none_below : (deeper : ℕ → ℕ → List NodeLink) (below : List (ℕ × ℕ)) (link : NodeLink) → below ≡ [] → IsBelow deeper below link → ⊥
none_below deeper below link e b = nowhere b.pair (subst (λ xs. Contains xs b.pair) e b.is)

only_left : {G B : Type 0} → (B → ⊥) → G ↔ (G ⊎ B)
only_left n = (λ g. inl g, λ s. elim s [ inl g ↦ g | inr b ↦ absurd (n b) ])

-- Where nothing is below, what is joined is all.
pub all_joined : (deeper : ℕ → ℕ → List NodeLink) (l : Links) (below : List (ℕ × ℕ)) (link : NodeLink) → below ≡ [] → Has l link ↔ Holds deeper l below link
all_joined deeper l below link e = only_left (none_below deeper below link e)

-- At the last level nothing is below.
pub last_level : (files : List SourceFile) (ns : List Node) (l : Links) (below : List (ℕ × ℕ)) (link : NodeLink)
    → Has l link ↔ Holds (pair_links files ns zero) l below link
last_level files ns l below link = only_left (λ (b : IsBelow (pair_links files ns zero) below link). elim b.has [ ])

-- The first level.
pub levels_begin : (files : List SourceFile) (ns : List Node) (l m : Links) (below given passed : List (ℕ × ℕ)) (left count : ℕ) (link : NodeLink)
    → passed ≡ given → left ≡ count
    → ((depth : ℕ) (link : NodeLink) → Holds (pair_links files ns depth) m below link ↔ Holds (pair_links files ns (suc depth)) l passed link)
    → Holds (pair_links files ns left) m below link ↔ Holds (pair_links files ns (suc count)) l given link
levels_begin files ns l m below given passed left count link e f level =
    subst (λ k. Holds (pair_links files ns left) m below link ↔ Holds (pair_links files ns (suc k)) l given link) f
    (subst (λ xs. Holds (pair_links files ns left) m below link ↔ Holds (pair_links files ns (suc left)) l xs link) e (level left link))

-- The next level.
pub levels_next : {G : Type 0} (files : List SourceFile) (ns : List Node) (l m : Links) (below given passed : List (ℕ × ℕ)) (left : ℕ) (link : NodeLink)
    → passed ≡ given → 0 < left
    → ((depth : ℕ) (link : NodeLink) → Holds (pair_links files ns depth) m below link ↔ Holds (pair_links files ns (suc depth)) l passed link)
    → Holds (pair_links files ns left) l given link ↔ G
    → Holds (pair_links files ns (left - 1)) m below link ↔ G
levels_next files ns l m below given passed left link e some level h = both_ways
    (subst (λ k. Holds (pair_links files ns (left - 1)) m below link ↔ Holds (pair_links files ns k) l given link) (suc_less left some)
    (subst (λ xs. Holds (pair_links files ns (left - 1)) m below link ↔ Holds (pair_links files ns (suc (left - 1))) l xs link) e (level (left - 1) link)))
    h
  where
    suc_less : (n : ℕ) → 0 < n → suc (n - 1) ≡ n
    suc_less n lt = omega arith

-- ---- ends

pub ends_joined : (files : List SourceFile) (names : List (List ℕ)) (ns : List Node) (library : Electrical) (l k m : Links) (start below : List (ℕ × ℕ))
    (one other x y : Side) (count : ℕ) (link : NodeLink)
    → start ≡ [] → count ≡ length (blocks_of files) → x ≡ beside files names ns library other one → y ≡ beside files names ns library one other
    → ((deeper : ℕ → ℕ → List NodeLink) (link : NodeLink) → Holds deeper k below link ↔ (Holds deeper l start link ⊎ Among link (side_links deeper x y)))
    → Has m link ↔ Holds (pair_links files ns (suc count)) k below link
    → Has m link ↔ (Has l link ⊎ Among link (end_links files names ns library one other))
ends_joined files names ns library l k m start below one other x y count link e f is_x is_y sides pairs = as_links
    (sym (ap (λ n. side_links (pair_links files ns (suc n)) x y) f
    ∙ sides_are (pair_links files ns (suc (length (blocks_of files)))) x y
    (beside files names ns library other one) (beside files names ns library one other) is_x is_y))
    (both_ways pairs (both_ways (sides (pair_links files ns (suc count)) link) (without_below (all_joined (pair_links files ns (suc count)) l start link e))))
  where
    without_below : {P G A : Type 0} → P ↔ G → (G ⊎ A) ↔ (P ⊎ A)
    without_below h = (λ s. elim s [ inl g ↦ inl (h.1 g) | inr a ↦ inr a ], λ s. elim s [ inl p ↦ inl (h.0 p) | inr a ↦ inr a ])
