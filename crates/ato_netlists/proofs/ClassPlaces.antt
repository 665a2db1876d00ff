-- Pins are listed by their numbers, and have the places of first pins.
use Rattle.std.proofs.Common.{◌≡◌, ◌≢◌, ℕ, zero, suc, ◌+◌, ◌<◌, ◌≤◌, true, false, List, [], ◌∷◌, ◌++◌, length, get_or, drop, set, inl, inr, refl, ap, sym, ◌∙◌, subst, arith, append_assoc, append-nil, length-append, get_or-set_same, get_or-set_other}
use Rattle.std.specs.Prelude.{◌⊎◌, if◌then◌else◌}
use Rattle.std.proofs.Math.ListN.{length-set}
use Rattle.std.proofs.Math.Seq.{drop-cons, get_or-append_seam}
use Rattle.std.proofs.lemmas.List.{get_or_append_left, drop_all, get_or_default}
use Rattle.ato_base.specs.Classes.{Classes}
use Rattle.ato_base.proofs.ClassLaws.{classes_same}
use Rattle.ato_instance_tree.specs.declared.tree.Node.{Node}
use Rattle.ato_instance_tree.specs.Trees.{is_pin}
use Rattle.ato_nets.specs.Groups.{SameClass, numbers_below}
use Rattle.ato_nets.proofs.GroupLemmas.{below}
use Rattle.ato_netlists.specs.Pins.{pin_numbers, AreOneClass, AreFirsts}

-- ---- pins

-- one node more
from_node : (n : ℕ) (ns : List Node) (x d : Node) → n < length ns → x ≡ get_or ns n d → pin_numbers n (drop n ns) ≡ (if is_pin x.kind then n ∷ pin_numbers (suc n) (drop (suc n) ns) else pin_numbers (suc n) (drop (suc n) ns))
from_node n ns x d h e = ap (pin_numbers n) (drop-cons ns n d h ∙ ap (λ y. y ∷ drop (suc n) ns) (sym e))

pub pin_more : (pins more : List ℕ) (n : ℕ) (ns : List Node) (x d : Node) (all : List ℕ) → n < length ns → x ≡ get_or ns n d → is_pin x.kind ≡ true → more ≡ pins ++ n ∷ []
    → pins ++ pin_numbers n (drop n ns) ≡ all → more ++ pin_numbers (suc n) (drop (suc n) ns) ≡ all
pin_more pins more n ns x d all h e t pushed so_far =
    ap (λ l. l ++ pin_numbers (suc n) (drop (suc n) ns)) pushed ∙ append_assoc pins (n ∷ []) (pin_numbers (suc n) (drop (suc n) ns))
    ∙ ap (λ l. pins ++ l) (sym (from_node n ns x d h e ∙ ap (λ b. if b then n ∷ pin_numbers (suc n) (drop (suc n) ns) else pin_numbers (suc n) (drop (suc n) ns)) t)) ∙ so_far

pub other_more : (pins : List ℕ) (n : ℕ) (ns : List Node) (x d : Node) (all : List ℕ) → n < length ns → x ≡ get_or ns n d → is_pin x.kind ≡ false
    → pins ++ pin_numbers n (drop n ns) ≡ all → pins ++ pin_numbers (suc n) (drop (suc n) ns) ≡ all
other_more pins n ns x d all h e t so_far =
    ap (λ l. pins ++ l) (sym (from_node n ns x d h e ∙ ap (λ b. if b then n ∷ pin_numbers (suc n) (drop (suc n) ns) else pin_numbers (suc n) (drop (suc n) ns)) t)) ∙ so_far

pub pins_end : (pins : List ℕ) (n : ℕ) (ns : List Node) (all : List ℕ) → length ns ≤ n → pins ++ pin_numbers n (drop n ns) ≡ all → pins ≡ all
pins_end pins n ns all h so_far = sym (append-nil pins) ∙ ap (λ l. pins ++ pin_numbers n l) (sym (drop_all n ns h)) ∙ so_far

-- ---- the places of first pins

abbrev pub class_of : List ℕ → List ℕ → ℕ → ℕ
class_of of pins place = get_or of (get_or pins place 0) 0

-- The first places of the pins before a place, by the places that are kept for classes.
pub record ArePlaced (of pins places firsts : List ℕ) (n : ℕ) : Type 0 where
  pub size : length firsts ≡ n
  pub room : length places ≡ length of
  pub kept : (class : ℕ) → class < length of → (get_or places class 0 ≡ length pins) ⊎ ((get_or places class 0 < n) × (class_of of pins (get_or places class 0) ≡ class))
  pub each : (k : ℕ) → k < n → (get_or firsts k 0 ≡ get_or places (class_of of pins k) 0) × (get_or firsts k 0 < n)

pub none_placed : (of pins places firsts : List ℕ) → firsts ≡ [] → length places ≡ length of → ((class : ℕ) → class < length of → get_or places class 0 ≡ length pins) → ArePlaced of pins places firsts 0
none_placed of pins places firsts e room free = record {
  size = ap length e;
  room = room;
  kept = λ class h. inl (free class h);
  each = λ k h. absurd (omega (arith, h));
}

module _ (of pins : List ℕ) where
  module _ (places firsts more : List ℕ) (n : ℕ) (old : ArePlaced of pins places firsts n) (short : n < length pins) (inside : class_of of pins n < length of) where
    front : (v k : ℕ) → more ≡ firsts ++ v ∷ [] → k < n → get_or more k 0 ≡ get_or firsts k 0
    front v k e h = ap (λ l. get_or l k 0) e ∙ get_or_append_left firsts (v ∷ []) 0 k (omega (arith, h, old.size))

    back : (v : ℕ) → more ≡ firsts ++ v ∷ [] → get_or more n 0 ≡ v
    back v e = ap (λ l. get_or l n 0) e ∙ ap (λ k. get_or (firsts ++ v ∷ []) k 0) (sym old.size) ∙ get_or-append_seam firsts v [] 0

    long : (v : ℕ) → more ≡ firsts ++ v ∷ [] → length more ≡ suc n
    long v e = ap length e ∙ length-append firsts (v ∷ []) ∙ omega (arith, old.size)

    -- the last place, or an earlier one
    cases : (k : ℕ) → k < suc n → (k ≡ n) ⊎ (k < n)
    cases k h = split k n h where
      split : (a b : ℕ) → a < suc b → (a ≡ b) ⊎ (a < b)
      split zero zero l = inl refl
      split zero (suc b) l = inr (omega arith)
      split (suc a) zero l = absurd (omega (arith, l))
      split (suc a) (suc b) l = elim (split a b (omega (arith, l))) [ inl e ↦ inl (ap suc e) | inr m ↦ inr (omega (arith, m)) ]

    -- a pin of a class that has a place
    pub old_class : get_or places (class_of of pins n) 0 ≢ length pins → more ≡ firsts ++ get_or places (class_of of pins n) 0 ∷ [] → ArePlaced of pins places more (suc n)
    old_class has pushed = record {
      size = long (get_or places (class_of of pins n) 0) pushed;
      room = old.room;
      kept = λ class h. elim (old.kept class h) [ inl e ↦ inl e | inr l ↦ inr (omega (arith, l.0), l.1) ];
      each = λ k h. elim (cases k h) [
        | inl e ↦ subst (λ j. (get_or more j 0 ≡ get_or places (class_of of pins j) 0) × (get_or more j 0 < suc n)) (sym e) (
          back (get_or places (class_of of pins n) 0) pushed,
          elim (old.kept (class_of of pins n) inside) [ inl free ↦ absurd (has free) | inr l ↦ omega (arith, l.0, back (get_or places (class_of of pins n) 0) pushed) ],
        )
        | inr l ↦ (
          front (get_or places (class_of of pins n) 0) k pushed l ∙ (old.each k l).0,
          omega (arith, front (get_or places (class_of of pins n) 0) k pushed l, (old.each k l).1),
        )
      ];
    }

    -- a pin of a class that has none
    pub new_class : (now : List ℕ) → get_or places (class_of of pins n) 0 ≡ length pins → now ≡ set places (class_of of pins n) n → more ≡ firsts ++ get_or now (class_of of pins n) 0 ∷ [] → ArePlaced of pins now more (suc n)
    new_class now free put pushed = record {
      size = long (get_or now (class_of of pins n) 0) pushed;
      room = ap length put ∙ length-set places (class_of of pins n) n ∙ old.room;
      kept = λ class h. by_class class (nat_cases class (class_of of pins n)) h;
      each = λ k h. elim (cases k h) [
        | inl e ↦ subst (λ j. (get_or more j 0 ≡ get_or now (class_of of pins j) 0) × (get_or more j 0 < suc n)) (sym e) (
          back (get_or now (class_of of pins n) 0) pushed,
          omega (arith, back (get_or now (class_of of pins n) 0) pushed, there),
        )
        | inr l ↦ earlier k l
      ];
    } where
      there : get_or now (class_of of pins n) 0 ≡ n
      there = ap (λ l. get_or l (class_of of pins n) 0) put ∙ get_or-set_same places (class_of of pins n) n 0 (omega (arith, inside, old.room))

      elsewhere : (class : ℕ) → class ≢ class_of of pins n → get_or now class 0 ≡ get_or places class 0
      elsewhere class other = ap (λ l. get_or l class 0) put ∙ get_or-set_other places (class_of of pins n) class n 0 other

      nat_cases : (a b : ℕ) → (a ≡ b) ⊎ (a ≢ b)
      nat_cases zero zero = inl refl
      nat_cases zero (suc b) = inr (λ e. omega (arith, e))
      nat_cases (suc a) zero = inr (λ e. omega (arith, e))
      nat_cases (suc a) (suc b) = elim (nat_cases a b) [ inl e ↦ inl (ap suc e) | inr f ↦ inr (λ e. f (omega (arith, e))) ]

      by_class : (class : ℕ) → (class ≡ class_of of pins n) ⊎ (class ≢ class_of of pins n) → class < length of
          → (get_or now class 0 ≡ length pins) ⊎ ((get_or now class 0 < suc n) × (class_of of pins (get_or now class 0) ≡ class))
      by_class class (inl e) h = inr (
        subst (λ c. get_or now c 0 < suc n) (sym e) (omega (arith, there)),
        subst (λ c. class_of of pins (get_or now c 0) ≡ c) (sym e) (ap (class_of of pins) there),
      )
      by_class class (inr other) h = elim (old.kept class h) [
        | inl f ↦ inl (elsewhere class other ∙ f)
        | inr l ↦ inr (omega (arith, elsewhere class other, l.0), ap (class_of of pins) (elsewhere class other) ∙ l.1)
      ]

      -- an earlier pin is of another class
      earlier : (k : ℕ) → k < n → (get_or more k 0 ≡ get_or now (class_of of pins k) 0) × (get_or more k 0 < suc n)
      earlier k l =
          let was = old.each k l in
          let same = front (get_or now (class_of of pins n) 0) k pushed l in
          let other : class_of of pins k ≢ class_of of pins n = λ e. omega (arith, was.0, was.1, ap (λ c. get_or places c 0) e, free, short) in
          (same ∙ was.0 ∙ sym (elsewhere (class_of of pins k) other), omega (arith, same, was.1))

  -- all pins
  pub all_placed : (places firsts : List ℕ) (n : ℕ) → n ≡ length pins → ((k : ℕ) → k < length pins → class_of of pins k < length of) → ArePlaced of pins places firsts n → AreFirsts of pins firsts
  all_placed places firsts n all inside are = record {
    size = are.size ∙ all;
    within = λ k d h. omega (arith, (are.each k (omega (arith, h, are.size))).1, get_or_default firsts k d 0 h, are.size);
    each = λ i j h k. (
      (λ e. sym (own i h) ∙ ap (class_of of pins) e ∙ own j k),
      (λ e. (are.each i (omega (arith, h, all))).0 ∙ ap (λ c. get_or places c 0) e ∙ sym (are.each j (omega (arith, k, all))).0),
    );
  } where
    -- the first pin is of the pin's class
    own : (k : ℕ) → k < length pins → class_of of pins (get_or firsts k 0) ≡ class_of of pins k
    own k h =
        let it = are.each k (omega (arith, h, all)) in
        elim (are.kept (class_of of pins k) (inside k h)) [
          | inl free ↦ absurd (omega (arith, free, it.0, it.1, all))
          | inr l ↦ ap (class_of of pins) it.0 ∙ l.1
        ]

-- ---- groups

-- groups by first places are those by classes
pub groups_are : (of pins firsts : List ℕ) (groups : List (List ℕ)) → AreFirsts of pins firsts → Classes (SameClass firsts 0) (numbers_below (length pins)) groups
    → Classes (AreOneClass of pins) (numbers_below (length pins)) groups
groups_are of pins firsts groups are classes = classes_same (SameClass firsts 0) (AreOneClass of pins) classes (λ i j m n.
    let both = are.each i j (below (length pins) i m) (below (length pins) j n) in (
      (λ e. both.0 (ap (λ k. get_or firsts k 0) (sym (from_zero i)) ∙ e ∙ ap (λ k. get_or firsts k 0) (from_zero j))),
      (λ e. ap (λ k. get_or firsts k 0) (from_zero i) ∙ both.1 e ∙ ap (λ k. get_or firsts k 0) (sym (from_zero j))),
    ))
  where
    from_zero : (n : ℕ) → 0 + n ≡ n
    from_zero n = omega arith
