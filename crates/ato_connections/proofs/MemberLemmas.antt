-- Members with one more node.
use Rattle.std.proofs.Common.{◌≡◌, ◌<◌, ◌≤◌, ℕ, ◌+◌, Bool, true, false, ◌&&◌, ◌||◌, cond, nat_eq, List, [], ◌∷◌, ◌++◌, Option, Some, None, Bor, refl, sym, ap, ◌∙◌, true≢false, subst, length, get_or, take, append-nil, arith}
use Rattle.std.specs.Prelude.{is_some, position, map, filter, not, option_to_list, Result, Ok, Err, OnOk}
use Rattle.std.specs.Bool.{beq}
use Rattle.std.specs.Cmp.{nat_eq_equiv}
use Rattle.std.specs.List.{list_any}
use Rattle.std.specs.Option.{option_or}
use Rattle.std.specs.Str.{bytes_eq}
use Rattle.std.proofs.lemmas.Bool.{eqb-true}
use Rattle.std.proofs.lemmas.List.{length-take-le, map-append, take_all, take_more}
use Rattle.std.proofs.lemmas.List.Elements.{filter-append}
use Rattle.std.proofs.lemmas.Cmp.{nat_list_eq_equiv}
use Rattle.std.proofs.lemmas.Slice.Eq.{bytes_eq-Decides}
use Rattle.ato_files.proofs.PositionLemmas.{position_push}
use Rattle.ato_instance_tree.specs.declared.tree.Node.{Node}
use Rattle.ato_instance_tree.specs.declared.tree.NodeKind.{NodeKind}
use Rattle.ato_instance_tree.specs.declared.tree.NodeKind.TheVariants as node
use Rattle.ato_instance_tree.specs.Targets.{is_called}
use Rattle.ato_instance_tree.specs.Trees.{is_pin}
use Rattle.ato_connections.specs.declared.members.Members.{Members}
use Rattle.ato_connections.specs.Members.{is_key, held_name, held_pin, held_names, AreFirst, AreMembers, HoldsMore}
use Rattle.ato_connections.specs.NodeLinks.{is_named_in, names_in}

-- ---- keys

both : (a b : Bool) → (a && b) ≡ true → (a ≡ true) × (b ≡ true)
both true b e = (refl, e)
both false b e = absurd (true≢false (sym e))

or_none : (o : Option ℕ) → o ≡ option_or o None
or_none (Some x) = refl
or_none None = refl

turned : (a b : ℕ) (s t : List ℕ) → (nat_eq a b && bytes_eq s t) ≡ (nat_eq b a && bytes_eq t s)
turned a b s t = ap (λ x. x && bytes_eq s t) (nat_eq_equiv.symm a b) ∙ ap (λ x. nat_eq b a && x) (nat_list_eq_equiv.symm s t)

module _ (f : ℕ → List ℕ → Option ℕ) (key : ℕ × Bor (List ℕ)) (v : ℕ) where
  agree : (i : ℕ) (t : List ℕ) → is_key i t key ≡ true → f i t ≡ f key.0 key.1.now
  agree i t h = let two = both (nat_eq i key.0) (bytes_eq t key.1.now) h in
      ap (λ (n : ℕ). f n t) (eqb-true i key.0 two.0) ∙ ap (f key.0) ((bytes_eq-Decides t key.1.now).0 two.1)

  -- what is there stays
  pub first_kept : is_some (f key.0 key.1.now) ≡ true → (i : ℕ) (t : List ℕ) → f i t ≡ option_or (f i t) (cond (is_key i t key) (Some v) None)
  first_kept there i t = by (f i t) (is_key i t key) refl refl
    where
      by : (o : Option ℕ) (b : Bool) → f i t ≡ o → is_key i t key ≡ b → o ≡ option_or o (cond b (Some v) None)
      by (Some x) b e s = refl
      by None false e s = refl
      by None true e s = absurd (true≢false (sym there ∙ ap is_some (sym (agree i t s) ∙ e)))

  -- what is new is put in
  pub first_put : (g : ℕ → List ℕ → Option ℕ) → is_some (f key.0 key.1.now) ≡ false → ((i : ℕ) (t : List ℕ)
      → g i t ≡ cond (nat_eq key.0 i && bytes_eq key.1.now t) (Some v) (f i t))
      → (i : ℕ) (t : List ℕ) → g i t ≡ option_or (f i t) (cond (is_key i t key) (Some v) None)
  first_put g new updates i t = updates i t ∙ ap (λ b. cond b (Some v) (f i t)) (turned key.0 i key.1.now t) ∙ by (f i t) (is_key i t key) refl refl
    where
      by : (o : Option ℕ) (b : Bool) → f i t ≡ o → is_key i t key ≡ b → cond b (Some v) o ≡ option_or o (cond b (Some v) None)
      by o false e s = or_none o
      by None true e s = refl
      by (Some x) true e s = absurd (true≢false (ap is_some (sym e ∙ agree i t s) ∙ new))

-- ---- one node

called_case : (a p c : Bool) → (((a || false) && beq p p) && c) ≡ (a && c)
called_case true true c = refl
called_case true false c = refl
called_case false p c = refl

and_false : (a c : Bool) → ((a && false) && c) ≡ false
and_false true c = refl
and_false false c = refl

module _ (n : Node) (instance : ℕ) (parent : n.parent ≡ Some instance) where
  called_as : (pin : Bool) → is_pin n.kind ≡ pin → (i : ℕ) (t : List ℕ) → (nat_eq i instance && bytes_eq t n.name) ≡ is_called i pin t n
  called_as pin kind i t = sym (ap (λ (o : Option ℕ). (list_any (nat_eq i) (option_to_list o) && beq pin (is_pin n.kind)) && bytes_eq t n.name) parent
      ∙ ap (λ b. ((nat_eq i instance || false) && beq pin b) && bytes_eq t n.name) kind
      ∙ called_case (nat_eq i instance) pin (bytes_eq t n.name))

  named_as : (i : ℕ) → is_pin n.kind ≡ false → nat_eq i instance ≡ is_named_in i n
  named_as i kind = sym (ap (λ (o : Option ℕ). list_any (nat_eq i) (option_to_list o) && not (is_pin n.kind)) parent
      ∙ ap (λ b. (nat_eq i instance || false) && not b) kind
      ∙ one (nat_eq i instance))
    where
      one : (a : Bool) → ((a || false) && true) ≡ a
      one true = refl
      one false = refl

not_called : (n : Node) (pin : Bool) → beq pin (is_pin n.kind) ≡ false → (i : ℕ) (t : List ℕ) → false ≡ is_called i pin t n
not_called n pin other i t = sym (ap (λ b. (list_any (nat_eq i) (option_to_list n.parent) && b) && bytes_eq t n.name) other
    ∙ and_false (list_any (nat_eq i) (option_to_list n.parent)) (bytes_eq t n.name))

not_named : (n : Node) → is_pin n.kind ≡ true → (i : ℕ) → false ≡ is_named_in i n
not_named n kind i = sym (ap (λ b. list_any (nat_eq i) (option_to_list n.parent) && not b) kind ∙ none (list_any (nat_eq i) (option_to_list n.parent)))
  where
    none : (a : Bool) → (a && false) ≡ false
    none true = refl
    none false = refl

module _ (old new : Members) (number instance : ℕ) (n : Node) (text : List ℕ) (parent : n.parent ≡ Some instance) (same : text ≡ n.name) where
  -- one more pin
  pub pin_more : is_pin n.kind ≡ true → ((i : ℕ) (t : List ℕ) → held_name new i t ≡ held_name old i t)
      → ((i : ℕ) (t : List ℕ) → held_pin new i t ≡ option_or (held_pin old i t) (cond (nat_eq i instance && bytes_eq t text) (Some number) None))
      → length new.names.items ≡ length old.names.items → ((i : ℕ) → held_names new i ≡ held_names old i) → HoldsMore old number n new
  pin_more kind named pins long names = record {
    named = λ i t. named i t ∙ or_none (held_name old i t)
        ∙ ap (λ b. option_or (held_name old i t) (cond b (Some number) None)) (not_called n false (ap (beq false) kind) i t);
    pins = λ i t. pins i t
        ∙ ap (λ (x : List ℕ). option_or (held_pin old i t) (cond (nat_eq i instance && bytes_eq t x) (Some number) None)) same
        ∙ ap (λ b. option_or (held_pin old i t) (cond b (Some number) None)) (called_as n instance parent true kind i t);
    count = long;
    names = λ i l. names i ∙ sym (append-nil (held_names old i))
        ∙ ap (λ b. held_names old i ++ cond b (n.name ∷ []) []) (not_named n kind i);
  }

  -- one more member that is no pin
  pub name_more : is_pin n.kind ≡ false
      → ((i : ℕ) (t : List ℕ) → held_name new i t ≡ option_or (held_name old i t) (cond (nat_eq i instance && bytes_eq t text) (Some number) None))
      → ((i : ℕ) (t : List ℕ) → held_pin new i t ≡ held_pin old i t)
      → length new.names.items ≡ length old.names.items
      → ((i : ℕ) → i < length old.names.items → held_names new i ≡ held_names old i ++ cond (nat_eq i instance) (text ∷ []) []) → HoldsMore old number n new
  name_more kind named pins long names = record {
    named = λ i t. named i t
        ∙ ap (λ (x : List ℕ). option_or (held_name old i t) (cond (nat_eq i instance && bytes_eq t x) (Some number) None)) same
        ∙ ap (λ b. option_or (held_name old i t) (cond b (Some number) None)) (called_as n instance parent false kind i t);
    pins = λ i t. pins i t ∙ or_none (held_pin old i t)
        ∙ ap (λ b. option_or (held_pin old i t) (cond b (Some number) None)) (not_called n true (ap (beq true) kind) i t);
    count = long;
    names = λ i l. names i l
        ∙ ap (λ (x : List ℕ). held_names old i ++ cond (nat_eq i instance) (x ∷ []) []) same
        ∙ ap (λ b. held_names old i ++ cond b (n.name ∷ []) []) (named_as n instance parent i kind);
  }

pub no_pin : (k : NodeKind) → (k ≡ node.Pin → ⊥) → is_pin k ≡ false
no_pin node.Pin h = absurd (h refl)
no_pin node.Module h = refl
no_pin node.Component h = refl
no_pin node.Interface h = refl
no_pin node.Signal h = refl
no_pin node.Param h = refl

pub on_all : {T E : Type 0} {A B C D F : Type 0} (r : Result T E) → OnOk r A → OnOk r B → OnOk r C → OnOk r D → (A → B → C → D → F) → OnOk r F
on_all (Ok x) a b c d f = f a b c d
on_all (Err e) a b c d f = tt

-- a node that stands in no instance
pub none_more : (m : Members) (number : ℕ) (n : Node) → n.parent ≡ None → HoldsMore m number n m
none_more m number n parent = record {
  named = λ i t. or_none (held_name m i t) ∙ ap (λ b. option_or (held_name m i t) (cond b (Some number) None)) (away i false t);
  pins = λ i t. or_none (held_pin m i t) ∙ ap (λ b. option_or (held_pin m i t) (cond b (Some number) None)) (away i true t);
  count = refl;
  names = λ i l. sym (append-nil (held_names m i)) ∙ ap (λ b. held_names m i ++ cond b (n.name ∷ []) []) (unnamed i);
}
  where
    away : (i : ℕ) (pin : Bool) (t : List ℕ) → false ≡ is_called i pin t n
    away i pin t = sym (ap (λ (o : Option ℕ). (list_any (nat_eq i) (option_to_list o) && beq pin (is_pin n.kind)) && bytes_eq t n.name) parent)

    unnamed : (i : ℕ) → false ≡ is_named_in i n
    unnamed i = sym (ap (λ (o : Option ℕ). list_any (nat_eq i) (option_to_list o) && not (is_pin n.kind)) parent)

-- ---- node by node

names_push : (ns : List Node) (n : Node) (i : ℕ) → names_in (ns ++ n ∷ []) i ≡ names_in ns i ++ cond (is_named_in i n) (n.name ∷ []) []
names_push ns n i = ap (map (λ (x : Node). x.name)) (filter-append (is_named_in i) ns (n ∷ []))
    ∙ map-append (λ (x : Node). x.name) (filter (is_named_in i) ns) (filter (is_named_in i) (n ∷ []))
    ∙ ap (λ (x : List (List ℕ)). names_in ns i ++ x) (one (is_named_in i n))
  where
    one : (b : Bool) → map (λ (x : Node). x.name) (cond b (n ∷ []) []) ≡ cond b (n.name ∷ []) []
    one true = refl
    one false = refl

push_first : (count : ℕ) (ns : List Node) (n : Node) (number : ℕ) (old new : Members) → length ns ≡ number → AreFirst count ns old
    → HoldsMore old number n new → AreFirst count (ns ++ n ∷ []) new
push_first count ns n number old new long was more = record {
  named = λ i t. more.named i t
      ∙ ap (λ o. option_or o (cond (is_called i false t n) (Some number) None)) (was.named i t)
      ∙ ap (λ k. option_or (position (is_called i false t) ns) (cond (is_called i false t n) (Some k) None)) (sym long)
      ∙ sym (position_push (is_called i false t) ns n);
  pins = λ i t. more.pins i t
      ∙ ap (λ o. option_or o (cond (is_called i true t n) (Some number) None)) (was.pins i t)
      ∙ ap (λ k. option_or (position (is_called i true t) ns) (cond (is_called i true t n) (Some k) None)) (sym long)
      ∙ sym (position_push (is_called i true t) ns n);
  count = more.count ∙ was.count;
  names = λ i l. let same = was.count in
      more.names i (omega arith)
      ∙ ap (λ (x : List (List ℕ)). x ++ cond (is_named_in i n) (n.name ∷ []) []) (was.names i l)
      ∙ sym (names_push ns n i);
}

pub first_more : (ns : List Node) (i : ℕ) (n : Node) (old new : Members) → i < length ns → n ≡ get_or ns i n → AreFirst (length ns) (take i ns) old
    → HoldsMore old i n new
    → AreFirst (length ns) (take (i + 1) ns) new
first_more ns i n old new within read was more =
    subst (λ (xs : List Node). AreFirst (length ns) xs new) (sym (take_more ns i n within ∙ ap (λ (x : Node). take i ns ++ x ∷ []) (sym read)))
    (push_first (length ns) (take i ns) n i old new (length-take-le i ns (omega arith)) was more)

pub first_all : (ns : List Node) (i : ℕ) (m : Members) → length ns ≤ i → AreFirst (length ns) (take i ns) m → AreMembers ns m
first_all ns i m past first =
    let all : AreFirst (length ns) ns m = subst (λ (xs : List Node). AreFirst (length ns) xs m) (take_all i ns past) first in
    record { named = all.named; pins = all.pins; names = all.names }
