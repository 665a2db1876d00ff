-- The parts that are found by numbers are those of the project.
use Rattle.std.proofs.Common.{◌≡◌, ◌<◌, ◌≤◌, ℕ, zero, suc, ◌+◌, add-one, Bool, true, false, ◌&&◌, ◌||◌, List, [], ◌∷◌, ◌++◌, length, take, Option, Some, None, refl, sym, ap, ◌∙◌, subst, arith}
use Rattle.std.specs.Prelude.{slice_get, filter, filter_map, option_to_list, is_some, codes, if◌then◌else◌}
use Rattle.std.specs.List.{list_any, AllZip}
use Rattle.std.proofs.lemmas.List.{take_all}
use Rattle.std.proofs.lemmas.List.Elements.{filter-append, filter_map-append}
use Rattle.std.proofs.lemmas.Option.{none-some, same_Some, slice_get_within}
use Rattle.ato_files.specs.declared.program.Program.{Program}
use Rattle.ato_instance_tree.specs.declared.tree.Node.{Node}
use Rattle.ato_instance_tree.specs.declared.tree.Tree.{Tree}
use Rattle.ato_instance_tree.specs.Members.{members}
use Rattle.ato_instance_tree.specs.Walk.{type_at}
use Rattle.ato_instance_tree.specs.Order.{Spot, leaf, made_at, instance_of, nodes}
use Rattle.ato_instance_tree.specs.PathFaults.{is_component_at}
use Rattle.ato_instance_tree.proofs.ParentLaws.{item_there}
use Rattle.ato_links.specs.Parts.{has_kind, is_pin, is_part, parts}
use Rattle.ato_elab.specs.Late.{component_at}
use Rattle.ato_netlists.specs.declared.parts.Part.{Part}
use Rattle.ato_netlists.specs.declared.strings.Strings.{Strings}
use Rattle.ato_netlists.specs.Known.{IsSound}
use Rattle.ato_netlists.specs.Parts.{AreStrings, AreParts, IsPart}
use Rattle.ato_netlists.specs.Pinned.{is_pin_in, is_marked, slot_in, part_at, parts_below}
use Rattle.ato_netlists.proofs.PinLaws.{component_law, no_component, pins_law}
use Rattle.ato_netlists.proofs.PlaceLemmas.{counted}

-- ---- lists

pub zip_append : {A B : Type 0} (R : A → B → Type 0) (xs : List A) (ys : List B) (us : List A) (vs : List B) → AllZip R xs ys → AllZip R us vs → AllZip R (xs ++ us) (ys ++ vs)
zip_append R [] [] us vs h k = k
zip_append R [] (y ∷ ys) us vs h k = absurd h
zip_append R (x ∷ xs) [] us vs h k = absurd h
zip_append R (x ∷ xs) (y ∷ ys) us vs h k = (h.0, zip_append R xs ys us vs h.1 k)

take_at : {X : Type 0} (xs : List X) (i : ℕ) (x : X) → slice_get xs i ≡ Some x → take (suc i) xs ≡ take i xs ++ x ∷ []
take_at [] i x e = absurd (none-some x e)
take_at (y ∷ xs) zero x e = ap (λ z. z ∷ []) (same_Some y x e)
take_at (y ∷ xs) (suc i) x e = ap (λ l. y ∷ l) (take_at xs i x e)

-- ---- numbers one after another

pub parts_none : (ns : List Node) (pins : List Bool) (strings : Strings) → parts_below ns pins strings 0 ≡ []
unfolding parts_below
parts_none ns pins strings = refl

pub parts_more : (ns : List Node) (pins : List Bool) (strings : Strings) (number : ℕ)
    → parts_below ns pins strings (number + 1) ≡ parts_below ns pins strings number ++ option_to_list (part_at ns pins strings number)
unfolding parts_below
parts_more ns pins strings number = ap (parts_below ns pins strings) (add-one number)

pub part_step : (ns : List Node) (pins : List Bool) (strings : Strings) (number : ℕ) (before after : List Part) (o : Option Part) (view : List Bool) (small : ℕ)
    → before ≡ parts_below ns pins strings number → after ≡ before ++ option_to_list o → o ≡ part_at ns view strings small → view ≡ pins → small ≡ number
    → after ≡ parts_below ns pins strings (number + 1)
part_step ns pins strings number before after o view small was is found same_pins same_number =
    is ∙ ap (λ (l : List Part). l ++ option_to_list o) was
    ∙ ap (λ (p : Option Part). parts_below ns pins strings number ++ option_to_list p)
    (found ∙ ap (λ (l : List Bool). part_at ns l strings small) same_pins ∙ ap (part_at ns pins strings) same_number)
    ∙ sym (parts_more ns pins strings number)

module _ {program : Program} {tree : Tree} {entry : ℕ} (s : IsSound program tree entry) (strings : Strings) (known : AreStrings program entry strings) (pins : List Bool)
    (marked : (q : ℕ) → q < length tree.nodes → is_marked pins q ≡ list_any (is_pin_in q) tree.nodes) where
  abbrev all : List Spot
  all = nodes program.files entry

  abbrev among : List Spot → List (List ℕ)
  among ss = filter (is_part program.files entry program.names) (filter_map instance_of ss)

  -- the test of a number is that of a path
  tests : (i : ℕ) (path : List ℕ) → slice_get (nodes program.files entry) i ≡ Some (made_at path)
      → (component_at tree.nodes i && (slot_in strings i || is_marked pins i)) ≡ is_part program.files entry program.names path
  tests i path e =
      let within = slice_get_within (nodes program.files entry) i (made_at path) e in
      let same = counted s in
      let slot : slot_in strings i ≡ has_kind program.files entry program.names path = ap is_some (known.each i path (codes "kind") (record { is = e })) in
      let pin : is_marked pins i ≡ list_any is_pin (members program.files (type_at program.files entry path)) = marked i (omega arith) ∙ pins_law s i path e in
      ap (λ (b : Bool). b && (slot_in strings i || is_marked pins i)) (component_law s i path e)
      ∙ ap (λ (b : Bool). is_component_at program.files entry path && (b || is_marked pins i)) slot
      ∙ ap (λ (b : Bool). is_component_at program.files entry path && (has_kind program.files entry program.names path || b)) pin
      ∙ ap (λ (b : Bool). is_component_at program.files entry path && b) (turned (has_kind program.files entry program.names path) (list_any is_pin (members program.files (type_at program.files entry path))))
    where
      turned : (a b : Bool) → (a || b) ≡ (b || a)
      turned true true = refl
      turned true false = refl
      turned false true = refl
      turned false false = refl

  one : (i : ℕ) (spot : Spot) → slice_get (nodes program.files entry) i ≡ Some spot → AllZip (IsPart program entry) (among (spot ∷ [])) (option_to_list (part_at tree.nodes pins strings i))
  unfolding part_at
  one i (leaf path m) e = subst (λ (b : Bool). AllZip (IsPart program entry) [] (option_to_list (if b && (slot_in strings i || is_marked pins i) then Some (record { node = i; slot = slot_in strings i }) else None)))
      (sym (no_component s i path m e)) tt
  one i (made_at path) e = subst (λ (b : Bool). AllZip (IsPart program entry) (if is_part program.files entry program.names path then path ∷ [] else []) (option_to_list (if b then Some (record { node = i; slot = slot_in strings i }) else None)))
      (sym (tests i path e)) (by (is_part program.files entry program.names path))
    where
      by : (b : Bool) → AllZip (IsPart program entry) (if b then path ∷ [] else []) (option_to_list (if b then Some (record { node = i; slot = slot_in strings i }) else None))
      by true = (record { at = record { is = e }; slot = ap is_some (known.each i path (codes "kind") (record { is = e })) }, tt)
      by false = tt

  below : (i : ℕ) → i ≤ length (nodes program.files entry) → AllZip (IsPart program entry) (among (take i (nodes program.files entry))) (parts_below tree.nodes pins strings i)
  unfolding parts_below
  below zero h = tt
  below (suc i) h =
      let spot = item_there (nodes program.files entry) i (omega arith) in
      subst (λ (ps : List (List ℕ)). AllZip (IsPart program entry) ps (parts_below tree.nodes pins strings i ++ option_to_list (part_at tree.nodes pins strings i)))
      (sym (ap among (take_at (nodes program.files entry) i spot.0 spot.1)
      ∙ ap (filter (is_part program.files entry program.names)) (filter_map-append instance_of (take i (nodes program.files entry)) (spot.0 ∷ []))
      ∙ filter-append (is_part program.files entry program.names) (filter_map instance_of (take i (nodes program.files entry))) (filter_map instance_of (spot.0 ∷ []))))
      (zip_append (IsPart program entry) (among (take i (nodes program.files entry))) (parts_below tree.nodes pins strings i) (among (spot.0 ∷ [])) (option_to_list (part_at tree.nodes pins strings i))
      (below i (omega arith)) (one i spot.0 spot.1))

  pub parts_are : (found : List Part) (i : ℕ) → length tree.nodes ≡ i → found ≡ parts_below tree.nodes pins strings i → AreParts program entry found
  parts_are found i long is =
      let same = counted s in
      let few : i ≤ length (nodes program.files entry) = omega arith in
      subst (AllZip (IsPart program entry) (parts program.files entry program.names)) (sym is)
      (subst (λ (ss : List Spot). AllZip (IsPart program entry) (among ss) (parts_below tree.nodes pins strings i)) (take_all i (nodes program.files entry) (omega arith)) (below i few))

pub parts_found : (program : Program) (tree : Tree) (entry : ℕ) (strings : Strings) (ns : List Node) (pins : List Bool) (found : List Part) (i : ℕ) → ns ≡ tree.nodes
    → ((q : ℕ) → q < length ns → is_marked pins q ≡ list_any (is_pin_in q) ns) → length ns ≤ i → i ≤ length ns → found ≡ parts_below ns pins strings i
    → IsSound program tree entry → AreStrings program entry strings → AreParts program entry found
parts_found program tree entry strings ns pins found i e marked h k is s known =
    let long = ap length e in
    parts_are s strings known pins (subst (λ (l : List Node). (q : ℕ) → q < length l → is_marked pins q ≡ list_any (is_pin_in q) l) e marked) found i (omega arith)
    (is ∙ ap (λ (l : List Node). parts_below l pins strings i) e)
