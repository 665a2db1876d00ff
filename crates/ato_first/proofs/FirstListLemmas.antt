-- The net list that is made of class numbers is the block's.
use Rattle.std.proofs.Common.{◌≡◌, ℕ, zero, suc, ◌<◌, ◌≤◌, ◌+◌, Bool, true, false, List, [], ◌∷◌, ◌++◌, length, get_or, map, take, drop, ap, sym, ◌∙◌, refl, arith, subst, if◌then◌else◌, nat_lt, take-append-drop, drop-cons}
use Rattle.std.specs.Prelude.{Contains, All, ◌||◌, Option, Some, None, is_some}
use Rattle.std.specs.List.{AllZip}
use Rattle.std.proofs.lemmas.Bool.{ltb-true, ltb-false}
use Rattle.std.proofs.lemmas.List.{take_all, map-append, length-take, get_or-take, get_or_default}
use Rattle.std.proofs.Math.Seq.{take-suc}
use Rattle.ato_base.specs.Classes.{Classes, no_class, a_class}
use Rattle.ato_base.specs.Joined.{Joined}
use Rattle.ato_base.specs.declared.nets.NetList.{NetList}
use Rattle.ato_base.proofs.ClassLaws.{first, later, parts_outs, class_points, classes_same, classes_map}
use Rattle.ato_base.proofs.JoinedLaws.{joined_sym}
use Rattle.ato_first.specs.declared.first_form.Point.TheVariants.{Signal, Pin}
use Rattle.ato_first.specs.declared.first_form.Block.{Block}
use Rattle.ato_nets.specs.ClassNumbers.{IsJoin, AreClassNumbers}
use Rattle.ato_first.specs.FirstPoints.{signals_of, pins_of, AreJoined, AreKnown}
use Rattle.ato_first.specs.FirstJoins.{point_number, lines_joins}
use Rattle.ato_first.specs.FirstNets.{net_pin, IsNetName, by_signal, by_pin, IsNet, is_comp, comps_with, IsNetList}
use Rattle.ato_first.specs.FirstParts.{Part, part_of, slot_count}
use Rattle.ato_nets.specs.Groups.{SameClass, numbers_below}
use Rattle.ato_first.specs.FirstGroups.{label_at, class_name, group_net}
use Rattle.ato_first.specs.declared.first_points.Points.{Points}
use Rattle.ato_nets.proofs.ClassNumberLaws.{joined_same_class, same_class_joined}
use Rattle.ato_nets.proofs.GroupLemmas.{below}
use Rattle.ato_first.proofs.FirstNumberLemmas.{join_within, the_points, point_count, point_at, at_signal, at_pin, signal_number, pin_number, joined_points, joined_numbers}

module _ (block : Block) (known : AreKnown block) (of : List ℕ) (are : AreClassNumbers (point_count block) (lines_joins (the_points block) block.lines) of) where
  pin_within : (i : ℕ) → i < length (pins_of block) → length (signals_of block) + i < point_count block
  pin_within i h = omega arith

  signal_within : (i : ℕ) → i < length (signals_of block) → i < point_count block
  signal_within i h = omega arith

  -- ---- the classes of pins

  -- pins of one class are joined, and the other way round
  joined_pins : (i j : ℕ) → i < length (pins_of block) → j < length (pins_of block) → SameClass of (length (signals_of block)) i j
      → AreJoined block (Pin (get_or (pins_of block) i [])) (Pin (get_or (pins_of block) j []))
  joined_pins i j h k same =
      let numbers = same_class_joined are (length (signals_of block) + i) (length (signals_of block) + j) (pin_within i h) (pin_within j k) same in
      subst (λ q. AreJoined block (Pin (get_or (pins_of block) i [])) q) (at_pin block j) (subst (λ p. AreJoined block p (point_at block (length (signals_of block) + j))) (at_pin block i) (joined_points block known numbers))

  same_pins : (i j : ℕ) → i < length (pins_of block) → j < length (pins_of block) → AreJoined block (Pin (get_or (pins_of block) i [])) (Pin (get_or (pins_of block) j []))
      → SameClass of (length (signals_of block)) i j
  same_pins i j h k joined =
      joined_same_class are (length (signals_of block) + i) (length (signals_of block) + j) (pin_within i h) (pin_within j k)
      (subst (λ n. Joined (IsJoin (lines_joins (the_points block) block.lines)) (length (signals_of block) + i) n) (pin_number block j k)
      (subst (λ n. Joined (IsJoin (lines_joins (the_points block) block.lines)) n (point_number (the_points block) (Pin (get_or (pins_of block) j [])))) (pin_number block i h) (joined_numbers block known joined)))

  -- ---- the name of a net

  -- a signal that is joined with a pin has no smaller number than the pin's class
  not_less : (i pin : ℕ) → i < length (signals_of block) → pin < length (pins_of block) → AreJoined block (Signal (get_or (signals_of block) i [])) (Pin (get_or (pins_of block) pin []))
      → get_or of (length (signals_of block) + pin) 0 ≤ i
  not_less i pin h k joined =
      are.least (length (signals_of block) + pin) i (pin_within pin k) (signal_within i h)
      (joined_sym (IsJoin (lines_joins (the_points block) block.lines))
      (subst (λ n. Joined (IsJoin (lines_joins (the_points block) block.lines)) i n) (pin_number block pin k)
      (subst (λ n. Joined (IsJoin (lines_joins (the_points block) block.lines)) n (point_number (the_points block) (Pin (get_or (pins_of block) pin [])))) (signal_number block i h) (joined_numbers block known joined))))

  -- no signal before this one is joined with the pin
  none_before : (n pin : ℕ) → n ≤ length (signals_of block) → pin < length (pins_of block) → n ≤ get_or of (length (signals_of block) + pin) 0
      → All (λ other. AreJoined block (Signal other) (Pin (get_or (pins_of block) pin [])) → ⊥) (take n (signals_of block))
  none_before n pin h k least = λ i d l joined.
      let short : i < n = omega (arith, length-take n (signals_of block)) in
      let here : get_or (take n (signals_of block)) i d ≡ get_or (signals_of block) i [] = get_or-take n (signals_of block) i d short ∙ get_or_default (signals_of block) i d [] (omega arith) in
      let less = not_less i pin (omega arith) k (subst (λ other. AreJoined block (Signal other) (Pin (get_or (pins_of block) pin []))) here joined) in
      omega arith

  -- the class of a pin is a point that is joined with it
  class_joined : (pin : ℕ) → pin < length (pins_of block) → AreJoined block (point_at block (get_or of (length (signals_of block) + pin) 0)) (Pin (get_or (pins_of block) pin []))
  class_joined pin h =
      subst (λ q. AreJoined block (point_at block (get_or of (length (signals_of block) + pin) 0)) q) (at_pin block pin)
      (joined_points block known (joined_sym (IsJoin (lines_joins (the_points block) block.lines)) (are.joined (length (signals_of block) + pin) (pin_within pin h))))

  named : (pin : ℕ) (b : Bool) → pin < length (pins_of block) → nat_lt (get_or of (length (signals_of block) + pin) 0) (length (signals_of block)) ≡ b
      → IsNetName block (get_or (pins_of block) pin []) (if b then get_or (signals_of block) (get_or of (length (signals_of block) + pin) 0) [] else 58 ∷ get_or (pins_of block) pin [])
  named pin true h t =
      let class : ℕ = get_or of (length (signals_of block) + pin) 0 in
      let small : class < length (signals_of block) = ltb-true class (length (signals_of block)) t in
      by_signal (take class (signals_of block)) (drop (suc class) (signals_of block))
      (sym (take-append-drop class (signals_of block)) ∙ ap (λ l. take class (signals_of block) ++ l) (drop-cons (signals_of block) class [] small))
      (subst (λ p. AreJoined block p (Pin (get_or (pins_of block) pin []))) (at_signal block class small) (class_joined pin h))
      (none_before class pin (omega arith) h (omega arith))
  named pin false h t =
      let large : length (signals_of block) ≤ get_or of (length (signals_of block) + pin) 0 = ltb-false (get_or of (length (signals_of block) + pin) 0) (length (signals_of block)) t in
      by_pin (subst (λ l. All (λ other. AreJoined block (Signal other) (Pin (get_or (pins_of block) pin [])) → ⊥) l) (take_all (length (signals_of block)) (signals_of block) (omega arith))
      (none_before (length (signals_of block)) pin (omega arith) h large))

  -- the name of a net
  net_name : (pin : ℕ) → pin < length (pins_of block) → IsNetName block (label_at (the_points block) pin) (class_name (the_points block) of pin)
  net_name pin h = named pin (nat_lt (get_or of (length (signals_of block) + pin) 0) (length (signals_of block))) h refl

  map_twice : (pins : List ℕ) → map (λ pin. net_pin (label_at (the_points block) pin)) pins ≡ map net_pin (map (label_at (the_points block)) pins)
  map_twice [] = refl
  map_twice (pin ∷ pins) = ap (λ l. net_pin (label_at (the_points block) pin) ∷ l) (map_twice pins)

  -- the nets of the groups
  group_nets : {R : ℕ → ℕ → Type 0} {xs : List ℕ} {groups : List (List ℕ)} → Classes R xs groups → ((x : ℕ) → Contains xs x → x < length (pins_of block))
      → AllZip (IsNet block) (map (map (label_at (the_points block))) groups) (map (group_net (the_points block) of) groups)
  group_nets no_class within = tt
  group_nets {R} (a_class {p} {xs} {ins} {outs} parts rest) within =
      ((net_name p (within p (first p xs)), map_twice (p ∷ ins)), group_nets rest (λ x m. within x (later p x xs (parts_outs R parts x m).1)))

  -- the labels of all pins
  labels_below : (n : ℕ) → n ≤ length (pins_of block) → map (label_at (the_points block)) (numbers_below n) ≡ take n (pins_of block)
  labels_below zero h = refl
  labels_below (suc n) h =
      map-append (label_at (the_points block)) (numbers_below n) (n ∷ [])
      ∙ ap (λ l. l ++ get_or (pins_of block) n [] ∷ []) (labels_below n (omega arith))
      ∙ sym (take-suc (pins_of block) n [] (omega arith))

  -- The groups by class numbers are the classes of joined pins.
  label_classes : (groups : List (List ℕ)) → Classes (SameClass of (length (signals_of block))) (numbers_below (length (pins_of block))) groups
      → Classes (λ a b. AreJoined block (Pin a) (Pin b)) (pins_of block) (map (map (label_at (the_points block))) groups)
  label_classes groups classes =
      subst (λ l. Classes (λ a b. AreJoined block (Pin a) (Pin b)) l (map (map (label_at (the_points block))) groups))
      (labels_below (length (pins_of block)) (omega arith) ∙ take_all (length (pins_of block)) (pins_of block) (omega arith))
      (classes_map (label_at (the_points block)) (λ a b. AreJoined block (Pin a) (Pin b))
      (classes_same (SameClass of (length (signals_of block))) (λ i j. AreJoined block (Pin (label_at (the_points block) i)) (Pin (label_at (the_points block) j))) classes
      (λ i j m n. (joined_pins i j (below (length (pins_of block)) i m) (below (length (pins_of block)) j n), same_pins i j (below (length (pins_of block)) i m) (below (length (pins_of block)) j n)))))

  -- The net list of the groups is the block's.
  pub made_list : (value : List ℕ) (groups : List (List ℕ)) → Classes (SameClass of (length (signals_of block))) (numbers_below (length (pins_of block))) groups
      → IsNetList block value (record { comps = comps_with (is_comp block) value; nets = map (group_net (the_points block) of) groups })
  made_list value groups classes = record {
    comps = refl;
    classes = map (map (label_at (the_points block))) groups;
    are_classes = label_classes groups classes;
    nets = group_nets classes (below (length (pins_of block)));
  }

-- ---- what `list_of` has in hand

same_points : (block : Block) (points : Points) → points.signals ≡ signals_of block → points.pins ≡ pins_of block → points ≡ the_points block
same_points block points p q = ap (λ s. record { signals = s; pins = points.pins }) p ∙ ap (λ n. record { signals = signals_of block; pins = n }) q

module _ (block : Block) (known : AreKnown block) (points : Points) (signals_are : points.signals ≡ signals_of block) (pins_are : points.pins ≡ pins_of block) where
  all_joins : (joins : List (ℕ × ℕ)) → ((i j : ℕ) → Contains joins (i, j) → (i < point_count block) × (j < point_count block)) → All (λ join. (join.0 < point_count block) × (join.1 < point_count block)) joins
  all_joins joins within k d h = within (get_or joins k d).0 (get_or joins k d).1 (k, h, get_or_default joins k (get_or joins k d) d h)

  -- the joins are of numbers of points
  pub joins_fit : (joins : List (ℕ × ℕ)) (count : ℕ) → joins ≡ lines_joins points block.lines → count ≡ length points.signals + length points.pins → All (λ join. (join.0 < count) × (join.1 < count)) joins
  joins_fit joins count is many =
      subst (λ n. All (λ join. (join.0 < n) × (join.1 < n)) joins) (sym (many ∙ ap (λ s. length s + length points.pins) signals_are ∙ ap (λ n. length (signals_of block) + length n) pins_are))
      (subst (All (λ join. (join.0 < point_count block) × (join.1 < point_count block))) (sym (is ∙ ap (λ ps. lines_joins ps block.lines) (same_points block points signals_are pins_are)))
      (all_joins (lines_joins (the_points block) block.lines) (join_within block known)))

  -- the class numbers are those of the block's points
  class_numbers : (joins : List (ℕ × ℕ)) (count : ℕ) (of : List ℕ) → joins ≡ lines_joins points block.lines → count ≡ length points.signals + length points.pins → AreClassNumbers count joins of
      → AreClassNumbers (point_count block) (lines_joins (the_points block) block.lines) of
  class_numbers joins count of is many are =
      subst (λ n. AreClassNumbers n (lines_joins (the_points block) block.lines) of) (many ∙ ap (λ s. length s + length points.pins) signals_are ∙ ap (λ n. length (signals_of block) + length n) pins_are)
      (subst (λ js. AreClassNumbers count js of) (is ∙ ap (λ ps. lines_joins ps block.lines) (same_points block points signals_are pins_are)) are)

  -- the pins of the groups are numbers of pins
  pub groups_fit : (of : List ℕ) (first pins : ℕ) (groups : List (List ℕ)) → pins ≡ length points.pins → Classes (SameClass of first) (numbers_below pins) groups
      → All (λ group. All (λ pin. pin < length points.pins) group) groups
  groups_fit of first pins groups many classes k d h j e l =
      let group : List ℕ = get_or groups k d in
      let pin : get_or group j e < pins = below pins (get_or group j e) (class_points (SameClass of first) classes group (get_or group j e) (k, h, get_or_default groups k group d h) (j, l, get_or_default group j (get_or group j e) e l)) in
      omega (arith, pin, many)

  -- the net list that is made is the block's
  pub list_made : (joins : List (ℕ × ℕ)) (count : ℕ) (of : List ℕ) (first pins : ℕ) (groups : List (List ℕ)) (value : List ℕ) (comp : Bool) (list : NetList) → joins ≡ lines_joins points block.lines → count ≡ length points.signals + length points.pins
      → AreClassNumbers count joins of → first ≡ length points.signals → pins ≡ length points.pins → Classes (SameClass of first) (numbers_below pins) groups
      → comp ≡ is_comp block → list.comps ≡ comps_with comp value → list.nets ≡ map (group_net points of) groups → IsNetList block value list
  list_made joins count of first pins groups value comp list is many are start size classes comp_is comps nets =
      let numbers = class_numbers joins count of is many are in
      let begin : first ≡ length (signals_of block) = start ∙ ap length signals_are in
      let end : pins ≡ length (pins_of block) = size ∙ ap length pins_are in
      let told : Classes (SameClass of (length (signals_of block))) (numbers_below (length (pins_of block))) groups =
      subst (λ n. Classes (SameClass of (length (signals_of block))) (numbers_below n) groups) end (subst (λ f. Classes (SameClass of f) (numbers_below pins) groups) begin classes) in
      let made : list ≡ record { comps = comps_with (is_comp block) value; nets = map (group_net (the_points block) of) groups } =
      ap (λ c. record { comps = c; nets = list.nets }) (comps ∙ ap (λ b. comps_with b value) comp_is)
      ∙ ap (λ n. record { comps = comps_with (is_comp block) value; nets = n }) (nets ∙ ap (λ ps. map (group_net ps of) groups) (same_points block points signals_are pins_are)) in
      subst (IsNetList block value) (sym made) (made_list block known of numbers value groups told)

-- whether there is a part, as it is told by numbers
pub comp_told : (block : Block) (slots pins : ℕ) (points : Points) → slots ≡ slot_count (part_of block.lines) → pins ≡ length points.pins → points.pins ≡ pins_of block
    → (nat_lt 0 slots || nat_lt 0 pins) ≡ is_comp block
comp_told block slots pins points h k e =
    ap (λ n. nat_lt 0 n || nat_lt 0 pins) h ∙ ap (λ n. nat_lt 0 (slot_count (part_of block.lines)) || nat_lt 0 n) (k ∙ ap length e)
    ∙ ap (λ b. b || nat_lt 0 (length (pins_of block))) (some (part_of block.lines))
  where
    some : (part : Option Part) → nat_lt 0 (slot_count part) ≡ is_some part
    some None = refl
    some (Some part) = refl
