-- The end of a path is the same side by the numbers of nodes.
use Rattle.std.proofs.Common.{◌≡◌, ℕ, suc, Bool, true, false, true≢false, ◌||◌, if◌then◌else◌, List, [], ◌∷◌, ◌++◌, length, Option, Some, None, inl, inr, refl, ap, sym, subst, ◌∙◌, arith}
use Rattle.std.specs.Prelude.{slice_get, option_to_list}
use Rattle.std.specs.List.{flat_map}
use Rattle.std.specs.Option.{option_and_then}
use Rattle.std.specs.Str.{bytes_eq}
use Rattle.std.proofs.lemmas.Option.{none-some, same_Some}
use Rattle.std.proofs.lemmas.Slice.Eq.{bytes_eq-Decides}
use Rattle.ato_base.specs.declared.places.Span.{Span}
use Rattle.ato_base.specs.declared.tokens.TokenKind.{TokenKind}
use Rattle.ato_ast.specs.declared.names.Named.{Named}
use Rattle.ato_files.specs.declared.program.Program.{Program}
use Rattle.ato_files.specs.Blocks.{blocks_of}
use Rattle.ato_files.specs.Members.{Kind, signal, instance, param}
use Rattle.ato_instance_tree.specs.declared.tree.Node.{Node}
use Rattle.ato_instance_tree.specs.declared.tree.NodeKind.TheVariants as node
use Rattle.ato_instance_tree.specs.Members.{Member, pin, named, source_text, members}
use Rattle.ato_instance_tree.specs.Walk.{type_at}
use Rattle.ato_instance_tree.specs.Order.{Spot, leaf, made_at, nodes}
use Rattle.ato_instance_tree.specs.Trees.{steps}
use Rattle.ato_instance_tree.specs.Paths.{Found, lost, free, member_of, pin_of, member_at, end_found, onward, find_steps, is_pin_of, has_pin, number_place, pin_found, steps_found, ended, pin_ended}
use Rattle.ato_instance_tree.specs.Targets.{child, named_child, led, led_from, pin_at, pinned}
use Rattle.ato_instance_tree.specs.Laws.{SpotPlace, at_names, at_label, place_of}
use Rattle.ato_instance_tree.proofs.NodeLaws.{leaf_stands, instance_stands, has_leaf}
use Rattle.ato_instance_tree.proofs.PlaceLaws.{place_in, IsOfKind, kind_place, has_member, has_node}
use Rattle.ato_instance_tree.proofs.SpotLaws.{IsIn, at_in, names_of, no_node_twice}
use Rattle.ato_links.specs.Links.{point, nothing, side_of, member_side, found_side}
use Rattle.ato_connections.specs.declared.sides.Side.{Side}
use Rattle.ato_connections.specs.declared.sides.Side.TheVariants as side
use Rattle.ato_connections.specs.NodeLinks.{node_side, kind_side, reached, at_end}
use Rattle.ato_connections.specs.Placing.{IsSide, IsKnown, PathsAgree}
use Rattle.ato_connections.proofs.ChildLaws.{node_said, at_place, child_none, no_place, name_steps, named_some, label_some, spot_named}
use Rattle.ato_connections.proofs.MemberSides.{leaf_side}

abbrev is_made : Spot → Bool
is_made (leaf path m) = false
is_made (made_at path) = true

abbrev is_label : SpotPlace → Bool
is_label (at_names path) = false
is_label (at_label path text) = true

abbrev label_in : SpotPlace → List ℕ
label_in (at_names p) = []
label_in (at_label p l) = l

abbrev rest : List ℕ → List ℕ
rest [] = []
rest (x ∷ xs) = xs

nil_cons : (n : ℕ) (path : List ℕ) → n ∷ path ≡ [] → ⊥
nil_cons n path e = let long = ap length e in omega arith

-- a pin by its label, and back
pin_there : (ms : List Member) (text : List ℕ) → has_pin ms text ≡ true → IsIn (pin text) ms
pin_there [] text e = absurd (true≢false (sym e))
pin_there (pin label ∷ ms) text e = by (bytes_eq text label) refl e (pin_there ms text) where
  by : (b : Bool) → bytes_eq text label ≡ b → (b || has_pin ms text) ≡ true → (has_pin ms text ≡ true → IsIn (pin text) ms) → IsIn (pin text) (pin label ∷ ms)
  by true f g more = inl (ap (λ l. pin l) ((bytes_eq-Decides text label).0 f))
  by false f g more = inr (more g)
pin_there (named n k ∷ ms) text e = inr (pin_there ms text e)

there_pin : (ms : List Member) (text : List ℕ) → IsIn (pin text) ms → has_pin ms text ≡ true
there_pin [] text k = absurd k
there_pin (m ∷ ms) text (inl e) = ap (λ x. is_pin_of text x || has_pin ms text) (sym e) ∙ ap (λ b. b || has_pin ms text) ((bytes_eq-Decides text text).1 refl)
there_pin (m ∷ ms) text (inr k) = or_later (is_pin_of text m) (has_pin ms text) (there_pin ms text k) where
  or_later : (a b : Bool) → b ≡ true → (a || b) ≡ true
  or_later true b e = refl
  or_later false b e = e

-- a side at the end of a path
end_of : (spots : List Spot) (path : List ℕ) (name : ℕ) (k : Kind) (s : Side) → IsSide spots (side_of path name (Some k)) s
    → IsSide spots (member_side path name k) (at_end s)
end_of spots path name signal (side.Point n) h = h
end_of spots path name signal (side.Quantity n) h = absurd h
end_of spots path name signal (side.Inside n) h = absurd h
end_of spots path name signal side.Nothing h = absurd h
end_of spots path name param (side.Point n) h = absurd h
end_of spots path name param (side.Quantity n) h = tt
end_of spots path name param (side.Inside n) h = absurd h
end_of spots path name param side.Nothing h = absurd h
end_of spots path name (instance type) (side.Point n) h = absurd h
end_of spots path name (instance type) (side.Quantity n) h = absurd h
end_of spots path name (instance type) (side.Inside n) h = h
end_of spots path name (instance type) side.Nothing h = absurd h

module _ (program : Program) (entry : ℕ) (ns : List Node) (known : IsKnown program entry ns) where
  abbrev all : List Spot
  all = nodes program.files entry

  abbrev depth : ℕ
  depth = suc (length (blocks_of program.files))

  -- ---- nothing stands below a leaf

  around_name : (n : ℕ) (path : List ℕ) (s : Spot) → IsIn s all → place_of s ≡ at_names (n ∷ path) → IsIn (made_at path) all
  around_name n path (leaf other (pin text)) k e = absurd (true≢false (ap is_label e))
  around_name n path (leaf other (named m kind)) k e = subst (λ p. IsIn (made_at p) all) (ap (λ p. rest (names_of p)) e)
      (leaf_stands program.files entry depth [] other (named m kind) k).at
  around_name n path (made_at other) k e = by other (ap names_of e) k where
    by : (other : List ℕ) → other ≡ n ∷ path → IsIn (made_at other) all → IsIn (made_at path) all
    by [] f m = absurd (nil_cons n path (sym f))
    by (x ∷ up) f m = elim (instance_stands program.files entry depth [] up x m) [
      | inl g ↦ absurd (nil_cons x up g)
      | inr there ↦ subst (λ p. IsIn (made_at p) all) (ap rest f) there.at
    ]

  around_label : (text path : List ℕ) (s : Spot) → IsIn s all → place_of s ≡ at_label path text → IsIn (made_at path) all
  around_label text path (leaf other (pin label)) k e = subst (λ p. IsIn (made_at p) all) (ap names_of e)
      (leaf_stands program.files entry depth [] other (pin label) k).at
  around_label text path (leaf other (named m kind)) k e = absurd (true≢false (sym (ap is_label e)))
  around_label text path (made_at other) k e = absurd (true≢false (sym (ap is_label e)))

  not_both : (a : ℕ) (path other : List ℕ) (m : Member) → slice_get all a ≡ Some (leaf other m) → place_of (leaf other m) ≡ at_names path
      → IsIn (made_at path) all → ⊥
  not_both a path other m e f k =
      let i = place_in (made_at path) all k in
      let same = no_node_twice program.files entry i.0 a (made_at path) (leaf other m) i.1 e (sym f) in
      true≢false (ap is_made (same_Some (made_at path) (leaf other m) (sym i.1 ∙ ap (slice_get all) same ∙ e)))

  -- ---- the children of a node

  abbrev NoneAt : SpotPlace → Type 0
  NoneAt p = (j : ℕ) (s : Spot) → slice_get all j ≡ Some s → place_of s ≡ p → ⊥

  pub child_named : (a j n : ℕ) (path : List ℕ) (s : Spot) → slice_get all a ≡ Some (made_at path) → slice_get all j ≡ Some s → place_of s ≡ at_names (n ∷ path)
      → named_child program.names ns a n ≡ Some j
  child_named a j n path s at e f =
      let t = spot_named program entry ns known a j n path s at e f in
      ap (option_and_then (child ns a false)) t.1 ∙ named_some program entry ns known a j n path t.0 s at t.1 e f

  no_child : (a n : ℕ) (path : List ℕ) (s : Spot) → slice_get all a ≡ Some s → place_of s ≡ at_names path → NoneAt (at_names (n ∷ path))
      → named_child program.names ns a n ≡ None
  no_child a n path s e f no_one = by (slice_get program.names n) refl where
    by : (o : Option (List ℕ)) → slice_get program.names n ≡ o → option_and_then (child ns a false) o ≡ None
    by None g = refl
    by (Some text) g = child_none program entry ns known a false text (steps program.names path) (at_place program entry ns known a s (at_names path) e f)
        (no_place program entry ns known (at_names (n ∷ path)) (record { pin = false; text = Some text } ∷ steps program.names path)
        (name_steps program entry ns known n path text g) no_one)

  no_label : (a : ℕ) (path text : List ℕ) (s : Spot) → slice_get all a ≡ Some s → place_of s ≡ at_names path → NoneAt (at_label path text)
      → child ns a true text ≡ None
  no_label a path text s e f no_one = child_none program entry ns known a true text (steps program.names path)
      (at_place program entry ns known a s (at_names path) e f)
      (no_place program entry ns known (at_label path text) (record { pin = true; text = Some text } ∷ steps program.names path) refl no_one)

  -- ---- down the names of a path

  record IsMember (holder : List ℕ) (n : Named) (k : Kind) (target : Option ℕ) : Type 0 where
    number : ℕ
    found : target ≡ Some number
    spot : Spot
    at : slice_get all number ≡ Some spot
    of : IsOfKind holder n.name.0 k spot

  abbrev IsLed : Found → Option ℕ → Type 0
  IsLed (lost at) target = target ≡ None
  IsLed (free holder n) target = target ≡ None
  IsLed (member_of holder n k) target = IsMember holder n k target
  IsLed (pin_of holder n) target = ⊥

  one_name : (path : List ℕ) (n : Named) (a : ℕ) → slice_get all a ≡ Some (made_at path) → (o : Option Kind) → member_at program.files entry path n.name.0 ≡ o
      → IsLed (end_found path n o) (named_child program.names ns a n.name.0)
  one_name path n a e None f = no_child a n.name.0 path (made_at path) e refl
      (λ j s at place. let k = has_member program.files entry path n.name.0 s (at_in s all j at) place in none-some k.0 (sym f ∙ k.1))
  one_name path n a e (Some k) f =
      let s = has_node program.files entry known.most known.below known.sound path n.name.0 k (at_in (made_at path) all a e) f in
      let j = place_in s.0 all s.1 in
      record {
        number = j.0;
        found = child_named a j.0 n.name.0 path s.0 e j.1 (kind_place path n.name.0 k s.0 s.2);
        spot = s.0;
        at = j.1;
        of = s.2;
      }

  no_further : (path : List ℕ) (m : Named) (more : List Named) (j : ℕ) (other : List ℕ) (x : Member) → slice_get all j ≡ Some (leaf other x)
      → place_of (leaf other x) ≡ at_names path
      → led program.names ns (m ∷ more) j ≡ None
  no_further path m more j other x e f = ap (option_and_then (led program.names ns more)) (no_child j m.name.0 path (leaf other x) e f
      (λ i s at place. not_both j path other x e f (around_name m.name.0 path s (at_in s all i at) place)))

  go_on : (path : List ℕ) (n m : Named) (more : List Named) (a : ℕ)
      → ((b : ℕ) → slice_get all b ≡ Some (made_at (n.name.0 ∷ path))
      → IsLed (find_steps program.files entry (n.name.0 ∷ path) m more) (led program.names ns (m ∷ more) b))
      → (o : Option Kind) → IsLed (end_found path n o) (named_child program.names ns a n.name.0)
      → IsLed (onward n m o (find_steps program.files entry (n.name.0 ∷ path) m more))
      (option_and_then (led program.names ns (m ∷ more)) (named_child program.names ns a n.name.0))
  go_on path n m more a next None one = ap (option_and_then (led program.names ns (m ∷ more))) one
  go_on path n m more a next (Some signal) one = ap (option_and_then (led program.names ns (m ∷ more))) one.found
      ∙ no_further (n.name.0 ∷ path) m more one.number path (named one.of.0 signal) (one.at ∙ ap Some one.of.2) (ap (λ x. at_names (x ∷ path)) one.of.1)
  go_on path n m more a next (Some param) one = ap (option_and_then (led program.names ns (m ∷ more))) one.found
      ∙ no_further (n.name.0 ∷ path) m more one.number path (named one.of.0 param) (one.at ∙ ap Some one.of.2) (ap (λ x. at_names (x ∷ path)) one.of.1)
  go_on path n m more a next (Some (instance type)) one =
      subst (IsLed (find_steps program.files entry (n.name.0 ∷ path) m more)) (sym (ap (option_and_then (led program.names ns (m ∷ more))) one.found))
      (next one.number (one.at ∙ ap Some one.of))

  itself : (o : Option ℕ) → o ≡ option_and_then (led program.names ns []) o
  itself None = refl
  itself (Some j) = refl

  steps_led : (path : List ℕ) (n : Named) (more : List Named) (a : ℕ) → slice_get all a ≡ Some (made_at path)
      → IsLed (find_steps program.files entry path n more) (led program.names ns (n ∷ more) a)
  steps_led path n [] a e = subst (IsLed (end_found path n (member_at program.files entry path n.name.0))) (itself (named_child program.names ns a n.name.0))
      (one_name path n a e (member_at program.files entry path n.name.0) refl)
  steps_led path n (m ∷ more) a e = go_on path n m more a (steps_led (n.name.0 ∷ path) m more) (member_at program.files entry path n.name.0)
      (one_name path n a e (member_at program.files entry path n.name.0) refl)

  path_led : (path : List ℕ) (whole : Span) (steps : List Named) (a : ℕ) → slice_get all a ≡ Some (made_at path)
      → IsLed (steps_found program.files entry path whole steps) (led_from program.names ns steps a)
  path_led path whole [] a e = refl
  path_led path whole (n ∷ more) a e = steps_led path n more a e

  -- ---- on to a pin

  abbrev IsEnd : List Span → Found → Option ℕ → Type 0
  IsEnd numbers found target = IsSide all (found_side program.files numbers found) (at_end (reached ns target))

  -- what leads nowhere is no side
  no_end : (target : Option ℕ) → target ≡ None → IsSide all nothing (at_end (reached ns target))
  no_end target e = subst (λ o. IsSide all nothing (at_end (reached ns o))) (sym e) tt

  pin_at_label : (text path : List ℕ) (s : Spot) → IsIn s all → place_of s ≡ at_label path text
      → has_pin (members program.files (type_at program.files entry path)) text ≡ true
  pin_at_label text path (leaf other (named m kind)) k e = absurd (true≢false (sym (ap is_label e)))
  pin_at_label text path (made_at other) k e = absurd (true≢false (sym (ap is_label e)))
  pin_at_label text path (leaf other (pin label)) k e = there_pin (members program.files (type_at program.files entry path)) text
      (subst (λ l. IsIn (pin l) (members program.files (type_at program.files entry path))) (ap label_in e)
      (subst (λ p. IsIn (pin label) (members program.files (type_at program.files entry p))) (ap names_of e)
      (leaf_stands program.files entry depth [] other (pin label) k).is))

  abbrev text_of : Span → List ℕ
  text_of number = source_text program.files number

  pin_of_leaf : (path : List ℕ) (j : ℕ) (text other : List ℕ) (x : Member) → slice_get all j ≡ Some (leaf other x) → place_of (leaf other x) ≡ at_names path
      → child ns j true text ≡ None
  pin_of_leaf path j text other x e f = no_label j path text (leaf other x) e f
      (λ i s at place. not_both j path other x e f (around_label text path s (at_in s all i at) place))

  -- the side of a pin
  pin_side : (j : ℕ) (path text : List ℕ) → slice_get all j ≡ Some (leaf path (pin text)) → at_end (reached ns (Some j)) ≡ side.Point j
  pin_side j path text e =
      let s = node_said program entry ns known j (leaf path (pin text)) e in
      ap at_end (ap (node_side j) s.at ∙ ap (λ k. kind_side k j) (sym (same_Some node.Pin s.node.kind s.kind)))

  pin_of_instance : (path : List ℕ) (n : Named) (number : Span) (more : List Span) (j : ℕ) → slice_get all j ≡ Some (made_at path)
      → (b : Bool) → has_pin (members program.files (type_at program.files entry path)) (text_of number) ≡ b
      → IsEnd (number ∷ more) (if b then pin_of path n else lost number) (child ns j true (text_of number))
  pin_of_instance path n number more j e true f =
      let s = has_leaf program.files entry depth [] path (pin (text_of number))
      (record {
        at = at_in (made_at path) all j e;
        is = pin_there (members program.files (type_at program.files entry path))
            (text_of number) f;
        no_instance = refl;
      }) in
      let i = place_in (leaf path (pin (text_of number))) all s in
      subst (λ x. IsSide all (point (at_label path (text_of number))) x)
      (sym (ap (λ o. at_end (reached ns o)) (label_some program entry ns known j i.0 path (text_of number) (leaf path (pin (text_of number))) e i.1 refl)
      ∙ pin_side i.0 path (text_of number) i.1))
      (record { node = leaf path (pin (text_of number)); is = i.1; at = refl })
  pin_of_instance path n number more j e false f = no_end (child ns j true (text_of number)) (no_label j path (text_of number) (made_at path) e refl
      (λ i s at place. true≢false (sym (pin_at_label (text_of number) path s (at_in s all i at) place) ∙ f)))

  on_number : (number : Span) (more : List Span) (found : Found) (target : Option ℕ) → IsLed found target
      → IsEnd (number ∷ more) (pin_found program.files entry number found) (option_and_then (pin_at program.files ns (number ∷ more)) target)
  on_number number more (lost at) target led = no_end (option_and_then (pin_at program.files ns (number ∷ more)) target)
      (ap (option_and_then (pin_at program.files ns (number ∷ more))) led)
  on_number number more (free holder n) target led = no_end (option_and_then (pin_at program.files ns (number ∷ more)) target)
      (ap (option_and_then (pin_at program.files ns (number ∷ more))) led)
  on_number number more (pin_of holder n) target led = absurd led
  on_number number more (member_of holder n signal) target led = no_end (option_and_then (pin_at program.files ns (number ∷ more)) target)
      (ap (option_and_then (pin_at program.files ns (number ∷ more))) led.found
      ∙ pin_of_leaf (n.name.0 ∷ holder) led.number (text_of number) holder (named led.of.0 signal) (led.at ∙ ap Some led.of.2)
      (ap (λ x. at_names (x ∷ holder)) led.of.1))
  on_number number more (member_of holder n param) target led = no_end (option_and_then (pin_at program.files ns (number ∷ more)) target)
      (ap (option_and_then (pin_at program.files ns (number ∷ more))) led.found
      ∙ pin_of_leaf (n.name.0 ∷ holder) led.number (text_of number) holder (named led.of.0 param) (led.at ∙ ap Some led.of.2)
      (ap (λ x. at_names (x ∷ holder)) led.of.1))
  on_number number more (member_of holder n (instance type)) target led =
      subst (IsEnd (number ∷ more) (pin_found program.files entry number (member_of holder n (instance type))))
      (sym (ap (option_and_then (pin_at program.files ns (number ∷ more))) led.found))
      (pin_of_instance (n.name.0 ∷ holder) n number more led.number (led.at ∙ ap Some led.of)
      (has_pin (members program.files (type_at program.files entry (n.name.0 ∷ holder))) (text_of number)) refl)

  no_number : (target : Option ℕ) → option_and_then (pin_at program.files ns []) target ≡ None
  no_number None = refl
  no_number (Some j) = refl

  on_numbers : (whole : Span) (numbers : List Span) (found : Found) (target : Option ℕ) → IsLed found target
      → IsEnd (numbers ++ []) (ended program.files entry whole numbers found) (option_and_then (pin_at program.files ns numbers) target)
  on_numbers whole [] found target led = no_end (option_and_then (pin_at program.files ns []) target) (no_number target)
  on_numbers whole (number ∷ more) found target led = on_number number (more ++ []) found target led

  without : (found : Found) (target : Option ℕ) → IsLed found target → IsEnd [] found (option_and_then (pinned program.files ns None) target)
  without (lost at) target led = no_end (option_and_then (pinned program.files ns None) target) (ap (option_and_then (pinned program.files ns None)) led)
  without (free holder n) target led = no_end (option_and_then (pinned program.files ns None) target) (ap (option_and_then (pinned program.files ns None)) led)
  without (pin_of holder n) target led = absurd led
  without (member_of holder n k) target led = subst (IsEnd [] (member_of holder n k)) (sym (ap (option_and_then (pinned program.files ns None)) led.found))
      (end_of all holder n.name.0 k (reached ns (Some led.number)) (leaf_side program entry ns known led.number led.spot holder n.name.0 k led.at led.of))

  with_pin : (whole : Span) (kind : Option TokenKind) (found : Found) (target : Option ℕ) → IsLed found target
      → IsEnd (flat_map number_place (option_to_list kind)) (pin_ended program.files entry whole kind found)
      (option_and_then (pinned program.files ns kind) target)
  with_pin whole None found target led = without found target led
  with_pin whole (Some kind) found target led = on_numbers whole (number_place kind) found target led

pub paths : PathsAgree
paths program entry number ns path p known at = with_pin program entry ns known p.at p.pin (steps_found program.files entry path p.at p.steps)
    (led_from program.names ns p.steps number)
    (path_led program entry ns known path p.at p.steps number at.is)
