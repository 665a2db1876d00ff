-- The node to which a path leads is the one at that place.
use Rattle.std.proofs.Common.{◌≡◌, ◌<◌, ◌≤◌, ℕ, zero, suc, ◌+◌, Bool, true, false, true≢false, ◌&&◌, ◌||◌, cond, nat_eq, List, [], ◌∷◌, ◌++◌, map, fold, length, Option, Some, None, inl, inr, refl, ap, sym, subst, ◌∙◌, append_assoc, append-nil, length-append, arith}
use Rattle.std.specs.Prelude.{slice_get, position, option_to_list, MatchOption}
use Rattle.std.specs.Bool.{beq}
use Rattle.std.specs.List.{position_from, list_any}
use Rattle.std.specs.Option.{option_and_then, option_map}
use Rattle.std.specs.Str.{bytes_eq}
use Rattle.std.proofs.lemmas.Bool.{eq-eqb, eqb-true}
use Rattle.std.proofs.lemmas.List.{length-map}
use Rattle.std.proofs.lemmas.Option.{none-some, same_Some, slice_get-map, slice_get_cases, slice_get_within, slice_get_past}
use Rattle.std.proofs.lemmas.Slice.Eq.{bytes_eq-Decides}
use Rattle.ato_base.specs.declared.places.Span.{Span}
use Rattle.ato_base.specs.declared.tokens.TokenKind.{TokenKind}
use Rattle.ato_ast.specs.declared.names.Named.{Named}
use Rattle.ato_ast.specs.declared.paths.Path.{Path}
use Rattle.ato_files.specs.declared.program.SourceFile.{SourceFile}
use Rattle.ato_files.specs.declared.program.Program.{Program}
use Rattle.ato_files.proofs.PositionLemmas.{position_is}
use Rattle.ato_instance_tree.specs.declared.tree.Node.{Node}
use Rattle.ato_instance_tree.specs.declared.tree.Occurrence.{Occurrence}
use Rattle.ato_instance_tree.specs.declared.tree.Tree.{Tree}
use Rattle.ato_instance_tree.specs.Members.{source_text}
use Rattle.ato_instance_tree.specs.Paths.{number_place}
use Rattle.ato_instance_tree.specs.Walk.{Occ}
use Rattle.ato_instance_tree.specs.Order as order
use Rattle.ato_instance_tree.specs.Order.{Spot, nodes}
use Rattle.ato_instance_tree.specs.Targets.{is_called, child, named_child, led, led_from, pin_at, pinned, target_of, steps_down, way_from, way_at, way_pinned, way_of, IsReached, ReachesNone}
use Rattle.ato_instance_tree.specs.Trees.{Step, Where, where_at, is_pin, step_of, below, with_path, node_paths, name_step, spot_said, steps, SaidOcc, occ_said, walked_said, IsTree}
use Rattle.ato_instance_tree.specs.TreeFaults.{Limits}
use Rattle.ato_instance_tree.specs.Elaborated.{IsElaborated, IsLoaded}
use Rattle.ato_instance_tree.proofs.PushLaws.{paths_long}
use Rattle.ato_instance_tree.proofs.LoadedLaws.{names_differ}
use Rattle.ato_instance_tree.proofs.TreeLaws.{Apart, tree_paths, nodes_apart, said_place}

-- ---- the place of a node, from that of its parent

early : (ws more : List Where) (i : ℕ) → i < length ws → where_at (ws ++ more) i ≡ where_at ws i
early [] more i h = absurd (omega arith)
early (w ∷ ws) more zero h = refl
early (w ∷ ws) more (suc i) h = early ws more i (omega arith)

stays : (ws more : List Where) (i : ℕ) (q : List Step) → where_at ws i ≡ Some q → where_at (ws ++ more) i ≡ Some q
stays [] more i q e = absurd (none-some q e)
stays (w ∷ ws) more zero q e = e
stays (w ∷ ws) more (suc i) q e = stays ws more i q e

last_at : (ws : List Where) (w : Where) (i : ℕ) → i ≡ length ws → where_at (ws ++ w ∷ []) i ≡ w
last_at [] w zero e = refl
last_at [] w (suc i) e = absurd (omega arith)
last_at (v ∷ ws) w zero e = absurd (omega arith)
last_at (v ∷ ws) w (suc i) e = last_at ws w i (omega arith)

grown : (ws : List Where) (ns : List Node) → (more : List Where) × (fold with_path ws ns ≡ ws ++ more)
grown ws [] = ([], sym (append-nil ws))
grown ws (n ∷ ns) = let more = grown (with_path ws n) ns in
    (below ws n n.parent ∷ more.0, more.1 ∙ append_assoc ws (below ws n n.parent ∷ []) more.0)

-- The node is below those that stand before it.
record IsBelow (all : List Where) (i : ℕ) (n : Node) : Type 0 where
  before : List Where
  front : (q : ℕ) (p : List Step) → where_at before q ≡ Some p → where_at all q ≡ Some p
  at : where_at all i ≡ below before n n.parent

below_at : (ws : List Where) (ns : List Node) (i k : ℕ) (n : Node) → slice_get ns i ≡ Some n → k ≡ length ws + i → IsBelow (fold with_path ws ns) k n
below_at ws [] i k n e h = absurd (none-some n e)
below_at ws (x ∷ ns) zero k n e h =
    let more = grown (with_path ws x) ns in
    let all = grown ws (x ∷ ns) in
    let same = same_Some x n e in
    let long = length-append ws (below ws x x.parent ∷ []) in
    record {
      before = ws;
      front = λ q p f. ap (λ l. where_at l q) all.1 ∙ stays ws all.0 q p f;
      at = ap (λ l. where_at l k) more.1 ∙ early (ws ++ below ws x x.parent ∷ []) more.0 k (omega arith) ∙ last_at ws (below ws x x.parent) k (omega arith)
          ∙ ap (λ (m : Node). below ws m m.parent) same;
    }
below_at ws (x ∷ ns) (suc i) k n e h = let long = length-append ws (below ws x x.parent ∷ []) in below_at (with_path ws x) ns i k n e (omega arith)

heads : (s t : Step) (v w : List Step) → s ∷ v ≡ t ∷ w → (s ≡ t) × (v ≡ w)
heads s t v w e = (cc, cc)

module _ (ns : List Node) where
  below_here : (i : ℕ) (n : Node) → slice_get ns i ≡ Some n → IsBelow (node_paths ns) i n
  below_here i n e = below_at [] ns i i n e (omega arith)

  -- a node that has a parent is a step below it
  under : (before : List Where) (n : Node) (q : ℕ) (w : List Step) (o : Where) → where_at before q ≡ o → option_map (λ path. step_of n ∷ path) o ≡ Some w
      → (v : List Step) × (where_at before q ≡ Some v) × (step_of n ∷ v ≡ w)
  under before n q w None e f = absurd (none-some w f)
  under before n q w (Some v) e f = (v, e, same_Some (step_of n ∷ v) w f)

  above : (i q : ℕ) (n : Node) (w : List Step) → slice_get ns i ≡ Some n → where_at (node_paths ns) i ≡ Some w → n.parent ≡ Some q
      → (v : List Step) × (where_at (node_paths ns) q ≡ Some v) × (step_of n ∷ v ≡ w)
  above i q n w e f p =
      let b = below_here i n e in
      let u = under b.before n q w (where_at b.before q) refl (ap (below b.before n) (sym p) ∙ sym b.at ∙ f) in
      (u.0, b.front q u.0 u.1, u.2)

  -- the parent of a node that is a step below something
  record HasParent (n : Node) (s : Step) (v : List Step) : Type 0 where
    parent : ℕ
    is : n.parent ≡ Some parent
    at : where_at (node_paths ns) parent ≡ Some v
    step : step_of n ≡ s

  on_top : (i : ℕ) (n : Node) (s : Step) (v : List Step) → slice_get ns i ≡ Some n → where_at (node_paths ns) i ≡ Some (s ∷ v) → (o : Option ℕ) → n.parent ≡ o → HasParent n s v
  on_top i n s v e f None p =
      let b = below_here i n e in
      let both : Some [] ≡ Some (s ∷ v) = ap (below b.before n) (sym p) ∙ sym b.at ∙ f in
      let long = ap length (same_Some [] (s ∷ v) both) in absurd (omega arith)
  on_top i n s v e f (Some q) p =
      let a = above i q n (s ∷ v) e f p in
      let h = heads (step_of n) s a.0 v a.2 in
      record { parent = q; is = p; at = a.1 ∙ ap Some h.1; step = h.0 }

  node_there : (i : ℕ) (w : List Step) → where_at (node_paths ns) i ≡ Some w → (n : Node) × (slice_get ns i ≡ Some n)
  node_there i w e = elim (slice_get_cases ns i).1 [
    | inl x ↦ (x.0, x.2)
    | inr x ↦ (let past = x.0 in let long = paths_long ns in absurd (none-some w (sym (ap (option_and_then (λ (p : Where). p)) (slice_get_past (node_paths ns) i (omega arith))) ∙ e)))
  ]

-- ---- what a node is called

by_three : (a b c : Bool) → (a && b && c) ≡ true → (a ≡ true) × (b ≡ true) × (c ≡ true)
by_three true true true e = (refl, refl, refl)
by_three true true false e = absurd (true≢false (sym e))
by_three true false c e = absurd (true≢false (sym e))
by_three false b c e = absurd (true≢false (sym e))

has_parent : (q : ℕ) (o : Option ℕ) → list_any (nat_eq q) (option_to_list o) ≡ true → o ≡ Some q
has_parent q None e = absurd (true≢false (sym e))
has_parent q (Some p) e = by (nat_eq q p) refl e
  where
    by : (b : Bool) → nat_eq q p ≡ b → (b || false) ≡ true → Some p ≡ Some q
    by true f g = ap Some (sym (eqb-true q p f))
    by false f g = absurd (true≢false (sym g))

same_bool : (a b : Bool) → beq a b ≡ true → b ≡ a
same_bool true true e = refl
same_bool true false e = absurd (true≢false (sym e))
same_bool false true e = absurd (true≢false (sym e))
same_bool false false e = refl

self_bool : (a : Bool) → beq a a ≡ true
self_bool true = refl
self_bool false = refl

-- The node is called so.
record IsCalled (q : ℕ) (pin : Bool) (text : List ℕ) (n : Node) : Type 0 where
  parent : n.parent ≡ Some q
  kind : is_pin n.kind ≡ pin
  name : n.name ≡ text

called : (q : ℕ) (pin : Bool) (text : List ℕ) (n : Node) → is_called q pin text n ≡ true → IsCalled q pin text n
called q pin text n e =
    let p = by_three (list_any (nat_eq q) (option_to_list n.parent)) (beq pin (is_pin n.kind)) (bytes_eq text n.name) e in
    record { parent = has_parent q n.parent p.0; kind = same_bool pin (is_pin n.kind) p.1; name = sym ((bytes_eq-Decides text n.name).0 p.2) }

is_so_called : (q : ℕ) (pin : Bool) (text : List ℕ) (n : Node) → IsCalled q pin text n → is_called q pin text n ≡ true
is_so_called q pin text n c =
    ap (λ (o : Option ℕ). list_any (nat_eq q) (option_to_list o) && beq pin (is_pin n.kind) && bytes_eq text n.name) c.parent
    ∙ ap (λ b. (b || false) && beq pin (is_pin n.kind) && bytes_eq text n.name) (eq-eqb q q refl)
    ∙ ap (λ b. beq pin b && bytes_eq text n.name) c.kind
    ∙ ap (λ b. b && bytes_eq text n.name) (self_bool pin)
    ∙ (bytes_eq-Decides text n.name).1 (sym c.name)

-- the item at which a place was found
record IsFoundAt {X : Type 0} (p : X → Bool) (xs : List X) (i k : ℕ) : Type 0 where
  at : ℕ
  place : i ≡ k + at
  item : X
  there : slice_get xs at ≡ Some item
  passes : p item ≡ true

found_here : {X : Type 0} (p : X → Bool) (k i : ℕ) (x : X) (xs : List X) → (position_from p (k + 1) xs ≡ Some i → IsFoundAt p xs i (k + 1))
    → (b : Bool) → p x ≡ b → cond b (Some k) (position_from p (k + 1) xs) ≡ Some i → IsFoundAt p (x ∷ xs) i k
found_here p k i x xs more true f e = let same = same_Some k i e in record { at = 0; place = omega arith; item = x; there = refl; passes = f }
found_here p k i x xs more false f e = let m = more e in record { at = suc m.at; place = (let h = m.place in omega arith); item = m.item; there = m.there; passes = m.passes }

found_from : {X : Type 0} (p : X → Bool) (k : ℕ) (xs : List X) (i : ℕ) → position_from p k xs ≡ Some i → IsFoundAt p xs i k
found_from p k [] i e = absurd (none-some i e)
found_from p k (x ∷ xs) i e = found_here p k i x xs (found_from p (k + 1) xs i) (p x) refl e

none_later : {X : Type 0} (p : X → Bool) (k : ℕ) (xs : List X) → (position_from p (k + 1) xs ≡ None → ⊥) → (b : Bool) → cond b (Some k) (position_from p (k + 1) xs) ≡ None → ⊥
none_later p k xs more true g = none-some k (sym g)
none_later p k xs more false g = more g

none_from : {X : Type 0} (p : X → Bool) (k : ℕ) (xs : List X) (j : ℕ) (x : X) → position_from p k xs ≡ None → slice_get xs j ≡ Some x → p x ≡ true → ⊥
none_from p k [] j x e f t = absurd (none-some x f)
none_from p k (y ∷ xs) zero x e f t = absurd (none-some k (sym e ∙ ap (λ b. cond b (Some k) (position_from p (k + 1) xs)) (ap p (same_Some y x f) ∙ t)))
none_from p k (y ∷ xs) (suc j) x e f t = none_later p k xs (λ g. none_from p (k + 1) xs j x g f t) (p y) e

-- the node that is found
found_node : {X : Type 0} (p : X → Bool) (xs : List X) (i : ℕ) → position p xs ≡ Some i → (x : X) × (slice_get xs i ≡ Some x) × (p x ≡ true)
found_node p xs i e =
    let f = found_from p 0 xs i (sym (position_is p xs) ∙ e) in
    let same : i ≡ f.at = (let h = f.place in omega arith) in
    (f.item, ap (slice_get xs) same ∙ f.there, f.passes)

-- ---- one step

module _ (ns : List Node) (apart : Apart (node_paths ns)) (full : (i : ℕ) (n : Node) → slice_get ns i ≡ Some n → (w : List Step) × (where_at (node_paths ns) i ≡ Some w)) where
  module _ (q : ℕ) (v : List Step) (at : where_at (node_paths ns) q ≡ Some v) where
    step_called : (pin : Bool) (text : List ℕ) (n : Node) → IsCalled q pin text n → step_of n ≡ record { pin = pin; text = Some text }
    step_called pin text n c = ap (λ b. step b (Some n.name)) c.kind ∙ ap (λ t. step pin (Some t)) c.name
      where
        step : Bool → Option (List ℕ) → Step
        step b t = record { pin = b; text = t }

    child_there : (pin : Bool) (text : List ℕ) (i : ℕ) → child ns q pin text ≡ Some i → where_at (node_paths ns) i ≡ Some (record { pin = pin; text = Some text } ∷ v)
    child_there pin text i e =
        let f = found_node (is_called q pin text) ns i e in
        let c = called q pin text f.0 f.2 in
        let w = full i f.0 f.1 in
        let a = above ns i q f.0 w.0 f.1 w.1 c.parent in
        let same = same_Some a.0 v (sym a.1 ∙ at) in
        w.1 ∙ ap Some (sym a.2 ∙ ap (λ s. s ∷ a.0) (step_called pin text f.0 c) ∙ ap (λ l. record { pin = pin; text = Some text } ∷ l) same)

    child_nowhere : (pin : Bool) (text : List ℕ) → child ns q pin text ≡ None → (m : ℕ) → where_at (node_paths ns) m ≡ Some (record { pin = pin; text = Some text } ∷ v) → ⊥
    child_nowhere pin text e m f =
        let n = node_there ns m (record { pin = pin; text = Some text } ∷ v) f in
        let h = on_top ns m n.0 (record { pin = pin; text = Some text }) v n.1 f n.0.parent refl in
        let same = apart h.parent q v h.at at in
        none_from (is_called q pin text) 0 ns m n.0 (sym (position_is (is_called q pin text) ns) ∙ e) n.1
        (is_so_called q pin text n.0 (record {
          parent = h.is ∙ ap Some same;
          kind = ap (λ (s : Step). s.pin) h.step;
          name = same_Some n.0.name text (ap (λ (s : Step). s.text) h.step);
        }))

    name_there : (o : Option (List ℕ)) (i : ℕ) → option_and_then (child ns q false) o ≡ Some i → where_at (node_paths ns) i ≡ Some (record { pin = false; text = o } ∷ v)
    name_there None i e = absurd (none-some i e)
    name_there (Some text) i e = child_there false text i e

    name_nowhere : (o : Option (List ℕ)) → option_and_then (child ns q false) o ≡ None → (m : ℕ) → where_at (node_paths ns) m ≡ Some (record { pin = false; text = o } ∷ v) → ⊥
    name_nowhere None e m f =
        let n = node_there ns m (record { pin = false; text = None } ∷ v) f in
        let h = on_top ns m n.0 (record { pin = false; text = None }) v n.1 f n.0.parent refl in
        none-some n.0.name (sym (ap (λ (s : Step). s.text) h.step))
    name_nowhere (Some text) e m f = child_nowhere false text e m f

  -- ---- the names of a path

  led_there : (names : List (List ℕ)) (more : List Named) (q i : ℕ) (v : List Step) → where_at (node_paths ns) q ≡ Some v → led names ns more q ≡ Some i
      → where_at (node_paths ns) i ≡ Some (steps_down names more v)
  led_there names [] q i v at e = ap (where_at (node_paths ns)) (sym (same_Some q i e)) ∙ at
  led_there names (n ∷ more) q i v at e = by (named_child names ns q n.name.0) refl e
      (λ next f g. led_there names more next i (name_step names n.name.0 ∷ v) (name_there q v at (slice_get names n.name.0) next f) g)
    where
      by : (o : Option ℕ) → named_child names ns q n.name.0 ≡ o → option_and_then (led names ns more) o ≡ Some i
          → ((next : ℕ) → named_child names ns q n.name.0 ≡ Some next → led names ns more next ≡ Some i → where_at (node_paths ns) i ≡ Some (steps_down names (n ∷ more) v))
          → where_at (node_paths ns) i ≡ Some (steps_down names (n ∷ more) v)
      by None f g on = absurd (none-some i g)
      by (Some next) f g on = on next f g

  -- what is below something is below a node there
  up : (names : List (List ℕ)) (more : List Named) (m : ℕ) (s : Step) (v : List Step) → where_at (node_paths ns) m ≡ Some (steps_down names more (s ∷ v))
      → (k : ℕ) × (where_at (node_paths ns) k ≡ Some (s ∷ v))
  up names [] m s v e = (m, e)
  up names (n ∷ more) m s v e =
      let k = up names more m (name_step names n.name.0) (s ∷ v) e in
      let x = node_there ns k.0 (name_step names n.name.0 ∷ (s ∷ v)) k.1 in
      let h = on_top ns k.0 x.0 (name_step names n.name.0) (s ∷ v) x.1 k.1 x.0.parent refl in
      (h.parent, h.at)

  led_nowhere : (names : List (List ℕ)) (more : List Named) (q : ℕ) (v : List Step) → where_at (node_paths ns) q ≡ Some v → led names ns more q ≡ None
      → (m : ℕ) → where_at (node_paths ns) m ≡ Some (steps_down names more v) → ⊥
  led_nowhere names [] q v at e m f = none-some q (sym e)
  led_nowhere names (n ∷ more) q v at e m f = by (named_child names ns q n.name.0) refl e
      (λ next g h. led_nowhere names more next (name_step names n.name.0 ∷ v) (name_there q v at (slice_get names n.name.0) next g) h m f)
    where
      by : (o : Option ℕ) → named_child names ns q n.name.0 ≡ o → option_and_then (led names ns more) o ≡ None
          → ((next : ℕ) → named_child names ns q n.name.0 ≡ Some next → led names ns more next ≡ None → ⊥) → ⊥
      by None g h on = let k = up names more m (name_step names n.name.0) v f in name_nowhere q v at (slice_get names n.name.0) g k.0 k.1
      by (Some next) g h on = on next g h

  -- ---- whole paths

  module _ (files : List SourceFile) where
    pin_there : (places : List Span) (q i : ℕ) (v : List Step) → where_at (node_paths ns) q ≡ Some v → pin_at files ns places q ≡ Some i
        → (w : List Step) × (way_at files places v ≡ Some w) × (where_at (node_paths ns) i ≡ Some w)
    pin_there [] q i v at e = absurd (none-some i e)
    pin_there (number ∷ more) q i v at e = (record { pin = true; text = Some (source_text files number) } ∷ v, refl, child_there q v at true (source_text files number) i e)

    end_there : (pin : Option TokenKind) (q i : ℕ) (v : List Step) → where_at (node_paths ns) q ≡ Some v → pinned files ns pin q ≡ Some i
        → (w : List Step) × (way_pinned files pin v ≡ Some w) × (where_at (node_paths ns) i ≡ Some w)
    end_there None q i v at e = (v, refl, ap (where_at (node_paths ns)) (sym (same_Some q i e)) ∙ at)
    end_there (Some kind) q i v at e = pin_there (number_place kind) q i v at e

    pin_nowhere : (places : List Span) (q : ℕ) (v w : List Step) → where_at (node_paths ns) q ≡ Some v → pin_at files ns places q ≡ None
        → way_at files places v ≡ Some w → (m : ℕ) → where_at (node_paths ns) m ≡ Some w → ⊥
    pin_nowhere [] q v w at e f m g = none-some w f
    pin_nowhere (number ∷ more) q v w at e f m g = child_nowhere q v at true (source_text files number) e m (g ∙ sym f)

    end_nowhere : (pin : Option TokenKind) (q : ℕ) (v w : List Step) → where_at (node_paths ns) q ≡ Some v → pinned files ns pin q ≡ None
        → way_pinned files pin v ≡ Some w → (m : ℕ) → where_at (node_paths ns) m ≡ Some w → ⊥
    end_nowhere None q v w at e f m g = none-some q (sym e)
    end_nowhere (Some kind) q v w at e f m g = pin_nowhere (number_place kind) q v w at e f m g

    -- what ends below nothing is nowhere
    pin_lost : (places : List Span) (v w : List Step) → ((m : ℕ) → where_at (node_paths ns) m ≡ Some v → ⊥) → way_at files places v ≡ Some w → (m : ℕ) → where_at (node_paths ns) m ≡ Some w → ⊥
    pin_lost [] v w lost f m g = none-some w f
    pin_lost (number ∷ more) v w lost f m g =
        let x = node_there ns m w g in
        let h = on_top ns m x.0 (record { pin = true; text = Some (source_text files number) }) v x.1 (g ∙ sym f) x.0.parent refl in
        lost h.parent h.at

    end_lost : (pin : Option TokenKind) (v w : List Step) → ((m : ℕ) → where_at (node_paths ns) m ≡ Some v → ⊥) → way_pinned files pin v ≡ Some w → (m : ℕ) → where_at (node_paths ns) m ≡ Some w → ⊥
    end_lost None v w lost f m g = lost m (g ∙ sym f)
    end_lost (Some kind) v w lost f m g = pin_lost (number_place kind) v w lost f m g

    whole_there : (names : List (List ℕ)) (pin : Option TokenKind) (more : List Named) (q i : ℕ) (v : List Step) → where_at (node_paths ns) q ≡ Some v
        → option_and_then (pinned files ns pin) (led_from names ns more q) ≡ Some i
        → (w : List Step) × (option_and_then (way_pinned files pin) (way_from names more v) ≡ Some w) × (where_at (node_paths ns) i ≡ Some w)
    whole_there names pin [] q i v at e = absurd (none-some i e)
    whole_there names pin (n ∷ more) q i v at e = by (led names ns (n ∷ more) q) refl e
      where
        by : (o : Option ℕ) → led names ns (n ∷ more) q ≡ o → option_and_then (pinned files ns pin) o ≡ Some i
            → (w : List Step) × (way_pinned files pin (steps_down names (n ∷ more) v) ≡ Some w) × (where_at (node_paths ns) i ≡ Some w)
        by None f g = absurd (none-some i g)
        by (Some on) f g = end_there pin on i (steps_down names (n ∷ more) v) (led_there names (n ∷ more) q on v at f) g

    whole_nowhere : (names : List (List ℕ)) (pin : Option TokenKind) (more : List Named) (q : ℕ) (v w : List Step) → where_at (node_paths ns) q ≡ Some v
        → option_and_then (pinned files ns pin) (led_from names ns more q) ≡ None
        → option_and_then (way_pinned files pin) (way_from names more v) ≡ Some w → (m : ℕ) → where_at (node_paths ns) m ≡ Some w → ⊥
    whole_nowhere names pin [] q v w at e f m g = none-some w f
    whole_nowhere names pin (n ∷ more) q v w at e f m g = by (led names ns (n ∷ more) q) refl e
      where
        by : (o : Option ℕ) → led names ns (n ∷ more) q ≡ o → option_and_then (pinned files ns pin) o ≡ None → ⊥
        by None h k = end_lost pin (steps_down names (n ∷ more) v) w (led_nowhere names (n ∷ more) q v at h) f m g
        by (Some on) h k = end_nowhere pin on (steps_down names (n ∷ more) v) w (led_there names (n ∷ more) q on v at h) k f m g

-- ---- trees

-- each node of a tree is somewhere
tree_full : (files : List SourceFile) (names : List (List ℕ)) (entry : ℕ) (t : Tree) → IsTree files names entry t → (i : ℕ) (n : Node) → slice_get t.nodes i ≡ Some n
    → (w : List Step) × (where_at (node_paths t.nodes) i ≡ Some w)
tree_full files names entry t is i n e = by (slice_get (nodes files entry) i) refl
  where
    paths : node_paths t.nodes ≡ map (λ (s : Spot). (spot_said files entry names s).path) (nodes files entry)
    paths = tree_paths files names entry t is

    within : i < length (nodes files entry)
    within = let a = slice_get_within t.nodes i n e in let b = paths_long t.nodes in let c = ap length paths ∙ length-map (nodes files entry) (λ (s : Spot). (spot_said files entry names s).path) in omega arith

    by : (o : Option Spot) → slice_get (nodes files entry) i ≡ o → (w : List Step) × (where_at (node_paths t.nodes) i ≡ Some w)
    by None f = absurd (elim (slice_get_cases (nodes files entry) i).1 [ inl x ↦ none-some x.0 (sym f ∙ x.2) | inr x ↦ (let past = x.0 in let h = within in omega arith) ])
    by (Some s) f = (
      _,
      ap (λ ws. where_at ws i) paths ∙ ap (option_and_then (λ (w : Where). w)) (slice_get-map (λ (s : Spot). (spot_said files entry names s).path) (nodes files entry) i
          ∙ ap (option_map (λ (s : Spot). (spot_said files entry names s).path)) f) ∙ said_place files entry names s,
    )

-- where the instance of an occurrence is
holder_at : (files : List SourceFile) (names : List (List ℕ)) (entry : ℕ) (t : Tree) → IsTree files names entry t → (k : ℕ) (o : Occurrence) → slice_get t.occurrences k ≡ Some o
    → (v : List Step) × (where_at (node_paths t.nodes) o.node ≡ Some v)
holder_at files names entry t is k o e = by (slice_get (order.occurrences files entry) k) both
  where
    both : option_map (walked_said names) (slice_get (order.occurrences files entry) k) ≡ Some (occ_said (node_paths t.nodes) o)
    both = sym (slice_get-map (walked_said names) (order.occurrences files entry) k) ∙ ap (λ (l : List SaidOcc). slice_get l k) (sym is.written)
        ∙ slice_get-map (occ_said (node_paths t.nodes)) t.occurrences k ∙ ap (option_map (occ_said (node_paths t.nodes))) e

    by : (x : Option Occ) → option_map (walked_said names) x ≡ Some (occ_said (node_paths t.nodes) o) → (v : List Step) × (where_at (node_paths t.nodes) o.node ≡ Some v)
    by None f = absurd (none-some _ f)
    by (Some w) f = (steps names w.path, sym (ap (λ (s : SaidOcc). s.path) (same_Some (walked_said names w) (occ_said (node_paths t.nodes) o) f)))

-- the node to which a path leads from an occurrence
abbrev reached_of : Program → Tree → Occurrence → Path → Option ℕ
reached_of program tree o p = option_and_then (pinned program.files tree.nodes p.pin) (led_from program.names tree.nodes p.steps o.node)

-- A path leads to the node that is there, and to none where none is.
pub target_reached : (most : Limits) (program : Program) (name : List ℕ) (tree : Tree) → IsLoaded program → IsElaborated most program name tree → (k : ℕ) (o : Occurrence) (p : Path)
    → slice_get tree.occurrences k ≡ Some o → MatchOption (target_of program tree k p) (ReachesNone program tree o p) (IsReached program tree o p)
target_reached most program name tree loaded elaborated k o p e =
    subst (λ (x : Option ℕ). MatchOption x (ReachesNone program tree o p) (IsReached program tree o p)) (sym same) (by (reached_of program tree o p) refl)
  where
    is : IsTree program.files program.names elaborated.entry tree
    is = elaborated.is

    apart : Apart (node_paths tree.nodes)
    apart = subst Apart (sym (tree_paths program.files program.names elaborated.entry tree is)) (nodes_apart program.files program.names elaborated.entry tree (names_differ program loaded) is)

    full : (i : ℕ) (n : Node) → slice_get tree.nodes i ≡ Some n → (w : List Step) × (where_at (node_paths tree.nodes) i ≡ Some w)
    full = tree_full program.files program.names elaborated.entry tree is

    held : (v : List Step) × (where_at (node_paths tree.nodes) o.node ≡ Some v)
    held = holder_at program.files program.names elaborated.entry tree is k o e

    same : target_of program tree k p ≡ reached_of program tree o p
    same = ap (option_and_then (λ (x : Occurrence). option_and_then (pinned program.files tree.nodes p.pin) (led_from program.names tree.nodes p.steps x.node))) e

    by : (x : Option ℕ) → reached_of program tree o p ≡ x → MatchOption x (ReachesNone program tree o p) (IsReached program tree o p)
    by None f = λ n reached.
        let from : reached.from ≡ held.0 = same_Some reached.from held.0 (sym reached.holder ∙ held.1) in
        whole_nowhere tree.nodes apart full program.files program.names p.pin p.steps o.node held.0 reached.way held.1 f
        (ap (way_of program p) (sym from) ∙ reached.leads) n reached.there
    by (Some i) f =
        let w = whole_there tree.nodes apart full program.files program.names p.pin p.steps o.node i held.0 held.1 f in
        record { from = held.0; way = w.0; holder = held.1; leads = w.1; there = w.2 }
