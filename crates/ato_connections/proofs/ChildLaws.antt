-- What stands under the names and labels of an instance, by the numbers of nodes.
use Rattle.std.proofs.Common.{◌≡◌, ◌<◌, ℕ, zero, suc, Bool, true, false, true≢false, ◌&&◌, cond, not, nat_eq, List, [], ◌∷◌, map, length, Option, Some, None, inl, inr, refl, ap, sym, subst, ◌∙◌, arith}
use Rattle.std.specs.Prelude.{slice_get, option_to_list, filter}
use Rattle.std.specs.Bool.{beq}
use Rattle.std.specs.List.{list_any}
use Rattle.std.specs.Option.{option_and_then, option_map}
use Rattle.std.specs.Str.{bytes_eq}
use Rattle.std.proofs.lemmas.List.{length-map}
use Rattle.std.proofs.lemmas.Option.{none-some, same_Some, slice_get-map, slice_get_within}
use Rattle.std.proofs.lemmas.Slice.Eq.{bytes_eq-Decides}
use Rattle.ato_files.specs.declared.program.Program.{Program}
use Rattle.ato_files.proofs.PositionLemmas.{position_none, position_first}
use Rattle.ato_instance_tree.specs.declared.tree.Node.{Node}
use Rattle.ato_instance_tree.specs.Order.{Spot, made_at, nodes}
use Rattle.ato_instance_tree.specs.Trees.{Step, Where, Said, where_at, is_pin, step_of, below, node_paths, said_with, steps, spot_said}
use Rattle.ato_instance_tree.specs.Targets.{is_called, child}
use Rattle.ato_instance_tree.specs.Laws.{SpotPlace, at_names, at_label, place_of}
use Rattle.ato_instance_tree.proofs.LoadedLaws.{names_differ}
use Rattle.ato_instance_tree.proofs.ParentLaws.{and_parts, both, same_flag, flag_same, parent_is, is_parent, item_there, where_mid, IsMid, mid_of}
use Rattle.ato_instance_tree.proofs.PushLaws.{paths_long}
use Rattle.ato_instance_tree.proofs.SpotLaws.{IsIn, names_of, no_node_twice}
use Rattle.ato_instance_tree.proofs.TreeLaws.{Told, IsTold, AllTold, told_at, all_told, spot_steps, said_place, Differ, same_place, said_path, spot_at, front_at, mapped, nil_step, later, head_or}
use Rattle.ato_elab.proofs.SaidLaws.{IsSaid, said_at}
use Rattle.ato_connections.specs.NodeLinks.{is_named_in, names_in}
use Rattle.ato_connections.specs.Placing.{IsKnown}

-- ---- lists

said_paths : (ws : List Where) (ns : List Node) → length ws ≡ length ns → map (λ (s : Said). s.path) (said_with ws ns) ≡ ws
said_paths [] [] e = refl
said_paths [] (n ∷ ns) e = absurd (omega arith)
said_paths (w ∷ ws) [] e = absurd (omega arith)
said_paths (w ∷ ws) (n ∷ ns) e = ap (λ l. w ∷ l) (said_paths ws ns (omega arith))

map_after : {X Y Z : Type 0} (f : Y → Z) (g : X → Y) (xs : List X) → map f (map g xs) ≡ map (λ x. f (g x)) xs
map_after f g [] = refl
map_after f g (x ∷ xs) = ap (λ l. f (g x) ∷ l) (map_after f g xs)

-- The text is the name of a node that is named in an instance.
pub record IsNameIn (ns : List Node) (instance : ℕ) (text : List ℕ) : Type 0 where
  pub number : ℕ
  pub node : Node
  pub is : slice_get ns number ≡ Some node
  pub inside : is_named_in instance node ≡ true
  pub called : text ≡ node.name

pub name_there : (ns : List Node) (instance : ℕ) (text : List ℕ) → IsIn text (names_in ns instance) → IsNameIn ns instance text
name_there [] instance text h = absurd h
name_there (n ∷ ns) instance text h = by (is_named_in instance n) refl h (name_there ns instance text) where
  by : (b : Bool) → is_named_in instance n ≡ b
      → IsIn text (map (λ (m : Node). m.name) (cond b (n ∷ filter (is_named_in instance) ns) (filter (is_named_in instance) ns)))
      → (IsIn text (names_in ns instance) → IsNameIn ns instance text) → IsNameIn (n ∷ ns) instance text
  by true e (inl f) more = record { number = 0; node = n; is = refl; inside = e; called = f }
  by true e (inr k) more = let r = more k in record { number = suc r.number; node = r.node; is = r.is; inside = r.inside; called = r.called }
  by false e k more = let r = more k in record { number = suc r.number; node = r.node; is = r.is; inside = r.inside; called = r.called }

pub there_name : (ns : List Node) (instance number : ℕ) (n : Node) → slice_get ns number ≡ Some n → is_named_in instance n ≡ true
    → IsIn n.name (names_in ns instance)
there_name [] instance number n e f = absurd (none-some n e)
there_name (m ∷ ns) instance zero n e f = by (is_named_in instance m) (ap (is_named_in instance) (same_Some m n e) ∙ f) where
  by : (b : Bool) → b ≡ true → IsIn n.name (map (λ (m : Node). m.name) (cond b (m ∷ filter (is_named_in instance) ns) (filter (is_named_in instance) ns)))
  by true g = inl (ap (λ (x : Node). x.name) (sym (same_Some m n e)))
  by false g = absurd (true≢false (sym g))
there_name (m ∷ ns) instance (suc number) n e f = by (is_named_in instance m) (there_name ns instance number n e f) where
  by : (b : Bool) → IsIn n.name (names_in ns instance)
      → IsIn n.name (map (λ (m : Node). m.name) (cond b (m ∷ filter (is_named_in instance) ns) (filter (is_named_in instance) ns)))
  by true k = inr k
  by false k = k

no_pin : (b : Bool) → not b ≡ true → beq false b ≡ true
no_pin true e = e
no_pin false e = refl

pin_not : (b : Bool) → beq false b ≡ true → not b ≡ true
pin_not true e = e
pin_not false e = refl

-- a node that is named in an instance is called by its name there, and the other way round
named_called : (a : ℕ) (n : Node) → is_named_in a n ≡ true → is_called a false n.name n ≡ true
named_called a n e =
    let two = and_parts (list_any (nat_eq a) (option_to_list n.parent)) (not (is_pin n.kind)) e in
    both (list_any (nat_eq a) (option_to_list n.parent) && beq false (is_pin n.kind)) (bytes_eq n.name n.name)
    (both (list_any (nat_eq a) (option_to_list n.parent)) (beq false (is_pin n.kind)) two.0 (no_pin (is_pin n.kind) two.1))
    ((bytes_eq-Decides n.name n.name).1 refl)

called_named : (a : ℕ) (text : List ℕ) (n : Node) → is_called a false text n ≡ true → (is_named_in a n ≡ true) × (text ≡ n.name)
called_named a text n e =
    let two = and_parts (list_any (nat_eq a) (option_to_list n.parent) && beq false (is_pin n.kind)) (bytes_eq text n.name) e in
    let one = and_parts (list_any (nat_eq a) (option_to_list n.parent)) (beq false (is_pin n.kind)) two.0 in
    (both (list_any (nat_eq a) (option_to_list n.parent)) (not (is_pin n.kind)) one.0 (pin_not (is_pin n.kind) one.1), (bytes_eq-Decides text n.name).0 two.1)

-- ---- the nodes of a program

module _ (program : Program) (entry : ℕ) (ns : List Node) (known : IsKnown program entry ns) where
  abbrev all : List Spot
  all = nodes program.files entry

  abbrev ws : List Where
  ws = map (said_path program.files entry program.names) (nodes program.files entry)

  abbrev step : Bool → List ℕ → Step
  step flag text = record { pin = flag; text = Some text }

  differ : Differ program.names
  differ = names_differ program known.loaded

  pub paths : node_paths ns ≡ ws
  paths = sym (said_paths (node_paths ns) ns (paths_long ns)) ∙ ap (map (λ (s : Said). s.path)) known.told
      ∙ map_after (λ (s : Said). s.path) (spot_said program.files entry program.names) (nodes program.files entry)

  told : (i : ℕ) (q : List Step) → where_at ws i ≡ Some q → Told q
  told i q e = subst IsTold e (told_at ws i (subst AllTold paths (all_told [] ns tt)))

  pub apart : (i j : ℕ) (q : List Step) → where_at ws i ≡ Some q → where_at ws j ≡ Some q → i ≡ j
  apart i j q e f =
      let s = spot_at program.files entry program.names all i q e in
      let t = spot_at program.files entry program.names all j q f in
      no_node_twice program.files entry i j s.0 t.0 s.1 t.1 (same_place program.names (place_of s.0) (place_of t.0) differ (s.2 ∙ sym t.2)
      (subst Told (sym s.2) (told i q e)))

  -- what the node of a spot says
  pub node_said : (i : ℕ) (s : Spot) → slice_get all i ≡ Some s → IsSaid (node_paths ns) ns i (spot_said program.files entry program.names s)
  node_said i s e = said_at (node_paths ns) ns i (spot_said program.files entry program.names s)
      (ap (λ (ss : List Said). slice_get ss i) known.told ∙ slice_get-map (spot_said program.files entry program.names) all i
      ∙ ap (option_map (spot_said program.files entry program.names)) e)

  at_spot : (i : ℕ) (s : Spot) → slice_get all i ≡ Some s → where_at ws i ≡ Some (spot_steps program.names (place_of s))
  at_spot i s e = ap (option_and_then (λ w. w))
      (slice_get-map (said_path program.files entry program.names) all i ∙ ap (option_map (said_path program.files entry program.names)) e)
      ∙ said_place program.files entry program.names s

  pub at_place : (i : ℕ) (s : Spot) (p : SpotPlace) → slice_get all i ≡ Some s → place_of s ≡ p → where_at ws i ≡ Some (spot_steps program.names p)
  at_place i s p e f = at_spot i s e ∙ ap (λ x. Some (spot_steps program.names x)) f

  mid : (j : ℕ) (n : Node) → slice_get ns j ≡ Some n → IsMid ws n j
  mid j n e = subst (λ l. IsMid l n j) paths (subst (IsMid (node_paths ns) n) (omega arith) (mid_of [] ns j n e))

  pub counted : length ns ≡ length all
  counted =
      let a = paths_long ns in
      let b = ap length paths in
      let c = length-map all (said_path program.files entry program.names) in omega arith

  pub spot_of_node : (j : ℕ) (n : Node) → slice_get ns j ≡ Some n → (s : Spot) × (slice_get all j ≡ Some s)
  spot_of_node j n e = let less = slice_get_within ns j n e in let same = counted in item_there all j (omega arith)

  pub node_of_spot : (j : ℕ) (s : Spot) → slice_get all j ≡ Some s → (n : Node) × (slice_get ns j ≡ Some n)
  node_of_spot j s e = let less = slice_get_within all j s e in let same = counted in item_there ns j (omega arith)

  at_mid : (j : ℕ) (n : Node) (m : IsMid ws n j) → where_at ws j ≡ below m.front n n.parent
  at_mid j n m = ap (λ l. where_at l j) m.is ∙ where_mid m.front (below m.front n n.parent) m.rest j m.long

  front_is : (j : ℕ) (n : Node) (m : IsMid ws n j) (a : ℕ) (q : List Step) → where_at m.front a ≡ Some q → where_at ws a ≡ Some q
  front_is j n m a q e = ap (λ l. where_at l a) m.is ∙ front_at m.front (below m.front n n.parent ∷ m.rest) a q e

  -- where a node stands whose parent is known
  under_parent : (j a : ℕ) (n : Node) (q : List Step) → slice_get ns j ≡ Some n → n.parent ≡ Some a → where_at ws a ≡ Some q
      → where_at ws j ≡ Some (step_of n ∷ q)
  under_parent j a n q e f g =
      let m = mid j n e in
      let s = spot_of_node j n e in
      let here = at_mid j n m ∙ ap (below m.front n) f in
      let up = mapped (λ path. step_of n ∷ path) (where_at m.front a) (spot_steps program.names (place_of s.0)) (sym here ∙ at_spot j s.0 s.1) in
      here ∙ ap (option_map (λ path. step_of n ∷ path)) up.1 ∙ ap (λ r. Some (step_of n ∷ r)) (same_Some up.0 q (sym (front_is j n m a up.0 up.1) ∙ g))

  -- which parent a node has that stands somewhere
  record HasParent (n : Node) (s : Step) (q : List Step) : Type 0 where
    number : ℕ
    parent : n.parent ≡ Some number
    at : where_at ws number ≡ Some q
    step_is : step_of n ≡ s

  parent_there : (j : ℕ) (n : Node) (s : Step) (q : List Step) (m : IsMid ws n j) (o : Option ℕ) → n.parent ≡ o → below m.front n o ≡ Some (s ∷ q)
      → HasParent n s q
  parent_there j n s q m None e f = absurd (nil_step s q (sym (same_Some [] (s ∷ q) f)))
  parent_there j n s q m (Some a) e f =
      let up = mapped (λ path. step_of n ∷ path) (where_at m.front a) (s ∷ q) f in
      record { number = a; parent = e; at = front_is j n m a up.0 up.1 ∙ ap Some (ap later up.2); step_is = ap (head_or s) up.2 }

  has_parent : (j : ℕ) (n : Node) (s : Step) (q : List Step) → slice_get ns j ≡ Some n → where_at ws j ≡ Some (s ∷ q) → HasParent n s q
  has_parent j n s q e f = let m = mid j n e in parent_there j n s q m n.parent refl (sym (at_mid j n m) ∙ f)

  -- ---- children

  called_then : (a j : ℕ) (p : Bool) (text : List ℕ) (n : Node) (q : List Step) → slice_get ns j ≡ Some n → where_at ws a ≡ Some q
      → is_called a p text n ≡ true → where_at ws j ≡ Some (step p text ∷ q)
  called_then a j p text n q e f g =
      let two = and_parts (list_any (nat_eq a) (option_to_list n.parent) && beq p (is_pin n.kind)) (bytes_eq text n.name) g in
      let one = and_parts (list_any (nat_eq a) (option_to_list n.parent)) (beq p (is_pin n.kind)) two.0 in
      under_parent j a n q e (parent_is a n.parent one.0) f
      ∙ ap (λ x. Some (record { pin = x; text = Some n.name } ∷ q)) (sym (same_flag p (is_pin n.kind) one.1))
      ∙ ap (λ x. Some (step p x ∷ q)) (sym ((bytes_eq-Decides text n.name).0 two.1))

  then_called : (a j : ℕ) (p : Bool) (text : List ℕ) (n : Node) (q : List Step) → slice_get ns j ≡ Some n → where_at ws a ≡ Some q
      → where_at ws j ≡ Some (step p text ∷ q) → is_called a p text n ≡ true
  then_called a j p text n q e f g =
      let up = has_parent j n (step p text) q e g in
      let number = apart up.number a q up.at f in
      both (list_any (nat_eq a) (option_to_list n.parent) && beq p (is_pin n.kind)) (bytes_eq text n.name)
      (both (list_any (nat_eq a) (option_to_list n.parent)) (beq p (is_pin n.kind))
      (ap (λ o. list_any (nat_eq a) (option_to_list o)) (up.parent ∙ ap Some number) ∙ is_parent a)
      (ap (beq p) (ap (λ (s : Step). s.pin) up.step_is) ∙ flag_same p))
      ((bytes_eq-Decides text n.name).1 (sym (same_Some n.name text (ap (λ (s : Step). s.text) up.step_is))))

  child_some : (a j : ℕ) (p : Bool) (text : List ℕ) (q : List Step) (s : Spot) → where_at ws a ≡ Some q → slice_get all j ≡ Some s
      → where_at ws j ≡ Some (step p text ∷ q) → child ns a p text ≡ Some j
  child_some a j p text q s f e g =
      let n = node_of_spot j s e in
      position_first (is_called a p text) ns j n.0 n.1 (then_called a j p text n.0 q n.1 f g) (λ k m less at. by k m less at (is_called a p text m) refl) where
        by : (k : ℕ) (m : Node) → k < j → slice_get ns k ≡ Some m → (b : Bool) → is_called a p text m ≡ b → b ≡ false
        by k m less at false c = refl
        by k m less at true c = let same = apart k j (step p text ∷ q) (called_then a k p text m q at f c) g in absurd (omega arith)

  pub child_none : (a : ℕ) (p : Bool) (text : List ℕ) (q : List Step) → where_at ws a ≡ Some q
      → ((j : ℕ) → where_at ws j ≡ Some (step p text ∷ q) → ⊥) → child ns a p text ≡ None
  child_none a p text q f no_one = position_none (is_called a p text) ns (λ k m at. by k m at (is_called a p text m) refl) where
    by : (k : ℕ) (m : Node) → slice_get ns k ≡ Some m → (b : Bool) → is_called a p text m ≡ b → b ≡ false
    by k m at false c = refl
    by k m at true c = absurd (no_one k (called_then a k p text m q at f c))

  -- ---- the children of an instance

  -- No node stands at the place.
  abbrev pub NoneAt : SpotPlace → Type 0
  NoneAt p = (j : ℕ) (s : Spot) → slice_get all j ≡ Some s → place_of s ≡ p → ⊥

  pub no_place : (p : SpotPlace) (q : List Step) → spot_steps program.names p ≡ q → NoneAt p → (j : ℕ) → where_at ws j ≡ Some q → ⊥
  no_place p q e no_one j f =
      let s = spot_at program.files entry program.names all j q f in
      no_one j s.0 s.1 (same_place program.names (place_of s.0) p differ (s.2 ∙ sym e) (subst Told (sym s.2) (told j q f)))

  pub name_steps : (n : ℕ) (path text : List ℕ) → slice_get program.names n ≡ Some text
      → steps program.names (n ∷ path) ≡ step false text ∷ steps program.names path
  name_steps n path text e = ap (λ o. record { pin = false; text = o } ∷ steps program.names path) e

  pub named_some : (a j n : ℕ) (path text : List ℕ) (s : Spot) → slice_get all a ≡ Some (made_at path) → slice_get program.names n ≡ Some text
      → slice_get all j ≡ Some s → place_of s ≡ at_names (n ∷ path)
      → child ns a false text ≡ Some j
  named_some a j n path text s at e f g = child_some a j false text (steps program.names path) s (at_spot a (made_at path) at) f
      (at_place j s (at_names (n ∷ path)) f g ∙ ap Some (name_steps n path text e))

  pub named_none : (a n : ℕ) (path text : List ℕ) → slice_get all a ≡ Some (made_at path) → slice_get program.names n ≡ Some text
      → NoneAt (at_names (n ∷ path)) → child ns a false text ≡ None
  named_none a n path text at e no_one = child_none a false text (steps program.names path) (at_spot a (made_at path) at)
      (no_place (at_names (n ∷ path)) (step false text ∷ steps program.names path) (name_steps n path text e) no_one)

  pub label_some : (a j : ℕ) (path text : List ℕ) (s : Spot) → slice_get all a ≡ Some (made_at path) → slice_get all j ≡ Some s
      → place_of s ≡ at_label path text → child ns a true text ≡ Some j
  label_some a j path text s at e g = child_some a j true text (steps program.names path) s (at_spot a (made_at path) at) e
      (at_place j s (at_label path text) e g)

  pub label_none : (a : ℕ) (path text : List ℕ) → slice_get all a ≡ Some (made_at path) → NoneAt (at_label path text) → child ns a true text ≡ None
  label_none a path text at no_one = child_none a true text (steps program.names path) (at_spot a (made_at path) at)
      (no_place (at_label path text) (step true text ∷ steps program.names path) refl no_one)

  -- a node under a name of an instance is named in it, and the name has a text
  pub spot_named : (a j n : ℕ) (path : List ℕ) (s : Spot) → slice_get all a ≡ Some (made_at path) → slice_get all j ≡ Some s → place_of s ≡ at_names (n ∷ path)
      → (text : List ℕ) × (slice_get program.names n ≡ Some text) × IsIn text (names_in ns a)
  spot_named a j n path s at e f =
      let here = at_place j s (at_names (n ∷ path)) e f in
      let text = (told j (steps program.names (n ∷ path)) here).0 in
      let node = node_of_spot j s e in
      let called = called_named a text.0 node.0
      (then_called a j false text.0 node.0 (steps program.names path) node.1 (at_spot a (made_at path) at)
      (here ∙ ap Some (name_steps n path text.0 text.1))) in
      (text.0, text.1, subst (λ t. IsIn t (names_in ns a)) (sym called.1) (there_name ns a j node.0 node.1 called.0))

  -- A node stands under a name of this text in the instance at a path.
  pub record IsUnder (path text : List ℕ) : Type 0 where
    pub number : ℕ
    pub spot : Spot
    pub is : slice_get all number ≡ Some spot
    pub name : ℕ
    pub called : slice_get program.names name ≡ Some text
    pub at : place_of spot ≡ at_names (name ∷ path)

  under_at : (number : ℕ) (s : Spot) (path text : List ℕ) (p : SpotPlace) → slice_get all number ≡ Some s → place_of s ≡ p
      → spot_steps program.names p ≡ step false text ∷ steps program.names path → IsUnder path text
  under_at number s path text (at_names []) e f g = absurd (nil_step (step false text) (steps program.names path) (sym g))
  under_at number s path text (at_names (m ∷ other)) e f g =
      let rest = (told number (steps program.names (m ∷ other)) (at_place number s (at_names (m ∷ other)) e f)).1 in
      let same = same_place program.names (at_names other) (at_names path) differ (ap later g) rest in
      record {
        number = number;
        spot = s;
        is = e;
        name = m;
        called = ap (λ (ss : List Step). (head_or (step false text) ss).text) g;
        at = f ∙ ap (λ (p : SpotPlace). at_names (m ∷ names_of p)) same;
      }
  under_at number s path text (at_label other label) e f g = absurd (true≢false (ap (λ (ss : List Step). (head_or (step false text) ss).pin) g))

  -- what is named in an instance is a node under a name
  pub named_spot : (a : ℕ) (path text : List ℕ) → slice_get all a ≡ Some (made_at path) → IsIn text (names_in ns a) → IsUnder path text
  named_spot a path text at h =
      let n = name_there ns a text h in
      let s = spot_of_node n.number n.node n.is in
      let here = called_then a n.number false n.node.name n.node (steps program.names path) n.is (at_spot a (made_at path) at)
      (named_called a n.node n.inside) in
      subst (IsUnder path) (sym n.called) (under_at n.number s.0 path n.node.name (place_of s.0) s.1 refl
      (same_Some (spot_steps program.names (place_of s.0)) (step false n.node.name ∷ steps program.names path) (sym (at_spot n.number s.0 s.1) ∙ here)))
