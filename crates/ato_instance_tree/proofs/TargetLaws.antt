-- The target of a path is the node to which the path leads.
use Rattle.std.proofs.Common.{◌≡◌, ◌<◌, ℕ, suc, Bool, true, false, true≢false, ◌&&◌, ◌||◌, if◌then◌else◌, nat_eq, List, [], ◌∷◌, ◌++◌, map, length, Option, Some, None, inl, inr, refl, ap, sym, subst, ◌∙◌, arith}
use Rattle.std.specs.Prelude.{MatchOption, slice_get, option_to_list, position}
use Rattle.std.specs.Bool.{beq}
use Rattle.std.specs.List.{flat_map, list_any}
use Rattle.std.specs.Option.{option_and_then, option_map}
use Rattle.std.specs.Str.{bytes_eq}
use Rattle.std.proofs.lemmas.List.{length-map}
use Rattle.std.proofs.lemmas.Option.{none-some, same_Some, slice_get-map, slice_get_within}
use Rattle.std.proofs.lemmas.Slice.Eq.{bytes_eq-Decides}
use Rattle.ato_base.specs.declared.places.Span.{Span}
use Rattle.ato_base.specs.declared.tokens.TokenKind.{TokenKind}
use Rattle.ato_ast.specs.declared.names.Named.{Named}
use Rattle.ato_ast.specs.declared.paths.Path.{Path}
use Rattle.ato_files.specs.declared.program.SourceFile.{SourceFile}
use Rattle.ato_files.specs.declared.program.Program.{Program}
use Rattle.ato_files.specs.Blocks.{blocks_of, own}
use Rattle.ato_files.specs.Members.{Kind, signal, instance, param}
use Rattle.ato_files.proofs.PositionLemmas.{position_none, position_first}
use Rattle.ato_instance_tree.specs.declared.tree.Node.{Node}
use Rattle.ato_instance_tree.specs.declared.tree.Occurrence.{Occurrence}
use Rattle.ato_instance_tree.specs.declared.tree.Tree.{Tree}
use Rattle.ato_instance_tree.specs.Types.{Located, type_stmts}
use Rattle.ato_instance_tree.specs.Members.{Member, pin, named, source_text, members}
use Rattle.ato_instance_tree.specs.Walk.{Occ, type_at}
use Rattle.ato_instance_tree.specs.Order as order
use Rattle.ato_instance_tree.specs.Order.{Spot, leaf, made_at, nodes, instances, occs_at}
use Rattle.ato_instance_tree.specs.TreeFaults.{Limits, tree_fault}
use Rattle.ato_instance_tree.specs.Trees.{Step, Where, where_at, is_pin, step_of, below, node_paths, steps, SaidOcc, occ_said, walked_said, IsTree}
use Rattle.ato_instance_tree.specs.Paths.{Found, lost, free, member_of, pin_of, member_at, end_found, onward, find_steps, is_pin_of, has_pin, number_place, pin_found, steps_found, ended, pin_ended, find_path}
use Rattle.ato_instance_tree.specs.Targets.{is_called, child, named_child, led, led_from, pin_at, pinned, target_of}
use Rattle.ato_instance_tree.specs.Elaborated.{IsElaborated, IsLoaded, entry_of}
use Rattle.ato_instance_tree.specs.Laws.{SpotPlace, at_names, at_label, place_of, placed, found_place, IsTarget}
use Rattle.ato_instance_tree.proofs.DepthLaws.{own_below, among_then}
use Rattle.ato_instance_tree.proofs.SpotLaws.{IsIn, in_flat_map, at_in, names_of, no_node_twice}
use Rattle.ato_instance_tree.proofs.NodeLaws.{leaf_stands, instance_stands, has_leaf}
use Rattle.ato_instance_tree.proofs.KnownLaws.{in_map}
use Rattle.ato_instance_tree.proofs.LimitLaws.{among_instances}
use Rattle.ato_instance_tree.proofs.PlaceLaws.{place_in, IsOfKind, kind_place, has_member, has_node}
use Rattle.ato_instance_tree.proofs.TreeLaws.{Told, IsTold, AllTold, told_at, all_told, spot_steps, said_place, Differ, same_place, Apart, said_path, spot_at, front_at, mapped, nil_step, later, head_or, tree_paths, nodes_apart}
use Rattle.ato_instance_tree.proofs.ParentLaws.{and_parts, both, same_flag, flag_same, parent_is, is_parent, item_there, where_mid, IsMid, mid_of}
use Rattle.ato_instance_tree.proofs.StatementLaws.{same_said}
use Rattle.ato_instance_tree.proofs.LoadedLaws.{names_differ}

abbrev is_made : Spot → Bool
is_made (leaf path m) = false
is_made (made_at path) = true

abbrev is_label : SpotPlace → Bool
is_label (at_names path) = false
is_label (at_label path text) = true

nil_cons : (n : ℕ) (path : List ℕ) → n ∷ path ≡ [] → ⊥
nil_cons n path e = let long = ap length e in omega arith

module _ (files : List SourceFile) (names : List (List ℕ)) (entry : ℕ) (most : Limits) (h : entry < length (blocks_of files))
    (none : tree_fault files most (Some entry) ≡ None) (differ : Differ names) (t : Tree) (is : IsTree files names entry t) where
  abbrev all : List Spot
  all = nodes files entry

  abbrev ws : List Where
  ws = map (said_path files entry names) (nodes files entry)

  abbrev step : Bool → List ℕ → Step
  step flag text = record { pin = flag; text = Some text }

  paths : node_paths t.nodes ≡ ws
  paths = tree_paths files names entry t is

  apart : Apart ws
  apart = nodes_apart files names entry t differ is

  told : (i : ℕ) (q : List Step) → where_at ws i ≡ Some q → Told q
  told i q e = subst IsTold e (told_at ws i (subst AllTold paths (all_told [] t.nodes tt)))

  at_spot : (i : ℕ) (s : Spot) → slice_get all i ≡ Some s → where_at ws i ≡ Some (spot_steps names (place_of s))
  at_spot i s e = ap (option_and_then (λ w. w)) (slice_get-map (said_path files entry names) all i ∙ ap (option_map (said_path files entry names)) e) ∙ said_place files entry names s

  -- a place of a node as steps, and back
  at_place : (i : ℕ) (s : Spot) (p : SpotPlace) → slice_get all i ≡ Some s → place_of s ≡ p → where_at ws i ≡ Some (spot_steps names p)
  at_place i s p e f = at_spot i s e ∙ ap (λ x. Some (spot_steps names x)) f

  mid : (j : ℕ) (n : Node) → slice_get t.nodes j ≡ Some n → IsMid ws n j
  mid j n e = subst (λ l. IsMid l n j) paths (subst (IsMid (node_paths t.nodes) n) (omega arith) (mid_of [] t.nodes j n e))

  counted : length t.nodes ≡ length all
  counted =
      let a = Rattle.ato_instance_tree.proofs.PushLaws.paths_long t.nodes in
      let b = ap length paths in
      let c = length-map all (said_path files entry names) in omega arith

  spot_of_node : (j : ℕ) (n : Node) → slice_get t.nodes j ≡ Some n → (s : Spot) × (slice_get all j ≡ Some s)
  spot_of_node j n e = let less = slice_get_within t.nodes j n e in let same = counted in item_there all j (omega arith)

  node_of_spot : (j : ℕ) (s : Spot) → slice_get all j ≡ Some s → (n : Node) × (slice_get t.nodes j ≡ Some n)
  node_of_spot j s e = let less = slice_get_within all j s e in let same = counted in item_there t.nodes j (omega arith)

  at_mid : (j : ℕ) (n : Node) (m : IsMid ws n j) → where_at ws j ≡ below m.front n n.parent
  at_mid j n m = ap (λ l. where_at l j) m.is ∙ where_mid m.front (below m.front n n.parent) m.rest j m.long

  front_is : (j : ℕ) (n : Node) (m : IsMid ws n j) (a : ℕ) (q : List Step) → where_at m.front a ≡ Some q → where_at ws a ≡ Some q
  front_is j n m a q e = ap (λ l. where_at l a) m.is ∙ front_at m.front (below m.front n n.parent ∷ m.rest) a q e

  -- where a node stands whose parent is known
  under_parent : (j a : ℕ) (n : Node) (q : List Step) → slice_get t.nodes j ≡ Some n → n.parent ≡ Some a → where_at ws a ≡ Some q → where_at ws j ≡ Some (step_of n ∷ q)
  under_parent j a n q e f g =
      let m = mid j n e in
      let s = spot_of_node j n e in
      let here = at_mid j n m ∙ ap (below m.front n) f in
      let up = mapped (λ path. step_of n ∷ path) (where_at m.front a) (spot_steps names (place_of s.0)) (sym here ∙ at_spot j s.0 s.1) in
      here ∙ ap (option_map (λ path. step_of n ∷ path)) up.1 ∙ ap (λ r. Some (step_of n ∷ r)) (same_Some up.0 q (sym (front_is j n m a up.0 up.1) ∙ g))

  -- which parent a node has that stands somewhere
  record HasParent (n : Node) (s : Step) (q : List Step) : Type 0 where
    number : ℕ
    parent : n.parent ≡ Some number
    at : where_at ws number ≡ Some q
    step_is : step_of n ≡ s

  parent_there : (j : ℕ) (n : Node) (s : Step) (q : List Step) (m : IsMid ws n j) (o : Option ℕ) → n.parent ≡ o → below m.front n o ≡ Some (s ∷ q) → HasParent n s q
  parent_there j n s q m None e f = absurd (nil_step s q (sym (same_Some [] (s ∷ q) f)))
  parent_there j n s q m (Some a) e f =
      let up = mapped (λ path. step_of n ∷ path) (where_at m.front a) (s ∷ q) f in
      record { number = a; parent = e; at = front_is j n m a up.0 up.1 ∙ ap Some (ap later up.2); step_is = ap (head_or s) up.2 }

  has_parent : (j : ℕ) (n : Node) (s : Step) (q : List Step) → slice_get t.nodes j ≡ Some n → where_at ws j ≡ Some (s ∷ q) → HasParent n s q
  has_parent j n s q e f = let m = mid j n e in parent_there j n s q m n.parent refl (sym (at_mid j n m) ∙ f)

  -- ---- children

  called_then : (a j : ℕ) (p : Bool) (text : List ℕ) (n : Node) (q : List Step) → slice_get t.nodes j ≡ Some n → where_at ws a ≡ Some q → is_called a p text n ≡ true → where_at ws j ≡ Some (step p text ∷ q)
  called_then a j p text n q e f g =
      let two = and_parts (list_any (nat_eq a) (option_to_list n.parent) && beq p (is_pin n.kind)) (bytes_eq text n.name) g in
      let one = and_parts (list_any (nat_eq a) (option_to_list n.parent)) (beq p (is_pin n.kind)) two.0 in
      under_parent j a n q e (parent_is a n.parent one.0) f
      ∙ ap (λ x. Some (record { pin = x; text = Some n.name } ∷ q)) (sym (same_flag p (is_pin n.kind) one.1))
      ∙ ap (λ x. Some (step p x ∷ q)) (sym ((bytes_eq-Decides text n.name).0 two.1))

  then_called : (a j : ℕ) (p : Bool) (text : List ℕ) (n : Node) (q : List Step) → slice_get t.nodes j ≡ Some n → where_at ws a ≡ Some q → where_at ws j ≡ Some (step p text ∷ q) → is_called a p text n ≡ true
  then_called a j p text n q e f g =
      let up = has_parent j n (step p text) q e g in
      let number = apart up.number a q up.at f in
      both (list_any (nat_eq a) (option_to_list n.parent) && beq p (is_pin n.kind)) (bytes_eq text n.name)
      (both (list_any (nat_eq a) (option_to_list n.parent)) (beq p (is_pin n.kind))
      (ap (λ o. list_any (nat_eq a) (option_to_list o)) (up.parent ∙ ap Some number) ∙ is_parent a)
      (ap (beq p) (ap (λ (s : Step). s.pin) up.step_is) ∙ flag_same p))
      ((bytes_eq-Decides text n.name).1 (sym (same_Some n.name text (ap (λ (s : Step). s.text) up.step_is))))

  child_some : (a j : ℕ) (p : Bool) (text : List ℕ) (q : List Step) (s : Spot) → where_at ws a ≡ Some q → slice_get all j ≡ Some s → where_at ws j ≡ Some (step p text ∷ q) → child t.nodes a p text ≡ Some j
  child_some a j p text q s f e g =
      let n = node_of_spot j s e in
      position_first (is_called a p text) t.nodes j n.0 n.1 (then_called a j p text n.0 q n.1 f g) (λ k m less at. by k m less at (is_called a p text m) refl) where
        by : (k : ℕ) (m : Node) → k < j → slice_get t.nodes k ≡ Some m → (b : Bool) → is_called a p text m ≡ b → b ≡ false
        by k m less at false c = refl
        by k m less at true c = let same = apart k j (step p text ∷ q) (called_then a k p text m q at f c) g in absurd (omega arith)

  child_none : (a : ℕ) (p : Bool) (text : List ℕ) (q : List Step) → where_at ws a ≡ Some q → ((j : ℕ) → where_at ws j ≡ Some (step p text ∷ q) → ⊥) → child t.nodes a p text ≡ None
  child_none a p text q f no_one = position_none (is_called a p text) t.nodes (λ k m at. by k m at (is_called a p text m) refl) where
    by : (k : ℕ) (m : Node) → slice_get t.nodes k ≡ Some m → (b : Bool) → is_called a p text m ≡ b → b ≡ false
    by k m at false c = refl
    by k m at true c = absurd (no_one k (called_then a k p text m q at f c))

  -- ---- the children of the node at a path of names

  abbrev NoneAt : SpotPlace → Type 0
  NoneAt p = (j : ℕ) (s : Spot) → slice_get all j ≡ Some s → place_of s ≡ p → ⊥

  abbrev StandsAt : ℕ → List ℕ → Type 0
  StandsAt a path = where_at ws a ≡ Some (steps names path)

  named_some : (a j n : ℕ) (path : List ℕ) (s : Spot) → StandsAt a path → slice_get all j ≡ Some s → place_of s ≡ at_names (n ∷ path) → named_child names t.nodes a n ≡ Some j
  named_some a j n path s f e g =
      let here = at_place j s (at_names (n ∷ path)) e g in
      let text = (told j (steps names (n ∷ path)) here).0 in
      ap (option_and_then (child t.nodes a false)) text.1
      ∙ child_some a j false text.0 (steps names path) s f e (here ∙ ap (λ o. Some (record { pin = false; text = o } ∷ steps names path)) text.1)

  no_place : (p : SpotPlace) (q : List Step) → spot_steps names p ≡ q → NoneAt p → (j : ℕ) → where_at ws j ≡ Some q → ⊥
  no_place p q e no_one j f =
      let s = spot_at files entry names all j q f in
      no_one j s.0 s.1 (same_place names (place_of s.0) p differ (s.2 ∙ sym e) (subst Told (sym s.2) (told j q f)))

  named_none : (a n : ℕ) (path : List ℕ) → StandsAt a path → NoneAt (at_names (n ∷ path)) → named_child names t.nodes a n ≡ None
  named_none a n path f no_one = by (slice_get names n) refl where
    by : (o : Option (List ℕ)) → slice_get names n ≡ o → option_and_then (child t.nodes a false) o ≡ None
    by None e = refl
    by (Some text) e = child_none a false text (steps names path) f
        (no_place (at_names (n ∷ path)) (step false text ∷ steps names path) (ap (λ o. record { pin = false; text = o } ∷ steps names path) e) no_one)

  label_some : (a j : ℕ) (text path : List ℕ) (s : Spot) → StandsAt a path → slice_get all j ≡ Some s → place_of s ≡ at_label path text → child t.nodes a true text ≡ Some j
  label_some a j text path s f e g = child_some a j true text (steps names path) s f e (at_place j s (at_label path text) e g)

  label_none : (a : ℕ) (text path : List ℕ) → StandsAt a path → NoneAt (at_label path text) → child t.nodes a true text ≡ None
  label_none a text path f no_one = child_none a true text (steps names path) f (no_place (at_label path text) (step true text ∷ steps names path) refl no_one)

  -- ---- nothing stands below a leaf

  abbrev depth : ℕ
  depth = suc (length (blocks_of files))

  around_name : (n : ℕ) (path : List ℕ) (s : Spot) → IsIn s all → place_of s ≡ at_names (n ∷ path) → IsIn (made_at path) all
  around_name n path (leaf other (pin text)) k e = absurd (true≢false (ap is_label e))
  around_name n path (leaf other (named m kind)) k e = subst (λ p. IsIn (made_at p) all) (ap (λ p. rest (names_of p)) e) (leaf_stands files entry depth [] other (named m kind) k).at where
    rest : List ℕ → List ℕ
    rest [] = []
    rest (x ∷ xs) = xs
  around_name n path (made_at other) k e = by other (ap names_of e) k where
    rest : List ℕ → List ℕ
    rest [] = []
    rest (x ∷ xs) = xs

    by : (other : List ℕ) → other ≡ n ∷ path → IsIn (made_at other) all → IsIn (made_at path) all
    by [] f m = absurd (nil_cons n path (sym f))
    by (x ∷ up) f m = elim (instance_stands files entry depth [] up x m) [
      | inl g ↦ absurd (nil_cons x up g)
      | inr there ↦ subst (λ p. IsIn (made_at p) all) (ap rest f) there.at
    ]

  around_label : (text path : List ℕ) (s : Spot) → IsIn s all → place_of s ≡ at_label path text → IsIn (made_at path) all
  around_label text path (leaf other (pin label)) k e = subst (λ p. IsIn (made_at p) all) (ap names_of e) (leaf_stands files entry depth [] other (pin label) k).at
  around_label text path (leaf other (named m kind)) k e = absurd (true≢false (sym (ap is_label e)))
  around_label text path (made_at other) k e = absurd (true≢false (sym (ap is_label e)))

  not_both : (a : ℕ) (path other : List ℕ) (m : Member) → slice_get all a ≡ Some (leaf other m) → place_of (leaf other m) ≡ at_names path → IsIn (made_at path) all → ⊥
  not_both a path other m e f k =
      let i = place_in (made_at path) all k in
      let same = no_node_twice files entry i.0 a (made_at path) (leaf other m) i.1 e (sym f) in
      true≢false (ap is_made (same_Some (made_at path) (leaf other m) (sym i.1 ∙ ap (slice_get all) same ∙ e)))

  -- ---- down the names of a path

  record IsMember (holder : List ℕ) (n : Named) (k : Kind) (target : Option ℕ) : Type 0 where
    number : ℕ
    found : target ≡ Some number
    node : Spot
    at : slice_get all number ≡ Some node
    of : IsOfKind holder n.name.0 k node

  abbrev IsLed : Found → Option ℕ → Type 0
  IsLed (lost at) target = target ≡ None
  IsLed (free holder n) target = target ≡ None
  IsLed (member_of holder n k) target = IsMember holder n k target
  IsLed (pin_of holder n) target = ⊥

  one_name : (path : List ℕ) (n : Named) (a : ℕ) → slice_get all a ≡ Some (made_at path) → (o : Option Kind) → member_at files entry path n.name.0 ≡ o → IsLed (end_found path n o) (named_child names t.nodes a n.name.0)
  one_name path n a e None f = named_none a n.name.0 path (at_spot a (made_at path) e)
      (λ j s at place. let k = has_member files entry path n.name.0 s (at_in s all j at) place in none-some k.0 (sym f ∙ k.1))
  one_name path n a e (Some k) f =
      let s = has_node files entry most h none path n.name.0 k (at_in (made_at path) all a e) f in
      let j = place_in s.0 all s.1 in
      record {
        number = j.0;
        found = named_some a j.0 n.name.0 path s.0 (at_spot a (made_at path) e) j.1 (kind_place path n.name.0 k s.0 s.2);
        node = s.0;
        at = j.1;
        of = s.2;
      }

  no_further : (path : List ℕ) (n m : Named) (more : List Named) (k : Kind) (j : ℕ) (other : List ℕ) (x : Member) → slice_get all j ≡ Some (leaf other x) → place_of (leaf other x) ≡ at_names path
      → led names t.nodes (m ∷ more) j ≡ None
  no_further path n m more k j other x e f = ap (option_and_then (led names t.nodes more)) (named_none j m.name.0 path (at_place j (leaf other x) (at_names path) e f)
      (λ i s at place. not_both j path other x e f (around_name m.name.0 path s (at_in s all i at) place)))

  go_on : (path : List ℕ) (n m : Named) (more : List Named) (a : ℕ) → ((b : ℕ) → slice_get all b ≡ Some (made_at (n.name.0 ∷ path)) → IsLed (find_steps files entry (n.name.0 ∷ path) m more) (led names t.nodes (m ∷ more) b))
      → (o : Option Kind) → IsLed (end_found path n o) (named_child names t.nodes a n.name.0)
      → IsLed (onward n m o (find_steps files entry (n.name.0 ∷ path) m more)) (option_and_then (led names t.nodes (m ∷ more)) (named_child names t.nodes a n.name.0))
  go_on path n m more a next None one = ap (option_and_then (led names t.nodes (m ∷ more))) one
  go_on path n m more a next (Some signal) one = ap (option_and_then (led names t.nodes (m ∷ more))) one.found
      ∙ no_further (n.name.0 ∷ path) n m more signal one.number path (named one.of.0 signal) (one.at ∙ ap Some one.of.2) (ap (λ x. at_names (x ∷ path)) one.of.1)
  go_on path n m more a next (Some param) one = ap (option_and_then (led names t.nodes (m ∷ more))) one.found
      ∙ no_further (n.name.0 ∷ path) n m more param one.number path (named one.of.0 param) (one.at ∙ ap Some one.of.2) (ap (λ x. at_names (x ∷ path)) one.of.1)
  go_on path n m more a next (Some (instance type)) one = subst (IsLed (find_steps files entry (n.name.0 ∷ path) m more)) (sym (ap (option_and_then (led names t.nodes (m ∷ more))) one.found))
      (next one.number (one.at ∙ ap Some one.of))

  itself : (o : Option ℕ) → o ≡ option_and_then (led names t.nodes []) o
  itself None = refl
  itself (Some j) = refl

  steps_led : (path : List ℕ) (n : Named) (more : List Named) (a : ℕ) → slice_get all a ≡ Some (made_at path) → IsLed (find_steps files entry path n more) (led names t.nodes (n ∷ more) a)
  steps_led path n [] a e = subst (IsLed (end_found path n (member_at files entry path n.name.0))) (itself (named_child names t.nodes a n.name.0)) (one_name path n a e (member_at files entry path n.name.0) refl)
  steps_led path n (m ∷ more) a e = go_on path n m more a (steps_led (n.name.0 ∷ path) m more) (member_at files entry path n.name.0) (one_name path n a e (member_at files entry path n.name.0) refl)

  path_led : (path : List ℕ) (whole : Span) (ns : List Named) (a : ℕ) → slice_get all a ≡ Some (made_at path) → IsLed (steps_found files entry path whole ns) (led_from names t.nodes ns a)
  path_led path whole [] a e = refl
  path_led path whole (n ∷ more) a e = steps_led path n more a e

  -- ---- on to a pin

  -- a pin of an instance by its label, and back
  pin_there : (ms : List Member) (text : List ℕ) → has_pin ms text ≡ true → IsIn (pin text) ms
  pin_there [] text e = absurd (true≢false (sym e))
  pin_there (pin label ∷ ms) text e = by (bytes_eq text label) refl e (pin_there ms text) where
    by : (b : Bool) → bytes_eq text label ≡ b → (b || has_pin ms text) ≡ true → (has_pin ms text ≡ true → IsIn (pin text) ms) → IsIn (pin text) (pin label ∷ ms)
    by true f g more = inl (ap (λ l. pin l) ((bytes_eq-Decides text label).0 f))
    by false f g more = inr (more g)
  pin_there (named n k ∷ ms) text e = inr (pin_there ms text e)

  there_pin : (ms : List Member) (text : List ℕ) → IsIn (pin text) ms → has_pin ms text ≡ true
  there_pin [] text k = absurd k
  there_pin (m ∷ ms) text (inl e) = ap (λ x. is_pin_of text x || has_pin ms text) (sym e) ∙ ap (λ b. b || has_pin ms text) ((bytes_eq-Decides text text).1 refl)
  there_pin (m ∷ ms) text (inr k) = or_later (is_pin_of text m) (has_pin ms text) (there_pin ms text k) where
    or_later : (a b : Bool) → b ≡ true → (a || b) ≡ true
    or_later true b e = refl
    or_later false b e = e

  pin_at_label : (text path : List ℕ) (s : Spot) → IsIn s all → place_of s ≡ at_label path text → has_pin (members files (type_at files entry path)) text ≡ true
  pin_at_label text path (leaf other (named m kind)) k e = absurd (true≢false (sym (ap is_label e)))
  pin_at_label text path (made_at other) k e = absurd (true≢false (sym (ap is_label e)))
  pin_at_label text path (leaf other (pin label)) k e = there_pin (members files (type_at files entry path)) text
      (subst (λ l. IsIn (pin l) (members files (type_at files entry path))) (ap label_in e)
      (subst (λ p. IsIn (pin label) (members files (type_at files entry p))) (ap names_of e) (leaf_stands files entry depth [] other (pin label) k).is)) where
        label_in : SpotPlace → List ℕ
        label_in (at_names p) = []
        label_in (at_label p l) = l

  abbrev text_of : Span → List ℕ
  text_of number = source_text files number

  nowhere : (number : Span) (target : Option ℕ) → target ≡ None → option_and_then (pin_at files t.nodes (number ∷ [])) target ≡ None
  nowhere number target e = ap (option_and_then (pin_at files t.nodes (number ∷ []))) e

  pin_of_leaf : (path : List ℕ) (j : ℕ) (text other : List ℕ) (x : Member) → slice_get all j ≡ Some (leaf other x) → place_of (leaf other x) ≡ at_names path → child t.nodes j true text ≡ None
  pin_of_leaf path j text other x e f = label_none j text path (at_place j (leaf other x) (at_names path) e f)
      (λ i s at place. not_both j path other x e f (around_label text path s (at_in s all i at) place))

  -- the pin of an instance
  pin_of_instance : (path : List ℕ) (n : Named) (number : Span) (more : List Span) (j : ℕ) → slice_get all j ≡ Some (made_at path) → (b : Bool) → has_pin (members files (type_at files entry path)) (text_of number) ≡ b
      → IsTarget all (placed files (number ∷ more) (if b then pin_of path n else lost number)) (child t.nodes j true (text_of number))
  pin_of_instance path n number more j e true f =
      let s = has_leaf files entry depth [] path (pin (text_of number)) (record { at = at_in (made_at path) all j e; is = pin_there (members files (type_at files entry path)) (text_of number) f; no_instance = refl }) in
      let i = place_in (leaf path (pin (text_of number))) all s in
      (i.0, label_some j i.0 (text_of number) path (leaf path (pin (text_of number))) (at_spot j (made_at path) e) i.1 refl, record { node = leaf path (pin (text_of number)); is = i.1; at = refl })
  pin_of_instance path n number more j e false f = label_none j (text_of number) path (at_spot j (made_at path) e)
      (λ i s at place. true≢false (sym (pin_at_label (text_of number) path s (at_in s all i at) place) ∙ f))

  on_number : (number : Span) (more : List Span) (found : Found) (target : Option ℕ) → IsLed found target
      → IsTarget all (placed files (number ∷ more) (pin_found files entry number found)) (option_and_then (pin_at files t.nodes (number ∷ more)) target)
  on_number number more (lost at) target led = ap (option_and_then (pin_at files t.nodes (number ∷ more))) led
  on_number number more (free holder n) target led = ap (option_and_then (pin_at files t.nodes (number ∷ more))) led
  on_number number more (pin_of holder n) target led = absurd led
  on_number number more (member_of holder n signal) target led = ap (option_and_then (pin_at files t.nodes (number ∷ more))) led.found
      ∙ pin_of_leaf (n.name.0 ∷ holder) led.number (text_of number) holder (named led.of.0 signal) (led.at ∙ ap Some led.of.2) (ap (λ x. at_names (x ∷ holder)) led.of.1)
  on_number number more (member_of holder n param) target led = ap (option_and_then (pin_at files t.nodes (number ∷ more))) led.found
      ∙ pin_of_leaf (n.name.0 ∷ holder) led.number (text_of number) holder (named led.of.0 param) (led.at ∙ ap Some led.of.2) (ap (λ x. at_names (x ∷ holder)) led.of.1)
  on_number number more (member_of holder n (instance type)) target led =
      subst (IsTarget all (placed files (number ∷ more) (pin_found files entry number (member_of holder n (instance type))))) (sym (ap (option_and_then (pin_at files t.nodes (number ∷ more))) led.found))
      (pin_of_instance (n.name.0 ∷ holder) n number more led.number (led.at ∙ ap Some led.of) (has_pin (members files (type_at files entry (n.name.0 ∷ holder))) (text_of number)) refl)

  no_number : (target : Option ℕ) → option_and_then (pin_at files t.nodes []) target ≡ None
  no_number None = refl
  no_number (Some j) = refl

  on_numbers : (whole : Span) (numbers : List Span) (found : Found) (target : Option ℕ) → IsLed found target
      → IsTarget all (placed files (numbers ++ []) (ended files entry whole numbers found)) (option_and_then (pin_at files t.nodes numbers) target)
  on_numbers whole [] found target led = no_number target
  on_numbers whole (number ∷ more) found target led = on_number number (more ++ []) found target led

  without : (found : Found) (target : Option ℕ) → IsLed found target → IsTarget all (placed files [] found) (option_and_then (pinned files t.nodes None) target)
  without (lost at) target led = ap (option_and_then (pinned files t.nodes None)) led
  without (free holder n) target led = ap (option_and_then (pinned files t.nodes None)) led
  without (pin_of holder n) target led = absurd led
  without (member_of holder n k) target led = (
    led.number,
    ap (option_and_then (pinned files t.nodes None)) led.found,
    record { node = led.node; is = led.at; at = kind_place holder n.name.0 k led.node led.of },
  )

  with_pin : (whole : Span) (kind : Option TokenKind) (found : Found) (target : Option ℕ) → IsLed found target
      → IsTarget all (found_place files kind (pin_ended files entry whole kind found)) (option_and_then (pinned files t.nodes kind) target)
  with_pin whole None found target led = without found target led
  with_pin whole (Some kind) found target led = on_numbers whole (number_place kind) found target led

  -- ---- from an occurrence

  pub of_instance : (path : List ℕ) (number : ℕ) (p : Path) → slice_get all number ≡ Some (made_at path)
      → IsTarget all (found_place files p.pin (find_path files entry path p)) (option_and_then (pinned files t.nodes p.pin) (led_from names t.nodes p.steps number))
  of_instance path number p e = with_pin p.at p.pin (steps_found files entry path p.at p.steps) (led_from names t.nodes p.steps number) (path_led path p.at p.steps number e)

  -- the number of an occurrence is that of its instance
  instance_number : (x : Occurrence) (o : Occ) → IsIn o (order.occurrences files entry) → occ_said (node_paths t.nodes) x ≡ walked_said names o → slice_get all x.node ≡ Some (made_at o.path)
  instance_number x o k e =
      let path = in_flat_map (occs_at files entry) o (instances files entry) k in
      let l = in_map (λ (l : Located). record { path = path.0; at = l }) o (flat_map (type_stmts files) (option_to_list (type_at files entry path.0))) path.2 in
      let i = place_in (made_at path.0) all (among_instances path.0 all path.1) in
      let here : where_at ws x.node ≡ Some (steps names o.path) = ap (λ l. where_at l x.node) (sym paths) ∙ ap (λ (s : SaidOcc). s.path) e in
      let there = at_spot i.0 (made_at path.0) i.1 ∙ ap (λ (y : Occ). Some (steps names y.path)) (sym l.2) in
      ap (slice_get all) (apart x.node i.0 (steps names o.path) here there) ∙ i.1 ∙ ap (λ (y : Occ). Some (made_at y.path)) (sym l.2)

  of_both : (p : Path) (a : Option Occurrence) (b : Option Occ) → option_map (occ_said (node_paths t.nodes)) a ≡ option_map (walked_said names) b → ((o : Occ) → b ≡ Some o → IsIn o (order.occurrences files entry))
      → MatchOption b (option_and_then (λ o. option_and_then (pinned files t.nodes p.pin) (led_from names t.nodes p.steps o.node)) a ≡ None)
      (λ o. IsTarget all (found_place files p.pin (find_path files entry o.path p)) (option_and_then (λ o. option_and_then (pinned files t.nodes p.pin) (led_from names t.nodes p.steps o.node)) a))
  of_both p None None e k = refl
  of_both p None (Some o) e k = absurd (none-some _ e)
  of_both p (Some x) None e k = absurd (none-some _ (sym e))
  of_both p (Some x) (Some o) e k = of_instance o.path x.node p (instance_number x o (k o refl) (same_Some (occ_said (node_paths t.nodes) x) (walked_said names o) e))

  pub of_occurrence : (i : ℕ) (p : Path) → MatchOption (slice_get (order.occurrences files entry) i)
      (option_and_then (λ o. option_and_then (pinned files t.nodes p.pin) (led_from names t.nodes p.steps o.node)) (slice_get t.occurrences i) ≡ None)
      (λ o. IsTarget all (found_place files p.pin (find_path files entry o.path p)) (option_and_then (λ o. option_and_then (pinned files t.nodes p.pin) (led_from names t.nodes p.steps o.node)) (slice_get t.occurrences i)))
  of_occurrence i p = of_both p (slice_get t.occurrences i) (slice_get (order.occurrences files entry) i) (same_said (node_paths t.nodes) names t.occurrences (order.occurrences files entry) i is.written)
      (λ o e. at_in o (order.occurrences files entry) i e)

pub entry_below : (program : Program) (name : List ℕ) (entry : ℕ) → entry_of program name ≡ Some entry → entry < length (blocks_of program.files)
entry_below program name entry e =
    let n = among_then (own program.files 1) (position (bytes_eq name) program.names) entry e in
    own_below program.files 1 n.0 entry n.2

pub found : (most : Limits) (program : Program) (name : List ℕ) (tree : Tree) → IsLoaded program → (is : IsElaborated most program name tree) (i : ℕ) (p : Path)
    → MatchOption (slice_get (order.occurrences program.files is.entry) i) (target_of program tree i p ≡ None)
    (λ o. IsTarget (nodes program.files is.entry) (found_place program.files p.pin (find_path program.files is.entry o.path p)) (target_of program tree i p))
found most program name tree loaded is i p = of_occurrence program.files program.names is.entry most (entry_below program name is.entry is.named)
    (ap (tree_fault program.files most) (sym is.named) ∙ is.sound) (names_differ program loaded) tree is.is i p
