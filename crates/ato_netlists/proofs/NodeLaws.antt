-- What the nodes of a tree are: their parents, their names and how deep they stand.
use Rattle.std.proofs.Common.{◌≡◌, ℕ, zero, suc, ◌+◌, ◌<◌, true, false, List, [], ◌∷◌, ◌++◌, fold, length, get_or, Option, Some, None, inl, inr, refl, ap, sym, ◌∙◌, subst, arith, length-append, if◌then◌else◌}
use Rattle.std.specs.Prelude.{◌⊎◌, All, IfSome, slice_get, Contains, is_some, unwrap_or}
use Rattle.std.specs.Option.{option_and_then, option_map}
use Rattle.std.proofs.Math.Seq.{get_or-append_seam}
use Rattle.std.proofs.lemmas.List.{length-map, get_or_append_left}
use Rattle.std.proofs.lemmas.Option.{none-some, same_Some, slice_get-map, slice_get-get_or}
use Rattle.ato_base.proofs.ClassLaws.{nowhere, only}
use Rattle.ato_files.specs.Blocks.{blocks_of}
use Rattle.ato_files.specs.declared.program.Program.{Program}
use Rattle.ato_files.specs.Members.{signal, instance, param}
use Rattle.ato_instance_tree.specs.declared.tree.Node.{Node}
use Rattle.ato_instance_tree.specs.declared.tree.Tree.{Tree}
use Rattle.ato_instance_tree.specs.Laws.{place_of}
use Rattle.ato_instance_tree.specs.Members.{Member, pin, named}
use Rattle.ato_instance_tree.specs.Order.{Spot, leaf, made_at, nodes}
use Rattle.ato_instance_tree.specs.Trees.{Step, Where, where_at, step_of, below, with_path, node_paths, Said, name_step, spot_said, steps, IsTree}
use Rattle.ato_instance_tree.proofs.LoadedLaws.{names_differ}
use Rattle.ato_instance_tree.proofs.NodeLaws.{leaf_stands}
use Rattle.ato_instance_tree.proofs.ParentLaws.{IsMid, mid_of, where_mid, item_there}
use Rattle.ato_instance_tree.proofs.PlaceLaws.{place_in}
use Rattle.ato_instance_tree.proofs.PushLaws.{paths_long, said_long, where_earlier, where_last}
use Rattle.ato_instance_tree.proofs.SpotLaws.{at_in}
use Rattle.ato_instance_tree.proofs.TreeLaws.{Apart, tree_paths, nodes_apart, said_place, spot_steps, front_at, nil_step, mapped}
use Rattle.ato_elab.proofs.SaidLaws.{IsSaid, said_at}
use Rattle.ato_links.specs.Nets.{Pin, pins_of, signals_of}
use Rattle.ato_links.specs.Parts.{path_text}
use Rattle.ato_links.proofs.NetLaws.{at_node}
use Rattle.ato_netlists.specs.Boards.{IsPinAt, IsSignalAt}
use Rattle.ato_netlists.specs.Known.{IsAt, IsSound}
use Rattle.ato_netlists.specs.Signals.{depth_below, with_depth, depths_of}
use Rattle.ato_netlists.proofs.TextLaws.{first_path, longer_path}

-- ---- paths

where_within : (ws : List Where) (i : ℕ) (q : List Step) → where_at ws i ≡ Some q → i < length ws
where_within [] i q e = absurd (none-some q e)
where_within (w ∷ ws) zero q e = omega arith
where_within (w ∷ ws) (suc i) q e = omega (arith, where_within ws i q e)

mid_where : (ws : List Where) (n : Node) (j : ℕ) (m : IsMid ws n j) → where_at ws j ≡ below m.front n n.parent
mid_where ws n j m = ap (λ (l : List Where). where_at l j) m.is ∙ where_mid m.front (below m.front n n.parent) m.rest j m.long

-- ---- depths

-- Each depth is the number of the steps.
record AreDeep (ws : List Where) (ds : List ℕ) : Type 0 where
  size : length ds ≡ length ws
  each : (i : ℕ) (q : List Step) → where_at ws i ≡ Some q → get_or ds i 0 ≡ length q

below_deep : (ws : List Where) (ds : List ℕ) (n : Node) → AreDeep ws ds → (o : Option ℕ) (q : List Step) → below ws n o ≡ Some q → depth_below ds o ≡ length q
below_deep ws ds n are None q e = ap length (same_Some [] q e)
below_deep ws ds n are (Some p) q e =
    let u = mapped (λ path. step_of n ∷ path) (where_at ws p) q e in
    let l = where_within ws p u.0 u.1 in
    ap (λ (o : Option ℕ). unwrap_or (option_map (λ d. d + 1) o) 0) (slice_get-get_or ds p 0 (omega (arith, l, are.size)))
    ∙ omega (arith, are.each p u.0 u.1, ap length u.2)

push_deep : (ws : List Where) (ds : List ℕ) (n : Node) → AreDeep ws ds → AreDeep (with_path ws n) (with_depth ds n)
push_deep ws ds n are = record {
  size = omega (arith, length-append ds (depth_below ds n.parent ∷ []), length-append ws (below ws n n.parent ∷ []), are.size);
  each = λ i q e. elim (last_or (length ws) i (omega (arith, where_within (with_path ws n) i q e, length-append ws (below ws n n.parent ∷ [])))) [
    | inl l ↦ get_or_append_left ds (depth_below ds n.parent ∷ []) 0 i (omega (arith, l, are.size)) ∙ are.each i q (sym (where_earlier ws (below ws n n.parent) i l) ∙ e)
    | inr s ↦ ap (λ k. get_or (ds ++ depth_below ds n.parent ∷ []) k 0) (s ∙ sym are.size) ∙ get_or-append_seam ds (depth_below ds n.parent) [] 0
        ∙ below_deep ws ds n are n.parent q (sym (where_last ws (below ws n n.parent) i (sym s)) ∙ e)
  ];
} where
  last_or : (a b : ℕ) → b < suc a → (b < a) ⊎ (b ≡ a)
  last_or zero zero l = inr refl
  last_or zero (suc b) l = absurd (omega (arith, l))
  last_or (suc a) zero l = inl (omega arith)
  last_or (suc a) (suc b) l = elim (last_or a b (omega (arith, l))) [ inl m ↦ inl (omega (arith, m)) | inr e ↦ inr (ap suc e) ]

all_deep : (ws : List Where) (ds : List ℕ) (ns : List Node) → AreDeep ws ds → AreDeep (fold with_path ws ns) (fold with_depth ds ns)
all_deep ws ds [] are = are
all_deep ws ds (n ∷ ns) are = all_deep (with_path ws n) (with_depth ds n) ns (push_deep ws ds n are)

pub depth_at : (ns : List Node) (i : ℕ) (q : List Step) → where_at (node_paths ns) i ≡ Some q → get_or (depths_of ns) i 0 ≡ length q
depth_at ns = (all_deep [] [] ns (record { size = refl; each = λ i q e. absurd (none-some q e) })).each

pub depths_long : (ns : List Node) → length (depths_of ns) ≡ length ns
depths_long ns = (all_deep [] [] ns (record { size = refl; each = λ i q e. absurd (none-some q e) })).size ∙ paths_long ns

-- ---- the nodes of a tree

-- The node is in the instance at this path.
pub record IsHeld (program : Program) (entry : ℕ) (path : List ℕ) (n : Node) : Type 0 where
  pub parent : ℕ
  pub is : n.parent ≡ Some parent
  pub at : IsAt program entry parent path

-- the node of a pin
pub record IsPinNode (program : Program) (tree : Tree) (entry i : ℕ) (p : Pin) : Type 0 where
  pub node : Node
  pub at : slice_get tree.nodes i ≡ Some node
  pub name : node.name ≡ p.label
  pub held : IsHeld program entry p.path node

-- the node of a signal
pub record IsSignalNode (program : Program) (tree : Tree) (entry i : ℕ) (path : List ℕ) : Type 0 where
  pub node : Node
  pub at : slice_get tree.nodes i ≡ Some node
  pub first : ℕ
  pub up : List ℕ
  pub is : path ≡ first ∷ up
  pub name : slice_get program.names first ≡ Some node.name
  pub held : IsHeld program entry up node
  pub depth : get_or (depths_of tree.nodes) i 0 ≡ length path

module _ (program : Program) (tree : Tree) (entry : ℕ) (sound : IsSound program tree entry) where
  pub tree_is : IsTree program.files program.names entry tree
  tree_is = subst (λ e. IsTree program.files program.names e tree) sound.entry_is sound.is.is

  pub as_long : length tree.nodes ≡ length (nodes program.files entry)
  as_long = sym (said_long tree.nodes) ∙ ap length tree_is.told ∙ length-map (nodes program.files entry) (spot_said program.files entry program.names)

  said : (i : ℕ) (s : Spot) → slice_get (nodes program.files entry) i ≡ Some s → IsSaid (node_paths tree.nodes) tree.nodes i (spot_said program.files entry program.names s)
  said i s e = said_at (node_paths tree.nodes) tree.nodes i (spot_said program.files entry program.names s)
      (ap (λ (l : List Said). slice_get l i) tree_is.told ∙ slice_get-map (spot_said program.files entry program.names) (nodes program.files entry) i
      ∙ ap (option_map (spot_said program.files entry program.names)) e)

  at_place : (i : ℕ) (s : Spot) → slice_get (nodes program.files entry) i ≡ Some s → where_at (node_paths tree.nodes) i ≡ Some (spot_steps program.names (place_of s))
  at_place i s e = ap (option_and_then (λ (w : Where). w)) (said i s e).path ∙ said_place program.files entry program.names s

  mid : (i : ℕ) (n : Node) → slice_get tree.nodes i ≡ Some n → IsMid (node_paths tree.nodes) n i
  mid i n e = subst (IsMid (node_paths tree.nodes) n) (omega arith) (mid_of [] tree.nodes i n e)

  -- the parent of a node that stands a step below something
  above : (n : Node) (s : Step) (v : List Step) (front rest : List Where) → node_paths tree.nodes ≡ front ++ rest → (o : Option ℕ) → below front n o ≡ Some (s ∷ v)
      → (q : ℕ) × (o ≡ Some q) × (where_at (node_paths tree.nodes) q ≡ Some v)
  above n s v front rest all None e = absurd (nil_step s v (sym (same_Some [] (s ∷ v) e)))
  above n s v front rest all (Some q) e =
      let u = mapped (λ path. step_of n ∷ path) (where_at front q) (s ∷ v) e in
      let same : u.0 ≡ v = cc in
      (q, refl, ap (λ (l : List Where). where_at l q) all ∙ front_at front rest q u.0 u.1 ∙ ap Some same)

  has_parent : (i : ℕ) (n : Node) (s : Step) (v : List Step) → slice_get tree.nodes i ≡ Some n → where_at (node_paths tree.nodes) i ≡ Some (s ∷ v)
      → (q : ℕ) × (n.parent ≡ Some q) × (where_at (node_paths tree.nodes) q ≡ Some v)
  has_parent i n s v e f =
      let m = mid i n e in
      above n s v m.front (below m.front n n.parent ∷ m.rest) m.is n.parent (sym (mid_where (node_paths tree.nodes) n i m) ∙ f)

  no_parent : (i : ℕ) (n : Node) → slice_get tree.nodes i ≡ Some n → where_at (node_paths tree.nodes) i ≡ Some [] → n.parent ≡ None
  no_parent i n e f = let m = mid i n e in by m.front n.parent (sym (mid_where (node_paths tree.nodes) n i m) ∙ f) where
    by : (front : List Where) (o : Option ℕ) → below front n o ≡ Some [] → o ≡ None
    by front None g = refl
    by front (Some q) g = let u = mapped (λ path. step_of n ∷ path) (where_at front q) [] g in absurd (nil_step (step_of n) u.0 u.2)

  -- the root alone has no parent
  pub root_parent : (i : ℕ) (n : Node) → IsAt program entry i [] → slice_get tree.nodes i ≡ Some n → n.parent ≡ None
  root_parent i n at e = no_parent i n e (at_place i (made_at []) at.is)

  pub other_parent : (i name : ℕ) (path : List ℕ) (n : Node) → IsAt program entry i (name ∷ path) → slice_get tree.nodes i ≡ Some n → is_some n.parent ≡ true
  other_parent i name path n at e = let up = has_parent i n (name_step program.names name) (steps program.names path) e (at_place i (made_at (name ∷ path)) at.is) in ap is_some up.1

  -- the parent of a leaf is its instance
  leaf_parent : (i : ℕ) (path : List ℕ) (m : Member) (n : Node) (s : Step) → slice_get (nodes program.files entry) i ≡ Some (leaf path m) → slice_get tree.nodes i ≡ Some n
      → spot_steps program.names (place_of (leaf path m)) ≡ s ∷ steps program.names path → IsHeld program entry path n
  leaf_parent i path m n s e f g =
      let up = has_parent i n s (steps program.names path) f (at_place i (leaf path m) e ∙ ap Some g) in
      let top = leaf_stands program.files entry (suc (length (blocks_of program.files))) [] path m (at_in (leaf path m) (nodes program.files entry) i e) in
      let r = place_in (made_at path) (nodes program.files entry) top.at in
      let same = apart up.0 r.0 (steps program.names path) up.2 (at_place r.0 (made_at path) r.1) in
      record { parent = up.0; is = up.1; at = record { is = ap (slice_get (nodes program.files entry)) same ∙ r.1 } }
    where
      apart : Apart (node_paths tree.nodes)
      apart = subst Apart (sym (tree_paths program.files program.names entry tree tree_is)) (nodes_apart program.files program.names entry tree (names_differ program sound.loaded) tree_is)

  pub pin_node : (i : ℕ) (p : Pin) → IsPinAt program entry i p → IsPinNode program tree entry i p
  pin_node i p at = let it = at_node pins_of 0 [] (nodes program.files entry) (i, p) refl at.is in by it.0 it.1 it.2 where
    by : (s : Spot) → slice_get (nodes program.files entry) i ≡ Some s → Contains (pins_of s) p → IsPinNode program tree entry i p
    by (leaf path (pin text)) e h =
        let it = said i (leaf path (pin text)) e in
        subst (IsPinNode program tree entry i) (sym (only (record { path = path; label = text }) p h)) (record {
          node = it.node;
          at = it.at;
          name = sym (same_Some text it.node.name it.name);
          held = leaf_parent i path (pin text) it.node (record { pin = true; text = Some text }) e it.at refl;
        })
    by (leaf path (named n k)) e h = absurd (nowhere p h)
    by (made_at path) e h = absurd (nowhere p h)

  pub signal_node : (i : ℕ) (path : List ℕ) → IsSignalAt program entry i path → IsSignalNode program tree entry i path
  signal_node i path at = let it = at_node signals_of 0 [] (nodes program.files entry) (i, path) refl at.is in by it.0 it.1 it.2 where
    by : (s : Spot) → slice_get (nodes program.files entry) i ≡ Some s → Contains (signals_of s) path → IsSignalNode program tree entry i path
    by (leaf up (named n signal)) e h =
        let it = said i (leaf up (named n signal)) e in
        subst (IsSignalNode program tree entry i) (sym (only (n.name.0 ∷ up) path h)) (record {
          node = it.node;
          at = it.at;
          first = n.name.0;
          up = up;
          is = refl;
          name = it.name;
          held = leaf_parent i up (named n signal) it.node (name_step program.names n.name.0) e it.at refl;
          depth = depth_at tree.nodes i (steps program.names (n.name.0 ∷ up)) (at_place i (leaf up (named n signal)) e) ∙ length-map (n.name.0 ∷ up) (name_step program.names);
        })
    by (leaf up (named n param)) e h = absurd (nowhere path h)
    by (leaf up (named n (instance type))) e h = absurd (nowhere path h)
    by (leaf up (pin text)) e h = absurd (nowhere path h)
    by (made_at up) e h = absurd (nowhere path h)

  -- parents are nodes
  pub parents_within : All (λ (n : Node). IfSome n.parent (λ parent. parent < length tree.nodes)) tree.nodes
  parents_within = λ k d h.
      let n = get_or tree.nodes k d in
      let m = mid k n (slice_get-get_or tree.nodes k d h) in
      let s = item_there (nodes program.files entry) k (omega (arith, h, as_long)) in
      by k h n m.front m.long n.parent (sym (mid_where (node_paths tree.nodes) n k m) ∙ at_place k s.0 s.1)
    where
      by : (k : ℕ) → k < length tree.nodes → (n : Node) (front : List Where) → length front ≡ k → (o : Option ℕ) {w : List Step} → below front n o ≡ Some w → IfSome o (λ parent. parent < length tree.nodes)
      by k h n front long None e = tt
      by k h n front long (Some q) {w} e = let u = mapped (λ path. step_of n ∷ path) (where_at front q) w e in omega (arith, where_within front q u.0 u.1, long, h)

  -- ---- texts

  same_node : (i : ℕ) (n m : Node) → slice_get tree.nodes i ≡ Some n → slice_get tree.nodes i ≡ Some m → m ≡ n
  same_node i n m e f = same_Some m n (sym f ∙ e)

  -- the instance of a pin, and its label
  pub pin_holder : (i : ℕ) (p : Pin) → IsPinAt program entry i p → (n : Node) → slice_get tree.nodes i ≡ Some n → (parent : ℕ) → n.parent ≡ Some parent
      → IsAt program entry parent p.path × (n.name ≡ p.label)
  pin_holder i p at n e parent f =
      let it = pin_node i p at in
      let same = same_node i n it.node e it.at in (
        subst (λ q. IsAt program entry q p.path) (same_Some it.held.parent parent (sym it.held.is ∙ ap (λ (m : Node). m.parent) same ∙ f)) it.held.at,
        ap (λ (m : Node). m.name) (sym same) ∙ it.name,
      )

  -- the path of a signal
  pub signal_path : (i : ℕ) (path : List ℕ) → IsSignalAt program entry i path → (n : Node) → slice_get tree.nodes i ≡ Some n → (parent : ℕ) → n.parent ≡ Some parent
      → (top : Node) → slice_get tree.nodes parent ≡ Some top → (text more : List ℕ) → ((path : List ℕ) → IsAt program entry parent path → text ≡ path_text program.names path)
      → more ≡ (if is_some top.parent then text ++ 46 ∷ [] else text) → more ++ n.name ≡ path_text program.names path
  signal_path i path at n e parent f top g text more told is =
      let same = same_node i n it.node e it.at in
      let holder = subst (λ q. IsAt program entry q it.up) (same_Some it.held.parent parent (sym it.held.is ∙ ap (λ (m : Node). m.parent) same ∙ f)) it.held.at in
      by it.up holder (told it.up holder) ∙ ap (path_text program.names) (sym it.is)
    where
      it : IsSignalNode program tree entry i path
      it = signal_node i path at

      named : slice_get program.names it.first ≡ Some n.name
      named = it.name ∙ ap (λ (m : Node). Some m.name) (same_node i n it.node e it.at)

      by : (up : List ℕ) → IsAt program entry parent up → text ≡ path_text program.names up → more ++ n.name ≡ path_text program.names (it.first ∷ up)
      by [] holder t =
          let none : is_some top.parent ≡ false = ap is_some (root_parent parent top holder g) in
          ap (λ l. l ++ n.name) (is ∙ ap (λ b. if b then text ++ 46 ∷ [] else text) none) ∙ first_path program.names it.first text n.name t named
      by (k ∷ rest) holder t =
          ap (λ l. l ++ n.name) (is ∙ ap (λ b. if b then text ++ 46 ∷ [] else text) (other_parent parent k rest top holder g))
          ∙ longer_path program.names it.first k rest text n.name t named
