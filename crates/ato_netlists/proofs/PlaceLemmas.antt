-- Where the nodes of a tree are.
use Rattle.std.proofs.Common.{◌≡◌, ℕ, List, [], ◌∷◌, length, Option, Some, None, sym, ap, ◌∙◌, subst, arith}
use Rattle.std.specs.Prelude.{slice_get}
use Rattle.std.specs.Option.{option_map, option_and_then}
use Rattle.std.proofs.lemmas.List.{length-map}
use Rattle.std.proofs.lemmas.Option.{same_Some, slice_get-map, slice_get_within}
use Rattle.ato_files.specs.declared.program.Program.{Program}
use Rattle.ato_instance_tree.specs.declared.tree.Node.{Node}
use Rattle.ato_instance_tree.specs.declared.tree.Tree.{Tree}
use Rattle.ato_instance_tree.specs.Order.{Spot, nodes}
use Rattle.ato_instance_tree.specs.Trees.{Step, Where, where_at, step_of, below, node_paths, steps, Said, spot_said}
use Rattle.ato_instance_tree.specs.Laws.{SpotPlace, at_names, at_label, place_of}
use Rattle.ato_instance_tree.proofs.ParentLaws.{IsMid, mid_of, where_mid, item_there}
use Rattle.ato_instance_tree.proofs.PushLaws.{paths_long}
use Rattle.ato_instance_tree.proofs.TreeLaws.{Apart, IsTold, told_at, all_told, spot_steps, said_place, said_path, same_place, front_at, mapped, nil_step, later, tree_paths, nodes_apart}
use Rattle.ato_elab.proofs.SaidLaws.{IsSaid, said_at}
use Rattle.ato_netlists.specs.Known.{IsSound}
use Rattle.ato_netlists.proofs.KnownLaws.{sound_tree, sound_names}

module _ {program : Program} {tree : Tree} {entry : ℕ} (s : IsSound program tree entry) where
  abbrev pub ws : List Where
  ws = node_paths tree.nodes

  pub counted : length tree.nodes ≡ length (nodes program.files entry)
  counted =
      let a = paths_long tree.nodes in
      let b = ap length (tree_paths program.files program.names entry tree (sound_tree s)) in
      let c = length-map (nodes program.files entry) (said_path program.files entry program.names) in omega arith

  -- what is said of the node of a spot
  pub said : (i : ℕ) (spot : Spot) → slice_get (nodes program.files entry) i ≡ Some spot → IsSaid ws tree.nodes i (spot_said program.files entry program.names spot)
  said i spot e = said_at ws tree.nodes i (spot_said program.files entry program.names spot)
      (ap (λ (ss : List Said). slice_get ss i) (sound_tree s).told ∙ slice_get-map (spot_said program.files entry program.names) (nodes program.files entry) i
      ∙ ap (option_map (spot_said program.files entry program.names)) e)

  pub spot_where : (i : ℕ) (spot : Spot) → slice_get (nodes program.files entry) i ≡ Some spot → where_at ws i ≡ Some (spot_steps program.names (place_of spot))
  spot_where i spot e = ap (option_and_then (λ (w : Where). w)) (said i spot e).path ∙ said_place program.files entry program.names spot

  pub spot_there : (i : ℕ) (n : Node) → slice_get tree.nodes i ≡ Some n → (spot : Spot) × (slice_get (nodes program.files entry) i ≡ Some spot)
  spot_there i n e = let less = slice_get_within tree.nodes i n e in let same = counted in item_there (nodes program.files entry) i (omega arith)

  pub apart : Apart ws
  apart = subst Apart (sym (tree_paths program.files program.names entry tree (sound_tree s))) (nodes_apart program.files program.names entry tree (sound_names s) (sound_tree s))

  -- two paths of names with the same steps are one, where a node is there
  pub one_path : (i : ℕ) (p q : List ℕ) → where_at ws i ≡ Some (steps program.names p) → steps program.names p ≡ steps program.names q → p ≡ q
  one_path i p q at e = ap names_in (same_place program.names (at_names p) (at_names q) (sound_names s) e (subst IsTold at (told_at ws i (all_told [] tree.nodes tt))))
    where
      names_in : SpotPlace → List ℕ
      names_in (at_names path) = path
      names_in (at_label path text) = path

  mid : (j : ℕ) (n : Node) → slice_get tree.nodes j ≡ Some n → IsMid ws n j
  mid j n e = subst (IsMid ws n) (omega arith) (mid_of [] tree.nodes j n e)

  at_mid : (j : ℕ) (n : Node) (m : IsMid ws n j) → where_at ws j ≡ below m.front n n.parent
  at_mid j n m = ap (λ (l : List Where). where_at l j) m.is ∙ where_mid m.front (below m.front n n.parent) m.rest j m.long

  front_is : (j : ℕ) (n : Node) (m : IsMid ws n j) (a : ℕ) (q : List Step) → where_at m.front a ≡ Some q → where_at ws a ≡ Some q
  front_is j n m a q e = ap (λ (l : List Where). where_at l a) m.is ∙ front_at m.front (below m.front n n.parent ∷ m.rest) a q e

  -- where a node is whose parent is known
  pub under_parent : (j a : ℕ) (n : Node) (w q : List Step) → slice_get tree.nodes j ≡ Some n → where_at ws j ≡ Some w → n.parent ≡ Some a → where_at ws a ≡ Some q → w ≡ step_of n ∷ q
  under_parent j a n w q e at f g =
      let m = mid j n e in
      let here : option_map (λ path. step_of n ∷ path) (where_at m.front a) ≡ Some w = sym (at_mid j n m ∙ ap (below m.front n) f) ∙ at in
      let up = mapped (λ (path : List Step). step_of n ∷ path) (where_at m.front a) w here in
      sym up.2 ∙ ap (λ (r : List Step). step_of n ∷ r) (same_Some up.0 q (sym (front_is j n m a up.0 up.1) ∙ g))

  by_parent : (j a : ℕ) (n : Node) (x : Step) (q : List Step) (m : IsMid ws n j) (o : Option ℕ) → below m.front n o ≡ Some (x ∷ q) → where_at ws a ≡ Some q → o ≡ Some a
  by_parent j a n x q m None e g = absurd (nil_step x q (sym (same_Some [] (x ∷ q) e)))
  by_parent j a n x q m (Some b) e g =
      let up = mapped (λ (path : List Step). step_of n ∷ path) (where_at m.front b) (x ∷ q) e in
      ap Some (apart b a q (front_is j n m b up.0 up.1 ∙ ap Some (ap later up.2)) g)

  -- the parent of a node whose place is known
  pub parent_is : (j a : ℕ) (n : Node) (x : Step) (q : List Step) → slice_get tree.nodes j ≡ Some n → where_at ws j ≡ Some (x ∷ q) → where_at ws a ≡ Some q → n.parent ≡ Some a
  parent_is j a n x q e f g = let m = mid j n e in by_parent j a n x q m n.parent (sym (at_mid j n m) ∙ f) g
