-- What is built in part, with one more node or the statements of one more instance.
use Rattle.std.proofs.Common.{◌≡◌, ◌<◌, ◌≤◌, ℕ, zero, suc, ◌+◌, Bool, true, false, List, [], ◌∷◌, ◌++◌, map, Option, Some, None, refl, sym, ap, ◌∙◌, subst, length, length-append, append-nil, arith}
use Rattle.std.specs.Prelude.{slice_get, option_to_list, if◌then◌else◌}
use Rattle.std.specs.List.{flat_map}
use Rattle.std.specs.Option.{option_map, option_and_then}
use Rattle.std.proofs.lemmas.List.{map-append, length-map}
use Rattle.std.proofs.lemmas.Option.{slice_get_within, none-some}
use Rattle.ato_files.proofs.PushLemmas.{slice_get_push_first, slice_get_push_last}
use Rattle.ato_ast.specs.declared.names.Named.{Named}
use Rattle.ato_files.specs.declared.program.SourceFile.{SourceFile}
use Rattle.ato_files.specs.Members.{Kind, signal, instance, param}
use Rattle.ato_instance_tree.specs.declared.tree.Node.{Node}
use Rattle.ato_instance_tree.specs.declared.tree.NodeKind.{NodeKind}
use Rattle.ato_instance_tree.specs.declared.tree.NodeKind.TheVariants as node
use Rattle.ato_instance_tree.specs.declared.tree.Occurrence.{Occurrence}
use Rattle.ato_instance_tree.specs.declared.type_stmts.StmtAt.{StmtAt}
use Rattle.ato_instance_tree.specs.Kept.{located_of}
use Rattle.ato_instance_tree.specs.Members.{Member, pin, named}
use Rattle.ato_instance_tree.specs.Order.{Spot, leaf, made_at, occs_at}
use Rattle.ato_instance_tree.specs.Types.{Located, type_stmts, type_kind}
use Rattle.ato_instance_tree.specs.Walk.{Occ, type_at}
use Rattle.ato_instance_tree.specs.Trees.{Step, name_step, Where, where_at, below, step_of, is_pin, node_paths, Said, said_with, tree_said, steps, pin_said, named_said, instance_said, spot_said, SaidOcc, occ_said, walked_said}
use Rattle.ato_instance_tree.proofs.PushLaws.{paths_push, said_push, said_long, occurrences_push}
use Rattle.ato_elab.specs.declared.built.Built.{Built}
use Rattle.ato_elab.specs.Built.{put_under, instance_spot, held}
use Rattle.ato_elab.specs.Placing.{AreHeld, HoldsMore, IsFresh, own_name}
use Rattle.ato_elab.specs.Growing.{IsSoFar, IsPut, IsLeafKind, occ_of}
use Rattle.ato_elab.proofs.PlaceLemmas.{push_kept, held_nameless, held_named}

-- ---- occurrences stay where nodes are put

place_kept : (paths : List Where) (p : Where) (i : ℕ) (x : List Step) → where_at paths i ≡ Some x → where_at (paths ++ p ∷ []) i ≡ where_at paths i
place_kept paths p i x e = by (slice_get paths i) refl
  where
    by : (o : Option Where) → slice_get paths i ≡ o → where_at (paths ++ p ∷ []) i ≡ where_at paths i
    by None f = absurd (none-some x (sym (ap (option_and_then (λ w. w)) f) ∙ e))
    by (Some w) f = ap (option_and_then (λ w. w)) (slice_get_push_first paths p i (slice_get_within paths i w f))

occs_kept : (paths : List Where) (p : Where) (names : List (List ℕ)) (os : List Occurrence) (ws : List Occ)
    → map (occ_said paths) os ≡ map (walked_said names) ws → map (occ_said (paths ++ p ∷ [])) os ≡ map (walked_said names) ws
occs_kept paths p names [] ws e = e
occs_kept paths p names (o ∷ os) [] e = cc
occs_kept paths p names (o ∷ os) (w ∷ ws) e =
    let head : occ_said paths o ≡ walked_said names w = cc in
    let tail : map (occ_said paths) os ≡ map (walked_said names) ws = cc in
    let kept = place_kept paths p o.node (steps names w.path) (ap (λ (x : SaidOcc). x.path) head) in
    ap (λ (x : Where). let s : SaidOcc = record { path = x; block = o.block; line = o.line; part = o.part } in s ∷ map (occ_said (paths ++ p ∷ [])) os) kept
    ∙ ap (λ x. x ∷ map (occ_said (paths ++ p ∷ [])) os) head
    ∙ ap (λ xs. walked_said names w ∷ xs) (occs_kept paths p names os ws tail)

under_kept : (done : List Spot) (s : Spot) (os : List Occurrence) (ws : List Occ)
    → map (put_under done) os ≡ map instance_spot ws → map (put_under (done ++ s ∷ [])) os ≡ map instance_spot ws
under_kept done s [] ws e = e
under_kept done s (o ∷ os) [] e = cc
under_kept done s (o ∷ os) (w ∷ ws) e =
    let head : slice_get done o.node ≡ Some (made_at w.path) = cc in
    let tail : map (put_under done) os ≡ map instance_spot ws = cc in
    ap (λ x. x ∷ map (put_under (done ++ s ∷ [])) os) (push_kept done s (made_at w.path) o.node head)
    ∙ ap (λ xs. Some (made_at w.path) ∷ xs) (under_kept done s os ws tail)

-- ---- one more node

-- what a node says behind others
abbrev said_behind : List Where → Node → Said
said_behind paths n = record { path = below paths n n.parent; name = Some n.name; kind = Some n.kind; block = n.block }

module _ (files : List SourceFile) (names : List (List ℕ)) (entry : ℕ) (done : List Spot) (looked : List (List ℕ)) (old : Built) (was : IsSoFar files names entry done looked old) where
  -- There is one node for each.
  pub nodes_long : length old.nodes ≡ length done
  nodes_long = sym (said_long old.nodes) ∙ ap length was.told ∙ length-map done (spot_said files entry names)

  pub with_node : (s : Spot) (n : Node) (new : Built) → new.nodes ≡ old.nodes ++ n ∷ [] → new.occurrences ≡ old.occurrences
      → said_behind (node_paths old.nodes) n ≡ spot_said files entry names s → AreHeld (done ++ s ∷ []) new.places → IsSoFar files names entry (done ++ s ∷ []) looked new
  with_node s n new nodes occs said held = record {
    told = ap tree_said nodes ∙ said_push old.nodes n ∙ ap (λ z. z ++ said_behind (node_paths old.nodes) n ∷ []) was.told
        ∙ ap (λ z. map (spot_said files entry names) done ++ z ∷ []) said ∙ sym (map-append (spot_said files entry names) done (s ∷ []));
    written = ap (λ (os : List Occurrence). map (occ_said (node_paths new.nodes)) os) occs
        ∙ ap (λ (ps : List Where). map (occ_said ps) old.occurrences) (ap node_paths nodes ∙ paths_push old.nodes n)
        ∙ occs_kept (node_paths old.nodes) (below (node_paths old.nodes) n n.parent) names old.occurrences (flat_map (occs_at files entry) looked) was.written;
    under = ap (map (put_under (done ++ s ∷ []))) occs ∙ under_kept done s old.occurrences (flat_map (occs_at files entry) looked) was.under;
    held = held;
  }

-- ---- where the instance of a number is

said_place : (files : List SourceFile) (names : List (List ℕ)) (entry : ℕ) (paths : List Where) (ns : List Node) (ss : List Spot) (i : ℕ) (path : List ℕ)
    → said_with paths ns ≡ map (spot_said files entry names) ss → slice_get ss i ≡ Some (made_at path) → where_at paths i ≡ Some (steps names path)
said_place files names entry paths ns [] i path e at = absurd (none-some (made_at path) at)
said_place files names entry [] ns (s ∷ ss) i path e at = cc
said_place files names entry (p ∷ paths) [] (s ∷ ss) i path e at = cc
said_place files names entry (p ∷ paths) (n ∷ ns) (s ∷ ss) zero path e at =
    let first : Said = record { path = p; name = Some n.name; kind = Some n.kind; block = n.block } in
    let head : first ≡ spot_said files entry names s = cc in
    let same : s ≡ made_at path = cc in
    ap (λ (x : Said). x.path) (head ∙ ap (spot_said files entry names) same)
said_place files names entry (p ∷ paths) (n ∷ ns) (s ∷ ss) (suc i) path e at =
    let tail : said_with paths ns ≡ map (spot_said files entry names) ss = cc in
    said_place files names entry paths ns ss i path tail at

-- ---- what nodes of names say

-- a node of a name below an instance
abbrev name_said : Where → NodeKind → List ℕ → Option ℕ → Said
name_said place kind text block = record { path = option_map (λ path. let s : Step = record { pin = is_pin kind; text = Some text } in s ∷ path) place; name = Some text; kind = Some kind; block = block }

abbrev plain_said : List (List ℕ) → List ℕ → ℕ → NodeKind → Option ℕ → Said
plain_said names path n kind block = record { path = Some (name_step names n ∷ steps names path); name = slice_get names n; kind = Some kind; block = block }

name_is : (names : List (List ℕ)) (place : Where) (path : List ℕ) (n : ℕ) (kind : NodeKind) (text : List ℕ) (block : Option ℕ)
    → place ≡ Some (steps names path) → slice_get names n ≡ Some text → is_pin kind ≡ false → name_said place kind text block ≡ plain_said names path n kind block
name_is names place path n kind text block at called no_pin =
    ap (λ (w : Where). name_said w kind text block) at
    ∙ ap (λ (b : Bool). let s : Step = record { pin = b; text = Some text } in let x : Said = record { path = Some (s ∷ steps names path); name = Some text; kind = Some kind; block = block } in x) no_pin
    ∙ ap (λ (o : Option (List ℕ)). let s : Step = record { pin = false; text = o } in let x : Said = record { path = Some (s ∷ steps names path); name = o; kind = Some kind; block = block } in x) (sym called)

pin_is : (names : List (List ℕ)) (place : Where) (path text label : List ℕ) → place ≡ Some (steps names path) → text ≡ label
    → name_said place node.Pin text None ≡ pin_said names path label
pin_is names place path text label at same = ap (λ (w : Where). name_said w node.Pin text None) at ∙ ap (λ (t : List ℕ). pin_said names path t) same

-- a type is no pin
pub type_no_pin : (files : List SourceFile) (type : ℕ) → is_pin (type_kind files type) ≡ false
type_no_pin files type = by _ _
  where
    by : (a b : Bool) → is_pin (if a then node.Component else (if b then node.Module else node.Interface)) ≡ false
    by true b = refl
    by false true = refl
    by false false = refl

leaf_is : (files : List SourceFile) (names : List (List ℕ)) (entry : ℕ) (path : List ℕ) (n : Named) (k : Kind) (kind : NodeKind) → IsLeafKind k kind
    → (is_pin kind ≡ false) × (plain_said names path n.name.0 kind None ≡ spot_said files entry names (leaf path (named n k)))
leaf_is files names entry path n signal node.Signal h = (refl, refl)
leaf_is files names entry path n param node.Param h = (refl, refl)
leaf_is files names entry path n signal node.Param h = absurd h
leaf_is files names entry path n signal node.Pin h = absurd h
leaf_is files names entry path n signal node.Module h = absurd h
leaf_is files names entry path n signal node.Component h = absurd h
leaf_is files names entry path n signal node.Interface h = absurd h
leaf_is files names entry path n param node.Signal h = absurd h
leaf_is files names entry path n param node.Pin h = absurd h
leaf_is files names entry path n param node.Module h = absurd h
leaf_is files names entry path n param node.Component h = absurd h
leaf_is files names entry path n param node.Interface h = absurd h
leaf_is files names entry path n (instance type) kind h = absurd h

leaf_fresh : (done : List Spot) (path : List ℕ) (m : Member) → IsFresh done (leaf path m)
leaf_fresh done path m j p e at = cc

-- what an instance says, by its type
instance_is : (files : List SourceFile) (names : List (List ℕ)) (entry : ℕ) (path : List ℕ) (n block : ℕ) (kind : NodeKind) → type_at files entry (n ∷ path) ≡ Some block → kind ≡ type_kind files block
    → plain_said names path n kind (Some block) ≡ spot_said files entry names (made_at (n ∷ path))
instance_is files names entry path n block kind type same =
    ap (λ (k : NodeKind). plain_said names path n k (Some block)) same ∙ ap (λ (o : Option ℕ). instance_said files names (n ∷ path) o) (sym type)

module _ (files : List SourceFile) (names : List (List ℕ)) (entry : ℕ) (done : List Spot) (looked : List (List ℕ)) (old : Built) (was : IsSoFar files names entry done looked old) where
  place_of : (number : ℕ) (path : List ℕ) → slice_get done number ≡ Some (made_at path) → where_at (node_paths old.nodes) number ≡ Some (steps names path)
  place_of number path at = said_place files names entry (node_paths old.nodes) old.nodes done number path was.told at

  pub with_pin : (under : ℕ) (path text label : List ℕ) (new : Built) → slice_get done under ≡ Some (made_at path) → text ≡ label
      → new.nodes ≡ old.nodes ++ record { kind = node.Pin; name = text; parent = Some under; block = None } ∷ [] → new.occurrences ≡ old.occurrences → new.places ≡ old.places
      → IsSoFar files names entry (done ++ leaf path (pin label) ∷ []) looked new
  with_pin under path text label new at same nodes occs places =
      let s = leaf path (pin label) in
      with_node files names entry done looked old was s (record { kind = node.Pin; name = text; parent = Some under; block = None }) new nodes occs
      (pin_is names (where_at (node_paths old.nodes) under) path text label (place_of under path at) same)
      (held_nameless done s old.places new.places was.held (leaf_fresh done path (pin label)) refl (λ i name. ap (λ p. held p i name) places))

  with_name : (under name : ℕ) (path : List ℕ) (kind : NodeKind) (block : Option ℕ) (s : Spot) (new : Built) → IsPut names under name kind block old new → slice_get done under ≡ Some (made_at path)
      → is_pin kind ≡ false → plain_said names path name kind block ≡ spot_said files entry names s → own_name s ≡ Some (path, name) → IsFresh done s
      → IsSoFar files names entry (done ++ s ∷ []) looked new
  with_name under name path kind block s new put at no_pin said owns fresh =
      with_node files names entry done looked old was s (record { kind = kind; name = put.text; parent = Some under; block = block }) new put.nodes put.occurrences
      (name_is names (where_at (node_paths old.nodes) under) path name kind put.text block (place_of under path at) put.called no_pin ∙ said)
      (held_named done s old.places new.places was.held fresh (under, name) (path, at, owns)
      (subst (λ (k : ℕ). HoldsMore old.places (under, name) k new.places) (nodes_long files names entry done looked old was) put.places))

  pub with_leaf : (under name : ℕ) (path : List ℕ) (kind : NodeKind) (n : Named) (k : Kind) (new : Built) → IsPut names under name kind None old new → slice_get done under ≡ Some (made_at path)
      → n.name.0 ≡ name → IsLeafKind k kind → IsSoFar files names entry (done ++ leaf path (named n k) ∷ []) looked new
  with_leaf under name path kind n k new put at same leaf_kind =
      let is = leaf_is files names entry path n k kind leaf_kind in
      with_name under name path kind None (leaf path (named n k)) new put at is.0
      (ap (λ (x : ℕ). plain_said names path x kind None) (sym same) ∙ is.1)
      (ap (λ (x : ℕ). let o : Option (List ℕ × ℕ) = Some (path, x) in o) same) (leaf_fresh done path (named n k))

  pub with_instance : (under name block : ℕ) (path : List ℕ) (kind : NodeKind) (new : Built) → IsPut names under name kind (Some block) old new → slice_get done under ≡ Some (made_at path)
      → type_at files entry (name ∷ path) ≡ Some block → kind ≡ type_kind files block → IsFresh done (made_at (name ∷ path)) → IsSoFar files names entry (done ++ made_at (name ∷ path) ∷ []) looked new
  with_instance under name block path kind new put at type same fresh =
      with_name under name path kind (Some block) (made_at (name ∷ path)) new put at (ap is_pin same ∙ type_no_pin files block)
      (instance_is files names entry path name block kind type same) refl fresh

  -- the statements of one more instance
  pub with_look : (number : ℕ) (path : List ℕ) (statements : List StmtAt) (new : Built) → slice_get done number ≡ Some (made_at path)
      → map located_of statements ≡ flat_map (type_stmts files) (option_to_list (type_at files entry path))
      → new.nodes ≡ old.nodes → new.occurrences ≡ old.occurrences ++ map (occ_of number) statements → new.places ≡ old.places
      → IsSoFar files names entry done (looked ++ path ∷ []) new
  with_look number path statements new at stmts nodes occs places = record {
    told = ap tree_said nodes ∙ was.told;
    written = ap (λ (ns : List Node). map (occ_said (node_paths ns)) new.occurrences) nodes
        ∙ ap (map (occ_said paths)) occs ∙ map-append (occ_said paths) old.occurrences (map (occ_of number) statements)
        ∙ ap (λ z. z ++ map (occ_said paths) (map (occ_of number) statements)) was.written
        ∙ ap (λ z. map (walked_said names) before ++ z) (said_occs statements ∙ ap (λ (ls : List Located). map (walked_said names) (map at_path ls)) stmts)
        ∙ sym (map-append (walked_said names) before (occs_at files entry path))
        ∙ ap (map (walked_said names)) (sym (occurrences_push files entry looked path));
    under = ap (map (put_under done)) occs ∙ map-append (put_under done) old.occurrences (map (occ_of number) statements)
        ∙ ap (λ z. z ++ map (put_under done) (map (occ_of number) statements)) was.under
        ∙ ap (λ z. map instance_spot before ++ z) (under_occs statements ∙ ap (λ (ls : List Located). map instance_spot (map at_path ls)) stmts)
        ∙ sym (map-append instance_spot before (occs_at files entry path))
        ∙ ap (map instance_spot) (sym (occurrences_push files entry looked path));
    held = subst (AreHeld done) (sym places) was.held;
  }
    where
      paths : List Where
      paths = node_paths old.nodes

      before : List Occ
      before = flat_map (occs_at files entry) looked

      at_path : Located → Occ
      at_path l = record { path = path; at = l }

      said_occs : (ss : List StmtAt) → map (occ_said paths) (map (occ_of number) ss) ≡ map (walked_said names) (map at_path (map located_of ss))
      said_occs [] = refl
      said_occs (s ∷ ss) = ap (λ (w : Where). let x : SaidOcc = record { path = w; block = s.block; line = s.line; part = s.part } in x ∷ map (occ_said paths) (map (occ_of number) ss)) (place_of number path at)
          ∙ ap (λ xs. walked_said names (at_path (located_of s)) ∷ xs) (said_occs ss)

      under_occs : (ss : List StmtAt) → map (put_under done) (map (occ_of number) ss) ≡ map instance_spot (map at_path (map located_of ss))
      under_occs [] = refl
      under_occs (s ∷ ss) = ap (λ x. x ∷ map (put_under done) (map (occ_of number) ss)) at ∙ ap (λ xs. Some (made_at path) ∷ xs) (under_occs ss)

-- the root, first
pub with_root : (files : List SourceFile) (names : List (List ℕ)) (block : ℕ) (kind : NodeKind) (text : List ℕ) (old new : Built) → IsSoFar files names block [] [] old → kind ≡ type_kind files block → text ≡ []
    → new.nodes ≡ old.nodes ++ record { kind = kind; name = text; parent = None; block = Some block } ∷ [] → new.occurrences ≡ old.occurrences → new.places ≡ old.places
    → IsSoFar files names block (made_at [] ∷ []) [] new
with_root files names block kind text old new was same empty nodes occs places =
    let s = made_at [] in
    with_node files names block [] [] old was s (record { kind = kind; name = text; parent = None; block = Some block }) new nodes occs
    (ap (λ (t : List ℕ). let x : Said = record { path = Some []; name = Some t; kind = Some kind; block = Some block } in x) empty
    ∙ ap (λ (k : NodeKind). let x : Said = record { path = Some []; name = Some []; kind = Some k; block = Some block } in x) same)
    (held_nameless [] s old.places new.places was.held (λ j path e at. none-some (made_at path) at) refl (λ i name. ap (λ p. held p i name) places))
