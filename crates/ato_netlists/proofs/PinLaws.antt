-- An instance has a pin among the nodes of a tree where its type has one.
use Rattle.std.proofs.Common.{◌≡◌, ℕ, zero, suc, Bool, true, false, true≢false, ◌||◌, nat_eq, List, [], ◌∷◌, length, Option, Some, None, inl, inr, refl, sym, ap, ◌∙◌, subst}
use Rattle.std.specs.Prelude.{slice_get, option_to_list, if◌then◌else◌}
use Rattle.std.specs.List.{list_any, flat_map}
use Rattle.std.specs.Option.{option_map}
use Rattle.std.proofs.lemmas.List.{append-nil}
use Rattle.std.proofs.lemmas.Option.{none-some, same_Some}
use Rattle.ato_files.specs.declared.program.Program.{Program}
use Rattle.ato_files.specs.declared.program.SourceFile.{SourceFile}
use Rattle.ato_files.specs.Blocks.{blocks_of}
use Rattle.ato_files.specs.Members.{signal, instance, param}
use Rattle.ato_instance_tree.specs.declared.tree.NodeKind.{NodeKind}
use Rattle.ato_instance_tree.specs.declared.tree.NodeKind.TheVariants as node
use Rattle.ato_instance_tree.specs.declared.tree.Node.{Node}
use Rattle.ato_instance_tree.specs.declared.tree.Tree.{Tree}
use Rattle.ato_instance_tree.specs.Types.{type_kind, block_kinds, is_component, is_module}
use Rattle.ato_instance_tree.specs.Members.{Member, pin, named, members}
use Rattle.ato_instance_tree.specs.Walk.{type_at}
use Rattle.ato_instance_tree.specs.Order.{Spot, leaf, made_at, nodes}
use Rattle.ato_instance_tree.specs.PathFaults.{is_component_at}
use Rattle.ato_instance_tree.specs.TreeFaults.{is_leaf}
use Rattle.ato_instance_tree.specs.Trees.{is_pin, steps, spot_said}
use Rattle.ato_instance_tree.specs.Laws.{at_label}
use Rattle.ato_instance_tree.proofs.ParentLaws as parents
use Rattle.ato_instance_tree.proofs.PlaceLaws.{place_in}
use Rattle.ato_instance_tree.proofs.SpotLaws.{IsIn, at_in}
use Rattle.ato_instance_tree.proofs.NodeLaws.{leaf_stands, has_leaf}
use Rattle.ato_instance_tree.proofs.TreeLaws.{later, spot_steps}
use Rattle.ato_links.specs.Parts as parts
use Rattle.ato_elab.specs.Late.{kind_is_component, some_component, component_at}
use Rattle.ato_elab.proofs.AimLaws.{same_truth}
use Rattle.ato_elab.proofs.GrowLemmas.{type_no_pin}
use Rattle.ato_netlists.specs.Known.{IsSound}
use Rattle.ato_netlists.specs.Pinned.{holder_of, is_pin_in}
use Rattle.ato_netlists.proofs.PlaceLemmas.{said, spot_where, spot_there, one_path, under_parent, parent_is}

-- ---- tests over lists

any_found : {X : Type 0} (test : X → Bool) (xs : List X) → list_any test xs ≡ true → (i : ℕ) × (x : X) × (slice_get xs i ≡ Some x) × (test x ≡ true)
any_found test [] h = absurd (true≢false (sym h))
any_found test (x ∷ xs) h = by (test x) refl (λ e. any_found test xs (ap (λ (b : Bool). b || list_any test xs) (sym e) ∙ h))
  where
    by : (b : Bool) → test x ≡ b → (test x ≡ false → (i : ℕ) × (y : _) × (slice_get xs i ≡ Some y) × (test y ≡ true)) → (i : ℕ) × (y : _) × (slice_get (x ∷ xs) i ≡ Some y) × (test y ≡ true)
    by true e more = (zero, x, refl, e)
    by false e more = let m = more e in (suc m.0, m.1, m.2, m.3)

or_true : (a : Bool) → (a || true) ≡ true
or_true true = refl
or_true false = refl

in_any : {X : Type 0} (test : X → Bool) (xs : List X) (x : X) → IsIn x xs → test x ≡ true → list_any test xs ≡ true
in_any test [] x h t = absurd h
in_any test (y ∷ ys) x (inl e) t = ap (λ (b : Bool). b || list_any test ys) (ap test (sym e) ∙ t)
in_any test (y ∷ ys) x (inr h) t = ap (λ (b : Bool). test y || b) (in_any test ys x h t) ∙ or_true (test y)

-- ---- kinds

kind_law : (a b : Bool) → kind_is_component (if a then node.Component else (if b then node.Module else node.Interface)) ≡ a
kind_law true b = refl
kind_law false true = refl
kind_law false false = refl

type_law : (files : List SourceFile) (type : Option ℕ) (kind : NodeKind) → option_map (type_kind files) type ≡ Some kind
    → kind_is_component kind ≡ list_any is_component (flat_map (block_kinds files) (option_to_list type))
type_law files None kind e = absurd (none-some kind e)
type_law files (Some type) kind e =
    ap kind_is_component (sym (same_Some (type_kind files type) kind e))
    ∙ kind_law (list_any is_component (block_kinds files type)) (list_any is_module (block_kinds files type))
    ∙ ap (list_any is_component) (sym (append-nil (block_kinds files type)))

no_pin : (files : List SourceFile) (type : Option ℕ) (kind : NodeKind) → option_map (type_kind files) type ≡ Some kind → is_pin kind ≡ false
no_pin files None kind e = absurd (none-some kind e)
no_pin files (Some type) kind e = ap is_pin (sym (same_Some (type_kind files type) kind e)) ∙ type_no_pin files type

module _ {program : Program} {tree : Tree} {entry : ℕ} (s : IsSound program tree entry) where
  -- ---- components

  pub component_law : (i : ℕ) (path : List ℕ) → slice_get (nodes program.files entry) i ≡ Some (made_at path) → component_at tree.nodes i ≡ is_component_at program.files entry path
  component_law i path e = let t = said s i (made_at path) e in
      ap some_component t.at ∙ type_law program.files (type_at program.files entry path) t.node.kind t.kind

  leaf_kind : (path : List ℕ) (m : Member) (kind : NodeKind) → is_leaf m ≡ true → (spot_said program.files entry program.names (leaf path m)).kind ≡ Some kind → kind_is_component kind ≡ false
  leaf_kind path (pin text) kind l e = ap kind_is_component (sym (same_Some node.Pin kind e))
  leaf_kind path (named n signal) kind l e = ap kind_is_component (sym (same_Some node.Signal kind e))
  leaf_kind path (named n param) kind l e = ap kind_is_component (sym (same_Some node.Param kind e))
  leaf_kind path (named n (instance type)) kind l e = absurd (true≢false (sym l))

  -- a leaf is no component
  pub no_component : (i : ℕ) (path : List ℕ) (m : Member) → slice_get (nodes program.files entry) i ≡ Some (leaf path m) → component_at tree.nodes i ≡ false
  no_component i path m e = let t = said s i (leaf path m) e in
      ap some_component t.at
      ∙ leaf_kind path m t.node.kind (leaf_stands program.files entry (suc (length (blocks_of program.files))) [] path m (at_in (leaf path m) (nodes program.files entry) i e)).no_instance t.kind

  -- ---- pins

  module _ (i : ℕ) (path : List ℕ) (here : slice_get (nodes program.files entry) i ≡ Some (made_at path)) where
    holds : (n : Node) (b : Bool) → is_pin n.kind ≡ b → (if b then n.parent else None) ≡ Some i → (is_pin n.kind ≡ true) × (n.parent ≡ Some i)
    holds n true e f = (e, f)
    holds n false e f = absurd (none-some i f)

    -- a node that is a pin and stands in the instance is a pin of its type
    of_spot : (j : ℕ) (n : Node) (spot : Spot) → slice_get tree.nodes j ≡ Some n → slice_get (nodes program.files entry) j ≡ Some spot → is_pin n.kind ≡ true → n.parent ≡ Some i
        → (spot_said program.files entry program.names spot).kind ≡ Some n.kind → list_any parts.is_pin (members program.files (type_at program.files entry path)) ≡ true
    of_spot j n (made_at q) at there is up kind = absurd (true≢false (sym is ∙ no_pin program.files (type_at program.files entry q) n.kind kind))
    of_spot j n (leaf q (named m signal)) at there is up kind = absurd (true≢false (sym is ∙ ap is_pin (sym (same_Some node.Signal n.kind kind))))
    of_spot j n (leaf q (named m param)) at there is up kind = absurd (true≢false (sym is ∙ ap is_pin (sym (same_Some node.Param n.kind kind))))
    of_spot j n (leaf q (named m (instance type))) at there is up kind = absurd (true≢false (sym is ∙ no_pin program.files (type_at program.files entry (m.name.0 ∷ q)) n.kind kind))
    of_spot j n (leaf q (pin text)) at there is up kind =
        let w = under_parent s j i n (spot_steps program.names (at_label q text)) (steps program.names path) at (spot_where s j (leaf q (pin text)) there) up (spot_where s i (made_at path) here) in
        let same : path ≡ q = one_path s i path q (spot_where s i (made_at path) here) (sym (ap later w)) in
        let is_in = (leaf_stands program.files entry (suc (length (blocks_of program.files))) [] q (pin text) (at_in (leaf q (pin text)) (nodes program.files entry) j there)).is in
        in_any parts.is_pin (members program.files (type_at program.files entry path)) (pin text)
        (subst (λ (p : List ℕ). IsIn (pin text) (members program.files (type_at program.files entry p))) (sym same) is_in) refl

    kind_of : (j : ℕ) (n : Node) (spot : Spot) → slice_get tree.nodes j ≡ Some n → slice_get (nodes program.files entry) j ≡ Some spot → (spot_said program.files entry program.names spot).kind ≡ Some n.kind
    kind_of j n spot at there = let t = said s j spot there in t.kind ∙ ap (λ (m : Node). Some m.kind) (same_Some t.node n (sym t.at ∙ at))

    forth : list_any (is_pin_in i) tree.nodes ≡ true → list_any parts.is_pin (members program.files (type_at program.files entry path)) ≡ true
    forth h =
        let found = any_found (is_pin_in i) tree.nodes h in
        let n = found.1 in
        let both = holds n (is_pin n.kind) refl (parents.parent_is i (holder_of n) found.3) in
        let spot = spot_there s found.0 n found.2 in
        of_spot found.0 n spot.0 found.2 spot.1 both.0 both.1 (kind_of found.0 n spot.0 found.2 spot.1)

    -- a pin of its type is a node that stands in the instance
    of_member : (m : Member) → IsIn m (members program.files (type_at program.files entry path)) → parts.is_pin m ≡ true → list_any (is_pin_in i) tree.nodes ≡ true
    of_member (named n k) h t = absurd (true≢false (sym t))
    of_member (pin text) h t =
        let there = place_in (leaf path (pin text)) (nodes program.files entry) (has_leaf program.files entry (suc (length (blocks_of program.files))) [] path (pin text)
        (record { at = at_in (made_at path) (nodes program.files entry) i here; is = h; no_instance = refl })) in
        let t = said s there.0 (leaf path (pin text)) there.1 in
        let up = parent_is s there.0 i t.node (record { pin = true; text = Some text }) (steps program.names path) t.at (spot_where s there.0 (leaf path (pin text)) there.1) (spot_where s i (made_at path) here) in
        let is : is_pin t.node.kind ≡ true = ap is_pin (sym (same_Some node.Pin t.node.kind t.kind)) in
        in_any (is_pin_in i) tree.nodes t.node (at_in t.node tree.nodes there.0 t.at)
        (ap (λ (b : Bool). list_any (nat_eq i) (option_to_list (if b then t.node.parent else None))) is ∙ ap (λ (o : Option ℕ). list_any (nat_eq i) (option_to_list o)) up ∙ parents.is_parent i)

    back : list_any parts.is_pin (members program.files (type_at program.files entry path)) ≡ true → list_any (is_pin_in i) tree.nodes ≡ true
    back h = let found = any_found parts.is_pin (members program.files (type_at program.files entry path)) h in
        of_member found.1 (at_in found.1 (members program.files (type_at program.files entry path)) found.0 found.2) found.3

    pub pins_law : list_any (is_pin_in i) tree.nodes ≡ list_any parts.is_pin (members program.files (type_at program.files entry path))
    pins_law = same_truth (list_any (is_pin_in i) tree.nodes) (list_any parts.is_pin (members program.files (type_at program.files entry path))) forth back
