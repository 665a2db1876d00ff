-- The member of a name stands where it is found by the name's text.
use Rattle.std.proofs.Common.{◌≡◌, ℕ, Bool, true, false, if◌then◌else◌, List, ◌∷◌, Option, Some, None, refl, ap, sym, subst, ◌∙◌}
use Rattle.std.specs.Prelude.{slice_get}
use Rattle.std.specs.List.{list_any}
use Rattle.std.specs.Option.{option_map}
use Rattle.std.proofs.lemmas.Option.{none-some, same_Some}
use Rattle.ato_files.specs.declared.program.SourceFile.{SourceFile}
use Rattle.ato_files.specs.declared.program.Program.{Program}
use Rattle.ato_files.specs.Members.{Kind, signal, instance, param}
use Rattle.ato_instance_tree.specs.declared.tree.Node.{Node}
use Rattle.ato_instance_tree.specs.declared.tree.NodeKind.{NodeKind}
use Rattle.ato_instance_tree.specs.declared.tree.NodeKind.TheVariants as node
use Rattle.ato_instance_tree.specs.Types.{type_kind, block_kinds, is_component, is_module}
use Rattle.ato_instance_tree.specs.Members.{named}
use Rattle.ato_instance_tree.specs.Walk.{type_at}
use Rattle.ato_instance_tree.specs.Order.{Spot, leaf, made_at, nodes}
use Rattle.ato_instance_tree.specs.Paths.{member_at}
use Rattle.ato_instance_tree.specs.Targets.{child}
use Rattle.ato_instance_tree.proofs.SpotLaws.{at_in}
use Rattle.ato_instance_tree.proofs.PlaceLaws.{place_in, IsOfKind, kind_place, has_member, has_node}
use Rattle.ato_links.specs.Links.{side_of}
use Rattle.ato_connections.specs.declared.sides.Side.TheVariants as side
use Rattle.ato_connections.specs.NodeLinks.{kind_side, node_side, reached}
use Rattle.ato_connections.specs.Placing.{IsSide, IsKnown, MembersStand}
use Rattle.ato_connections.proofs.ChildLaws.{node_said, named_some, named_none}

-- ---- kinds of instances

kind_cases : (a b : Bool) (number : ℕ) → kind_side (if a then node.Component else (if b then node.Module else node.Interface)) number ≡ side.Inside number
kind_cases true b number = refl
kind_cases false true number = refl
kind_cases false false number = refl

type_side : (files : List SourceFile) (type number : ℕ) → kind_side (type_kind files type) number ≡ side.Inside number
type_side files type number = kind_cases (list_any is_component (block_kinds files type)) (list_any is_module (block_kinds files type)) number

pub maybe_side : (files : List SourceFile) (type : Option ℕ) (kind : NodeKind) (number : ℕ) → option_map (type_kind files) type ≡ Some kind
    → kind_side kind number ≡ side.Inside number
maybe_side files None kind number e = absurd (none-some kind e)
maybe_side files (Some type) kind number e = ap (λ k. kind_side k number) (sym (same_Some (type_kind files type) kind e)) ∙ type_side files type number

module _ (program : Program) (entry : ℕ) (ns : List Node) (known : IsKnown program entry ns) where
  abbrev all : List Spot
  all = nodes program.files entry

  -- what the node of a spot is
  pub made_side : (j : ℕ) (path : List ℕ) → slice_get all j ≡ Some (made_at path) → reached ns (Some j) ≡ side.Inside j
  made_side j path e =
      let s = node_said program entry ns known j (made_at path) e in
      ap (node_side j) s.at ∙ maybe_side program.files (type_at program.files entry path) s.node.kind j s.kind

  pub leaf_side : (j : ℕ) (s : Spot) (path : List ℕ) (name : ℕ) (k : Kind) → slice_get all j ≡ Some s → IsOfKind path name k s
      → IsSide all (side_of path name (Some k)) (reached ns (Some j))
  leaf_side j s path name signal e is =
      let at = e ∙ ap Some is.2 in
      let n = node_said program entry ns known j (leaf path (named is.0 signal)) at in
      subst (IsSide all (side_of path name (Some signal)))
      (sym (ap (node_side j) n.at ∙ ap (λ k. kind_side k j) (sym (same_Some node.Signal n.node.kind n.kind))))
      (record { node = s; is = e; at = kind_place path name signal s is })
  leaf_side j s path name param e is =
      let at = e ∙ ap Some is.2 in
      let n = node_said program entry ns known j (leaf path (named is.0 param)) at in
      subst (IsSide all (side_of path name (Some param)))
      (sym (ap (node_side j) n.at ∙ ap (λ k. kind_side k j) (sym (same_Some node.Param n.node.kind n.kind))))
      (record { node = s; is = e; at = kind_place path name param s is })
  leaf_side j s path name (instance type) e is =
      let at = e ∙ ap Some is in
      subst (IsSide all (side_of path name (Some (instance type)))) (sym (made_side j (name ∷ path) at)) at

  by_member : (number name : ℕ) (path text : List ℕ) → slice_get all number ≡ Some (made_at path) → slice_get program.names name ≡ Some text
      → (o : Option Kind) → member_at program.files entry path name ≡ o
      → IsSide all (side_of path name o) (reached ns (child ns number false text))
  by_member number name path text at called None e = subst (IsSide all (side_of path name None))
      (sym (ap (reached ns) (named_none program entry ns known number name path text at called
      (λ j s is place. let k = has_member program.files entry path name s (at_in s all j is) place in none-some k.0 (sym e ∙ k.1))))) tt
  by_member number name path text at called (Some k) e =
      let s = has_node program.files entry known.most known.below known.sound path name k (at_in (made_at path) all number at) e in
      let j = place_in s.0 all s.1 in
      subst (IsSide all (side_of path name (Some k)))
      (sym (ap (reached ns) (named_some program entry ns known number j.0 name path text s.0 at called j.1 (kind_place path name k s.0 s.2))))
      (leaf_side j.0 s.0 path name k j.1 s.2)

pub stand : MembersStand
stand program entry number name ns path text known at called =
    by_member program entry ns known number name path text at.is called (member_at program.files entry path name) refl
