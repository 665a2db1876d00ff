-- What the nodes of a built tree say of the spots of the definitions.
use Rattle.std.proofs.Common.{◌≡◌, ℕ, zero, suc, Bool, true, false, cond, List, [], ◌∷◌, Option, Some, None, refl, sym, ap, ◌∙◌}
use Rattle.std.specs.Prelude.{slice_get, map, position, if◌then◌else◌}
use Rattle.std.specs.List.{list_any, flat_map}
use Rattle.std.specs.Option.{option_map, option_and_then}
use Rattle.std.proofs.lemmas.Option.{slice_get-map}
use Rattle.ato_ast.specs.declared.names.Named.{Named}
use Rattle.ato_files.specs.declared.program.SourceFile.{SourceFile}
use Rattle.ato_files.specs.Members.{Kind, signal, instance, param}
use Rattle.ato_instance_tree.specs.declared.tree.NodeKind.{NodeKind}
use Rattle.ato_instance_tree.specs.declared.tree.NodeKind.TheVariants as node
use Rattle.ato_instance_tree.specs.declared.tree.Node.{Node}
use Rattle.ato_instance_tree.specs.Types.{type_kind, block_kinds, is_component, is_module}
use Rattle.ato_instance_tree.specs.Members.{named}
use Rattle.ato_instance_tree.specs.Walk.{type_at}
use Rattle.ato_instance_tree.specs.Order.{Spot, leaf, made_at, nodes}
use Rattle.ato_instance_tree.specs.Trees.{Where, Said, where_at, node_paths, said_with, tree_said, spot_said, steps}
use Rattle.ato_elab.specs.declared.finding_names.Sort.{Sort}
use Rattle.ato_elab.specs.declared.finding_names.Sort.TheVariants as sort
use Rattle.ato_elab.specs.declared.built.Built.{Built}
use Rattle.ato_elab.specs.Built.{IsBuilt}
use Rattle.ato_elab.specs.Finding.{node_sort, sort_at}
use Rattle.ato_elab.specs.Standing.{IsAt, IsLeafAt}

-- what is said of the node of a number
pub record IsSaid (paths : List Where) (ns : List Node) (number : ℕ) (s : Said) : Type 0 where
  pub node : Node
  pub at : slice_get ns number ≡ Some node
  pub path : slice_get paths number ≡ Some s.path
  pub name : s.name ≡ Some node.name
  pub kind : s.kind ≡ Some node.kind
  pub block : s.block ≡ node.block

pub said_at : (paths : List Where) (ns : List Node) (number : ℕ) (s : Said) → slice_get (said_with paths ns) number ≡ Some s → IsSaid paths ns number s
said_at [] ns number s e = absurd (cc)
said_at (p ∷ paths) [] number s e = absurd (cc)
said_at (p ∷ paths) (n ∷ ns) zero s e =
    let same : record { path = p; name = Some n.name; kind = Some n.kind; block = n.block } ≡ s = cc in
    record { node = n; at = refl; path = ap (λ (t : Said). Some t.path) same; name = sym (ap (λ (t : Said). t.name) same); kind = sym (ap (λ (t : Said). t.kind) same); block = sym (ap (λ (t : Said). t.block) same) }
said_at (p ∷ paths) (n ∷ ns) (suc number) s e = let r = said_at paths ns number s e in
    record { node = r.node; at = r.at; path = r.path; name = r.name; kind = r.kind; block = r.block }

-- the node of a spot
pub spot_node : {files : List SourceFile} {names : List (List ℕ)} {entry : ℕ} {built : Built} → IsBuilt files names entry built → (number : ℕ) (spot : Spot)
    → slice_get (nodes files entry) number ≡ Some spot → IsSaid (node_paths built.nodes) built.nodes number (spot_said files entry names spot)
spot_node {files = files} {names = names} {entry = entry} {built = built} is number spot e =
    said_at (node_paths built.nodes) built.nodes number (spot_said files entry names spot)
    (ap (λ (ss : List Said). slice_get ss number) is.told ∙ slice_get-map (spot_said files entry names) (nodes files entry) number ∙ ap (option_map (spot_said files entry names)) e)

-- ---- sorts

kind_cases : (a b : Bool) → node_sort (if a then node.Component else (if b then node.Module else node.Interface)) ≡ Some sort.Instance
kind_cases true b = refl
kind_cases false true = refl
kind_cases false false = refl

type_sort : (files : List SourceFile) (type : ℕ) → node_sort (type_kind files type) ≡ Some sort.Instance
type_sort files type = kind_cases (list_any is_component (block_kinds files type)) (list_any is_module (block_kinds files type))

maybe_sort : (files : List SourceFile) (type : Option ℕ) (kind : NodeKind) → option_map (type_kind files) type ≡ Some kind → node_sort kind ≡ Some sort.Instance
maybe_sort files None kind e = absurd (cc)
maybe_sort files (Some type) kind e = let same : type_kind files type ≡ kind = cc in ap node_sort (sym same) ∙ type_sort files type

sort_of_node : (ns : List Node) (number : ℕ) (n : Node) (s : Option Sort) → slice_get ns number ≡ Some n → node_sort n.kind ≡ s → sort_at ns number ≡ s
sort_of_node ns number n s at e = ap (option_and_then (λ (m : Node). node_sort m.kind)) at ∙ e

pub made_sort : {files : List SourceFile} {names : List (List ℕ)} {entry : ℕ} {built : Built} → IsBuilt files names entry built → (number : ℕ) (path : List ℕ)
    → slice_get (nodes files entry) number ≡ Some (made_at path) → sort_at built.nodes number ≡ Some sort.Instance
made_sort {files = files} {entry = entry} {built = built} is number path e = let s = spot_node is number (made_at path) e in
    sort_of_node built.nodes number s.node (Some sort.Instance) s.at (maybe_sort files (type_at files entry path) s.node.kind s.kind)

pub signal_sort : {files : List SourceFile} {names : List (List ℕ)} {entry : ℕ} {built : Built} → IsBuilt files names entry built → (number : ℕ) (path : List ℕ)
    → IsLeafAt (nodes files entry) path signal number → sort_at built.nodes number ≡ Some sort.Signal
signal_sort {built = built} is number path l = let s = spot_node is number (leaf path (named l.name signal)) l.is in
    let kind : s.node.kind ≡ node.Signal = cc in
    sort_of_node built.nodes number s.node (Some sort.Signal) s.at (ap node_sort kind)

pub param_sort : {files : List SourceFile} {names : List (List ℕ)} {entry : ℕ} {built : Built} → IsBuilt files names entry built → (number : ℕ) (path : List ℕ)
    → IsLeafAt (nodes files entry) path param number → sort_at built.nodes number ≡ Some sort.Param
param_sort {built = built} is number path l = let s = spot_node is number (leaf path (named l.name param)) l.is in
    let kind : s.node.kind ≡ node.Param = cc in
    sort_of_node built.nodes number s.node (Some sort.Param) s.at (ap node_sort kind)
