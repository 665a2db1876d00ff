-- A whole tree written by hand: that of three parts, with its statements and what its paths lead to.
use Rattle.std.proofs.Common.{◌≡◌, ℕ, List, [], ◌∷◌, ◌++◌, map, true, false, Some, None, codes, refl}
use Rattle.ato_files.specs.declared.program.Program.{Program}
use Rattle.ato_files.proofs.Written.{nm}
use Rattle.ato_instance_tree.specs.declared.tree.NodeKind.TheVariants as node
use Rattle.ato_instance_tree.specs.declared.tree.Node.{Node}
use Rattle.ato_instance_tree.specs.declared.tree.Occurrence.{Occurrence}
use Rattle.ato_instance_tree.specs.declared.tree.Tree.{Tree}
use Rattle.ato_instance_tree.specs.Order.{nodes, occurrences}
use Rattle.ato_instance_tree.specs.PathFaults.{keys_of, path_fault}
use Rattle.ato_instance_tree.specs.Trees.{Step, Where, where_at, node_paths, tree_said, spot_said, occ_said, walked_said, first_said}
use Rattle.ato_instance_tree.specs.Targets.{child, statement_of, target_of}
use Rattle.ato_instance_tree.proofs.Written.{table, dotted, pin_path, make}
use Rattle.ato_instance_tree.proofs.TreeRows.{three}

-- a part with its signal and its pin, whose own number is given
abbrev part_nodes : ℕ → List ℕ → List Node
part_nodes at name = record { kind = node.Component; name = name; parent = Some 0; block = Some 0 }
    ∷ record { kind = node.Signal; name = codes "s"; parent = Some at; block = None }
    ∷ record { kind = node.Pin; name = codes "1"; parent = Some at; block = None }
    ∷ []

abbrev occ : ℕ → ℕ → ℕ → Occurrence
occ instance block line = record { node = instance; block = block; line = line; part = 0 }

abbrev tree_of : List Node → List Occurrence → Tree
tree_of ns occs = record {
  nodes = record { kind = node.Module; name = []; parent = None; block = Some 1 } ∷ ns;
  occurrences = occs;
  effective = [];
  first = None;
}

abbrev three_tree : Tree
three_tree = tree_of (part_nodes 1 (codes "A") ++ part_nodes 4 (codes "B") ++ part_nodes 7 (codes "D"))
    (occ 0 1 0 ∷ occ 0 1 1 ∷ occ 0 1 2 ∷ occ 0 1 3 ∷ occ 1 0 0 ∷ occ 4 0 0 ∷ occ 7 0 0 ∷ [])

pub three_nodes_said : tree_said three_tree.nodes ≡ map (spot_said three 1 table) (nodes three 1)
three_nodes_said = refl

pub three_occurrences_said : map (occ_said (node_paths three_tree.nodes)) three_tree.occurrences ≡ map (walked_said table) (occurrences three 1)
three_occurrences_said = refl

pub three_first_said : first_said three_tree.first ≡ path_fault three 1 (keys_of table)
three_first_said = refl

-- ---- where nodes are: nowhere, if the parent's number is none of an earlier node

abbrev paths : List Node → List Where
paths ns = node_paths (tree_of ns []).nodes

abbrev name_step : List ℕ → Step
name_step text = record { pin = false; text = Some text }

pub no_such_parent : where_at (paths (record { kind = node.Signal; name = codes "s"; parent = Some 7; block = None } ∷ [])) 1 ≡ None
no_such_parent = refl

pub its_own_parent : where_at (paths (record { kind = node.Signal; name = codes "s"; parent = Some 1; block = None } ∷ [])) 1 ≡ None
its_own_parent = refl

pub no_such_node : where_at (paths []) 1 ≡ None
no_such_node = refl

-- a member below a pin is not where one below an instance of that name is
pub below_a_pin : where_at (paths (record { kind = node.Pin; name = codes "A"; parent = Some 0; block = None } ∷ record { kind = node.Signal; name = codes "s"; parent = Some 1; block = None } ∷ [])) 2
    ≡ Some (name_step (codes "s") ∷ record { pin = true; text = Some (codes "A") } ∷ [])
below_a_pin = refl

-- ---- statements and targets

-- pins and names have spaces of their own: pin `s` of the root, and then its signal `s`
abbrev pin_and_signal : List Node
pin_and_signal = (tree_of (record { kind = node.Pin; name = codes "s"; parent = Some 0; block = None } ∷ record { kind = node.Signal; name = codes "s"; parent = Some 0; block = None } ∷ []) []).nodes

pub signal_by_name : child pin_and_signal 0 false (codes "s") ≡ Some 2
signal_by_name = refl

pub pin_by_label : child pin_and_signal 0 true (codes "s") ≡ Some 1
pin_by_label = refl

pub of_another_instance : child pin_and_signal 1 false (codes "s") ≡ None
of_another_instance = refl

module _ (p : Program) where
  abbrev project_of_three : Program
  project_of_three = record { names = table; files = three; blocks = p.blocks }

  pub second_statement : statement_of project_of_three three_tree 1 ≡ Some (make (nm 4 54) (nm 5 55))
  second_statement = refl

  pub no_statement : statement_of project_of_three three_tree 7 ≡ None
  no_statement = refl

  -- from the root `B.s` and pin 1 of `D`, and from an instance its own `s`
  pub from_the_root : target_of project_of_three three_tree 3 (dotted (nm 4 62 ∷ nm 11 63 ∷ [])) ≡ Some 5
  from_the_root = refl

  pub a_pin : target_of project_of_three three_tree 3 (pin_path (nm 6 62 ∷ []) 0) ≡ Some 9
  a_pin = refl

  pub from_an_instance : target_of project_of_three three_tree 5 (dotted (nm 11 63 ∷ [])) ≡ Some 5
  from_an_instance = refl

  pub from_the_last : target_of project_of_three three_tree 6 (dotted (nm 11 63 ∷ [])) ≡ Some 8
  from_the_last = refl

  -- a name is no pin, and a missing member leads nowhere
  pub nowhere : target_of project_of_three three_tree 3 (dotted (nm 4 62 ∷ nm 3 63 ∷ [])) ≡ None
  nowhere = refl

  pub no_steps : target_of project_of_three three_tree 3 (dotted []) ≡ None
  no_steps = refl

  pub from_no_occurrence : target_of project_of_three three_tree 7 (dotted (nm 11 63 ∷ [])) ≡ None
  from_no_occurrence = refl
