-- A tree that is built in part. Only private functions have clauses in these words.
use Rattle.std.specs.Prelude.{◌≡◌, ℕ, List, [], ◌∷◌, ◌++◌, map, length, Option, Some, slice_get, ⊤}
use Rattle.std.specs.List.{flat_map}
use Rattle.ato_files.specs.declared.program.SourceFile.{SourceFile}
use Rattle.ato_files.specs.Members.{Kind, signal, instance, param}
use Rattle.ato_instance_tree.specs.declared.tree.NodeKind.{NodeKind}
use Rattle.ato_instance_tree.specs.declared.tree.NodeKind.TheVariants as node
use Rattle.ato_instance_tree.specs.declared.tree.Occurrence.{Occurrence}
use Rattle.ato_instance_tree.specs.declared.type_stmts.StmtAt.{StmtAt}
use Rattle.ato_instance_tree.specs.Order.{Spot, occs_at}
use Rattle.ato_instance_tree.specs.Trees.{tree_said, node_paths, spot_said, occ_said, walked_said}
use Rattle.ato_elab.specs.declared.built.Built.{Built}
use Rattle.ato_elab.specs.Built.{put_under, instance_spot}
use Rattle.ato_elab.specs.Placing.{AreHeld, HoldsMore}

-- The nodes are these, and the occurrences those of these instances.
pub record IsSoFar (files : List SourceFile) (names : List (List ℕ)) (entry : ℕ) (done : List Spot) (looked : List (List ℕ)) (built : Built) : Type 0 where
  pub told : tree_said built.nodes ≡ map (spot_said files entry names) done
  pub written : map (occ_said (node_paths built.nodes)) built.occurrences ≡ map (walked_said names) (flat_map (occs_at files entry) looked)
  pub under : map (put_under done) built.occurrences ≡ map instance_spot (flat_map (occs_at files entry) looked)
  pub held : AreHeld done built.places

-- the occurrence of a statement in the instance of a number
abbrev pub occ_of : ℕ → StmtAt → Occurrence
occ_of number s = record { node = number; block = s.block; line = s.line; part = s.part }

-- The node is of this kind of name.
abbrev pub IsLeafKind : Kind → NodeKind → Type 0
IsLeafKind signal node.Signal = ⊤
IsLeafKind param node.Param = ⊤
IsLeafKind _ _ = ⊥

-- A node of a name is put behind the others.
pub record IsPut (names : List (List ℕ)) (under name : ℕ) (kind : NodeKind) (block : Option ℕ) (old new : Built) : Type 0 where
  pub text : List ℕ
  pub called : slice_get names name ≡ Some text
  pub nodes : new.nodes ≡ old.nodes ++ record { kind = kind; name = text; parent = Some under; block = block } ∷ []
  pub occurrences : new.occurrences ≡ old.occurrences
  pub places : HoldsMore old.places (under, name) (length old.nodes) new.places
