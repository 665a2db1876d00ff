-- The statements of types, the types that their names mean, and what types are.
use Rattle.std.specs.Prelude.{ℕ, Bool, true, false, List, map, Option, option_to_list, if◌then◌else◌}
use Rattle.std.specs.List.{flat_map, list_any}
use Rattle.ato_ast.specs.declared.names.Named.{Named}
use Rattle.ato_ast.specs.declared.stmts.Stmt.{Stmt}
use Rattle.ato_ast.specs.declared.blocks.BlockKind.{BlockKind}
use Rattle.ato_ast.specs.declared.blocks.BlockKind.TheVariants as block
use Rattle.ato_files.specs.declared.program.SourceFile.{SourceFile}
use Rattle.ato_files.specs.Lists.{numbered}
use Rattle.ato_files.specs.Blocks.{BlockAt, block_of, meaning_in}
use Rattle.ato_files.specs.Lineages.{lineage}
use Rattle.ato_instance_tree.specs.declared.tree.NodeKind.{NodeKind}
use Rattle.ato_instance_tree.specs.declared.tree.NodeKind.TheVariants as node

-- A statement, and where it stands: its block, its line in the block, and its place in the line.
pub record Located : Type 0 where
  pub block : ℕ
  pub line : ℕ
  pub part : ℕ
  pub stmt : Stmt

abbrev pub line_stmts : ℕ → ℕ × List Stmt → List Located
line_stmts block l = map (λ p. record { block = block; line = l.0; part = p.0; stmt = p.1 }) (numbered 0 l.1)

abbrev pub block_stmts : ℕ → BlockAt → List Located
block_stmts block b = flat_map (line_stmts block) (numbered 0 (map (λ l. l.parts) b.block.lines))

-- the statements of a block, in source order
abbrev pub located : List SourceFile → ℕ → List Located
located files block = flat_map (block_stmts block) (option_to_list (block_of files block))

-- the statements of a type: those of its lineage
abbrev pub type_stmts : List SourceFile → ℕ → List Located
type_stmts files type = flat_map (located files) (lineage files type)

-- the same, without their places, of a type that may be there
abbrev pub stmts_of_type : List SourceFile → Option ℕ → List Stmt
stmts_of_type files type = map (λ l. l.stmt) (flat_map (type_stmts files) (option_to_list type))

-- the type that a name means in the file of a block, with the name
abbrev pub meant : List SourceFile → ℕ → Named → List (ℕ × Named)
meant files block type = map (λ t. (t, type)) (option_to_list (meaning_in files block type.name.0))

-- ---- kinds

-- the kinds of the blocks in the lineage of a type
abbrev pub block_kinds : List SourceFile → ℕ → List BlockKind
block_kinds files type = flat_map (λ b. map (λ x. x.block.kind) (option_to_list (block_of files b))) (lineage files type)

abbrev pub is_module : BlockKind → Bool
is_module block.Module = true
is_module _ = false

abbrev pub is_component : BlockKind → Bool
is_component block.Component = true
is_component _ = false

-- A type is a component where its lineage holds one, else a module where it holds one, else an interface.
abbrev pub type_kind : List SourceFile → ℕ → NodeKind
type_kind files type = if list_any is_component (block_kinds files type) then node.Component
    else (if list_any is_module (block_kinds files type) then node.Module else node.Interface)
