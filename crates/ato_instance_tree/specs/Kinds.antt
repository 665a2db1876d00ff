-- The kind of a type, block by block. Only private functions have clauses in these words.
use Rattle.std.specs.Prelude.{ℕ, List, Option, Some, None, fold}
use Rattle.ato_ast.specs.declared.blocks.BlockKind.{BlockKind}
use Rattle.ato_ast.specs.declared.blocks.BlockKind.TheVariants as block
use Rattle.ato_files.specs.declared.program.SourceFile.{SourceFile}
use Rattle.ato_files.specs.Blocks.{BlockAt, block_of}
use Rattle.ato_instance_tree.specs.declared.tree.NodeKind.{NodeKind}
use Rattle.ato_instance_tree.specs.declared.tree.NodeKind.TheVariants as node

abbrev pub at_least_module : NodeKind → NodeKind
at_least_module node.Component = node.Component
at_least_module _ = node.Module

-- what a type is whose ancestors come to this, and whose next block is of a kind
abbrev pub joined : NodeKind → BlockKind → NodeKind
joined above block.Component = node.Component
joined above block.Module = at_least_module above
joined above block.Interface = above

abbrev pub joined_maybe : NodeKind → Option BlockAt → NodeKind
joined_maybe above None = above
joined_maybe above (Some b) = joined above b.block.kind

-- the same with the block of a number
abbrev pub joined_in : List SourceFile → NodeKind → ℕ → NodeKind
joined_in files above number = joined_maybe above (block_of files number)

-- the same with blocks, by their numbers
abbrev pub kind_from : List SourceFile → NodeKind → List ℕ → NodeKind
kind_from files above numbers = fold (joined_in files) above numbers
