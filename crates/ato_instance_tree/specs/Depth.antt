-- Where no fault stands in the tree, no path of it is cut off.
use Rattle.std.specs.Prelude.{◌≡◌, ℕ, ◌<◌, ◌≤◌, suc, List, [], length, Some, None}
use Rattle.ato_files.specs.declared.program.SourceFile.{SourceFile}
use Rattle.ato_files.specs.Blocks.{blocks_of}
use Rattle.ato_instance_tree.specs.Order.{spots, nodes}
use Rattle.ato_instance_tree.specs.TreeFaults.{Limits, tree_fault}

-- Looking deeper finds no other node.
abbrev pub NothingIsCut : Type 0
NothingIsCut = (files : List SourceFile) (entry depth : ℕ) (most : Limits) → entry < length (blocks_of files)
    → tree_fault files most (Some entry) ≡ None → suc (length (blocks_of files)) ≤ depth → spots files entry depth [] ≡ nodes files entry
