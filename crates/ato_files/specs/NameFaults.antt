-- The faults of names, in any order. The one that stands is the least.
use Rattle.std.specs.Prelude.{ℕ, Bool, true, false, ◌&&◌, ◌==◌, not, List, [], ◌∷◌, ◌++◌, map, Option, Some, None, is_none, if◌then◌else◌, filter, option_to_list}
use Rattle.std.specs.Bool.{beq}
use Rattle.std.specs.List.{flat_map, list_any}
use Rattle.ato_base.specs.declared.faults.Fault.{Fault}
use Rattle.ato_base.specs.declared.faults.FaultKind.TheVariants as kinds
use Rattle.ato_ast.specs.declared.names.Named.{Named}
use Rattle.ato_ast.specs.Places.{label_at}
use Rattle.ato_ast.specs.declared.stmts.Stmt.{Stmt}
use Rattle.ato_ast.specs.declared.stmts.Stmt.TheVariants as stmt
use Rattle.ato_ast.specs.declared.blocks.Block.{Block}
use Rattle.ato_ast.specs.declared.blocks.BlockKind.{BlockKind}
use Rattle.ato_ast.specs.declared.blocks.BlockKind.TheVariants as block
use Rattle.ato_ast.specs.declared.blocks.Item.{Item}
use Rattle.ato_ast.specs.declared.blocks.Item.TheVariants as item
use Rattle.ato_files.specs.declared.program.SourceFile.{SourceFile}
use Rattle.ato_files.specs.Lists.{numbered}
use Rattle.ato_files.specs.Blocks.{BlockAt, blocks_of, block_of, head_imports, imports_of, imported, is_known, meaning}
use Rattle.ato_files.specs.Lineages.{parent, lineage, never_ends}
use Rattle.ato_files.specs.Members.{Kind, signal, param, Decl, decls, pins, stmts_of}
use Rattle.ato_files.specs.Faults.{fault, least}

-- ---- the names of a file

abbrev pub item_names : Item → List Named
item_names (item.Heads line) = flat_map (λ h. map (λ i. i.0) (head_imports h)) line.parts
item_names (item.Block b) = b.name ∷ []

-- the names that are equal to an earlier one
abbrev pub repeated : List Named → List Named → List Named
repeated seen [] = []
repeated seen (n ∷ more) = (if list_any (λ m. m.name.0 == n.name.0) seen then n ∷ [] else []) ++ repeated (n ∷ seen) more

abbrev pub file_faults : List SourceFile → SourceFile → List Fault
file_faults files file = map (λ n. fault kinds.NameTwice n.at) (repeated [] (flat_map item_names file.tree.items))
    ++ flat_map (λ i. if is_none (imported files file i) then fault kinds.NameUnknown i.0.at ∷ [] else []) (imports_of file)

-- ---- a block's parent

abbrev pub is_interface : BlockKind → Bool
is_interface block.Interface = true
is_interface _ = false

abbrev pub is_component : BlockKind → Bool
is_component block.Component = true
is_component _ = false

abbrev pub is_interface_block : List SourceFile → ℕ → Bool
is_interface_block files number = list_any (λ b. is_interface b.block.kind) (option_to_list (block_of files number))

-- the fault of a type's name that is no name of its file; one of an import that takes nothing has its fault there
abbrev pub unknown : List SourceFile → ℕ → Named → List Fault
unknown files file name = if is_known files file name.name.0 then [] else fault kinds.NameUnknown name.at ∷ []

-- the faults of the name of a parent, in a file, which means the block of a number, or nothing
abbrev pub parent_faults : List SourceFile → ℕ → ℕ → Block → Option Named → Option ℕ → List Fault
parent_faults files number file b None above = []
parent_faults files number file b (Some name) None = unknown files file name
parent_faults files number file b (Some name) (Some above) = (if never_ends files number then fault kinds.SuperLoop name.at ∷ [] else [])
    ++ (if beq (is_interface b.kind) (is_interface_block files above) then [] else fault kinds.WrongKind name.at ∷ [])

-- ---- a block's statements

-- the names of types in a statement, after `new` and `->`
abbrev pub type_names : Stmt → List Named
type_names (stmt.Replace path type at) = type ∷ []
type_names (stmt.Make name type at) = type ∷ []
type_names _ = []

abbrev pub new_names : Stmt → List Named
new_names (stmt.Make name type at) = type ∷ []
new_names _ = []

-- Two declarations of a name go together only where both are signals or both are parameters.
abbrev pub agree : Kind → Kind → Bool
agree signal signal = true
agree param param = true
agree _ _ = false

abbrev pub clash : Decl → Decl → Bool
clash a b = (a.name.name.0 == b.name.name.0) && not (agree a.kind b.kind)

-- the declarations that clash with one before them
abbrev pub clashing : List Decl → List Decl → List Decl
clashing seen [] = []
clashing seen (d ∷ more) = (if list_any (clash d) seen then d ∷ [] else []) ++ clashing (d ∷ seen) more

abbrev pub decls_of : List SourceFile → ℕ → List Decl
decls_of files number = flat_map (λ b. flat_map decls (stmts_of b.block)) (option_to_list (block_of files number))

-- the declarations of a block's ancestors
abbrev pub inherited : List SourceFile → ℕ → List Decl
inherited files number = flat_map (decls_of files) (filter (λ b. not (b == number)) (lineage files number))

abbrev pub block_faults : List SourceFile → ℕ → BlockAt → List Fault
block_faults files number b = parent_faults files number b.file b.block b.block.parent (parent files number)
    ++ flat_map (unknown files b.file) (flat_map type_names (stmts_of b.block))
    ++ map (λ d. fault kinds.NameTwice d.name.at) (clashing (inherited files number) (flat_map decls (stmts_of b.block)))
    ++ (if is_component b.block.kind then [] else map (λ l. fault kinds.WrongKind (label_at l)) (flat_map pins (stmts_of b.block)))
    ++ (if is_interface b.block.kind then flat_map (λ t. flat_map (λ m. if is_interface_block files m then [] else fault kinds.WrongKind t.at ∷ []) (option_to_list (meaning files b.file t.name.0))) (flat_map new_names (stmts_of b.block)) else [])

-- ---- all of them

abbrev pub name_faults : List SourceFile → List Fault
name_faults files = flat_map (file_faults files) files ++ flat_map (λ b. block_faults files b.0 b.1) (numbered 0 (blocks_of files))

-- The fault of names that stands: the least by file, offset and kind.
abbrev pub name_fault : List SourceFile → Option Fault
name_fault files = least (name_faults files)
