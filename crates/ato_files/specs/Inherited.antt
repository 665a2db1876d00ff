-- Only private functions have clauses in these words.
-- What the statements of all blocks name, in a list.
use Rattle.std.specs.Prelude.{ℕ, ◌==◌, List, [], map, Option, Some, None, slice_get, if◌then◌else◌}
use Rattle.ato_files.specs.declared.members.Declared.{Declared}
use Rattle.ato_files.specs.declared.members.Members.{Members}
use Rattle.ato_files.specs.declared.program.SourceFile.{SourceFile}
use Rattle.ato_files.specs.Blocks.{BlockAt, blocks_of}
use Rattle.ato_files.specs.MemberLists.{members_in}

abbrev pub block_members : BlockAt → Members
block_members b = members_in b.block

-- what the statements of the blocks name, by the blocks' numbers
abbrev pub all_members : List SourceFile → List Members
all_members files = map block_members (blocks_of files)

abbrev pub held_decls : Option Members → List Declared
held_decls None = []
held_decls (Some m) = m.decls

-- what the block of a number declares
abbrev pub decls_at : List Members → ℕ → List Declared
decls_at members block = held_decls (slice_get members block)

-- the same, but nothing for one block
abbrev pub decls_but : List Members → ℕ → ℕ → List Declared
decls_but members block number = if number == block then [] else decls_at members number
