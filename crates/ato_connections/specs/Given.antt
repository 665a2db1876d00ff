-- What is known of a tree when its connections are looked at. Only private functions have clauses in these words.
use Rattle.std.specs.Prelude.{◌≡◌}
use Rattle.std.specs.Option.{option_map}
use Rattle.ato_files.specs.Programs.{AreBlocks}
use Rattle.ato_links.specs.Links.{Electrical, electrical_of}
use Rattle.ato_connections.specs.declared.given.Given.{Given}
use Rattle.ato_connections.specs.declared.library.Library.{Library}
use Rattle.ato_connections.specs.Members.{AreMembers}

-- the library's type and name, as they are kept
abbrev pub kept : Library → Electrical
kept l = record { type = l.electrical; line = option_map (λ n. n.0) l.line }

-- the library's type and name in a program
abbrev pub library_in : Given → Electrical
library_in g = electrical_of g.program.now.files g.program.now.names

-- What is known is right.
pub record IsGiven (g : Given) : Type 0 where
  pub blocks : AreBlocks g.program.now.files g.program.now.blocks
  pub members : AreMembers g.nodes.now g.members.now
  pub library : kept g.library ≡ library_in g
