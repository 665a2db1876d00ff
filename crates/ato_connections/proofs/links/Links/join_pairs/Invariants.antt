use Rattle.std.proofs.Common.{suc, length}
use Rattle.std.specs.Prelude.{◌↔◌}
use Rattle.ato_connections.specs.Given.{IsGiven}
use Rattle.ato_connections.specs.Linking.{Holds}
use Rattle.ato_connections.specs.NodeLinks.{NodeLink, pair_links}
use Rattle.ato_connections.proofs.links.Links.join_pairs.Given as goal

abbrev pub invariant-loop-left : goal.invariant-loop-left
invariant-loop-left l = IsGiven l.given → (link : NodeLink)
    → Holds (pair_links l.given.program.now.files l.given.nodes.now l.left) l.self l.pairs link
    ↔ Holds (pair_links l.given.program.now.files l.given.nodes.now (suc (length l.given.program.now.blocks))) l.fn.self l.fn.pairs link

abbrev pub decreases-loop-left : goal.decreases-loop-left
decreases-loop-left l = l.left
