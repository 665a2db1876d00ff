use Rattle.std.proofs.Common.{ℕ, suc, take}
use Rattle.std.specs.Prelude.{◌↔◌, ◌⊎◌}
use Rattle.ato_connections.specs.Given.{IsGiven}
use Rattle.ato_connections.specs.Linking.{Has, Holds, IsBelow}
use Rattle.ato_connections.specs.NodeLinks.{NodeLink, pair_links}
use Rattle.ato_connections.proofs.links.Links.join_level.Given as goal

abbrev pub invariant-loop-one : goal.invariant-loop-one
invariant-loop-one l = IsGiven l.given → (depth : ℕ) (link : NodeLink)
    → Holds (pair_links l.given.program.now.files l.given.nodes.now depth) l.self l.below link
    ↔ (Has l.initial.self link ⊎ IsBelow (pair_links l.given.program.now.files l.given.nodes.now (suc depth)) (take l.one-index l.pairs) link)
