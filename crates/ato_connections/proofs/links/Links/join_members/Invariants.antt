use Rattle.std.proofs.Common.{ℕ, List, map, take}
use Rattle.std.specs.Prelude.{◌↔◌, ◌⊎◌}
use Rattle.std.specs.List.{flat_map}
use Rattle.ato_files.specs.Lists.{Among}
use Rattle.ato_connections.specs.Given.{IsGiven}
use Rattle.ato_connections.specs.Linking.{Holds}
use Rattle.ato_connections.specs.NodeLinks.{NodeLink, member_side, side_links}
use Rattle.ato_connections.proofs.links.Links.join_members.Given as goal

abbrev pub invariant-loop-text : goal.invariant-loop-text
invariant-loop-text l = IsGiven l.given → (deeper : ℕ → ℕ → List NodeLink) (link : NodeLink)
    → Holds deeper l.self l.below link ↔ (Holds deeper l.initial.self l.initial.below link
    ⊎ Among link (flat_map (λ text. side_links deeper (member_side l.given.nodes.now l.one text) (member_side l.given.nodes.now l.other text))
    (take l.text-index (map (λ text. text.now) l.text-items))))
