-- Where no fault of the tree stands, no link is cut off, and what the members of nodes are joined by are nodes.
use Rattle.std.specs.Prelude.{◌≡◌, ℕ, ◌<◌, ◌≤◌, suc, List, length, Some, None, ⊤, true}
use Rattle.ato_files.specs.declared.program.SourceFile.{SourceFile}
use Rattle.ato_files.specs.Lists.{Among}
use Rattle.ato_files.specs.Blocks.{blocks_of}
use Rattle.ato_instance_tree.specs.Order.{Spot, made_at, nodes}
use Rattle.ato_instance_tree.specs.TreeFaults.{Limits, tree_fault}
use Rattle.ato_instance_tree.specs.Laws.{SpotPlace, place_of}
use Rattle.ato_links.specs.Links.{Side, point, quantity, inside, nothing, join, side_links, instance_links, links_between, Electrical}
use Rattle.ato_links.specs.NodeJoins.{are_placed}

-- A node is at the place.
abbrev pub HasNode : List SourceFile → ℕ → SpotPlace → Type 0
HasNode files entry at = (s : Spot) × Among s (nodes files entry) × (place_of s ≡ at)

-- The side is a node, or nothing.
abbrev pub IsPlaced : List SourceFile → ℕ → Side → Type 0
IsPlaced files entry (point at) = HasNode files entry at
IsPlaced files entry (quantity at) = HasNode files entry at
IsPlaced files entry (inside path) = Among (made_at path) (nodes files entry)
IsPlaced files entry nothing = ⊤

-- Going deeper finds no other link.
abbrev pub LinksAreWhole : Type 0
LinksAreWhole = (files : List SourceFile) (entry depth : ℕ) (most : Limits) (a b : Side) → entry < length (blocks_of files)
    → tree_fault files most (Some entry) ≡ None → suc (length (blocks_of files)) ≤ depth → IsPlaced files entry a → IsPlaced files entry b
    → side_links (instance_links files entry depth) a b ≡ links_between files entry a b

-- What is joined by the links of two nodes are nodes.
abbrev pub LinksArePlaced : Type 0
LinksArePlaced = (files : List SourceFile) (entry : ℕ) (most : Limits) (a b : Side) (p q : SpotPlace) → entry < length (blocks_of files)
    → tree_fault files most (Some entry) ≡ None → IsPlaced files entry a → IsPlaced files entry b
    → Among (join p q) (links_between files entry a b) → HasNode files entry p × HasNode files entry q

-- Whatever the connections of a project join is a node.
abbrev pub JoinsAreNodes : Type 0
JoinsAreNodes = (files : List SourceFile) (entry : ℕ) (most : Limits) (library : Electrical) → entry < length (blocks_of files)
    → tree_fault files most (Some entry) ≡ None → are_placed files entry library ≡ true
