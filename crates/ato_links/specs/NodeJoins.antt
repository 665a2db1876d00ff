-- The joins of a tree as pairs of numbers of nodes.
use Rattle.std.specs.Prelude.{◌≡◌, ℕ, Bool, true, false, ◌&&◌, List, [], length, Option, position, is_some}
use Rattle.std.specs.List.{flat_map, list_all}
use Rattle.std.specs.Option.{option_and_then, option_map}
use Rattle.std.specs.Str.{bytes_eq}
use Rattle.std.specs.Prelude.{option_to_list}
use Rattle.ato_files.specs.declared.program.SourceFile.{SourceFile}
use Rattle.ato_instance_tree.specs.Order.{Spot, nodes}
use Rattle.ato_instance_tree.specs.Laws.{SpotPlace, at_names, at_label, place_of}
use Rattle.ato_nets.specs.ClassNumbers.{AreClassNumbers}
use Rattle.ato_links.specs.Links.{Link, join, clash, Electrical, links}
use Rattle.ato_links.specs.Joins.{AreClasses}

abbrev pub same_place : SpotPlace → SpotPlace → Bool
same_place (at_names p) (at_names q) = bytes_eq p q
same_place (at_label p a) (at_label q b) = bytes_eq p q && bytes_eq a b
same_place _ _ = false

-- the number of the node at a place
abbrev pub number_at : List Spot → SpotPlace → Option ℕ
number_at spots place = position (λ s. same_place (place_of s) place) spots

abbrev pub both : Option ℕ → Option ℕ → Option (ℕ × ℕ)
both a b = option_and_then (λ p. option_map (λ q. (p, q)) b) a

abbrev pub link_numbers : List Spot → Link → List (ℕ × ℕ)
link_numbers spots (join a b) = option_to_list (both (number_at spots a) (number_at spots b))
link_numbers spots clash = []

-- the joins of a project, in written order
abbrev pub node_joins : List SourceFile → ℕ → Electrical → List (ℕ × ℕ)
node_joins files entry library = flat_map (link_numbers (nodes files entry)) (links files entry library)

abbrev pub is_placed : List Spot → Link → Bool
is_placed spots (join a b) = is_some (both (number_at spots a) (number_at spots b))
is_placed spots clash = true

-- Whatever is joined is a node.
abbrev pub are_placed : List SourceFile → ℕ → Electrical → Bool
are_placed files entry library = list_all (is_placed (nodes files entry)) (links files entry library)

-- The least numbers by the joins of a project are those of its classes.
abbrev pub LeastAreClasses : Type 0
LeastAreClasses = (files : List SourceFile) (entry : ℕ) (library : Electrical) (of : List ℕ) → are_placed files entry library ≡ true
    → AreClassNumbers (length (nodes files entry)) (node_joins files entry library) of → AreClasses files entry library of
