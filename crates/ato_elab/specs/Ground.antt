-- What is known of a tree when its occurrences are looked at, and where their paths lead by it. Only private functions have clauses in these words.
use Rattle.std.specs.Prelude.{ℕ, Bool, List, [], ◌∷◌, Option, Some, None, slice_get, if◌then◌else◌}
use Rattle.std.specs.Option.{option_and_then, option_map}
use Rattle.ato_base.specs.declared.places.Span.{Span}
use Rattle.ato_base.specs.declared.tokens.TokenKind.{TokenKind}
use Rattle.ato_ast.specs.declared.names.Named.{Named}
use Rattle.ato_ast.specs.declared.paths.Path.{Path}
use Rattle.ato_instance_tree.specs.declared.tree.Node.{Node}
use Rattle.ato_instance_tree.specs.Members.{source_text}
use Rattle.ato_instance_tree.specs.Paths.{number_place}
use Rattle.ato_elab.specs.declared.finding_names.Sort.{Sort}
use Rattle.ato_elab.specs.declared.finding_names.Sort.TheVariants as sort
use Rattle.ato_elab.specs.declared.finding_paths.Found.{Found}
use Rattle.ato_elab.specs.declared.finding_paths.Found.TheVariants as found
use Rattle.ato_elab.specs.declared.late_ground.Ground.{Ground}
use Rattle.ato_elab.specs.Finding.{steps_in}
use Rattle.ato_elab.specs.Pins.{holds_maybe}

-- the type of the node of a number
abbrev pub type_of : List Node → ℕ → Option ℕ
type_of ns number = option_and_then (λ n. n.block) (slice_get ns number)

-- The instance of a node has a pin whose label stands at a place.
unfoldable pub has_label : Ground → ℕ → Span → Bool
has_label g number at = holds_maybe g.pins.now (type_of g.built.now.nodes number) (source_text g.files.now at)

abbrev pub pin_of : Ground → Named → ℕ → Sort → Span → Found
pin_of g n number sort.Instance at = if has_label g number at then found.Pin n else found.Lost at
pin_of g n number sort.Signal at = found.Lost at
pin_of g n number sort.Param at = found.Lost at

-- what is found of the pin whose label stands at a place, at the end of a path
abbrev pub pin_in : Ground → Span → Found → Found
pin_in g at (found.Member instance n number s) = pin_of g n number s at
pin_in g at (found.Pin n) = found.Lost at
pin_in g at (found.Free instance n) = found.Lost n.at
pin_in g at (found.Lost other) = found.Lost other

abbrev pub last_in : Ground → Span → List Span → Found → Found
last_in g whole [] f = found.Lost whole
last_in g whole (at ∷ more) f = pin_in g at f

abbrev pub ended_in : Ground → Span → Option TokenKind → Found → Found
ended_in g whole None f = f
ended_in g whole (Some kind) f = last_in g whole (number_place kind) f

-- what is found behind a path, from an instance on
unfoldable pub found_in : Ground → ℕ → Path → Found
found_in g instance p = ended_in g p.at p.pin (steps_in g.built.now instance p.at p.steps)
