-- Where paths lead by the nodes' numbers. Only private functions have clauses in these words.
use Rattle.std.specs.Prelude.{ℕ, Bool, List, [], ◌∷◌, Option, Some, None, Result, Ok, Err, slice_get, if◌then◌else◌}
use Rattle.std.specs.Option.{option_and_then, option_map}
use Rattle.ato_base.specs.declared.places.Span.{Span}
use Rattle.ato_base.specs.declared.tokens.TokenKind.{TokenKind}
use Rattle.ato_ast.specs.declared.names.Named.{Named}
use Rattle.ato_ast.specs.declared.paths.Path.{Path}
use Rattle.ato_files.specs.declared.program.SourceFile.{SourceFile}
use Rattle.ato_instance_tree.specs.declared.tree.NodeKind.{NodeKind}
use Rattle.ato_instance_tree.specs.declared.tree.NodeKind.TheVariants as node
use Rattle.ato_instance_tree.specs.declared.tree.Node.{Node}
use Rattle.ato_instance_tree.specs.Members.{members, source_text}
use Rattle.ato_instance_tree.specs.Paths.{has_pin, number_place}
use Rattle.ato_elab.specs.declared.finding_names.Sort.{Sort}
use Rattle.ato_elab.specs.declared.finding_names.Sort.TheVariants as sort
use Rattle.ato_elab.specs.declared.finding_paths.Found.{Found}
use Rattle.ato_elab.specs.declared.finding_paths.Found.TheVariants as found
use Rattle.ato_elab.specs.declared.built.Built.{Built}
use Rattle.ato_elab.specs.Built.{held}

-- ---- names

-- the sort of a node that is no pin
abbrev pub node_sort : NodeKind → Option Sort
node_sort node.Module = Some sort.Instance
node_sort node.Component = Some sort.Instance
node_sort node.Interface = Some sort.Instance
node_sort node.Signal = Some sort.Signal
node_sort node.Pin = None
node_sort node.Param = Some sort.Param

abbrev pub sort_at : List Node → ℕ → Option Sort
sort_at ns number = option_and_then (λ n. node_sort n.kind) (slice_get ns number)

-- the member of an instance under a name: its node, and its sort
unfoldable pub named_in : Built → ℕ → ℕ → Option (ℕ × Sort)
named_in built instance name = option_and_then (λ number. option_map (λ s. (number, s)) (sort_at built.nodes number)) (held built.places instance name)

-- ---- paths

abbrev pub ended_at : ℕ → Named → Option (ℕ × Sort) → Found
ended_at instance n None = found.Free instance n
ended_at instance n (Some m) = found.Member instance n m.0 m.1

-- what is found at an instance, or that the path breaks off before the next name
abbrev pub led_by : Named → Sort → Found → Found
led_by next sort.Instance f = f
led_by next sort.Signal f = found.Lost next.at
led_by next sort.Param f = found.Lost next.at

-- on from a name to the next one of a path, where `further` tells what is found from the node of an instance on
abbrev pub led_on : Named → Named → Option (ℕ × Sort) → (ℕ → Found) → Found
led_on n next None further = found.Lost n.at
led_on n next (Some m) further = led_by next m.1 (further m.0)

-- the same, where it is known that a path goes on from the node of a number, or breaks off at a place
abbrev pub goes_on : (ℕ → Found) → Result ℕ Span → Found
goes_on further (Ok number) = further number
goes_on further (Err at) = found.Lost at

-- what is found behind a name and more names, from an instance on
unfoldable pub steps_from : Built → ℕ → Named → List Named → Found
steps_from built instance n [] = ended_at instance n (named_in built instance n.name.0)
steps_from built instance n (m ∷ more) = led_on n m (named_in built instance n.name.0) (λ number. steps_from built number m more)

abbrev pub steps_in : Built → ℕ → Span → List Named → Found
steps_in built instance whole [] = found.Lost whole
steps_in built instance whole (n ∷ more) = steps_from built instance n more
