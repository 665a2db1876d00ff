-- The statement of an occurrence, and the node to which a path of it leads.
use Rattle.std.specs.Prelude.{◌≡◌, ℕ, Bool, true, false, ◌&&◌, nat_eq, List, [], ◌∷◌, Option, Some, None, option_to_list, slice_get, position}
use Rattle.std.specs.Bool.{beq}
use Rattle.std.specs.List.{list_any}
use Rattle.std.specs.Option.{option_and_then}
use Rattle.std.specs.Str.{bytes_eq}
use Rattle.ato_base.specs.declared.places.Span.{Span}
use Rattle.ato_base.specs.declared.tokens.TokenKind.{TokenKind}
use Rattle.ato_ast.specs.declared.names.Named.{Named}
use Rattle.ato_ast.specs.declared.paths.Path.{Path}
use Rattle.ato_ast.specs.declared.stmts.Stmt.{Stmt}
use Rattle.ato_files.specs.declared.program.SourceFile.{SourceFile}
use Rattle.ato_files.specs.declared.program.Program.{Program}
use Rattle.ato_files.specs.Blocks.{block_of}
use Rattle.ato_instance_tree.specs.declared.tree.Node.{Node}
use Rattle.ato_instance_tree.specs.declared.tree.Occurrence.{Occurrence}
use Rattle.ato_instance_tree.specs.declared.tree.Tree.{Tree}
use Rattle.ato_instance_tree.specs.Members.{source_text}
use Rattle.ato_instance_tree.specs.Paths.{number_place}
use Rattle.ato_instance_tree.specs.Trees.{Step, Where, is_pin, name_step, node_paths, where_at}

-- ---- statements

-- the statement of a block at a line and a place in it
abbrev pub stmt_at : List SourceFile → ℕ → ℕ → ℕ → Option Stmt
stmt_at files block line part = option_and_then (λ b. option_and_then (λ l. slice_get l.parts part) (slice_get b.block.lines line)) (block_of files block)

-- the statement of an occurrence
abbrev pub statement_of : Program → Tree → ℕ → Option Stmt
statement_of program tree occurrence = option_and_then (λ o. stmt_at program.files o.block o.line o.part) (slice_get tree.occurrences occurrence)

-- ---- targets

-- The node stands in the instance of a number under this name, or under this label as a pin.
abbrev pub is_called : ℕ → Bool → List ℕ → Node → Bool
is_called parent pin text n = list_any (nat_eq parent) (option_to_list n.parent) && beq pin (is_pin n.kind) && bytes_eq text n.name

-- the member of an instance under a name, or under a label as a pin; both by the nodes' numbers
abbrev pub child : List Node → ℕ → Bool → List ℕ → Option ℕ
child ns parent pin text = position (is_called parent pin text) ns

-- the member of an instance under the name of a number
abbrev pub named_child : List (List ℕ) → List Node → ℕ → ℕ → Option ℕ
named_child names ns parent name = option_and_then (child ns parent false) (slice_get names name)

-- from an instance down the names of a path
abbrev pub led : List (List ℕ) → List Node → List Named → ℕ → Option ℕ
led names ns [] at = Some at
led names ns (n ∷ more) at = option_and_then (led names ns more) (named_child names ns at n.name.0)

-- The same for a path with a name; one without leads nowhere.
abbrev pub led_from : List (List ℕ) → List Node → List Named → ℕ → Option ℕ
led_from names ns [] at = None
led_from names ns (n ∷ more) at = led names ns (n ∷ more) at

-- on to the pin of a label that stands at a place
abbrev pub pin_at : List SourceFile → List Node → List Span → ℕ → Option ℕ
pin_at files ns [] at = None
pin_at files ns (number ∷ more) at = child ns at true (source_text files number)

abbrev pub pinned : List SourceFile → List Node → Option TokenKind → ℕ → Option ℕ
pinned files ns None at = Some at
pinned files ns (Some kind) at = pin_at files ns (number_place kind) at

-- the node to which a path leads from the instance of an occurrence
abbrev pub target_of : Program → Tree → ℕ → Path → Option ℕ
target_of program tree occurrence p = option_and_then (λ o. option_and_then (pinned program.files tree.nodes p.pin) (led_from program.names tree.nodes p.steps o.node))
    (slice_get tree.occurrences occurrence)

-- ---- where paths lead

-- the steps of names behind others, the innermost first
abbrev pub steps_down : List (List ℕ) → List Named → List Step → List Step
steps_down names [] way = way
steps_down names (n ∷ more) way = steps_down names more (name_step names n.name.0 ∷ way)

-- The same for a path with a name; one without leads nowhere.
abbrev pub way_from : List (List ℕ) → List Named → List Step → Where
way_from names [] way = None
way_from names (n ∷ more) way = Some (steps_down names (n ∷ more) way)

-- on to the pin of a label that stands at a place
abbrev pub way_at : List SourceFile → List Span → List Step → Where
way_at files [] way = None
way_at files (number ∷ more) way = Some (record { pin = true; text = Some (source_text files number) } ∷ way)

abbrev pub way_pinned : List SourceFile → Option TokenKind → List Step → Where
way_pinned files None way = Some way
way_pinned files (Some kind) way = way_at files (number_place kind) way

-- where a path leads from where an instance is
abbrev pub way_of : Program → Path → List Step → Where
way_of program p way = option_and_then (way_pinned program.files p.pin) (way_from program.names p.steps way)

-- The node of a number is where a path leads from the instance of an occurrence.
pub record IsReached (program : Program) (tree : Tree) (o : Occurrence) (p : Path) (n : ℕ) : Type 0 where
  pub from : List Step
  pub way : List Step
  pub holder : where_at (node_paths tree.nodes) o.node ≡ Some from
  pub leads : way_of program p from ≡ Some way
  pub there : where_at (node_paths tree.nodes) n ≡ Some way

-- No node is there.
abbrev pub ReachesNone : Program → Tree → Occurrence → Path → Type 0
ReachesNone program tree o p = (n : ℕ) → IsReached program tree o p n → ⊥
