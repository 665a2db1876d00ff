-- The alternatives of labels, points, heads, bodies and items, in the order in which they are read.
use Rattle.std.proofs.Common.{ℕ, Bool, true, false, List, [], ◌∷◌}
use Rattle.ato_base.specs.declared.places.Span.{Span}
use Rattle.ato_base.specs.declared.keywords.Keyword.TheVariants as keywords
use Rattle.ato_base.specs.declared.keywords.Mark.TheVariants as marks
use Rattle.ato_ast.specs.declared.names.Named.{Named}
use Rattle.ato_ast.specs.declared.paths.Label.{Label}
use Rattle.ato_ast.specs.declared.paths.Label.TheVariants as labels
use Rattle.ato_ast.specs.declared.paths.Point.{Point}
use Rattle.ato_ast.specs.declared.paths.Point.TheVariants as points
use Rattle.ato_ast.specs.declared.stmts.Stmt.{Stmt}
use Rattle.ato_ast.specs.declared.blocks.Line.{Line}
use Rattle.ato_ast.specs.declared.blocks.Head.{Head}
use Rattle.ato_ast.specs.declared.blocks.Head.TheVariants as heads
use Rattle.ato_ast.specs.declared.blocks.Item.{Item}
use Rattle.ato_ast.specs.declared.blocks.Item.TheVariants as items
use Rattle.ato_parser.specs.Kinds.{is_indent, is_dedent, integer_of}
use Rattle.ato_parser.specs.Pieces.{Piece, before_nothing, one, pure, ◌>>=◌, ◌>>◌, ◌or◌, many, placed}
use Rattle.ato_parser.specs.TokenPieces.{of_kind, mark, keyword, name, text}
use Rattle.ato_parser.specs.Statements as S
use Rattle.ato_parser.specs.Files as F
use Rattle.ato_parser.proofs.Lawful.{Same}
use Rattle.ato_parser.proofs.SameLaws.{same_refl, same_sym, same_or, or_comm, or_assoc, same_second, or_joined, same_placed}
use Rattle.ato_parser.proofs.SameSteps.{◌then◌, nested, carried, known}

-- ---- labels and points

abbrev pub label : Piece Label
label = (name >>= λ n. pure (labels.Name n)) or (text >>= λ s. pure (labels.Text s)) or (one integer_of >>= λ n. pure (labels.Number n.0 n.1))

pub label_same : Same S.label label
label_same = same_or (same_refl _) (or_comm _ _)

abbrev pub point : Piece Point
point = placed ((keyword keywords.Signal >> name >>= λ n. pure (points.Signal n)) or (keyword keywords.Pin >> S.label >>= λ l. pure (points.Pin l)))

pub point_same : Same S.point point
point_same = same_placed (same_or (nested _ _ _) (nested _ _ _))

-- ---- heads

abbrev pub more_names : Piece (List Named)
more_names = many (mark marks.Comma >> name)

abbrev pub imported : Piece (Span → Head)
imported = do
  _ ← keyword keywords.Import
  n ← name
  (keyword keywords.From >> text >>= λ s. pure (heads.ImportFrom n s)) or (more_names >>= λ more. pure (heads.Import (n ∷ more)))

import_same : Same (F.import_from or F.import_names) imported
import_same = same_or (same_second (keyword keywords.Import) (λ _. same_second name (λ n. nested _ _ _)))
    (same_second (keyword keywords.Import) (λ _. carried name (λ n. carried more_names (λ more. known _ _ before_nothing))))
    then or_joined (keyword keywords.Import) _ _
    then same_second (keyword keywords.Import) (λ _. or_joined name _ _)

abbrev pub head : Piece Head
head = placed (imported or F.from_file or (text >>= λ s. pure (λ at. heads.Docs s)) or (keyword keywords.Pass >> pure heads.Pass))

pub head_same : Same F.head head
head_same = same_placed (same_sym (or_assoc _ _ _) then same_or import_same (same_refl _))

-- ---- bodies and items

module _ (depth : ℕ) where
  abbrev pub indented : Piece (List (Line Stmt))
  indented = do
    _ ← F.newline
    _ ← of_kind is_indent
    first ← F.stmts_line depth
    more ← many (F.stmts_line depth)
    _ ← of_kind is_dedent
    pure (first ∷ more)

  abbrev pub body : Piece (Bool × List (Line Stmt))
  body = (indented >>= λ ls. pure (false, ls)) or (F.stmts_line depth >>= λ l. pure (true, l ∷ []))

  body_in_order : Same {A = Bool × List (Line Stmt)} (indented >>= λ ls. pure (false, ls)) (do
    _ ← F.newline
    _ ← of_kind is_indent
    first ← F.stmts_line depth
    more ← many (F.stmts_line depth)
    _ ← of_kind is_dedent
    pure (false, first ∷ more))
  body_in_order = carried F.newline (λ _. carried (of_kind is_indent) (λ _. carried (F.stmts_line depth) (λ first.
      carried (many (F.stmts_line depth)) (λ more. carried (of_kind is_dedent) (λ _. known _ _ before_nothing)))))

  pub body_same : Same (F.body depth) body
  body_same = or_comm _ _ then same_or (same_sym body_in_order) (same_refl _)

  abbrev pub item : Piece Item
  item = (F.block depth >>= λ b. pure (items.Block b)) or (F.line F.head >>= λ l. pure (items.Heads l))

  pub item_same : Same (F.item depth) item
  item_same = or_comm _ _
