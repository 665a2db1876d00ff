-- The grammar of statements.
use Rattle.std.specs.Prelude.{ℕ, ◌∷◌}
use Rattle.ato_base.specs.declared.places.Span.{Span}
use Rattle.ato_base.specs.declared.keywords.Keyword.TheVariants as keywords
use Rattle.ato_base.specs.declared.keywords.Mark.TheVariants as marks
use Rattle.ato_ast.specs.declared.paths.Label.{Label}
use Rattle.ato_ast.specs.declared.paths.Label.TheVariants as labels
use Rattle.ato_ast.specs.declared.paths.Point.{Point}
use Rattle.ato_ast.specs.declared.paths.Point.TheVariants as points
use Rattle.ato_ast.specs.declared.stmts.End.{End}
use Rattle.ato_ast.specs.declared.stmts.End.TheVariants as ends
use Rattle.ato_ast.specs.declared.stmts.Value.{Value}
use Rattle.ato_ast.specs.declared.stmts.Value.TheVariants as values
use Rattle.ato_ast.specs.declared.stmts.Compare.{Compare}
use Rattle.ato_ast.specs.declared.stmts.Compare.TheVariants as compares
use Rattle.ato_ast.specs.declared.stmts.Stmt.{Stmt}
use Rattle.ato_ast.specs.declared.stmts.Stmt.TheVariants as stmts
use Rattle.ato_parser.specs.Kinds.{integer_of, truth_of, comparison_of}
use Rattle.ato_parser.specs.Pieces.{Piece, pure, one, ◌>>=◌, ◌>>◌, ◌or◌, many, placed, optional}
use Rattle.ato_parser.specs.TokenPieces.{mark, keyword, name, text}
use Rattle.ato_parser.specs.Expressions.{path, literal, sum}

-- label = NAME | INTEGER | STRING
abbrev pub label : Piece Label
label = (name >>= λ n. pure (labels.Name n))
    or (one integer_of >>= λ n. pure (labels.Number n.0 n.1))
    or (text >>= λ s. pure (labels.Text s))

-- point = "signal" NAME | "pin" label
abbrev pub point : Piece Point
point = placed (
    (do
      _ ← keyword keywords.Signal
      n ← name
      pure (points.Signal n))
    or (do
      _ ← keyword keywords.Pin
      l ← label
      pure (points.Pin l)))

-- end = point | path
abbrev pub connected : Piece End
connected = (point >>= λ p. pure (ends.Point p))
    or (path >>= λ p. pure (ends.Path p))

-- Statements whose expressions have parentheses at most this many deep inside each other.
module _ (depth : ℕ) where
  -- value = STRING | "True" | "False" | sum
  abbrev pub value : Piece Value
  value = (text >>= λ s. pure (values.Text s))
      or (one truth_of >>= λ t. pure (values.Truth t.0 t.1))
      or (sum depth >>= λ x. pure (values.Expr x))

  -- compare = ("<" | "<=" | ">" | ">=" | "is") sum | "within" literal { "|" literal }
  abbrev pub compare : Piece Compare
  compare = (do
    c ← one comparison_of
    x ← sum depth
    pure (compares.Sides c.0 x))
      or (do
        _ ← keyword keywords.Within
        first ← literal
        more ← many (mark marks.Bar >> literal)
        pure (compares.Within (first ∷ more)))

  -- "pass"
  abbrev pub passed : Piece (Span → Stmt)
  passed = keyword keywords.Pass >> pure stmts.Pass

  -- STRING
  abbrev pub documented : Piece (Span → Stmt)
  documented = text >>= λ s. pure (λ at. stmts.Docs s)

  -- point [ "~" end ]
  abbrev pub declared_point : Piece (Span → Stmt)
  declared_point = do
    p ← point
    e ← optional (mark marks.Tilde >> connected)
    pure (stmts.Point p e)

  -- path "~" end
  abbrev pub connection : Piece (Span → Stmt)
  connection = do
    p ← path
    _ ← mark marks.Tilde
    e ← connected
    pure (stmts.Connect p e)

  -- path "->" NAME
  abbrev pub replacement : Piece (Span → Stmt)
  replacement = do
    p ← path
    _ ← mark marks.Arrow
    n ← name
    pure (stmts.Replace p n)

  -- path "=" value
  abbrev pub assignment : Piece (Span → Stmt)
  assignment = do
    p ← path
    _ ← mark marks.Equal
    v ← value
    pure (stmts.Assign p v)

  -- NAME "=" "new" NAME
  abbrev pub instance_made : Piece (Span → Stmt)
  instance_made = do
    n ← name
    _ ← mark marks.Equal
    _ ← keyword keywords.New
    of ← name
    pure (stmts.Make n of)

  -- NAME ":" NAME [ "=" value ]
  abbrev pub declaration : Piece (Span → Stmt)
  declaration = do
    n ← name
    _ ← mark marks.Colon
    of ← name
    v ← optional (mark marks.Equal >> value)
    pure (stmts.Declare n of v)

  -- "assert" sum compare
  abbrev pub assertion : Piece (Span → Stmt)
  assertion = do
    _ ← keyword keywords.Assert
    x ← sum depth
    c ← compare
    pure (stmts.Assert x c)

  -- stmt = "pass" | STRING | point [ "~" end ] | path "~" end | path "->" NAME | path "=" value
  --      | NAME "=" "new" NAME | NAME ":" NAME [ "=" value ] | "assert" sum compare
  abbrev pub stmt : Piece Stmt
  stmt = placed (passed or documented or declared_point or connection or replacement or assignment
      or instance_made or declaration or assertion)
