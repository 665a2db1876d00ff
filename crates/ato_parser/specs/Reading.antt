-- Expressions and statements, read from left to right. Only private functions have clauses in these words.
use Rattle.std.specs.Prelude.{ℕ, zero, suc, ◌||◌, Bool, true, false, is_some, List, [], ◌∷◌, Option, Some, None}
use Rattle.ato_base.specs.declared.places.Span.{Span}
use Rattle.ato_base.specs.declared.keywords.Keyword.TheVariants as keywords
use Rattle.ato_base.specs.declared.keywords.Mark.TheVariants as marks
use Rattle.ato_base.specs.declared.tokens.TokenKind.{TokenKind}
use Rattle.ato_ast.specs.declared.names.Named.{Named}
use Rattle.ato_ast.specs.declared.names.Quoted.{Quoted}
use Rattle.ato_ast.specs.declared.paths.Path.{Path}
use Rattle.ato_ast.specs.declared.paths.Label.{Label}
use Rattle.ato_ast.specs.declared.paths.Label.TheVariants as labels
use Rattle.ato_ast.specs.declared.paths.Point.{Point}
use Rattle.ato_ast.specs.declared.paths.Point.TheVariants as points
use Rattle.ato_ast.specs.declared.exprs.Choice.{Choice}
use Rattle.ato_ast.specs.declared.exprs.Part.{Part}
use Rattle.ato_ast.specs.declared.exprs.Literal.{Literal}
use Rattle.ato_ast.specs.declared.exprs.Literal.TheVariants as literals
use Rattle.ato_ast.specs.declared.exprs.Expr.{Expr}
use Rattle.ato_ast.specs.declared.exprs.Expr.TheVariants as exprs
use Rattle.ato_ast.specs.declared.stmts.End.{End}
use Rattle.ato_ast.specs.declared.stmts.End.TheVariants as ends
use Rattle.ato_ast.specs.declared.stmts.Value.{Value}
use Rattle.ato_ast.specs.declared.stmts.Value.TheVariants as values
use Rattle.ato_ast.specs.declared.stmts.Compare.{Compare}
use Rattle.ato_ast.specs.declared.stmts.Compare.TheVariants as compares
use Rattle.ato_ast.specs.declared.stmts.Stmt.{Stmt}
use Rattle.ato_ast.specs.declared.stmts.Stmt.TheVariants as stmts
use Rattle.ato_parser.specs.Kinds.{is_mark, is_keyword, name_of, number_of, integer_of, exponent_of, text_of, sign_of, scale_of, unit_of, comparison_of, truth_of, abs_of, choice_of}
use Rattle.ato_parser.specs.TokenPieces.{named_at}
use Rattle.ato_parser.specs.Expressions.{path_of, part_of, sum_of, product_of, power_of}
use Rattle.ato_parser.specs.Input.{Reader, ◌>>=◌, ◌>>◌, pure, refuse, one, choose, placed, optional, many, ended, mark, keyword, too_deep}

-- ---- what may come next

-- the kind has a value
abbrev pub has : {A : Type 0} → (TokenKind → Option A) → TokenKind → Bool
has value kind = is_some (value kind)

abbrev pub is_name : TokenKind → Bool
is_name = has name_of

abbrev pub starts_literal : TokenKind → Bool
starts_literal kind = has number_of kind || is_mark marks.Minus kind

abbrev pub starts_point : TokenKind → Bool
starts_point kind = is_keyword keywords.Signal kind || is_keyword keywords.Pin kind

abbrev pub starts_stmt : TokenKind → Bool
starts_stmt kind = is_name kind || (has text_of kind || (starts_point kind || (is_keyword keywords.Pass kind || is_keyword keywords.Assert kind)))

-- ---- names, strings, paths

unfoldable pub name : Reader Named
name = one name_of >>= λ n. pure (named_at n)

unfoldable pub text : Reader Quoted
text = one text_of >>= λ s. pure (record { contents = s.0; at = s.1 })

unfoldable pub path : Reader Path
path = placed (do
  first ← name
  rest ← ended marks.Dot is_name name (one integer_of)
  pure (path_of first rest))

-- ---- literals

unfoldable pub measured : Bool → Reader (Span → Part)
measured minus = do
  n ← one number_of
  u ← optional (has unit_of) (one unit_of)
  pure (part_of minus n u)

unfoldable pub quantity : Reader Part
quantity = placed (do
  minus ← choose (is_mark marks.Minus) (mark marks.Minus >> pure true) (pure false)
  measured minus)

unfoldable pub tolerance : Reader Part
tolerance = placed (measured false)

unfoldable pub literal : Reader Literal
literal = do
  a ← quantity
  choose (is_keyword keywords.To)
      (keyword keywords.To >> quantity >>= λ b. pure (literals.To a b))
      (choose (is_mark marks.PlusMinus)
      (mark marks.PlusMinus >> tolerance >>= λ b. pure (literals.About a b))
      (pure (literals.One a)))

-- ---- expressions

-- the name that a path is alone
abbrev pub only_name : Path → Option Named
only_name p = alone p.steps p.pin
  where
    alone : List Named → Option TokenKind → Option Named
    alone (n ∷ []) None = Some n
    alone _ _ = None

-- Over the open parenthesis and the expressions inside of it.
module _ (opening : Reader (Unit × Span)) (inner : Reader Expr) where
  unfoldable pub group : Reader (Span → Expr)
  group = do
    _ ← opening
    x ← inner
    _ ← mark marks.RightParenthesis
    pure (exprs.Group x)

  unfoldable pub absolute : Reader (Span → Expr)
  absolute = do
    _ ← opening
    x ← inner
    _ ← mark marks.RightParenthesis
    pure (exprs.Abs x)

  unfoldable pub chosen : Choice → Reader (Span → Expr)
  chosen which = do
    _ ← opening
    first ← inner
    more ← many (is_mark marks.Comma) (mark marks.Comma >> inner)
    _ ← mark marks.RightParenthesis
    pure (exprs.Choice which first more)

  abbrev pub function_by : Option Unit → Option Choice → Reader (Span → Expr)
  function_by (Some u) c = absolute
  function_by None (Some c) = chosen c
  function_by None None = refuse

  -- what stands behind a path before an open parenthesis
  abbrev pub called_by : Option Named → Reader (Span → Expr)
  called_by None = refuse
  called_by (Some n) = function_by (abs_of n.name) (choice_of n.name)

  unfoldable pub named_atom : Reader (Span → Expr)
  named_atom = path >>= λ p. choose (is_mark marks.LeftParenthesis) (called_by (only_name p)) (pure (λ at. exprs.Path p))

  unfoldable pub atom : Reader Expr
  atom = placed (
      choose starts_literal (literal >>= λ l. pure (exprs.Literal l))
      (choose (is_mark marks.LeftParenthesis) group named_atom))

  unfoldable pub power : Reader Expr
  power = placed (do
    base ← atom
    exponent ← optional (is_mark marks.Power) (mark marks.Power >> one exponent_of)
    pure (power_of base exponent))

  unfoldable pub product : Reader Expr
  product = placed (do
    first ← power
    more ← many (has scale_of) (do
      s ← one scale_of
      x ← power
      pure (s.0, x))
    pure (product_of first more))

  unfoldable pub sum_over : Reader Expr
  sum_over = placed (do
    first ← product
    more ← many (has sign_of) (do
      s ← one sign_of
      x ← product
      pure (s.0, x))
    pure (sum_of first more))

-- with this many more open parentheses inside each other
unfoldable pub sum : ℕ → Reader Expr
sum zero = sum_over too_deep refuse
sum (suc depth) = sum_over (mark marks.LeftParenthesis) (sum depth)

-- ---- statements

unfoldable pub label : Reader Label
label =
    choose is_name (name >>= λ n. pure (labels.Name n))
    (choose (has text_of) (text >>= λ s. pure (labels.Text s))
    (one integer_of >>= λ n. pure (labels.Number n.0 n.1)))

unfoldable pub point : Reader Point
point = placed (
    choose (is_keyword keywords.Signal)
    (keyword keywords.Signal >> name >>= λ n. pure (points.Signal n))
    (keyword keywords.Pin >> label >>= λ l. pure (points.Pin l)))

unfoldable pub connected : Reader End
connected =
    choose starts_point (point >>= λ p. pure (ends.Point p))
    (path >>= λ p. pure (ends.Path p))

module _ (depth : ℕ) where
  unfoldable pub value : Reader Value
  value =
      choose (has text_of) (text >>= λ s. pure (values.Text s))
      (choose (has truth_of) (one truth_of >>= λ t. pure (values.Truth t.0 t.1))
      (sum depth >>= λ x. pure (values.Expr x)))

  unfoldable pub compare : Reader Compare
  compare =
      choose (has comparison_of)
      (do
        c ← one comparison_of
        x ← sum depth
        pure (compares.Sides c.0 x))
      (do
        _ ← keyword keywords.Within
        first ← literal
        more ← many (is_mark marks.Bar) (mark marks.Bar >> literal)
        pure (compares.Within (first ∷ more)))

  unfoldable pub declared_point : Reader (Span → Stmt)
  declared_point = do
    p ← point
    e ← optional (is_mark marks.Tilde) (mark marks.Tilde >> connected)
    pure (stmts.Point p e)

  abbrev pub made_by : Option Named → Reader (Span → Stmt)
  made_by None = refuse
  made_by (Some n) = keyword keywords.New >> name >>= λ of. pure (stmts.Make n of)

  -- what stands behind a path and `=`
  unfoldable pub assigned : Path → Reader (Span → Stmt)
  assigned p = choose (is_keyword keywords.New) (made_by (only_name p)) (value >>= λ v. pure (stmts.Assign p v))

  abbrev pub declared_by : Option Named → Reader (Span → Stmt)
  declared_by None = refuse
  declared_by (Some n) = do
    _ ← mark marks.Colon
    of ← name
    v ← optional (is_mark marks.Equal) (mark marks.Equal >> value)
    pure (stmts.Declare n of v)

  -- what stands behind the path that a statement begins with
  unfoldable pub behind_path : Path → Reader (Span → Stmt)
  behind_path p =
      choose (is_mark marks.Tilde) (mark marks.Tilde >> connected >>= λ e. pure (stmts.Connect p e))
      (choose (is_mark marks.Arrow) (mark marks.Arrow >> name >>= λ n. pure (stmts.Replace p n))
      (choose (is_mark marks.Equal) (mark marks.Equal >> assigned p)
      (declared_by (only_name p))))

  unfoldable pub assertion : Reader (Span → Stmt)
  assertion = do
    _ ← keyword keywords.Assert
    x ← sum depth
    c ← compare
    pure (stmts.Assert x c)

  unfoldable pub stmt : Reader Stmt
  stmt = placed (
      choose (is_keyword keywords.Pass) (keyword keywords.Pass >> pure stmts.Pass)
      (choose (has text_of) (text >>= λ s. pure (λ at. stmts.Docs s))
      (choose starts_point declared_point
      (choose (is_keyword keywords.Assert) assertion
      (path >>= behind_path)))))
