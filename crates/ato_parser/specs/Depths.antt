-- The readers of an expression, by how many more parentheses may be opened.
use Rattle.std.specs.Prelude.{ℕ, zero, suc}
use Rattle.ato_base.specs.declared.places.Span.{Span}
use Rattle.ato_base.specs.declared.keywords.Mark.TheVariants as marks
use Rattle.ato_ast.specs.declared.exprs.Sign.{Sign}
use Rattle.ato_ast.specs.declared.exprs.Scale.{Scale}
use Rattle.ato_ast.specs.declared.exprs.Expr.{Expr}
use Rattle.ato_parser.specs.Kinds.{sign_of, scale_of}
use Rattle.ato_parser.specs.Input.{Reader, ◌>>=◌, ◌>>◌, pure, refuse, one, mark, too_deep}
use Rattle.ato_parser.specs.Reading.{power, product, sum}

-- an open parenthesis
abbrev pub opening : ℕ → Reader (Unit × Span)
opening zero = too_deep
opening (suc depth) = mark marks.LeftParenthesis

-- an expression behind it
abbrev pub inside : ℕ → Reader Expr
inside zero = refuse
inside (suc depth) = sum depth

-- an operand of `min` or `max` behind the first
abbrev pub operand : ℕ → Reader Expr
operand depth = mark marks.Comma >> inside depth

-- an operand of a product behind the first
abbrev pub factor : ℕ → Reader (Scale × Expr)
factor depth = do
  s ← one scale_of
  x ← power (opening depth) (inside depth)
  pure (s.0, x)

-- an operand of a sum behind the first
abbrev pub term : ℕ → Reader (Sign × Expr)
term depth = do
  s ← one sign_of
  x ← product (opening depth) (inside depth)
  pure (s.0, x)
