-- The grammar of expressions.
use Rattle.std.specs.Prelude.{ℕ, zero, suc, Bool, false, List, [], ◌∷◌, Option, Some, None}
use Rattle.ato_base.specs.declared.places.Span.{Span}
use Rattle.ato_base.specs.declared.keywords.Keyword.TheVariants as keywords
use Rattle.ato_base.specs.declared.keywords.Mark.TheVariants as marks
use Rattle.ato_base.specs.declared.tokens.TokenKind.{TokenKind}
use Rattle.ato_base.specs.declared.tokens.TokenKind.TheVariants as kinds
use Rattle.ato_ast.specs.declared.names.Named.{Named}
use Rattle.ato_ast.specs.declared.names.Number.{Number}
use Rattle.ato_ast.specs.declared.paths.Path.{Path}
use Rattle.ato_ast.specs.declared.exprs.Sign.{Sign}
use Rattle.ato_ast.specs.declared.exprs.Scale.{Scale}
use Rattle.ato_ast.specs.declared.exprs.Unit.{Unit as WrittenUnit}
use Rattle.ato_ast.specs.declared.exprs.Part.{Part}
use Rattle.ato_ast.specs.declared.exprs.Literal.{Literal}
use Rattle.ato_ast.specs.declared.exprs.Literal.TheVariants as literals
use Rattle.ato_ast.specs.declared.exprs.Expr.{Expr}
use Rattle.ato_ast.specs.declared.exprs.Expr.TheVariants as exprs
use Rattle.ato_parser.specs.Kinds.{named, number_of, integer_of, exponent_of, sign_of, scale_of, unit_of, abs_of, choice_of}
use Rattle.ato_parser.specs.Pieces.{Piece, pure, never, one, ◌>>=◌, ◌>>◌, ◌or◌, many, placed, optional, ended, flag}
use Rattle.ato_parser.specs.TokenPieces.{mark, keyword, name}

-- ---- paths

-- the kind of a number's token
abbrev pub number_kind : Number → TokenKind
number_kind n = kinds.Number n.whole n.small n.at

abbrev pub pin_kind : Option (Number × Span) → Option TokenKind
pin_kind None = None
pin_kind (Some n) = Some (number_kind n.0)

abbrev pub path_of : Named → List Named × Option (Number × Span) → Span → Path
path_of first rest at = record { steps = first ∷ rest.0; pin = pin_kind rest.1; at = at }

-- path = NAME { "." NAME } [ "." INTEGER ]
abbrev pub path : Piece Path
path = placed (do
  first ← name
  rest ← ended (mark marks.Dot) name (one integer_of)
  pure (path_of first rest))

-- ---- literals

abbrev pub unit_written : Option (WrittenUnit × Span) → Option WrittenUnit
unit_written None = None
unit_written (Some u) = Some u.0

abbrev pub part_of : Bool → Number × Span → Option (WrittenUnit × Span) → Span → Part
part_of minus n u at = record { minus = minus; number = n.0; unit = unit_written u; at = at }

-- unit = NAME | "%"
abbrev pub unit : Piece (WrittenUnit × Span)
unit = one unit_of

-- NUMBER [ unit ], behind a minus sign or none
abbrev pub measured : Bool → Piece (Span → Part)
measured minus = do
  n ← one number_of
  u ← optional unit
  pure (part_of minus n u)

-- quantity = [ "-" ] NUMBER [ unit ]
abbrev pub quantity : Piece Part
quantity = placed (do
  minus ← flag (mark marks.Minus)
  measured minus)

-- NUMBER [ unit ]
abbrev pub tolerance : Piece Part
tolerance = placed (measured false)

-- literal = quantity [ "to" quantity | "+/-" NUMBER [ unit ] ]
abbrev pub literal : Piece Literal
literal = do
  a ← quantity
  (do
    _ ← keyword keywords.To
    b ← quantity
    pure (literals.To a b))
      or (do
        _ ← mark marks.PlusMinus
        b ← tolerance
        pure (literals.About a b))
      or pure (literals.One a)

-- ---- expressions

-- a first operand alone, or a sum
abbrev pub sum_of : Expr → List (Sign × Expr) → Span → Expr
sum_of first [] at = first
sum_of first (x ∷ xs) at = exprs.Sum first (x ∷ xs) at

-- a first operand alone, or a product
abbrev pub product_of : Expr → List (Scale × Expr) → Span → Expr
product_of first [] at = first
product_of first (x ∷ xs) at = exprs.Product first (x ∷ xs) at

-- an operand alone, or with its exponent
abbrev pub power_of : Expr → Option (Number × Span) → Span → Expr
power_of base None at = base
power_of base (Some n) at = exprs.Power base n.0 at

-- The expressions of one level, over the open parenthesis and the expressions inside of it.
module _ (opening : Piece (Unit × Span)) (inner : Piece Expr) where
  -- "(" sum ")"
  abbrev pub group : Piece (Span → Expr)
  group = do
    _ ← opening
    x ← inner
    _ ← mark marks.RightParenthesis
    pure (exprs.Group x)

  -- "abs" "(" sum ")"
  abbrev pub absolute : Piece (Span → Expr)
  absolute = do
    _ ← one (named abs_of)
    _ ← opening
    x ← inner
    _ ← mark marks.RightParenthesis
    pure (exprs.Abs x)

  -- ("min" | "max") "(" sum { "," sum } ")"
  abbrev pub chosen : Piece (Span → Expr)
  chosen = do
    which ← one (named choice_of)
    _ ← opening
    first ← inner
    more ← many (mark marks.Comma >> inner)
    _ ← mark marks.RightParenthesis
    pure (exprs.Choice which.0 first more)

  -- atom = path | literal | "(" sum ")" | "abs" "(" sum ")" | ("min" | "max") "(" sum { "," sum } ")"
  abbrev pub atom : Piece Expr
  atom = placed ((path >>= λ p. pure (λ at. exprs.Path p))
      or (literal >>= λ l. pure (exprs.Literal l))
      or group
      or absolute
      or chosen)

  -- power = atom [ "**" INTEGER ], where the INTEGER is 1 to 16
  abbrev pub power : Piece Expr
  power = placed (do
    base ← atom
    exponent ← optional (mark marks.Power >> one exponent_of)
    pure (power_of base exponent))

  -- product = power { ("*" | "/") power }
  abbrev pub product : Piece Expr
  product = placed (do
    first ← power
    more ← many (do
      s ← one scale_of
      x ← power
      pure (s.0, x))
    pure (product_of first more))

  -- sum = product { ("+" | "-") product }
  abbrev pub sum_over : Piece Expr
  sum_over = placed (do
    first ← product
    more ← many (do
      s ← one sign_of
      x ← product
      pure (s.0, x))
    pure (sum_of first more))

-- sum, where parentheses stand at most this many deep inside each other
unfoldable pub sum : ℕ → Piece Expr
sum zero = sum_over never never
sum (suc depth) = sum_over (mark marks.LeftParenthesis) (sum depth)
