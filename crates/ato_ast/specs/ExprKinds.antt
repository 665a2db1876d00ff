-- Literals and expressions, written out as the kinds of tokens.
use Rattle.std.specs.Prelude.{Bool, true, false, List, [], ◌∷◌, ◌++◌, Option, Some, None}
use Rattle.std.specs.List.{flat_map}
use Rattle.ato_base.specs.declared.keywords.Keyword.TheVariants as keyword
use Rattle.ato_base.specs.declared.keywords.Mark.TheVariants as mark
use Rattle.ato_base.specs.declared.name_table.Name.{Name}
use Rattle.ato_base.specs.declared.tokens.TokenKind.{TokenKind}
use Rattle.ato_base.specs.declared.tokens.TokenKind.TheVariants as kinds
use Rattle.ato_ast.specs.declared.exprs.Sign.{Sign}
use Rattle.ato_ast.specs.declared.exprs.Sign.TheVariants as sign
use Rattle.ato_ast.specs.declared.exprs.Scale.{Scale}
use Rattle.ato_ast.specs.declared.exprs.Scale.TheVariants as scale
use Rattle.ato_ast.specs.declared.exprs.Unit.{Unit as UnitOf}
use Rattle.ato_ast.specs.declared.exprs.Unit.TheVariants as unit
use Rattle.ato_ast.specs.declared.exprs.Part.{Part}
use Rattle.ato_ast.specs.declared.exprs.Literal.{Literal}
use Rattle.ato_ast.specs.declared.exprs.Literal.TheVariants as literal
use Rattle.ato_ast.specs.declared.exprs.Choice.{Choice}
use Rattle.ato_ast.specs.declared.exprs.Choice.TheVariants as choice
use Rattle.ato_ast.specs.declared.exprs.Expr.{Expr, fold-Expr}
use Rattle.ato_ast.specs.declared.exprs.Expr.TheOpen.{Expr-F}
use Rattle.ato_ast.specs.PathKinds.{Kinds, marked, number_kind, path_kinds}

-- the first three names of each table
abbrev pub abs_name : Name
abs_name = record { 0 = 0 }

abbrev pub max_name : Name
max_name = record { 0 = 1 }

abbrev pub min_name : Name
min_name = record { 0 = 2 }

abbrev pub sign_kind : Sign → TokenKind
sign_kind sign.Plus = kinds.Mark mark.Plus
sign_kind sign.Minus = kinds.Mark mark.Minus

abbrev pub scale_kind : Scale → TokenKind
scale_kind scale.Times = kinds.Mark mark.Star
scale_kind scale.Over = kinds.Mark mark.Slash

abbrev pub choice_kind : Choice → TokenKind
choice_kind choice.Min = kinds.Name min_name
choice_kind choice.Max = kinds.Name max_name

abbrev pub minus_kinds : Bool → Kinds
minus_kinds true = kinds.Mark mark.Minus ∷ []
minus_kinds false = []

-- unit = NAME | "%"
abbrev pub unit_kinds : Option UnitOf → Kinds
unit_kinds None = []
unit_kinds (Some (unit.Name n)) = kinds.Name n ∷ []
unit_kinds (Some unit.Percent) = kinds.Mark mark.Percent ∷ []

-- quantity = [ "-" ] NUMBER [ unit ]
unfoldable pub part_kinds : Part → Kinds
part_kinds p = minus_kinds p.minus ++ (number_kind p.number ∷ unit_kinds p.unit)

-- literal = quantity [ "to" quantity | "+/-" NUMBER [ unit ] ]
unfoldable pub literal_kinds : Literal → Kinds
literal_kinds (literal.One a) = part_kinds a
literal_kinds (literal.To a b) = part_kinds a ++ (kinds.Keyword keyword.To ∷ part_kinds b)
literal_kinds (literal.About a b) = part_kinds a ++ (kinds.Mark mark.PlusMinus ∷ part_kinds b)

abbrev pub in_parentheses : Kinds → Kinds
in_parentheses inner = kinds.Mark mark.LeftParenthesis ∷ (inner ++ kinds.Mark mark.RightParenthesis ∷ [])

-- operands of a sum behind the first, each with its sign
abbrev pub signed : List (Sign × Kinds) → Kinds
signed more = flat_map (λ x. sign_kind x.0 ∷ x.1) more

-- operands of a product behind the first, each with its sign
abbrev pub scaled : List (Scale × Kinds) → Kinds
scaled more = flat_map (λ x. scale_kind x.0 ∷ x.1) more

-- operands of a function behind the first, each with its comma
abbrev pub listed : List Kinds → Kinds
listed more = marked mark.Comma (λ x. x) more

-- one level of an expression, with each expression below it written out
abbrev pub step : Expr-F Kinds → Kinds
step (Expr-F.Sum first more at) = first ++ signed more
step (Expr-F.Product first more at) = first ++ scaled more
step (Expr-F.Power base exponent at) = base ++ (kinds.Mark mark.Power ∷ number_kind exponent ∷ [])
step (Expr-F.Group inner at) = in_parentheses inner
step (Expr-F.Abs inner at) = kinds.Name abs_name ∷ in_parentheses inner
step (Expr-F.Choice which first more at) = choice_kind which ∷ in_parentheses (first ++ listed more)
step (Expr-F.Path p) = path_kinds p
step (Expr-F.Literal l at) = literal_kinds l

abbrev pub expr_kinds : Expr → Kinds
expr_kinds = fold-Expr Kinds step

-- the same for operands as they stand in a tree
abbrev pub signed_kinds : List (Sign × Expr) → Kinds
signed_kinds more = flat_map (λ x. sign_kind x.0 ∷ expr_kinds x.1) more

abbrev pub scaled_kinds : List (Scale × Expr) → Kinds
scaled_kinds more = flat_map (λ x. scale_kind x.0 ∷ expr_kinds x.1) more

abbrev pub listed_kinds : List Expr → Kinds
listed_kinds more = marked mark.Comma expr_kinds more
