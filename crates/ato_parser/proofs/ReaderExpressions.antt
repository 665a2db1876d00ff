-- What holds of the steps of two readers holds of the readers of expressions.
use Rattle.std.proofs.Common.{Bool, true, false, Option, Some, None}
use Rattle.ato_base.specs.declared.places.Span.{Span}
use Rattle.ato_base.specs.declared.keywords.Keyword.TheVariants as keywords
use Rattle.ato_base.specs.declared.keywords.Mark.TheVariants as marks
use Rattle.ato_ast.specs.declared.names.Named.{Named}
use Rattle.ato_ast.specs.declared.exprs.Choice.{Choice}
use Rattle.ato_ast.specs.declared.exprs.Literal.TheVariants as literals
use Rattle.ato_ast.specs.declared.exprs.Expr.{Expr}
use Rattle.ato_ast.specs.declared.exprs.Expr.TheVariants as exprs
use Rattle.ato_parser.specs.Kinds.{is_mark, is_keyword, name_of, number_of, integer_of, exponent_of, text_of, sign_of, scale_of, unit_of, abs_of, choice_of}
use Rattle.ato_parser.specs.TokenPieces.{named_at}
use Rattle.ato_parser.specs.Expressions.{path_of, part_of, sum_of, product_of, power_of}
use Rattle.ato_parser.specs.Input.{Reader, ◌>>=◌, ◌>>◌, pure, many, mark}
use Rattle.ato_parser.specs.Reading.{has, is_name, starts_literal, name, text, path, measured, quantity, tolerance, literal, only_name, group, absolute, chosen, function_by, called_by, named_atom, atom, power, product, sum_over}
use Rattle.ato_parser.proofs.ReaderLaws.{Law, Goes, pure_goes, refuse_goes, one_goes, mark_goes, keyword_goes, then_goes, choose_goes, placed_goes, optional_goes, many_goes, ended_goes}

-- ---- names, paths, literals

module _ (law : Law) where
  pub name_goes : Goes law name name
  unfolding name
  name_goes = then_goes law _ _ _ _ (one_goes law name_of) (λ n. pure_goes law (named_at n))

  pub text_goes : Goes law text text
  unfolding text
  text_goes = then_goes law _ _ _ _ (one_goes law text_of) (λ s. pure_goes law (record { contents = s.0; at = s.1 }))

  pub path_goes : Goes law path path
  unfolding path
  path_goes = placed_goes law _ _ (then_goes law _ _ _ _ name_goes
      (λ first. then_goes law _ _ _ _ (ended_goes law marks.Dot is_name name name _ _ name_goes (one_goes law integer_of))
      (λ rest. pure_goes law (path_of first rest))))

  measured_goes : (minus : Bool) → Goes law (measured minus) (measured minus)
  unfolding measured
  measured_goes minus = then_goes law _ _ _ _ (one_goes law number_of)
      (λ n. then_goes law _ _ _ _ (optional_goes law (has unit_of) _ _ (one_goes law unit_of))
      (λ u. pure_goes law (part_of minus n u)))

  quantity_goes : Goes law quantity quantity
  unfolding quantity
  quantity_goes = placed_goes law _ _ (then_goes law _ _ _ _
      (choose_goes law (is_mark marks.Minus) _ _ _ _ (then_goes law _ _ _ _ (mark_goes law marks.Minus) (λ m. pure_goes law true)) (pure_goes law false))
      measured_goes)

  tolerance_goes : Goes law tolerance tolerance
  unfolding tolerance
  tolerance_goes = placed_goes law _ _ (measured_goes false)

  pub literal_goes : Goes law literal literal
  unfolding literal
  literal_goes = then_goes law _ _ _ _ quantity_goes (λ a. choose_goes law (is_keyword keywords.To) _ _ _ _
      (then_goes law _ _ _ _ (then_goes law _ _ _ _ (keyword_goes law keywords.To) (λ k. quantity_goes)) (λ b. pure_goes law (literals.To a b)))
      (choose_goes law (is_mark marks.PlusMinus) _ _ _ _
      (then_goes law _ _ _ _ (then_goes law _ _ _ _ (mark_goes law marks.PlusMinus) (λ m. tolerance_goes)) (λ b. pure_goes law (literals.About a b)))
      (pure_goes law (literals.One a))))

-- ---- expressions

-- The law holds behind an open parenthesis.
pub record Opened (law : Law) (opening opening' : Reader (Unit {0} × Span)) (inner inner' : Reader Expr) : Type 0 where
  pub opened : (f : Reader Expr → Reader (Span → Expr)) → ((x y : Reader Expr) → Goes law x y → Goes law (f x) (f y)) → Goes law (opening >> f inner) (opening' >> f inner')

module _ (law : Law) (opening opening' : Reader (Unit {0} × Span)) (inner inner' : Reader Expr) (enters : Opened law opening opening' inner inner') where
  group_goes : Goes law (group opening inner) (group opening' inner')
  unfolding group
  group_goes = enters.opened (λ x. do
    y ← x
    _ ← mark marks.RightParenthesis
    pure (exprs.Group y))
      (λ x y e. then_goes law _ _ _ _ e (λ z. then_goes law _ _ _ _ (mark_goes law marks.RightParenthesis) (λ c. pure_goes law (exprs.Group z))))

  absolute_goes : Goes law (absolute opening inner) (absolute opening' inner')
  unfolding absolute
  absolute_goes = enters.opened (λ x. do
    y ← x
    _ ← mark marks.RightParenthesis
    pure (exprs.Abs y))
      (λ x y e. then_goes law _ _ _ _ e (λ z. then_goes law _ _ _ _ (mark_goes law marks.RightParenthesis) (λ c. pure_goes law (exprs.Abs z))))

  chosen_goes : (which : Choice) → Goes law (chosen opening inner which) (chosen opening' inner' which)
  unfolding chosen
  chosen_goes which = enters.opened (λ x. do
    first ← x
    more ← many (is_mark marks.Comma) (mark marks.Comma >> x)
    _ ← mark marks.RightParenthesis
    pure (exprs.Choice which first more))
      (λ x y e. then_goes law _ _ _ _ e
      (λ first. then_goes law _ _ _ _ (many_goes law (is_mark marks.Comma) _ _ (then_goes law _ _ _ _ (mark_goes law marks.Comma) (λ c. e)))
      (λ more. then_goes law _ _ _ _ (mark_goes law marks.RightParenthesis) (λ c. pure_goes law (exprs.Choice which first more)))))

  function_goes : (a : Option (Unit {0})) (c : Option Choice) → Goes law (function_by opening inner a c) (function_by opening' inner' a c)
  function_goes (Some u) c = absolute_goes
  function_goes None (Some c) = chosen_goes c
  function_goes None None = refuse_goes law (Span → Expr)

  called_goes : (n : Option Named) → Goes law (called_by opening inner n) (called_by opening' inner' n)
  called_goes None = refuse_goes law (Span → Expr)
  called_goes (Some n) = function_goes (abs_of n.name) (choice_of n.name)

  named_atom_goes : Goes law (named_atom opening inner) (named_atom opening' inner')
  unfolding named_atom
  named_atom_goes = then_goes law _ _ _ _ (path_goes law) (λ p. choose_goes law (is_mark marks.LeftParenthesis) _ _ _ _ (called_goes (only_name p)) (pure_goes law (λ at. exprs.Path p)))

  atom_goes : Goes law (atom opening inner) (atom opening' inner')
  unfolding atom
  atom_goes = placed_goes law _ _ (choose_goes law starts_literal _ _ _ _
      (then_goes law _ _ _ _ (literal_goes law) (λ l. pure_goes law (exprs.Literal l)))
      (choose_goes law (is_mark marks.LeftParenthesis) _ _ _ _ group_goes named_atom_goes))

  power_goes : Goes law (power opening inner) (power opening' inner')
  unfolding power
  power_goes = placed_goes law _ _ (then_goes law _ _ _ _ atom_goes
      (λ base. then_goes law _ _ _ _ (optional_goes law (is_mark marks.Power) _ _ (then_goes law _ _ _ _ (mark_goes law marks.Power) (λ m. one_goes law exponent_of)))
      (λ exponent. pure_goes law (power_of base exponent))))

  product_goes : Goes law (product opening inner) (product opening' inner')
  unfolding product
  product_goes = placed_goes law _ _ (then_goes law _ _ _ _ power_goes
      (λ first. then_goes law _ _ _ _ (many_goes law (has scale_of) _ _ (then_goes law _ _ _ _ (one_goes law scale_of) (λ s. then_goes law _ _ _ _ power_goes (λ x. pure_goes law (s.0, x)))))
      (λ more. pure_goes law (product_of first more))))

  pub sum_over_goes : Goes law (sum_over opening inner) (sum_over opening' inner')
  unfolding sum_over
  sum_over_goes = placed_goes law _ _ (then_goes law _ _ _ _ product_goes
      (λ first. then_goes law _ _ _ _ (many_goes law (has sign_of) _ _ (then_goes law _ _ _ _ (one_goes law sign_of) (λ s. then_goes law _ _ _ _ product_goes (λ x. pure_goes law (s.0, x)))))
      (λ more. pure_goes law (sum_of first more))))
