-- Worked rows of the readers: what expressions are read, and where reading stops.
use Rattle.std.proofs.Common.{◌≡◌, ℕ, List, [], ◌∷◌, true, false, Some, None, Result, Ok, Err, refl}
use Rattle.ato_base.specs.declared.keywords.Keyword.TheVariants as keywords
use Rattle.ato_base.specs.declared.keywords.Mark.TheVariants as marks
use Rattle.ato_base.specs.declared.tokens.TokenKind.{TokenKind}
use Rattle.ato_ast.specs.declared.exprs.Expr.{Expr}
use Rattle.ato_ast.specs.declared.exprs.Expr.TheVariants as exprs
use Rattle.ato_ast.specs.declared.exprs.Literal.TheVariants as literals
use Rattle.ato_ast.specs.declared.exprs.Sign.TheVariants as signs
use Rattle.ato_ast.specs.declared.exprs.Scale.TheVariants as scales
use Rattle.ato_ast.specs.declared.exprs.Choice.TheVariants as choices
use Rattle.ato_ast.specs.declared.exprs.Unit.TheVariants as units
use Rattle.ato_parser.specs.declared.stop.Stop.{Stop}
use Rattle.ato_parser.specs.declared.stop.Stop.TheVariants as stops
use Rattle.ato_parser.specs.Kinds.{same_mark, same_keyword}
use Rattle.ato_parser.specs.Input.{turns, many, endings, ended}
use Rattle.ato_parser.specs.Reading.{name, text, path, measured, quantity, tolerance, literal, group, absolute, chosen, named_atom, atom, power, product, sum_over, sum}
use Rattle.ato_parser.specs.FileReading.{start, value_of}
use Rattle.ato_parser.proofs.RowTokens.{bytes, row, word, digits, fraction, sign, key, named, integer}
use Rattle.ato_parser.proofs.ExpressionRows.{plain, measure, name_expr}

-- The expression that tokens begin with, where so many open parentheses may stand inside each other; or where reading stops,
-- with how many tokens are left there.
abbrev read : ℕ → List TokenKind → Result Expr Stop
read depth ks = value_of (sum depth (start (row ks)))

-- - 2 ** 2: the power of the literal
negative_power : read 0 (sign marks.Minus ∷ digits 2 ∷ sign marks.Power ∷ digits 2 ∷ []) ≡ Ok (exprs.Power (exprs.Literal (literals.One (record { minus = true; number = integer 2; unit = None; at = bytes 0 2 })) (bytes 0 2)) (integer 2) (bytes 0 4))
unfolding same_mark same_keyword turns many endings ended name text path measured quantity tolerance literal group absolute chosen named_atom atom power product sum_over sum
negative_power = refl

-- a - b - c: one sum
differences : read 0 (word 5 ∷ sign marks.Minus ∷ word 6 ∷ sign marks.Minus ∷ word 7 ∷ []) ≡ Ok (exprs.Sum (name_expr 5 0) ((signs.Minus, name_expr 6 2) ∷ (signs.Minus, name_expr 7 4) ∷ []) (bytes 0 5))
unfolding same_mark same_keyword turns many endings ended name text path measured quantity tolerance literal group absolute chosen named_atom atom power product sum_over sum
differences = refl

-- a + b * c: a sum whose second operand is a product
mixed : read 0 (word 5 ∷ sign marks.Plus ∷ word 6 ∷ sign marks.Star ∷ word 7 ∷ []) ≡ Ok (exprs.Sum (name_expr 5 0) ((signs.Plus, exprs.Product (name_expr 6 2) ((scales.Times, name_expr 7 4) ∷ []) (bytes 2 5)) ∷ []) (bytes 0 5))
unfolding same_mark same_keyword turns many endings ended name text path measured quantity tolerance literal group absolute chosen named_atom atom power product sum_over sum
mixed = refl

-- a * b + c: a sum whose first operand is a product
mixed_first : read 0 (word 5 ∷ sign marks.Star ∷ word 6 ∷ sign marks.Plus ∷ word 7 ∷ []) ≡ Ok (exprs.Sum (exprs.Product (name_expr 5 0) ((scales.Times, name_expr 6 2) ∷ []) (bytes 0 3)) ((signs.Plus, name_expr 7 4) ∷ []) (bytes 0 5))
unfolding same_mark same_keyword turns many endings ended name text path measured quantity tolerance literal group absolute chosen named_atom atom power product sum_over sum
mixed_first = refl

-- a / b ** 2
divided_power : read 0 (word 5 ∷ sign marks.Slash ∷ word 6 ∷ sign marks.Power ∷ digits 2 ∷ []) ≡ Ok (exprs.Product (name_expr 5 0) ((scales.Over, exprs.Power (name_expr 6 2) (integer 2) (bytes 2 5)) ∷ []) (bytes 0 5))
unfolding same_mark same_keyword turns many endings ended name text path measured quantity tolerance literal group absolute chosen named_atom atom power product sum_over sum
divided_power = refl

-- (a)
a_group : read 1 (sign marks.LeftParenthesis ∷ word 5 ∷ sign marks.RightParenthesis ∷ []) ≡ Ok (exprs.Group (name_expr 5 1) (bytes 0 3))
unfolding same_mark same_keyword turns many endings ended name text path measured quantity tolerance literal group absolute chosen named_atom atom power product sum_over sum
a_group = refl

-- abs(x)
a_call : read 1 (word 0 ∷ sign marks.LeftParenthesis ∷ word 5 ∷ sign marks.RightParenthesis ∷ []) ≡ Ok (exprs.Abs (name_expr 5 2) (bytes 0 4))
unfolding same_mark same_keyword turns many endings ended name text path measured quantity tolerance literal group absolute chosen named_atom atom power product sum_over sum
a_call = refl

-- abs
a_functions_name : read 1 (word 0 ∷ []) ≡ Ok (name_expr 0 0)
unfolding same_mark same_keyword turns many endings ended name text path measured quantity tolerance literal group absolute chosen named_atom atom power product sum_over sum
a_functions_name = refl

-- abs + min
two_functions_names : read 1 (word 0 ∷ sign marks.Plus ∷ word 2 ∷ []) ≡ Ok (exprs.Sum (name_expr 0 0) ((signs.Plus, name_expr 2 2) ∷ []) (bytes 0 3))
unfolding same_mark same_keyword turns many endings ended name text path measured quantity tolerance literal group absolute chosen named_atom atom power product sum_over sum
two_functions_names = refl

-- min(a, b)
a_choice : read 1 (word 2 ∷ sign marks.LeftParenthesis ∷ word 5 ∷ sign marks.Comma ∷ word 6 ∷ sign marks.RightParenthesis ∷ []) ≡ Ok (exprs.Choice choices.Min (name_expr 5 2) (name_expr 6 4 ∷ []) (bytes 0 6))
unfolding same_mark same_keyword turns many endings ended name text path measured quantity tolerance literal group absolute chosen named_atom atom power product sum_over sum
a_choice = refl

-- max(a)
a_choice_of_one : read 1 (word 1 ∷ sign marks.LeftParenthesis ∷ word 5 ∷ sign marks.RightParenthesis ∷ []) ≡ Ok (exprs.Choice choices.Max (name_expr 5 2) [] (bytes 0 4))
unfolding same_mark same_keyword turns many endings ended name text path measured quantity tolerance literal group absolute chosen named_atom atom power product sum_over sum
a_choice_of_one = refl

-- a.b.1
path_with_pin : read 0 (word 5 ∷ sign marks.Dot ∷ word 6 ∷ sign marks.Dot ∷ digits 1 ∷ []) ≡ Ok (exprs.Path (record { steps = named 5 0 ∷ named 6 2 ∷ []; pin = Some (digits 1); at = bytes 0 5 }))
unfolding same_mark same_keyword turns many endings ended name text path measured quantity tolerance literal group absolute chosen named_atom atom power product sum_over sum
path_with_pin = refl

-- 5 V to 6 V
a_range : read 0 (digits 5 ∷ word 9 ∷ key keywords.To ∷ digits 6 ∷ word 9 ∷ []) ≡ Ok (exprs.Literal (literals.To (measure 5 9 0) (measure 6 9 3)) (bytes 0 5))
unfolding same_mark same_keyword turns many endings ended name text path measured quantity tolerance literal group absolute chosen named_atom atom power product sum_over sum
a_range = refl

-- 5 +/- 1 %
a_tolerance : read 0 (digits 5 ∷ sign marks.PlusMinus ∷ digits 1 ∷ sign marks.Percent ∷ []) ≡ Ok (exprs.Literal (literals.About (plain 5 0) (record { minus = false; number = integer 1; unit = Some units.Percent; at = bytes 2 4 })) (bytes 0 4))
unfolding same_mark same_keyword turns many endings ended name text path measured quantity tolerance literal group absolute chosen named_atom atom power product sum_over sum
a_tolerance = refl

-- x ** 16
largest_exponent : read 0 (word 5 ∷ sign marks.Power ∷ digits 16 ∷ []) ≡ Ok (exprs.Power (name_expr 5 0) (integer 16) (bytes 0 3))
unfolding same_mark same_keyword turns many endings ended name text path measured quantity tolerance literal group absolute chosen named_atom atom power product sum_over sum
largest_exponent = refl

-- x ** 1
least_exponent : read 0 (word 5 ∷ sign marks.Power ∷ digits 1 ∷ []) ≡ Ok (exprs.Power (name_expr 5 0) (integer 1) (bytes 0 3))
unfolding same_mark same_keyword turns many endings ended name text path measured quantity tolerance literal group absolute chosen named_atom atom power product sum_over sum
least_exponent = refl

-- ---- where reading stops

-- x ** 17
exponent_too_large : read 0 (word 5 ∷ sign marks.Power ∷ digits 17 ∷ []) ≡ Err (stops.Syntax 1)
unfolding same_mark same_keyword turns many endings ended name text path measured quantity tolerance literal group absolute chosen named_atom atom power product sum_over sum
exponent_too_large = refl

-- x ** 0
exponent_zero : read 0 (word 5 ∷ sign marks.Power ∷ digits 0 ∷ []) ≡ Err (stops.Syntax 1)
unfolding same_mark same_keyword turns many endings ended name text path measured quantity tolerance literal group absolute chosen named_atom atom power product sum_over sum
exponent_zero = refl

-- x ** 1.5
exponent_with_point : read 0 (word 5 ∷ sign marks.Power ∷ fraction 3 ∷ []) ≡ Err (stops.Syntax 1)
unfolding same_mark same_keyword turns many endings ended name text path measured quantity tolerance literal group absolute chosen named_atom atom power product sum_over sum
exponent_with_point = refl

-- x ** y
exponent_no_number : read 0 (word 5 ∷ sign marks.Power ∷ word 6 ∷ []) ≡ Err (stops.Syntax 1)
unfolding same_mark same_keyword turns many endings ended name text path measured quantity tolerance literal group absolute chosen named_atom atom power product sum_over sum
exponent_no_number = refl

-- + a
a_plus_first : read 0 (sign marks.Plus ∷ word 5 ∷ []) ≡ Err (stops.Syntax 2)
unfolding same_mark same_keyword turns many endings ended name text path measured quantity tolerance literal group absolute chosen named_atom atom power product sum_over sum
a_plus_first = refl

-- - a: a minus sign belongs to a number
a_minus_first : read 0 (sign marks.Minus ∷ word 5 ∷ []) ≡ Err (stops.Syntax 1)
unfolding same_mark same_keyword turns many endings ended name text path measured quantity tolerance literal group absolute chosen named_atom atom power product sum_over sum
a_minus_first = refl

-- a +
an_operand_missing : read 0 (word 5 ∷ sign marks.Plus ∷ []) ≡ Err (stops.Syntax 0)
unfolding same_mark same_keyword turns many endings ended name text path measured quantity tolerance literal group absolute chosen named_atom atom power product sum_over sum
an_operand_missing = refl

-- a + * b
two_signs : read 0 (word 5 ∷ sign marks.Plus ∷ sign marks.Star ∷ word 6 ∷ []) ≡ Err (stops.Syntax 2)
unfolding same_mark same_keyword turns many endings ended name text path measured quantity tolerance literal group absolute chosen named_atom atom power product sum_over sum
two_signs = refl

-- ( )
an_empty_group : read 1 (sign marks.LeftParenthesis ∷ sign marks.RightParenthesis ∷ []) ≡ Err (stops.Syntax 1)
unfolding same_mark same_keyword turns many endings ended name text path measured quantity tolerance literal group absolute chosen named_atom atom power product sum_over sum
an_empty_group = refl

-- (a
a_group_left_open : read 1 (sign marks.LeftParenthesis ∷ word 5 ∷ []) ≡ Err (stops.Syntax 0)
unfolding same_mark same_keyword turns many endings ended name text path measured quantity tolerance literal group absolute chosen named_atom atom power product sum_over sum
a_group_left_open = refl

-- (a, b)
a_group_of_two : read 1 (sign marks.LeftParenthesis ∷ word 5 ∷ sign marks.Comma ∷ word 6 ∷ sign marks.RightParenthesis ∷ []) ≡ Err (stops.Syntax 3)
unfolding same_mark same_keyword turns many endings ended name text path measured quantity tolerance literal group absolute chosen named_atom atom power product sum_over sum
a_group_of_two = refl

-- abs(a, b)
a_call_of_two : read 1 (word 0 ∷ sign marks.LeftParenthesis ∷ word 5 ∷ sign marks.Comma ∷ word 6 ∷ sign marks.RightParenthesis ∷ []) ≡ Err (stops.Syntax 3)
unfolding same_mark same_keyword turns many endings ended name text path measured quantity tolerance literal group absolute chosen named_atom atom power product sum_over sum
a_call_of_two = refl

-- min(a,)
a_choice_with_a_last_comma : read 1 (word 2 ∷ sign marks.LeftParenthesis ∷ word 5 ∷ sign marks.Comma ∷ sign marks.RightParenthesis ∷ []) ≡ Err (stops.Syntax 1)
unfolding same_mark same_keyword turns many endings ended name text path measured quantity tolerance literal group absolute chosen named_atom atom power product sum_over sum
a_choice_with_a_last_comma = refl

-- a(b)
no_function : read 1 (word 5 ∷ sign marks.LeftParenthesis ∷ word 6 ∷ sign marks.RightParenthesis ∷ []) ≡ Err (stops.Syntax 3)
unfolding same_mark same_keyword turns many endings ended name text path measured quantity tolerance literal group absolute chosen named_atom atom power product sum_over sum
no_function = refl

-- a.abs(b)
no_function_of_a_path : read 1 (word 5 ∷ sign marks.Dot ∷ word 0 ∷ sign marks.LeftParenthesis ∷ word 6 ∷ sign marks.RightParenthesis ∷ []) ≡ Err (stops.Syntax 3)
unfolding same_mark same_keyword turns many endings ended name text path measured quantity tolerance literal group absolute chosen named_atom atom power product sum_over sum
no_function_of_a_path = refl

-- abs.a(b)
no_function_below : read 1 (word 0 ∷ sign marks.Dot ∷ word 5 ∷ sign marks.LeftParenthesis ∷ word 6 ∷ sign marks.RightParenthesis ∷ []) ≡ Err (stops.Syntax 3)
unfolding same_mark same_keyword turns many endings ended name text path measured quantity tolerance literal group absolute chosen named_atom atom power product sum_over sum
no_function_below = refl

-- abs.1(a)
no_function_with_pin : read 1 (word 0 ∷ sign marks.Dot ∷ digits 1 ∷ sign marks.LeftParenthesis ∷ word 5 ∷ sign marks.RightParenthesis ∷ []) ≡ Err (stops.Syntax 3)
unfolding same_mark same_keyword turns many endings ended name text path measured quantity tolerance literal group absolute chosen named_atom atom power product sum_over sum
no_function_with_pin = refl

-- 5 +/- -1
a_negative_tolerance : read 0 (digits 5 ∷ sign marks.PlusMinus ∷ sign marks.Minus ∷ digits 1 ∷ []) ≡ Err (stops.Syntax 2)
unfolding same_mark same_keyword turns many endings ended name text path measured quantity tolerance literal group absolute chosen named_atom atom power product sum_over sum
a_negative_tolerance = refl

-- 5 to a
a_range_to_a_name : read 0 (digits 5 ∷ key keywords.To ∷ word 5 ∷ []) ≡ Err (stops.Syntax 1)
unfolding same_mark same_keyword turns many endings ended name text path measured quantity tolerance literal group absolute chosen named_atom atom power product sum_over sum
a_range_to_a_name = refl

-- a.1.5
a_pin_with_point : read 0 (word 5 ∷ sign marks.Dot ∷ fraction 3 ∷ []) ≡ Err (stops.Syntax 1)
unfolding same_mark same_keyword turns many endings ended name text path measured quantity tolerance literal group absolute chosen named_atom atom power product sum_over sum
a_pin_with_point = refl

-- a.
a_path_left_open : read 0 (word 5 ∷ sign marks.Dot ∷ []) ≡ Err (stops.Syntax 0)
unfolding same_mark same_keyword turns many endings ended name text path measured quantity tolerance literal group absolute chosen named_atom atom power product sum_over sum
a_path_left_open = refl

-- (a), with no parenthesis allowed
no_parenthesis : read 0 (sign marks.LeftParenthesis ∷ word 5 ∷ sign marks.RightParenthesis ∷ []) ≡ Err (stops.TooDeep 3)
unfolding same_mark same_keyword turns many endings ended name text path measured quantity tolerance literal group absolute chosen named_atom atom power product sum_over sum
no_parenthesis = refl

-- abs(x), with no parenthesis allowed
no_call : read 0 (word 0 ∷ sign marks.LeftParenthesis ∷ word 5 ∷ sign marks.RightParenthesis ∷ []) ≡ Err (stops.TooDeep 3)
unfolding same_mark same_keyword turns many endings ended name text path measured quantity tolerance literal group absolute chosen named_atom atom power product sum_over sum
no_call = refl

-- ((a)), with one parenthesis allowed
two_parentheses : read 1 (sign marks.LeftParenthesis ∷ sign marks.LeftParenthesis ∷ word 5 ∷ sign marks.RightParenthesis ∷ sign marks.RightParenthesis ∷ []) ≡ Err (stops.TooDeep 4)
unfolding same_mark same_keyword turns many endings ended name text path measured quantity tolerance literal group absolute chosen named_atom atom power product sum_over sum
two_parentheses = refl

-- ((a)), with two allowed
two_allowed : read 2 (sign marks.LeftParenthesis ∷ sign marks.LeftParenthesis ∷ word 5 ∷ sign marks.RightParenthesis ∷ sign marks.RightParenthesis ∷ []) ≡ Ok (exprs.Group (exprs.Group (name_expr 5 2) (bytes 1 4)) (bytes 0 5))
unfolding same_mark same_keyword turns many endings ended name text path measured quantity tolerance literal group absolute chosen named_atom atom power product sum_over sum
two_allowed = refl

-- (a) + (b), with one allowed: they do not stand inside each other
beside_each_other : read 1 (sign marks.LeftParenthesis ∷ word 5 ∷ sign marks.RightParenthesis ∷ sign marks.Plus ∷ sign marks.LeftParenthesis ∷ word 6 ∷ sign marks.RightParenthesis ∷ []) ≡ Ok (exprs.Sum (exprs.Group (name_expr 5 1) (bytes 0 3)) ((signs.Plus, exprs.Group (name_expr 6 5) (bytes 4 7)) ∷ []) (bytes 0 7))
unfolding same_mark same_keyword turns many endings ended name text path measured quantity tolerance literal group absolute chosen named_atom atom power product sum_over sum
beside_each_other = refl

-- a(b), with no parenthesis allowed: no deeper parentheses would let it fit
no_function_no_parenthesis : read 0 (word 5 ∷ sign marks.LeftParenthesis ∷ word 6 ∷ sign marks.RightParenthesis ∷ []) ≡ Err (stops.Syntax 3)
unfolding same_mark same_keyword turns many endings ended name text path measured quantity tolerance literal group absolute chosen named_atom atom power product sum_over sum
no_function_no_parenthesis = refl
