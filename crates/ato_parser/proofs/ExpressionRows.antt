-- Worked rows of the grammar: paths, literals and expressions.
use Rattle.std.proofs.Common.{◌≡◌, ℕ, suc, [], ◌∷◌, ◌++◌, true, false, Some, None, refl, subst, append-nil}
use Rattle.ato_base.specs.declared.places.Span.{Span}
use Rattle.ato_base.specs.declared.keywords.Keyword.TheVariants as keywords
use Rattle.ato_base.specs.declared.keywords.Mark.TheVariants as marks
use Rattle.ato_ast.specs.declared.paths.Path.{Path}
use Rattle.ato_ast.specs.declared.exprs.Sign.TheVariants as signs
use Rattle.ato_ast.specs.declared.exprs.Scale.TheVariants as scales
use Rattle.ato_ast.specs.declared.exprs.Choice.TheVariants as choices
use Rattle.ato_ast.specs.declared.exprs.Unit.TheVariants as units
use Rattle.ato_ast.specs.declared.exprs.Part.{Part}
use Rattle.ato_ast.specs.declared.exprs.Literal.TheVariants as literals
use Rattle.ato_ast.specs.declared.exprs.Expr.{Expr}
use Rattle.ato_ast.specs.declared.exprs.Expr.TheVariants as exprs
use Rattle.ato_parser.specs.Tokens.{Tokens, extent}
use Rattle.ato_parser.specs.Kinds.{exponent_of}
use Rattle.ato_parser.specs.Pieces.{Piece, then_spells, the_one, the_other, no_more, one_more, placed_spells, one_token, nothing}
use Rattle.ato_parser.specs.Expressions.{path, quantity, literal, atom, power, product, sum_over, sum}
use Rattle.ato_parser.proofs.RowTokens.{bytes, byte, from, row, word, digits, fraction, sign, key, named, integer, decimal, a_name, a_mark, a_keyword}

-- ---- paths

-- a.b.1
path_with_pin : path.Spells (record { steps = named 5 0 ∷ named 6 2 ∷ []; pin = Some (digits 1); at = bytes 0 5 }) (row (word 5 ∷ sign marks.Dot ∷ word 6 ∷ sign marks.Dot ∷ digits 1 ∷ []))
path_with_pin = placed_spells (then_spells (a_name 5 0) (then_spells
    (then_spells (one_more (then_spells (a_mark marks.Dot 1) (a_name 6 2)) no_more)
    (then_spells (the_one (then_spells (then_spells (a_mark marks.Dot 3) (one_token (digits 1) (byte 4) refl)) nothing)) nothing)) nothing))

-- a name alone
abbrev pub lone : ℕ → ℕ → Path
lone n at = record { steps = named n at ∷ []; pin = None; at = byte at }

pub a_path : (n at : ℕ) → path.Spells (lone n at) (from at (word n ∷ []))
a_path n at = placed_spells (then_spells (a_name n at) (then_spells (then_spells no_more (then_spells (the_other nothing) nothing)) nothing))

-- ---- literals

-- a number alone, and a number with a name as its unit
abbrev pub plain : ℕ → ℕ → Part
plain n at = record { minus = false; number = integer n; unit = None; at = byte at }

abbrev pub measure : ℕ → ℕ → ℕ → Part
measure n u at = record { minus = false; number = integer n; unit = Some (units.Name (record { 0 = u })); at = bytes at (suc (suc at)) }

pub a_number : (n at : ℕ) → quantity.Spells (plain n at) (from at (digits n ∷ []))
a_number n at = placed_spells (then_spells (the_other nothing) (then_spells (one_token (digits n) (byte at) refl) (then_spells (the_other nothing) nothing)))

a_measure : (n u at : ℕ) → quantity.Spells (measure n u at) (from at (digits n ∷ word u ∷ []))
a_measure n u at = placed_spells (then_spells (the_other nothing) (then_spells (one_token (digits n) (byte at) refl)
    (then_spells (the_one (then_spells (one_token (word u) (byte (suc at)) refl) nothing)) nothing)))

-- 5 V to 6 V
a_range : literal.Spells (literals.To (measure 5 9 0) (measure 6 9 3)) (row (digits 5 ∷ word 9 ∷ key keywords.To ∷ digits 6 ∷ word 9 ∷ []))
a_range = then_spells (a_measure 5 9 0) (the_one (then_spells (a_keyword keywords.To 2) (then_spells (a_measure 6 9 3) nothing)))

-- 5 to 6
a_plain_range : literal.Spells (literals.To (plain 5 0) (plain 6 2)) (row (digits 5 ∷ key keywords.To ∷ digits 6 ∷ []))
a_plain_range = then_spells (a_number 5 0) (the_one (then_spells (a_keyword keywords.To 1) (then_spells (a_number 6 2) nothing)))

-- 5 +/- 1 %
a_tolerance : literal.Spells (literals.About (plain 5 0) (record { minus = false; number = integer 1; unit = Some units.Percent; at = bytes 2 4 }))
    (row (digits 5 ∷ sign marks.PlusMinus ∷ digits 1 ∷ sign marks.Percent ∷ []))
a_tolerance = then_spells (a_number 5 0) (the_other (the_one (then_spells (a_mark marks.PlusMinus 1) (then_spells
    (placed_spells (then_spells (one_token (digits 1) (byte 2) refl) (then_spells (the_one (then_spells (one_token (sign marks.Percent) (byte 3) refl) nothing)) nothing)))
    nothing))))

-- - 1.5 V
a_negative : quantity.Spells (record { minus = true; number = decimal 3; unit = Some (units.Name (record { 0 = 9 })); at = bytes 0 3 }) (row (sign marks.Minus ∷ fraction 3 ∷ word 9 ∷ []))
a_negative = placed_spells (then_spells (the_one (then_spells (a_mark marks.Minus 0) nothing)) (then_spells (one_token (fraction 3) (byte 1) refl)
    (then_spells (the_one (then_spells (one_token (word 9) (byte 2) refl) nothing)) nothing)))

-- ---- expressions

-- a name as an expression
abbrev pub name_expr : ℕ → ℕ → Expr
name_expr n at = exprs.Path (lone n at)

-- One operand alone is an expression of each level.
module _ (opening : Piece (Unit × Span)) (inner : Piece Expr) where
  pub one_power : (x : Expr) (ts : Tokens) → (atom opening inner).Spells x ts → (power opening inner).Spells x ts
  one_power x ts d = subst (λ us. (power opening inner).Spells x us) (append-nil ts) (placed_spells (then_spells d (then_spells (the_other nothing) nothing)))

  pub one_product : (x : Expr) (ts : Tokens) → (power opening inner).Spells x ts → (product opening inner).Spells x ts
  one_product x ts d = subst (λ us. (product opening inner).Spells x us) (append-nil ts) (placed_spells (then_spells d (then_spells no_more nothing)))

  pub one_sum : (x : Expr) (ts : Tokens) → (product opening inner).Spells x ts → (sum_over opening inner).Spells x ts
  one_sum x ts d = subst (λ us. (sum_over opening inner).Spells x us) (append-nil ts) (placed_spells (then_spells d (then_spells no_more nothing)))

  pub atom_product : (x : Expr) (ts : Tokens) → (atom opening inner).Spells x ts → (product opening inner).Spells x ts
  atom_product x ts d = one_product x ts (one_power x ts d)

  pub atom_sum : (x : Expr) (ts : Tokens) → (atom opening inner).Spells x ts → (sum_over opening inner).Spells x ts
  atom_sum x ts d = one_sum x ts (atom_product x ts d)

  pub name_atom : (n at : ℕ) → (atom opening inner).Spells (name_expr n at) (from at (word n ∷ []))
  name_atom n at = placed_spells (the_one (then_spells (a_path n at) nothing))

  pub name_product : (n at : ℕ) → (product opening inner).Spells (name_expr n at) (from at (word n ∷ []))
  name_product n at = atom_product _ _ (name_atom n at)

  pub name_sum : (n at : ℕ) → (sum_over opening inner).Spells (name_expr n at) (from at (word n ∷ []))
  name_sum n at = atom_sum _ _ (name_atom n at)

  -- an exponent
  pub raised : (x : Expr) (ts : Tokens) (n at : ℕ) → (atom opening inner).Spells x ts → exponent_of (digits n) ≡ Some (integer n)
      → (sum_over opening inner).Spells (exprs.Power x (integer n) (extent (ts ++ from at (sign marks.Power ∷ digits n ∷ [])))) (ts ++ from at (sign marks.Power ∷ digits n ∷ []))
  raised x ts n at d e = one_sum _ _ (one_product _ _ (placed_spells (then_spells d
      (then_spells (the_one (then_spells (then_spells (a_mark marks.Power at) (one_token (digits n) (byte (suc at)) e)) nothing)) nothing))))

  -- - 2 ** 2: the minus belongs to the number
  negative_power : (sum_over opening inner).Spells
      (exprs.Power (exprs.Literal (literals.One (record { minus = true; number = integer 2; unit = None; at = bytes 0 2 })) (bytes 0 2)) (integer 2) (bytes 0 4))
      (row (sign marks.Minus ∷ digits 2 ∷ sign marks.Power ∷ digits 2 ∷ []))
  negative_power = raised _ (row (sign marks.Minus ∷ digits 2 ∷ [])) 2 2
      (placed_spells (the_other (the_one (then_spells (then_spells
      (placed_spells (then_spells (the_one (then_spells (a_mark marks.Minus 0) nothing)) (then_spells (one_token (digits 2) (byte 1) refl) (then_spells (the_other nothing) nothing))))
      (the_other (the_other nothing))) nothing)))) refl

  -- x ** 16 and x ** 1
  largest_exponent : (sum_over opening inner).Spells (exprs.Power (name_expr 5 0) (integer 16) (bytes 0 3)) (row (word 5 ∷ sign marks.Power ∷ digits 16 ∷ []))
  largest_exponent = raised _ _ 16 1 (name_atom 5 0) refl

  least_exponent : (sum_over opening inner).Spells (exprs.Power (name_expr 5 0) (integer 1) (bytes 0 3)) (row (word 5 ∷ sign marks.Power ∷ digits 1 ∷ []))
  least_exponent = raised _ _ 1 1 (name_atom 5 0) refl

  -- a - b - c: one sum, its operands from the left
  differences : (sum_over opening inner).Spells (exprs.Sum (name_expr 5 0) ((signs.Minus, name_expr 6 2) ∷ (signs.Minus, name_expr 7 4) ∷ []) (bytes 0 5))
      (row (word 5 ∷ sign marks.Minus ∷ word 6 ∷ sign marks.Minus ∷ word 7 ∷ []))
  differences = placed_spells (then_spells (name_product 5 0) (then_spells
      (one_more (then_spells (one_token (sign marks.Minus) (byte 1) refl) (then_spells (name_product 6 2) nothing))
      (one_more (then_spells (one_token (sign marks.Minus) (byte 3) refl) (then_spells (name_product 7 4) nothing)) no_more)) nothing))

  -- a / b * c: one product, its operands from the left
  quotient : (sum_over opening inner).Spells (exprs.Product (name_expr 5 0) ((scales.Over, name_expr 6 2) ∷ (scales.Times, name_expr 7 4) ∷ []) (bytes 0 5))
      (row (word 5 ∷ sign marks.Slash ∷ word 6 ∷ sign marks.Star ∷ word 7 ∷ []))
  quotient = one_sum _ _ (placed_spells (then_spells (one_power _ _ (name_atom 5 0)) (then_spells
      (one_more (then_spells (one_token (sign marks.Slash) (byte 1) refl) (then_spells (one_power _ _ (name_atom 6 2)) nothing))
      (one_more (then_spells (one_token (sign marks.Star) (byte 3) refl) (then_spells (one_power _ _ (name_atom 7 4)) nothing)) no_more)) nothing)))

  -- a + b * c: a sum whose second operand is a product
  mixed : (sum_over opening inner).Spells (exprs.Sum (name_expr 5 0) ((signs.Plus, exprs.Product (name_expr 6 2) ((scales.Times, name_expr 7 4) ∷ []) (bytes 2 5)) ∷ []) (bytes 0 5))
      (row (word 5 ∷ sign marks.Plus ∷ word 6 ∷ sign marks.Star ∷ word 7 ∷ []))
  mixed = placed_spells (then_spells (name_product 5 0) (then_spells
      (one_more (then_spells (one_token (sign marks.Plus) (byte 1) refl) (then_spells
      (placed_spells (then_spells (one_power _ _ (name_atom 6 2)) (then_spells
      (one_more (then_spells (one_token (sign marks.Star) (byte 3) refl) (then_spells (one_power _ _ (name_atom 7 4)) nothing)) no_more) nothing))) nothing)) no_more) nothing))

  -- abs alone is a path
  function_name : (sum_over opening inner).Spells (name_expr 0 0) (row (word 0 ∷ []))
  function_name = name_sum 0 0

-- ---- parentheses

-- (a): it covers its parentheses
a_group : (sum 1).Spells (exprs.Group (name_expr 5 1) (bytes 0 3)) (row (sign marks.LeftParenthesis ∷ word 5 ∷ sign marks.RightParenthesis ∷ []))
unfolding sum
a_group = atom_sum _ _ _ _ (placed_spells (the_other (the_other (the_one
    (then_spells (a_mark marks.LeftParenthesis 0) (then_spells (name_sum _ _ 5 1) (then_spells (a_mark marks.RightParenthesis 2) nothing)))))))

-- abs(x)
a_call : (sum 1).Spells (exprs.Abs (name_expr 5 2) (bytes 0 4)) (row (word 0 ∷ sign marks.LeftParenthesis ∷ word 5 ∷ sign marks.RightParenthesis ∷ []))
unfolding sum
a_call = atom_sum _ _ _ _ (placed_spells (the_other (the_other (the_other (the_one (then_spells (one_token (word 0) (byte 0) refl)
    (then_spells (a_mark marks.LeftParenthesis 1) (then_spells (name_sum _ _ 5 2) (then_spells (a_mark marks.RightParenthesis 3) nothing)))))))))

-- min(a, b)
a_choice : (sum 1).Spells (exprs.Choice choices.Min (name_expr 5 2) (name_expr 6 4 ∷ []) (bytes 0 6))
    (row (word 2 ∷ sign marks.LeftParenthesis ∷ word 5 ∷ sign marks.Comma ∷ word 6 ∷ sign marks.RightParenthesis ∷ []))
unfolding sum
a_choice = atom_sum _ _ _ _ (placed_spells (the_other (the_other (the_other (the_other (then_spells (one_token (word 2) (byte 0) refl)
    (then_spells (a_mark marks.LeftParenthesis 1) (then_spells (name_sum _ _ 5 2) (then_spells
    (one_more (then_spells (a_mark marks.Comma 3) (name_sum _ _ 6 4)) no_more)
    (then_spells (a_mark marks.RightParenthesis 5) nothing))))))))))

-- max(a)
a_choice_of_one : (sum 1).Spells (exprs.Choice choices.Max (name_expr 5 2) [] (bytes 0 4)) (row (word 1 ∷ sign marks.LeftParenthesis ∷ word 5 ∷ sign marks.RightParenthesis ∷ []))
unfolding sum
a_choice_of_one = atom_sum _ _ _ _ (placed_spells (the_other (the_other (the_other (the_other (then_spells (one_token (word 1) (byte 0) refl)
    (then_spells (a_mark marks.LeftParenthesis 1) (then_spells (name_sum _ _ 5 2) (then_spells no_more
    (then_spells (a_mark marks.RightParenthesis 3) nothing))))))))))
