-- Tokens, paths, literals and expressions: their fronts begin and go on.
use Rattle.std.proofs.Common.{◌≡◌, Bool, true, false, [], Some, None, refl, ap, if◌then◌else◌}
use denote.Enum.Bare.{true_same}
use Rattle.ato_base.specs.contracts.keywords.Mark.{the_type as mark_type}
use Rattle.ato_base.specs.contracts.keywords.Keyword.{the_type as keyword_type}
use Rattle.ato_base.specs.declared.places.Span.{Span}
use Rattle.ato_base.specs.declared.keywords.Keyword.{Keyword}
use Rattle.ato_base.specs.declared.keywords.Keyword.TheVariants as keywords
use Rattle.ato_base.specs.declared.keywords.Mark.{Mark}
use Rattle.ato_base.specs.declared.keywords.Mark.TheVariants as marks
use Rattle.ato_base.specs.declared.tokens.TokenKind.{TokenKind}
use Rattle.ato_base.specs.declared.tokens.TokenKind.TheVariants as kinds
use Rattle.ato_ast.specs.declared.exprs.Expr.{Expr}
use Rattle.ato_ast.specs.declared.exprs.Expr.TheVariants as exprs
use Rattle.ato_ast.specs.declared.exprs.Literal.TheVariants as literals
use Rattle.ato_parser.specs.Tokens.{extent}
use Rattle.ato_parser.specs.Kinds.{same_mark, same_keyword, is_mark, is_keyword, just, named, name_of, number_of, integer_of, exponent_of, text_of, sign_of, scale_of, unit_of, abs_of, choice_of}
use Rattle.ato_parser.specs.Pieces.{Piece, pure, one, ◌>>=◌}
use Rattle.ato_parser.specs.TokenPieces.{of_kind, mark, keyword, name, text, named_at}
use Rattle.ato_parser.specs.Expressions.{path, path_of, measured, part_of, quantity, tolerance, literal, group, absolute, chosen, atom, power, power_of, product, product_of, sum_over, sum_of}
use Rattle.ato_parser.proofs.Natural.{Natural, pure_natural, one_natural, then_natural, or_natural, many_natural, placed_natural, optional_natural, flag_natural, ended_natural}

-- ---- single tokens

pub kind_natural : (test : TokenKind → Bool) (kind : TokenKind) → just test kind ≡ Some tt → Natural (of_kind test)
kind_natural test kind e = one_natural (just test) kind tt e

mark_is : (m : Mark) → just (is_mark m) (kinds.Mark m) ≡ Some tt
unfolding same_mark
mark_is m = ap (λ b. if b then Some (tt {0}) else None) (true_same mark_type m m refl)

keyword_is : (w : Keyword) → just (is_keyword w) (kinds.Keyword w) ≡ Some tt
unfolding same_keyword
keyword_is w = ap (λ b. if b then Some (tt {0}) else None) (true_same keyword_type w w refl)

pub mark_natural : (m : Mark) → Natural (mark m)
mark_natural m = kind_natural (is_mark m) (kinds.Mark m) (mark_is m)

pub keyword_natural : (w : Keyword) → Natural (keyword w)
keyword_natural w = kind_natural (is_keyword w) (kinds.Keyword w) (keyword_is w)

nowhere : Span
nowhere = extent []

pub name_natural : Natural name
name_natural = then_natural _ _ (one_natural name_of (kinds.Name (record { 0 = 0 })) _ refl) (λ n. pure_natural (named_at n))

pub text_natural : Natural text
text_natural = then_natural _ _ (one_natural text_of (kinds.Str nowhere) _ refl) (λ s. pure_natural (record { contents = s.0; at = s.1 }))

pub integer_natural : Natural (one integer_of)
integer_natural = one_natural integer_of (kinds.Number true None nowhere) _ refl

number_natural : Natural (one number_of)
number_natural = one_natural number_of (kinds.Number true None nowhere) _ refl

exponent_natural : Natural (one exponent_of)
exponent_natural = one_natural exponent_of (kinds.Number true (Some 1) nowhere) _ refl

unit_natural : Natural (one unit_of)
unit_natural = one_natural unit_of (kinds.Mark marks.Percent) _ refl

scale_natural : Natural (one scale_of)
scale_natural = one_natural scale_of (kinds.Mark marks.Star) _ refl

sign_natural : Natural (one sign_of)
sign_natural = one_natural sign_of (kinds.Mark marks.Plus) _ refl

abs_natural : Natural (one (named abs_of))
abs_natural = one_natural (named abs_of) (kinds.Name (record { 0 = 0 })) _ refl

choice_natural : Natural (one (named choice_of))
choice_natural = one_natural (named choice_of) (kinds.Name (record { 0 = 1 })) _ refl

-- ---- paths and literals

pub path_natural : Natural path
path_natural = placed_natural _ (then_natural _ _ name_natural
    (λ first. then_natural _ _ (ended_natural _ _ _ (mark_natural marks.Dot) name_natural integer_natural)
    (λ rest. pure_natural (path_of first rest))))

measured_natural : (minus : Bool) → Natural (measured minus)
measured_natural minus = then_natural _ _ number_natural
    (λ n. then_natural _ _ (optional_natural _ unit_natural)
    (λ u. pure_natural (part_of minus n u)))

quantity_natural : Natural quantity
quantity_natural = placed_natural _ (then_natural _ _ (flag_natural _ (mark_natural marks.Minus)) measured_natural)

tolerance_natural : Natural tolerance
tolerance_natural = placed_natural _ (measured_natural false)

pub literal_natural : Natural literal
literal_natural = then_natural _ _ quantity_natural (λ a.
    or_natural _ _ (then_natural _ _ (keyword_natural keywords.To) (λ k. then_natural _ _ quantity_natural (λ b. pure_natural (literals.To a b))))
    (or_natural _ _ (then_natural _ _ (mark_natural marks.PlusMinus) (λ k. then_natural _ _ tolerance_natural (λ b. pure_natural (literals.About a b))))
    (pure_natural (literals.One a))))

-- ---- expressions of one level

pub path_atom_natural : Natural {A = Span → Expr} (path >>= λ p. pure (λ (at : Span). exprs.Path p))
path_atom_natural = then_natural _ _ path_natural (λ p. pure_natural (λ (at : Span). exprs.Path p))

pub literal_atom_natural : Natural {A = Span → Expr} (literal >>= λ l. pure (exprs.Literal l))
literal_atom_natural = then_natural _ _ literal_natural (λ l. pure_natural (exprs.Literal l))

module _ (opening : Piece (Unit × Span)) (inner : Piece Expr) (on : Natural opening) (inn : Natural inner) where
  group_natural : Natural (group opening inner)
  group_natural = then_natural _ _ on (λ o. then_natural _ _ inn (λ x. then_natural _ _ (mark_natural marks.RightParenthesis) (λ c. pure_natural (exprs.Group x))))

  absolute_natural : Natural (absolute opening inner)
  absolute_natural = then_natural _ _ abs_natural (λ n. then_natural _ _ on (λ o. then_natural _ _ inn
      (λ x. then_natural _ _ (mark_natural marks.RightParenthesis) (λ c. pure_natural (exprs.Abs x)))))

  chosen_natural : Natural (chosen opening inner)
  chosen_natural = then_natural _ _ choice_natural (λ which. then_natural _ _ on (λ o. then_natural _ _ inn
      (λ first. then_natural _ _ (many_natural _ (then_natural _ _ (mark_natural marks.Comma) (λ c. inn)))
      (λ more. then_natural _ _ (mark_natural marks.RightParenthesis) (λ c. pure_natural (exprs.Choice which.0 first more))))))

  pub atom_natural : Natural (atom opening inner)
  atom_natural = placed_natural _ (or_natural _ _ path_atom_natural (or_natural _ _ literal_atom_natural
      (or_natural _ _ group_natural (or_natural _ _ absolute_natural chosen_natural))))

module _ (opening : Piece (Unit × Span)) (inner : Piece Expr) (an : Natural (atom opening inner)) where
  power_natural : Natural (power opening inner)
  power_natural = placed_natural _ (then_natural _ _ an
      (λ base. then_natural _ _ (optional_natural _ (then_natural _ _ (mark_natural marks.Power) (λ m. exponent_natural)))
      (λ exponent. pure_natural (power_of base exponent))))

  product_natural : Natural (product opening inner)
  product_natural = placed_natural _ (then_natural _ _ power_natural
      (λ first. then_natural _ _ (many_natural _ (then_natural _ _ scale_natural (λ s. then_natural _ _ power_natural (λ x. pure_natural (s.0, x)))))
      (λ more. pure_natural (product_of first more))))

  pub sum_over_natural : Natural (sum_over opening inner)
  sum_over_natural = placed_natural _ (then_natural _ _ product_natural
      (λ first. then_natural _ _ (many_natural _ (then_natural _ _ sign_natural (λ s. then_natural _ _ product_natural (λ x. pure_natural (s.0, x)))))
      (λ more. pure_natural (sum_of first more))))
