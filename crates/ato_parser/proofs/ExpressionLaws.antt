-- Powers, products and sums.
use Rattle.std.proofs.Common.{ℕ, zero, suc, false, [], ◌∷◌, refl}
use Rattle.ato_base.specs.declared.keywords.Mark.TheVariants as marks
use Rattle.ato_ast.specs.declared.exprs.Expr.{Expr}
use Rattle.ato_ast.specs.declared.exprs.Scale.{Scale}
use Rattle.ato_ast.specs.declared.exprs.Sign.{Sign}
use Rattle.ato_base.specs.declared.places.Span.{Span}
use Rattle.ato_parser.specs.Kinds.{same_mark, same_keyword, is_mark, exponent_of, scale_of, sign_of}
use Rattle.ato_parser.specs.Pieces.{Piece}
use Rattle.ato_parser.specs.Expressions as E
use Rattle.ato_parser.specs.Input.{Reader}
use Rattle.ato_parser.specs.Reading.{has, power, product, sum_over, sum}
use Rattle.ato_parser.proofs.Classes.{Classes, an_integer, a_mark}
use Rattle.ato_parser.proofs.ClassLaws.{tests_within, mark_tests, exponent_within, scale_tests, sign_tests}
use Rattle.ato_parser.proofs.OneLaws.{one_lawful, never_lawful, deep_lawful, mark_lawful}
use Rattle.ato_parser.proofs.ThenLaws.{then_lawful, map_lawful, widen}
use Rattle.ato_parser.proofs.ManyLaws.{many_lawful}
use Rattle.ato_parser.proofs.PlacedLaws.{placed_lawful, optional_lawful}
pub use Rattle.ato_parser.proofs.AtomLaws.{sum_starts, power_more, product_more, sum_more}
use Rattle.ato_parser.proofs.AtomLaws.{opening_starts, atom_lawful}
use Rattle.ato_parser.proofs.Lawful.{Lawful}

abbrev pub scale_starts : Classes
scale_starts = a_mark marks.Star ∷ a_mark marks.Slash ∷ []

abbrev pub sign_starts : Classes
sign_starts = a_mark marks.Plus ∷ a_mark marks.Minus ∷ []

module _ {o : Piece (Unit × Span)} {x : Piece Expr} {ro : Reader (Unit × Span)} {rx : Reader Expr}
    (opening : Lawful o ro opening_starts [] false) (inner : Lawful x rx sum_starts sum_more false) where
  pub power_lawful : Lawful (E.power o x) (power ro rx) sum_starts power_more false
  unfolding power same_mark same_keyword
  power_lawful =
      widen
      (placed_lawful
      (then_lawful (atom_lawful opening inner)
      (λ base. map_lawful (E.power_of base)
      (optional_lawful (is_mark marks.Power) (a_mark marks.Power ∷ []) (mark_tests marks.Power)
      (then_lawful (mark_lawful marks.Power) (λ _. one_lawful exponent_of (an_integer ∷ []) exponent_within refl) refl) refl)) refl))
      sum_starts power_more refl refl

  pub product_lawful : Lawful (E.product o x) (product ro rx) sum_starts product_more false
  unfolding product same_mark same_keyword
  product_lawful =
      widen
      (placed_lawful
      (then_lawful power_lawful
      (λ first. map_lawful (E.product_of first)
      (many_lawful (has scale_of) scale_starts scale_tests
      (then_lawful (one_lawful scale_of scale_starts (tests_within scale_of scale_starts scale_tests) refl)
      (λ s. map_lawful {B = Scale × Expr} (λ y. (s.0, y)) power_lawful) refl) refl refl)) refl))
      sum_starts product_more refl refl

  pub sum_over_lawful : Lawful (E.sum_over o x) (sum_over ro rx) sum_starts sum_more false
  unfolding sum_over same_mark same_keyword
  sum_over_lawful =
      widen
      (placed_lawful
      (then_lawful product_lawful
      (λ first. map_lawful (E.sum_of first)
      (many_lawful (has sign_of) sign_starts sign_tests
      (then_lawful (one_lawful sign_of sign_starts (tests_within sign_of sign_starts sign_tests) refl)
      (λ s. map_lawful {B = Sign × Expr} (λ y. (s.0, y)) product_lawful) refl) refl refl)) refl))
      sum_starts sum_more refl refl

pub sum_lawful : (depth : ℕ) → Lawful (E.sum depth) (sum depth) sum_starts sum_more false
unfolding E.sum sum same_mark
sum_lawful zero = sum_over_lawful deep_lawful (widen (never_lawful sum_starts) sum_starts sum_more refl refl)
sum_lawful (suc depth) = sum_over_lawful (mark_lawful marks.LeftParenthesis) (sum_lawful depth)
