-- Names, strings, paths and literals.
use Rattle.std.proofs.Common.{Bool, false, [], ◌∷◌, refl}
use Rattle.ato_base.specs.declared.keywords.Keyword.TheVariants as keywords
use Rattle.ato_base.specs.declared.keywords.Mark.TheVariants as marks
use Rattle.ato_ast.specs.declared.exprs.Literal.TheVariants as literals
use Rattle.ato_parser.specs.Kinds.{same_mark, same_keyword, is_mark, is_keyword, name_of, number_of, integer_of, text_of, unit_of}
use Rattle.ato_parser.specs.TokenPieces as T
use Rattle.ato_parser.specs.Expressions as E
use Rattle.ato_parser.specs.Reading.{has, is_name, name, text, path, measured, quantity, tolerance, literal}
use Rattle.ato_parser.proofs.Classes.{Classes, a_name, an_integer, a_decimal, a_text, a_keyword, a_mark}
use Rattle.ato_parser.proofs.ClassLaws.{tests_within, name_tests, number_tests, integer_tests, text_tests, unit_tests, mark_tests, keyword_tests}
use Rattle.ato_parser.proofs.OneLaws.{one_lawful, mark_lawful, keyword_lawful, pure_lawful}
use Rattle.ato_parser.proofs.ThenLaws.{then_lawful, map_lawful, widen, second_lawful}
use Rattle.ato_parser.proofs.OrLaws.{or_lawful}
use Rattle.ato_parser.proofs.PlacedLaws.{placed_lawful, optional_lawful, flag_lawful}
use Rattle.ato_parser.proofs.EndedLaws.{ended_lawful}
use Rattle.ato_parser.proofs.Lawful.{Lawful}

-- ---- names, strings, paths

pub name_lawful : Lawful T.name name (a_name ∷ []) [] false
unfolding name
name_lawful = map_lawful T.named_at (one_lawful name_of (a_name ∷ []) (tests_within name_of (a_name ∷ []) name_tests) refl)

pub text_lawful : Lawful T.text text (a_text ∷ []) [] false
unfolding text
text_lawful = map_lawful (λ s. record { contents = s.0; at = s.1 }) (one_lawful text_of (a_text ∷ []) (tests_within text_of (a_text ∷ []) text_tests) refl)

pub path_lawful : Lawful E.path path (a_name ∷ []) (a_mark marks.Dot ∷ []) false
unfolding path
path_lawful =
    placed_lawful
    (then_lawful name_lawful
    (λ first. map_lawful (E.path_of first)
    (ended_lawful marks.Dot is_name (a_name ∷ []) name_tests name_lawful
    (one_lawful integer_of (an_integer ∷ []) (tests_within integer_of (an_integer ∷ []) integer_tests) refl) refl refl refl)) refl)

-- ---- literals

abbrev pub number_starts : Classes
number_starts = an_integer ∷ a_decimal ∷ []

abbrev pub unit_starts : Classes
unit_starts = a_name ∷ a_mark marks.Percent ∷ []

abbrev pub literal_starts : Classes
literal_starts = an_integer ∷ a_decimal ∷ a_mark marks.Minus ∷ []

-- a unit, or what stands between two quantities
abbrev pub literal_more : Classes
literal_more = a_name ∷ a_mark marks.Percent ∷ a_keyword keywords.To ∷ a_mark marks.PlusMinus ∷ []

pub measured_lawful : (minus : Bool) → Lawful (E.measured minus) (measured minus) number_starts unit_starts false
unfolding measured same_mark
measured_lawful minus =
    then_lawful (one_lawful number_of number_starts (tests_within number_of number_starts number_tests) refl)
    (λ n. map_lawful (E.part_of minus n)
    (optional_lawful (has unit_of) unit_starts unit_tests (one_lawful unit_of unit_starts (tests_within unit_of unit_starts unit_tests) refl) refl)) refl

pub quantity_lawful : Lawful E.quantity quantity literal_starts unit_starts false
unfolding quantity same_mark
quantity_lawful =
    placed_lawful
    (then_lawful (flag_lawful (is_mark marks.Minus) (a_mark marks.Minus ∷ []) (mark_tests marks.Minus) (mark_lawful marks.Minus) refl) measured_lawful refl)

pub tolerance_lawful : Lawful E.tolerance tolerance number_starts unit_starts false
unfolding tolerance
tolerance_lawful = placed_lawful (measured_lawful false)

pub literal_lawful : Lawful E.literal literal literal_starts literal_more false
unfolding literal same_mark same_keyword
literal_lawful =
    widen
    (then_lawful quantity_lawful
    (λ a. or_lawful (is_keyword keywords.To) (a_keyword keywords.To ∷ []) (keyword_tests keywords.To)
    (second_lawful (literals.To a) (keyword_lawful keywords.To) quantity_lawful refl)
    (or_lawful (is_mark marks.PlusMinus) (a_mark marks.PlusMinus ∷ []) (mark_tests marks.PlusMinus)
    (second_lawful (literals.About a) (mark_lawful marks.PlusMinus) tolerance_lawful refl)
    (pure_lawful (literals.One a)) refl refl) refl refl) refl)
    literal_starts literal_more refl refl
