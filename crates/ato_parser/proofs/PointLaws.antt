-- Labels, points and the ends of connections are read.
use Rattle.std.proofs.Common.{false, [], ◌∷◌, ◌++◌, refl}
use Rattle.ato_base.specs.declared.keywords.Keyword.TheVariants as keywords
use Rattle.ato_base.specs.declared.keywords.Mark.TheVariants as marks
use Rattle.ato_ast.specs.declared.paths.Label.TheVariants as labels
use Rattle.ato_ast.specs.declared.paths.Point.TheVariants as points
use Rattle.ato_ast.specs.declared.stmts.End.TheVariants as ends
use Rattle.ato_parser.specs.Kinds.{same_keyword, is_keyword, integer_of, text_of}
use Rattle.ato_parser.specs.Statements as S
use Rattle.ato_parser.specs.Reading.{has, is_name, starts_point}
use Rattle.ato_parser.specs.Reading as R
use Rattle.ato_parser.proofs.Classes.{Classes, a_name, an_integer, a_text, a_keyword, a_mark, Tests}
use Rattle.ato_parser.proofs.Lawful.{Lawful}
use Rattle.ato_parser.proofs.ClassLaws.{name_tests, text_tests, keyword_tests, integer_tests, tests_within, or_tests}
use Rattle.ato_parser.proofs.OneLaws.{one_lawful, keyword_lawful}
use Rattle.ato_parser.proofs.ThenLaws.{then_lawful, map_lawful}
use Rattle.ato_parser.proofs.OrLaws.{or_lawful}
use Rattle.ato_parser.proofs.SameLaws.{same_sym, lawful_same}
use Rattle.ato_parser.proofs.HeadSame.{label_same, point_same}
use Rattle.ato_parser.proofs.PlacedLaws.{placed_lawful}
use Rattle.ato_parser.proofs.LiteralLaws.{name_lawful, text_lawful, path_lawful}

abbrev pub label_starts : Classes
label_starts = a_name ∷ a_text ∷ an_integer ∷ []

pub label_lawful : Lawful S.label R.label label_starts [] false
unfolding R.label
label_lawful = lawful_same (same_sym label_same)
    (or_lawful is_name (a_name ∷ []) name_tests (map_lawful labels.Name name_lawful)
    (or_lawful (has text_of) (a_text ∷ []) text_tests (map_lawful labels.Text text_lawful)
    (map_lawful (λ n. labels.Number n.0 n.1) (one_lawful integer_of (an_integer ∷ []) (tests_within integer_of (an_integer ∷ []) integer_tests) refl)) refl refl) refl refl)

abbrev pub point_starts : Classes
point_starts = a_keyword keywords.Signal ∷ a_keyword keywords.Pin ∷ []

pub starts_point_tests : Tests starts_point point_starts
starts_point_tests = or_tests (is_keyword keywords.Signal) (is_keyword keywords.Pin) (a_keyword keywords.Signal ∷ []) (a_keyword keywords.Pin ∷ []) (keyword_tests keywords.Signal) (keyword_tests keywords.Pin)

pub point_lawful : Lawful S.point R.point point_starts [] false
unfolding R.point same_keyword
point_lawful = lawful_same (same_sym point_same) (placed_lawful
    (or_lawful (is_keyword keywords.Signal) (a_keyword keywords.Signal ∷ []) (keyword_tests keywords.Signal)
    (map_lawful (λ n. points.Signal n) (then_lawful (keyword_lawful keywords.Signal) (λ _. name_lawful) refl))
    (map_lawful (λ l. points.Pin l) (then_lawful (keyword_lawful keywords.Pin) (λ _. label_lawful) refl)) refl refl))

abbrev pub connected_starts : Classes
connected_starts = point_starts ++ a_name ∷ []

abbrev pub connected_more : Classes
connected_more = a_mark marks.Dot ∷ []

pub connected_lawful : Lawful S.connected R.connected connected_starts connected_more false
unfolding R.connected same_keyword
connected_lawful = or_lawful starts_point point_starts starts_point_tests (map_lawful ends.Point point_lawful) (map_lawful ends.Path path_lawful) refl refl
