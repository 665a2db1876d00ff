-- Lines and heads are read.
use Rattle.std.proofs.Common.{◌≡◌, Bool, true, false, [], ◌∷◌, ◌++◌, is_some, refl}
use Rattle.ato_base.specs.declared.keywords.Keyword.TheVariants as keywords
use Rattle.ato_base.specs.declared.keywords.Mark.TheVariants as marks
use Rattle.ato_base.specs.declared.tokens.TokenKind.{TokenKind}
use Rattle.ato_ast.specs.declared.blocks.Head.TheVariants as heads
use Rattle.ato_parser.specs.Kinds.{same_mark, same_keyword, is_mark, is_keyword, is_newline, text_of}
use Rattle.ato_parser.specs.Pieces.{Piece}
use Rattle.ato_parser.specs.Files as F
use Rattle.ato_parser.specs.Input.{Reader}
use Rattle.ato_parser.specs.Reading.{has}
use Rattle.ato_parser.specs.FileReading.{starts_head}
use Rattle.ato_parser.specs.FileReading as R
use Rattle.ato_parser.proofs.Classes.{Classes, a_name, a_text, a_newline, a_keyword, a_mark, apart, within, Tests}
use Rattle.ato_parser.proofs.Lawful.{Lawful}
use Rattle.ato_parser.proofs.ClassLaws.{text_tests, keyword_tests, mark_tests, newline_tests, or_tests}
use Rattle.ato_parser.proofs.OneLaws.{pure_lawful, mark_lawful, keyword_lawful, of_kind_lawful}
use Rattle.ato_parser.proofs.ThenLaws.{then_lawful, map_lawful}
use Rattle.ato_parser.proofs.OrLaws.{or_lawful}
use Rattle.ato_parser.proofs.SameLaws.{same_sym, lawful_same}
use Rattle.ato_parser.proofs.HeadSame.{more_names, imported, head_same}
use Rattle.ato_parser.proofs.EndedLaws.{ended_lawful}
use Rattle.ato_parser.proofs.ManyLaws.{many_lawful}
use Rattle.ato_parser.proofs.PlacedLaws.{placed_lawful}
use Rattle.ato_parser.proofs.LiteralLaws.{name_lawful, text_lawful}

-- ---- lines

-- what stands behind a part
abbrev pub line_goes_on : Classes
line_goes_on = a_mark marks.Semicolon ∷ a_newline ∷ []

pub line_lawful : {A : Type 0} {part : Piece A} {reader : Reader A} {s m : Classes} (starts : TokenKind → Bool) (cs : Classes) → Tests starts cs → Lawful part reader s m false
    → within s cs ≡ true → apart (a_mark marks.Semicolon ∷ []) m ≡ true → apart (a_newline ∷ []) (a_mark marks.Semicolon ∷ (m ++ (cs ++ []))) ≡ true → apart (a_newline ∷ a_mark marks.Semicolon ∷ []) m ≡ true
    → Lawful (F.line part) (R.line starts reader) s [] false
unfolding R.line
line_lawful starts cs tests law inside separates ends goes_on =
    then_lawful law (λ first. then_lawful (ended_lawful marks.Semicolon starts cs tests law (pure_lawful (tt {0})) inside refl separates)
    (λ rest. map_lawful (λ _. record { parts = first ∷ rest.0; tail = is_some rest.1 }) (of_kind_lawful is_newline (a_newline ∷ []) newline_tests refl)) ends) goes_on

-- ---- heads

pub more_names_lawful : Lawful more_names R.more_names (a_mark marks.Comma ∷ []) (a_mark marks.Comma ∷ []) true
unfolding R.more_names same_mark
more_names_lawful = many_lawful (is_mark marks.Comma) (a_mark marks.Comma ∷ []) (mark_tests marks.Comma) (then_lawful (mark_lawful marks.Comma) (λ _. name_lawful) refl) refl refl

pub names_lawful : Lawful F.names R.names (a_name ∷ []) (a_mark marks.Comma ∷ []) false
unfolding R.names
names_lawful = then_lawful name_lawful (λ first. map_lawful (λ more. first ∷ more) more_names_lawful) refl

abbrev pub head_more : Classes
head_more = a_keyword keywords.From ∷ a_mark marks.Comma ∷ []

pub imported_lawful : Lawful imported R.imported (a_keyword keywords.Import ∷ []) head_more false
unfolding R.imported same_mark same_keyword
imported_lawful = then_lawful (keyword_lawful keywords.Import) (λ _. then_lawful name_lawful (λ n.
    or_lawful (is_keyword keywords.From) (a_keyword keywords.From ∷ []) (keyword_tests keywords.From)
    (map_lawful (λ s. heads.ImportFrom n s) (then_lawful (keyword_lawful keywords.From) (λ _. text_lawful) refl))
    (map_lawful (λ more. heads.Import (n ∷ more)) more_names_lawful) refl refl) refl) refl

pub from_file_lawful : Lawful F.from_file R.from_file (a_keyword keywords.From ∷ []) (a_mark marks.Comma ∷ []) false
unfolding R.from_file
from_file_lawful = then_lawful (keyword_lawful keywords.From) (λ _. then_lawful text_lawful (λ s. then_lawful (keyword_lawful keywords.Import) (λ _. map_lawful (λ ns. heads.From s ns) names_lawful) refl) refl) refl

abbrev pub head_starts : Classes
head_starts = a_keyword keywords.Import ∷ a_keyword keywords.From ∷ a_text ∷ a_keyword keywords.Pass ∷ []

pub starts_head_tests : Tests starts_head head_starts
starts_head_tests =
    let docs = or_tests (has text_of) (is_keyword keywords.Pass) (a_text ∷ []) (a_keyword keywords.Pass ∷ []) text_tests (keyword_tests keywords.Pass) in
    let from = or_tests (is_keyword keywords.From) _ (a_keyword keywords.From ∷ []) (a_text ∷ a_keyword keywords.Pass ∷ []) (keyword_tests keywords.From) docs in
    or_tests (is_keyword keywords.Import) _ (a_keyword keywords.Import ∷ []) (a_keyword keywords.From ∷ a_text ∷ a_keyword keywords.Pass ∷ []) (keyword_tests keywords.Import) from

pub head_lawful : Lawful F.head R.head head_starts (a_keyword keywords.From ∷ a_mark marks.Comma ∷ a_mark marks.Comma ∷ []) false
unfolding R.head same_mark same_keyword
head_lawful = lawful_same (same_sym head_same) (placed_lawful
    (or_lawful (is_keyword keywords.Import) (a_keyword keywords.Import ∷ []) (keyword_tests keywords.Import) imported_lawful
    (or_lawful (is_keyword keywords.From) (a_keyword keywords.From ∷ []) (keyword_tests keywords.From) from_file_lawful
    (or_lawful (has text_of) (a_text ∷ []) text_tests (map_lawful (λ s at. heads.Docs s) text_lawful)
    (map_lawful (λ _. heads.Pass) (keyword_lawful keywords.Pass)) refl refl) refl refl) refl refl))

-- a line of heads
pub head_line_lawful : Lawful (F.line F.head) (R.line starts_head R.head) head_starts [] false
unfolding same_mark same_keyword
head_line_lawful = line_lawful starts_head head_starts starts_head_tests head_lawful refl refl refl refl
