-- How the tokens of a file of the first form are read back, one after another.
use Rattle.std.specs.Prelude.{ℕ, ◌≤◌, List, [], ◌∷◌, ◌++◌, drop, length, fold, slice_range, Option, Some, None}
use Rattle.ato_base.specs.declared.places.Span.{Span}
use Rattle.ato_base.specs.declared.tokens.Token.{Token}
use Rattle.ato_base.specs.declared.tokens.TokenKind.{TokenKind}
use Rattle.ato_base.specs.declared.tokens.TokenKind.TheVariants as kinds
use Rattle.ato_base.specs.declared.keywords.Keyword.{Keyword}
use Rattle.ato_base.specs.declared.keywords.Keyword.TheVariants as words
use Rattle.ato_base.specs.declared.keywords.Mark.{Mark}
use Rattle.ato_base.specs.declared.keywords.Mark.TheVariants as marks
use Rattle.ato_first.specs.declared.first_form.Point.TheVariants as points
use Rattle.ato_first.specs.declared.first_form.End.{End}
use Rattle.ato_first.specs.declared.first_form.End.TheVariants as ends
use Rattle.ato_first.specs.declared.first_form.Line.{Line}
use Rattle.ato_first.specs.declared.first_form.Line.TheVariants as lines
use Rattle.ato_first.specs.declared.first_block.Opening.{Opening}
use Rattle.ato_first.specs.declared.first_block.Opening.TheVariants.{Bare, Signal, Pin, Limit}
use Rattle.ato_first.specs.declared.first_block.Reading.{Reading}

-- The place lies in the source.
pub record IsPlaceWithin (source : List ℕ) (at : Span) : Type 0 where
  pub order : at.start ≤ at.end
  pub within : at.end ≤ length source

-- The contents of a text in quotes lie in the source.
abbrev pub AreContentsWithin : List ℕ → TokenKind → Type 0
AreContentsWithin source (kinds.Str at) = IsPlaceWithin source at
AreContentsWithin source kind = Unit {0}

-- The token and what it holds lie in the source.
pub record IsPlaced (source : List ℕ) (t : Token) : Type 0 where
  pub place : IsPlaceWithin source t.at
  pub contents : AreContentsWithin source t.kind

-- what stands at a place
abbrev pub spelled_text : List ℕ → Span → List ℕ
spelled_text source at = slice_range source at.start at.end

-- between two lines, after these lines
abbrev pub between : List Line → Reading
between before = record { opening = Bare; left = None; right = None; lines = before }

-- the end that a text behind an opening is
abbrev pub end_of : Opening → List ℕ → End
end_of Bare text = ends.Name text
end_of Signal text = ends.Declared (points.Signal text)
end_of Pin text = ends.Declared (points.Pin text)
end_of Limit text = ends.Name text

-- the name or number that an end is
abbrev pub word_of : Option End → List ℕ
word_of None = []
word_of (Some (ends.Name text)) = text
word_of (Some (ends.Declared point)) = []

-- the lines after the declaration of an attribute
abbrev pub declared : Option End → List Line → List Line
declared None before = before
declared (Some (ends.Name name)) before = before ++ lines.Attribute name ∷ []
declared (Some (ends.Declared point)) before = before

-- the lines after one whose ends are these
abbrev pub closed : Option End → Option End → List Line → List Line
closed None None before = before
closed None (Some (ends.Name name)) before = before
closed None (Some (ends.Declared point)) before = before ++ lines.Declaration point ∷ []
closed (Some left) None before = before
closed (Some left) (Some right) before = before ++ lines.Join left right ∷ []

-- after a keyword
abbrev pub keyword_step : Reading → Keyword → Reading
keyword_step reading words.Pass = between (reading.lines ++ lines.Pass ∷ [])
keyword_step reading words.Signal = record { opening = Signal; left = reading.left; right = None; lines = reading.lines }
keyword_step reading words.Pin = record { opening = Pin; left = reading.left; right = None; lines = reading.lines }
keyword_step reading words.Within = record { opening = Bare; left = reading.right; right = None; lines = reading.lines }
keyword_step reading words.To = record { opening = Limit; left = reading.left; right = reading.right; lines = reading.lines }
keyword_step reading keyword = between reading.lines

-- after a mark
abbrev pub mark_step : Reading → Mark → Reading
mark_step reading marks.Tilde = record { opening = Bare; left = reading.right; right = None; lines = reading.lines }
mark_step reading marks.Colon = between (declared reading.right reading.lines)
mark_step reading mark = between reading.lines

-- after a name or a number, by its opening: behind `to` it is the last word of an assertion
abbrev pub opened_step : Opening → Reading → List ℕ → Reading
opened_step Limit reading text =
    between (reading.lines ++ lines.Assertion (record { name = word_of reading.left; low = word_of reading.right; high = text }) ∷ [])
opened_step opening reading text = record { opening = Bare; left = reading.left; right = Some (end_of opening text); lines = reading.lines }

abbrev pub text_step : Reading → List ℕ → Reading
text_step reading text = opened_step reading.opening reading text

-- after a token
abbrev pub kind_step : List ℕ → Reading → TokenKind → Span → Reading
kind_step source reading (kinds.Keyword keyword) at = keyword_step reading keyword
kind_step source reading (kinds.Mark mark) at = mark_step reading mark
kind_step source reading (kinds.Name name) at = text_step reading (spelled_text source at)
kind_step source reading (kinds.Number whole small place) at = text_step reading (spelled_text source at)
kind_step source reading (kinds.Str contents) at = between (reading.lines ++ lines.Kind (spelled_text source contents) ∷ [])
kind_step source reading kinds.Newline at = between (closed reading.left reading.right reading.lines)
kind_step source reading kind at = between reading.lines

-- the tokens behind those of the first line and of the indentation
abbrev pub body_tokens : List Token → List Token
body_tokens tokens = drop 5 tokens

-- after tokens
abbrev pub tokens_read : List ℕ → Reading → List Token → Reading
tokens_read source reading tokens = fold (λ r token. kind_step source r token.kind token.at) reading tokens
