use Rattle.std.specs.Prelude.{ℕ, List, [], ◌∷◌, Bool, codes, map}
use Rattle.std.specs.List.{list_any}
use Rattle.std.specs.Str.{bytes_eq}
use Rattle.ato_base.specs.declared.keywords.Keyword.{Keyword}
use Rattle.ato_base.specs.declared.keywords.Keyword.TheVariants as words
use Rattle.ato_base.specs.declared.keywords.Mark.{Mark}
use Rattle.ato_base.specs.declared.keywords.Mark.TheVariants as marks

-- how a keyword is written
abbrev pub keyword_text : Keyword → List ℕ
keyword_text words.Module = codes "module"
keyword_text words.Component = codes "component"
keyword_text words.Interface = codes "interface"
keyword_text words.From = codes "from"
keyword_text words.Import = codes "import"
keyword_text words.New = codes "new"
keyword_text words.Signal = codes "signal"
keyword_text words.Pin = codes "pin"
keyword_text words.Assert = codes "assert"
keyword_text words.Within = codes "within"
keyword_text words.Is = codes "is"
keyword_text words.To = codes "to"
keyword_text words.Pass = codes "pass"
keyword_text words.For = codes "for"
keyword_text words.In = codes "in"
keyword_text words.True = codes "True"
keyword_text words.False = codes "False"

-- how a mark is written
abbrev pub mark_text : Mark → List ℕ
mark_text marks.PlusMinus = codes "+/-"
mark_text marks.Arrow = codes "->"
mark_text marks.Power = codes "**"
mark_text marks.LessEqual = codes "<="
mark_text marks.GreaterEqual = codes ">="
mark_text marks.Less = codes "<"
mark_text marks.Greater = codes ">"
mark_text marks.Equal = codes "="
mark_text marks.Tilde = codes "~"
mark_text marks.Colon = codes ":"
mark_text marks.Semicolon = codes ";"
mark_text marks.Comma = codes ","
mark_text marks.Dot = codes "."
mark_text marks.LeftParenthesis = codes "("
mark_text marks.RightParenthesis = codes ")"
mark_text marks.LeftBracket = codes "["
mark_text marks.RightBracket = codes "]"
mark_text marks.Plus = codes "+"
mark_text marks.Minus = codes "-"
mark_text marks.Star = codes "*"
mark_text marks.Slash = codes "/"
mark_text marks.Bar = codes "|"
mark_text marks.Percent = codes "%"

-- the keywords
abbrev pub all_keywords : List Keyword
all_keywords = words.Module ∷ words.Component ∷ words.Interface ∷ words.From ∷ words.Import ∷ words.New ∷ words.Signal ∷ words.Pin ∷ words.Assert ∷ words.Within ∷ words.Is ∷ words.To ∷ words.Pass ∷ words.For ∷ words.In ∷ words.True ∷ words.False ∷ []

-- The text is a keyword.
abbrev pub is_keyword : List ℕ → Bool
is_keyword text = list_any (bytes_eq text) (map keyword_text all_keywords)
