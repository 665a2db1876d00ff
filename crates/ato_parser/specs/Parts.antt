-- Parts of readers that functions of their own read.
use Rattle.std.specs.Prelude.{Bool, List, [], ◌∷◌, Option, is_some}
use Rattle.ato_base.specs.declared.keywords.Keyword.TheVariants as keywords
use Rattle.ato_base.specs.declared.keywords.Mark.{Mark}
use Rattle.ato_base.specs.declared.keywords.Mark.TheVariants as marks
use Rattle.ato_base.specs.declared.tokens.TokenKind.{TokenKind}
use Rattle.ato_ast.specs.declared.names.Named.{Named}
use Rattle.ato_parser.specs.Kinds.{is_mark, is_keyword}
use Rattle.ato_parser.specs.Input.{Reader, ◌>>=◌, ◌>>◌, pure, many, ended, mark, keyword, optional}
use Rattle.ato_parser.specs.Reading.{name}

-- maybe what stands behind a mark
abbrev pub maybe_behind : {A : Type 0} → Mark → Reader A → Reader (Option A)
maybe_behind m r = optional (is_mark m) (mark m >> r)

-- maybe a name behind `from`
abbrev pub maybe_from : Reader (Option Named)
maybe_from = optional (is_keyword keywords.From) (keyword keywords.From >> name)

-- a list of one value
abbrev pub alone : {A : Type 0} → Reader A → Reader (List A)
alone r = r >>= λ a. pure (a ∷ [])

-- a first value, and those that are read behind it
abbrev pub more_of : {A : Type 0} → (TokenKind → Bool) → Reader A → A → Reader (List A)
more_of test r first = many test r >>= λ more. pure (first ∷ more)

-- a first value, and those that are read behind it, each behind a mark
abbrev pub more_behind : {A : Type 0} → Mark → Reader A → A → Reader (List A)
more_behind m r = more_of (is_mark m) (mark m >> r)

-- the first part of a line and those behind it, and whether a semicolon stands at the end
abbrev pub parts_of : {A : Type 0} → (TokenKind → Bool) → Reader A → A → Reader (List A × Bool)
parts_of starts part first = ended marks.Semicolon starts part (pure (tt {0})) >>= λ rest. pure (first ∷ rest.0, is_some rest.1)
