-- The words from left to right, as they are read. Only clauses of private functions speak of this; WordLineLaws has
-- that it is the relation of Words.
use Rattle.std.specs.Prelude.{◌≡◌, ℕ, Bool, true, false, ◌||◌, if◌then◌else◌, List, [], ◌∷◌, ◌++◌, codes, fold, drop, Some, None, is_some, unwrap_or}
use Rattle.std.specs.Bool.{nat_eq}
use Rattle.std.specs.List.{starts_with}
use Rattle.std.specs.Str.{bytes_eq}
use Rattle.ato_words.specs.Words.{begins_with_dash, IsBuildOf, IsCheckOf, default_out}
use Rattle.ato_words.specs.declared.word_line.Turn.{Turn}
use Rattle.ato_words.specs.declared.word_line.Turn.TheVariants.{Any, Value, Positional, Refused}
use Rattle.ato_words.specs.declared.word_line.WordLine.{WordLine}
use Rattle.ato_words.specs.declared.words.Build.{Build}
use Rattle.ato_words.specs.declared.words.Check.{Check}
use Rattle.ato_words.specs.declared.words.Task.{Task}
use Rattle.ato_words.specs.declared.words.Task.TheVariants as tasks

-- before the first word
abbrev pub no_words : WordLine
no_words = record { turn = Any; positional = []; out = None }

-- the same words, with another turn for the next one
abbrev pub turned : WordLine → Turn → WordLine
turned line turn = record { turn = turn; positional = line.positional; out = line.out }

-- after a positional word, which begins with no dash
abbrev pub with_word : WordLine → List ℕ → WordLine
with_word line word = if begins_with_dash word then turned line Refused else record { turn = line.turn; positional = line.positional ++ word ∷ []; out = line.out }

-- after the value of `--out`, which begins with no dash and is given once
abbrev pub with_out : WordLine → List ℕ → WordLine
with_out line value = if begins_with_dash value || is_some line.out then turned line Refused else record { turn = Any; positional = line.positional; out = Some value }

-- after a word that may be an option
abbrev pub with_any : WordLine → List ℕ → WordLine
with_any line word =
    if bytes_eq word (codes "--") then turned line Positional
    else (if bytes_eq word (codes "--out") then turned line Value
    else (if starts_with nat_eq word (codes "--out=") then with_out line (drop 6 word) else with_word line word))

-- after a word, by its turn
abbrev pub by_turn : Turn → WordLine → List ℕ → WordLine
by_turn Any line word = with_any line word
by_turn Value line word = with_out line word
by_turn Positional line word = with_word line word
by_turn Refused line word = line

abbrev pub next_line : WordLine → List ℕ → WordLine
next_line line word = by_turn line.turn line word

-- the words, told apart from left to right
abbrev pub line_of : List (List ℕ) → WordLine
line_of words = fold next_line no_words words

-- No word was refused, and no option lacks its value.
abbrev pub is_read : Turn → Bool
is_read Any = true
is_read Value = false
is_read Positional = true
is_read Refused = false

-- The words that are read so are this build.
pub record IsBuildLine (line : WordLine) (build : Build) : Type 0 where
  pub read : is_read line.turn ≡ true
  pub of : IsBuildOf line.positional (unwrap_or line.out default_out) build

-- They are this check.
pub record IsCheckLine (line : WordLine) (check : Check) : Type 0 where
  pub read : is_read line.turn ≡ true
  pub no_option : line.out ≡ None
  pub of : IsCheckOf line.positional check

-- They are this task.
abbrev pub IsTaskLine : WordLine → Task → Type 0
IsTaskLine line (tasks.Build build) = IsBuildLine line build
IsTaskLine line (tasks.Check check) = IsCheckLine line check
