-- How far comments, strings and marks at the front of a text reach. A text is a list of characters, and lengths count them.
use Rattle.std.specs.Prelude.{ℕ, suc, ◌==◌, nat_eq, Bool, if◌then◌else◌, List, [], ◌∷◌, Option, Some, None, option_map}
use Rattle.std.specs.List.{position_or_len, starts_with, find}
use Rattle.ato_base.specs.Keywords.{mark_text}
use Rattle.ato_base.specs.declared.keywords.Mark.{Mark}
use Rattle.ato_base.specs.declared.keywords.Mark.TheVariants as marks

-- a text begins with another
abbrev pub begins : List ℕ → List ℕ → Bool
begins front text = starts_with nat_eq text front

-- three of this quote
abbrev pub three : ℕ → List ℕ
three q = q ∷ q ∷ q ∷ []

-- what a comment has behind its `#`: all before the next LF. It takes the CR of a CR LF with it: no token has a place there
abbrev pub comment_len : List ℕ → ℕ
comment_len text = position_or_len (λ c. c == 10) text

-- what stands before the next of this quote; none where a line ends before it
abbrev pub before_quote : ℕ → List ℕ → Option ℕ
before_quote q [] = None
before_quote q (c ∷ cs) = if c == q then Some 0 else (if c == 10 then None else option_map suc (before_quote q cs))

-- what stands before the next three of this quote
abbrev pub before_three : ℕ → List ℕ → Option ℕ
before_three q [] = None
before_three q (c ∷ cs) = if begins (three q) (c ∷ cs) then Some 0 else option_map suc (before_three q cs)

-- a mark, and how it is written
pub record Written : Type 0 where
  pub mark : Mark
  pub text : List ℕ

-- a mark as it is written in bytes
abbrev pub written : Mark → Written
written mark = record { mark = mark; text = mark_text mark }

-- the spellings of the marks, the longer ones first. U+00B1 is the plus-minus sign
abbrev pub all_marks : List Written
all_marks =
    written marks.PlusMinus ∷ written marks.Arrow ∷ written marks.Power ∷ written marks.LessEqual ∷ written marks.GreaterEqual ∷ record { mark = marks.PlusMinus; text = 0xB1 ∷ [] }
    ∷ written marks.Less ∷ written marks.Greater ∷ written marks.Equal ∷ written marks.Tilde ∷ written marks.Colon ∷ written marks.Semicolon ∷ written marks.Comma ∷ written marks.Dot
    ∷ written marks.LeftParenthesis ∷ written marks.RightParenthesis ∷ written marks.LeftBracket ∷ written marks.RightBracket
    ∷ written marks.Plus ∷ written marks.Minus ∷ written marks.Star ∷ written marks.Slash ∷ written marks.Bar ∷ written marks.Percent ∷ []

-- the longest mark in front
abbrev pub front_mark : List ℕ → Option Written
front_mark text = find (λ w. begins w.text text) all_marks
