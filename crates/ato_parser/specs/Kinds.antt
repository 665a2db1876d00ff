-- What the kind of a token is good for.
use Rattle.std.specs.Prelude.{ℕ, ◌&&◌, nat_le, nat_eq, Bool, true, false, if◌then◌else◌, Option, Some, None}
use denote.Enum.Bare.{sameb}
use Rattle.ato_base.specs.contracts.keywords.Mark.{the_type as mark_type}
use Rattle.ato_base.specs.contracts.keywords.Keyword.{the_type as keyword_type}
use Rattle.ato_base.specs.declared.name_table.Name.{Name}
use Rattle.ato_base.specs.declared.places.Span.{Span}
use Rattle.ato_base.specs.declared.keywords.Keyword.{Keyword}
use Rattle.ato_base.specs.declared.keywords.Keyword.TheVariants as keywords
use Rattle.ato_base.specs.declared.keywords.Mark.{Mark}
use Rattle.ato_base.specs.declared.keywords.Mark.TheVariants as marks
use Rattle.ato_base.specs.declared.tokens.TokenKind.{TokenKind}
use Rattle.ato_base.specs.declared.tokens.TokenKind.TheVariants as kinds
use Rattle.ato_ast.specs.declared.names.Number.{Number}
use Rattle.ato_ast.specs.declared.exprs.Sign.{Sign}
use Rattle.ato_ast.specs.declared.exprs.Sign.TheVariants as signs
use Rattle.ato_ast.specs.declared.exprs.Scale.{Scale}
use Rattle.ato_ast.specs.declared.exprs.Scale.TheVariants as scales
use Rattle.ato_ast.specs.declared.exprs.Unit.{Unit as WrittenUnit}
use Rattle.ato_ast.specs.declared.exprs.Unit.TheVariants as units
use Rattle.ato_ast.specs.declared.exprs.Choice.{Choice}
use Rattle.ato_ast.specs.declared.exprs.Choice.TheVariants as choices
use Rattle.ato_ast.specs.declared.stmts.Comparison.{Comparison}
use Rattle.ato_ast.specs.declared.stmts.Comparison.TheVariants as comparisons
use Rattle.ato_ast.specs.declared.blocks.BlockKind.{BlockKind}
use Rattle.ato_ast.specs.declared.blocks.BlockKind.TheVariants as blocks

-- ---- marks, keywords, line ends

unfoldable pub same_mark : Mark → Mark → Bool
same_mark = sameb mark_type

unfoldable pub same_keyword : Keyword → Keyword → Bool
same_keyword = sameb keyword_type

abbrev pub is_mark : Mark → TokenKind → Bool
is_mark m (kinds.Mark n) = same_mark n m
is_mark m _ = false

abbrev pub is_keyword : Keyword → TokenKind → Bool
is_keyword w (kinds.Keyword v) = same_keyword v w
is_keyword w _ = false

abbrev pub is_newline : TokenKind → Bool
is_newline kinds.Newline = true
is_newline _ = false

abbrev pub is_indent : TokenKind → Bool
is_indent kinds.Indent = true
is_indent _ = false

abbrev pub is_dedent : TokenKind → Bool
is_dedent kinds.Dedent = true
is_dedent _ = false

-- the kinds of which this holds, with no value
abbrev pub just : (TokenKind → Bool) → TokenKind → Option Unit
just test kind = if test kind then Some tt else None

-- ---- names, numbers, strings

-- a name of which there is a value
abbrev pub named : {A : Type 0} → (Name → Option A) → TokenKind → Option A
named value (kinds.Name n) = value n
named value _ = None

abbrev pub name_of : TokenKind → Option Name
name_of = named Some

abbrev pub number_of : TokenKind → Option Number
number_of (kinds.Number whole small at) = Some (record { whole = whole; small = small; at = at })
number_of _ = None

-- a number with neither point nor exponent
abbrev pub integer_of : TokenKind → Option Number
integer_of (kinds.Number true small at) = Some (record { whole = true; small = small; at = at })
integer_of _ = None

abbrev pub from_one_to_sixteen : Option ℕ → Bool
from_one_to_sixteen None = false
from_one_to_sixteen (Some k) = nat_le 1 k && nat_le k 16

-- a whole number from 1 to 16
abbrev pub exponent_of : TokenKind → Option Number
exponent_of (kinds.Number true small at) = if from_one_to_sixteen small then Some (record { whole = true; small = small; at = at }) else None
exponent_of _ = None

-- where the contents of a string stand
abbrev pub text_of : TokenKind → Option Span
text_of (kinds.Str contents) = Some contents
text_of _ = None

-- ---- kinds with a meaning of their own

abbrev pub sign_of : TokenKind → Option Sign
sign_of (kinds.Mark marks.Plus) = Some signs.Plus
sign_of (kinds.Mark marks.Minus) = Some signs.Minus
sign_of _ = None

abbrev pub scale_of : TokenKind → Option Scale
scale_of (kinds.Mark marks.Star) = Some scales.Times
scale_of (kinds.Mark marks.Slash) = Some scales.Over
scale_of _ = None

abbrev pub unit_of : TokenKind → Option WrittenUnit
unit_of (kinds.Name n) = Some (units.Name n)
unit_of (kinds.Mark marks.Percent) = Some units.Percent
unit_of _ = None

abbrev pub comparison_of : TokenKind → Option Comparison
comparison_of (kinds.Mark marks.Less) = Some comparisons.Less
comparison_of (kinds.Mark marks.LessEqual) = Some comparisons.LessEqual
comparison_of (kinds.Mark marks.Greater) = Some comparisons.Greater
comparison_of (kinds.Mark marks.GreaterEqual) = Some comparisons.GreaterEqual
comparison_of (kinds.Keyword keywords.Is) = Some comparisons.Is
comparison_of _ = None

abbrev pub truth_of : TokenKind → Option Bool
truth_of (kinds.Keyword keywords.True) = Some true
truth_of (kinds.Keyword keywords.False) = Some false
truth_of _ = None

abbrev pub block_of : TokenKind → Option BlockKind
block_of (kinds.Keyword keywords.Module) = Some blocks.Module
block_of (kinds.Keyword keywords.Component) = Some blocks.Component
block_of (kinds.Keyword keywords.Interface) = Some blocks.Interface
block_of _ = None

-- ---- the names of functions, by their numbers in the table of names

abbrev pub abs_of : Name → Option Unit
abs_of n = if nat_eq n.0 0 then Some tt else None

abbrev pub choice_of : Name → Option Choice
choice_of n = if nat_eq n.0 1 then Some choices.Max else (if nat_eq n.0 2 then Some choices.Min else None)
