-- What the tokens and the literals of code stand for, and what a text gives.
use Rattle.std.specs.Prelude.{◌≡◌, ℕ, Bool, List, ◌++◌, Option, Result, Ok, Err, MatchOption, option_map, if◌then◌else◌}
use denote.Ref.{Bor}
use Rattle.std.specs.Str.{chars, encode_utf8_all}
use Rattle.ato_frac.specs.declared.fraction.Frac.{Frac}
use Rattle.ato_frac.specs.Decimals.{Reads}
use Rattle.ato_frac.specs.Fractions.{value_of}
use Rattle.ato_rational.specs.Rational.{ℚ, ◌≈ℚ◌, neg_ℚ}
use Rattle.ato_units.specs.declared.quantities.Quantity.{Quantity}
use Rattle.ato_units.specs.declared.quantities.QuantityFault.{QuantityFault}
use Rattle.ato_units.specs.declared.literals.SpelledPart.{SpelledPart}
use Rattle.ato_units.specs.declared.literals.SpelledLiteral.{SpelledLiteral}
use Rattle.ato_units.specs.declared.tokens.Token as declared
use Rattle.ato_units.specs.declared.tokens.Token.TheVariants as tokens
use Rattle.ato_units.specs.Literals.{Token, number, unit, to, plus_minus, minus, keyword, Spelled, Literal}
use Rattle.ato_units.specs.Quantities.{Written, PartFault, Gives}

-- a text ends with another
pub record HasEnd (text rest : List ℕ) : Type 0 where
  pub front : List ℕ
  pub text_is : text ≡ front ++ rest

-- a token of code
abbrev pub spelled_token : declared.Token → Token
spelled_token (tokens.Number digits) = number (chars digits.now)
spelled_token (tokens.Unit text) = unit (chars text.now)
spelled_token tokens.To = to
spelled_token tokens.PlusMinus = plus_minus
spelled_token tokens.Minus = minus
spelled_token tokens.Keyword = keyword

-- a token of code and what follows it
abbrev pub cut_token : declared.Token × Bor (List ℕ) → Token × List ℕ
cut_token cut = (spelled_token cut.0, chars cut.1.now)

-- a part of code as it is spelled
abbrev pub spelled : SpelledPart → Spelled
spelled p = record { negative = p.negative; digits = chars p.digits.now; unit = option_map (λ t. chars t.now) p.unit }

-- a part of code and what follows it
abbrev pub cut_part : SpelledPart × Bor (List ℕ) → Spelled × List ℕ
cut_part cut = (spelled cut.0, chars cut.1.now)

-- a literal of code
abbrev pub spelled_literal : SpelledLiteral → Literal
spelled_literal l = record { form = l.form; first = spelled l.first; second = spelled l.second }

-- a value with a sign
abbrev pub signed : Bool → ℚ → ℚ
signed negative value = if negative then neg_ℚ value else value

-- the number of digits with a sign before them, or none where a fraction is too narrow for it
abbrev pub HasNumber : Bool → List ℕ → Option Frac → Type 0
HasNumber negative digits given =
    MatchOption given ((f : Frac) → ¬ Reads digits f) (λ f. (size : Frac) × Reads digits size × (value_of f ≈ℚ signed negative (value_of size)))

-- a part as it is spelled, and its number and the bytes of its unit
pub record IsWritten (part : Spelled) (w : Written) : Type 0 where
  pub number : HasNumber part.negative (encode_utf8_all part.digits) w.number
  pub unit : w.unit ≡ option_map encode_utf8_all part.unit

-- a fault without its part
abbrev pub without_part : Result Quantity PartFault → Result Quantity QuantityFault
without_part (Ok quantity) = Ok quantity
without_part (Err fault) = Err fault.0

-- what the parts of a literal give
pub record LiteralGives (literal : Literal) (answer : Result Quantity QuantityFault) : Type 0 where
  pub first : Written
  pub second : Written
  pub given : Result Quantity PartFault
  pub first_is : IsWritten literal.first first
  pub second_is : IsWritten literal.second second
  pub gives : Gives literal.form first second given
  pub answer_is : answer ≡ without_part given
