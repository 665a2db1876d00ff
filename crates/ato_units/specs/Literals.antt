-- Which texts are literals. A text is a list of characters here: tokens between blanks, each spelled as long as it can be.
use Rattle.std.specs.Prelude.{◌≡◌, ℕ, ◌<◌, ◌==◌, Bool, true, false, ◌||◌, List, [], ◌∷◌, ◌++◌, length, Option, Some, None, codes, if◌then◌else◌}
use Rattle.std.specs.Char.{is_ascii_digit}
use Rattle.std.specs.List.{list_all}
use Rattle.std.specs.Str.{bytes_eq}
use Rattle.unicode_ident.specs.Ident.{is_xid_continue}
use Rattle.ato_base.specs.Keywords.{is_keyword}
use Rattle.ato_base.specs.Names.{starts_name}
use Rattle.ato_frac.specs.Numbers.{Parts, IsNumber}
use Rattle.ato_units.specs.declared.quantities.Form.{Form}
use Rattle.ato_units.specs.declared.quantities.Form.TheVariants as forms

-- a space or a tab
abbrev pub is_blank : ℕ → Bool
is_blank c = (c == 32) || (c == 9)

-- the tokens of a literal, and the keywords that stand in none
pub data Token : Type 0 where
  number : List ℕ → Token
  unit : List ℕ → Token
  to : Token
  plus_minus : Token
  minus : Token
  keyword : Token

-- the token of a word: a keyword is no name
abbrev pub word_token : List ℕ → Token
word_token text = if bytes_eq text (codes "to") then to else (if is_keyword text then keyword else unit text)

-- the token of a mark. U+00B1 is the plus-minus sign
abbrev pub mark_token : List ℕ → Option Token
mark_token text =
    if bytes_eq text (codes "%") then Some (unit text)
    else (if bytes_eq text (codes "-") then Some minus
    else (if bytes_eq text (codes "+/-") || bytes_eq text (0xB1 ∷ []) then Some plus_minus else None))

-- a text spells a token: a number of the grammar, a word that is a name or a keyword, or a mark
pub data Spells (text : List ℕ) (token : Token) : Type 0 where
  a_number : (parts : Parts) → IsNumber text parts → token ≡ number text → Spells text token
  a_word : (c : ℕ) (cs : List ℕ) → text ≡ c ∷ cs → is_ascii_digit c ≡ false → starts_name c ≡ true → list_all is_xid_continue cs ≡ true → token ≡ word_token text → Spells text token
  a_mark : (c : ℕ) (cs : List ℕ) → text ≡ c ∷ cs → is_ascii_digit c ≡ false → starts_name c ≡ false → mark_token text ≡ Some token → Spells text token

-- after blanks a text begins with a token, and no longer text from there spells any token
pub record IsNext (text : List ℕ) (token : Token) (rest : List ℕ) : Type 0 where
  pub blanks : List ℕ
  pub spelling : List ℕ
  pub text_is : text ≡ blanks ++ (spelling ++ rest)
  pub blank : list_all is_blank blanks ≡ true
  pub spells : Spells spelling token
  pub longest : (more after : List ℕ) → rest ≡ more ++ after → 0 < length more → (other : Token) → ¬ Spells (spelling ++ more) other

-- a text is tokens, with blanks before, between and after them
pub data AreTokens : List ℕ → List Token → Type 0 where
  end : {text : List ℕ} → list_all is_blank text ≡ true → AreTokens text []
  next : {text : List ℕ} {token : Token} {tokens : List Token} (rest : List ℕ) → IsNext text token rest → AreTokens rest tokens → AreTokens text (token ∷ tokens)

-- a part as it is spelled: whether a minus sign stands before it, its number, and its unit if it has one
pub record Spelled : Type 0 where
  pub negative : Bool
  pub digits : List ℕ
  pub unit : Option (List ℕ)

-- a literal as it is spelled. One part counts as both
pub record Literal : Type 0 where
  pub form : Form
  pub first : Spelled
  pub second : Spelled

-- [ unit ]
abbrev pub unit_tokens : Option (List ℕ) → List Token
unit_tokens None = []
unit_tokens (Some text) = unit text ∷ []

-- NUMBER [ unit ]
abbrev pub unsigned_tokens : Spelled → List Token
unsigned_tokens part = number part.digits ∷ unit_tokens part.unit

-- quantity = [ "-" ] NUMBER [ unit ]
abbrev pub part_tokens : Spelled → List Token
part_tokens part = if part.negative then minus ∷ unsigned_tokens part else unsigned_tokens part

-- quantity "to" quantity, and quantity "+/-" NUMBER [ unit ]
abbrev pub second_tokens : Form → Spelled → List Token
second_tokens forms.One part = []
second_tokens forms.To part = to ∷ part_tokens part
second_tokens forms.About part = plus_minus ∷ unsigned_tokens part

-- literal = quantity [ "to" quantity | "+/-" NUMBER [ unit ] ]
abbrev pub literal_tokens : Literal → List Token
literal_tokens literal = part_tokens literal.first ++ second_tokens literal.form literal.second

-- what the tokens leave open: one part counts as both, and a tolerance has no sign
abbrev pub HasSecond : Form → Spelled → Spelled → Type 0
HasSecond forms.One first second = second ≡ first
HasSecond forms.To first second = Unit {0}
HasSecond forms.About first second = second.negative ≡ false

-- the text is the literal
pub record IsLiteral (text : List ℕ) (literal : Literal) : Type 0 where
  pub tokens : AreTokens text (literal_tokens literal)
  pub second : HasSecond literal.form literal.first literal.second
