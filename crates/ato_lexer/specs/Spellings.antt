-- The spellings of a text's pieces, and what it means that a text is cut into the longest ones.
use Rattle.std.specs.Prelude.{◌≡◌, ℕ, ◌<◌, ◌==◌, ◌||◌, not, Bool, true, false, List, [], ◌∷◌, ◌++◌, length, Some}
use Rattle.std.specs.List.{list_all}
use Rattle.ato_base.specs.Keywords.{keyword_text, mark_text, is_keyword}
use Rattle.ato_base.specs.Names.{are_name_chars}
use Rattle.ato_base.specs.declared.keywords.Keyword.{Keyword}
use Rattle.ato_base.specs.declared.keywords.Mark.{Mark}
use Rattle.ato_base.specs.declared.keywords.Mark.TheVariants as marks
use Rattle.ato_frac.specs.Numbers.{Parts, IsNumber}
use Rattle.ato_lexer.specs.Fronts.{begins, three, before_three}
use Rattle.ato_lexer.specs.Pieces.{Kind, Piece}
use Rattle.ato_lexer.specs.Pieces as pieces

-- `"` or `'`
abbrev pub is_quote : ℕ → Bool
is_quote c = (c == 34) || (c == 39)

-- a text spells a piece of a kind: a blank, a comment or a line end, or one of the tokens, as the table of tokens has them
pub data Spells : Kind → List ℕ → Type 0 where
  space : Spells pieces.blank (32 ∷ [])
  tab : Spells pieces.blank (9 ∷ [])
  feed : Spells pieces.line_end (10 ∷ [])
  return_feed : Spells pieces.line_end (13 ∷ 10 ∷ [])
  comment : (cs : List ℕ) → list_all (λ c. not (c == 10)) cs ≡ true → Spells pieces.comment (35 ∷ cs)
  name : {text : List ℕ} → are_name_chars text ≡ true → is_keyword text ≡ false → Spells pieces.name text
  keyword : (k : Keyword) → Spells (pieces.keyword k) (keyword_text k)
  number : {text : List ℕ} (parts : Parts) → IsNumber text parts → Spells pieces.number text
  string : (q : ℕ) (body : List ℕ) → is_quote q ≡ true → list_all (λ c. not ((c == q) || (c == 10))) body ≡ true → Spells (pieces.string 1) (q ∷ (body ++ q ∷ []))
  triple : (q : ℕ) (body : List ℕ) → is_quote q ≡ true → before_three q (body ++ three q) ≡ Some (length body) → Spells (pieces.string 3) (q ∷ q ∷ q ∷ (body ++ three q))
  mark : (m : Mark) → Spells (pieces.mark m) (mark_text m)
  plus_minus : Spells (pieces.mark marks.PlusMinus) (0xB1 ∷ [])

-- a text begins with a piece, and no longer text from there spells any; three quotes always begin a triple string
pub record IsNext (p : Piece) (rest : List ℕ) : Type 0 where
  pub spelled : Spells p.kind p.text
  pub longest : (other : Kind) (more after : List ℕ) → rest ≡ more ++ after → 0 < length more → ¬ Spells other (p.text ++ more)
  pub triple : (q : ℕ) → is_quote q ≡ true → begins (three q) (p.text ++ rest) ≡ true → p.kind ≡ pieces.string 3

-- a text is these pieces, one after another, each the longest possible
pub data IsCut : List ℕ → List Piece → Type 0 where
  over : IsCut [] []
  next : (p : Piece) (rest : List ℕ) (ps : List Piece) → IsNext p rest → IsCut rest ps → IsCut (p.text ++ rest) (p ∷ ps)
