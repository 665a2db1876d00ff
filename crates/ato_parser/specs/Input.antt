-- What a reader of tokens reads from, and the steps that readers are made of. Only private functions have clauses in these words.
use Rattle.std.specs.Prelude.{◌≡◌, ◌≢◌, ℕ, zero, suc, Bool, if◌then◌else◌, List, [], ◌∷◌, ◌++◌, length, Option, Some, None, Result, Ok, Err}
use Rattle.ato_base.specs.declared.places.Span.{Span}
use Rattle.ato_base.specs.declared.keywords.Keyword.{Keyword}
use Rattle.ato_base.specs.declared.keywords.Mark.{Mark}
use Rattle.ato_base.specs.declared.keywords.Mark.TheVariants as marks
use Rattle.ato_base.specs.declared.tokens.TokenKind.{TokenKind}
use Rattle.ato_base.specs.declared.tokens.TokenKind.TheVariants as kinds
use Rattle.ato_parser.specs.declared.stop.Stop.{Stop}
use Rattle.ato_parser.specs.declared.stop.Stop.TheVariants as stops
use Rattle.ato_parser.specs.Tokens.{Tokens, cover, extent, is_end}
use Rattle.ato_parser.specs.Kinds.{is_mark, is_keyword, just}

-- Tokens that are still to be read, and where the last one stood that was read.
pub record Input : Type 0 where
  pub last : Span
  pub ahead : Tokens

-- the kind of the next token; END where there is none
abbrev pub kind_of : Tokens → TokenKind
kind_of [] = kinds.End
kind_of (t ∷ ts) = t.kind

-- where the next token stands; at the end the place of no tokens
abbrev pub span_of : Tokens → Span
span_of [] = extent []
span_of (t ∷ ts) = t.at

-- behind the next token
abbrev pub past : Span → Tokens → Input
past last [] = record { last = last; ahead = [] }
past last (t ∷ ts) = record { last = t.at; ahead = ts }

-- ---- readers

abbrev pub Outcome : Type 0 → Type 0
Outcome A = Result (A × Input) Stop

-- A reader gives a value with what is left, or stops.
abbrev pub Reader : Type 0 → Type 0
Reader A = Input → Outcome A

abbrev pub and_then : {A B : Type 0} → Outcome A → (A → Reader B) → Outcome B
and_then (Ok p) f = f p.0 p.1
and_then (Err e) f = Err e

infixl 10 ◌>>=◌
abbrev pub ◌>>=◌ : {A B : Type 0} → Reader A → (A → Reader B) → Reader B
r >>= f = λ i. and_then (r i) f

infixl 10 ◌>>◌
abbrev pub ◌>>◌ : {A B : Type 0} → Reader A → Reader B → Reader B
r >> s = r >>= (λ _. s)

abbrev pub pure : {A : Type 0} → A → Reader A
pure a = λ i. Ok (a, i)

-- there is no place for the next token
abbrev pub refuse : {A : Type 0} → Reader A
refuse = λ i. Err (stops.Syntax (length i.ahead))

abbrev pub one_by : {A : Type 0} → Option A → Reader (A × Span)
one_by None = refuse
one_by (Some a) = λ i. Ok ((a, span_of i.ahead), past i.last i.ahead)

-- the next token, where its kind has a value
abbrev pub one : {A : Type 0} → (TokenKind → Option A) → Reader (A × Span)
one value = λ i. one_by (value (kind_of i.ahead)) i

-- one reader where the next token is such, else another
abbrev pub choose : {A : Type 0} → (TokenKind → Bool) → Reader A → Reader A → Reader A
choose test r s = λ i. if test (kind_of i.ahead) then r i else s i

-- with the place from the next token to the last one that is read
abbrev pub placed : {A : Type 0} → Reader (Span → A) → Reader A
placed r = λ i. and_then (r i) (λ f j. Ok (f (cover (span_of i.ahead) j.last), j))

abbrev pub optional : {A : Type 0} → (TokenKind → Bool) → Reader A → Reader (Option A)
optional test r = choose test (r >>= λ a. pure (Some a)) (pure None)

-- as often as the next token is such; the number bounds the turns
unfoldable pub turns : {A : Type 0} → (TokenKind → Bool) → Reader A → ℕ → List A → Reader (List A)
turns test r zero found = pure found
turns test r (suc n) found = choose test (r >>= λ a. turns test r n (found ++ a ∷ [])) (pure found)

unfoldable pub many : {A : Type 0} → (TokenKind → Bool) → Reader A → Reader (List A)
many test r = λ i. turns test r (length i.ahead) [] i

-- behind each separator one reader as often as the next token is such, at last another
unfoldable pub endings : {A B : Type 0} → Mark → (TokenKind → Bool) → Reader A → Reader B → ℕ → List A → Reader (List A × Option B)
endings sep test r s zero found = pure (found, None)
endings sep test r s (suc n) found =
    choose (is_mark sep)
    (one (just (is_mark sep)) >> choose test (r >>= λ a. endings sep test r s n (found ++ a ∷ [])) (s >>= λ b. pure (found, Some b)))
    (pure (found, None))

unfoldable pub ended : {A B : Type 0} → Mark → (TokenKind → Bool) → Reader A → Reader B → Reader (List A × Option B)
ended sep test r s = λ i. endings sep test r s (length i.ahead) [] i

-- ---- single tokens

abbrev pub of_kind : (TokenKind → Bool) → Reader (Unit × Span)
of_kind test = one (just test)

abbrev pub mark : Mark → Reader (Unit × Span)
mark m = of_kind (is_mark m)

abbrev pub keyword : Keyword → Reader (Unit × Span)
keyword w = of_kind (is_keyword w)

-- an open parenthesis, with which too many stand inside each other
abbrev pub too_deep : Reader (Unit × Span)
too_deep = choose (is_mark marks.LeftParenthesis) (λ i. Err (stops.TooDeep (length i.ahead))) refuse

abbrev pub end_by : Span → Tokens → Outcome (Unit × Span)
end_by last [] = Err (stops.Syntax 0)
end_by last (t ∷ ts) = if is_end t.kind then Ok ((tt, t.at), past last (t ∷ ts)) else Err (stops.Syntax (length (t ∷ ts)))

-- the token END, which has to be there
abbrev pub the_end : Reader (Unit × Span)
the_end = λ i. end_by i.last i.ahead

-- ---- what the code ensures

-- what a function that reads ensures: the reader's outcome, unless memory runs out
abbrev pub Reads : {A : Type 0} → Outcome A → Result A Stop → Input → Type 0
Reads outcome (Ok a) new = outcome ≡ Ok (a, new)
Reads outcome (Err e) new = e ≢ stops.NoMemory → outcome ≡ Err e
