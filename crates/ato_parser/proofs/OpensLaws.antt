-- A reader leaves what stands at the end of its tokens, and stops as too deep only at an open parenthesis.
use Rattle.std.proofs.Common.{◌≡◌, ℕ, zero, suc, Bool, true, false, [], ◌∷◌, ◌++◌, length, if◌then◌else◌, Ok, Err, refl, sym, ap, ◌∙◌, subst, append_assoc}
use denote.Enum.Bare.{same_true}
use Rattle.ato_base.specs.contracts.keywords.Mark.{the_type as mark_type}
use Rattle.ato_base.specs.declared.places.Span.{Span}
use Rattle.ato_base.specs.declared.keywords.Mark.TheVariants as marks
use Rattle.ato_base.specs.declared.tokens.Token.{Token}
use Rattle.ato_base.specs.declared.tokens.TokenKind.{TokenKind}
use Rattle.ato_base.specs.declared.tokens.TokenKind.TheVariants as kinds
use Rattle.ato_ast.specs.declared.exprs.Expr.{Expr}
use Rattle.ato_parser.specs.declared.stop.Stop.TheVariants as stops
use Rattle.ato_parser.specs.Tokens.{Tokens, token}
use Rattle.ato_parser.specs.Kinds.{same_mark, is_mark}
use Rattle.ato_parser.specs.Input.{Input, Outcome, Reader, past, and_then, refuse, mark, too_deep}
use Rattle.ato_parser.specs.Reading.{sum}
use Rattle.ato_parser.specs.FileReading.{file, start, value_of, whole}
use Rattle.ato_parser.proofs.Lawful.{input}
use Rattle.ato_parser.proofs.ReaderLaws.{Law, Goes, refuse_goes, mark_goes, then_goes}
use Rattle.ato_parser.proofs.ReaderExpressions.{Opened, sum_over_goes}
use Rattle.ato_parser.proofs.ReaderFiles.{file_goes}

-- The second tokens stand at the end of the first.
pub record Suffixed (ts us : Tokens) : Type 0 where
  pub before : Tokens
  pub split : ts ≡ before ++ us

-- An open parenthesis from which on so many tokens are left.
pub record OpensAt (ts : Tokens) (k : ℕ) : Type 0 where
  pub before : Tokens
  pub place : Span
  pub rest : Tokens
  pub split : ts ≡ before ++ token (kinds.Mark marks.LeftParenthesis) place ∷ rest
  pub left : k ≡ suc (length rest)

abbrev pub Keeps : {A : Type 0} → Tokens → Outcome A → Type 0
Keeps ts (Ok x) = Suffixed ts x.1.ahead
Keeps ts (Err stops.NoMemory) = ⊥
Keeps ts (Err (stops.Syntax k)) = Unit {0}
Keeps ts (Err (stops.TooDeep k)) = OpensAt ts k

pub same_suffix : (ts : Tokens) → Suffixed ts ts
same_suffix ts = record { before = []; split = refl }

pub past_suffix : (last : Span) (ts : Tokens) → Suffixed ts (past last ts).ahead
past_suffix last [] = record { before = []; split = refl }
past_suffix last (t ∷ ts) = record { before = t ∷ []; split = refl }

longer_suffix : (ts us vs : Tokens) → Suffixed ts us → Suffixed us vs → Suffixed ts vs
longer_suffix ts us vs a b = record { before = a.before ++ b.before; split = a.split ∙ ap (λ ws. a.before ++ ws) b.split ∙ sym (append_assoc a.before b.before vs) }

longer_opens : (ts us : Tokens) (k : ℕ) → Suffixed ts us → OpensAt us k → OpensAt ts k
longer_opens ts us k a b = record {
  before = a.before ++ b.before;
  place = b.place;
  rest = b.rest;
  split = a.split ∙ ap (λ ws. a.before ++ ws) b.split ∙ sym (append_assoc a.before b.before (token (kinds.Mark marks.LeftParenthesis) b.place ∷ b.rest));
  left = b.left;
}

longer_keeps : {A : Type 0} (ts us : Tokens) (o : Outcome A) → Suffixed ts us → Keeps us o → Keeps ts o
longer_keeps ts us (Ok x) a k = longer_suffix ts us x.1.ahead a k
longer_keeps ts us (Err stops.NoMemory) a k = k
longer_keeps ts us (Err (stops.Syntax n)) a k = tt
longer_keeps ts us (Err (stops.TooDeep n)) a k = longer_opens ts us n a k

pub join_keeps : {A B : Type 0} (ts : Tokens) (o : Outcome A) (f : A → Reader B) → Keeps ts o → ((a : A) (j : Input) → Keeps j.ahead (f a j)) → Keeps ts (and_then o f)
join_keeps ts (Ok x) f k next = longer_keeps ts x.1.ahead (f x.0 x.1) k (next x.0 x.1)
join_keeps ts (Err stops.NoMemory) f k next = k
join_keeps ts (Err (stops.Syntax n)) f k next = tt
join_keeps ts (Err (stops.TooDeep n)) f k next = k

-- the first outcome is such
abbrev pub keeping : Law
keeping = record {
  Holds = λ A i o p. Keeps i.ahead o;
  gives = λ A a i. same_suffix i.ahead;
  takes = λ A a i. past_suffix i.last i.ahead;
  refuses = λ A i. tt;
  joins = λ A B i o p f g one next. join_keeps i.ahead o f one next;
}

keeping_opened : (opening opening' : Reader (Unit {0} × Span)) (inner inner' : Reader Expr) → Goes keeping opening opening' → Goes keeping inner inner' → Opened keeping opening opening' inner inner'
keeping_opened opening opening' inner inner' o n = record { opened = λ f h. then_goes keeping opening opening' (λ u. f inner) (λ u. f inner') o (λ u. h inner inner' n) }

-- ---- an open parenthesis

kind_is : (k : TokenKind) → is_mark marks.LeftParenthesis k ≡ true → k ≡ kinds.Mark marks.LeftParenthesis
unfolding same_mark
kind_is (kinds.Mark m) e = ap kinds.Mark (same_true mark_type tt m marks.LeftParenthesis e)
kind_is _ e = cc

parenthesis_opens : (t : Token) (ts : Tokens) → is_mark marks.LeftParenthesis t.kind ≡ true → OpensAt (t ∷ ts) (length (t ∷ ts))
parenthesis_opens t ts e = record { before = []; place = t.at; rest = ts; split = ap (λ k. token k t.at ∷ ts) (kind_is t.kind e); left = refl }

too_deep_by : (b : Bool) (t : Token) (ts : Tokens) → is_mark marks.LeftParenthesis t.kind ≡ b → (let o : Outcome (Unit {0} × Span) = (if b then Err (stops.TooDeep (length (t ∷ ts))) else Err (stops.Syntax (length (t ∷ ts)))) in Keeps (t ∷ ts) o)
too_deep_by true t ts e = parenthesis_opens t ts e
too_deep_by false t ts e = tt

too_deep_at : (last : Span) (ts : Tokens) → Keeps ts (too_deep (input last ts))
too_deep_at last [] = tt
too_deep_at last (t ∷ ts) = too_deep_by (is_mark marks.LeftParenthesis t.kind) t ts refl

too_deep_keeping : Goes keeping too_deep too_deep
too_deep_keeping = record { along = λ i. too_deep_at i.last i.ahead }

-- ---- whole files

sum_keeping : (depth : ℕ) → Goes keeping (sum depth) (sum depth)
unfolding sum
sum_keeping zero = sum_over_goes keeping too_deep too_deep refuse refuse (keeping_opened too_deep too_deep refuse refuse too_deep_keeping (refuse_goes keeping Expr))
sum_keeping (suc depth) = sum_over_goes keeping (mark marks.LeftParenthesis) (mark marks.LeftParenthesis) (sum depth) (sum depth)
    (keeping_opened (mark marks.LeftParenthesis) (mark marks.LeftParenthesis) (sum depth) (sum depth) (mark_goes keeping marks.LeftParenthesis) (sum_keeping depth))

pub file_keeps : (depth : ℕ) (i : Input) → Keeps i.ahead (file depth i)
file_keeps depth i = (file_goes keeping depth depth (sum_keeping depth)).along i

stop_opens : {A : Type 0} (ts : Tokens) (o : Outcome A) (k : ℕ) → Keeps ts o → value_of o ≡ Err (stops.TooDeep k) → OpensAt ts k
stop_opens ts (Ok x) k keeps e = cc
stop_opens ts (Err stops.NoMemory) k keeps e = absurd keeps
stop_opens ts (Err (stops.Syntax l)) k keeps e = cc
stop_opens ts (Err (stops.TooDeep l)) k keeps e = let same : l ≡ k = cc in subst (OpensAt ts) same keeps

stop_sure : {A : Type 0} (ts : Tokens) (o : Outcome A) → Keeps ts o → value_of o ≡ Err stops.NoMemory → ⊥
stop_sure ts (Ok x) keeps e = cc
stop_sure ts (Err stops.NoMemory) keeps e = keeps
stop_sure ts (Err (stops.Syntax l)) keeps e = cc
stop_sure ts (Err (stops.TooDeep l)) keeps e = cc

-- a file stops as too deep only at an open parenthesis
pub whole_opens : (depth : ℕ) (ts : Tokens) (k : ℕ) → whole depth ts ≡ Err (stops.TooDeep k) → OpensAt ts k
unfolding whole
whole_opens depth ts k e = stop_opens ts (file depth (start ts)) k (file_keeps depth (start ts)) e

-- and never for want of memory
pub whole_sure : (depth : ℕ) (ts : Tokens) → whole depth ts ≡ Err stops.NoMemory → ⊥
unfolding whole
whole_sure depth ts e = stop_sure ts (file depth (start ts)) (file_keeps depth (start ts)) e
