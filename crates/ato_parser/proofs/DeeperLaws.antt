-- Where deeper parentheses may stand, more is read and nothing otherwise.
use Rattle.std.proofs.Common.{◌≡◌, ℕ, zero, suc, ◌<◌, ◌≤◌, Bool, true, false, [], ◌∷◌, length, if◌then◌else◌, Some, None, Ok, Err, refl, sym, ap, subst, le_refl, le_trans, arith}
use Rattle.ato_base.specs.declared.places.Span.{Span}
use Rattle.ato_base.specs.declared.keywords.Mark.TheVariants as marks
use Rattle.ato_base.specs.declared.tokens.Token.{Token}
use Rattle.ato_ast.specs.declared.exprs.Expr.{Expr}
use Rattle.ato_parser.specs.declared.stop.Stop.TheVariants as stops
use Rattle.ato_parser.specs.Tokens.{Tokens}
use Rattle.ato_parser.specs.Kinds.{is_mark}
use Rattle.ato_parser.specs.Input.{Input, Outcome, Reader, kind_of, one_by, past, and_then, refuse, mark, too_deep}
use Rattle.ato_parser.specs.Reading.{sum}
use Rattle.ato_parser.proofs.Lawful.{input, left_of}
use Rattle.ato_parser.proofs.ReaderLaws.{Law, Goes, mark_goes}
use Rattle.ato_parser.proofs.ReaderExpressions.{Opened, sum_over_goes}

-- A value and a fault stay; a stop before a parenthesis too many is passed.
abbrev pub Passes : {A : Type 0} → Outcome A → Outcome A → Type 0
Passes (Ok x) p = p ≡ Ok x
Passes (Err stops.NoMemory) p = ⊥
Passes (Err (stops.Syntax k)) p = p ≡ Err (stops.Syntax k)
Passes (Err (stops.TooDeep k)) p = left_of p < k

pub record Deeper {A : Type 0} (i : Input) (o p : Outcome A) : Type 0 where
  pub passes : Passes o p
  -- never more tokens are left than there were
  pub within : left_of p ≤ length i.ahead

pub past_within : (last : Span) (ts : Tokens) → length (past last ts).ahead ≤ length ts
past_within last [] = omega arith
past_within last (t ∷ ts) = omega arith

join_within : {A B : Type 0} (p : Outcome A) (g : A → Reader B) → ((a : A) (j : Input) → left_of (g a j) ≤ length j.ahead) → left_of (and_then p g) ≤ left_of p
join_within (Ok x) g w = w x.0 x.1
join_within (Err e) g w = le_refl _

join_passes : {A B : Type 0} (o p : Outcome A) (f g : A → Reader B) → Passes o p → ((a : A) (j : Input) → left_of (g a j) ≤ length j.ahead)
    → ((a : A) (j : Input) → o ≡ Ok (a, j) → Passes (f a j) (g a j)) → Passes (and_then o f) (and_then p g)
join_passes (Ok x) p f g e w next = subst (λ q. Passes (f x.0 x.1) (and_then q g)) (sym e) (next x.0 x.1 refl)
join_passes (Err stops.NoMemory) p f g e w next = e
join_passes (Err (stops.Syntax k)) p f g e w next = ap (λ q. and_then q g) e
join_passes (Err (stops.TooDeep k)) p f g e w next = let l : left_of (and_then p g) ≤ left_of p = join_within p g w in omega arith

pub joined_deeper : {A B : Type 0} (i : Input) (o p : Outcome A) (f g : A → Reader B) → Deeper i o p → ((a : A) (j : Input) → left_of (g a j) ≤ length j.ahead)
    → ((a : A) (j : Input) → o ≡ Ok (a, j) → Passes (f a j) (g a j)) → Deeper i (and_then o f) (and_then p g)
joined_deeper i o p f g one w next = record {
  passes = join_passes o p f g one.passes w next;
  within = le_trans (join_within p g w) one.within;
}

abbrev pub deeper : Law
deeper = record {
  Holds = λ A. Deeper {A = A};
  gives = λ A a i. record { passes = refl; within = le_refl _ };
  takes = λ A a i. record { passes = refl; within = past_within i.last i.ahead };
  refuses = λ A i. record { passes = refl; within = le_refl _ };
  joins = λ A B i o p f g one next. joined_deeper i o p f g one (λ a j. (next a j).within) (λ a j e. (next a j).passes);
}

-- ---- behind an open parenthesis

-- a reader that gives way to any other
deepest_of_all : {A : Type 0} → Reader A
deepest_of_all i = Err (stops.TooDeep (suc (length i.ahead)))

gives_way : {A : Type 0} (s : Reader A) → ((i : Input) → left_of (s i) ≤ length i.ahead) → Goes deeper deepest_of_all s
unfolding deepest_of_all
gives_way s w = record { along = λ i. let l = w i in record { passes = omega arith; within = l } }

module _ (opening opening' : Reader (Unit {0} × Span)) (inner inner' : Reader Expr) (opens : Goes deeper opening opening') (w : (i : Input) → left_of (inner' i) ≤ length i.ahead)
    (enters : (i j : Input) (u : Unit {0} × Span) → opening i ≡ Ok (u, j) → Goes deeper inner inner') where
  deeper_opened : Opened deeper opening opening' inner inner'
  deeper_opened = record {
    opened = λ f h. record {
      along = λ i. joined_deeper i (opening i) (opening' i) (λ u. f inner) (λ u. f inner') (opens.along i) (λ u j. ((h deepest_of_all inner' (gives_way inner' w)).along j).within)
          (λ u j e. ((h inner inner' (enters i j u e)).along j).passes);
    };
  }

parenthesis_by : (b : Bool) (last : Span) (t : Token) (ts : Tokens) → Deeper {A = Unit {0} × Span} (input last (t ∷ ts)) (if b then Err (stops.TooDeep (length (t ∷ ts))) else Err (stops.Syntax (length (t ∷ ts)))) (one_by (if b then Some tt else None) (input last (t ∷ ts)))
parenthesis_by true last t ts = record { passes = omega arith; within = omega arith }
parenthesis_by false last t ts = record { passes = refl; within = le_refl _ }

parenthesis_at : (last : Span) (ts : Tokens) → Deeper (input last ts) (too_deep (input last ts)) (mark marks.LeftParenthesis (input last ts))
parenthesis_at last [] = record { passes = refl; within = le_refl _ }
parenthesis_at last (t ∷ ts) = parenthesis_by (is_mark marks.LeftParenthesis t.kind) last t ts

too_deep_deeper : Goes deeper too_deep (mark marks.LeftParenthesis)
too_deep_deeper = record { along = λ i. parenthesis_at i.last i.ahead }

too_deep_by_stops : (b : Bool) (n : ℕ) (x : (Unit {0} × Span) × Input) → (let o : Outcome (Unit {0} × Span) = (if b then Err (stops.TooDeep n) else Err (stops.Syntax n)) in o ≡ Ok x) → ⊥
too_deep_by_stops true n x e = cc
too_deep_by_stops false n x e = cc

too_deep_stops : (i j : Input) (u : Unit {0} × Span) → too_deep i ≡ Ok (u, j) → ⊥
too_deep_stops i j u e = too_deep_by_stops (is_mark marks.LeftParenthesis (kind_of i.ahead)) (length i.ahead) (u, j) e

too_deep_by_within : (b : Bool) (n : ℕ) → (let o : Outcome (Unit {0} × Span) = (if b then Err (stops.TooDeep n) else Err (stops.Syntax n)) in left_of o ≤ n)
too_deep_by_within true n = le_refl _
too_deep_by_within false n = le_refl _

too_deep_within : (i : Input) → left_of (too_deep i) ≤ length i.ahead
too_deep_within i = too_deep_by_within (is_mark marks.LeftParenthesis (kind_of i.ahead)) (length i.ahead)

-- ---- sums

sum_alone_within : (i : Input) → left_of (sum zero i) ≤ length i.ahead
unfolding sum
sum_alone_within i = ((sum_over_goes deeper deepest_of_all too_deep deepest_of_all refuse
    (deeper_opened deepest_of_all too_deep deepest_of_all refuse (gives_way too_deep too_deep_within) (λ j. le_refl _) (λ j k u e. gives_way refuse (λ l. le_refl _)))).along i).within

-- the parentheses of one more depth
pub sum_deeper : (depth : ℕ) → Goes deeper (sum depth) (sum (suc depth))
unfolding sum
sum_deeper zero = sum_over_goes deeper too_deep (mark marks.LeftParenthesis) refuse (sum zero)
    (deeper_opened too_deep (mark marks.LeftParenthesis) refuse (sum zero) too_deep_deeper sum_alone_within (λ i j u e. absurd (too_deep_stops i j u e)))
sum_deeper (suc depth) =
    let below = sum_deeper depth in
    sum_over_goes deeper (mark marks.LeftParenthesis) (mark marks.LeftParenthesis) (sum depth) (sum (suc depth))
    (deeper_opened (mark marks.LeftParenthesis) (mark marks.LeftParenthesis) (sum depth) (sum (suc depth)) (mark_goes deeper marks.LeftParenthesis) (λ i. (below.along i).within) (λ i j u e. below))
