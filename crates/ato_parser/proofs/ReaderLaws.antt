-- What holds of the steps of two readers holds of the readers.
use Rattle.std.proofs.Common.{ℕ, zero, suc, Bool, true, false, List, [], ◌∷◌, ◌++◌, length, if◌then◌else◌, Option, Some, None, Ok, Err}
use Rattle.ato_base.specs.declared.places.Span.{Span}
use Rattle.ato_base.specs.declared.keywords.Keyword.{Keyword}
use Rattle.ato_base.specs.declared.keywords.Mark.{Mark}
use Rattle.ato_base.specs.declared.tokens.TokenKind.{TokenKind}
use Rattle.ato_parser.specs.declared.stop.Stop.TheVariants as stops
use Rattle.ato_parser.specs.Tokens.{Tokens, cover, is_end}
use Rattle.ato_parser.specs.Kinds.{is_mark, is_keyword, just}
use Rattle.ato_parser.specs.Input.{Input, Outcome, Reader, kind_of, span_of, past, and_then, ◌>>=◌, pure, refuse, one_by, one, choose, placed, optional, turns, many, endings, ended, of_kind, mark, keyword, end_by, the_end}

-- A relation between two outcomes at an input that each step keeps.
pub record Law : Type 1 where
  pub Holds : (A : Type 0) → Input → Outcome A → Outcome A → Type 0
  -- where no token is taken
  pub gives : (A : Type 0) (a : A) (i : Input) → Holds A i (Ok (a, i)) (Ok (a, i))
  -- where one is taken
  pub takes : (A : Type 0) (a : A) (i : Input) → Holds (A × Span) i (Ok ((a, span_of i.ahead), past i.last i.ahead)) (Ok ((a, span_of i.ahead), past i.last i.ahead))
  -- where the next one does not fit
  pub refuses : (A : Type 0) (i : Input) → Holds A i (Err (stops.Syntax (length i.ahead))) (Err (stops.Syntax (length i.ahead)))
  -- one step after another
  pub joins : (A B : Type 0) (i : Input) (o p : Outcome A) (f g : A → Reader B) → Holds A i o p → ((a : A) (j : Input) → Holds B j (f a j) (g a j)) → Holds B i (and_then o f) (and_then p g)

module _ (law : Law) where
  -- the law holds between two readers
  pub record Goes {A : Type 0} (r s : Reader A) : Type 0 where
    pub along : (i : Input) → law.Holds A i (r i) (s i)

  pub pure_goes : {A : Type 0} (a : A) → Goes (pure a) (pure a)
  pure_goes {A} a = record { along = law.gives A a }

  pub refuse_goes : (A : Type 0) → Goes {A = A} refuse refuse
  refuse_goes A = record { along = law.refuses A }

  one_by_goes : {A : Type 0} (o : Option A) (i : Input) → law.Holds (A × Span) i (one_by o i) (one_by o i)
  one_by_goes {A} None i = law.refuses (A × Span) i
  one_by_goes {A} (Some a) i = law.takes A a i

  pub one_goes : {A : Type 0} (value : TokenKind → Option A) → Goes (one value) (one value)
  one_goes value = record { along = λ i. one_by_goes (value (kind_of i.ahead)) i }

  pub of_kind_goes : (test : TokenKind → Bool) → Goes (of_kind test) (of_kind test)
  of_kind_goes test = one_goes (just test)

  pub mark_goes : (m : Mark) → Goes (mark m) (mark m)
  mark_goes m = of_kind_goes (is_mark m)

  pub keyword_goes : (w : Keyword) → Goes (keyword w) (keyword w)
  keyword_goes w = of_kind_goes (is_keyword w)

  pub then_goes : {A B : Type 0} (r s : Reader A) (f g : A → Reader B) → Goes r s → ((a : A) → Goes (f a) (g a)) → Goes (r >>= f) (s >>= g)
  then_goes {A} {B} r s f g first next = record { along = λ i. law.joins A B i (r i) (s i) f g (first.along i) (λ a j. (next a).along j) }

  choice_goes : {A : Type 0} (b : Bool) (i : Input) (o p x y : Outcome A) → law.Holds A i o p → law.Holds A i x y → law.Holds A i (if b then o else x) (if b then p else y)
  choice_goes true i o p x y one other = one
  choice_goes false i o p x y one other = other

  pub choose_goes : {A : Type 0} (test : TokenKind → Bool) (r s q t : Reader A) → Goes r s → Goes q t → Goes (choose test r q) (choose test s t)
  choose_goes test r s q t one other = record { along = λ i. choice_goes (test (kind_of i.ahead)) i (r i) (s i) (q i) (t i) (one.along i) (other.along i) }

  pub placed_goes : {A : Type 0} (r s : Reader (Span → A)) → Goes r s → Goes (placed r) (placed s)
  placed_goes {A} r s part = record {
    along = λ i. law.joins (Span → A) A i (r i) (s i) _ _ (part.along i) (λ f j. law.gives A (f (cover (span_of i.ahead) j.last)) j);
  }

  pub optional_goes : {A : Type 0} (test : TokenKind → Bool) (r s : Reader A) → Goes r s → Goes (optional test r) (optional test s)
  optional_goes test r s part = choose_goes test _ _ _ _ (then_goes r s _ _ part (λ a. pure_goes (Some a))) (pure_goes None)

  turns_goes : {A : Type 0} (test : TokenKind → Bool) (r s : Reader A) → Goes r s → (n : ℕ) (found : List A) → Goes (turns test r n found) (turns test s n found)
  unfolding turns
  turns_goes test r s part zero found = pure_goes found
  turns_goes test r s part (suc n) found = choose_goes test _ _ _ _ (then_goes r s _ _ part (λ a. turns_goes test r s part n (found ++ a ∷ []))) (pure_goes found)

  pub many_goes : {A : Type 0} (test : TokenKind → Bool) (r s : Reader A) → Goes r s → Goes (many test r) (many test s)
  unfolding many
  many_goes test r s part = record { along = λ i. (turns_goes test r s part (length i.ahead) []).along i }

  endings_goes : {A B : Type 0} (sep : Mark) (test : TokenKind → Bool) (r s : Reader A) (q t : Reader B) → Goes r s → Goes q t → (n : ℕ) (found : List A) → Goes (endings sep test r q n found) (endings sep test s t n found)
  unfolding endings
  endings_goes sep test r s q t part last zero found = pure_goes (found, None)
  endings_goes sep test r s q t part last (suc n) found = choose_goes (is_mark sep) _ _ _ _
      (then_goes _ _ _ _ (mark_goes sep) (λ m. choose_goes test _ _ _ _
      (then_goes r s _ _ part (λ a. endings_goes sep test r s q t part last n (found ++ a ∷ [])))
      (then_goes q t _ _ last (λ b. pure_goes (found, Some b)))))
      (pure_goes (found, None))

  pub ended_goes : {A B : Type 0} (sep : Mark) (test : TokenKind → Bool) (r s : Reader A) (q t : Reader B) → Goes r s → Goes q t → Goes (ended sep test r q) (ended sep test s t)
  unfolding ended
  ended_goes sep test r s q t part last = record { along = λ i. (endings_goes sep test r s q t part last (length i.ahead) []).along i }

  end_by_goes : (last : Span) (ts : Tokens) → (let i : Input = record { last = last; ahead = ts } in law.Holds (Unit {0} × Span) i (end_by last ts) (end_by last ts))
  end_by_goes last [] = law.refuses (Unit {0} × Span) (record { last = last; ahead = [] })
  end_by_goes last (t ∷ ts) =
      let i : Input = record { last = last; ahead = t ∷ ts } in
      choice_goes (is_end t.kind) i _ _ _ _ (law.takes (Unit {0}) tt i) (law.refuses (Unit {0} × Span) i)

  pub the_end_goes : Goes the_end the_end
  the_end_goes = record { along = λ i. end_by_goes i.last i.ahead }
