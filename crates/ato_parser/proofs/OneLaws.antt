-- Pieces of one token, and of none.
use Rattle.std.proofs.Common.{◌≡◌, ◌≤◌, Bool, true, false, [], ◌∷◌, ◌++◌, length, Option, Some, None, is_some, Ok, Err, refl, ap, sym, subst, arith, if◌then◌else◌}
use Rattle.ato_base.specs.declared.places.Span.{Span}
use Rattle.ato_base.specs.declared.keywords.Keyword.{Keyword}
use Rattle.ato_base.specs.declared.keywords.Mark.{Mark}
use Rattle.ato_base.specs.declared.keywords.Mark.TheVariants as marks
use Rattle.ato_base.specs.declared.tokens.Token.{Token}
use Rattle.ato_base.specs.declared.tokens.TokenKind.{TokenKind}
use Rattle.ato_base.specs.declared.tokens.TokenKind.TheVariants as kinds
use Rattle.ato_parser.specs.declared.stop.Stop.{Stop}
use Rattle.ato_parser.specs.declared.stop.Stop.TheVariants as stops
use Rattle.ato_parser.specs.Tokens.{Tokens, token, last_at, is_end}
use Rattle.ato_parser.specs.Kinds.{is_mark, is_keyword, just}
use Rattle.ato_parser.specs.Pieces.{Piece, nothing, before_nothing, OneSpells, one_token, OneFront, before_one, whole_one}
use Rattle.ato_parser.specs.Pieces as P
use Rattle.ato_parser.specs.TokenPieces as T
use Rattle.ato_parser.specs.Input.{Input, Outcome, Reader, kind_of, span_of, past, one_by, end_by}
use Rattle.ato_parser.specs.Input as R
use Rattle.ato_parser.proofs.Classes.{Classes, a_mark, a_keyword, an_end, among, Tests}
use Rattle.ato_parser.proofs.ClassLaws.{Within, just_within, mark_tests, keyword_tests, end_tests}
use Rattle.ato_parser.proofs.OutcomeLaws.{ok_is, stops_here, refused_here}
use Rattle.ato_parser.proofs.Lawful.{input, left_of, StopsBefore, Spelled, StopsAt, Lawful}

-- ---- no token

pub pure_lawful : {A : Type 0} (a : A) → Lawful (P.pure a) (R.pure a) [] [] true
pure_lawful {A} a = record {
  begins = λ t ts front. begun t ts front;
  not_empty = λ b spelled. refl;
  whole = λ b ts spelled. wholly b ts spelled;
  complete = λ b ts rest last spelled behind. completely b ts rest last spelled;
  sound = λ i j b h. soundly i j b h;
  stops = λ i e h. cc;
  passes = λ ts rest last front. passing ts rest front;
}
  where
    begun : (t : Token) (ts : Tokens) → P.NothingFront (t ∷ ts) → among [] t.kind ≡ true
    begun t ts front = elim front [ ]

    wholly : (b : A) (ts : Tokens) → P.NothingSpells a b ts → P.NothingFront ts
    wholly b ts nothing = before_nothing

    completely : (b : A) (ts rest : Tokens) (last : Span) → P.NothingSpells a b ts → R.pure a (input last (ts ++ rest)) ≡ Ok (b, input (last_at last ts) rest)
    completely b ts rest last nothing = refl

    soundly : (i j : Input) (b : A) → R.pure a i ≡ Ok (b, j) → Spelled (P.pure a) i b j
    soundly i j b h = let is = ok_is {A = A} h in record { taken = []; split = ap (λ (k : Input). k.ahead) is.1; last = ap (λ (k : Input). k.last) (sym is.1); spells = subst (λ (c : A). P.NothingSpells a c []) is.0 nothing }

    passing : (ts rest : Tokens) → P.NothingFront ts → length (ts ++ rest) ≤ length rest
    passing ts rest before_nothing = omega arith

pub never_lawful : {A : Type 0} (cs : Classes) → Lawful {A = A} P.never R.refuse cs [] false
never_lawful {A} cs = record {
  begins = λ t ts front. absurd front;
  not_empty = λ a spelled. absurd spelled;
  whole = λ a ts spelled. spelled;
  complete = λ a ts rest last spelled behind. absurd spelled;
  sound = λ i j a h. cc;
  stops = λ i e h. refused_here P.never i e h;
  passes = λ ts rest last front. absurd front;
}

deep_by : Bool → Input → Outcome (Unit × Span)
deep_by b i = if b then Err (stops.TooDeep (length i.ahead)) else Err (stops.Syntax (length i.ahead))

deep_stops : (b : Bool) (i : Input) (e : Stop) → deep_by b i ≡ Err e → StopsAt (P.never {A = Unit × Span}) i e
unfolding deep_by
deep_stops true i e h = let s : stops.TooDeep (length i.ahead) ≡ e = cc in stops_here P.never i e (subst (StopsBefore (length i.ahead)) s refl)
deep_stops false i e h = refused_here P.never i e h

deep_never : (b : Bool) (i : Input) (y : (Unit × Span) × Input) → deep_by b i ≡ Ok y → ⊥
unfolding deep_by
deep_never true i y h = cc
deep_never false i y h = cc

pub deep_lawful : Lawful P.never R.too_deep (a_mark marks.LeftParenthesis ∷ []) [] false
unfolding deep_by
deep_lawful = record {
  begins = λ t ts front. absurd front;
  not_empty = λ a spelled. absurd spelled;
  whole = λ a ts spelled. spelled;
  complete = λ a ts rest last spelled behind. absurd spelled;
  sound = λ i j a h. absurd (deep_never (is_mark marks.LeftParenthesis (kind_of i.ahead)) i (a, j) h);
  stops = λ i e h. deep_stops (is_mark marks.LeftParenthesis (kind_of i.ahead)) i e h;
  passes = λ ts rest last front. absurd front;
}

-- ---- one token

some_of : {A : Type 0} {o : Option A} {a : A} → o ≡ Some a → is_some o ≡ true
some_of {A} {o} {a} e = ap is_some e

module _ {A : Type 0} (value : TokenKind → Option A) where
  one_begins : (cs : Classes) → Within value cs → (t : Token) (ts : Tokens) → OneFront value (t ∷ ts) → among cs t.kind ≡ true
  one_begins cs inside t ts (whole_one kind at e) = inside kind (some_of e)

  one_not_empty : (x : A × Span) → OneSpells value x [] → false ≡ true
  one_not_empty x spelled = elim spelled [ ]

  one_whole : (x : A × Span) (ts : Tokens) → OneSpells value x ts → OneFront value ts
  one_whole x ts (one_token kind at e) = whole_one kind at e

  one_complete : (x : A × Span) (ts rest : Tokens) (last : Span) → OneSpells value x ts → R.one value (input last (ts ++ rest)) ≡ Ok (x, input (last_at last ts) rest)
  one_complete x ts rest last (one_token kind at e) = ap (λ (o : Option A). one_by o (input last (token kind at ∷ rest))) e

  one_sound : value kinds.End ≡ None → (last : Span) (ts : Tokens) (j : Input) (x : A × Span) (o : Option A) → value (kind_of ts) ≡ o → one_by o (input last ts) ≡ Ok (x, j) → Spelled (P.one value) (input last ts) x j
  one_sound ends last ts j x None e h = cc
  one_sound ends last [] j x (Some a) e h = cc
  one_sound ends last (t ∷ ts) j x (Some a) e h =
      let is = ok_is {A = A × Span} h in
      record {
        taken = t ∷ [];
        split = ap (λ (k : Input). t ∷ k.ahead) is.1;
        last = ap (λ (k : Input). k.last) (sym is.1);
        spells = subst (λ (y : A × Span). OneSpells value y (t ∷ [])) is.0 (one_token t.kind t.at e);
      }

  one_stops : (i : Input) (e : Stop) (o : Option A) → one_by o i ≡ Err e → StopsAt (P.one value) i e
  one_stops i e None h = refused_here (P.one value) i e h
  one_stops i e (Some a) h = cc

  one_left : (last : Span) (rest : Tokens) (o : Option A) → left_of (one_by o (input last rest)) ≤ length rest
  one_left last rest None = omega arith
  one_left last [] (Some a) = omega arith
  one_left last (t ∷ ts) (Some a) = omega arith

  one_passes : (ts rest : Tokens) (last : Span) → OneFront value ts → left_of (R.one value (input last (ts ++ rest))) ≤ length rest
  one_passes ts rest last before_one = one_left last rest (value (kind_of rest))
  one_passes ts rest last (whole_one kind at e) =
      subst (λ (o : Option A). left_of (one_by o (input last (token kind at ∷ rest))) ≤ length rest) (sym e) omega arith

  pub one_lawful : (cs : Classes) → Within value cs → value kinds.End ≡ None → Lawful (P.one value) (R.one value) cs [] false
  one_lawful cs inside ends = record {
    begins = one_begins cs inside;
    not_empty = one_not_empty;
    whole = one_whole;
    complete = λ x ts rest last spelled behind. one_complete x ts rest last spelled;
    sound = λ i j x h. one_sound ends i.last i.ahead j x (value (kind_of i.ahead)) refl h;
    stops = λ i e h. one_stops i e (value (kind_of i.ahead)) h;
    passes = one_passes;
  }

-- ---- a token without a value

pub of_kind_lawful : (test : TokenKind → Bool) (cs : Classes) → Tests test cs → test kinds.End ≡ false → Lawful (T.of_kind test) (R.of_kind test) cs [] false
of_kind_lawful test cs tests ends = one_lawful (just test) cs (just_within test cs tests) (ap (λ (b : Bool). if b then Some (tt {0}) else None) ends)

pub mark_lawful : (m : Mark) → Lawful (T.mark m) (R.mark m) (a_mark m ∷ []) [] false
mark_lawful m = of_kind_lawful (is_mark m) (a_mark m ∷ []) (mark_tests m) refl

pub keyword_lawful : (w : Keyword) → Lawful (T.keyword w) (R.keyword w) (a_keyword w ∷ []) [] false
keyword_lawful w = of_kind_lawful (is_keyword w) (a_keyword w ∷ []) (keyword_tests w) refl

-- ---- the end

end_complete : (last at : Span) (ts rest : Tokens) (kind : TokenKind) (u : Unit) → just is_end kind ≡ Some u → R.the_end (input last (token kind at ∷ rest)) ≡ Ok ((u, at), input at rest)
end_complete last at ts rest kinds.End u e = refl
end_complete last at ts rest _ u e = cc

end_completely : (x : Unit × Span) (ts rest : Tokens) (last : Span) → OneSpells (just is_end) x ts → R.the_end (input last (ts ++ rest)) ≡ Ok (x, input (last_at last ts) rest)
end_completely x ts rest last (one_token {a = u} kind at e) = end_complete last at ts rest kind u e

end_spelled : (last at : Span) (ts : Tokens) (j : Input) (x : Unit × Span) (kind : TokenKind) → end_by last (token kind at ∷ ts) ≡ Ok (x, j) → Spelled T.the_end (input last (token kind at ∷ ts)) x j
end_spelled last at ts j x kinds.End h =
    let is = ok_is {A = Unit × Span} h in
    record {
      taken = token kinds.End at ∷ [];
      split = ap (λ (k : Input). token kinds.End at ∷ k.ahead) is.1;
      last = ap (λ (k : Input). k.last) (sym is.1);
      spells = subst (λ (y : Unit × Span). OneSpells (just is_end) y (token kinds.End at ∷ [])) is.0 (one_token kinds.End at refl);
    }
end_spelled last at ts j x _ h = cc

end_sound : (last : Span) (ts : Tokens) (j : Input) (x : Unit × Span) → end_by last ts ≡ Ok (x, j) → Spelled T.the_end (input last ts) x j
end_sound last [] j x h = cc
end_sound last (t ∷ ts) j x h = end_spelled last t.at ts j x t.kind h

end_stopped : (b : Bool) (i : Input) (e : Stop) (y : (Unit × Span) × Input) → (let o : Outcome (Unit × Span) = (if b then Ok y else Err (stops.Syntax (length i.ahead))) in o ≡ Err e) → StopsAt T.the_end i e
end_stopped true i e y h = cc
end_stopped false i e y h = refused_here T.the_end i e h

end_stops : (last : Span) (ts : Tokens) (e : Stop) → end_by last ts ≡ Err e → StopsAt T.the_end (input last ts) e
end_stops last [] e h = let s : stops.Syntax 0 ≡ e = cc in stops_here T.the_end (input last []) e (subst (StopsBefore 0) s refl)
end_stops last (t ∷ ts) e h = end_stopped (is_end t.kind) (input last (t ∷ ts)) e ((tt, t.at), input t.at ts) h

end_left : (last : Span) (ts : Tokens) → left_of (end_by last ts) ≤ length ts
end_left last [] = omega arith
end_left last (t ∷ ts) = end_left_by (is_end t.kind)
  where
    end_left_by : (b : Bool) → left_of (let o : Outcome (Unit × Span) = (if b then Ok ((tt, t.at), input t.at ts) else Err (stops.Syntax (length (t ∷ ts)))) in o) ≤ length (t ∷ ts)
    end_left_by true = omega arith
    end_left_by false = omega arith

end_passes : (ts rest : Tokens) (last : Span) → OneFront (just is_end) ts → left_of (R.the_end (input last (ts ++ rest))) ≤ length rest
end_passes ts rest last before_one = end_left last rest
end_passes ts rest last (whole_one {a = u} kind at e) =
    subst (λ (o : Outcome (Unit × Span)). left_of o ≤ length rest) (sym (end_complete last at [] rest kind u e)) omega arith

pub end_lawful : Lawful T.the_end R.the_end (an_end ∷ []) [] false
end_lawful = record {
  begins = one_begins (just is_end) (an_end ∷ []) (just_within is_end (an_end ∷ []) end_tests);
  not_empty = one_not_empty (just is_end);
  whole = one_whole (just is_end);
  complete = λ x ts rest last spelled behind. end_completely x ts rest last spelled;
  sound = λ i j x h. end_sound i.last i.ahead j x h;
  stops = λ i e h. end_stops i.last i.ahead e h;
  passes = end_passes;
}
