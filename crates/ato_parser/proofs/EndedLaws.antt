-- A piece any number of times and then maybe another, each behind a separator.
use Rattle.std.proofs.Common.{◌≡◌, ℕ, zero, suc, ◌≤◌, Bool, true, false, ◌&&◌, ◌||◌, if◌then◌else◌, List, [], ◌∷◌, ◌++◌, length, Option, Some, None, refl, ap, sym, ◌∙◌, subst, arith, length-append, append_assoc, append-nil}
use denote.Enum.Bare.{true_same}
use Rattle.ato_base.specs.contracts.keywords.Mark.{the_type as mark_type}
use Rattle.ato_base.specs.declared.keywords.Mark.{Mark}
use Rattle.ato_base.specs.declared.tokens.TokenKind.{TokenKind}
use Rattle.ato_parser.specs.Tokens.{Tokens}
use Rattle.ato_parser.specs.Kinds.{same_mark, is_mark}
use Rattle.ato_parser.specs.Pieces.{Piece, NothingSpells, nothing, NothingFront, before_nothing, ThenSpells, then_spells, ThenFront, in_first, in_second, OrSpells, the_one, the_other, OrFront, in_one, in_other, ManySpells, no_more, one_more, ManyFront, before_many, in_next, after_next}
use Rattle.ato_parser.specs.Pieces as P
use Rattle.ato_parser.specs.TokenPieces as T
use Rattle.ato_parser.specs.Input.{Input, Reader, endings, ended}
use Rattle.ato_parser.specs.Input as R
use Rattle.ato_parser.proofs.Classes.{Classes, a_mark, among, apart, within, Tests}
use Rattle.ato_parser.proofs.ClassLaws.{in_neither, out_of_both, apart-nil, mark_tests}
use Rattle.ato_parser.proofs.OneLaws.{pure_lawful, mark_lawful}
use Rattle.ato_parser.proofs.ThenLaws.{weaken, then_lawful, map_lawful}
use Rattle.ato_parser.proofs.OrLaws.{or_lawful}
use Rattle.ato_parser.proofs.SameLaws.{lawful_read}
use Rattle.ato_parser.proofs.FuelLaws.{Bounded, fuel_lawful}
use Rattle.ato_parser.proofs.Lawful.{Lawful}

-- the separated pieces at most so many times, behind what was found
abbrev pub ended_by : {S A B : Type 0} → Piece S → Piece A → Piece B → ℕ → List A → Piece (List A × Option B)
ended_by sep p q zero found = P.pure (found, None)
ended_by sep p q (suc n) found =
    P.◌or◌ (P.◌>>◌ sep (P.◌or◌ (P.◌>>=◌ p (λ a. ended_by sep p q n (found ++ a ∷ []))) (P.◌>>=◌ q (λ b. P.pure (found, Some b)))))
    (P.pure (found, None))

-- ---- the reader reads the pieces so many times

pub same_mark_self : (m : Mark) → same_mark m m ≡ true
unfolding same_mark
same_mark_self m = true_same mark_type m m refl

only_one : (b : Bool) → b ≡ true → ((b || false) && true) ≡ true
only_one true e = refl
only_one false e = cc

pub mark_within : (m : Mark) → within (a_mark m ∷ []) (a_mark m ∷ []) ≡ true
mark_within m = only_one (same_mark m m) (same_mark_self m)

-- what may go on with the pieces
abbrev pub ended_more : Mark → Classes → Classes → Classes → Bool → Classes
ended_more sep m cs m2 e2 = a_mark sep ∷ (m ++ (if e2 then cs ++ m2 else m2))

more_than : (m y x : Classes) (sep : Mark) (e2 : Bool) (kind : TokenKind) → x ≡ (m ++ (a_mark sep ∷ (m ++ y))) ++ y → among (a_mark sep ∷ (m ++ y)) kind ≡ false → among ((if e2 then [] ++ x else x) ++ (a_mark sep ∷ [])) kind ≡ false
more_than m y x sep e2 kind e h =
    let parts = in_neither (a_mark sep ∷ []) (m ++ y) kind h in
    let others = in_neither m y kind parts.1 in
    let inner : among x kind ≡ false = subst (λ (z : Classes). among z kind ≡ false) (sym e) (out_of_both (m ++ (a_mark sep ∷ (m ++ y))) y kind (out_of_both m (a_mark sep ∷ (m ++ y)) kind others.0 h) others.1) in
    out_of_both (if e2 then [] ++ x else x) (a_mark sep ∷ []) kind (chosen e2 inner) parts.0
  where
    chosen : (b : Bool) → among x kind ≡ false → among (if b then [] ++ x else x) kind ≡ false
    chosen true inner = inner
    chosen false inner = inner

module _ {A B : Type 0} {p : Piece A} {q : Piece B} {r : Reader A} {r' : Reader B} {s m s2 m2 : Classes} {e2 : Bool}
    (sep : Mark) (test : TokenKind → Bool) (cs : Classes) (tests : Tests test cs) (law : Lawful p r s m false) (law2 : Lawful q r' s2 m2 e2)
    (inside : within s cs ≡ true) (away : apart s2 cs ≡ true) (ends : apart (a_mark sep ∷ []) m ≡ true) where
  endings_lawful : (n : ℕ) (found : List A) → Lawful (ended_by (T.mark sep) p q n found) (endings sep test r r' n found) (a_mark sep ∷ []) (ended_more sep m cs m2 e2) true
  unfolding endings
  endings_lawful zero found = weaken (a_mark sep ∷ []) (ended_more sep m cs m2 e2) true (pure_lawful (found, None)) (λ kind h. cc) (λ kind h. refl) (λ h. h)
  endings_lawful (suc n) found =
      let again = then_lawful {p = p} {q = λ a. ended_by (T.mark sep) p q n (found ++ a ∷ [])} {r = r} {f = λ a. endings sep test r r' n (found ++ a ∷ [])} law (λ a. endings_lawful n (found ++ a ∷ [])) ends in
      let last = map_lawful {B = List A × Option B} (λ b. (found, Some b)) law2 in
      let next = or_lawful test cs tests again last inside away in
      let separated = then_lawful (mark_lawful sep) (λ _. next) (apart-nil (s ++ s2)) in
      weaken (a_mark sep ∷ []) (ended_more sep m cs m2 e2) true
      (or_lawful (is_mark sep) (a_mark sep ∷ []) (mark_tests sep) separated (pure_lawful (found, None)) (mark_within sep) refl)
      (λ kind h. h)
      (λ kind h. more_than m (if e2 then cs ++ m2 else m2) ((m ++ ended_more sep m cs m2 e2) ++ (if e2 then cs ++ m2 else m2)) sep e2 kind refl h)
      (λ h. h)

-- ---- so many times is often enough

no_tokens : {A : Type 0} {a b : A} {ts : Tokens} → NothingSpells a b ts → ts ≡ []
no_tokens nothing = refl

short_front : (ts : Tokens) → length ts ≤ 0 → NothingFront ts
short_front [] h = before_nothing
short_front (t ∷ ts) h = absurd (omega arith)

module _ {S A B : Type 0} (o : Piece S) (p : Piece A) (q : Piece B) (some : (x : S) → o.Spells x [] → ⊥) where
  fewer : (x : S) (ts us vs : Tokens) (n : ℕ) → o.Spells x ts → length (ts ++ (us ++ vs)) ≤ suc n → length vs ≤ n
  fewer x [] us vs n spelled short = absurd (some x spelled)
  fewer x (t ∷ ts) us vs n spelled short = omega (arith, length-append ts (us ++ vs), length-append us vs)

  none_left : (x : S) (ts us : Tokens) → o.Spells x ts → length (ts ++ us) ≤ 0 → ⊥
  none_left x [] us spelled short = some x spelled
  none_left x (t ∷ ts) us spelled short = omega arith

  regroup : (ts us vs ws : Tokens) → ts ++ (us ++ (vs ++ ws)) ≡ ((ts ++ us) ++ vs) ++ ws
  regroup ts us vs ws = simp append_assoc

  regroup_last : (ts us vs : Tokens) → ts ++ (us ++ vs) ≡ (ts ++ us) ++ vs
  regroup_last ts us vs = sym (append_assoc ts us vs)

  -- the last one
  last_there : (n : ℕ) (found : List A) (b : B) (last : Option B) (x : S) (ts us vs : Tokens) → length ((ts ++ us) ++ vs) ≤ n → o.Spells x ts → q.Spells b us → NothingSpells (Some b) last vs → (ended_by o p q n found).Spells (found, last) ((ts ++ us) ++ vs)
  last_there zero found b last x ts us vs short one two nothing = absurd (none_left x ts (us ++ []) one (subst (λ (ws : Tokens). length ws ≤ 0) (append_assoc ts us []) short))
  last_there (suc n) found b last x ts us vs short one two nothing =
      subst (λ (ws : Tokens). (ended_by o p q (suc n) found).Spells (found, Some b) ws) (regroup_last ts us [])
      (the_one (then_spells one (the_other (then_spells two nothing))))

  last_spells : (n : ℕ) (found : List A) (last : Option B) (us : Tokens) → length us ≤ n → (P.optional (P.◌>>◌ o q)).Spells last us → (ended_by o p q n found).Spells (found, last) us
  last_spells n found last us short (the_one (then_spells {a = b} {us = ws} (then_spells {a = x} {ts = ts} {us = vs} one two) none)) = last_there n found b last x ts vs ws short one two none
  last_spells zero found last us short (the_other nothing) = nothing
  last_spells (suc n) found last us short (the_other nothing) = the_other nothing

  all_spells : (n : ℕ) (found more : List A) (last : Option B) (ts us : Tokens) → length (ts ++ us) ≤ n → ManySpells (P.◌>>◌ o p) more ts → (P.optional (P.◌>>◌ o q)).Spells last us → (ended_by o p q n found).Spells (found ++ more, last) (ts ++ us)
  all_spells n found more last ts us short no_more end =
      subst (λ (xs : List A). (ended_by o p q n found).Spells (xs, last) us) (sym (append-nil found)) (last_spells n found last us short end)
  all_spells zero found more last ts us short (one_more {us = ws} (then_spells {a = x} {ts = vs} {us = ws'} one two) others) end =
      absurd (none_left x vs (ws' ++ (ws ++ us)) one (subst (λ (ys : Tokens). length ys ≤ 0) (sym (regroup vs ws' ws us)) short))
  all_spells (suc n) found more last ts us short (one_more {a = a} {more = xs} {us = ws} (then_spells {a = x} {ts = vs} {us = ws'} one two) others) end =
      let few : length (ws ++ us) ≤ n = fewer x vs ws' (ws ++ us) n one (subst (λ (ys : Tokens). length ys ≤ suc n) (sym (regroup vs ws' ws us)) short) in
      let next = subst (λ (ys : List A). (ended_by o p q n (found ++ a ∷ [])).Spells (ys, last) (ws ++ us)) (append_assoc found (a ∷ []) xs) (all_spells n (found ++ a ∷ []) xs last ws us few others end) in
      subst (λ (ys : Tokens). (ended_by o p q (suc n) found).Spells (found ++ a ∷ xs, last) ys) (regroup vs ws' ws us)
      (the_one (then_spells one (the_one (then_spells two next))))

  whole_spells : (n : ℕ) (more : List A) (last : Option B) (v : List A × Option B) (ts us vs : Tokens) → length (ts ++ (us ++ vs)) ≤ n → ManySpells (P.◌>>◌ o p) more ts → (P.optional (P.◌>>◌ o q)).Spells last us → NothingSpells (more, last) v vs → (ended_by o p q n []).Spells v (ts ++ (us ++ vs))
  whole_spells n more last v ts us vs short others end nothing =
      subst (λ (ws : Tokens). (ended_by o p q n []).Spells (more, last) (ts ++ ws)) (sym (append-nil us))
      (all_spells n [] more last ts us (subst (λ (ws : Tokens). length (ts ++ ws) ≤ n) (append-nil us) short) others end)

  ended_spells : (n : ℕ) (v : List A × Option B) (ts : Tokens) → length ts ≤ n → (P.ended o p q).Spells v ts → (ended_by o p q n []).Spells v ts
  ended_spells n v all short (then_spells {a = more} {ts = ts} others (then_spells {a = last} {ts = us} {us = vs} end none)) = whole_spells n more last v ts us vs short others end none

  -- ---- their fronts

  last_front : (n : ℕ) (found more : List A) (us : Tokens) → ThenFront (P.optional (P.◌>>◌ o q)) (λ (last : Option B). P.pure {A = List A × Option B} (more, last)) us → (ended_by o p q (suc n) found).Front us
  last_front n found more us (in_first (in_one (in_first (in_first front)))) = in_one (in_first front)
  last_front n found more us (in_first (in_one (in_first (in_second one front)))) = in_one (in_second one (in_other (in_first front)))
  last_front n found more us (in_first (in_one (in_second (then_spells {ts = ts} {us = vs} one two) before_nothing))) =
      subst (λ (ws : Tokens). (ended_by o p q (suc n) found).Front ws) (regroup_last ts vs [])
      (in_one (in_second one (in_other (in_second two before_nothing))))
  last_front n found more us (in_first (in_other before_nothing)) = in_other before_nothing
  last_front n found more us (in_second (the_one (then_spells {us = ws} (then_spells {ts = ts} {us = vs} one two) none)) before_nothing) =
      subst (λ (ys : Tokens). (ended_by o p q (suc n) found).Front ys)
      (regroup_last ts vs [] ∙ ap (λ (ys : Tokens). (ts ++ vs) ++ ys) (sym (no_tokens none)) ∙ sym (append-nil ((ts ++ vs) ++ ws)))
      (in_one (in_second one (in_other (in_second two before_nothing))))
  last_front n found more us (in_second (the_other nothing) before_nothing) = in_other before_nothing

  end_front : (n : ℕ) (found all : List A) (us : Tokens) → length us ≤ n → ThenFront (P.optional (P.◌>>◌ o q)) (λ (last : Option B). P.pure {A = List A × Option B} (all, last)) us → (ended_by o p q n found).Front us
  end_front zero found all us short end = short_front us short
  end_front (suc n) found all us short end = last_front n found all us end

  all_front : (n : ℕ) (found more all : List A) (ts us : Tokens) → length (ts ++ us) ≤ n → ManySpells (P.◌>>◌ o p) more ts → ThenFront (P.optional (P.◌>>◌ o q)) (λ (last : Option B). P.pure {A = List A × Option B} (all, last)) us → (ended_by o p q n found).Front (ts ++ us)
  all_front n found more all ts us short no_more end = end_front n found all us short end
  all_front zero found more all ts us short (one_more {us = ws} (then_spells {ts = vs} {us = ws'} one two) others) end = short_front (((vs ++ ws') ++ ws) ++ us) short
  all_front (suc n) found more all ts us short (one_more {a = a} {more = xs} {us = ws} (then_spells {a = x} {ts = vs} {us = ws'} one two) others) end =
      let few : length (ws ++ us) ≤ n = fewer x vs ws' (ws ++ us) n one (subst (λ (ys : Tokens). length ys ≤ suc n) (sym (regroup vs ws' ws us)) short) in
      subst (λ (ys : Tokens). (ended_by o p q (suc n) found).Front ys) (regroup vs ws' ws us)
      (in_one (in_second one (in_one (in_second two (all_front n (found ++ a ∷ []) xs all ws us few others end)))))

  many_front : (n : ℕ) (found : List A) (ts : Tokens) → length ts ≤ n → ManyFront (P.◌>>◌ o p) ts → (ended_by o p q n found).Front ts
  many_front zero found ts short front = short_front ts short
  many_front (suc n) found ts short before_many = in_other before_nothing
  many_front (suc n) found ts short (in_next (in_first front)) = in_one (in_first front)
  many_front (suc n) found ts short (in_next (in_second one front)) = in_one (in_second one (in_one (in_first front)))
  many_front (suc n) found all short (after_next {us = us} (then_spells {a = x} {b = a} {ts = ts} {us = vs} one two) more) =
      let few : length us ≤ n = fewer x ts vs us n one (subst (λ (ys : Tokens). length ys ≤ suc n) (append_assoc ts vs us) short) in
      subst (λ (ys : Tokens). (ended_by o p q (suc n) found).Front ys) (regroup_last ts vs us)
      (in_one (in_second one (in_one (in_second two (many_front n (found ++ a ∷ []) us few more)))))

  ended_front : (n : ℕ) (ts : Tokens) → length ts ≤ n → (P.ended o p q).Front ts → (ended_by o p q n []).Front ts
  ended_front n ts short (in_first front) = many_front n [] ts short front
  ended_front n all short (in_second {a = more} {ts = ts} {us = us} others end) = all_front n [] more more ts us short others end

-- ---- and never too often

-- what is found behind what was found before
pub record Found {S A B : Type 0} (o : Piece S) (p : Piece A) (q : Piece B) (found : List A) (v : List A × Option B) (all : Tokens) : Type 0 where
  pub more : List A
  pub last : Option B
  pub front : Tokens
  pub rest : Tokens
  pub split : front ++ rest ≡ all
  pub whole : ◌≡◌ {A = List A × Option B} (found ++ more, last) v
  pub many : ManySpells (P.◌>>◌ o p) more front
  pub end : (P.optional (P.◌>>◌ o q)).Spells last rest

module _ {S A B : Type 0} (o : Piece S) (p : Piece A) (q : Piece B) where
  nothing_found : (found : List A) (v : List A × Option B) (ts : Tokens) → NothingSpells (found, None) v ts → Found o p q found v ts
  nothing_found found v ts nothing = record { more = []; last = None; front = []; rest = []; split = refl; whole = ap (λ (xs : List A). (let v : List A × Option B = (xs, None) in v)) (append-nil found); many = no_more; end = the_other nothing }

  found_next : (found : List A) (v : List A × Option B) (x : S) (a : A) (ts us vs : Tokens) → o.Spells x ts → p.Spells a us → Found o p q (found ++ a ∷ []) v vs → Found o p q found v (ts ++ (us ++ vs))
  found_next found v x a ts us vs one two next = record {
    more = a ∷ next.more;
    last = next.last;
    front = (ts ++ us) ++ next.front;
    rest = next.rest;
    split = append_assoc (ts ++ us) next.front next.rest ∙ append_assoc ts us (next.front ++ next.rest) ∙ ap (λ (ws : Tokens). ts ++ (us ++ ws)) next.split;
    whole = ap (λ (xs : List A). (let v : List A × Option B = (xs, next.last) in v)) (sym (append_assoc found (a ∷ []) next.more)) ∙ next.whole;
    many = one_more (then_spells one two) next.many;
    end = next.end;
  }

  last_found : (found : List A) (b : B) (v : List A × Option B) (x : S) (ts us vs : Tokens) → o.Spells x ts → q.Spells b us → NothingSpells (found, Some b) v vs → Found o p q found v (ts ++ (us ++ vs))
  last_found found b v x ts us vs one two nothing = record {
    more = [];
    last = Some b;
    front = [];
    rest = (ts ++ us) ++ [];
    split = append_assoc ts us [];
    whole = ap (λ (xs : List A). (let v : List A × Option B = (xs, Some b) in v)) (append-nil found);
    many = no_more;
    end = the_one (then_spells (then_spells one two) nothing);
  }

  spells_found : (n : ℕ) (found : List A) (v : List A × Option B) (ts : Tokens) → (ended_by o p q n found).Spells v ts → Found o p q found v ts
  spells_found zero found v ts h = nothing_found found v ts h
  spells_found (suc n) found v all (the_one (then_spells {a = x} {ts = ts} one (the_one (then_spells {a = a} {ts = us} {us = vs} two more)))) =
      found_next found v x a ts us vs one two (spells_found n (found ++ a ∷ []) v vs more)
  spells_found (suc n) found v all (the_one (then_spells {a = x} {ts = ts} one (the_other (then_spells {a = b} {ts = us} {us = vs} two none)))) = last_found found b v x ts us vs one two none
  spells_found (suc n) found v ts (the_other h) = nothing_found found v ts h

  found_spelled : (v : List A × Option B) (ts : Tokens) → Found o p q [] v ts → (P.ended o p q).Spells v ts
  found_spelled v ts h =
      subst (λ (us : Tokens). (P.ended o p q).Spells v us) (ap (λ (us : Tokens). h.front ++ us) (append-nil h.rest) ∙ h.split)
      (subst (λ (w : List A × Option B). (P.ended o p q).Spells w (h.front ++ (h.rest ++ []))) h.whole (then_spells h.many (then_spells h.end nothing)))

  front_next : (x : S) (a : A) (ts us vs : Tokens) → o.Spells x ts → p.Spells a us → (P.ended o p q).Front vs → (P.ended o p q).Front (ts ++ (us ++ vs))
  front_next x a ts us vs one two (in_first front) = subst (λ (ws : Tokens). (P.ended o p q).Front ws) (append_assoc ts us vs) (in_first (after_next (then_spells one two) front))
  front_next x a ts us all one two (in_second {a = more} {ts = vs} {us = ws} others end) =
      subst (λ (ys : Tokens). (P.ended o p q).Front ys) (append_assoc (ts ++ us) vs ws ∙ append_assoc ts us (vs ++ ws))
      (in_second (one_more (then_spells one two) others) (end_of more (a ∷ more) ws end))
    where
      end_of : (xs ys : List A) (zs : Tokens) → ThenFront (P.optional (P.◌>>◌ o q)) (λ (last : Option B). P.pure {A = List A × Option B} (xs, last)) zs → ThenFront (P.optional (P.◌>>◌ o q)) (λ (last : Option B). P.pure {A = List A × Option B} (ys, last)) zs
      end_of xs ys zs (in_first h) = in_first h
      end_of xs ys zs (in_second h k) = in_second h k

  nothing_front : (ts : Tokens) → NothingFront ts → (P.ended o p q).Front ts
  nothing_front ts before_nothing = in_first before_many

  last_tokens : (x : S) (b : B) (ts us vs : Tokens) → o.Spells x ts → q.Spells b us → NothingFront vs → (P.ended o p q).Front (ts ++ (us ++ vs))
  last_tokens x b ts us vs one two before_nothing =
      subst (λ (ws : Tokens). (P.ended o p q).Front ws) (append_assoc ts us [])
      (in_second no_more (in_first (in_one (in_second (then_spells one two) before_nothing))))

  front_found : (n : ℕ) (found : List A) (ts : Tokens) → (ended_by o p q n found).Front ts → (P.ended o p q).Front ts
  front_found zero found ts h = nothing_front ts h
  front_found (suc n) found ts (in_one (in_first front)) = in_first (in_next (in_first front))
  front_found (suc n) found ts (in_one (in_second one (in_one (in_first front)))) = in_first (in_next (in_second one front))
  front_found (suc n) found all (in_one (in_second {a = x} {ts = ts} one (in_one (in_second {a = a} {ts = us} {us = vs} two more)))) =
      front_next x a ts us vs one two (front_found n (found ++ a ∷ []) vs more)
  front_found (suc n) found ts (in_one (in_second one (in_other (in_first front)))) = in_second no_more (in_first (in_one (in_first (in_second one front))))
  front_found (suc n) found all (in_one (in_second {a = x} {ts = ts} one (in_other (in_second {a = b} {ts = us} {us = vs} two none)))) = last_tokens x b ts us vs one two none
  front_found (suc n) found ts (in_other h) = nothing_front ts h

  ended_bounded : ((x : S) → o.Spells x [] → ⊥) → Bounded (P.ended o p q) (λ n. ended_by o p q n [])
  ended_bounded some = record {
    spells = λ n v ts short h. ended_spells o p q some n v ts short h;
    spelled = λ n v ts h. found_spelled v ts (spells_found n [] v ts h);
    fronts = λ n ts short h. ended_front o p q some n ts short h;
    front = λ n ts h. front_found n [] ts h;
  }

-- ---- the laws

ended_read : {A B : Type 0} (sep : Mark) (test : TokenKind → Bool) (r : Reader A) (s : Reader B) (i : Input) → endings sep test r s (length i.ahead) [] i ≡ ended sep test r s i
unfolding ended
ended_read sep test r s i = refl

-- The separator does not go on with the piece, and nothing that the last one begins with is told by the test.
pub ended_lawful : {A B : Type 0} {p : Piece A} {q : Piece B} {r : Reader A} {r' : Reader B} {s m s2 m2 : Classes} {e2 : Bool} (sep : Mark) (test : TokenKind → Bool) (cs : Classes) → Tests test cs → Lawful p r s m false → Lawful q r' s2 m2 e2 → within s cs ≡ true → apart s2 cs ≡ true → apart (a_mark sep ∷ []) m ≡ true → Lawful (P.ended (T.mark sep) p q) (R.ended sep test r r') (a_mark sep ∷ []) (a_mark sep ∷ (m ++ (if e2 then cs ++ m2 else m2))) true
ended_lawful {A} {B} {p} {q} {r} {r'} sep test cs tests law law2 inside away ends =
    lawful_read (ended_read sep test r r')
    (fuel_lawful (ended_bounded (T.mark sep) p q (λ x h. let wrong : false ≡ true = (mark_lawful sep).not_empty x h in absurd (cc)))
    (λ n. endings_lawful sep test cs tests law law2 inside away ends n []))
