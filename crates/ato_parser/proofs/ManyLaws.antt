-- A piece any number of times.
use Rattle.std.proofs.Common.{◌≡◌, ℕ, zero, suc, ◌≤◌, Bool, true, false, List, [], ◌∷◌, ◌++◌, length, refl, sym, ◌∙◌, subst, arith, length-append, append_assoc, append-nil}
use Rattle.ato_base.specs.declared.tokens.TokenKind.{TokenKind}
use Rattle.ato_parser.specs.Tokens.{Tokens}
use Rattle.ato_parser.specs.Pieces.{Piece, NothingSpells, nothing, NothingFront, before_nothing, ThenSpells, then_spells, ThenFront, in_first, in_second, OrSpells, the_one, the_other, OrFront, in_one, in_other, ManySpells, no_more, one_more, ManyFront, before_many, in_next, after_next}
use Rattle.ato_parser.specs.Pieces as P
use Rattle.ato_parser.specs.Input.{Input, Reader, turns, many}
use Rattle.ato_parser.specs.Input as R
use Rattle.ato_parser.proofs.Classes.{Classes, among, apart, within, Tests}
use Rattle.ato_parser.proofs.ClassLaws.{in_neither, out_of_both}
use Rattle.ato_parser.proofs.OneLaws.{pure_lawful}
use Rattle.ato_parser.proofs.ThenLaws.{weaken, then_lawful}
use Rattle.ato_parser.proofs.OrLaws.{or_lawful}
use Rattle.ato_parser.proofs.SameLaws.{lawful_read}
use Rattle.ato_parser.proofs.PlacedLaws.{lone_starts}
use Rattle.ato_parser.proofs.FuelLaws.{Bounded, fuel_lawful}
use Rattle.ato_parser.proofs.Lawful.{Lawful}

-- the piece at most so many times, behind what was found
abbrev pub at_most : {A : Type 0} → Piece A → ℕ → List A → Piece (List A)
at_most p zero found = P.pure found
at_most p (suc n) found = P.◌or◌ (P.◌>>=◌ p (λ a. at_most p n (found ++ a ∷ []))) (P.pure found)

-- ---- the reader reads the piece so many times

turns_more : (cs m : Classes) (kind : TokenKind) → among (cs ++ m) kind ≡ false → among ((m ++ (cs ++ m)) ++ (cs ++ [])) kind ≡ false
turns_more cs m kind h =
    let parts = in_neither cs m kind h in
    out_of_both (m ++ (cs ++ m)) (cs ++ []) kind (out_of_both m (cs ++ m) kind parts.1 h) (out_of_both cs [] kind parts.0 refl)

module _ {A : Type 0} {p : Piece A} {r : Reader A} {s m : Classes}
    (test : TokenKind → Bool) (cs : Classes) (tests : Tests test cs) (law : Lawful p r s m false) (inside : within s cs ≡ true) (away : apart s m ≡ true) where
  turns_lawful : (n : ℕ) (found : List A) → Lawful (at_most p n found) (turns test r n found) s (cs ++ m) true
  unfolding turns
  turns_lawful zero found = weaken s (cs ++ m) true (pure_lawful found) (λ kind h. cc) (λ kind h. refl) (λ h. h)
  turns_lawful (suc n) found =
      weaken s (cs ++ m) true
      (or_lawful test cs tests
      (then_lawful {p = p} {q = λ a. at_most p n (found ++ a ∷ [])} {r = r} {f = λ a. turns test r n (found ++ a ∷ [])} law (λ a. turns_lawful n (found ++ a ∷ [])) away)
      (pure_lawful found) inside refl)
      (lone_starts s) (turns_more cs m) (λ h. h)

-- ---- so many times is often enough

module _ {A : Type 0} (p : Piece A) (some : (a : A) → p.Spells a [] → ⊥) where
  fewer : (a : A) (ts us : Tokens) (n : ℕ) → p.Spells a ts → length (ts ++ us) ≤ suc n → length us ≤ n
  fewer a [] us n spelled short = absurd (some a spelled)
  fewer a (t ∷ ts) us n spelled short = omega (arith, length-append ts us)

  none_left : (a : A) (ts us : Tokens) → p.Spells a ts → length (ts ++ us) ≤ 0 → ⊥
  none_left a [] us spelled short = some a spelled
  none_left a (t ∷ ts) us spelled short = omega arith

  found_spells : (n : ℕ) (found more : List A) (ts : Tokens) → length ts ≤ n → ManySpells p more ts → (at_most p n found).Spells (found ++ more) ts
  found_spells zero found xs all short no_more = subst (λ (ys : List A). NothingSpells found ys []) (sym (append-nil found)) nothing
  found_spells (suc n) found xs all short no_more = the_other (subst (λ (ys : List A). NothingSpells found ys []) (sym (append-nil found)) nothing)
  found_spells zero found xs all short (one_more {a = a} {ts = ts} {us = us} one more) = absurd (none_left a ts us one short)
  found_spells (suc n) found xs all short (one_more {a = a} {more = ys} {ts = ts} {us = us} one more) =
      the_one (then_spells one
      (subst (λ (zs : List A). (at_most p n (found ++ a ∷ [])).Spells zs us) (append_assoc found (a ∷ []) ys)
      (found_spells n (found ++ a ∷ []) ys us (fewer a ts us n one short) more)))

  found_front : (n : ℕ) (found : List A) (ts : Tokens) → length ts ≤ n → ManyFront p ts → (at_most p n found).Front ts
  found_front zero found all short before_many = before_nothing
  found_front (suc n) found all short before_many = in_other before_nothing
  found_front zero found [] short (in_next front) = before_nothing
  found_front zero found (t ∷ ts) short (in_next front) = absurd (omega arith)
  found_front (suc n) found ts short (in_next front) = in_one (in_first front)
  found_front zero found all short (after_next {a = a} {ts = ts} {us = us} one more) = absurd (none_left a ts us one short)
  found_front (suc n) found all short (after_next {a = a} {ts = ts} {us = us} one more) =
      in_one (in_second one (found_front n (found ++ a ∷ []) us (fewer a ts us n one short) more))

-- ---- and never too often

-- what is found behind what was found before
pub record Found {A : Type 0} (p : Piece A) (found all : List A) (ts : Tokens) : Type 0 where
  pub more : List A
  pub whole : found ++ more ≡ all
  pub spells : ManySpells p more ts

module _ {A : Type 0} (p : Piece A) where
  nothing_found : (found all : List A) (ts : Tokens) → NothingSpells found all ts → Found p found all ts
  nothing_found found all ts nothing = record { more = []; whole = append-nil found; spells = no_more }

  found_next : (found all : List A) (a : A) (ts us : Tokens) → p.Spells a ts → Found p (found ++ a ∷ []) all us → Found p found all (ts ++ us)
  found_next found all a ts us one next = record { more = a ∷ next.more; whole = sym (append_assoc found (a ∷ []) next.more) ∙ next.whole; spells = one_more one next.spells }

  spells_found : (n : ℕ) (found all : List A) (ts : Tokens) → (at_most p n found).Spells all ts → Found p found all ts
  spells_found zero found all ts h = nothing_found found all ts h
  spells_found (suc n) found all ts (the_one (then_spells {a = a} {ts = us} {us = vs} one more)) = found_next found all a us vs one (spells_found n (found ++ a ∷ []) all vs more)
  spells_found (suc n) found all ts (the_other h) = nothing_found found all ts h

  nothing_front : (ts : Tokens) → NothingFront ts → ManyFront p ts
  nothing_front ts before_nothing = before_many

  front_found : (n : ℕ) (found : List A) (ts : Tokens) → (at_most p n found).Front ts → ManyFront p ts
  front_found zero found ts h = nothing_front ts h
  front_found (suc n) found ts (in_one (in_first front)) = in_next front
  front_found (suc n) found ts (in_one (in_second {a = a} {us = vs} one more)) = after_next one (front_found n (found ++ a ∷ []) vs more)
  front_found (suc n) found ts (in_other h) = nothing_front ts h

  found_spelled : (all : List A) (ts : Tokens) → Found p [] all ts → ManySpells p all ts
  found_spelled all ts h = subst (λ (xs : List A). ManySpells p xs ts) h.whole h.spells

  many_bounded : ((a : A) → p.Spells a [] → ⊥) → Bounded (P.many p) (λ n. at_most p n [])
  many_bounded some = record {
    spells = λ n all ts short h. found_spells p some n [] all ts short h;
    spelled = λ n all ts h. found_spelled all ts (spells_found n [] all ts h);
    fronts = λ n ts short h. found_front p some n [] ts short h;
    front = λ n ts h. front_found n [] ts h;
  }

-- ---- the laws

many_read : {A : Type 0} (test : TokenKind → Bool) (r : Reader A) (i : Input) → turns test r (length i.ahead) [] i ≡ many test r i
unfolding many
many_read test r i = refl

-- Nothing that the piece begins with goes on with one.
pub many_lawful : {A : Type 0} {p : Piece A} {r : Reader A} {s m : Classes} (test : TokenKind → Bool) (cs : Classes) → Tests test cs → Lawful p r s m false → within s cs ≡ true → apart s m ≡ true → Lawful (P.many p) (R.many test r) s (cs ++ m) true
many_lawful {A} {p} {r} {s} {m} test cs tests law inside away =
    lawful_read (many_read test r)
    (fuel_lawful (many_bounded p (λ a h. let wrong : false ≡ true = law.not_empty a h in absurd (cc)))
    (λ n. turns_lawful test cs tests law inside away n []))
