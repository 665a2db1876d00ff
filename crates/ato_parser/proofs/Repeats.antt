-- Loops that begin with a first value, and loops whose turns begin with a mark.
use Rattle.std.proofs.Common.{◌≡◌, ℕ, zero, suc, ◌+◌, ◌-◌, ◌<◌, Bool, true, false, if◌then◌else◌, List, [], ◌∷◌, ◌++◌, length, Ok, Err, refl, sym, ap, ◌∙◌, append_assoc}
use Rattle.ato_base.specs.declared.keywords.Mark.{Mark}
use Rattle.ato_base.specs.declared.tokens.TokenKind.{TokenKind}
use Rattle.ato_parser.specs.Kinds.{is_mark}
use Rattle.ato_parser.specs.Input.{Input, Outcome, Reader, and_then, ◌>>◌, pure, kind_of, past, turns, many, mark}
use Rattle.ato_parser.specs.Parts.{more_of}
use Rattle.ato_parser.proofs.TurnLemmas.{many_more}

-- ---- turns that begin with a mark

-- behind a mark that stands there
past_mark : {A : Type 0} (m : Mark) (r : Reader A) (i : Input) → is_mark m (kind_of i.ahead) ≡ true → (mark m >> r) i ≡ r (past i.last i.ahead)
past_mark m r i h = rw h

pub marked_more : {A : Type 0} (m : Mark) (r : Reader A) {x : Outcome (List A)} (n at : ℕ) (found : List A) (i : Input) → x ≡ turns (is_mark m) (mark m >> r) (n - at) found i → at < n → is_mark m (kind_of i.ahead) ≡ true → x ≡ and_then (r (past i.last i.ahead)) (λ a. turns (is_mark m) (mark m >> r) (n - (at + 1)) (found ++ a ∷ []))
marked_more m r n at found i e below stands =
    many_more (is_mark m) (mark m >> r) n at found i e below stands ∙ ap (λ o. and_then o (λ a. turns (is_mark m) (mark m >> r) (n - (at + 1)) (found ++ a ∷ []))) (past_mark m r i stands)

-- ---- a first value before the turns

module _ {A : Type 0} (test : TokenKind → Bool) (r : Reader A) (before : List A) where
  turn_before : (n : ℕ) (found : List A) (i : Input) (more : Bool) (o : Outcome A) → ((later : List A) (j : Input) → and_then (turns test r n later j) (λ more. pure (before ++ more)) ≡ turns test r n (before ++ later) j) → and_then (if more then and_then o (λ a. turns test r n (found ++ a ∷ [])) else Ok (found, i)) (λ more. pure (before ++ more)) ≡ (if more then and_then o (λ a. turns test r n ((before ++ found) ++ a ∷ [])) else Ok (before ++ found, i))
  turn_before n found i false o h = refl
  turn_before n found i true (Err e) h = refl
  turn_before n found i true (Ok p) h = h (found ++ p.0 ∷ []) p.1 ∙ ap (λ xs. turns test r n xs p.1) (sym (append_assoc before found (p.0 ∷ [])))

  turns_before : (n : ℕ) (found : List A) (i : Input) → and_then (turns test r n found i) (λ more. pure (before ++ more)) ≡ turns test r n (before ++ found) i
  unfolding turns
  turns_before zero found i = refl
  turns_before (suc n) found i = turn_before n found i (test (kind_of i.ahead)) (r i) (turns_before n)

pub begins : {A : Type 0} (test : TokenKind → Bool) (r : Reader A) (first : A) (i : Input) → more_of test r first i ≡ turns test r (length i.ahead) (first ∷ []) i
unfolding many
begins test r first i = turns_before test r (first ∷ []) (length i.ahead) [] i
