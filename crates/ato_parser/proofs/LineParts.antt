-- The parts of a line, beside a loop over them.
use Rattle.std.proofs.Common.{◌≡◌, ℕ, zero, suc, ◌+◌, ◌-◌, ◌<◌, ◌≤◌, Bool, true, false, if◌then◌else◌, List, [], ◌∷◌, ◌++◌, length, Option, Some, None, is_some, Ok, Err, refl, sym, ap, ◌∙◌, append_assoc}
use Rattle.ato_base.specs.declared.keywords.Mark.TheVariants as marks
use Rattle.ato_base.specs.declared.tokens.TokenKind.{TokenKind}
use Rattle.ato_parser.specs.Kinds.{is_mark}
use Rattle.ato_parser.specs.Input.{Input, Outcome, Reader, and_then, pure, one_by, kind_of, past, endings, ended}
use Rattle.ato_parser.specs.Parts.{parts_of}
use Rattle.ato_parser.proofs.TurnLemmas.{ended_more, ended_last, ended_end, ended_out}

-- the parts, and whether something stands at the end
abbrev pub tailed : {A : Type 0} → Outcome (List A × Option Unit) → Outcome (List A × Bool)
tailed o = and_then o (λ rest. pure (rest.0, is_some rest.1))

module _ {A : Type 0} (starts : TokenKind → Bool) (part : Reader A) where
  -- what is found in so many turns, behind what was found
  abbrev pub rest_from : ℕ → List A → Reader (List A × Option Unit)
  rest_from n found = endings marks.Semicolon starts part (pure (tt {0})) n found

  -- ---- a first part before the loop

  abbrev before_rest : List A → Outcome (List A × Option Unit) → Outcome (List A × Bool)
  before_rest before o = and_then o (λ rest. pure (before ++ rest.0, is_some rest.1))

  abbrev part_or_end : ℕ → List A → Input → Bool → Outcome A → Outcome (List A × Option Unit)
  part_or_end n found j such o = if such then and_then o (λ a. rest_from n (found ++ a ∷ [])) else Ok ((found, Some tt), j)

  abbrev turn_or_end : ℕ → List A → Input → Bool → Outcome (List A × Option Unit)
  turn_or_end n found i stands =
      if stands
      then and_then (one_by (if stands then Some (tt {0}) else None) i) (λ mark j. part_or_end n found j (starts (kind_of j.ahead)) (part j))
      else Ok ((found, None), i)

  Moves : List A → ℕ → Type 0
  Moves before n = (later : List A) (k : Input) → before_rest before (rest_from n later k) ≡ tailed (rest_from n (before ++ later) k)

  part_before : (before found : List A) (n : ℕ) (j : Input) (such : Bool) (o : Outcome A) → Moves before n → before_rest before (part_or_end n found j such o) ≡ tailed (part_or_end n (before ++ found) j such o)
  unfolding Moves
  part_before before found n j false o h = refl
  part_before before found n j true (Err e) h = refl
  part_before before found n j true (Ok p) h = h (found ++ p.0 ∷ []) p.1 ∙ ap (λ xs. tailed (rest_from n xs p.1)) (sym (append_assoc before found (p.0 ∷ [])))

  turn_before : (before found : List A) (n : ℕ) (i : Input) (stands : Bool) → Moves before n → before_rest before (turn_or_end n found i stands) ≡ tailed (turn_or_end n (before ++ found) i stands)
  turn_before before found n i false h = refl
  turn_before before found n i true h = let j = past i.last i.ahead in part_before before found n j (starts (kind_of j.ahead)) (part j) h

  rest_before : (before : List A) (n : ℕ) → Moves before n
  unfolding endings Moves
  rest_before before zero = λ found i. refl
  rest_before before (suc n) = λ found i. turn_before before found n i (is_mark marks.Semicolon (kind_of i.ahead)) (rest_before before n)

  pub parts_begin : (first : A) (i : Input) → parts_of starts part first i ≡ tailed (rest_from (length i.ahead) (first ∷ []) i)
  unfolding ended Moves
  parts_begin first i = rest_before (first ∷ []) (length i.ahead) [] i

  -- ---- the turns

  module _ {x : Outcome (List A × Bool)} (n at : ℕ) (found : List A) (i : Input) (e : x ≡ tailed (rest_from (n - at) found i)) where
    pub parts_more : at < n → is_mark marks.Semicolon (kind_of i.ahead) ≡ true → starts (kind_of (past i.last i.ahead).ahead) ≡ true → x ≡ tailed (and_then (part (past i.last i.ahead)) (λ a. rest_from (n - (at + 1)) (found ++ a ∷ [])))
    parts_more below stands such = e ∙ ap tailed (ended_more marks.Semicolon starts part (pure (tt {0})) n at found i refl below stands such)

    pub parts_tail : at < n → is_mark marks.Semicolon (kind_of i.ahead) ≡ true → starts (kind_of (past i.last i.ahead).ahead) ≡ false → x ≡ Ok ((found, true), past i.last i.ahead)
    parts_tail below stands other = e ∙ ap tailed (ended_last marks.Semicolon starts part (pure (tt {0})) n at found i refl below stands other)

    pub parts_end : is_mark marks.Semicolon (kind_of i.ahead) ≡ false → x ≡ Ok ((found, false), i)
    parts_end none = e ∙ ap tailed (ended_end marks.Semicolon starts part (pure (tt {0})) (n - at) found i refl none)

    pub parts_out : n ≤ at → x ≡ Ok ((found, false), i)
    parts_out done = e ∙ ap tailed (ended_out marks.Semicolon starts part (pure (tt {0})) n at found i refl done)
