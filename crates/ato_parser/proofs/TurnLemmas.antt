-- Recursions on a count of turns, beside loops that count up.
use Rattle.std.proofs.Common.{◌≡◌, ℕ, zero, suc, ◌+◌, ◌-◌, ◌<◌, ◌≤◌, Bool, true, false, List, [], ◌∷◌, ◌++◌, Option, Some, None, Ok, refl, ap, ◌∙◌, arith}
use Rattle.ato_base.specs.declared.keywords.Mark.{Mark}
use Rattle.ato_base.specs.declared.tokens.TokenKind.{TokenKind}
use Rattle.ato_parser.specs.Kinds.{is_mark}
use Rattle.ato_parser.specs.Input.{Input, Outcome, Reader, and_then, pure, past, kind_of, turns, endings}

-- one more turn
pub one_more : {X : Type 0} {x : X} (f : ℕ → X) (n at : ℕ) → at < n → x ≡ f (n - at) → x ≡ f (suc (n - (at + 1)))
one_more f n at below e = let turn : n - at ≡ suc (n - (at + 1)) = omega arith in e ∙ ap f turn

-- no more turns
pub no_more : {X : Type 0} {x : X} (f : ℕ → X) (n at : ℕ) → n ≤ at → x ≡ f (n - at) → x ≡ f 0
no_more f n at done e = let none : n - at ≡ 0 = omega arith in e ∙ ap f none

-- ---- a reader as often as the next token is such

module _ {A : Type 0} (test : TokenKind → Bool) (r : Reader A) where
  turn_more : (k : ℕ) (found : List A) (i : Input) → test (kind_of i.ahead) ≡ true → turns test r (suc k) found i ≡ and_then (r i) (λ a. turns test r k (found ++ a ∷ []))
  unfolding turns
  turn_more k found i such = rw such

  turn_end : (k : ℕ) (found : List A) (i : Input) → test (kind_of i.ahead) ≡ false → turns test r k found i ≡ Ok (found, i)
  unfolding turns
  turn_end zero found i other = refl
  turn_end (suc k) found i other = rw other

  turn_out : (found : List A) (i : Input) → turns test r zero found i ≡ Ok (found, i)
  unfolding turns
  turn_out found i = refl

  pub many_more : {x : Outcome (List A)} (n at : ℕ) (found : List A) (i : Input) → x ≡ turns test r (n - at) found i → at < n → test (kind_of i.ahead) ≡ true → x ≡ and_then (r i) (λ a. turns test r (n - (at + 1)) (found ++ a ∷ []))
  many_more n at found i e below such = one_more (λ k. turns test r k found i) n at below e ∙ turn_more (n - (at + 1)) found i such

  pub many_end : {x : Outcome (List A)} (k : ℕ) (found : List A) (i : Input) → x ≡ turns test r k found i → test (kind_of i.ahead) ≡ false → x ≡ Ok (found, i)
  many_end k found i e other = e ∙ turn_end k found i other

  pub many_out : {x : Outcome (List A)} (n at : ℕ) (found : List A) (i : Input) → x ≡ turns test r (n - at) found i → n ≤ at → x ≡ Ok (found, i)
  many_out n at found i e done = no_more (λ k. turns test r k found i) n at done e ∙ turn_out found i

-- ---- behind each separator a reader, at last another

module _ {A B : Type 0} (sep : Mark) (test : TokenKind → Bool) (r : Reader A) (s : Reader B) where
  one_ending : (k : ℕ) (found : List A) (i : Input) → is_mark sep (kind_of i.ahead) ≡ true → test (kind_of (past i.last i.ahead).ahead) ≡ true → endings sep test r s (suc k) found i ≡ and_then (r (past i.last i.ahead)) (λ a. endings sep test r s k (found ++ a ∷ []))
  unfolding endings
  one_ending k found i stands such = rw (stands, such)

  last_ending : (k : ℕ) (found : List A) (i : Input) → is_mark sep (kind_of i.ahead) ≡ true → test (kind_of (past i.last i.ahead).ahead) ≡ false → endings sep test r s (suc k) found i ≡ and_then (s (past i.last i.ahead)) (λ b. pure (found, Some b))
  unfolding endings
  last_ending k found i stands other = rw (stands, other)

  no_ending : (k : ℕ) (found : List A) (i : Input) → is_mark sep (kind_of i.ahead) ≡ false → endings sep test r s k found i ≡ Ok ((found, None), i)
  unfolding endings
  no_ending zero found i none = refl
  no_ending (suc k) found i none = rw none

  out_of_endings : (found : List A) (i : Input) → endings sep test r s zero found i ≡ Ok ((found, None), i)
  unfolding endings
  out_of_endings found i = refl

  pub ended_more : {x : Outcome (List A × Option B)} (n at : ℕ) (found : List A) (i : Input) → x ≡ endings sep test r s (n - at) found i → at < n → is_mark sep (kind_of i.ahead) ≡ true → test (kind_of (past i.last i.ahead).ahead) ≡ true → x ≡ and_then (r (past i.last i.ahead)) (λ a. endings sep test r s (n - (at + 1)) (found ++ a ∷ []))
  ended_more n at found i e below stands such = one_more (λ k. endings sep test r s k found i) n at below e ∙ one_ending (n - (at + 1)) found i stands such

  pub ended_last : {x : Outcome (List A × Option B)} (n at : ℕ) (found : List A) (i : Input) → x ≡ endings sep test r s (n - at) found i → at < n → is_mark sep (kind_of i.ahead) ≡ true → test (kind_of (past i.last i.ahead).ahead) ≡ false → x ≡ and_then (s (past i.last i.ahead)) (λ b. pure (found, Some b))
  ended_last n at found i e below stands other = one_more (λ k. endings sep test r s k found i) n at below e ∙ last_ending (n - (at + 1)) found i stands other

  pub ended_end : {x : Outcome (List A × Option B)} (k : ℕ) (found : List A) (i : Input) → x ≡ endings sep test r s k found i → is_mark sep (kind_of i.ahead) ≡ false → x ≡ Ok ((found, None), i)
  ended_end k found i e none = e ∙ no_ending k found i none

  pub ended_out : {x : Outcome (List A × Option B)} (n at : ℕ) (found : List A) (i : Input) → x ≡ endings sep test r s (n - at) found i → n ≤ at → x ≡ Ok ((found, None), i)
  ended_out n at found i e done = no_more (λ k. endings sep test r s k found i) n at done e ∙ out_of_endings found i

-- ---- a list that begins with an item

-- all but the first
abbrev pub rest_of : {A : Type 0} → List A → List A
rest_of [] = []
rest_of (x ∷ xs) = xs

pub begins_still : {A : Type 0} (x : A) (xs ys : List A) → xs ≡ x ∷ rest_of xs → xs ++ ys ≡ x ∷ rest_of (xs ++ ys)
begins_still x (z ∷ zs) ys e = cc
begins_still x [] ys e = cc

pub rest_grows : {A : Type 0} (x : A) (xs ys : List A) → xs ≡ x ∷ rest_of xs → rest_of (xs ++ ys) ≡ rest_of xs ++ ys
rest_grows x (z ∷ zs) ys e = refl
rest_grows x [] ys e = cc
