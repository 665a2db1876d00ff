-- A reader whose turns are bounded by the tokens that are left.
use Rattle.std.proofs.Common.{◌≡◌, ℕ, ◌≤◌, Bool, [], ◌∷◌, ◌++◌, length, arith, length-append, ◌⊎◌, inl, inr}
use Rattle.ato_parser.specs.declared.stop.Stop.{Stop}
use Rattle.ato_parser.specs.Tokens.{Tokens}
use Rattle.ato_parser.specs.Pieces.{Piece}
use Rattle.ato_parser.specs.Input.{Input, Reader}
use Rattle.ato_parser.proofs.Classes.{Classes}
use Rattle.ato_parser.proofs.Lawful.{Spelled, StopsAt, Lawful}

-- A piece is the same as each of a row, on so few tokens.
pub record Bounded {A : Type 0} (p : Piece A) (by : ℕ → Piece A) : Type 0 where
  pub spells : (n : ℕ) (a : A) (ts : Tokens) → length ts ≤ n → p.Spells a ts → (by n).Spells a ts
  pub spelled : (n : ℕ) (a : A) (ts : Tokens) → (by n).Spells a ts → p.Spells a ts
  pub fronts : (n : ℕ) (ts : Tokens) → length ts ≤ n → p.Front ts → (by n).Front ts
  pub front : (n : ℕ) (ts : Tokens) → (by n).Front ts → p.Front ts

module _ {A : Type 0} {p : Piece A} {by : ℕ → Piece A} {r : ℕ → Reader A} {s m : Classes} {e : Bool}
    (same : Bounded p by) (law : (n : ℕ) → Lawful (by n) (r n) s m e) where
  front_within : (ts rest : Tokens) → length ts ≤ length (ts ++ rest)
  front_within ts rest = omega (arith, length-append ts rest)

  fuel_spelled : (n : ℕ) (i j : Input) (a : A) → Spelled (by n) i a j → Spelled p i a j
  fuel_spelled n i j a h = record { taken = h.taken; split = h.split; last = h.last; spells = same.spelled n a h.taken h.spells }

  fuel_fits : (n : ℕ) (ts : Tokens) → (ts ≡ []) ⊎ (by n).Front ts → (ts ≡ []) ⊎ p.Front ts
  fuel_fits n ts (inl none) = inl none
  fuel_fits n ts (inr front) = inr (same.front n ts front)

  fuel_stopped : (n : ℕ) (i : Input) (stop : Stop) → StopsAt (by n) i stop → StopsAt p i stop
  fuel_stopped n i stop h = record { front = h.front; rest = h.rest; split = h.split; left = h.left; fits = fuel_fits n h.front h.fits }

  pub fuel_lawful : Lawful p (λ i. r (length i.ahead) i) s m e
  fuel_lawful = record {
    begins = λ t ts front. (law (length (t ∷ ts))).begins t ts (same.fronts (length (t ∷ ts)) (t ∷ ts) (omega arith) front);
    not_empty = λ a spelled. (law 0).not_empty a (same.spells 0 a [] (omega arith) spelled);
    whole = λ a ts spelled. same.front (length ts) ts ((law (length ts)).whole a ts (same.spells (length ts) a ts (omega arith) spelled));
    complete = λ a ts rest last spelled behind. (law (length (ts ++ rest))).complete a ts rest last (same.spells (length (ts ++ rest)) a ts (front_within ts rest) spelled) behind;
    sound = λ i j a h. fuel_spelled (length i.ahead) i j a ((law (length i.ahead)).sound i j a h);
    stops = λ i stop h. fuel_stopped (length i.ahead) i stop ((law (length i.ahead)).stops i stop h);
    passes = λ ts rest last front. (law (length (ts ++ rest))).passes ts rest last (same.fronts (length (ts ++ rest)) ts (front_within ts rest) front);
  }
