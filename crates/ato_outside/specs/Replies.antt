-- Calls of a shelf, one after another.
use Rattle.std.specs.Prelude.{ℕ, List, [], ◌∷◌, Result}
use Rattle.ato_outside.specs.declared.shelf.Got.{Got}
use Rattle.ato_outside.specs.declared.shelf.ShelfError.{ShelfError}

-- what a shelf replies: the name that it was asked for, the answer, and the bytes that came with it
pub record Reply : Type 0 where
  pub name : List ℕ
  pub answer : Result Got ShelfError
  pub bytes : List ℕ

-- Calls under a limit, one after another and with these replies, lead from one state of a shelf to another. No other call is made.
pub data Asks {S : Type 0} (gets : S → List ℕ → ℕ → Result Got ShelfError → List ℕ → S → Type 0) (limit : ℕ) : S → List Reply → S → Type 0 where
  no_call : {s : S} → Asks gets limit s [] s
  one_call : {s t u : S} {reply : Reply} {more : List Reply} → gets s reply.name limit reply.answer reply.bytes t → Asks gets limit t more u
      → Asks gets limit s (reply ∷ more) u
