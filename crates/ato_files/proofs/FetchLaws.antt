-- What was fetched, by what the shelf replied.
use Rattle.std.proofs.Common.{◌≡◌, ℕ, true, false, List, [], ◌∷◌, Option, refl, sym, ap, subst, Result, Ok, Err}
use Rattle.ato_base.specs.declared.faults.Fault.{Fault}
use Rattle.ato_base.specs.declared.faults.FaultKind.TheVariants as kinds
use Rattle.ato_base.specs.declared.memory.NoMemory.{NoMemory}
use Rattle.ato_outside.specs.Files.{Files}
use Rattle.ato_outside.specs.Replies.{Asks, no_call, one_call}
use Rattle.ato_outside.specs.Shelf.{Fits}
use Rattle.ato_outside.specs.declared.shelf.Got.{Got}
use Rattle.ato_outside.specs.declared.shelf.Got.TheVariants as got
use Rattle.ato_outside.specs.declared.shelf.ShelfError.{ShelfError}
use Rattle.ato_words.specs.PlainNames.{is_plain}
use Rattle.ato_files.specs.declared.fetching.Found.{Found}
use Rattle.ato_files.specs.declared.fetching.Found.TheVariants as found
use Rattle.ato_files.specs.declared.fetching.Fetched.TheVariants as fetched
use Rattle.ato_files.specs.declared.program.SourceFile.{SourceFile}
use Rattle.ato_files.specs.Fetching.{IsFetched, IsFoundBy, NoFile, found_reply, not_plain, missing, too_long, not_asked, in_the_call, was_missing, was_long}
use Rattle.ato_files.specs.Loading.{file_fault, most_bytes}
use Rattle.ato_files.specs.Replies.{bare, whole, ForReplies}

-- one call, by its answer
module _ {S : Type 0} (gets : S → List ℕ → ℕ → Result Got ShelfError → List ℕ → S → Type 0) (old new : S) (name bytes : List ℕ) where
  record IsCall (answer : Result Got ShelfError) : Type 0 where
    room : Fits most_bytes answer bytes
    asked : gets old name most_bytes answer bytes new

  call : (answer known : Result Got ShelfError) → answer ≡ known → Fits most_bytes answer bytes → gets old name most_bytes answer bytes new → IsCall known
  call answer known e room asked = subst IsCall e (record { room = room; asked = asked })

  without : (answer : Result Got ShelfError) → bytes ≡ [] → gets old name most_bytes answer bytes new → Asks gets most_bytes old (bare name answer ∷ []) new
  without answer none asked = one_call (subst (λ b. gets old name most_bytes answer b new) none asked) no_call

  module _ (answer : Got) (room : Fits most_bytes (Ok answer) bytes) (asked : gets old name most_bytes (Ok answer) bytes new) where
    pub missing_call : answer ≡ got.Missing → Asks gets most_bytes old (bare name (Ok got.Missing) ∷ []) new
    missing_call e = let c = call (Ok answer) (Ok got.Missing) (ap Ok e) room asked in without (Ok got.Missing) c.room c.asked

    pub long_call : answer ≡ got.TooLong → Asks gets most_bytes old (bare name (Ok got.TooLong) ∷ []) new
    long_call e = let c = call (Ok answer) (Ok got.TooLong) (ap Ok e) room asked in without (Ok got.TooLong) c.room c.asked

    pub whole_call : (kept : List ℕ) → answer ≡ got.Whole → kept ≡ bytes → Asks gets most_bytes old (whole name kept ∷ []) new
    whole_call kept e same =
        let c = call (Ok answer) (Ok got.Whole) (ap Ok e) room asked in
        one_call (subst (λ b. gets old name most_bytes (Ok got.Whole) b new) (sym same) c.asked) no_call

  pub error_call : (error known : ShelfError) → Fits most_bytes (Err error) bytes → gets old name most_bytes (Err error) bytes new → error ≡ known → Asks gets most_bytes old (bare name (Err known) ∷ []) new
  error_call error known room asked e = let c = call (Err error) (Err known) (ap Err e) room asked in without (Err known) c.room c.asked

module _ {S : Type 0} (gets : S → List ℕ → ℕ → Result Got ShelfError → List ℕ → S → Type 0) (old new : S) (told : Option Files) (name : List ℕ) (files : List SourceFile) where
  -- a call was answered by this
  record IsReplied (f : Found) : Type 0 where
    asks : Asks gets most_bytes old (found_reply name (Ok f) ∷ []) new
    is : IsFoundBy told name f

  replied : (f known : Found) → f ≡ known → Asks gets most_bytes old (found_reply name (Ok f) ∷ []) new → IsFoundBy told name f → IsReplied known
  replied f known e asks is = subst IsReplied e (record { asks = asks; is = is })

  module _ (plain : is_plain name ≡ true) (f : Found) (asks : Asks gets most_bytes old (found_reply name (Ok f) ∷ []) new) (is : IsFoundBy told name f) where
    pub was_failed : f ≡ found.Failed → ForReplies gets old new (IsFetched told name files (Ok fetched.Failed))
    was_failed e = let r = replied f found.Failed e asks is in record { replies = found_reply name (Ok found.Failed) ∷ []; asks = r.asks; is = (plain, refl) }

    pub was_whole : (bytes : List ℕ) → f ≡ found.Whole bytes → ForReplies gets old new (IsFetched told name files (Ok (fetched.Whole bytes)))
    was_whole bytes e = let r = replied f (found.Whole bytes) e asks is in record { replies = found_reply name (Ok (found.Whole bytes)) ∷ []; asks = r.asks; is = (plain, r.is, refl) }

    pub is_missing : (fault : Fault) → f ≡ found.Missing → fault ≡ file_fault kinds.FileMissing name files → ForReplies gets old new (IsFetched told name files (Ok (fetched.Fault fault)))
    is_missing fault e same =
        let r = replied f found.Missing e asks is in
        let replies = found_reply name (Ok found.Missing) ∷ [] in
        record { replies = replies; asks = r.asks; is = subst (λ x. NoFile told name files x replies) (sym same) (missing plain r.is) }

    pub is_long : (fault : Fault) → f ≡ found.TooLong → fault ≡ file_fault kinds.FileTooLong name files → ForReplies gets old new (IsFetched told name files (Ok (fetched.Fault fault)))
    is_long fault e same =
        let r = replied f found.TooLong e asks is in
        let replies = found_reply name (Ok found.TooLong) ∷ [] in
        record { replies = replies; asks = r.asks; is = subst (λ x. NoFile told name files x replies) (sym same) (too_long plain r.is) }

    pub missing_out : (e : NoMemory) → f ≡ found.Missing → ForReplies gets old new (IsFetched told name files (Err e))
    missing_out e same = let r = replied f found.Missing same asks is in record { replies = found_reply name (Ok found.Missing) ∷ []; asks = r.asks; is = was_missing plain r.is }

    pub long_out : (e : NoMemory) → f ≡ found.TooLong → ForReplies gets old new (IsFetched told name files (Err e))
    long_out e same = let r = replied f found.TooLong same asks is in record { replies = found_reply name (Ok found.TooLong) ∷ []; asks = r.asks; is = was_long plain r.is }

  -- there was no memory for the call
  pub call_out : (e : NoMemory) → is_plain name ≡ true → Asks gets most_bytes old (found_reply name (Err e) ∷ []) new → ForReplies gets old new (IsFetched told name files (Err e))
  call_out e plain asks = record { replies = found_reply name (Err e) ∷ []; asks = asks; is = in_the_call plain }

-- a name that is not plain is not asked for
module _ {S : Type 0} (gets : S → List ℕ → ℕ → Result Got ShelfError → List ℕ → S → Type 0) (shelf : S) (told : Option Files) (name : List ℕ) (files : List SourceFile) where
  pub is_not_plain : (fault : Fault) → is_plain name ≡ false → fault ≡ file_fault kinds.FileMissing name files → ForReplies gets shelf shelf (IsFetched told name files (Ok (fetched.Fault fault)))
  is_not_plain fault plain same = record { replies = []; asks = no_call; is = subst (λ x. NoFile told name files x []) (sym same) (not_plain plain) }

  pub not_plain_out : (e : NoMemory) → ForReplies gets shelf shelf (IsFetched told name files (Err e))
  not_plain_out e = record { replies = []; asks = no_call; is = not_asked }
