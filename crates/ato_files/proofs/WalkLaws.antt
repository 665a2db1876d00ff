-- Loading in code goes from stage to stage.
use Rattle.std.proofs.Common.{◌≡◌, ℕ, suc, ◌-◌, Bool, true, false, List, [], ◌∷◌, ◌++◌, length, drop, Option, Some, None, refl, sym, ap, subst, ◌∙◌, nat_lt, if◌then◌else◌, arith, Result, Ok, Err, IfErr, OnOk, ◌⊎◌, inl, inr}
use Rattle.std.specs.Prelude.{slice_get}
use Rattle.ato_base.specs.NameTable.{with_name}
use Rattle.ato_base.specs.declared.faults.Fault.{Fault}
use Rattle.ato_ast.specs.declared.names.Quoted.{Quoted}
use Rattle.ato_outside.specs.Files.{Files}
use Rattle.ato_outside.specs.Replies.{Reply, Asks}
use Rattle.ato_outside.specs.declared.shelf.Got.{Got}
use Rattle.ato_outside.specs.declared.shelf.ShelfError.{ShelfError}
use Rattle.ato_base.specs.declared.memory.NoMemory.{NoMemory}
use Rattle.ato_files.specs.declared.program.SourceFile.{SourceFile}
use Rattle.ato_files.specs.declared.fetching.Fetched.{Fetched}
use Rattle.ato_files.specs.declared.fetching.Fetched.TheVariants as fetched
use Rattle.ato_files.specs.declared.walking.Stop.{Stop}
use Rattle.ato_files.specs.declared.walking.Stop.TheVariants as stops
use Rattle.ato_files.specs.declared.walking.Walk.{Walk}
use Rattle.ato_files.specs.Answers.{ForHeld, IsErrWith}
use Rattle.ato_files.specs.Fetching.{IsFetched, CountsMisses, IsMissing, IsOut}
use Rattle.ato_files.specs.Files.{known, next_name}
use Rattle.ato_files.specs.Lists.{text_at}
use Rattle.ato_files.specs.LoadSteps.{next_number, Adds, IsNotAdded, IsWalk, HasWalk, FaultBehind, UnreadBehind, HaltedBehind, StopsBehind, LoadsOne, IsMissingStop}
use Rattle.ato_files.specs.Loading.{Held, Loaded, next_id, most_bytes, most_files, overflow, LeadsOn}
use Rattle.ato_files.specs.Replies.{whole, ForReplies}
use Rattle.ato_files.specs.Walks.{HasNext, HasNoNext, tree_mentions, known_then}
use Rattle.ato_files.proofs.FileLaws.{known_more}
use Rattle.ato_files.proofs.FaultKindLaws.{inside_not}
use Rattle.ato_files.proofs.HeldLaws.{reached_next}
use Rattle.ato_files.proofs.LoadLaws.{IsNextRead, next_read, behind_read, halted_read, inside, no_file, no_room, unread, for_each}

-- where no string is one with which too many are known, not too many are known behind them
few_then : (most : ℕ) (bytes : List ℕ) (names : List (List ℕ)) (texts : List Quoted) → nat_lt most (length names) ≡ false → overflow most bytes names texts ≡ None
    → nat_lt most (length (known_then bytes names texts)) ≡ false
few_then most bytes names [] few none = few
few_then most bytes names (text ∷ texts) few none = by (nat_lt most (length (with_name names (text_at bytes text.contents)))) refl none (few_then most bytes (with_name names (text_at bytes text.contents)) texts)
  where
    by : (b : Bool) → nat_lt most (length (with_name names (text_at bytes text.contents))) ≡ b
        → (if b then Some text else overflow most bytes (with_name names (text_at bytes text.contents)) texts) ≡ None
        → (nat_lt most (length (with_name names (text_at bytes text.contents))) ≡ false → overflow most bytes (with_name names (text_at bytes text.contents)) texts ≡ None
        → nat_lt most (length (known_then bytes (with_name names (text_at bytes text.contents)) texts)) ≡ false)
        → nat_lt most (length (known_then bytes (with_name names (text_at bytes text.contents)) texts)) ≡ false
    by true e none more = absurd (cc)
    by false e none more = more e none

module _ (told : Option Files) (entry : List ℕ) (walk : Walk) (l : Loaded) (is : IsWalk told entry walk l) where
  same_number : next_number walk ≡ next_id l
  same_number = ap (λ (files : List SourceFile). record { 0 = length files }) (sym is.files_are)

  pub same_files : drop 1 walk.files ≡ l.files
  same_files = ap (drop 1) (sym is.files_are)

  less : length l.files ≡ suc (length l.files) - 1
  less = omega arith

  pub next_is : next_name entry l.files ≡ slice_get walk.known (length walk.files - 1)
  next_is = ap (slice_get (known entry l.files)) less ∙ ap (λ (files : List SourceFile). slice_get (known entry l.files) (length files - 1)) is.files_are ∙ ap (λ names. slice_get names (length walk.files - 1)) is.known_are

  -- ---- a file is added

  module _ (name bytes : List ℕ) (new : Walk) (a : Adds name bytes walk new) where
    file : SourceFile
    file = record { name = name; bytes = bytes; tree = a.tree }

    then_loaded : Loaded
    then_loaded = record { names = new.names; library = l.library; files = l.files ++ file ∷ [] }

    next : HasNext bytes (next_id l) l.names new.names (known entry l.files) new.known a.tree
    next =
        subst (λ number. HasNext bytes number l.names new.names (known entry l.files) new.known a.tree) same_number
        (subst (λ names. HasNext bytes (next_number walk) names new.names (known entry l.files) new.known a.tree) (sym is.names_are)
        (subst (λ names. HasNext bytes (next_number walk) walk.names new.names names new.known a.tree) (sym is.known_are) a.next))

    leads : (held : Held) → IsNextRead entry l name bytes held → LeadsOn held entry l then_loaded
    unfolding then_loaded file
    leads held r = record {
      tokens = next.has.tokens;
      file = file;
      next = record { are = record { read = r.read; lexed = next.has.lexed }; tree = next.has.parsed };
      few = next.few;
      library = refl;
      files = refl;
    }

    knows : known entry (l.files ++ file ∷ []) ≡ new.known
    unfolding file
    knows = known_more entry l.files file ∙ sym next.known

    pub grown : ForHeld told (λ held. IsNextRead entry l name bytes held) → HasWalk told entry new
    unfolding then_loaded file
    grown h = (
      then_loaded,
      record {
        names_are = refl;
        files_are = ap (λ (files : List SourceFile). files ++ file ∷ []) is.files_are ∙ sym a.files;
        known_are = knows;
        few = ap (λ (names : List (List ℕ)). nat_lt most_files (length names)) (sym knows ∙ known_more entry l.files file)
            ∙ few_then most_files bytes (known entry l.files) (tree_mentions a.tree) (ap (λ (names : List (List ℕ)). nat_lt most_files (length names)) is.known_are ∙ is.few) next.few;
        reached = for_each entry l name told (λ held r. reached_next entry held l then_loaded r.reached (leads held r)) h;
      },
    )

  -- ---- a file is not added

  no_next : (name bytes : List ℕ) (f : Fault) → HasNoNext bytes (next_number walk) walk.names walk.known f → HasNoNext bytes (next_id l) l.names (known entry l.files) f
  no_next name bytes f none =
      subst (λ number. HasNoNext bytes number l.names (known entry l.files) f) same_number
      (subst (λ names. HasNoNext bytes (next_number walk) names (known entry l.files) f) (sym is.names_are)
      (subst (λ names. HasNoNext bytes (next_number walk) walk.names names f) (sym is.known_are) none))

  pub not_added : (name bytes : List ℕ) (stop : Stop) → IsNotAdded name bytes walk stop → ForHeld told (λ held. IsNextRead entry l name bytes held) → StopsBehind told entry l stop (whole name bytes ∷ [])
  not_added name bytes (stops.Fault f None) none h = elim none [ ]
  not_added name bytes (stops.Fault f (Some source)) none h =
      for_each entry l name told (λ held r. subst (λ s. FaultBehind held entry l f (Some s) (whole name bytes ∷ [])) (sym none.0)
      (behind_read entry l name bytes held f r (inside entry l name bytes held f r.read (no_next name bytes f none.1)))) h
  not_added name bytes (stops.Read other) none h = elim none [ ]
  not_added name bytes stops.NoMemory none h = for_each entry l name told (λ held r. halted_read entry l name bytes held r) h

  -- ---- what was fetched for the next name

  module _ (name : List ℕ) (called : next_name entry l.files ≡ Some name) (text : List ℕ) (is_name : text ≡ name) (files : List SourceFile) (are_files : files ≡ drop 1 walk.files) where
    -- it was fetched at the next name, behind the loaded files
    at_next : (r : Result Fetched NoMemory) (replies : List Reply) → IsFetched told text files r replies → IsFetched told name l.files r replies
    at_next r replies f = subst (λ fs. IsFetched told name fs r replies) (are_files ∙ same_files) (subst (λ n. IsFetched told n files r replies) is_name f)

    pub fault_fetched : (f : Fault) (replies : List Reply) → IsFetched told text files (Ok (fetched.Fault f)) replies → ForHeld told (λ held. FaultBehind held entry l f None replies)
    fault_fetched f replies none = no_file entry l name told f replies called is.reached (at_next (Ok (fetched.Fault f)) replies none)

    pub failed_fetched : (replies : List Reply) → IsFetched told text files (Ok fetched.Failed) replies → ForHeld told (λ held. UnreadBehind held entry l name replies)
    failed_fetched replies failed = let at = at_next (Ok fetched.Failed) replies failed in unread entry l name told replies called at.0 is.reached at.1

    pub halted_fetched : (e : NoMemory) (replies : List Reply) → IsFetched told text files (Err e) replies → ForHeld told (λ held. HaltedBehind held entry l replies)
    halted_fetched e replies out = no_room entry l name told replies called is.reached (at_next (Err e) replies out)

    read_fetched : (bytes : List ℕ) (replies : List Reply) → IsFetched told text files (Ok (fetched.Whole bytes)) replies → ForHeld told (λ held. IsNextRead entry l name bytes held)
    read_fetched bytes replies given = let at = at_next (Ok (fetched.Whole bytes)) replies given in next_read entry l name told bytes called at.0 is.reached at.1

    pub grown_fetched : {A : Type 0} (bytes : List ℕ) (replies : List Reply) (new : Walk) (r : Result A Stop) → IsFetched told text files (Ok (fetched.Whole bytes)) replies → OnOk r (Adds name bytes walk new)
        → OnOk r (HasWalk told entry new)
    grown_fetched bytes replies new (Ok a) given adds = grown name bytes new adds (read_fetched bytes replies given)
    grown_fetched bytes replies new (Err stop) given adds = tt

    pub stopped_fetched : {A : Type 0} (bytes : List ℕ) (replies : List Reply) (r : Result A Stop) → IsFetched told text files (Ok (fetched.Whole bytes)) replies → IfErr r (IsNotAdded name bytes walk)
        → IfErr r (λ stop. StopsBehind told entry l stop replies)
    stopped_fetched bytes replies (Ok a) given none = tt
    stopped_fetched bytes replies (Err stop) given none =
        let at = at_next (Ok (fetched.Whole bytes)) replies given in
        subst (StopsBehind told entry l stop) (sym at.2) (not_added name bytes stop none (read_fetched bytes replies given))

-- the replies of the calls for a file that is added, or not
module _ {S : Type 0} (gets : S → List ℕ → ℕ → Result Got ShelfError → List ℕ → S → Type 0) (old new : S) where
  pub loads_one : {A : Type 0} (told : Option Files) (text name bytes : List ℕ) (files : List SourceFile) (walk grown : Walk) (r : Result A Stop) → text ≡ name
      → ForReplies gets old new (IsFetched told text files (Ok (fetched.Whole bytes))) → OnOk r (Adds name bytes walk grown) → OnOk r (LoadsOne gets old new walk.files grown.files)
  loads_one told text name bytes files walk grown (Ok a) t f adds = record {
    file = record { name = name; bytes = bytes; tree = adds.tree };
    files_are = adds.files;
    asks = subst (λ replies. Asks gets most_bytes old replies new) (f.is.2 ∙ ap (λ n. whole n bytes ∷ []) t) f.asks;
  }
  loads_one told text name bytes files walk grown (Err stop) t f adds = tt

  pub stops_with : {A : Type 0} (told : Option Files) (entry : List ℕ) (l : Loaded) (r : Result A Stop) (Is : List Reply → Type 0) → ForReplies gets old new Is
      → ((replies : List Reply) → Is replies → IfErr r (λ stop. StopsBehind told entry l stop replies)) → IfErr r (λ stop. ForReplies gets old new (StopsBehind told entry l stop))
  stops_with told entry l (Ok a) Is f each = tt
  stops_with told entry l (Err stop) Is f each = record { replies = f.replies; asks = f.asks; is = each f.replies f.is }

-- ---- no fault of a file that was read is that it is missing

not_missing : (name bytes : List ℕ) (walk : Walk) (stop : Stop) → IsNotAdded name bytes walk stop → IsMissingStop stop → ⊥
not_missing name bytes walk (stops.Fault f None) none is = none
not_missing name bytes walk (stops.Fault f (Some source)) none is = inside_not bytes (next_number walk) walk.names walk.known f none.1 is
not_missing name bytes walk (stops.Read other) none is = is
not_missing name bytes walk stops.NoMemory none is = is

never_missing : {A : Type 0} (name bytes : List ℕ) (walk : Walk) (r : Result A Stop) → IfErr r (IsNotAdded name bytes walk) → IsErrWith IsMissingStop r → ⊥
never_missing name bytes walk (Ok a) none is = is
never_missing name bytes walk (Err stop) none is = not_missing name bytes walk stop none is

pub misses_fetched : {A : Type 0} (before now : ℕ) (Plain Other Out : Type 0) (name bytes : List ℕ) (walk : Walk) (r : Result A Stop) (f : Fetched) → f ≡ fetched.Whole bytes
    → CountsMisses before now Other (IsMissing (Ok f)) (IsOut (Ok f)) → IfErr r (IsNotAdded name bytes walk) → CountsMisses before now Plain (IsErrWith IsMissingStop r) Out
misses_fetched before now Plain Other Out name bytes walk r f is counts none = record {
  later = counts.later;
  rose = λ missing plain. absurd (never_missing name bytes walk r none missing);
  only = λ less. absurd (no_miss (subst (λ g. IsMissing (Ok g) ⊎ IsOut (Ok g)) is (counts.only less)));
}
  where
    no_miss : ⊥ ⊎ ⊥ → ⊥
    no_miss (inl a) = a
    no_miss (inr a) = a
