-- A turn of the loop that loads files.
use Rattle.std.proofs.Common.{◌≡◌, ℕ, suc, ◌-◌, ◌<◌, ◌≤◌, Bool, true, false, List, [], ◌++◌, append-nil, drop, length, Result, Option, Some, None, refl, sym, ap, subst, ◌∙◌, nat_lt, arith, ◌⊎◌, inl, inr}
use Rattle.std.specs.Prelude.{slice_get}
use Rattle.std.proofs.lemmas.Bool.Decides.{nat_tests}
use Rattle.std.proofs.lemmas.Option.{slice_get_within}
use Rattle.ato_outside.specs.Files.{Files}
use Rattle.ato_outside.specs.Causes.{Counts, Rose}
use Rattle.ato_outside.specs.Replies.{Reply, Asks}
use Rattle.ato_outside.specs.declared.shelf.Got.{Got}
use Rattle.ato_outside.specs.declared.shelf.ShelfError.{ShelfError}
use Rattle.ato_words.specs.PlainNames.{is_plain}
use Rattle.ato_files.specs.declared.program.SourceFile.{SourceFile}
use Rattle.ato_files.specs.declared.walking.Stop.{Stop}
use Rattle.ato_files.specs.declared.walking.Stop.TheVariants as stops
use Rattle.ato_files.specs.declared.walking.Walk.{Walk}
use Rattle.ato_files.specs.Answers.{CountsMissing, ForHeld, IsUnplain, IsUnplainFor, before_call}
use Rattle.ato_files.specs.Fetching.{CountsMisses}
use Rattle.ato_files.specs.Files.{next_name}
use Rattle.ato_files.specs.LoadSteps.{IsWalk, HasWalk, IsDone, IsMissingStop, FaultBehind, StopsBehind, StopsWith}
use Rattle.ato_files.specs.Loading.{Loaded, most_bytes, most_files}
use Rattle.ato_files.specs.Replies.{ForReplies, replies_of}
use Rattle.ato_files.proofs.LoadLaws.{for_each, no_reply}
use Rattle.ato_files.proofs.ReplyLaws.{joined}
use Rattle.ato_files.proofs.WalkLaws.{next_is, same_files}

-- ---- sizes

-- there is the library
pub walk_some : (told : Option Files) (entry : List ℕ) (walk : Walk) → HasWalk told entry walk → 0 < length walk.files
walk_some told entry walk h = let long : suc (length h.0.files) ≡ length walk.files = ap (λ (files : List SourceFile). length files) h.1.files_are in omega arith

at_most : (n m : ℕ) → nat_lt n m ≡ false → m ≤ n
at_most n m h = grind (arith, nat_tests)

less_than : (n m : ℕ) → nat_lt n m ≡ true → n < m
less_than n m h = grind (arith, nat_tests)

-- before a file is loaded there are no more than may be
pub walk_few : (told : Option Files) (entry : List ℕ) (walk : Walk) (name : List ℕ) → HasWalk told entry walk → slice_get walk.known (length walk.files - 1) ≡ Some name → length walk.files ≤ 256
walk_few told entry walk name h e =
    let few = at_most most_files (length walk.known) h.1.few in
    let next = slice_get_within walk.known (length walk.files - 1) name e in
    let some = walk_some told entry walk h in
    omega arith

-- ---- turns

-- a name that was taken from the known ones is the next one
called : (told : Option Files) (entry : List ℕ) (walk : Walk) (l : Loaded) (found : Option (List ℕ)) (name : Option (List ℕ)) → IsWalk told entry walk l → found ≡ slice_get walk.known (length walk.files - 1) → found ≡ name
    → next_name entry l.files ≡ name
called told entry walk l found name is taken e = next_is told entry walk l is ∙ sym taken ∙ e

-- what is not asked for has no replies
not_plain : (told : Option Files) (entry : List ℕ) (l : Loaded) (name : List ℕ) → next_name entry l.files ≡ Some name → is_plain name ≡ false → (stop : Stop) (replies : List Reply) → IsMissingStop stop
    → StopsBehind told entry l stop replies → ForHeld told (λ held. IsUnplain held entry (replies_of l.files ++ replies))
not_plain told entry l name next plain (stops.Fault f read) replies missing why =
    for_each entry l name told
    (λ held (b : FaultBehind held entry l f read replies). record {
      loaded = l;
      reached = b.reached;
      name = name;
      next = next;
      unplain = plain;
      replies_are = ap (λ more. replies_of l.files ++ more) (b.replies_are ∙ no_reply entry l name held next plain) ∙ append-nil (replies_of l.files);
    }) why
not_plain told entry l name next plain (stops.Read other) replies missing why = elim missing [ ]
not_plain told entry l name next plain stops.NoMemory replies missing why = elim missing [ ]

-- what holds of what the shelf tells now holds of what it told
module _ (told now : Option Files) (same : now ≡ told) (entry : List ℕ) (walk : Walk) (found : Option (List ℕ)) (taken : found ≡ slice_get walk.known (length walk.files - 1)) where
  pub turned : (new : Walk) (name : List ℕ) → found ≡ Some name → ((l : Loaded) → IsWalk now entry walk l → next_name entry l.files ≡ Some name → HasWalk now entry new) → HasWalk told entry walk → HasWalk told entry new
  turned new name e loads h =
      subst (λ t. HasWalk t entry new) same
      (let is = subst (λ t. IsWalk t entry walk h.0) (sym same) h.1 in loads h.0 is (called now entry walk h.0 found (Some name) is taken e))

  module _ {S : Type 0} (gets : S → List ℕ → ℕ → Result Got ShelfError → List ℕ → S → Type 0) (start between end : S) (asks : Asks gets most_bytes start (replies_of (drop 1 walk.files)) between) where
    pub stopped : (files : List SourceFile) (name : List ℕ) (stop : Stop) → found ≡ Some name → files ≡ walk.files
        → ((l : Loaded) → IsWalk now entry walk l → next_name entry l.files ≡ Some name → ForReplies gets between end (StopsBehind now entry l stop))
        → HasWalk told entry walk → ForReplies gets start end (StopsWith told entry files stop)
    stopped files name stop e kept stops h =
        let is = subst (λ t. IsWalk t entry walk h.0) (sym same) h.1 in
        let last = stops h.0 is (called now entry walk h.0 found (Some name) is taken e) in
        record {
          replies = replies_of (drop 1 walk.files) ++ last.replies;
          asks = joined gets asks last.asks;
          is = record {
            loaded = h.0;
            files_are = h.1.files_are ∙ sym kept;
            more = last.replies;
            why = subst (λ t. StopsBehind t entry h.0 stop last.replies) same last.is;
            replies_are = ap (λ (fs : List SourceFile). replies_of fs ++ last.replies) (same_files told entry walk h.0 h.1);
          };
        }

    -- the next name is not plain, where its file is missing and the count may not have risen
    pub unplain : (name : List ℕ) (stop : Stop) → found ≡ Some name → is_plain name ≡ false → IsMissingStop stop
        → ((l : Loaded) → IsWalk now entry walk l → next_name entry l.files ≡ Some name → ForReplies gets between end (StopsBehind now entry l stop))
        → HasWalk told entry walk → IsUnplainFor gets told start end entry
    unplain name stop e plain missing stops h =
        let is = subst (λ t. IsWalk t entry walk h.0) (sym same) h.1 in
        let next = called now entry walk h.0 found (Some name) is taken e in
        let last = stops h.0 is next in
        record {
          replies = replies_of (drop 1 walk.files) ++ last.replies;
          asks = joined gets asks last.asks;
          is = subst (λ (fs : List SourceFile). ForHeld told (λ held. IsUnplain held entry (replies_of fs ++ last.replies))) (sym (same_files told entry walk h.0 h.1))
              (not_plain told entry h.0 name next plain stop last.replies missing (subst (λ t. StopsBehind t entry h.0 stop last.replies) same last.is));
        }

pub none_left : (told : Option Files) (entry : List ℕ) (walk : Walk) (found : Option (List ℕ)) → found ≡ slice_get walk.known (length walk.files - 1) → ((x : List ℕ) → found ≡ Some x → ⊥) → HasWalk told entry walk
    → IsDone told entry walk
none_left told entry walk found taken none h = (h.0, h.1, called told entry walk h.0 found None h.1 taken (by found none))
  where
    by : (o : Option (List ℕ)) → ((x : List ℕ) → o ≡ Some x → ⊥) → o ≡ None
    by None none = refl
    by (Some x) none = absurd (none x refl)

pub stopped_out : {S : Type 0} (gets : S → List ℕ → ℕ → Result Got ShelfError → List ℕ → S → Type 0) (start end : S) (told : Option Files) (entry : List ℕ) (walk : Walk)
    → Asks gets most_bytes start (replies_of (drop 1 walk.files)) end → HasWalk told entry walk → ForReplies gets start end (StopsWith told entry walk.files stops.NoMemory)
stopped_out gets start end told entry walk asks h = record {
  replies = replies_of (drop 1 walk.files);
  asks = asks;
  is = record {
    loaded = h.0;
    files_are = h.1.files_are;
    more = [];
    why = for_each entry h.0 [] told (λ held r. record { reached = r; halted = before_call }) h.1.reached;
    replies_are = ap replies_of (same_files told entry walk h.0 h.1) ∙ sym (append-nil (replies_of h.0.files));
  };
}

-- ---- counts

pub same_count : (before now : ℕ) → Counts before now ⊥ → now ≡ before
same_count before now counts = by (nat_lt before now) refl
  where
    by : (b : Bool) → nat_lt before now ≡ b → now ≡ before
    by true e = absurd (counts.only (less_than before now e))
    by false e = let least = at_most before now e in let later = counts.later in omega arith

pub same_misses : (before now : ℕ) (Plain : Type 0) → CountsMisses before now Plain ⊥ ⊥ → now ≡ before
same_misses before now Plain counts = by (nat_lt before now) refl
  where
    neither : ⊥ ⊎ ⊥ → ⊥
    neither (inl a) = a
    neither (inr a) = a

    by : (b : Bool) → nat_lt before now ≡ b → now ≡ before
    by true e = absurd (neither (counts.only (less_than before now e)))
    by false e = let least = at_most before now e in let later = counts.later in omega arith

-- a count of misses, where a name that is not plain is found by its test
pub missing_counts : (name : List ℕ) (first before after : ℕ) (Unplain Missing Out : Type 0) → before ≡ first → CountsMisses before after (is_plain name ≡ true) Missing Out → (is_plain name ≡ false → Missing → Unplain)
    → CountsMissing first after Unplain Missing Out
missing_counts name first before after Unplain Missing Out start counts unplain = subst (λ n. CountsMissing n after Unplain Missing Out) start
    (record { later = counts.later; rose = λ missing. by (is_plain name) refl missing; only = counts.only })
  where
    by : (b : Bool) → is_plain name ≡ b → Missing → Rose before after ⊎ Unplain
    by true plain missing = inl (counts.rose missing plain)
    by false plain missing = inr (unplain plain missing)
