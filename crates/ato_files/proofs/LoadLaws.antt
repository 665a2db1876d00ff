-- What an answer of the shelf and the reading of a file say of loading.
use Rattle.std.proofs.Common.{◌≡◌, ℕ, zero, suc, Bool, true, false, ◌&&◌, List, [], ◌∷◌, length, Option, Some, None, Ok, Err, refl, sym, ap, subst, ◌∙◌, nat_lt, if◌then◌else◌, arith}
use Rattle.std.specs.Prelude.{is_some}
use Rattle.std.proofs.lemmas.Bool.Decides.{nat_tests}
use Rattle.ato_base.specs.declared.faults.Fault.{Fault}
use Rattle.ato_base.specs.declared.faults.FaultKind.TheVariants as kinds
use Rattle.ato_outside.specs.Files.{Files}
use Rattle.ato_outside.specs.Replies.{Reply}
use Rattle.ato_outside.specs.declared.shelf.Got.TheVariants as got
use Rattle.ato_outside.specs.declared.shelf.ShelfError.TheVariants as errors
use Rattle.ato_words.specs.PlainNames.{is_plain}
use Rattle.ato_files.specs.declared.fetching.Found.{Found}
use Rattle.ato_files.specs.declared.fetching.Found.TheVariants as found
use Rattle.ato_files.specs.Answers.{ForHeld, AreHalted, before_call, in_call, behind_call}
use Rattle.ato_files.specs.Fetching.{IsFound, IsFoundBy, NoFile, not_plain, missing, too_long, NoRoom, not_asked, in_the_call, was_missing, was_long}
use Rattle.ato_files.specs.Files.{known, next_name}
use Rattle.ato_files.specs.LoadSteps.{FaultBehind, UnreadBehind, HaltedBehind}
use Rattle.ato_files.specs.Loading.{Held, Loaded, all_files, next_id, most_bytes, most_files, overflow, IsStart, IsRead, AreNext, IsNextFile, LeadsOn, FileFault, file_fault, readable, with_bytes}
use Rattle.ato_files.specs.Loading as loads
use Rattle.ato_files.specs.Programs.{Loading, IsReached}
use Rattle.ato_files.specs.Replies.{bare, whole, reply_at, next_replies}
use Rattle.ato_files.specs.Walks.{no_tokens, no_tree, HasNoNext, has_none, has_many}
use Rattle.ato_files.proofs.HeldLaws.{with_held, held_there, reached_whatever}

-- ---- what is held under a name that is asked for

-- a file that is too long
zeros : (n : ℕ) → (file : List ℕ) × (length file ≡ suc n)
zeros zero = (0 ∷ [], refl)
zeros (suc n) = let less = zeros n in (0 ∷ less.0, ap suc less.1)

is_longer : (n m : ℕ) → m ≡ suc n → nat_lt n m ≡ true
is_longer n m e = grind (arith, nat_tests)

long_file : (n : ℕ) → (file : List ℕ) × (nat_lt n (length file) ≡ true)
long_file n = let file = zeros n in (file.0, is_longer n (length file.0) file.1)

-- something that fits an answer
some_held : Found → Option (List ℕ)
some_held found.Failed = None
some_held found.Missing = None
some_held found.TooLong = Some (long_file most_bytes).0
some_held (found.Whole bytes) = Some bytes

some_found : (name : List ℕ) (f : Found) → IsFoundBy None name f → IsFound (some_held f) f
unfolding some_held
some_found name found.Failed is = tt
some_found name found.Missing is = refl
some_found name found.TooLong is = ((long_file most_bytes).0, refl, (long_file most_bytes).1)
some_found name (found.Whole bytes) is = (refl, is)

module _ (entry : List ℕ) (l : Loaded) (name : List ℕ) where
  -- These files are loaded, and this was found at the next name.
  pub record IsAnswered (held : Held) (f : Found) : Type 0 where
    pub reached : IsReached held entry (Loading l)
    pub found : IsFound (held name) f

  abbrev pub Knows : Option Files → Type 0
  Knows told = ForHeld told (λ held. IsReached held entry (Loading l))

  answered : (told : Option Files) (f : Found) → next_name entry l.files ≡ Some name → Knows told → IsFoundBy told name f → ForHeld told (λ held. IsAnswered held f)
  answered (Some files) f next h is =
      record {
        held = h.held;
        holds = h.holds;
        is = record { reached = h.is; found = subst (λ o. IsFound o f) (sym (ap (λ (held : Held). held name) h.holds)) is };
      }
  answered None f next h is =
      record {
        held = with_held entry h.held name (some_held f);
        holds = tt;
        is = record {
          reached = reached_whatever entry h.held l name (some_held f) h.is next;
          found = subst (λ o. IsFound o f) (sym (held_there entry h.held name (some_held f))) (some_found name f is);
        };
      }

  -- ---- replies for the next name

  pub no_reply : (held : Held) → next_name entry l.files ≡ Some name → is_plain name ≡ false → next_replies held (next_name entry l.files) ≡ []
  no_reply held next plain = ap (next_replies held) next ∙ ap (λ b. if b then reply_at name (held name) ∷ [] else []) plain

  one_reply : (held : Held) (o : Option (List ℕ)) → next_name entry l.files ≡ Some name → is_plain name ≡ true → held name ≡ o → next_replies held (next_name entry l.files) ≡ reply_at name o ∷ []
  one_reply held o next plain is =
      ap (next_replies held) next ∙ ap (λ b. if b then reply_at name (held name) ∷ [] else []) plain ∙ ap (λ found. reply_at name found ∷ []) is

  long_reply : (held : Held) (file : List ℕ) → next_name entry l.files ≡ Some name → is_plain name ≡ true → held name ≡ Some file → nat_lt most_bytes (length file) ≡ true
      → next_replies held (next_name entry l.files) ≡ bare name (Ok got.TooLong) ∷ []
  long_reply held file next plain is long = one_reply held (Some file) next plain is ∙ ap (λ b. (if b then bare name (Ok got.TooLong) else whole name file) ∷ []) long

  read_reply : (bytes : List ℕ) (held : Held) → IsRead held entry l name bytes → next_replies held (next_name entry l.files) ≡ whole name bytes ∷ []
  read_reply bytes held r = one_reply held (Some bytes) r.next r.plain r.holds ∙ ap (λ b. (if b then bare name (Ok got.TooLong) else whole name bytes) ∷ []) r.short

  -- ---- the next name has no file

  lacks_plain : (held : Held) → next_name entry l.files ≡ Some name → is_plain name ≡ false → IsReached held entry (Loading l) → FaultBehind held entry l (file_fault kinds.FileMissing name l.files) None []
  lacks_plain held next plain reached = record {
    reached = reached;
    fault = loads.missing {name = name} next (ap (λ b. b && is_some (held name)) plain);
    source = ap (readable held entry) next ∙ ap (λ b. if b then with_bytes held entry name (held name) else []) plain;
    replies_are = sym (no_reply held next plain);
  }

  not_there : (b : Bool) → (b && false) ≡ false
  not_there true = refl
  not_there false = refl

  lacks_file : (held : Held) → next_name entry l.files ≡ Some name → is_plain name ≡ true → IsAnswered held found.Missing → FaultBehind held entry l (file_fault kinds.FileMissing name l.files) None (bare name (Ok got.Missing) ∷ [])
  lacks_file held next plain a = record {
    reached = a.reached;
    fault = loads.missing {name = name} next (ap (λ o. is_plain name && is_some o) a.found ∙ not_there (is_plain name));
    source = ap (readable held entry) next ∙ ap (λ b. if b then with_bytes held entry name (held name) else []) plain ∙ ap (with_bytes held entry name) a.found;
    replies_are = sym (one_reply held None next plain a.found);
  }

  has_long : (held : Held) → next_name entry l.files ≡ Some name → is_plain name ≡ true → IsAnswered held found.TooLong → FaultBehind held entry l (file_fault kinds.FileTooLong name l.files) None (bare name (Ok got.TooLong) ∷ [])
  has_long held next plain a = record {
    reached = a.reached;
    fault = loads.too_long {name = name} {bytes = a.found.0} next plain a.found.1 a.found.2;
    source = ap (readable held entry) next ∙ ap (λ b. if b then with_bytes held entry name (held name) else []) plain ∙ ap (with_bytes held entry name) a.found.1
        ∙ ap (λ b. if b then [] else record { name = name; bytes = a.found.0 } ∷ []) a.found.2;
    replies_are = sym (long_reply held a.found.0 next plain a.found.1 a.found.2);
  }

  pub for_each : {P Q : Held → Type 0} (told : Option Files) → ((held : Held) → P held → Q held) → ForHeld told P → ForHeld told Q
  for_each told f h = record { held = h.held; holds = h.holds; is = f h.held h.is }

  pub no_file : (told : Option Files) (f : Fault) (replies : List Reply) → next_name entry l.files ≡ Some name → Knows told → NoFile told name l.files f replies → ForHeld told (λ held. FaultBehind held entry l f None replies)
  no_file told _ _ next h (not_plain p) = for_each told (λ held r. lacks_plain held next p r) h
  no_file told _ _ next h (missing p is) = for_each told (λ held a. lacks_file held next p a) (answered told found.Missing next h is)
  no_file told _ _ next h (too_long p is) = for_each told (λ held a. has_long held next p a) (answered told found.TooLong next h is)

  -- ---- there was no memory at the next name

  answers_then : (held : Held) (f : Found) (replies : List Reply) → IsAnswered held f → next_replies held (next_name entry l.files) ≡ replies → HaltedBehind held entry l replies
  answers_then held f replies a e = record { reached = a.reached; halted = subst (AreHalted held entry l) e behind_call }

  pub no_room : (told : Option Files) (replies : List Reply) → next_name entry l.files ≡ Some name → Knows told → NoRoom told name replies → ForHeld told (λ held. HaltedBehind held entry l replies)
  no_room told _ next h not_asked = for_each told (λ held r. record { reached = r; halted = before_call }) h
  no_room told _ next h (in_the_call p) = for_each told (λ held r. record { reached = r; halted = in_call {name = name} next p }) h
  no_room told _ next h (was_missing p is) =
      for_each told (λ held (a : IsAnswered held found.Missing). answers_then held found.Missing (bare name (Ok got.Missing) ∷ []) a (one_reply held None next p a.found)) (answered told found.Missing next h is)
  no_room told _ next h (was_long p is) =
      for_each told (λ held (a : IsAnswered held found.TooLong). answers_then held found.TooLong (bare name (Ok got.TooLong) ∷ []) a (long_reply held a.found.0 next p a.found.1 a.found.2)) (answered told found.TooLong next h is)

  -- ---- the next name could not be read

  pub unread : (told : Option Files) (replies : List Reply) → next_name entry l.files ≡ Some name → is_plain name ≡ true → Knows told → replies ≡ bare name (Err errors.Failed) ∷ [] → ForHeld told (λ held. UnreadBehind held entry l name replies)
  unread told replies next plain h e = for_each told (λ held r. record { reached = r; next = next; plain = plain; replies_are = e }) h

  -- ---- the next file was read

  -- These files are loaded, and the file of the next name is read.
  pub record IsNextRead (bytes : List ℕ) (held : Held) : Type 0 where
    pub reached : IsReached held entry (Loading l)
    pub read : IsRead held entry l name bytes

  pub next_read : (told : Option Files) (bytes : List ℕ) → next_name entry l.files ≡ Some name → is_plain name ≡ true → Knows told → IsFoundBy told name (found.Whole bytes)
      → ForHeld told (λ held. IsNextRead bytes held)
  next_read told bytes next plain h is =
      for_each told (λ held (a : IsAnswered held (found.Whole bytes)). record { reached = a.reached; read = record { next = next; plain = plain; holds = a.found.0; short = a.found.1 } }) (answered told (found.Whole bytes) next h is)

  read_source : (bytes : List ℕ) (held : Held) → IsRead held entry l name bytes → readable held entry (next_name entry l.files) ≡ record { name = name; bytes = bytes } ∷ []
  read_source bytes held r =
      ap (readable held entry) r.next ∙ ap (λ b. if b then with_bytes held entry name (held name) else []) r.plain ∙ ap (with_bytes held entry name) r.holds
      ∙ ap (λ b. if b then [] else record { name = name; bytes = bytes } ∷ []) r.short

  pub behind_read : (bytes : List ℕ) (held : Held) (f : Fault) → IsNextRead bytes held → FileFault held entry l f → FaultBehind held entry l f (Some (record { name = name; bytes = bytes })) (whole name bytes ∷ [])
  behind_read bytes held f n fault = record { reached = n.reached; fault = fault; source = read_source bytes held n.read; replies_are = sym (read_reply bytes held n.read) }

  pub halted_read : (bytes : List ℕ) (held : Held) → IsNextRead bytes held → HaltedBehind held entry l (whole name bytes ∷ [])
  halted_read bytes held n = record { reached = n.reached; halted = subst (AreHalted held entry l) (read_reply bytes held n.read) behind_call }

  pub inside : (bytes : List ℕ) (held : Held) (f : Fault) → IsRead held entry l name bytes → HasNoNext bytes (next_id l) l.names (known entry l.files) f → FileFault held entry l f
  inside bytes held f r (has_none (no_tokens refused)) = loads.no_tokens {name = name} {bytes = bytes} r refused
  inside bytes held f r (has_none (no_tree {new = new} {tokens = ts} are refused)) =
      loads.no_tree {name = name} {bytes = bytes} {names = new} {tokens = ts} (record { read = r; lexed = are }) refused
  inside bytes held _ r (has_many {new = new} {tree = tree} {text = text} has many) =
      loads.too_many {names = new} {tokens = has.tokens} {file = record { name = name; bytes = bytes; tree = tree }} {at = text} (record { are = record { read = r; lexed = has.lexed }; tree = has.parsed }) many
