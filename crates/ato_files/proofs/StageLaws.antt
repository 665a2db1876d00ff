-- Loading leads to one stage or one fault, whatever is held.
use Rattle.std.proofs.Common.{◌≡◌, ℕ, List, Bool, true, false, Option, Some, None, sym, ap, ◌∙◌, subst}
use Rattle.std.specs.Prelude.{◌∷◌, [], ◌++◌, ◌&&◌, is_some, length, nat_lt}
use Rattle.ato_base.specs.Stages.{IsDetermined, IsLast}
use Rattle.ato_base.specs.declared.faults.Fault.{Fault}
use Rattle.ato_base.specs.declared.faults.FaultKind.TheVariants as kinds
use Rattle.ato_base.specs.declared.tokens.Token.{Token}
use Rattle.ato_base.specs.declared.faults.Refusal.TheVariants as refusals
use Rattle.ato_base.proofs.StageLaws as stages
use Rattle.ato_ast.specs.declared.names.Quoted.{Quoted}
use Rattle.ato_ast.specs.declared.blocks.File.{File}
use Rattle.ato_lexer.specs.Tokens as lexer
use Rattle.ato_lexer.proofs.TokenLaws as lexing
use Rattle.ato_parser.specs.Faults as parser
use Rattle.ato_parser.proofs.FaultLaws as parsing
use Rattle.ato_words.specs.PlainNames.{is_plain}
use Rattle.ato_files.specs.declared.program.SourceFile.{SourceFile}
use Rattle.ato_files.specs.declared.program.Source.{Source}
use Rattle.ato_files.specs.declared.program.Program.{Program}
use Rattle.ato_files.specs.Library.{library_tokens}
use Rattle.ato_files.specs.Files.{mentions, known, next_name}
use Rattle.ato_files.specs.Faults.{fault}
use Rattle.ato_files.specs.Loading.{Held, Loaded, all_files, most_files, most_bytes, next_id, overflow, IsStart, IsRead, AreNext, IsNextFile, LeadsOn, FileFault, missing, too_long, no_tokens, no_tree, too_many, file_fault}
use Rattle.ato_files.specs.NameFaults.{name_fault}
use Rattle.ato_files.specs.Programs.{Stage, Started, Loading, Named, Failure, IsWhole, Leads, Has, FirstFault, of_a_file, of_a_name, IsReached, Stands, IsProgram}

-- ---- records by their fields

loaded : List (List ℕ) → SourceFile → List SourceFile → Loaded
loaded names library files = record { names = names; library = library; files = files }

same_loaded : (l m : Loaded) → l.names ≡ m.names → l.library ≡ m.library → l.files ≡ m.files → l ≡ m
unfolding loaded
same_loaded l m a b c = ap (λ x. loaded x l.library l.files) a ∙ ap (λ x. loaded m.names x l.files) b ∙ ap (loaded m.names m.library) c

source : List ℕ → List ℕ → File → SourceFile
source name bytes tree = record { name = name; bytes = bytes; tree = tree }

same_source : (f g : SourceFile) → f.name ≡ g.name → f.bytes ≡ g.bytes → f.tree ≡ g.tree → f ≡ g
unfolding source
same_source f g a b c = ap (λ x. source x f.bytes f.tree) a ∙ ap (λ x. source g.name x f.tree) b ∙ ap (source g.name g.bytes) c

failure : Fault → List Source → Failure
failure f read = record { fault = f; sources = read }

same_failure : (f g : Failure) → f.fault ≡ g.fault → f.sources ≡ g.sources → f ≡ g
unfolding failure
same_failure f g a b = ap (λ x. failure x f.sources) a ∙ ap (failure g.fault) b

-- ---- the start is one

pub one_start : (l m : Loaded) → IsStart l → IsStart m → l ≡ m
one_start l m a b = same_loaded l m (a.names ∙ sym b.names)
    (same_source l.library m.library (a.name ∙ sym b.name) (a.bytes ∙ sym b.bytes) (parsing.one_tree library_tokens l.library.tree m.library.tree a.tree b.tree))
    (a.files ∙ sym b.files)

-- ---- the next file is one

module _ (held : Held) (entry : List ℕ) (l : Loaded) where
  one_name : (name other : List ℕ) → next_name entry l.files ≡ Some name → next_name entry l.files ≡ Some other → name ≡ other
  one_name name other e h = let same : Some name ≡ Some other = sym e ∙ h in cc

  one_held : (name bytes others : List ℕ) → held name ≡ Some bytes → held name ≡ Some others → bytes ≡ others
  one_held name bytes others e h = let same : Some bytes ≡ Some others = sym e ∙ h in cc

  one_read : (name other bytes others : List ℕ) → IsRead held entry l name bytes → IsRead held entry l other others → bytes ≡ others
  one_read name other bytes others a b =
      let same = one_name name other a.next b.next in one_held name bytes others a.holds (ap held same ∙ b.holds)

  -- tokens and tables of names that are the same
  record Same (names others : List (List ℕ)) (tokens more : List Token) : Type 0 where
    names_are : others ≡ names
    tokens_are : more ≡ tokens

  one_list : (name other bytes text : List ℕ) (names others : List (List ℕ)) (tokens more : List Token)
      → AreNext held entry l name bytes names tokens → AreNext held entry l other text others more → Same names others tokens more
  one_list name other bytes text names others tokens more a b =
      let same = one_read name other bytes text a.read b.read in
      let both = lexing.one_list bytes (next_id l) l.names names others tokens more a.lexed
      (subst (λ t. lexer.AreTokens t (next_id l) l.names others more) (sym same) b.lexed) in
      record { names_are = both.0; tokens_are = both.1 }

  one_file : (names others : List (List ℕ)) (tokens more : List Token) (file other : SourceFile)
      → IsNextFile held entry l names tokens file → IsNextFile held entry l others more other → file ≡ other
  one_file names others tokens more file other a b =
      let same = one_list file.name other.name file.bytes other.bytes names others tokens more a.are b.are in
      same_source file other (one_name file.name other.name a.are.read.next b.are.read.next) (one_read file.name other.name file.bytes other.bytes a.are.read b.are.read)
      (parsing.one_tree tokens file.tree other.tree a.tree (subst (λ ts. parser.IsTree ts other.tree) same.tokens_are b.tree))

  pub one_next : (m n : Loaded) → LeadsOn held entry l m → LeadsOn held entry l n → m ≡ n
  one_next m n a b =
      let same = one_list a.file.name b.file.name a.file.bytes b.file.bytes m.names n.names a.tokens b.tokens a.next.are b.next.are in
      let files = one_file m.names n.names a.tokens b.tokens a.file b.file a.next b.next in
      same_loaded m n (sym same.names_are) (a.library ∙ sym b.library) (a.files ∙ ap (λ f. l.files ++ f ∷ []) files ∙ sym b.files)

  -- ---- the fault of the next file is one

  abbrev IsMissing : List ℕ → Type 0
  IsMissing name = (is_plain name && is_some (held name)) ≡ false

  held_there : (name bytes : List ℕ) → is_plain name ≡ true → held name ≡ Some bytes → IsMissing name → ⊥
  held_there name bytes p h e = let there : is_some (held name) ≡ true = ap is_some h in by (is_plain name) (is_some (held name)) p there e
    where
      by : (a b : Bool) → a ≡ true → b ≡ true → (a && b) ≡ false → ⊥
      by true true p q e = cc
      by true false p q e = cc
      by false b p q e = cc

  -- the next name is held, where a file is found missing
  no_missing : (name other bytes : List ℕ) → next_name entry l.files ≡ Some name → IsMissing name
      → next_name entry l.files ≡ Some other → is_plain other ≡ true → held other ≡ Some bytes → ⊥
  no_missing name other bytes e gone h plain holds =
      held_there other bytes plain holds (subst IsMissing (one_name name other e h) gone)

  too_long_read : (name other bytes text : List ℕ) → next_name entry l.files ≡ Some name → held name ≡ Some bytes → nat_lt most_bytes (length bytes) ≡ true
      → IsRead held entry l other text → ⊥
  too_long_read name other bytes text e holds long r =
      let same = one_held name bytes text holds (ap held (one_name name other e r.next) ∙ r.holds) in
      let short : nat_lt most_bytes (length bytes) ≡ false = ap (λ t. nat_lt most_bytes (length t)) same ∙ r.short in cc

  not_lexed : (name other bytes text : List ℕ) (names : List (List ℕ)) (tokens : List Token) (f : Fault) → AreNext held entry l name bytes names tokens
      → IsRead held entry l other text → lexer.IsRefused text (next_id l) (refusals.Fault f) → ⊥
  not_lexed name other bytes text names tokens f a r refused =
      lexing.never_both text (next_id l) l.names names tokens f
      (subst (λ t. lexer.AreTokens t (next_id l) l.names names tokens) (one_read name other bytes text a.read r) a.lexed) refused

  not_parsed : (file : SourceFile) (other text : List ℕ) (names others : List (List ℕ)) (tokens more : List Token) (f : Fault) → IsNextFile held entry l names tokens file
      → AreNext held entry l other text others more → parser.IsFault more f → ⊥
  not_parsed file other text names others tokens more f a b refused =
      let same = one_list file.name other file.bytes text names others tokens more a.are b in
      parsing.never_both more file.tree f (subst (λ ts. parser.IsTree ts file.tree) (sym same.tokens_are) a.tree) refused

  abbrev over : SourceFile → Option Quoted
  over file = overflow most_files file.bytes (known entry l.files) (mentions file)

  one_lexing : (name other bytes text : List ℕ) (f g : Fault) → IsRead held entry l name bytes → lexer.IsRefused bytes (next_id l) (refusals.Fault f)
      → IsRead held entry l other text → lexer.IsRefused text (next_id l) (refusals.Fault g) → f ≡ g
  one_lexing name other bytes text f g r refused s again = lexing.one_fault text (next_id l) f g
      (subst (λ t. lexer.IsRefused t (next_id l) (refusals.Fault f)) (one_read name other bytes text r s) refused) again

  one_parsing : (name other bytes text : List ℕ) (names others : List (List ℕ)) (tokens more : List Token) (f g : Fault) → AreNext held entry l name bytes names tokens
      → parser.IsFault tokens f → AreNext held entry l other text others more → parser.IsFault more g → f ≡ g
  one_parsing name other bytes text names others tokens more f g a refused b again =
      let same = one_list name other bytes text names others tokens more a b in
      parsing.one_fault tokens f g refused (subst (λ ts. parser.IsFault ts g) same.tokens_are again)

  one_mention : (file other : SourceFile) (at there : Quoted) → file ≡ other → over file ≡ Some at → over other ≡ Some there → at ≡ there
  one_mention file other at there same e h = let both : Some at ≡ Some there = sym e ∙ ap over same ∙ h in cc

  -- two cases of a fault, the second of which gets farther
  pub one_file_fault : (f g : Fault) → FileFault held entry l f → FileFault held entry l g → f ≡ g
  one_file_fault f g (missing {name = n} e gone) (missing {name = m} h lost) = ap (λ name. file_fault kinds.FileMissing name l.files) (one_name n m e h)
  one_file_fault f g (missing {name = n} e gone) (too_long {name = m} {bytes = b} h plain holds long) = absurd (no_missing n m b e gone h plain holds)
  one_file_fault f g (missing {name = n} e gone) (no_tokens {name = m} {bytes = b} r refused) = absurd (no_missing n m b e gone r.next r.plain r.holds)
  one_file_fault f g (missing {name = n} e gone) (no_tree {name = m} {bytes = b} a refused) = absurd (no_missing n m b e gone a.read.next a.read.plain a.read.holds)
  one_file_fault f g (missing {name = n} e gone) (too_many {file = x} a more) = absurd (no_missing n x.name x.bytes e gone a.are.read.next a.are.read.plain a.are.read.holds)
  one_file_fault f g (too_long {name = m} {bytes = b} h plain holds long) (missing {name = n} e gone) = absurd (no_missing n m b e gone h plain holds)
  one_file_fault f g (too_long {name = n} e plain holds long) (too_long {name = m} h fine has more) = ap (λ name. file_fault kinds.FileTooLong name l.files) (one_name n m e h)
  one_file_fault f g (too_long {name = n} {bytes = b} e plain holds long) (no_tokens {name = m} {bytes = c} r refused) = absurd (too_long_read n m b c e holds long r)
  one_file_fault f g (too_long {name = n} {bytes = b} e plain holds long) (no_tree {name = m} {bytes = c} a refused) = absurd (too_long_read n m b c e holds long a.read)
  one_file_fault f g (too_long {name = n} {bytes = b} e plain holds long) (too_many {file = x} a more) = absurd (too_long_read n x.name b x.bytes e holds long a.are.read)
  one_file_fault f g (no_tokens {name = m} {bytes = b} r refused) (missing {name = n} e gone) = absurd (no_missing n m b e gone r.next r.plain r.holds)
  one_file_fault f g (no_tokens {name = m} {bytes = c} r refused) (too_long {name = n} {bytes = b} e plain holds long) = absurd (too_long_read n m b c e holds long r)
  one_file_fault f g (no_tokens {name = n} {bytes = b} r refused) (no_tokens {name = m} {bytes = c} s again) = one_lexing n m b c f g r refused s again
  one_file_fault f g (no_tokens {name = m} {bytes = c} r refused) (no_tree {name = n} {bytes = b} {names = ns} {tokens = ts} a again) = absurd (not_lexed n m b c ns ts f a r refused)
  one_file_fault f g (no_tokens {name = m} {bytes = c} r refused) (too_many {names = ns} {tokens = ts} {file = x} a more) = absurd (not_lexed x.name m x.bytes c ns ts f a.are r refused)
  one_file_fault f g (no_tree {name = m} {bytes = b} a refused) (missing {name = n} e gone) = absurd (no_missing n m b e gone a.read.next a.read.plain a.read.holds)
  one_file_fault f g (no_tree {name = m} {bytes = c} a refused) (too_long {name = n} {bytes = b} e plain holds long) = absurd (too_long_read n m b c e holds long a.read)
  one_file_fault f g (no_tree {name = n} {bytes = b} {names = ns} {tokens = ts} a again) (no_tokens {name = m} {bytes = c} r refused) = absurd (not_lexed n m b c ns ts g a r refused)
  one_file_fault f g (no_tree {name = n} {bytes = b} {names = ns} {tokens = ts} a refused) (no_tree {name = m} {bytes = c} {names = ms} {tokens = us} d again) = one_parsing n m b c ns ms ts us f g a refused d again
  one_file_fault f g (no_tree {name = m} {bytes = c} {names = ms} {tokens = us} d refused) (too_many {names = ns} {tokens = ts} {file = x} a more) = absurd (not_parsed x m c ns ms ts us f a d refused)
  one_file_fault f g (too_many {file = x} a more) (missing {name = n} e gone) = absurd (no_missing n x.name x.bytes e gone a.are.read.next a.are.read.plain a.are.read.holds)
  one_file_fault f g (too_many {file = x} a more) (too_long {name = n} {bytes = b} e plain holds long) = absurd (too_long_read n x.name b x.bytes e holds long a.are.read)
  one_file_fault f g (too_many {names = ns} {tokens = ts} {file = x} a more) (no_tokens {name = m} {bytes = c} r refused) = absurd (not_lexed x.name m x.bytes c ns ts g a.are r refused)
  one_file_fault f g (too_many {names = ns} {tokens = ts} {file = x} a more) (no_tree {name = m} {bytes = c} {names = ms} {tokens = us} d refused) = absurd (not_parsed x m c ns ms ts us g a d refused)
  one_file_fault f g (too_many {names = ns} {tokens = ts} {file = x} {at = p} a more) (too_many {names = ms} {tokens = us} {file = y} {at = q} b many) =
      ap (λ (at : Quoted). fault kinds.TooManyFiles at.at) (one_mention x y p q (one_file ns ms ts us x y a b) more many)

  -- a next file without a fault has none
  pub loads_or_fails : (m : Loaded) (f : Fault) → LeadsOn held entry l m → FileFault held entry l f → ⊥
  loads_or_fails m f s (missing {name = n} e gone) = no_missing n s.file.name s.file.bytes e gone s.next.are.read.next s.next.are.read.plain s.next.are.read.holds
  loads_or_fails m f s (too_long {name = n} {bytes = b} e plain holds long) = too_long_read n s.file.name b s.file.bytes e holds long s.next.are.read
  loads_or_fails m f s (no_tokens {name = n} {bytes = b} r refused) = not_lexed s.file.name n s.file.bytes b m.names s.tokens f s.next.are r refused
  loads_or_fails m f s (no_tree {name = n} {bytes = b} {names = ns} {tokens = ts} a refused) = not_parsed s.file n b m.names ns s.tokens ts f s.next a refused
  loads_or_fails m f s (too_many {names = ns} {tokens = ts} {file = x} {at = p} a more) =
      let both : None ≡ Some p = sym s.few ∙ ap over (one_file m.names ns s.tokens ts s.file x s.next a) ∙ more in cc

  -- where there is no next name, there is no next file
  has_a_name : (f : Fault) → FileFault held entry l f → next_name entry l.files ≡ None → ⊥
  has_a_name f (missing {name = n} e gone) last = let both : None ≡ Some n = sym last ∙ e in cc
  has_a_name f (too_long {name = n} e plain holds long) last = let both : None ≡ Some n = sym last ∙ e in cc
  has_a_name f (no_tokens {name = n} r refused) last = let both : None ≡ Some n = sym last ∙ r.next in cc
  has_a_name f (no_tree {name = n} a refused) last = let both : None ≡ Some n = sym last ∙ a.read.next in cc
  has_a_name f (too_many {file = x} a more) last = let both : None ≡ Some x.name = sym last ∙ a.are.read.next in cc

  one_name_fault : (f g : Fault) → name_fault (all_files l) ≡ Some f → name_fault (all_files l) ≡ Some g → f ≡ g
  one_name_fault f g e h = let both : Some f ≡ Some g = sym e ∙ h in cc

  pub one_first : (f g : Fault) → FirstFault held entry l f → FirstFault held entry l g → f ≡ g
  one_first f g (of_a_file a) (of_a_file b) = one_file_fault f g a b
  one_first f g (of_a_file a) (of_a_name last e) = absurd (has_a_name f a last)
  one_first f g (of_a_name last e) (of_a_file b) = absurd (has_a_name g b last)
  one_first f g (of_a_name last e) (of_a_name end h) = one_name_fault f g e h

  loads_or_fails_first : (m : Loaded) (f : Fault) → LeadsOn held entry l m → FirstFault held entry l f → ⊥
  loads_or_fails_first m f s (of_a_file a) = loads_or_fails m f s a
  loads_or_fails_first m f s (of_a_name last e) = let both : None ≡ Some s.file.name = sym last ∙ s.next.are.read.next in cc

  whole_or_fails : (f : Fault) → IsWhole held entry l → FirstFault held entry l f → ⊥
  whole_or_fails f w (of_a_file a) = has_a_name f a w.last
  whole_or_fails f w (of_a_name last e) = let both : None ≡ Some f = sym w.sound ∙ e in cc

  loads_or_ends : (m : Loaded) → LeadsOn held entry l m → IsWhole held entry l → ⊥
  loads_or_ends m s w = let both : None ≡ Some s.file.name = sym w.last ∙ s.next.are.read.next in cc

-- ---- stages

module _ (held : Held) (entry : List ℕ) where
  next_stage : (s t u : Stage) → Leads held entry s t → Leads held entry s u → t ≡ u
  next_stage Started Started u a b = elim a [ ]
  next_stage Started (Named m) u a b = elim a [ ]
  next_stage (Named _) t u a b = elim a [ ]
  next_stage Started (Loading l) Started a b = elim b [ ]
  next_stage Started (Loading l) (Named n) a b = elim b [ ]
  next_stage (Loading l) Started u a b = elim a [ ]
  next_stage (Loading l) (Loading m) Started a b = elim b [ ]
  next_stage (Loading l) (Named m) Started a b = elim b [ ]
  next_stage Started (Loading l) (Loading m) a b = ap Loading (one_start l m a b)
  next_stage (Loading l) (Loading m) (Loading n) a b = ap Loading (one_next held entry l m n a b)
  next_stage (Loading l) (Loading m) (Named n) a b = absurd (loads_or_ends held entry l m a b.1)
  next_stage (Loading l) (Named m) (Loading n) a b = absurd (loads_or_ends held entry l n b a.1)
  next_stage (Loading l) (Named m) (Named n) a b = ap Named (a.0 ∙ sym b.0)

  stage_fault : (s : Stage) (f g : Failure) → Has held entry s f → Has held entry s g → f ≡ g
  stage_fault Started f g a b = elim a [ ]
  stage_fault (Named _) f g a b = elim a [ ]
  stage_fault (Loading l) f g a b = same_failure f g (one_first held entry l f.fault g.fault a.0 b.0) (a.1 ∙ sym b.1)

  stage_or_fault : (s t : Stage) (f : Failure) → Leads held entry s t → Has held entry s f → ⊥
  stage_or_fault Started t f a h = elim h [ ]
  stage_or_fault (Named _) t f a h = elim h [ ]
  stage_or_fault (Loading l) Started f a h = elim a [ ]
  stage_or_fault (Loading l) (Loading m) f a h = loads_or_fails_first held entry l m f.fault a h.0
  stage_or_fault (Loading l) (Named m) f a h = whole_or_fails held entry l f.fault a.1 h.0

  pub determined : IsDetermined (Leads held entry) (Has held entry)
  determined = record { one_next = next_stage; one_fault = stage_fault; never_both = stage_or_fault }

  nothing_behind : (l : Loaded) (s : Stage) → Leads held entry (Named l) s → ⊥
  nothing_behind l s h = h

  nothing_wrong : (l : Loaded) (f : Failure) → Has held entry (Named l) f → ⊥
  nothing_wrong l f h = h

  pub named_is_last : (l : Loaded) → IsLast (Leads held entry) (Has held entry) (Named l)
  named_is_last l = record { ends = nothing_behind l; sound = nothing_wrong l }

  -- ---- one fault, or one program

  pub one_fault : (f g : Failure) → Stands held entry f → Stands held entry g → f ≡ g
  one_fault f g a b = stages.one_fault_stands (Leads held entry) (Has held entry) determined Started f g a b

  pub none_with_program : (p : Program) (f : Failure) → IsProgram held entry p → Stands held entry f → ⊥
  none_with_program p f a b = stages.no_fault_stands (Leads held entry) (Has held entry) determined Started (Named a.loaded) f (named_is_last a.loaded) a.reached b

  pub one_named : (l m : Loaded) → IsReached held entry (Named l) → IsReached held entry (Named m) → l ≡ m
  one_named l m a b =
      let same = stages.one_last_stage (Leads held entry) (Has held entry) determined Started (Named l) (Named m) (named_is_last l) (named_is_last m) a b in cc

  pub same_names : (p q : Program) → IsProgram held entry p → IsProgram held entry q → p.names ≡ q.names
  same_names p q a b = a.names ∙ ap (λ (l : Loaded). l.names) (one_named a.loaded b.loaded a.reached b.reached) ∙ sym b.names

  pub same_files : (p q : Program) → IsProgram held entry p → IsProgram held entry q → p.files ≡ q.files
  same_files p q a b = a.files ∙ ap all_files (one_named a.loaded b.loaded a.reached b.reached) ∙ sym b.files
