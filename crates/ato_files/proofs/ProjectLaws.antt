-- What loaded files come to by their names.
use Rattle.std.proofs.Common.{◌≡◌, ◌≢◌, inl, inr, ℕ, Bool, true, false, List, [], ◌∷◌, ◌++◌, map, Option, Some, None, if◌then◌else◌, is_none, option_to_list, refl, sym, ap, ◌∙◌, subst, append-nil, drop, IfErr, IfOk, IfSome, Result, Ok, Err}
use Rattle.std.specs.List.{flat_map}
use Rattle.ato_base.specs.Stages.{Reaches, arrived, onward}
use Rattle.ato_base.specs.declared.faults.Fault.{Fault}
use Rattle.ato_base.specs.declared.faults.FaultKind.TheVariants as kinds
use Rattle.ato_ast.specs.Places.{label_at}
use Rattle.ato_ast.specs.declared.names.Named.{Named}
use Rattle.ato_ast.specs.declared.names.Quoted.{Quoted}
use Rattle.ato_ast.specs.declared.paths.Label.{Label}
use Rattle.ato_ast.specs.declared.blocks.Block.{Block}
use Rattle.ato_outside.specs.Files.{Files}
use Rattle.ato_outside.specs.Replies.{Reply, Asks}
use Rattle.ato_outside.specs.declared.shelf.Got.{Got}
use Rattle.ato_outside.specs.declared.shelf.ShelfError.{ShelfError}
use Rattle.ato_files.specs.declared.program.LoadFault.{LoadFault}
use Rattle.ato_files.specs.declared.program.LoadFault.TheVariants as answers
use Rattle.ato_files.specs.declared.program.Program.{Program}
use Rattle.ato_files.specs.declared.program.Source.{Source}
use Rattle.ato_files.specs.declared.program.SourceFile.{SourceFile}
use Rattle.ato_files.specs.declared.program.BlockInfo.{BlockInfo}
use Rattle.ato_files.specs.declared.loading.Loading.{Loading as LoadingOf}
use Rattle.ato_files.specs.Answers.{ForHeld, CountsMissing, IsFailure, IsHalted, IsRefused, IsThisProgram, IsThisFailure, before_call, held_in}
use Rattle.ato_files.specs.Blocks.{BlockAt, blocks_of, imported, imports_of, is_known, meaning}
use Rattle.ato_files.specs.Faults.{fault, least, sooner, is_before}
use Rattle.ato_files.specs.Lists.{numbered}
use Rattle.ato_files.specs.Loading.{all_files, most_bytes, readable}
use Rattle.ato_files.specs.LoadSteps.{IsLoading, as_source}
use Rattle.ato_files.specs.Lineages.{parent}
use Rattle.ato_files.specs.Members.{Decl, decls, pins, stmts_of}
use Rattle.ato_files.specs.NameFaults.{file_faults, block_faults, parent_faults, name_faults, name_fault, repeated, item_names, unknown, type_names, new_names, clashing, inherited, is_component, is_interface, is_interface_block}
use Rattle.ato_files.specs.Programs.{Started, Loading, Named as NamedStage, Leads, Failure, IsProgram, AreBlocks, Stands, of_a_name}
use Rattle.ato_files.specs.Replies.{ForReplies, next_replies, replies_of}
use Rattle.ato_files.proofs.ProgramLaws.{one_program}
use Rattle.ato_files.proofs.StageLaws.{one_fault, none_with_program}

-- ---- from loaded files to a program or a fault

one_more : {S : Type 0} (Leads : S → S → Type 0) (s t u : S) → Reaches Leads s t → Leads t u → Reaches Leads s u
one_more Leads s t u arrived step = onward step arrived
one_more Leads s t u (onward first more) step = onward first (one_more Leads _ t u more step)

pub sound_program : (told : Option Files) (entry : List ℕ) (r : LoadingOf) (blocks : List BlockInfo) → ForHeld told (λ held. IsLoading held entry r) → name_fault r.files ≡ None → AreBlocks r.files blocks
    → ForHeld told (λ held. IsProgram held entry (record { names = r.names; files = r.files; blocks = blocks }))
sound_program told entry r blocks found sound are =
    let is = found.is in
    record {
      held = found.held;
      holds = found.holds;
      is = record {
        loaded = is.loaded;
        reached = one_more (Leads found.held entry) Started (Loading is.loaded) (NamedStage is.loaded) is.reached (refl, record { last = is.last; sound = ap name_fault is.files_are ∙ sound });
        names = sym is.names_are;
        files = sym is.files_are;
        blocks = are;
      };
    }

module _ {S : Type 0} (gets : S → List ℕ → ℕ → Result Got ShelfError → List ℕ → S → Type 0) (old new : S) where
  pub faulty_stands : (told : Option Files) (entry : List ℕ) (r : LoadingOf) (f : Fault) (read : List Source) → ForHeld told (λ held. IsLoading held entry r) → name_fault r.files ≡ Some f → read ≡ map as_source r.files
      → Asks gets most_bytes old (replies_of (drop 1 r.files)) new → ForReplies gets old new (λ replies. ForHeld told (λ held. IsFailure held entry (record { fault = f; sources = read }) replies))
  faulty_stands told entry r f read found e same asks =
      let is = found.is in
      record {
        replies = replies_of (drop 1 r.files);
        asks = asks;
        is = record {
          held = found.held;
          holds = found.holds;
          is = record {
            stands = record {
              stage = Loading is.loaded;
              reached = is.reached;
              has = (
                of_a_name is.last (ap name_fault is.files_are ∙ e),
                same ∙ ap (map as_source) (sym is.files_are)
                    ∙ sym (ap (λ n. map as_source (all_files is.loaded) ++ readable found.held entry n) is.last ∙ append-nil (map as_source (all_files is.loaded))),
              );
            };
            replies_are = ap (λ (fs : List SourceFile). replies_of (drop 1 fs)) (sym is.files_are)
                ∙ sym (ap (λ n. replies_of is.loaded.files ++ next_replies found.held n) is.last ∙ append-nil (replies_of is.loaded.files));
          };
        };
      }

  -- there was no memory behind the loaded files
  pub loaded_halts : (told : Option Files) (entry : List ℕ) (r : LoadingOf) → ForHeld told (λ held. IsLoading held entry r) → Asks gets most_bytes old (replies_of (drop 1 r.files)) new
      → ForReplies gets old new (λ replies. ForHeld told (λ held. IsHalted held entry replies))
  loaded_halts told entry r found asks =
      let is = found.is in
      record {
        replies = replies_of (drop 1 r.files);
        asks = asks;
        is = record {
          held = found.held;
          holds = found.holds;
          is = record {
            loaded = is.loaded;
            reached = is.reached;
            more = [];
            halted = before_call;
            replies_are = ap (λ (fs : List SourceFile). replies_of (drop 1 fs)) (sym is.files_are) ∙ sym (append-nil (replies_of is.loaded.files));
          };
        };
      }

-- ---- the other direction, where the shelf tells its files

module _ {S : Type 0} (gets : S → List ℕ → ℕ → Result Got ShelfError → List ℕ → S → Type 0) (old new : S) (entry : List ℕ) where
  -- what is answered
  record Answers (told : Option Files) (r : Result Program LoadFault) : Type 0 where
    program : IfOk r (λ p. ForHeld told (λ held. IsProgram held entry p))
    refused : IfErr r (λ e. ForReplies gets old new (IsRefused told entry e))

  one_given : (files : Files) (p q : Program) → IsProgram (held_in files) entry p → ForHeld (Some files) (λ held. IsProgram held entry q) → q ≡ p
  one_given files p q is found = one_program (held_in files) entry q p (subst (λ held. IsProgram held entry q) found.holds found.is) is

  not_given : (files : Files) (p : Program) (f : Failure) (replies : List Reply) → IsProgram (held_in files) entry p → ForHeld (Some files) (λ held. IsFailure held entry f replies) → ⊥
  not_given files p f replies is found = none_with_program (held_in files) entry p f is (subst (λ held. Stands held entry f) found.holds found.is.stands)

  given : (files : Files) (p : Program) (r : Result Program LoadFault) → Answers (Some files) r → IsProgram (held_in files) entry p → IsThisProgram p r
  given files p (Ok q) a is = one_given files p q is a.program
  given files p (Err (answers.Fault f sources)) a is = absurd (not_given files p (record { fault = f; sources = sources }) a.refused.replies is a.refused.is)
  given files p (Err (answers.Read name)) a is = inl tt
  given files p (Err answers.NoMemory) a is = inr tt

  told_so : (files : Files) (f : Failure) (r : Result Program LoadFault) → Answers (Some files) r → Stands (held_in files) entry f → IsThisFailure f r
  told_so files f (Ok p) a is = none_with_program (held_in files) entry p f (subst (λ held. IsProgram held entry p) a.program.holds a.program.is) is
  told_so files f (Err (answers.Fault g sources)) a is =
      let other : Failure = record { fault = g; sources = sources } in
      one_fault (held_in files) entry f other is (subst (λ held. Stands held entry other) a.refused.is.holds a.refused.is.is.stands)
  told_so files f (Err (answers.Read name)) a is = tt
  told_so files f (Err answers.NoMemory) a is = tt

  pub program_given : (told : Option Files) (r : Result Program LoadFault) → IfOk r (λ p. ForHeld told (λ held. IsProgram held entry p)) → IfErr r (λ e. ForReplies gets old new (IsRefused told entry e))
      → IfSome told (λ files. (p : Program) → IsProgram (held_in files) entry p → IsThisProgram p r)
  program_given None r program refused = tt
  program_given (Some files) r program refused = λ p is. given files p r (record { program = program; refused = refused }) is

  pub fault_given : (told : Option Files) (r : Result Program LoadFault) → IfOk r (λ p. ForHeld told (λ held. IsProgram held entry p)) → IfErr r (λ e. ForReplies gets old new (IsRefused told entry e))
      → IfSome told (λ files. (f : Failure) → Stands (held_in files) entry f → IsThisFailure f r)
  fault_given None r program refused = tt
  fault_given (Some files) r program refused = λ f is. told_so files f r (record { program = program; refused = refused }) is

-- ---- no fault of names is that a file is missing

abbrev IsThere : Fault → Type 0
IsThere f = f.kind ≢ kinds.FileMissing

data AreThere : List Fault → Type 0 where
  nothing : AreThere []
  one_and : {f : Fault} {fs : List Fault} → IsThere f → AreThere fs → AreThere (f ∷ fs)

both_there : (fs gs : List Fault) → AreThere fs → AreThere gs → AreThere (fs ++ gs)
both_there [] gs a b = b
both_there (f ∷ fs) gs (one_and p a) b = one_and p (both_there fs gs a b)

all_there : {X : Type 0} (g : X → List Fault) (xs : List X) → ((x : X) → AreThere (g x)) → AreThere (flat_map g xs)
all_there g [] each = nothing
all_there g (x ∷ xs) each = both_there (g x) (flat_map g xs) (each x) (all_there g xs each)

each_there : {X : Type 0} (g : X → Fault) (xs : List X) → ((x : X) → IsThere (g x)) → AreThere (map g xs)
each_there g [] each = nothing
each_there g (x ∷ xs) each = one_and (each x) (each_there g xs each)

one_there : (b : Bool) (f : Fault) → IsThere f → AreThere (if b then f ∷ [] else [])
one_there true f there = one_and there nothing
one_there false f there = nothing

none_or_there : (b : Bool) (f : Fault) → IsThere f → AreThere (if b then [] else f ∷ [])
none_or_there true f there = nothing
none_or_there false f there = one_and there nothing

some_there : (b : Bool) (fs : List Fault) → AreThere fs → AreThere (if b then fs else [])
some_there true fs there = there
some_there false fs there = nothing

or_some_there : (b : Bool) (fs : List Fault) → AreThere fs → AreThere (if b then [] else fs)
or_some_there true fs there = nothing
or_some_there false fs there = there

twice : kinds.NameTwice ≢ kinds.FileMissing
twice e = cc

unknown_name : kinds.NameUnknown ≢ kinds.FileMissing
unknown_name e = cc

loop : kinds.SuperLoop ≢ kinds.FileMissing
loop e = cc

wrong : kinds.WrongKind ≢ kinds.FileMissing
wrong e = cc

parent_there : (files : List SourceFile) (number file : ℕ) (b : Block) (name : Option Named) (above : Option ℕ) → AreThere (parent_faults files number file b name above)
parent_there files number file b None above = nothing
parent_there files number file b (Some name) None = none_or_there _ _ unknown_name
parent_there files number file b (Some name) (Some above) = both_there _ _ (one_there _ _ loop) (none_or_there _ _ wrong)

module _ (files : List SourceFile) where
  import_fault : SourceFile → Named × Option Quoted → List Fault
  import_fault file i = if is_none (imported files file i) then fault kinds.NameUnknown i.0.at ∷ [] else []

  file_there : (file : SourceFile) → AreThere (file_faults files file)
  unfolding import_fault
  file_there file =
      both_there (map (λ (n : Named). fault kinds.NameTwice n.at) (repeated [] (flat_map item_names file.tree.items))) (flat_map (import_fault file) (imports_of file))
      (each_there (λ (n : Named). fault kinds.NameTwice n.at) (repeated [] (flat_map item_names file.tree.items)) (λ n. twice))
      (all_there (import_fault file) (imports_of file) (λ i. one_there (is_none (imported files file i)) (fault kinds.NameUnknown i.0.at) unknown_name))

  abbrev twice_of : Decl → Fault
  twice_of d = fault kinds.NameTwice d.name.at

  abbrev pin_of : Label → Fault
  pin_of l = fault kinds.WrongKind (label_at l)

  abbrev made_of : Named → ℕ → List Fault
  made_of t m = if is_interface_block files m then [] else fault kinds.WrongKind t.at ∷ []

  abbrev made_in : ℕ → Named → List Fault
  made_in file t = flat_map (made_of t) (option_to_list (meaning files file t.name.0))

  made_there : (file : ℕ) (t : Named) → AreThere (made_in file t)
  made_there file t = all_there (made_of t) (option_to_list (meaning files file t.name.0)) (λ m. none_or_there (is_interface_block files m) (fault kinds.WrongKind t.at) wrong)

  block_there : (number : ℕ) (b : BlockAt) → AreThere (block_faults files number b)
  block_there number b =
      let stmts = stmts_of b.block in
      let parents = parent_faults files number b.file b.block b.block.parent (parent files number) in
      let types = flat_map (unknown files b.file) (flat_map type_names stmts) in
      let members = map twice_of (clashing (inherited files number) (flat_map decls stmts)) in
      let stray = if is_component b.block.kind then [] else map pin_of (flat_map pins stmts) in
      let made = if is_interface b.block.kind then flat_map (made_in b.file) (flat_map new_names stmts) else [] in
      both_there (parents ++ types ++ members ++ stray) made
      (both_there (parents ++ types ++ members) stray
      (both_there (parents ++ types) members
      (both_there parents types (parent_there files number b.file b.block b.block.parent (parent files number))
      (all_there (unknown files b.file) (flat_map type_names stmts) (λ t. none_or_there (is_known files b.file t.name.0) (fault kinds.NameUnknown t.at) unknown_name)))
      (each_there twice_of (clashing (inherited files number) (flat_map decls stmts)) (λ d. twice)))
      (or_some_there (is_component b.block.kind) (map pin_of (flat_map pins stmts)) (each_there pin_of (flat_map pins stmts) (λ l. wrong))))
      (some_there (is_interface b.block.kind) (flat_map (made_in b.file) (flat_map new_names stmts)) (all_there (made_in b.file) (flat_map new_names stmts) (made_there b.file)))

names_there : (files : List SourceFile) → AreThere (name_faults files)
names_there files =
    both_there (flat_map (file_faults files) files) (flat_map (λ (b : ℕ × BlockAt). block_faults files b.0 b.1) (numbered 0 (blocks_of files)))
    (all_there (file_faults files) files (file_there files))
    (all_there (λ (b : ℕ × BlockAt). block_faults files b.0 b.1) (numbered 0 (blocks_of files)) (λ b. block_there files b.0 b.1))

sooner_there : (a b : Fault) (v : Bool) → IsThere a → IsThere b → IsThere (if v then b else a)
sooner_there a b true p q = q
sooner_there a b false p q = p

least_by : (a : Fault) (o : Option Fault) → IsThere a → ((f : Fault) → o ≡ Some f → IsThere f) → IsThere (sooner a o)
least_by a None p more = p
least_by a (Some b) p more = sooner_there a b (is_before b a) p (more b refl)

least_there : (fs : List Fault) (f : Fault) → AreThere fs → least fs ≡ Some f → IsThere f
least_there [] f there e = cc
least_there (a ∷ fs) f (one_and p more) e = let same : sooner a (least fs) ≡ f = cc in subst IsThere same (least_by a (least fs) p (λ g e. least_there fs g more e))

pub never_missing : (files : List SourceFile) (f : Fault) → name_fault files ≡ Some f → f.kind ≢ kinds.FileMissing
never_missing files f e = least_there (name_faults files) f (names_there files) e

-- nothing was missing where all is loaded
pub no_more_missing : (before now : ℕ) (Unplain Missing : Type 0) → (Missing → ⊥) → CountsMissing before now Unplain ⊥ ⊥ → CountsMissing before now Unplain Missing ⊥
no_more_missing before now Unplain Missing never counts = record { later = counts.later; rose = λ missing. absurd (never missing); only = λ less. absurd (elim (counts.only less) [ inl n ↦ n | inr n ↦ n ]) }
