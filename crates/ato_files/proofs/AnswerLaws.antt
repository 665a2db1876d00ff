-- From where loading ends to its answer.
use Rattle.std.proofs.Common.{◌≡◌, ℕ, List, [], ◌++◌, map, length, nat_lt, Option, Some, None, refl, sym, ap, subst, ◌∙◌, ◌⊎◌, inl, inr}
use Rattle.ato_base.specs.declared.faults.Fault.{Fault}
use Rattle.ato_outside.specs.Files.{Files}
use Rattle.ato_outside.specs.Replies.{Reply}
use Rattle.ato_files.specs.declared.program.Source.{Source}
use Rattle.ato_files.specs.declared.program.SourceFile.{SourceFile}
use Rattle.ato_files.specs.declared.walking.Stop.{Stop}
use Rattle.ato_files.specs.declared.walking.Stop.TheVariants as stops
use Rattle.ato_files.specs.declared.walking.Walk.{Walk}
use Rattle.ato_files.specs.Answers.{Holds, ForHeld, CountsMissing, IsFailure, IsHalted, AreHalted, before_call, behind_call, held_in}
use Rattle.ato_files.specs.LoadSteps.{as_source, read_too, FaultBehind, StopsWith, IsWalk, HasWalk, IsBegun, IsDone, IsLoading}
use Rattle.ato_files.specs.LoadSteps as steps
use Rattle.ato_files.specs.Loading.{Held, Loaded, all_files, most_files}
use Rattle.ato_files.specs.Programs.{Stands, Loading, of_a_file}
use Rattle.ato_files.specs.Replies.{replies_of}
use Rattle.ato_files.specs.Walks.{started}
use Rattle.ato_files.proofs.HeldLaws.{reached_start}
use Rattle.ato_files.proofs.LibraryLaws.{has_start}
use Rattle.ato_files.proofs.LoadLaws.{for_each}

-- ---- a fault

behind_stands : (held : Held) (entry : List ℕ) (l : Loaded) (f : Fault) (read : Option Source) (files : List SourceFile) (sources : List Source) (more : List Reply) → all_files l ≡ files → sources ≡ map as_source files ++ read_too read
    → FaultBehind held entry l f read more → Stands held entry (record { fault = f; sources = sources })
behind_stands held entry l f read files sources more e s b = record {
  stage = Loading l;
  reached = b.reached;
  has = (of_a_file b.fault, s ∙ ap (λ (fs : List SourceFile). map as_source fs ++ read_too read) (sym e) ∙ ap (λ more. map as_source (all_files l) ++ more) (sym b.source));
}

-- why loading stops, at a stop that is known
why : (told : Option Files) (entry : List ℕ) (files : List SourceFile) (stop known : Stop) (replies : List Reply) (w : StopsWith told entry files stop replies) → stop ≡ known → steps.StopsBehind told entry w.loaded known w.more
why told entry files stop known replies w is = subst (λ (x : Stop). steps.StopsBehind told entry w.loaded x w.more) is w.why

pub fault_stands : (told : Option Files) (entry : List ℕ) (files : List SourceFile) (stop : Stop) (f : Fault) (read : Option Source) (sources : List Source) (replies : List Reply) → stop ≡ stops.Fault f read
    → sources ≡ map as_source files ++ read_too read → StopsWith told entry files stop replies → ForHeld told (λ held. IsFailure held entry (record { fault = f; sources = sources }) replies)
unfolding behind_stands
fault_stands told entry files stop f read sources replies is s w =
    for_each entry w.loaded [] told
    (λ held (b : FaultBehind held entry w.loaded f read w.more). record {
      stands = behind_stands held entry w.loaded f read files sources w.more w.files_are s b;
      replies_are = w.replies_are ∙ ap (λ more. replies_of w.loaded.files ++ more) b.replies_are;
    })
    (why told entry files stop (stops.Fault f read) replies w is)

-- there is no memory for the sources of a fault
pub fault_halts : (told : Option Files) (entry : List ℕ) (files : List SourceFile) (stop : Stop) (f : Fault) (read : Option Source) (replies : List Reply) → stop ≡ stops.Fault f read
    → StopsWith told entry files stop replies → ForHeld told (λ held. IsHalted held entry replies)
fault_halts told entry files stop f read replies is w =
    for_each entry w.loaded [] told
    (λ held (b : FaultBehind held entry w.loaded f read w.more). record {
      loaded = w.loaded;
      reached = b.reached;
      more = w.more;
      halted = subst (AreHalted held entry w.loaded) (sym b.replies_are) behind_call;
      replies_are = w.replies_are;
    })
    (why told entry files stop (stops.Fault f read) replies w is)

-- ---- the start

-- a shelf may hold something
holdable : (told : Option Files) → (held : Held) × Holds told held
holdable None = ((λ name. None), tt)
holdable (Some files) = (held_in files, refl)

pub begun_walks : (told : Option Files) (entry : List ℕ) (walk : Walk) → IsBegun entry walk → HasWalk told entry walk
begun_walks told entry walk b =
    let h = holdable told in (
      started walk.names b.library,
      record {
        names_are = refl;
        files_are = sym b.files_are;
        known_are = sym b.known_are;
        few = ap (λ (names : List (List ℕ)). nat_lt most_files (length names)) b.known_are;
        reached = record { held = h.0; holds = h.1; is = reached_start entry h.0 (started walk.names b.library) b.start };
      },
    )

-- there was no memory for the library
pub start_halts : (told : Option Files) (entry : List ℕ) → ForHeld told (λ held. IsHalted held entry [])
start_halts told entry =
    let h = holdable told in
    let l = has_start.0 in
    record {
      held = h.0;
      holds = h.1;
      is = record { loaded = l; reached = reached_start entry h.0 l has_start.1; more = []; halted = before_call; replies_are = sym (ap (λ (fs : List SourceFile). replies_of fs ++ []) has_start.1.files) };
    }

-- ---- all files are loaded

pub done_loads : (told : Option Files) (entry : List ℕ) (walk : Walk) → IsDone told entry walk → ForHeld told (λ held. IsLoading held entry (record { names = walk.names; files = walk.files }))
done_loads told entry walk d =
    for_each entry d.0 [] told (λ held reached. record { loaded = d.0; reached = reached; last = d.2; names_are = d.1.names_are; files_are = d.1.files_are }) d.1.reached

-- ---- counts

pub refused_misses : (before now : ℕ) (Unplain Missing Out MissingToo OutToo : Type 0) → (MissingToo → Missing) → (Missing → MissingToo ⊎ OutToo) → (Out → OutToo)
    → CountsMissing before now Unplain Missing Out → CountsMissing before now Unplain MissingToo OutToo
refused_misses before now Unplain Missing Out MissingToo OutToo back on out counts = record {
  later = counts.later;
  rose = λ missing. counts.rose (back missing);
  only = λ less. elim (counts.only less) [ inl missing ↦ on missing | inr o ↦ inr (out o) ];
}
