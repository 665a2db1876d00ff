-- What the answers mean, before they are printed and after.
use Rattle.std.proofs.Common.{◌≡◌, ℕ, List, length, subst, sym, refl, arith, inr}
use Rattle.std.specs.Prelude.{Option, Some, None, IsSomeAnd}
use Rattle.std.proofs.lemmas.List.{take_all}
use Rattle.ato_outside.specs.Causes.{Counts}
use Rattle.ato_outside.specs.Files.{Files}
use Rattle.ato_outside.specs.declared.tray.TrayError.{TrayError}
use Rattle.ato_outside.specs.declared.tray.TrayError.TheVariants as tray_errors
use Rattle.ato_first_catalog.specs.Catalogue.{ShowsContents}
use Rattle.ato_first_catalog.specs.Contents.{Contents}
use Rattle.ato_first_catalog.proofs.CatalogueLaws.{contents_read}
use Rattle.ato_words.specs.Words.{IsBuild}
use Rattle.ato_words.specs.declared.words.Build.{Build}
use Rattle.ato_build.specs.Answers.{IsStopped}
use Rattle.ato_build.specs.Causes.{IsEnd}
use Rattle.ato_build.specs.Decisions.{IsDecision}
use Rattle.ato_build.specs.Entry.{source_limit, GivesBlock}
use Rattle.ato_build.specs.Found.{Missing, Whole, HasFile}
use Rattle.ato_build.specs.Headline.{Decides, Means, Headline, IsCaused}
use Rattle.ato_build.specs.Boards.{board_of}
use Rattle.ato_build.specs.Input.{Input, catalogue_limit}
use Rattle.ato_build.specs.InputStages.{WithBoard}
use Rattle.ato_build.proofs.InputLaws.{reached_at}
use Rattle.ato_words.specs.declared.words.Task.TheVariants as tasks
use Rattle.ato_build.specs.Outputs.{PutsInOrder}
use Rattle.ato_build.specs.Printing.{Appends}
use Rattle.ato_build.specs.Projects.{built_project, options_of}
use Rattle.ato_build.specs.Readings.{AreSources}
use Rattle.ato_build.specs.Texts.{said_text}
use Rattle.ato_build.specs.declared.answer.Answer.{Answer}
use Rattle.ato_build.specs.declared.outputs.Output.{Output}
use Rattle.ato_build.specs.declared.outputs.Stop.{Stop}
use Rattle.ato_build.specs.declared.project.Options.{Options}
use Rattle.ato_build.specs.declared.project.Project.{Project}
use Rattle.ato_build.specs.declared.reading.Sources.{Sources}
use Rattle.ato_build.specs.declared.status.Status.{Status}
use Rattle.ato_build.specs.declared.status.Status.TheVariants as answers

-- ---- the headline of what was printed

-- a text that went through whole
pub printed : (words : List (List ℕ)) (held old new : Option Files) (before now : Option (List ℕ)) (status : Status) (text : List ℕ)
    → Means words held old new status text → Appends before now text → Headline words held old new before now status
printed words held old new before now answers.Built text m a = (text, m, a)
printed words held old new before now answers.Accepted text m a = (text, m, a)
printed words held old new before now answers.Refuted text m a = (text, m, a)
printed words held old new before now (answers.Fault f) text m a = (text, m, a)
printed words held old new before now answers.ReadFault text m a = (text, m, a)
printed words held old new before now answers.WriteFault text m a = (answers.WriteFault, text, m, (length text, subst (Appends before now) (sym (take_all (length text) text (omega arith))) a))
printed words held old new before now answers.Usage text m a = (text, m, a)
printed words held old new before now answers.NoMemory text m a = (text, m, a)
printed words held old new before now (answers.Rejected line) text m a = (text, m, a)

-- what is known of the two failures that a status tells of
pub caused : (Read Put : Type 0) (status : Status) → (status ≡ answers.ReadFault → Read) → (status ≡ answers.WriteFault → Put) → IsCaused Read Put status
caused Read Put answers.Built r p = tt
caused Read Put answers.Accepted r p = tt
caused Read Put answers.Refuted r p = tt
caused Read Put (answers.Fault f) r p = tt
caused Read Put answers.ReadFault r p = r refl
caused Read Put answers.WriteFault r p = p refl
caused Read Put answers.Usage r p = tt
caused Read Put answers.NoMemory r p = tt
caused Read Put (answers.Rejected line) r p = tt

-- ---- what is decided

-- what a build of what was read decides
pub decided : (words : List (List ℕ)) (held : Option Files) (build : Build) (project : Project) (options : Options) (sources : Sources) (status : Status) (outputs : List Output) (text : List ℕ)
    → IsBuild words build → built_project build ≡ project → options_of build ≡ options → AreSources held project sources
    → ((contents : Contents) → ShowsContents sources.catalog contents → IsDecision options (board_of sources.block contents) status outputs text) → Decides words held status outputs text
decided words held build project options sources status outputs text job same also read decision =
    let found = contents_read read.bytes sources.catalog read.read in
    let entry : HasFile held source_limit build.file (Whole sources.source) = subst (λ p. HasFile held source_limit p.file (Whole sources.source)) (sym same) read.entry in
    let catalogue : HasFile held catalogue_limit build.catalogue (Whole read.bytes) = subst (λ p. HasFile held catalogue_limit p.catalogue (Whole read.bytes)) (sym same) read.catalogue in
    let input : Input = record { entry = Whole sources.source; catalogue = Whole read.bytes; certificate = Missing } in
    record {
      build = build;
      job = job;
      input = input;
      read = record { entry = entry; catalogue = catalogue; certificate = refl };
      board = board_of sources.block found.0;
      gives = reached_at (tasks.Build build) input (WithBoard (board_of sources.block found.0)) (subst (λ p. GivesBlock p (Whole sources.source) sources.block) (sym same) read.gives, found.1);
      decision = subst (λ o. IsDecision o (board_of sources.block found.0) status outputs text) (sym also) (decision found.0 found.2);
    }

-- all files are put
pub all_put : (words : List (List ℕ)) (held old new : Option Files) (status : Status) (outputs : List Output) (text : List ℕ) → IsEnd status → Decides words held status outputs text → PutsInOrder old new outputs None
    → Means words held old new status text
all_put words held old new answers.Built outputs text end decides puts = record { outputs = outputs; decides = decides; puts = puts }
all_put words held old new answers.Refuted outputs text end decides puts = record { outputs = outputs; decides = decides; puts = puts }
all_put words held old new (answers.Fault f) outputs text end decides puts = absurd end
all_put words held old new answers.ReadFault outputs text end decides puts = absurd end
all_put words held old new answers.WriteFault outputs text end decides puts = absurd end
all_put words held old new answers.Usage outputs text end decides puts = absurd end
all_put words held old new answers.NoMemory outputs text end decides puts = absurd end
all_put words held old new answers.Accepted outputs text end decides puts = absurd end
all_put words held old new (answers.Rejected line) outputs text end decides puts = absurd end

stopped_by : (words : List (List ℕ)) (held old new : Option Files) (status : Status) (outputs : List Output) (text name : List ℕ) (error : TrayError) (answer : Answer) → Decides words held status outputs text
    → PutsInOrder old new outputs (Some (record { name = name; error = error })) → IsStopped (record { name = name; error = error }) answer → Means words held old new answer.status (said_text answer.said)
stopped_by words held old new status outputs text name tray_errors.Failed answer decides puts (is, said) =
    subst (λ s. Means words held old new s (said_text answer.said)) (sym is) (status, text, name, record { outputs = outputs; decides = decides; puts = puts }, said)
stopped_by words held old new status outputs text name tray_errors.NoMemory answer decides puts (is, said) =
    subst (λ s. Means words held old new s (said_text answer.said)) (sym is) (inr (status, text, name, record { outputs = outputs; decides = decides; puts = puts }), said)

-- the tray stopped at one of them
pub put_stopped : (words : List (List ℕ)) (held old new : Option Files) (status : Status) (outputs : List Output) (text : List ℕ) (stop : Stop) (answer : Answer) → Decides words held status outputs text
    → PutsInOrder old new outputs (Some stop) → IsStopped stop answer → Means words held old new answer.status (said_text answer.said)
put_stopped words held old new status outputs text stop answer decides puts is = stopped_by words held old new status outputs text stop.name stop.error answer decides puts is

-- ---- counts

-- a status that is no fault of writing
end_is_no_fault : (status : Status) → IsEnd status → status ≡ answers.WriteFault → ⊥
end_is_no_fault answers.Built end e = let bad : ⊥ = cc in bad
end_is_no_fault answers.Refuted end e = let bad : ⊥ = cc in bad
end_is_no_fault (answers.Fault f) end e = end
end_is_no_fault answers.ReadFault end e = end
end_is_no_fault answers.WriteFault end e = end
end_is_no_fault answers.Usage end e = end
end_is_no_fault answers.NoMemory end e = end
end_is_no_fault answers.Accepted end e = end
end_is_no_fault (answers.Rejected line) end e = end

pub counts_put : (before now : ℕ) (status : Status) (stop : Option Stop) → stop ≡ None → IsEnd status → Counts before now (IsSomeAnd stop (λ s. s.error ≡ tray_errors.Failed)) → Counts before now (status ≡ answers.WriteFault)
counts_put before now status stop none end counts =
    let here : Counts before now ⊥ = subst (λ s. Counts before now (IsSomeAnd s (λ s. s.error ≡ tray_errors.Failed))) none counts in
    record { later = here.later; rose = λ e. absurd (end_is_no_fault status end e); only = λ l. absurd (here.only l) }

error_of : (stop : Stop) (answer : Answer) → IsStopped stop answer → (answer.status ≡ answers.WriteFault → stop.error ≡ tray_errors.Failed) × (stop.error ≡ tray_errors.Failed → answer.status ≡ answers.WriteFault)
error_of stop answer is = by stop.error is
  where
    by : (error : TrayError) → IsStopped (record { name = stop.name; error = error }) answer → (answer.status ≡ answers.WriteFault → error ≡ tray_errors.Failed) × (error ≡ tray_errors.Failed → answer.status ≡ answers.WriteFault)
    by tray_errors.Failed (is, said) = ((λ e. refl), (λ e. is))
    by tray_errors.NoMemory (is, said) = ((λ e. let bad : ⊥ = cc in absurd bad), (λ e. let bad : ⊥ = cc in absurd bad))

pub counts_stopped : (before now : ℕ) (stop : Stop) (found : Option Stop) (answer : Answer) → found ≡ Some stop → IsStopped stop answer → Counts before now (IsSomeAnd found (λ s. s.error ≡ tray_errors.Failed)) → Counts before now (answer.status ≡ answers.WriteFault)
counts_stopped before now stop found answer some is counts =
    let here : Counts before now (stop.error ≡ tray_errors.Failed) = subst (λ s. Counts before now (IsSomeAnd s (λ s. s.error ≡ tray_errors.Failed))) some counts in
    let same = error_of stop answer is in
    record { later = here.later; rose = λ e. here.rose (same.0 e); only = λ l. same.1 (here.only l) }
