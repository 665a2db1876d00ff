-- What the answers mean with which reading a project ends.
use Rattle.std.proofs.Common.{◌≡◌, ℕ, ◌≤◌, List, subst, sym, ap, ◌∙◌, refl, ⊎_elim, arith}
use Rattle.std.proofs.lemmas.Bool.{cases_lt}
use Rattle.std.specs.Prelude.{Option, Some, None, Result, Ok, Err, IfOk}
use Rattle.std.specs.FinMap.{get}
use Rattle.ato_outside.specs.Causes.{Rose}
use Rattle.ato_outside.specs.Files.{Files}
use Rattle.ato_base.specs.declared.faults.Fault.{Fault}
use Rattle.ato_base.specs.declared.faults.FaultKind.TheVariants as kinds
use Rattle.ato_base.specs.declared.memory.NoMemory.{NoMemory}
use Rattle.ato_first.specs.declared.first_form.Block.{Block}
use Rattle.ato_words.specs.Words.{IsJob}
use Rattle.ato_words.specs.declared.words.Task.{Task}
use Rattle.ato_words.specs.declared.words.Task.TheVariants as tasks
use Rattle.ato_build.specs.Causes.{CountsReads}
use Rattle.ato_build.specs.Entry.{source_limit, GivesBlock, StandsInEntry}
use Rattle.ato_build.specs.Fetching.{IsFetched}
use Rattle.ato_build.specs.Found.{Found, Missing, TooLong, Whole, found_of, HasFile, bytes_of}
use Rattle.ato_base.specs.Stages.{arrived, onward}
use Rattle.ato_build.specs.Headline.{Means}
use Rattle.ato_build.specs.Input.{Input, StandsInCatalogue, catalogue_limit, certificate_limit, HasCertificate, HasInput}
use Rattle.ato_build.specs.InputStages.{Stage, Started, WithBlock, next_file, IsReached, Stands}
use Rattle.ato_build.specs.Projects.{project_of}
use Rattle.ato_build.specs.Readings.{EndsEarly, EndsWith, IsFaultEnd, IsReading}
use Rattle.ato_build.specs.Texts.{fault_text, files_with, read_fault_text, said_text}
use Rattle.ato_build.specs.declared.answer.Answer.{Answer}
use Rattle.ato_build.specs.declared.fetching.Fetched.{Fetched}
use Rattle.ato_build.specs.declared.fetching.Fetched.TheVariants as fetching
use Rattle.ato_build.specs.declared.project.Project.{Project}
use Rattle.ato_build.specs.declared.reading.Reading.{Reading}
use Rattle.ato_build.specs.declared.reading.Reading.TheVariants.{Ready, Ended}
use Rattle.ato_build.specs.declared.status.Status.{Status}
use Rattle.ato_build.specs.declared.status.Status.TheVariants as answers

-- files have something at each name
pub some_file : (held : Option Files) (limit : ℕ) (name : List ℕ) → (found : Found) × HasFile held limit name found
some_file None limit name = (Missing, tt)
some_file (Some files) limit name = (found_of limit (get files name), refl)

some_certificate : (held : Option Files) (task : Task) → (found : Found) × HasCertificate held task found
some_certificate held (tasks.Build build) = (Missing, refl)
some_certificate held (tasks.Check check) = some_file held certificate_limit check.cert

-- ---- a fault that stands

module _ (held : Option Files) (words : List (List ℕ)) (task : Task) (tray : Option Files) (entry : Found) (f : Fault) (source : List ℕ) (answer : Answer)
    (job : IsJob words task) (read : HasFile held source_limit (project_of task).file entry) (is : source ≡ bytes_of entry)
    (status : answer.status ≡ answers.Fault f) (said : said_text answer.said ≡ fault_text (files_with (project_of task) source) f) where
  fault_means : (catalogue certificate : Found) → HasFile held catalogue_limit (project_of task).catalogue catalogue → HasCertificate held task certificate
      → Stands task (record { entry = entry; catalogue = catalogue; certificate = certificate }) f → Means words held tray tray answer.status (said_text answer.said)
  fault_means catalogue certificate found has stands =
      subst (λ s. Means words held tray tray s (said_text answer.said)) (sym status) (record {
        task = task;
        job = job;
        input = record { entry = entry; catalogue = catalogue; certificate = certificate };
        read = record { entry = read; catalogue = found; certificate = has };
        stands = stands;
        nothing_put = refl;
        text_is = said ∙ ap (λ s. fault_text (files_with (project_of task) s) f) is;
      })

  entry_means : StandsInEntry (project_of task) entry f → Means words held tray tray answer.status (said_text answer.said)
  entry_means stands =
      let catalogue = some_file held catalogue_limit (project_of task).catalogue in
      let certificate = some_certificate held task in
      fault_means catalogue.0 certificate.0 catalogue.1 certificate.1 (record { stage = Started; reached = arrived; has = stands })

  catalogue_means : (block : Block) (catalogue : Found) → GivesBlock (project_of task) entry block → HasFile held catalogue_limit (project_of task).catalogue catalogue → StandsInCatalogue catalogue f
      → Means words held tray tray answer.status (said_text answer.said)
  catalogue_means block catalogue gives found stands =
      let certificate = some_certificate held task in
      fault_means catalogue certificate.0 found certificate.1 (record { stage = WithBlock block; reached = onward gives arrived; has = stands })

module _ (held : Option Files) (project : Project) (entry : Found) (f : Fault) (source : List ℕ) (read : HasFile held source_limit project.file entry) (is : source ≡ bytes_of entry) where
  -- in the entry
  pub entry_ended : (result : Result Reading NoMemory) → StandsInEntry project entry f → IsFaultEnd project source f result → IfOk result (IsReading held project)
  entry_ended (Err e) stands end = tt
  entry_ended (Ok (Ready sources)) stands end = absurd end
  entry_ended (Ok (Ended answer)) stands (status, said) = λ words task tray job same.
      entry_means held words task tray entry f source answer job (subst (λ p. HasFile held source_limit p.file entry) (sym same) read) is status
      (subst (λ p. said_text answer.said ≡ fault_text (files_with p source) f) (sym same) said) (subst (λ p. StandsInEntry p entry f) (sym same) stands)

  -- in the catalogue
  pub catalogue_ended : (block : Block) (catalogue : Found) (result : Result Reading NoMemory) → GivesBlock project entry block → HasFile held catalogue_limit project.catalogue catalogue → StandsInCatalogue catalogue f
      → IsFaultEnd project source f result → IfOk result (IsReading held project)
  catalogue_ended block catalogue (Err e) gives found stands end = tt
  catalogue_ended block catalogue (Ok (Ready sources)) gives found stands end = absurd end
  catalogue_ended block catalogue (Ok (Ended answer)) gives found stands (status, said) = λ words task tray job same.
      catalogue_means held words task tray entry f source answer job (subst (λ p. HasFile held source_limit p.file entry) (sym same) read) is status
      (subst (λ p. said_text answer.said ≡ fault_text (files_with p source) f) (sym same) said) block catalogue (subst (λ p. GivesBlock p entry block) (sym same) gives)
      (subst (λ p. HasFile held catalogue_limit p.catalogue catalogue) (sym same) found) stands

-- the same, where what stands at the entry's name is known only later

pub entry_end : (held : Option Files) (project : Project) (source lent : List ℕ) (f : Fault) (result : Result Reading NoMemory) → StandsInEntry project (Whole source) f → lent ≡ source → IsFaultEnd project lent f result
    → IfOk result (λ reading. HasFile held source_limit project.file (Whole source) → IsReading held project reading)
entry_end held project source lent f (Err e) stands is end = tt
entry_end held project source lent f (Ok (Ready sources)) stands is end = absurd end
entry_end held project source lent f (Ok (Ended answer)) stands is end = λ read. entry_ended held project (Whole source) f lent read is (Ok (Ended answer)) stands end

pub catalogue_end : (held : Option Files) (project : Project) (source lent : List ℕ) (block : Block) (catalogue : Found) (f : Fault) (result : Result Reading NoMemory) → GivesBlock project (Whole source) block
    → HasFile held catalogue_limit project.catalogue catalogue → StandsInCatalogue catalogue f → lent ≡ source → IsFaultEnd project lent f result
    → IfOk result (λ reading. HasFile held source_limit project.file (Whole source) → IsReading held project reading)
catalogue_end held project source lent block catalogue f (Err e) gives found stands is end = tt
catalogue_end held project source lent block catalogue f (Ok (Ready sources)) gives found stands is end = absurd end
catalogue_end held project source lent block catalogue f (Ok (Ended answer)) gives found stands is end = λ read.
    catalogue_ended held project (Whole source) f lent read is block catalogue (Ok (Ended answer)) gives found stands end

pub contents_end : (project : Project) (source lent : List ℕ) (block : Block) (bytes : List ℕ) (f : Fault) (result : Result Reading NoMemory) → GivesBlock project (Whole source) block
    → StandsInCatalogue (Whole bytes) f → lent ≡ source → IsFaultEnd project lent f result
    → IfOk result (λ reading. (held : Option Files) → HasFile held source_limit project.file (Whole source) → HasFile held catalogue_limit project.catalogue (Whole bytes) → IsReading held project reading)
contents_end project source lent block bytes f (Err e) gives stands is end = tt
contents_end project source lent block bytes f (Ok (Ready sources)) gives stands is end = absurd end
contents_end project source lent block bytes f (Ok (Ended answer)) gives stands is end = λ held read found.
    catalogue_ended held project (Whole source) f lent read is block (Whole bytes) (Ok (Ended answer)) gives found stands end

-- the end for a fault is that of no other status
pub fault_is : (project : Project) (source : List ℕ) (f : Fault) (result : Result Reading NoMemory) (status : Status) → IsFaultEnd project source f result → EndsWith status result → answers.Fault f ≡ status
fault_is project source f (Err e) status end with = absurd with
fault_is project source f (Ok (Ready sources)) status end with = absurd end
fault_is project source f (Ok (Ended answer)) status (is, said) with = sym is ∙ with

module _ (project : Project) (source : List ℕ) (f : Fault) (result : Result Reading NoMemory) (end : IsFaultEnd project source f result) where
  pub fault_was_read : EndsWith answers.ReadFault result → ⊥
  fault_was_read with = let e : answers.Fault f ≡ answers.ReadFault = fault_is project source f result answers.ReadFault end with in let bad : ⊥ = cc in bad

  pub fault_no_write : EndsWith answers.WriteFault result → ⊥
  fault_no_write with = let e : answers.Fault f ≡ answers.WriteFault = fault_is project source f result answers.WriteFault end with in let bad : ⊥ = cc in bad

  -- a fault of another kind than a missing file
  pub fault_not_missing : (f.kind ≡ kinds.FileMissing → ⊥) → (g : Fault) → EndsWith (answers.Fault g) result → g.kind ≡ kinds.FileMissing → ⊥
  fault_not_missing other g with is =
      let e : answers.Fault f ≡ answers.Fault g = fault_is project source f result (answers.Fault g) end with in
      let same : f ≡ g = cc in other (ap (λ h. h.kind) same ∙ is)

-- ---- what was fetched

module _ (held : Option Files) (limit : ℕ) (name file : List ℕ) (fetched : Fetched) where
  pub has_missing : name ≡ file → fetched ≡ fetching.Missing → IsFetched held limit name fetched → HasFile held limit file Missing
  has_missing same is h = subst (λ n. HasFile held limit n Missing) same (subst (IsFetched held limit name) is h)

  pub has_long : name ≡ file → fetched ≡ fetching.TooLong → IsFetched held limit name fetched → HasFile held limit file TooLong
  has_long same is h = subst (λ n. HasFile held limit n TooLong) same (subst (IsFetched held limit name) is h)

  pub has_whole : (bytes read : List ℕ) → name ≡ file → read ≡ bytes → fetched ≡ fetching.Whole bytes → IsFetched held limit name fetched → HasFile held limit file (Whole read)
  has_whole bytes read same all is h =
      let whole : IsFetched held limit name (fetching.Whole bytes) = subst (IsFetched held limit name) is h in
      subst (λ n. HasFile held limit n (Whole read)) same (subst (λ b. HasFile held limit name (Whole b)) (sym all) whole.0)

-- ---- a file that was not read

pub unread_means : (held : Option Files) (words : List (List ℕ)) (task : Task) (tray : Option Files) (file : List ℕ) (answer : Answer) (input : Input) (stage : Stage) → IsJob words task → HasInput held task input
    → IsReached task input stage → next_file task stage ≡ Some file → answer.status ≡ answers.ReadFault → said_text answer.said ≡ read_fault_text file → Means words held tray tray answer.status (said_text answer.said)
unread_means held words task tray file answer input stage job read reached reads status said =
    subst (λ s. Means words held tray tray s (said_text answer.said)) (sym status) (record {
      task = task;
      job = job;
      input = input;
      read = read;
      stage = stage;
      reached = reached;
      file = file;
      reads = reads;
      nothing_put = refl;
      text_is = said;
    })

module _ (held : Option Files) (project : Project) (file : List ℕ) (answer : Answer) (status : answer.status ≡ answers.ReadFault) (said : said_text answer.said ≡ read_fault_text file) where
  -- the entry
  pub entry_unread : file ≡ project.file → EndsEarly held project answer
  entry_unread is = λ words task tray job same.
      let entry = some_file held source_limit (project_of task).file in
      let catalogue = some_file held catalogue_limit (project_of task).catalogue in
      let certificate = some_certificate held task in
      unread_means held words task tray file answer (record { entry = entry.0; catalogue = catalogue.0; certificate = certificate.0 }) Started job
      (record { entry = entry.1; catalogue = catalogue.1; certificate = certificate.1 }) arrived (ap Some (ap (λ p. p.file) same ∙ sym is)) status said

  -- the catalogue
  pub catalogue_unread : (entry : Found) (block : Block) → HasFile held source_limit project.file entry → GivesBlock project entry block → file ≡ project.catalogue → EndsEarly held project answer
  catalogue_unread entry block read gives is = λ words task tray job same.
      let catalogue = some_file held catalogue_limit (project_of task).catalogue in
      let certificate = some_certificate held task in
      unread_means held words task tray file answer (record { entry = entry; catalogue = catalogue.0; certificate = certificate.0 }) (WithBlock block) job
      (record { entry = subst (λ p. HasFile held source_limit p.file entry) (sym same) read; catalogue = catalogue.1; certificate = certificate.1 })
      (onward (subst (λ p. GivesBlock p entry block) (sym same) gives) arrived) (ap Some (ap (λ p. p.catalogue) same ∙ sym is)) status said

-- ---- counts over two reads

pub rose_since : (before mid now : ℕ) → before ≤ mid → Rose mid now → Rose before now
rose_since before mid now le rose = omega (arith, le, rose)

-- a miss in the second read is one in both
pub missed_since : (before mid now : ℕ) (result : Result Answer NoMemory) → before ≤ mid → IfOk result (λ answer. (f : Fault) → answer.status ≡ answers.Fault f → f.kind ≡ kinds.FileMissing → Rose mid now)
    → IfOk result (λ answer. (f : Fault) → answer.status ≡ answers.Fault f → f.kind ≡ kinds.FileMissing → Rose before now)
missed_since before mid now (Err e) le h = tt
missed_since before mid now (Ok answer) le h = λ f status kind. rose_since before mid now le (h f status kind)

-- where the first read did not fail, the count is that of the second
pub counts_after : (before mid now : ℕ) (A B Failed Stopped : Type 0) → CountsReads before mid A B → (A → ⊥) → (B → ⊥) → CountsReads mid now Failed Stopped → CountsReads before now Failed Stopped
counts_after before mid now A B Failed Stopped first a b second = record {
  later = omega (arith, first.later, second.later);
  rose = λ f. rose_since before mid now first.later (second.rose f);
  kept = λ less. ⊎_elim (λ l. absurd (⊎_elim a b (first.kept l))) (λ le. second.kept (omega (arith, le, less))) (cases_lt before mid);
}
