-- What the headline says where the words are no job, a fault stands, a pick is good or none is, or a certificate is valid or not.
use Rattle.std.proofs.Common.{◌≡◌, ℕ, List, inl, inr, sym, ◌∙◌, ap, refl, subst, arith}
use Rattle.std.specs.Prelude.{Option, Some, None, IfSome, ◌⊎◌}
use Rattle.ato_base.specs.declared.faults.Fault.{Fault}
use Rattle.ato_outside.specs.Files.{Files}
use Rattle.ato_outside.specs.Causes.{Rose}
use Rattle.ato_words.proofs.WordLaws.{one_build, one_job}
use Rattle.ato_build.specs.Boards.{Board, IsGood, NoGood, IsValidOn}
use Rattle.ato_build.specs.Causes.{EndsOutside, IsEnd, IsVerdict, IsDone, IsRejected}
use Rattle.ato_build.specs.Found.{Found}
use Rattle.ato_build.specs.Headline.{Decides, Judges, Headline}
use Rattle.ato_build.specs.Input.{Input, HasCertificate, HasInput, certificate_of, input_of}
use Rattle.ato_build.specs.InputStages.{Stage, WithBoard, WithCertificate, IsReached, Stands, GivesBoard, GivesCertificate}
use Rattle.ato_build.specs.Judgements.{IsNoValidCertificate}
use Rattle.ato_words.specs.Words.{IsBuild, IsCheck, IsJob, IsNoJob}
use Rattle.ato_words.specs.declared.words.Build.{Build}
use Rattle.ato_words.specs.declared.words.Check.{Check}
use Rattle.ato_words.specs.declared.words.Task.{Task}
use Rattle.ato_cert.specs.Texts.{cert_text}
use Rattle.ato_cert.specs.declared.cert.Cert.{Cert}
use Rattle.ato_words.specs.declared.words.Task.TheVariants as tasks
use Rattle.ato_build.specs.declared.outputs.Output.{Output}
use Rattle.ato_build.specs.declared.status.Status.{Status}
use Rattle.ato_build.specs.declared.status.Status.TheVariants as answers
use Rattle.ato_build.proofs.InputLaws.{one_board, one_certificate, stands_once, build_no_fault, check_no_fault}

-- ---- the other direction

-- Words that are no job end in the usage, unless memory or the sink fails.
pub usage_where : (words : List (List ℕ)) (held old new : Option Files) (before now : Option (List ℕ)) (status : Status) → Headline words held old new before now status → IsNoJob words
    → (status ≡ answers.Usage) ⊎ (status ≡ answers.NoMemory) ⊎ (status ≡ answers.WriteFault)
usage_where words held old new before now answers.Built h none = absurd (none (tasks.Build h.1.decides.build) h.1.decides.job)
usage_where words held old new before now answers.Accepted h none = absurd (none (tasks.Check h.1.0.check) h.1.0.job)
usage_where words held old new before now answers.Refuted h none = absurd (none (tasks.Build h.1.decides.build) h.1.decides.job)
usage_where words held old new before now (answers.Fault f) h none = absurd (none h.1.task h.1.job)
usage_where words held old new before now answers.ReadFault h none = absurd (none h.1.task h.1.job)
usage_where words held old new before now answers.WriteFault h none = inr (inr refl)
usage_where words held old new before now answers.Usage h none = inl refl
usage_where words held old new before now answers.NoMemory h none = inr (inl refl)
usage_where words held old new before now (answers.Rejected line) h none = absurd (none (tasks.Check h.1.0.check) h.1.0.job)

-- the certificate that the files have is the one that they are known to have
same_certificate : (files : Files) (task : Task) (found : Found) → HasCertificate (Some files) task found → found ≡ certificate_of files task
same_certificate files (tasks.Build build) found has = has
same_certificate files (tasks.Check check) found has = sym has

-- the input that the files have is the one that they are known to have
same_input : (files : Files) (a b : Task) (input : Input) → a ≡ b → HasInput (Some files) a input → input ≡ input_of files b
same_input files a b input same has =
    ap (λ e. record { entry = e; catalogue = input.catalogue; certificate = input.certificate }) (sym has.entry)
    ∙ ap (λ c. record { entry = (input_of files a).entry; catalogue = c; certificate = input.certificate }) (sym has.catalogue)
    ∙ ap (λ c. record { entry = (input_of files a).entry; catalogue = (input_of files a).catalogue; certificate = c }) (same_certificate files a input.certificate has.certificate)
    ∙ ap (input_of files) same

stands_here : (files : Files) (a b : Task) (input : Input) (f : Fault) → a ≡ b → HasInput (Some files) a input → Stands a input f → Stands b (input_of files b) f
stands_here files a b input f same has stands = subst (λ i. Stands b i f) (same_input files a b input same has) (subst (λ task. Stands task input f) same stands)

reached_here : (files : Files) (a b : Task) (input : Input) (stage : Stage) → a ≡ b → HasInput (Some files) a input → IsReached a input stage → IsReached b (input_of files b) stage
reached_here files a b input stage same has reached = subst (λ i. IsReached b i stage) (same_input files a b input same has) (subst (λ task. IsReached task input stage) same reached)

-- what is decided of files that are told comes of their input
decided_here : (words : List (List ℕ)) (files : Files) (status : Status) (outputs : List Output) (text : List ℕ) (build : Build) → IsBuild words build → (d : Decides words (Some files) status outputs text)
    → GivesBoard (tasks.Build build) (input_of files (tasks.Build build)) d.board
decided_here words files status outputs text build job d =
    reached_here files (tasks.Build d.build) (tasks.Build build) d.input (WithBoard d.board) (ap tasks.Build (one_build words d.build build d.job job)) d.read d.gives

-- what is found of a certificate comes of their input, too
judged_here : (words : List (List ℕ)) (files : Files) (status : Status) (text : List ℕ) (check : Check) → IsCheck words check → (j : Judges words (Some files) status text)
    → GivesCertificate check (input_of files (tasks.Check check)) j.board j.bytes
judged_here words files status text check job j =
    let same : tasks.Check j.check ≡ tasks.Check check = one_job words (tasks.Check j.check) (tasks.Check check) j.job job in
    reached_here files (tasks.Check j.check) (tasks.Check check) j.input (WithCertificate j.board j.bytes) same j.read j.gives

-- words of two commands
two_commands : (words : List (List ℕ)) (build : Build) (check : Check) → IsBuild words build → IsCheck words check → ⊥
two_commands words build check h k = let same : tasks.Build build ≡ tasks.Check check = one_job words (tasks.Build build) (tasks.Check check) h k in let bad : ⊥ = cc in bad

-- what is decided or found has no fault
decided_no_fault : (words : List (List ℕ)) (files : Files) (status : Status) (outputs : List Output) (text : List ℕ) (task : Task) (f : Fault) → IsJob words task → Decides words (Some files) status outputs text
    → Stands task (input_of files task) f → ⊥
decided_no_fault words files status outputs text (tasks.Build build) f job d stands =
    build_no_fault build (input_of files (tasks.Build build)) d.board f (decided_here words files status outputs text build job d) stands
decided_no_fault words files status outputs text (tasks.Check check) f job d stands = two_commands words d.build check d.job job

judged_no_fault : (words : List (List ℕ)) (files : Files) (status : Status) (text : List ℕ) (task : Task) (f : Fault) → IsJob words task → Judges words (Some files) status text
    → Stands task (input_of files task) f → ⊥
judged_no_fault words files status text (tasks.Build build) f job j stands = two_commands words build j.check job j.job
judged_no_fault words files status text (tasks.Check check) f job j stands =
    check_no_fault check (input_of files (tasks.Check check)) j.board j.bytes f (judged_here words files status text check job j) stands

-- A fault that stands is the answer, unless memory or something outside fails.
pub fault_where : (words : List (List ℕ)) (held old new : Option Files) (before now : Option (List ℕ)) (status : Status) → Headline words held old new before now status
    → IfSome held (λ files. (task : Task) (f : Fault) → IsJob words task → Stands task (input_of files task) f → (status ≡ answers.Fault f) ⊎ EndsOutside status)
fault_where words None old new before now status h = tt
fault_where words (Some files) old new before now answers.Built h = λ task f job stands. absurd (decided_no_fault words files answers.Built h.1.outputs h.0 task f job h.1.decides stands)
fault_where words (Some files) old new before now answers.Accepted h = λ task f job stands. absurd (judged_no_fault words files answers.Accepted h.0 task f job h.1.0 stands)
fault_where words (Some files) old new before now answers.Refuted h = λ task f job stands. absurd (decided_no_fault words files answers.Refuted h.1.outputs h.0 task f job h.1.decides stands)
fault_where words (Some files) old new before now (answers.Fault g) h = λ task f job stands.
    inl (ap answers.Fault (stands_once task (input_of files task) g f (stands_here files h.1.task task h.1.input g (one_job words h.1.task task h.1.job job) h.1.read h.1.stands) stands))
fault_where words (Some files) old new before now answers.ReadFault h = λ task f job stands. inr (inl refl)
fault_where words (Some files) old new before now answers.WriteFault h = λ task f job stands. inr (inr (inr refl))
fault_where words (Some files) old new before now answers.Usage h = λ task f job stands. absurd (h.1.0 task job)
fault_where words (Some files) old new before now answers.NoMemory h = λ task f job stands. inr (inr (inl refl))
fault_where words (Some files) old new before now (answers.Rejected line) h = λ task f job stands. absurd (judged_no_fault words files (answers.Rejected line) h.0 task f job h.1.0 stands)

-- ---- builds

-- a fault of words that are a build, whose input gives a board
no_build_fault : (words : List (List ℕ)) (files : Files) (build : Build) (board : Board) (task : Task) (input : Input) (f : Fault) → IsBuild words build
    → GivesBoard (tasks.Build build) (input_of files (tasks.Build build)) board → IsJob words task → HasInput (Some files) task input → Stands task input f → ⊥
no_build_fault words files build board task input f job gives other has stands =
    build_no_fault build (input_of files (tasks.Build build)) board f gives
    (stands_here files task (tasks.Build build) input f (one_job words task (tasks.Build build) other job) has stands)

-- what is decided is decided of the board that is given
decided_board : (words : List (List ℕ)) (files : Files) (status : Status) (outputs : List Output) (text : List ℕ) (build : Build) (board : Board) → IsBuild words build → (d : Decides words (Some files) status outputs text)
    → GivesBoard (tasks.Build build) (input_of files (tasks.Build build)) board → d.board ≡ board
decided_board words files status outputs text build board job d gives =
    one_board build (input_of files (tasks.Build build)) d.board board (decided_here words files status outputs text build job d) gives

-- Where a pick is good, one is built, unless memory or something outside fails.
pub built_where : (words : List (List ℕ)) (held old new : Option Files) (before now : Option (List ℕ)) (status : Status) → Headline words held old new before now status
    → IfSome held (λ files. (build : Build) (board : Board) (pick : List ℕ) → IsBuild words build → GivesBoard (tasks.Build build) (input_of files (tasks.Build build)) board
    → IsGood board pick → (status ≡ answers.Built) ⊎ EndsOutside status)
built_where words None old new before now status h = tt
built_where words (Some files) old new before now answers.Built h = λ build board pick job gives good. inl refl
built_where words (Some files) old new before now answers.Accepted h = λ build board pick job gives good. absurd (two_commands words build h.1.0.check job h.1.0.job)
built_where words (Some files) old new before now answers.Refuted h = λ build board pick job gives good.
    let same = decided_board words files answers.Refuted h.1.outputs h.0 build board job h.1.decides gives in
    absurd (h.1.decides.decision.none_good pick (subst (λ b. IsGood b pick) (sym same) good))
built_where words (Some files) old new before now (answers.Fault f) h = λ build board pick job gives good.
    absurd (no_build_fault words files build board h.1.task h.1.input f job gives h.1.job h.1.read h.1.stands)
built_where words (Some files) old new before now answers.ReadFault h = λ build board pick job gives good. inr (inl refl)
built_where words (Some files) old new before now answers.WriteFault h = λ build board pick job gives good. inr (inr (inr refl))
built_where words (Some files) old new before now answers.Usage h = λ build board pick job gives good. absurd (h.1.0 (tasks.Build build) job)
built_where words (Some files) old new before now answers.NoMemory h = λ build board pick job gives good. inr (inr (inl refl))
built_where words (Some files) old new before now (answers.Rejected line) h = λ build board pick job gives good. absurd (two_commands words build h.1.0.check job h.1.0.job)

-- Where no pick is good, that is the answer, unless memory or something outside fails.
pub refuted_where : (words : List (List ℕ)) (held old new : Option Files) (before now : Option (List ℕ)) (status : Status) → Headline words held old new before now status
    → IfSome held (λ files. (build : Build) (board : Board) → IsBuild words build → GivesBoard (tasks.Build build) (input_of files (tasks.Build build)) board
    → NoGood board → (status ≡ answers.Refuted) ⊎ EndsOutside status)
refuted_where words None old new before now status h = tt
refuted_where words (Some files) old new before now answers.Built h = λ build board job gives none.
    let same = decided_board words files answers.Built h.1.outputs h.0 build board job h.1.decides gives in
    absurd (none h.1.decides.decision.0 (subst (λ b. IsGood b h.1.decides.decision.0) same h.1.decides.decision.1.good))
refuted_where words (Some files) old new before now answers.Accepted h = λ build board job gives none. absurd (two_commands words build h.1.0.check job h.1.0.job)
refuted_where words (Some files) old new before now answers.Refuted h = λ build board job gives none. inl refl
refuted_where words (Some files) old new before now (answers.Fault f) h = λ build board job gives none.
    absurd (no_build_fault words files build board h.1.task h.1.input f job gives h.1.job h.1.read h.1.stands)
refuted_where words (Some files) old new before now answers.ReadFault h = λ build board job gives none. inr (inl refl)
refuted_where words (Some files) old new before now answers.WriteFault h = λ build board job gives none. inr (inr (inr refl))
refuted_where words (Some files) old new before now answers.Usage h = λ build board job gives none. absurd (h.1.0 (tasks.Build build) job)
refuted_where words (Some files) old new before now answers.NoMemory h = λ build board job gives none. inr (inr (inl refl))
refuted_where words (Some files) old new before now (answers.Rejected line) h = λ build board job gives none. absurd (two_commands words build h.1.0.check job h.1.0.job)

-- ---- checks

-- a fault of words that are a check, whose input gives a board and the bytes of a certificate
no_check_fault : (words : List (List ℕ)) (files : Files) (check : Check) (board : Board) (bytes : List ℕ) (task : Task) (input : Input) (f : Fault) → IsCheck words check
    → GivesCertificate check (input_of files (tasks.Check check)) board bytes → IsJob words task → HasInput (Some files) task input → Stands task input f → ⊥
no_check_fault words files check board bytes task input f job gives other has stands =
    check_no_fault check (input_of files (tasks.Check check)) board bytes f gives
    (stands_here files task (tasks.Check check) input f (one_job words task (tasks.Check check) other job) has stands)

-- what is found is found of the board and the bytes that are given
judged_certificate : (words : List (List ℕ)) (files : Files) (status : Status) (text : List ℕ) (check : Check) (board : Board) (bytes : List ℕ) → IsCheck words check → (j : Judges words (Some files) status text)
    → GivesCertificate check (input_of files (tasks.Check check)) board bytes → (j.board ≡ board) × (j.bytes ≡ bytes)
judged_certificate words files status text check board bytes job j gives =
    one_certificate check (input_of files (tasks.Check check)) j.board board j.bytes bytes (judged_here words files status text check job j) gives

-- The text of a valid certificate is accepted, unless memory or something outside fails.
pub accepted_where : (words : List (List ℕ)) (held old new : Option Files) (before now : Option (List ℕ)) (status : Status) → Headline words held old new before now status
    → IfSome held (λ files. (check : Check) (board : Board) (cert : Cert) → IsCheck words check → GivesCertificate check (input_of files (tasks.Check check)) board (cert_text cert)
    → IsValidOn board cert → (status ≡ answers.Accepted) ⊎ EndsOutside status)
accepted_where words None old new before now status h = tt
accepted_where words (Some files) old new before now answers.Built h = λ check board cert job gives valid. absurd (two_commands words h.1.decides.build check h.1.decides.job job)
accepted_where words (Some files) old new before now answers.Accepted h = λ check board cert job gives valid. inl refl
accepted_where words (Some files) old new before now answers.Refuted h = λ check board cert job gives valid. absurd (two_commands words h.1.decides.build check h.1.decides.job job)
accepted_where words (Some files) old new before now (answers.Fault f) h = λ check board cert job gives valid.
    absurd (no_check_fault words files check board (cert_text cert) h.1.task h.1.input f job gives h.1.job h.1.read h.1.stands)
accepted_where words (Some files) old new before now answers.ReadFault h = λ check board cert job gives valid. inr (inl refl)
accepted_where words (Some files) old new before now answers.WriteFault h = λ check board cert job gives valid. inr (inr (inr refl))
accepted_where words (Some files) old new before now answers.Usage h = λ check board cert job gives valid. absurd (h.1.0 (tasks.Check check) job)
accepted_where words (Some files) old new before now answers.NoMemory h = λ check board cert job gives valid. inr (inr (inl refl))
accepted_where words (Some files) old new before now (answers.Rejected line) h = λ check board cert job gives valid.
    let same = judged_certificate words files (answers.Rejected line) h.0 check board (cert_text cert) job h.1.0 gives in
    absurd (h.1.0.judgement.none_valid cert same.1 (subst (λ b. IsValidOn b cert) (sym same.0) valid))

-- Any other bytes are rejected, unless memory or something outside fails.
pub rejected_where : (words : List (List ℕ)) (held old new : Option Files) (before now : Option (List ℕ)) (status : Status) → Headline words held old new before now status
    → IfSome held (λ files. (check : Check) (board : Board) (bytes : List ℕ) → IsCheck words check → GivesCertificate check (input_of files (tasks.Check check)) board bytes
    → IsNoValidCertificate board bytes → IsRejected status ⊎ EndsOutside status)
rejected_where words None old new before now status h = tt
rejected_where words (Some files) old new before now answers.Built h = λ check board bytes job gives none. absurd (two_commands words h.1.decides.build check h.1.decides.job job)
rejected_where words (Some files) old new before now answers.Accepted h = λ check board bytes job gives none.
    let same = judged_certificate words files answers.Accepted h.0 check board bytes job h.1.0 gives in
    let accepts = h.1.0.judgement in
    absurd (none accepts.cert (sym same.1 ∙ accepts.bytes_are) (subst (λ b. IsValidOn b accepts.cert) same.0 accepts.valid))
rejected_where words (Some files) old new before now answers.Refuted h = λ check board bytes job gives none. absurd (two_commands words h.1.decides.build check h.1.decides.job job)
rejected_where words (Some files) old new before now (answers.Fault f) h = λ check board bytes job gives none.
    absurd (no_check_fault words files check board bytes h.1.task h.1.input f job gives h.1.job h.1.read h.1.stands)
rejected_where words (Some files) old new before now answers.ReadFault h = λ check board bytes job gives none. inr (inl refl)
rejected_where words (Some files) old new before now answers.WriteFault h = λ check board bytes job gives none. inr (inr (inr refl))
rejected_where words (Some files) old new before now answers.Usage h = λ check board bytes job gives none. absurd (h.1.0 (tasks.Check check) job)
rejected_where words (Some files) old new before now answers.NoMemory h = λ check board bytes job gives none. inr (inr (inl refl))
rejected_where words (Some files) old new before now (answers.Rejected line) h = λ check board bytes job gives none. inl (line, refl)

-- ---- jobs without a fault

-- what ends one command ends the task
built_done : (words : List (List ℕ)) (build : Build) (task : Task) (status : Status) → IsBuild words build → IsJob words task → IsEnd status → IsDone task status
built_done words build (tasks.Build other) status job also is = is
built_done words build (tasks.Check check) status job also is = absurd (two_commands words build check job also)

checked_done : (words : List (List ℕ)) (check : Check) (task : Task) (status : Status) → IsCheck words check → IsJob words task → IsVerdict status → IsDone task status
checked_done words check (tasks.Build build) status job also is = absurd (two_commands words build check also job)
checked_done words check (tasks.Check other) status job also is = is

-- A job without a fault is done, unless memory or something outside fails.
pub job_where : (words : List (List ℕ)) (held old new : Option Files) (before now : Option (List ℕ)) (status : Status) → Headline words held old new before now status
    → IfSome held (λ files. (task : Task) → IsJob words task → ((f : Fault) → Stands task (input_of files task) f → ⊥) → IsDone task status ⊎ EndsOutside status)
job_where words None old new before now status h = tt
job_where words (Some files) old new before now answers.Built h = λ task job none. inl (built_done words h.1.decides.build task answers.Built h.1.decides.job job tt)
job_where words (Some files) old new before now answers.Accepted h = λ task job none. inl (checked_done words h.1.0.check task answers.Accepted h.1.0.job job tt)
job_where words (Some files) old new before now answers.Refuted h = λ task job none. inl (built_done words h.1.decides.build task answers.Refuted h.1.decides.job job tt)
job_where words (Some files) old new before now (answers.Fault f) h = λ task job none.
    absurd (none f (stands_here files h.1.task task h.1.input f (one_job words h.1.task task h.1.job job) h.1.read h.1.stands))
job_where words (Some files) old new before now answers.ReadFault h = λ task job none. inr (inl refl)
job_where words (Some files) old new before now answers.WriteFault h = λ task job none. inr (inr (inr refl))
job_where words (Some files) old new before now answers.Usage h = λ task job none. absurd (h.1.0 task job)
job_where words (Some files) old new before now answers.NoMemory h = λ task job none. inr (inr (inl refl))
job_where words (Some files) old new before now (answers.Rejected line) h = λ task job none. inl (checked_done words h.1.0.check task (answers.Rejected line) h.1.0.job job tt)

succeeds : (task : Task) (status : Status) → IsDone task status ⊎ EndsOutside status → (status ≡ answers.ReadFault → ⊥) → (status ≡ answers.WriteFault → ⊥) → IsDone task status ⊎ (status ≡ answers.NoMemory)
succeeds task status (inl done) read write = inl done
succeeds task status (inr (inl is)) read write = absurd (read is)
succeeds task status (inr (inr (inl is))) read write = inr is
succeeds task status (inr (inr (inr is))) read write = absurd (write is)

neither : {A B : Type 0} → A ⊎ B → (A → ⊥) → (B → ⊥) → ⊥
neither (inl a) f g = f a
neither (inr b) f g = g b

-- A job without a fault is done where nothing outside failed, unless memory runs out.
pub complete : (Read Put Print : Type 0) (words : List (List ℕ)) (held old new : Option Files) (before now : Option (List ℕ)) (status : Status) → Headline words held old new before now status
    → (status ≡ answers.ReadFault → Read) → (status ≡ answers.WriteFault → Put ⊎ Print)
    → IfSome held (λ files. (task : Task) → IsJob words task → ((f : Fault) → Stands task (input_of files task) f → ⊥)
    → (Read → ⊥) → (Put → ⊥) → (Print → ⊥) → IsDone task status ⊎ (status ≡ answers.NoMemory))
complete Read Put Print words None old new before now status h read write = tt
complete Read Put Print words (Some files) old new before now status h read write = λ task job none reads puts prints.
    succeeds task status (job_where words (Some files) old new before now status h task job none) (λ is. reads (read is)) (λ is. neither (write is) puts prints)

-- a count that stays at 0 did not rise
pub never_rose : (before now : ℕ) → before ≡ 0 → now ≡ 0 → Rose before now → ⊥
never_rose before now is also rose = let bad : Rose 0 0 = subst (λ a. Rose a 0) is (subst (λ b. Rose before b) also rose) in omega (arith, bad)
