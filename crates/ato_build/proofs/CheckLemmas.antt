-- What the answers of a check mean.
use Rattle.std.proofs.Common.{◌≡◌, ℕ, ◌^◌, ◌≤◌, List, [], ◌∷◌, length, subst, sym, ap, ◌∙◌, refl, arith}
use Rattle.std.specs.Prelude.{Option, Some, None, Result, Ok, Err, IfOk}
use Rattle.ato_base.specs.declared.faults.Fault.{Fault}
use Rattle.ato_base.specs.declared.memory.NoMemory.{NoMemory}
use Rattle.ato_first_catalog.specs.Catalogue.{ShowsContents, ShowsRows}
use Rattle.ato_first_catalog.specs.Contents.{Contents}
use Rattle.ato_first_catalog.specs.Rows.{PlainRow}
use Rattle.ato_first_catalog.specs.WellMade as catalogues
use Rattle.ato_first_catalog.specs.declared.reading.Catalog.{Catalog}
use Rattle.ato_first_catalog.specs.declared.rows.CatalogRow.{CatalogRow}
use Rattle.ato_first_catalog.proofs.CatalogueLaws.{contents_read}
use Rattle.ato_cert.specs.Laws as certs
use Rattle.ato_cert.specs.Problems.{IsWellMade, HasAtMost, HasAtMostOf, HasNumbersBelow}
use Rattle.ato_cert.specs.Readable.{IsReadable}
use Rattle.ato_cert.specs.Texts.{cert_text}
use Rattle.ato_cert.specs.Valid.{IsValid}
use Rattle.ato_cert.specs.declared.cert.Cert.{Cert}
use Rattle.ato_cert.specs.declared.cert.Verdict.TheVariants.{Refuted}
use Rattle.ato_cert.specs.declared.cert.Proof.{Proof}
use Rattle.ato_cert.specs.declared.cert.Proof.TheVariants.{Built, Tree}
use Rattle.ato_cert.specs.declared.problem.Problem.{Problem}
use Rattle.ato_cert.specs.declared.problem.Slot.{Slot}
use Rattle.ato_cert.proofs.Soundness.{sound_of}
use Rattle.ato_cert.proofs.WritableLaws.{valid_writable}
use Rattle.ato_check.specs.FirstBad.{IsFirstBad}
use Rattle.ato_first.specs.FirstParts.{part_of}
use Rattle.ato_first.specs.declared.first_form.Block.{Block}
use Rattle.ato_outside.specs.Files.{Files}
use Rattle.ato_words.specs.Words.{IsCheck}
use Rattle.ato_words.specs.declared.words.Check.{Check}
use Rattle.ato_words.specs.declared.words.Task.TheVariants as tasks
use Rattle.ato_build.specs.Answers.{IsTrueAnswer}
use Rattle.ato_build.specs.Causes.{IsVerdict}
use Rattle.ato_build.specs.Found.{Found, Whole, HasFile}
use Rattle.ato_build.specs.Headline.{Means, Judges}
use Rattle.ato_build.specs.Boards.{Board, board_of, IsProblemOf}
use Rattle.ato_build.specs.Entry.{source_limit, GivesBlock}
use Rattle.ato_build.specs.Input.{catalogue_limit, certificate_limit, Input, HasInput, StandsInCertificate}
use Rattle.ato_build.specs.InputStages.{WithBoard, WithCertificate, GivesBoard}
use Rattle.ato_build.specs.Judgements.{SaysOfBoard, IsJudged, IsJudgement}
use Rattle.ato_build.specs.Projects.{checked_project}
use Rattle.ato_build.specs.Readings.{AreSources}
use Rattle.ato_build.specs.Texts.{fault_text, files_with, read_fault_text, rejected_text, said_text}
use Rattle.ato_build.specs.declared.answer.Answer.{Answer}
use Rattle.ato_build.specs.declared.project.Project.{Project}
use Rattle.ato_build.specs.declared.reading.Sources.{Sources}
use Rattle.ato_build.specs.declared.status.Status.{Status}
use Rattle.ato_build.specs.declared.status.Status.TheVariants as answers
use Rattle.ato_build.proofs.DecisionLemmas.{good_pick, no_good_pick}
use Rattle.ato_build.proofs.InputLaws.{reached_at}
use Rattle.ato_build.proofs.OneProblemLaws.{one_problem, small_problem}
use Rattle.ato_build.proofs.ReadingLemmas.{some_file, unread_means}

-- ---- the bytes of a certificate

-- fewer candidates are few enough
fewer : (a b : ℕ) (slot : Option Slot) → a ≤ b → HasAtMostOf a slot → HasAtMostOf b slot
fewer a b None le h = tt
fewer a b (Some slot) le h = omega (arith, le, h)

pub few_enough : (problem : Problem) → HasAtMost 1000 problem → HasAtMost 10000 problem
few_enough problem h = fewer 1000 10000 problem.slot (omega arith) h

-- bytes that are no text of the form are that of no valid certificate
pub bad_bytes : (problem : Problem) (bytes : List ℕ) → HasAtMost 1000 problem → HasNumbersBelow (2 ^ 32) problem
    → ((cert : Cert) → IsReadable problem cert → cert_text cert ≡ bytes → ⊥) → (cert : Cert) → bytes ≡ cert_text cert → IsValid problem cert → ⊥
bad_bytes problem bytes few small none cert is valid = none cert (valid_writable problem cert (few_enough problem few) small valid).0 (sym is)

-- no certificate of the form has such a text, so that whatever line is its first bad one
pub no_bad_line : (problem : Problem) (bytes : List ℕ) (line : ℕ) → ((cert : Cert) → IsReadable problem cert → cert_text cert ≡ bytes → ⊥)
    → (cert : Cert) → IsReadable problem cert → bytes ≡ cert_text cert → IsFirstBad problem cert line
no_bad_line problem bytes line none cert readable is = absurd (none cert readable (sym is))

-- the first bad line of the one certificate of the form whose text the bytes are
pub one_bad_line : (problem : Problem) (bytes : List ℕ) (read : Cert) (line : ℕ) → ((other : Cert) → IsReadable problem other → cert_text other ≡ bytes → other ≡ read) → IsFirstBad problem read line
    → (cert : Cert) → IsReadable problem cert → bytes ≡ cert_text cert → IsFirstBad problem cert line
one_bad_line problem bytes read line only bad cert readable is = subst (λ c. IsFirstBad problem c line) (sym (only cert readable (sym is))) bad

-- where the certificate of the text is not valid, the bytes are that of no valid one
pub invalid_bytes : (problem : Problem) (bytes : List ℕ) (read : Cert) → HasAtMost 1000 problem → HasNumbersBelow (2 ^ 32) problem
    → ((other : Cert) → IsReadable problem other → cert_text other ≡ bytes → other ≡ read) → (IsValid problem read → ⊥) → (cert : Cert) → bytes ≡ cert_text cert → IsValid problem cert → ⊥
invalid_bytes problem bytes read few small only bad cert is valid =
    bad (subst (IsValid problem) (only cert (valid_writable problem cert (few_enough problem few) small valid).0 (sym is)) valid)

-- the answer for bytes that are the text of no valid certificate
pub rejected_judged : (problem : Problem) (bytes : List ℕ) (line : ℕ) (result : Result Answer NoMemory) → (HasNumbersBelow (2 ^ 32) problem → (cert : Cert) → bytes ≡ cert_text cert → IsValid problem cert → ⊥)
    → ((cert : Cert) → IsReadable problem cert → bytes ≡ cert_text cert → IsFirstBad problem cert line)
    → IfOk result (λ answer. answer.status ≡ answers.Rejected line) → IfOk result (λ answer. said_text answer.said ≡ rejected_text line)
    → IfOk result (λ answer. HasNumbersBelow (2 ^ 32) problem → IsJudged problem bytes answer.status (said_text answer.said))
rejected_judged problem bytes line (Err e) none first status said = tt
rejected_judged problem bytes line (Ok answer) none first status said = λ small. subst (λ s. IsJudged problem bytes s (said_text answer.said)) (sym status) (none small, first, said)

-- what a certificate says of its problem it says of the board
says_so : (board : Board) (problem : Problem) (proof : Proof) → IsProblemOf board problem → certs.Says problem proof → SaysOfBoard board proof
says_so board problem (Built pick boxes) is good = good_pick (part_of board.block.lines) board.contents problem pick is good
says_so board problem (Tree Refuted tree) is none = no_good_pick (part_of board.block.lines) board.contents problem is none

-- what is found for the problem is found for the board
judged_board : (board : Board) (problem : Problem) (bytes : List ℕ) (status : Status) (text : List ℕ) → IsWellMade problem → IsProblemOf board problem
    → IsJudged problem bytes status text → IsJudgement board bytes status text
judged_board board problem bytes answers.Accepted text made is (cert, bytes_are, valid, text_is) = record {
  cert = cert;
  bytes_are = bytes_are;
  valid = record { problem = problem; is_problem = is; valid = valid };
  says = says_so board problem cert.proof is (sound_of problem.slot cert.proof made valid.proof);
  text_is = text_is;
}
judged_board board problem bytes (answers.Rejected line) text made is (none, first, text_is) = record {
  none_valid = λ cert bytes_are valid. none cert bytes_are (subst (λ p. IsValid p cert) (one_problem (part_of board.block.lines) board.contents valid.problem problem valid.is_problem is) valid.valid);
  first_bad = λ other cert is_other readable bytes_are.
      let same = one_problem (part_of board.block.lines) board.contents other problem is_other is in
      subst (λ p. IsFirstBad p cert line) (sym same) (first cert (subst (λ p. IsReadable p cert) same readable) bytes_are);
  text_is = text_is;
}
judged_board board problem bytes answers.Built text made is h = absurd h
judged_board board problem bytes (answers.Fault f) text made is h = absurd h
judged_board board problem bytes answers.Refuted text made is h = absurd h
judged_board board problem bytes answers.ReadFault text made is h = absurd h
judged_board board problem bytes answers.WriteFault text made is h = absurd h
judged_board board problem bytes answers.Usage text made is h = absurd h
judged_board board problem bytes answers.NoMemory text made is h = absurd h

-- a catalogue has as many rows as its contents
as_many : (rows : List CatalogRow) (plains : List PlainRow) → ShowsRows rows plains → length plains ≡ length rows
as_many [] [] h = refl
as_many [] (plain ∷ plains) h = absurd h
as_many (row ∷ rows) [] h = absurd h
as_many (row ∷ rows) (plain ∷ plains) h = let rest = as_many rows plains h.1 in omega (arith, rest)

-- what is found of the bytes, for the contents of the catalogue
pub judgement_of : (block : Block) (catalog : Catalog) (problem : Problem) (bytes : List ℕ) (result : Result Answer NoMemory) → catalogues.IsWellMade catalog → IsWellMade problem
    → ((contents : Contents) → ShowsContents catalog contents → IsProblemOf (board_of block contents) problem)
    → IfOk result (λ answer. HasNumbersBelow (2 ^ 32) problem → IsJudged problem bytes answer.status (said_text answer.said))
    → IfOk result (λ answer. (contents : Contents) → ShowsContents catalog contents → IsJudgement (board_of block contents) bytes answer.status (said_text answer.said))
judgement_of block catalog problem bytes (Err e) good made is judged = tt
judgement_of block catalog problem bytes (Ok answer) good made is judged = λ contents shows.
    let small = small_problem (part_of block.lines) contents problem (is contents shows) (omega (arith, as_many catalog.rows contents.rows shows.rows, good.few_rows)) in
    judged_board (board_of block contents) problem bytes answer.status (said_text answer.said) made (is contents shows) (judged small.0)

-- ---- the certificate's file

-- the input of a check, with what stands at the certificate's name
abbrev input_with : List ℕ → List ℕ → Found → Input
input_with source bytes found = record { entry = Whole source; catalogue = Whole bytes; certificate = found }

module _ (words : List (List ℕ)) (held tray : Option Files) (check : Check) (project : Project) (cert : List ℕ) (sources : Sources)
    (job : IsCheck words check) (same : checked_project check ≡ project) (named : check.cert ≡ cert) (read : AreSources held project sources) where
  has_with : (found : Found) → HasFile held certificate_limit cert found → HasInput held (tasks.Check check) (input_with sources.source read.bytes found)
  has_with found has = record {
    entry = subst (λ p. HasFile held source_limit p.file (Whole sources.source)) (sym same) read.entry;
    catalogue = subst (λ p. HasFile held catalogue_limit p.catalogue (Whole read.bytes)) (sym same) read.catalogue;
    certificate = subst (λ n. HasFile held certificate_limit n found) (sym named) has;
  }

  -- the board that was read
  board : Board
  board = board_of sources.block (contents_read read.bytes sources.catalog read.read).0

  entry_given : GivesBlock (checked_project check) (Whole sources.source) sources.block
  entry_given = subst (λ p. GivesBlock p (Whole sources.source) sources.block) (sym same) read.gives

  gives_with : (found : Found) → GivesBoard (tasks.Check check) (input_with sources.source read.bytes found) board
  unfolding board
  gives_with found = reached_at (tasks.Check check) (input_with sources.source read.bytes found) (WithBoard board) (entry_given, (contents_read read.bytes sources.catalog read.read).1)

  -- a fault in it
  pub certificate_refused : (found : Found) (f : Fault) (source : List ℕ) (result : Result Answer NoMemory) → HasFile held certificate_limit cert found → StandsInCertificate (tasks.Check check) found f → source ≡ sources.source
      → IfOk result (λ answer. answer.status ≡ answers.Fault f) → IfOk result (λ answer. said_text answer.said ≡ fault_text (files_with project source) f) → IsTrueAnswer words held tray tray result
  certificate_refused found f source (Err e) has stands is status said = refl
  certificate_refused found f source (Ok answer) has stands is status said =
      subst (λ s. Means words held tray tray s (said_text answer.said)) (sym status) (record {
        task = tasks.Check check;
        job = job;
        input = input_with sources.source read.bytes found;
        read = has_with found has;
        stands = record { stage = WithBoard board; reached = gives_with found; has = stands };
        nothing_put = refl;
        text_is = said ∙ ap (λ s. fault_text (files_with project s) f) is ∙ ap (λ p. fault_text (files_with p sources.source) f) (sym same);
      })

  -- it was not read
  pub certificate_unread : (result : Result Answer NoMemory) → IfOk result (λ answer. answer.status ≡ answers.ReadFault) → IfOk result (λ answer. said_text answer.said ≡ read_fault_text cert) → IsTrueAnswer words held tray tray result
  certificate_unread (Err e) status said = refl
  certificate_unread (Ok answer) status said =
      let found = some_file held certificate_limit cert in
      unread_means held words (tasks.Check check) tray cert answer (input_with sources.source read.bytes found.0) (WithBoard board) job (has_with found.0 found.1) (gives_with found.0) (ap Some named) status said

  -- it was read, and its bytes are judged
  judges : (bytes : List ℕ) (status : Status) (text : List ℕ) → HasFile held certificate_limit cert (Whole bytes)
      → ((contents : Contents) → ShowsContents sources.catalog contents → IsJudgement (board_of sources.block contents) bytes status text) → Judges words held status text
  unfolding board
  judges bytes status text has judgement =
      let contents = contents_read read.bytes sources.catalog read.read in
      record {
        check = check;
        job = job;
        input = input_with sources.source read.bytes (Whole bytes);
        read = has_with (Whole bytes) has;
        board = board;
        bytes = bytes;
        gives = reached_at (tasks.Check check) (input_with sources.source read.bytes (Whole bytes)) (WithCertificate board bytes) (entry_given, contents.1, refl);
        judgement = judgement contents.0 contents.2;
      }

  judged_means : (bytes : List ℕ) (status : Status) (text : List ℕ) → IsVerdict status → Judges words held status text → Means words held tray tray status text
  judged_means bytes answers.Accepted text end j = (j, refl)
  judged_means bytes (answers.Rejected line) text end j = (j, refl)
  judged_means bytes answers.Built text end j = absurd end
  judged_means bytes (answers.Fault f) text end j = absurd end
  judged_means bytes answers.Refuted text end j = absurd end
  judged_means bytes answers.ReadFault text end j = absurd end
  judged_means bytes answers.WriteFault text end j = absurd end
  judged_means bytes answers.Usage text end j = absurd end
  judged_means bytes answers.NoMemory text end j = absurd end

  pub certificate_judged : (bytes : List ℕ) (result : Result Answer NoMemory) → HasFile held certificate_limit cert (Whole bytes) → IfOk result (λ answer. IsVerdict answer.status)
      → IfOk result (λ answer. (contents : Contents) → ShowsContents sources.catalog contents → IsJudgement (board_of sources.block contents) bytes answer.status (said_text answer.said))
      → IsTrueAnswer words held tray tray result
  certificate_judged bytes (Err e) has verdict judgement = refl
  certificate_judged bytes (Ok answer) has verdict judgement =
      judged_means bytes answer.status (said_text answer.said) verdict (judges bytes answer.status (said_text answer.said) has judgement)

-- a verdict is no other status
pub verdict_is : (status : Status) → IsVerdict status → (status ≡ answers.ReadFault → ⊥) × (status ≡ answers.WriteFault → ⊥) × ((f : Fault) → status ≡ answers.Fault f → ⊥)
verdict_is answers.Accepted end = ((λ e. let bad : ⊥ = cc in bad), (λ e. let bad : ⊥ = cc in bad), (λ f e. let bad : ⊥ = cc in bad))
verdict_is (answers.Rejected line) end = ((λ e. let bad : ⊥ = cc in bad), (λ e. let bad : ⊥ = cc in bad), (λ f e. let bad : ⊥ = cc in bad))
verdict_is answers.Built end = absurd end
verdict_is (answers.Fault f) end = absurd end
verdict_is answers.Refuted end = absurd end
verdict_is answers.ReadFault end = absurd end
verdict_is answers.WriteFault end = absurd end
verdict_is answers.Usage end = absurd end
verdict_is answers.NoMemory end = absurd end
