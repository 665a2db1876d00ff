-- At most one board or fault comes of an input, and never both.
use Rattle.std.proofs.Common.{◌≡◌, ℕ, Bool, true, false, ◌||◌, List, [], ◌∷◌, ◌++◌, length, inl, inr, sym, ◌∙◌, ap, refl, subst}
use Rattle.std.specs.List.{list_any}
use Rattle.std.specs.Prelude.{Some}
use Rattle.ato_base.specs.declared.faults.Fault.{Fault}
use Rattle.ato_base.specs.declared.faults.FaultKind.TheVariants as kinds
use Rattle.ato_first.specs.FirstForm.{IsFile, lined, head_text, lines_text}
use Rattle.ato_first.specs.FirstTokens.{syntax_fault}
use Rattle.ato_first.proofs.FirstFormLaws.{one_file, bad_no_file, one_bad}
use Rattle.ato_first.specs.declared.first_form.Block.{Block}
use Rattle.ato_first.specs.declared.first_form.Line.{Line}
use Rattle.ato_first_catalog.specs.Contents.{Contents}
use Rattle.ato_first_catalog.proofs.CatalogueLaws.{one_contents, one_fault, never_both}
use Rattle.ato_first.proofs.FirstNumberLemmas.{or_false, or_right}
use Rattle.ato_build.specs.Entry.{GivesBlock, StandsInEntry, IsLineFault, LacksBlock, IsNamed, line_fault, entry_file}
use Rattle.ato_first.specs.FirstParts.{is_empty_range, HasRanges}
use Rattle.ato_first.specs.FirstPoints.{AreKnown, IsFirstLineAt, is_unknown_in}
use Rattle.ato_build.specs.Found.{Found, Missing, TooLong, Whole}
use Rattle.ato_base.specs.Stages.{Reaches, arrived, onward, IsDetermined, IsLast}
use Rattle.ato_base.proofs.StageLaws.{one_fault_stands, no_fault_stands, one_last_stage}
use Rattle.ato_build.specs.Boards.{Board}
use Rattle.ato_build.specs.Input.{Input, GivesContents, StandsInCatalogue, StandsInCertificate}
use Rattle.ato_build.specs.InputStages.{Stage, Started, WithBlock, WithBoard, WithCertificate, Leads, Has, IsReached, Stands, GivesBoard, GivesCertificate}
use Rattle.ato_build.specs.Projects.{checked_project, project_of}
use Rattle.ato_words.specs.declared.words.Build.{Build}
use Rattle.ato_words.specs.declared.words.Check.{Check}
use Rattle.ato_words.specs.declared.words.Task.{Task}
use Rattle.ato_build.specs.declared.project.Project.{Project}
use Rattle.ato_words.specs.declared.words.Task.TheVariants as tasks

not_both : (a b : Bool) → a ≡ true → (a || b) ≡ false → ⊥
not_both a b h k = let split = or_false a b k in let no : a ≡ false = split.0 in let bad : ⊥ = cc in bad

-- ---- the first line that passes a test

-- a list is cut at its first element that passes in one way
first_pass : {A : Type 0} (p : A → Bool) (f : List A) (l : A) (b : List A) (g : List A) (m : A) (c : List A) → f ++ l ∷ b ≡ g ++ m ∷ c
    → list_any p f ≡ false → p l ≡ true → list_any p g ≡ false → p m ≡ true → f ≡ g
first_pass p [] l b [] m c e before hit nothing also = refl
first_pass p [] l b (y ∷ g) m c e before hit nothing also =
    let same : l ≡ y = cc in let bad : ⊥ = not_both (p y) (list_any p g) (ap p (sym same) ∙ hit) nothing in absurd bad
first_pass p (x ∷ f) l b [] m c e before hit nothing also =
    let same : x ≡ m = cc in let bad : ⊥ = not_both (p x) (list_any p f) (ap p same ∙ also) before in absurd bad
first_pass p (x ∷ f) l b (y ∷ g) m c e before hit nothing also =
    let heads : x ≡ y = cc in let tails : f ++ l ∷ b ≡ g ++ m ∷ c = cc in
    ap (λ z. z ∷ f) heads ∙ ap (λ zs. y ∷ zs) (first_pass p f l b g m c tails (or_false (p x) (list_any p f) before).1 hit (or_false (p y) (list_any p g) nothing).1 also)

-- an element passes among others
passes : {A : Type 0} (p : A → Bool) (f : List A) (l : A) (b : List A) → p l ≡ true → list_any p (f ++ l ∷ b) ≡ true
passes p [] l b h = ap (λ x. x || list_any p b) h
passes p (x ∷ f) l b h = ap (λ y. p x || y) (passes p f l b h) ∙ or_right (p x)

one_line : (test : Line → Bool) (block : Block) (a b : ℕ) → IsFirstLineAt test block a → IsFirstLineAt test block b → a ≡ b
one_line test block a b (f, l, x, is, before, hit, at) (g, m, y, also, nothing, so, there) =
    at ∙ ap (λ front. length (lined (head_text block.name) ++ lines_text front)) (first_pass test f l x g m y (sym is ∙ also) before hit nothing so) ∙ sym there

no_line : (test : Line → Bool) (block : Block) (at : ℕ) → IsFirstLineAt test block at → list_any test block.lines ≡ false → ⊥
no_line test block at (f, l, x, is, before, hit, place) none =
    let there : list_any test block.lines ≡ true = ap (list_any test) is ∙ passes test f l x hit in
    let bad : ⊥ = cc in bad

-- a block has at most one first fault in its lines
one_line_fault : (block : Block) (f g : Fault) → IsLineFault block f → IsLineFault block g → f ≡ g
one_line_fault block f g (inl (a, left, is)) (inl (b, right, same)) = is ∙ ap (line_fault kinds.NoSuchMember) (one_line (is_unknown_in block) block a b left right) ∙ sym same
one_line_fault block f g (inl (a, left, is)) (inr (known, right)) = absurd (no_line (is_unknown_in block) block a left known)
one_line_fault block f g (inr (known, left)) (inl (b, right, same)) = absurd (no_line (is_unknown_in block) block b right known)
one_line_fault block f g (inr (known, (a, left, is))) (inr (also, (b, right, same))) = is ∙ ap (line_fault kinds.EmptyRange) (one_line is_empty_range block a b left right) ∙ sym same

no_line_fault : (block : Block) (f : Fault) → IsLineFault block f → AreKnown block → HasRanges block → ⊥
no_line_fault block f (inl (at, unknown, is)) known ranges = no_line (is_unknown_in block) block at unknown known
no_line_fault block f (inr (also, (at, empty, is))) known ranges = no_line is_empty_range block at empty ranges

-- ---- the entry

-- a source of the block's name does not lack it
lacks_no_named : (source name : List ℕ) (block : Block) → LacksBlock source name → IsFile source (Some block) → block.name ≡ name → ⊥
lacks_no_named source name block lacks is named = lacks.2 (subst (λ file. IsNamed file name) (one_file source (Some block) lacks.0 is lacks.1) named)

one_block : (source : List ℕ) (a b : Block) → IsFile source (Some a) → IsFile source (Some b) → a ≡ b
one_block source a b h k = let e : Some a ≡ Some b = one_file source (Some a) (Some b) h k in cc

-- At most one fault stands in an entry.
pub one_entry_fault : (project : Project) (entry : Found) (f g : Fault) → StandsInEntry project entry f → StandsInEntry project entry g → f ≡ g
one_entry_fault project Missing f g h k = h ∙ sym k
one_entry_fault project TooLong f g h k = h ∙ sym k
one_entry_fault project (Whole source) f g (inl (a, bad, is)) (inl (b, worse, same)) = is ∙ ap (syntax_fault entry_file) (one_bad source a b bad worse) ∙ sym same
one_entry_fault project (Whole source) f g (inl (a, bad, is)) (inr (inl (lacks, same))) = absurd (bad_no_file source a lacks.0 bad lacks.1)
one_entry_fault project (Whole source) f g (inl (a, bad, is)) (inr (inr (block, file, named, fault))) = absurd (bad_no_file source a (Some block) bad file)
one_entry_fault project (Whole source) f g (inr (inl (lacks, is))) (inl (b, bad, same)) = absurd (bad_no_file source b lacks.0 bad lacks.1)
one_entry_fault project (Whole source) f g (inr (inl (lacks, is))) (inr (inl (also, same))) = is ∙ sym same
one_entry_fault project (Whole source) f g (inr (inl (lacks, is))) (inr (inr (block, file, named, fault))) = absurd (lacks_no_named source project.block block lacks file named)
one_entry_fault project (Whole source) f g (inr (inr (block, file, named, fault))) (inl (b, bad, same)) = absurd (bad_no_file source b (Some block) bad file)
one_entry_fault project (Whole source) f g (inr (inr (block, file, named, fault))) (inr (inl (lacks, same))) = absurd (lacks_no_named source project.block block lacks file named)
one_entry_fault project (Whole source) f g (inr (inr (block, file, named, fault))) (inr (inr (other, also, called, second))) =
    one_line_fault other f g (subst (λ b. IsLineFault b f) (one_block source block other file also) fault) second

-- Where a block is given no fault stands in the entry.
pub gives_no_entry_fault : (project : Project) (entry : Found) (block : Block) (f : Fault) → GivesBlock project entry block → StandsInEntry project entry f → ⊥
gives_no_entry_fault project Missing block f h k = h
gives_no_entry_fault project TooLong block f h k = h
gives_no_entry_fault project (Whole source) block f h (inl (at, bad, is)) = bad_no_file source at (Some block) bad h.0
gives_no_entry_fault project (Whole source) block f h (inr (inl (lacks, is))) = lacks_no_named source project.block block lacks h.0 h.1
gives_no_entry_fault project (Whole source) block f h (inr (inr (other, file, named, fault))) = no_line_fault block f (subst (λ b. IsLineFault b f) (one_block source other block file h.0) fault) h.2 h.3

pub one_given_block : (project : Project) (entry : Found) (a b : Block) → GivesBlock project entry a → GivesBlock project entry b → a ≡ b
one_given_block project Missing a b h k = absurd h
one_given_block project TooLong a b h k = absurd h
one_given_block project (Whole source) a b h k = one_block source a b h.0 k.0

-- ---- the catalogue

one_catalogue_fault : (catalogue : Found) (f g : Fault) → StandsInCatalogue catalogue f → StandsInCatalogue catalogue g → f ≡ g
one_catalogue_fault Missing f g h k = h ∙ sym k
one_catalogue_fault TooLong f g h k = h ∙ sym k
one_catalogue_fault (Whole bytes) f g h k = one_fault bytes f g h k

contents_no_fault : (catalogue : Found) (contents : Contents) (f : Fault) → GivesContents catalogue contents → StandsInCatalogue catalogue f → ⊥
contents_no_fault Missing contents f h k = h
contents_no_fault TooLong contents f h k = h
contents_no_fault (Whole bytes) contents f h k = never_both bytes contents f h k

pub one_given_contents : (catalogue : Found) (a b : Contents) → GivesContents catalogue a → GivesContents catalogue b → a ≡ b
one_given_contents Missing a b h k = absurd h
one_given_contents TooLong a b h k = absurd h
one_given_contents (Whole bytes) a b h k = one_contents bytes a b h k

-- ---- the certificate

one_certificate_fault : (task : Task) (found : Found) (f g : Fault) → StandsInCertificate task found f → StandsInCertificate task found g → f ≡ g
one_certificate_fault (tasks.Build build) found f g h k = absurd h
one_certificate_fault (tasks.Check check) Missing f g h k = h ∙ sym k
one_certificate_fault (tasks.Check check) TooLong f g h k = h ∙ sym k
one_certificate_fault (tasks.Check check) (Whole bytes) f g h k = absurd h

-- a certificate that is whole has no fault
whole_no_fault : (task : Task) (found : Found) (bytes : List ℕ) (f : Fault) → found ≡ Whole bytes → StandsInCertificate task found f → ⊥
whole_no_fault (tasks.Build build) found bytes f is h = h
whole_no_fault (tasks.Check check) Missing bytes f is h = let bad : ⊥ = cc in bad
whole_no_fault (tasks.Check check) TooLong bytes f is h = let bad : ⊥ = cc in bad
whole_no_fault (tasks.Check check) (Whole other) bytes f is h = h

-- ---- the stages

same_board : (input : Input) (block : Block) (a b : Board) → (a.block ≡ block) × GivesContents input.catalogue a.contents → (b.block ≡ block) × GivesContents input.catalogue b.contents → a ≡ b
same_board input block a b h k =
    let blocks = h.0 ∙ sym k.0 in
    let contents = one_given_contents input.catalogue a.contents b.contents h.1 k.1 in
    λ i. record { block = blocks i; contents = contents i }

whole_bytes : (found : Found) (a b : List ℕ) → found ≡ Whole a → found ≡ Whole b → a ≡ b
whole_bytes found a b h k = let same : Whole a ≡ Whole b = sym h ∙ k in cc

one_next : (task : Task) (input : Input) (s t u : Stage) → Leads task input s t → Leads task input s u → t ≡ u
one_next task input Started (WithBlock a) (WithBlock b) h k = ap WithBlock (one_given_block (project_of task) input.entry a b h k)
one_next task input Started (WithBlock a) u h k = absurd k
one_next task input (WithBlock block) (WithBoard a) (WithBoard b) h k = ap WithBoard (same_board input block a b h k)
one_next task input (WithBlock block) (WithBoard a) u h k = absurd k
one_next (tasks.Check check) input (WithBoard board) (WithCertificate a x) (WithCertificate b y) h k =
    let boards = h.0 ∙ sym k.0 in
    let bytes = whole_bytes input.certificate x y h.1 k.1 in
    λ i. WithCertificate (boards i) (bytes i)
one_next (tasks.Check check) input (WithBoard board) (WithCertificate a x) u h k = absurd k
one_next task input s t u h k = absurd h

one_fault_of : (task : Task) (input : Input) (s : Stage) (f g : Fault) → Has task input s f → Has task input s g → f ≡ g
one_fault_of task input Started f g h k = one_entry_fault (project_of task) input.entry f g h k
one_fault_of task input (WithBlock block) f g h k = one_catalogue_fault input.catalogue f g h k
one_fault_of task input (WithBoard board) f g h k = one_certificate_fault task input.certificate f g h k
one_fault_of task input (WithCertificate board bytes) f g h k = absurd h

never_led_and_faulted : (task : Task) (input : Input) (s t : Stage) (f : Fault) → Leads task input s t → Has task input s f → ⊥
never_led_and_faulted task input Started (WithBlock block) f h k = gives_no_entry_fault (project_of task) input.entry block f h k
never_led_and_faulted task input (WithBlock block) (WithBoard board) f h k = contents_no_fault input.catalogue board.contents f h.1 k
never_led_and_faulted (tasks.Check check) input (WithBoard board) (WithCertificate same bytes) f h k = whole_no_fault (tasks.Check check) input.certificate bytes f h.1 k
never_led_and_faulted task input s t f h k = h

-- Each stage leads to one at most, has one fault at most, and never does both.
pub determined : (task : Task) (input : Input) → IsDetermined (Leads task input) (Has task input)
determined task input = record { one_next = one_next task input; one_fault = one_fault_of task input; never_both = never_led_and_faulted task input }

build_ends : (build : Build) (input : Input) (board : Board) (s : Stage) → Leads (tasks.Build build) input (WithBoard board) s → ⊥
build_ends build input board Started h = h
build_ends build input board (WithBlock block) h = h
build_ends build input board (WithBoard other) h = h
build_ends build input board (WithCertificate other bytes) h = h

check_ends : (check : Check) (input : Input) (board : Board) (bytes : List ℕ) (s : Stage) → Leads (tasks.Check check) input (WithCertificate board bytes) s → ⊥
check_ends check input board bytes Started h = h
check_ends check input board bytes (WithBlock block) h = h
check_ends check input board bytes (WithBoard other) h = h
check_ends check input board bytes (WithCertificate other more) h = h

-- the last stages: the board for a build, and the bytes of the certificate for a check
last_of_build : (build : Build) (input : Input) (board : Board) → IsLast (Leads (tasks.Build build) input) (Has (tasks.Build build) input) (WithBoard board)
last_of_build build input board = record { ends = build_ends build input board; sound = λ f h. h }

last_of_check : (check : Check) (input : Input) (board : Board) (bytes : List ℕ) → IsLast (Leads (tasks.Check check) input) (Has (tasks.Check check) input) (WithCertificate board bytes)
last_of_check check input board bytes = record { ends = check_ends check input board bytes; sound = λ f h. h }

-- At most one fault stands in an input.
pub stands_once : (task : Task) (input : Input) (f g : Fault) → Stands task input f → Stands task input g → f ≡ g
stands_once task input f g h k = one_fault_stands (Leads task input) (Has task input) (determined task input) Started f g h k

-- No fault stands in the input of a build that gives a board, and none in that of a check that gives a certificate.
pub build_no_fault : (build : Build) (input : Input) (board : Board) (f : Fault) → GivesBoard (tasks.Build build) input board → Stands (tasks.Build build) input f → ⊥
build_no_fault build input board f gives h =
    no_fault_stands (Leads (tasks.Build build) input) (Has (tasks.Build build) input) (determined (tasks.Build build) input) Started (WithBoard board) f (last_of_build build input board) gives h

pub check_no_fault : (check : Check) (input : Input) (board : Board) (bytes : List ℕ) (f : Fault) → GivesCertificate check input board bytes → Stands (tasks.Check check) input f → ⊥
check_no_fault check input board bytes f gives h =
    no_fault_stands (Leads (tasks.Check check) input) (Has (tasks.Check check) input) (determined (tasks.Check check) input) Started (WithCertificate board bytes) f (last_of_check check input board bytes) gives h

-- A build is given one board at most, and a check one board with the bytes of one certificate.
pub one_board : (build : Build) (input : Input) (a b : Board) → GivesBoard (tasks.Build build) input a → GivesBoard (tasks.Build build) input b → a ≡ b
one_board build input a b h k =
    let same : WithBoard a ≡ WithBoard b = one_last_stage (Leads (tasks.Build build) input) (Has (tasks.Build build) input) (determined (tasks.Build build) input) Started (WithBoard a) (WithBoard b)
    (last_of_build build input a) (last_of_build build input b) h k in
    cc

pub one_certificate : (check : Check) (input : Input) (a b : Board) (x y : List ℕ) → GivesCertificate check input a x → GivesCertificate check input b y → (a ≡ b) × (x ≡ y)
one_certificate check input a b x y h k =
    let same : WithCertificate a x ≡ WithCertificate b y =
    one_last_stage (Leads (tasks.Check check) input) (Has (tasks.Check check) input) (determined (tasks.Check check) input) Started (WithCertificate a x) (WithCertificate b y)
    (last_of_check check input a x) (last_of_check check input b y) h k in
    let boards : a ≡ b = cc in
    let bytes : x ≡ y = cc in
    (boards, bytes)

-- ---- what is given at a stage

-- The entry gives the block, the catalogue the contents, and the certificate's file its bytes.
abbrev pub IsGiven : Task → Input → Stage → Type 0
IsGiven task input Started = Unit {0}
IsGiven task input (WithBlock block) = GivesBlock (project_of task) input.entry block
IsGiven task input (WithBoard board) = GivesBlock (project_of task) input.entry board.block × GivesContents input.catalogue board.contents
IsGiven (tasks.Build build) input (WithCertificate board bytes) = ⊥
IsGiven (tasks.Check check) input (WithCertificate board bytes) =
    GivesBlock (checked_project check) input.entry board.block × GivesContents input.catalogue board.contents × (input.certificate ≡ Whole bytes)

given_next : (task : Task) (input : Input) (s t : Stage) → Leads task input s t → IsGiven task input s → IsGiven task input t
given_next task input Started (WithBlock block) h k = h
given_next task input (WithBlock block) (WithBoard board) h k = (subst (GivesBlock (project_of task) input.entry) (sym h.0) k, h.1)
given_next (tasks.Check check) input (WithBoard board) (WithCertificate same bytes) h k =
    subst (λ b. IsGiven (tasks.Check check) input (WithCertificate b bytes)) (sym h.0) (k.0, k.1, h.1)
given_next task input s t h k = absurd h

given_from : (task : Task) (input : Input) (s t : Stage) → Reaches (Leads task input) s t → IsGiven task input s → IsGiven task input t
given_from task input s t arrived k = k
given_from task input s t (onward {t = next} step rest) k = given_from task input next t rest (given_next task input s next step k)

-- A stage is reached where it is given, and only there.
pub given_at : (task : Task) (input : Input) (stage : Stage) → IsReached task input stage → IsGiven task input stage
given_at task input stage reached = given_from task input Started stage reached tt

pub reached_at : (task : Task) (input : Input) (stage : Stage) → IsGiven task input stage → IsReached task input stage
reached_at task input Started h = arrived
reached_at task input (WithBlock block) h = onward h arrived
reached_at task input (WithBoard board) h = onward {t = WithBlock board.block} h.0 (onward (refl, h.1) arrived)
reached_at (tasks.Build build) input (WithCertificate board bytes) h = absurd h
reached_at (tasks.Check check) input (WithCertificate board bytes) h =
    onward {t = WithBlock board.block} h.0 (onward {t = WithBoard board} (refl, h.1) (onward (refl, h.2) arrived))
