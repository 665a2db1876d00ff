-- A certificate that a build put is accepted.
use Rattle.std.proofs.Common.{◌≡◌, ℕ, ◌^◌, ◌<◌, ◌≤◌, ◌⊎◌, Bool, true, false, List, [], ◌∷◌, ◌++◌, length, map, subst, sym, ap, ◌∙◌, refl, inl, inr, arith}
use Rattle.ato_base.proofs.ClassLaws.{only, cases}
use Rattle.std.specs.Prelude.{Option, Some, None, IfSome, Ok, Err, if◌then◌else◌, codes}
use Rattle.std.specs.FinMap.{get}
use Rattle.std.specs.List.{Contains}
use Rattle.std.proofs.lemmas.Bool.{le-leb}
use Rattle.std.proofs.lemmas.List.{length-map}
use Rattle.ato_base.specs.declared.faults.Fault.{Fault}
use Rattle.ato_first_catalog.specs.Contents.{Contents, contents_in, first_fault, no_header, unless_fault}
use Rattle.ato_first_catalog.specs.Header.{is_header, layout_of}
use Rattle.ato_first_catalog.specs.Rows.{row_of}
use Rattle.ato_first_catalog.proofs.NoFaultLaws.{few-rows}
use Rattle.ato_cert.specs.Texts.{cert_text}
use Rattle.ato_cert.specs.declared.cert.Cert.{Cert}
use Rattle.ato_cert.proofs.WritableLaws.{valid_writable}
use Rattle.ato_first.specs.FirstParts.{Part, part_of}
use Rattle.ato_outside.specs.Files.{Files}
use Rattle.ato_words.specs.Words.{IsCheck}
use Rattle.ato_words.specs.declared.words.Check.{Check}
use Rattle.ato_words.specs.declared.words.Task.TheVariants as tasks
use Rattle.ato_build.specs.BuiltCertificates.{IsBuiltCertificate}
use Rattle.ato_build.specs.Causes.{EndsOutside}
use Rattle.ato_build.specs.Decisions.{IsDecision, net_output, cert_output}
use Rattle.ato_build.specs.Entry.{source_limit, GivesBlock}
use Rattle.ato_build.specs.Found.{Found, Missing, TooLong, Whole, found_of}
use Rattle.ato_build.specs.Headline.{Headline}
use Rattle.ato_build.specs.Boards.{Board, IsValidOn}
use Rattle.ato_build.specs.Input.{catalogue_limit, certificate_limit, GivesContents, certificate_of, input_of}
use Rattle.ato_build.specs.InputStages.{WithBoard, WithCertificate, GivesCertificate}
use Rattle.ato_build.specs.Problems.{IsValidFor}
use Rattle.ato_build.specs.Projects.{built_project, checked_project, options_of}
use Rattle.ato_build.specs.declared.outputs.Output.{Output}
use Rattle.ato_build.specs.declared.project.Options.{Options}
use Rattle.ato_build.specs.declared.status.Status.{Status}
use Rattle.ato_build.specs.declared.status.Status.TheVariants as answers
use Rattle.ato_build.proofs.CheckLemmas.{few_enough}
use Rattle.ato_build.proofs.HeadlineLaws.{accepted_where}
use Rattle.ato_build.proofs.InputLaws.{IsGiven, given_at, reached_at}
use Rattle.ato_build.proofs.OneProblemLaws.{small_problem}

-- a catalogue has at most 1,000 rows
few_rows_in : (records : List (List (List ℕ))) (contents : Contents) → contents_in records ≡ Ok contents → length contents.rows ≤ 1000
unfolding contents_in
few_rows_in [] contents h = let bad : ⊥ = cc in absurd bad
few_rows_in (header ∷ rows) contents h = by (is_header header) (first_fault (layout_of header) [] rows) refl refl h
  where
    by : (named : Bool) (found : Option Fault) → is_header header ≡ named → first_fault (layout_of header) [] rows ≡ found
        → (if named then unless_fault found (layout_of header) rows else Err no_header) ≡ Ok contents → length contents.rows ≤ 1000
    by true None e sound k =
        let same : record { columns = (layout_of header).attributes; rows = map (row_of (layout_of header)) rows } ≡ contents = cc in
        omega (arith, ap (λ (c : Contents). length c.rows) (sym same), length-map rows (row_of (layout_of header)), few-rows (layout_of header) [] rows (omega arith) sound)
    by true (Some found) e sound k = let bad : ⊥ = cc in absurd bad
    by false found e sound k = let bad : ⊥ = cc in absurd bad

few_rows : (catalogue : Found) (contents : Contents) → GivesContents catalogue contents → length contents.rows ≤ 1000
few_rows Missing contents h = absurd h
few_rows TooLong contents h = absurd h
few_rows (Whole bytes) contents h = few_rows_in _ contents h

-- the text of a certificate is within the limit
within_limit : (part : Option Part) (contents : Contents) (cert : Cert) → length contents.rows ≤ 1000 → IsValidFor part contents cert → length (cert_text cert) < 2 ^ 30
within_limit part contents cert few valid =
    let small = small_problem part contents valid.problem valid.is_problem few in
    (valid_writable valid.problem cert (few_enough valid.problem small.1) small.0 valid.valid).1

-- a file within a limit is whole
whole_found : (limit : ℕ) (held : Option (List ℕ)) (bytes : List ℕ) → held ≡ Some bytes → length bytes ≤ limit → found_of limit held ≡ Whole bytes
whole_found limit held bytes is le = ap (found_of limit) is ∙ rw (le-leb (length bytes) limit le) refl

-- two names with other endings differ
endings : (out : List ℕ) → out ++ codes ".net" ≡ out ++ codes ".cert" → ⊥
endings [] e = let bad : ⊥ = cc in bad
endings (b ∷ out) e = let rest : out ++ codes ".net" ≡ out ++ codes ".cert" = cc in endings out rest

-- what is put under the certificate's name
record IsPutCertificate (board : Board) (output : Output) : Type 0 where
  cert : Cert
  valid : IsValidOn board cert
  bytes : output.bytes ≡ cert_text cert

put_certificate : (options : Options) (board : Board) (status : Status) (outputs : List Output) (text : List ℕ) (output : Output) → IsDecision options board status outputs text
    → Contains outputs output → output.name ≡ options.out ++ codes ".cert" → IsPutCertificate board output
put_certificate options board answers.Built outputs text output (pick, d) h named =
    elim (cases (net_output options d.puts.list) output (cert_output options d.cert ∷ []) (subst (λ l. Contains l output) d.puts.outputs_are h)) [
      | inl net ↦ absurd (endings options.out (ap (λ (o : Output). o.name) (sym net) ∙ named))
      | inr more ↦ record { cert = d.cert; valid = d.certified.valid; bytes = ap (λ (o : Output). o.bytes) (only (cert_output options d.cert) output more) }
    ]
put_certificate options board answers.Refuted outputs text output d h named =
    record { cert = d.cert; valid = d.certified.valid; bytes = ap (λ (o : Output). o.bytes) (only (cert_output options d.cert) output (subst (λ l. Contains l output) d.puts.outputs_are h)) }
put_certificate options board status outputs text output d h named = absurd d

-- ---- the check of it

module _ (files : Files) (check : Check) (b : IsBuiltCertificate files check) where
  -- the files of the build's project are those of the check's
  same_entry : b.decides.input.entry ≡ found_of source_limit (get files check.file)
  same_entry = sym b.decides.read.entry ∙ ap (λ p. found_of source_limit (get b.before p.file)) b.project ∙ ap (found_of source_limit) b.entry

  same_catalogue : b.decides.input.catalogue ≡ found_of catalogue_limit (get files check.catalogue)
  same_catalogue = sym b.decides.read.catalogue ∙ ap (λ p. found_of catalogue_limit (get b.before p.catalogue)) b.project ∙ ap (found_of catalogue_limit) b.catalogue

  given : IsGiven (tasks.Build b.decides.build) b.decides.input (WithBoard b.decides.board)
  given = given_at (tasks.Build b.decides.build) b.decides.input (WithBoard b.decides.board) b.decides.gives

  block_given : GivesBlock (checked_project check) (found_of source_limit (get files check.file)) b.decides.board.block
  block_given = subst (λ p. GivesBlock p (found_of source_limit (get files check.file)) b.decides.board.block) b.project
      (subst (λ e. GivesBlock (built_project b.decides.build) e b.decides.board.block) same_entry given.0)

  contents_given : GivesContents (found_of catalogue_limit (get files check.catalogue)) b.decides.board.contents
  contents_given = subst (λ c. GivesContents c b.decides.board.contents) same_catalogue given.1

  put : IsPutCertificate b.decides.board b.output
  put = put_certificate (options_of b.decides.build) b.decides.board b.status b.outputs b.summary b.output b.decides.decision b.is_put b.named

  whole : certificate_of files (tasks.Check check) ≡ Whole (cert_text put.cert)
  whole =
      let long = within_limit (part_of b.decides.board.block.lines) b.decides.board.contents put.cert (few_rows b.decides.input.catalogue b.decides.board.contents given.1) put.valid in
      whole_found certificate_limit (get files check.cert) (cert_text put.cert) (b.certificate ∙ ap Some put.bytes) (omega (arith, long))

  gives_check : GivesCertificate check (input_of files (tasks.Check check)) b.decides.board (cert_text put.cert)
  gives_check = reached_at (tasks.Check check) (input_of files (tasks.Check check)) (WithCertificate b.decides.board (cert_text put.cert)) (block_given, contents_given, whole)

-- What a build put as its certificate a check of the same project accepts, unless memory or something outside fails.
pub built_accepted : (words : List (List ℕ)) (held old new : Option Files) (before now : Option (List ℕ)) (status : Status) → Headline words held old new before now status
    → IfSome held (λ files. (check : Check) → IsCheck words check → IsBuiltCertificate files check → (status ≡ answers.Accepted) ⊎ EndsOutside status)
built_accepted words None old new before now status h = tt
built_accepted words (Some files) old new before now status h = λ check job b.
    accepted_where words (Some files) old new before now status h check b.decides.board (put files check b).cert job (gives_check files check b) (put files check b).valid
